-- The reader over the text of a report, part by part.
use Prim.Native.Nat.{ℕ}
use mathlib.Core.Path.{◌≡◌, refl, sym, ap, ap₂, ◌∙◌}
use mathlib.Core.Bool.{true, false}
use mathlib.Core.List.{List, [], ◌∷◌, ◌++◌, map, append_assoc, append-nil}
use mathlib.Core.Option.{none, some}
use lib.Seq.{append_snoc}
use Rattle.logic.specs.Search.{◌and◌, ◌or◌, from, flat_map}
use Rattle.logic.specs.Shown.{size_in}
use Rattle.text.specs.Text.{decimal, is_digit}
use Rattle.drawing.specs.Text.{link_in, datum_in, booleans_in, opening, closing, comment_open, newline, label_open, label_close}
use Rattle.drawing.specs.Text.{arrow, line_end, slash, listed, terms_at, comment_line, node_line, arrow_line, text}
use Rattle.drawing.specs.Reader.{Read, read, at_mark, step, run}
use Rattle.drawing.proofs.Numbers.{run-append, number_read}

-- over one part, and on with the rest
run_then : (r s t : Read) (xs ys : List ℕ) → run r xs ≡ s → run s ys ≡ t → run r (xs ++ ys) ≡ t
run_then r s t xs ys e h = run-append r xs ys ∙ ap (λ (q : Read). run q ys) e ∙ h

-- A label's terms

module _ (ls : List (List ℕ)) (bs ks : List ℕ) (f : ℕ) where
  listed_more : (ts : List ℕ) (x : ℕ) (acc : List ℕ) → run (read (some x) acc ls bs ks f) (listed false ts ++ slash) ≡ read none ((acc ++ (x ∷ [])) ++ ts) ls bs ks f
  unfolding run step is_digit at_mark ◌and◌ ◌or◌ listed
  listed_more [] x acc = ap (λ (ts : List ℕ). read none ts ls bs ks f) (sym (append-nil (acc ++ (x ∷ []))))
  listed_more (t ∷ ts) x acc =
      let next : List ℕ = acc ++ (x ∷ []) in
      ap (run (read none next ls bs ks f)) (append_assoc (decimal t) (listed false ts) slash)
      ∙ run_then _ _ _ (decimal t) (listed false ts ++ slash) (number_read next ls bs ks f t) (listed_more ts t next)
      ∙ ap (λ (us : List ℕ). read none us ls bs ks f) (append_snoc next t ts)

  listed-read : (ts : List ℕ) → run (read none [] ls bs ks f) (listed true ts ++ slash) ≡ read none ts ls bs ks f
  unfolding run step is_digit at_mark ◌and◌ ◌or◌ listed
  listed-read [] = refl
  listed-read (t ∷ ts) =
      ap (run (read none [] ls bs ks f)) (append_assoc (decimal t) (listed false ts) slash)
      ∙ run_then _ _ _ (decimal t) (listed false ts ++ slash) (number_read [] ls bs ks f t) (listed_more ts t [])

  -- The fixed parts behind a number

  label_begins : (v : ℕ) → run (read (some v) [] ls bs ks f) label_open ≡ read none [] ls bs ks f
  unfolding run step is_digit at_mark ◌and◌ ◌or◌
  label_begins v = refl

  label_ends : (ts : List ℕ) (d : ℕ) → run (read (some d) ts ls bs ks f) label_close ≡ read none [] (ls ++ (ts ∷ [])) (bs ++ (d ∷ [])) ks f
  unfolding run step is_digit at_mark ◌and◌ ◌or◌
  label_ends ts d = refl

  arrow_begins : (v : ℕ) → run (read (some v) [] ls bs ks f) arrow ≡ read none (v ∷ []) ls bs ks f
  unfolding run step is_digit at_mark ◌and◌ ◌or◌
  arrow_begins v = refl

  arrow-ends : (ts : List ℕ) (w : ℕ) → run (read (some w) ts ls bs ks f) line_end ≡ read none [] ls bs (ks ++ (w ∷ [])) f
  unfolding run step is_digit at_mark ◌and◌ ◌or◌
  arrow-ends ts w = refl

  closing-read : run (read none [] ls bs ks f) closing ≡ read none [] ls bs ks f
  unfolding run step is_digit at_mark ◌and◌ ◌or◌
  closing-read = refl

opening-read : run (read none [] [] [] [] 0) opening ≡ read none [] [] [] [] 0
unfolding run step is_digit at_mark ◌and◌ ◌or◌
opening-read = refl

comment_begins : run (read none [] [] [] [] 0) comment_open ≡ read none [] [] [] [] 0
unfolding run step is_digit at_mark ◌and◌ ◌or◌
comment_begins = refl

comment_ends : (b : ℕ) → run (read (some b) [] [] [] [] 0) newline ≡ read none [] [] [] [] b
unfolding run step is_digit at_mark ◌and◌ ◌or◌
comment_ends b = refl

module _ (bytes : List ℕ) where
  -- A line, and the lines

  comment_read : run (read none [] [] [] [] 0) (comment_line bytes) ≡ read none [] [] [] [] (booleans_in bytes)
  unfolding comment_line
  comment_read =
      run_then _ _ _ comment_open (decimal (booleans_in bytes) ++ newline) comment_begins
      (run_then _ _ _ (decimal (booleans_in bytes)) newline (number_read [] [] [] [] 0 (booleans_in bytes)) (comment_ends (booleans_in bytes)))

  module _ (ls : List (List ℕ)) (bs ks : List ℕ) (f v : ℕ) where
    node-read : run (read none [] ls bs ks f) (node_line bytes v) ≡ read none [] (ls ++ (terms_at bytes v ∷ [])) (bs ++ (datum_in bytes v ∷ [])) ks f
    unfolding node_line
    node-read =
        let ts : List ℕ = terms_at bytes v in
        let datum : List ℕ = decimal (datum_in bytes v) ++ label_close in
        run_then _ _ _ (decimal v) (label_open ++ (listed true ts ++ (slash ++ datum))) (number_read [] ls bs ks f v)
        (run_then _ _ _ label_open (listed true ts ++ (slash ++ datum)) (label_begins ls bs ks f v)
        (ap (run (read none [] ls bs ks f)) (sym (append_assoc (listed true ts) slash datum))
        ∙ run_then _ _ _ (listed true ts ++ slash) datum (listed-read ls bs ks f ts)
        (run_then _ _ _ (decimal (datum_in bytes v)) label_close (number_read ts ls bs ks f (datum_in bytes v)) (label_ends ls bs ks f ts (datum_in bytes v)))))

    arrow-read : run (read none [] ls bs ks f) (arrow_line bytes v) ≡ read none [] ls bs (ks ++ (link_in bytes v ∷ [])) f
    unfolding arrow_line
    arrow-read =
        run_then _ _ _ (decimal v) (arrow ++ (decimal (link_in bytes v) ++ line_end)) (number_read [] ls bs ks f v)
        (run_then _ _ _ arrow (decimal (link_in bytes v) ++ line_end) (arrow_begins ls bs ks f v)
        (run_then _ _ _ (decimal (link_in bytes v)) line_end (number_read (v ∷ []) ls bs ks f (link_in bytes v)) (arrow-ends ls bs ks f (v ∷ []) (link_in bytes v))))

  nodes_read : (vs : List ℕ) (ls : List (List ℕ)) (bs ks : List ℕ) (f : ℕ) →
      run (read none [] ls bs ks f) (flat_map (node_line bytes) vs) ≡ read none [] (ls ++ map (terms_at bytes) vs) (bs ++ map (datum_in bytes) vs) ks f
  unfolding flat_map run
  nodes_read [] ls bs ks f = ap₂ (λ (xs : List (List ℕ)) (ys : List ℕ). read none [] xs ys ks f) (sym (append-nil ls)) (sym (append-nil bs))
  nodes_read (v ∷ vs) ls bs ks f =
      run_then _ _ _ (node_line bytes v) (flat_map (node_line bytes) vs) (node-read ls bs ks f v)
      (nodes_read vs (ls ++ (terms_at bytes v ∷ [])) (bs ++ (datum_in bytes v ∷ [])) ks f)
      ∙ ap₂ (λ (xs : List (List ℕ)) (ys : List ℕ). read none [] xs ys ks f) (append_snoc ls (terms_at bytes v) (map (terms_at bytes) vs)) (append_snoc bs (datum_in bytes v) (map (datum_in bytes) vs))

  arrows_read : (vs : List ℕ) (ls : List (List ℕ)) (bs ks : List ℕ) (f : ℕ) → run (read none [] ls bs ks f) (flat_map (arrow_line bytes) vs) ≡ read none [] ls bs (ks ++ map (link_in bytes) vs) f
  unfolding flat_map run
  arrows_read [] ls bs ks f = ap (λ (xs : List ℕ). read none [] ls bs xs f) (sym (append-nil ks))
  arrows_read (v ∷ vs) ls bs ks f =
      run_then _ _ _ (arrow_line bytes v) (flat_map (arrow_line bytes) vs) (arrow-read ls bs ks f v)
      (arrows_read vs ls bs (ks ++ (link_in bytes v ∷ [])) f)
      ∙ ap (λ (xs : List ℕ). read none [] ls bs xs f) (append_snoc ks (link_in bytes v) (map (link_in bytes) vs))

  -- the whole text
  pub text-read : run (read none [] [] [] [] 0) (text bytes) ≡ read none [] (map (terms_at bytes) (from (size_in bytes) 1))
      (map (datum_in bytes) (from (size_in bytes) 1)) (map (link_in bytes) (from (size_in bytes) 1)) (booleans_in bytes)
  unfolding text
  text-read =
      let vs : List ℕ = from (size_in bytes) 1 in
      let f : ℕ = booleans_in bytes in
      let ends : List ℕ = flat_map (arrow_line bytes) vs ++ closing in
      let lines : List ℕ = flat_map (node_line bytes) vs ++ ends in
      run_then _ _ _ opening (comment_line bytes ++ lines) opening-read
      (run_then _ _ _ (comment_line bytes) lines comment_read
      (run_then _ _ _ (flat_map (node_line bytes) vs) ends (nodes_read vs [] [] [] f)
      (run_then _ _ _ (flat_map (arrow_line bytes) vs) closing (arrows_read vs _ _ [] f) (closing-read _ _ _ f))))
