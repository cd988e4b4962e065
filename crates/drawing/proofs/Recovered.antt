-- The reader gives a report back, so that the text determines it.
use Prim.Native.Nat.{ℕ, zero, suc, ◌+◌, ◌-◌, ◌≤◌, ◌<◌}
use native.Mathlib.Omega.{arith}
use mathlib.Core.Path.{◌≡◌, refl, sym, ap, ap₂, ◌∙◌, fun_ext}
use mathlib.Core.Logic.{⊎_elim}
use mathlib.Core.Bool.{true}
use mathlib.Core.List.{List, [], ◌∷◌, ◌++◌, map, Memᴰ}
use lib.ListN.{length, get_or, take, drop, replicate, length-map}
use mathlib.Core.Option.{none}
use lib.Seq.{drop-cons}
use lib.Dec.{eqb}
use borrow.Author.Tests.{eq-eqb, eqb-true}
use Rattle.logic.specs.Search.{from, any, flat_map}
use Rattle.logic.specs.Shown.{size_in, node_in, well_formed}
use Rattle.theory.proofs.Basics.Search.{bool_cases, not_of, true-false, any-true, any_intro, select-mem, select_intro, from-mem, from_intro}
use Rattle.theory.proofs.Basics.Compare.{eq_cases}
use Rattle.theory.proofs.Completeness.Placed.{length_from}
use Rattle.theory.proofs.Basics.Count.{get_d_behind}
use Rattle.drawing.specs.Text.{count_in, link_in, datum_in, booleans_in, report_size, comment_line, node_line, arrow_line, terms_at, text}
use Rattle.drawing.specs.Reader.{read, label_of, report_of, report_in}
use Rattle.drawing.specs.Claims.{unpadded}
use Rattle.drawing.proofs.Sums.{total, total_one, total_same, partition, length_flat, flat_map_lem}
use Rattle.drawing.proofs.Scanned.{text-read}
use Rattle.drawing.proofs.Formed.{Formed, formed, zeros_past}

-- Numbers from i on, and others from j on, under f and g

map_shift : (f g : ℕ → ℕ) (k i j : ℕ) → ((x : ℕ) → x < k → f (i + x) ≡ g (j + x)) → map f (from k i) ≡ map g (from k j)
unfolding from
map_shift f g zero i j h = refl
map_shift f g (suc k) i j h =
    ap₂ (λ (x : ℕ) (xs : List ℕ). x ∷ xs)
    (ap f (none i) ∙ h 0 (omega arith) ∙ ap g (sym (none j)))
    (map_shift f g k (suc i) (suc j) (λ x l. ap f (next i x) ∙ h (suc x) (omega arith) ∙ ap g (sym (next j x))))
  where
    none : (a : ℕ) → a ≡ a + 0
    none a = omega arith

    next : (a x : ℕ) → suc a + x ≡ a + suc x
    next a x = omega arith

map_split : (f : ℕ → ℕ) (a b i : ℕ) → map f (from (a + b) i) ≡ map f (from a i) ++ map f (from b (i + a))
unfolding from
map_split f zero b i = ap₂ (λ (k j : ℕ). map f (from k j)) (left) (right)
  where
    left : 0 + b ≡ b
    left = omega arith

    right : i ≡ i + 0
    right = omega arith
map_split f (suc a) b i = ap (λ (k : ℕ). map f (from k i)) (left) ∙ ap (λ (xs : List ℕ). f i ∷ xs) (map_split f a b (suc i))
    ∙ ap (λ (j : ℕ). (f i ∷ map f (from a (suc i))) ++ map f (from b j)) (right)
  where
    left : suc a + b ≡ suc (a + b)
    left = omega arith

    right : suc i + a ≡ i + suc a
    right = omega arith

-- The bytes of a report by their places

take_part : (bytes : List ℕ) (k i : ℕ) → i + k ≤ length bytes → take k (drop i bytes) ≡ map (λ j. get_or bytes j 0) (from k i)
unfolding from
take_part bytes zero i h = refl
take_part bytes (suc k) i h =
    let l : i < length bytes = omega arith in
    rw (drop-cons bytes i 0 l) (ap (λ (xs : List ℕ). get_or bytes i 0 ∷ xs) (take_part bytes k (suc i) (omega arith)))

module _ (bytes : List ℕ) (f : Formed bytes) where
  abbrev byte : ℕ → ℕ
  byte i = get_or bytes i 0

  -- "each section after its count"
  abbrev in_sections : List ℕ
  in_sections =
      (size_in bytes ∷ map (link_in bytes) (from (size_in bytes) 1))
      ++ ((count_in bytes ∷ map (node_in bytes) (from (count_in bytes) 1))
      ++ ((size_in bytes ∷ map (datum_in bytes) (from (size_in bytes) 1)) ++ (1 ∷ booleans_in bytes ∷ [])))

  first_section : map byte (from (suc (size_in bytes)) 0) ≡ size_in bytes ∷ map (link_in bytes) (from (size_in bytes) 1)
  unfolding from size_in link_in
  first_section = refl

  second_section : map byte (from (suc (count_in bytes)) (suc (size_in bytes))) ≡ count_in bytes ∷ map (node_in bytes) (from (count_in bytes) 1)
  unfolding from count_in node_in
  second_section =
      let m : ℕ = size_in bytes in
      ap₂ (λ (x : ℕ) (xs : List ℕ). x ∷ xs) (ap byte (at)) (map_shift byte (node_in bytes) (count_in bytes) (suc (suc m)) 1 (λ x h. ap byte (behind x)))
    where
      at : suc (size_in bytes) ≡ size_in bytes + 1
      at = omega arith

      behind : (x : ℕ) → suc (suc (size_in bytes)) + x ≡ size_in bytes + 1 + (1 + x)
      behind x = omega arith

  third_section : map byte (from (suc (size_in bytes)) (suc (size_in bytes) + suc (count_in bytes))) ≡ size_in bytes ∷ map (datum_in bytes) (from (size_in bytes) 1)
  unfolding from datum_in
  third_section =
      let m : ℕ = size_in bytes in
      let n : ℕ = count_in bytes in
      ap₂ (λ (x : ℕ) (xs : List ℕ). x ∷ xs) (ap byte (at) ∙ f.third) (map_shift byte (datum_in bytes) m (suc (suc m + suc n)) 1 (λ x h. ap byte (behind x)))
    where
      at : suc (size_in bytes) + suc (count_in bytes) ≡ size_in bytes + count_in bytes + 2
      at = omega arith

      behind : (x : ℕ) → suc (suc (size_in bytes) + suc (count_in bytes)) + x ≡ size_in bytes + count_in bytes + 2 + (1 + x)
      behind x = omega arith

  fourth_section : map byte (from 2 (suc (size_in bytes) + suc (count_in bytes) + suc (size_in bytes))) ≡ 1 ∷ booleans_in bytes ∷ []
  unfolding from booleans_in
  fourth_section = ap₂ (λ (x y : ℕ). x ∷ y ∷ []) (ap byte (at) ∙ f.fourth) (ap byte (behind))
    where
      at : suc (size_in bytes) + suc (count_in bytes) + suc (size_in bytes) ≡ size_in bytes + count_in bytes + size_in bytes + 3
      at = omega arith

      behind : suc (suc (size_in bytes) + suc (count_in bytes) + suc (size_in bytes)) ≡ size_in bytes + count_in bytes + size_in bytes + 4
      behind = omega arith

  in_sections_lem : unpadded bytes ≡ in_sections
  unfolding report_size
  in_sections_lem =
      let a : ℕ = suc (size_in bytes) in
      let b : ℕ = suc (count_in bytes) in
      take_part bytes (report_size bytes) 0 (omega (arith, f.whole))
      ∙ ap (λ (k : ℕ). map byte (from k 0)) (sizes)
      ∙ map_split byte a (b + (a + 2)) 0
      ∙ ap₂ ◌++◌ first_section
      (ap (λ (i : ℕ). map byte (from (b + (a + 2)) i)) (none)
      ∙ map_split byte b (a + 2) a
      ∙ ap₂ ◌++◌ second_section
      (map_split byte a 2 (a + b)
      ∙ ap₂ ◌++◌ third_section fourth_section))
    where
      sizes : report_size bytes ≡ suc (size_in bytes) + (suc (count_in bytes) + (suc (size_in bytes) + 2))
      sizes = omega arith

      none : 0 + suc (size_in bytes) ≡ suc (size_in bytes)
      none = omega arith

  -- A term stands in the label of its node

  module _ (t : ℕ) (least : 1 ≤ t) (most : t ≤ count_in bytes) where
    in_label : (v : ℕ) → any (eqb t) (terms_at bytes v) ≡ eqb (node_in bytes t) v
    unfolding terms_at
    in_label v = ⊎_elim there (λ e. not_of (λ h. true-false (found (any-true (eqb t) (terms_at bytes v) h)) e) ∙ sym e) (bool_cases (eqb (node_in bytes t) v))
      where
        there : eqb (node_in bytes t) v ≡ true → any (eqb t) (terms_at bytes v) ≡ eqb (node_in bytes t) v
        there e = any_intro (eqb t) t (select_intro (λ u. eqb (node_in bytes u) v) t (from_intro (count_in bytes) 1 t least (omega arith)) e) (eq-eqb t t refl) ∙ sym e

        found : (x : ℕ) × Memᴰ x (terms_at bytes v) × (eqb t x ≡ true) → eqb (node_in bytes t) v ≡ true
        found r = ap (λ (u : ℕ). eqb (node_in bytes u) v) (eqb-true t r.0 r.2) ∙ (select-mem (λ u. eqb (node_in bytes u) v) r.0 (from (count_in bytes) 1) r.1).1

    label_found : (k i : ℕ) → i ≤ node_in bytes t → node_in bytes t < i + k → label_of (map (terms_at bytes) (from k i)) t ≡ suc (node_in bytes t - i)
    unfolding from label_of
    label_found zero i l h = absurd (omega arith)
    label_found (suc k) i l h =
        ⊎_elim
        (λ e. rw (in_label i ∙ eq-eqb (node_in bytes t) i e) (ap suc (here e)))
        (λ d. rw (in_label i ∙ d.1) (ap suc (label_found k (suc i) (later d.0) (omega arith) ∙ further d.0)))
        (eq_cases (node_in bytes t) i)
      where
        here : node_in bytes t ≡ i → 0 ≡ node_in bytes t - i
        here e = omega arith

        later : (node_in bytes t ≡ i → ⊥) → suc i ≤ node_in bytes t
        later d = omega arith

        further : (node_in bytes t ≡ i → ⊥) → suc (node_in bytes t - suc i) ≡ node_in bytes t - i
        further d = omega arith

    label-node : label_of (map (terms_at bytes) (from (size_in bytes) 1)) t ≡ node_in bytes t
    label-node = let k = f.term_node t least most in label_found (size_in bytes) 1 k.0 (omega arith) ∙ omega arith

  -- and in no other, so that the labels have n terms
  label_count : length (flat_map (λ ts. ts) (map (terms_at bytes) (from (size_in bytes) 1))) ≡ count_in bytes
  unfolding terms_at
  label_count =
      let n : ℕ = count_in bytes in
      let vs : List ℕ = from (size_in bytes) 1 in
      ap length (flat_map_lem (terms_at bytes) vs)
      ∙ length_flat (terms_at bytes) vs
      ∙ total_same (λ v. length (terms_at bytes v)) (λ v. total (λ t. 1) (terms_at bytes v)) vs (λ v. sym (total_one (terms_at bytes v)))
      ∙ partition (λ t. 1) (node_in bytes) (size_in bytes) (from n 1) (λ t m. let k = from-mem n 1 t m in f.term_node t k.0 (omega arith))
      ∙ total_one (from n 1)
      ∙ length_from n 1

  report_read : report_of (read none [] (map (terms_at bytes) (from (size_in bytes) 1)) (map (datum_in bytes) (from (size_in bytes) 1))
      (map (link_in bytes) (from (size_in bytes) 1)) (booleans_in bytes)) ≡ in_sections
  unfolding report_of
  report_read =
      let m : ℕ = size_in bytes in
      let n : ℕ = count_in bytes in
      let labels : List (List ℕ) = map (terms_at bytes) (from m 1) in
      ap₂ ◌++◌ (counted (link_in bytes))
      (ap₂ ◌++◌
      (ap (λ (k : ℕ). k ∷ map (label_of labels) (from k 1)) label_count
      ∙ ap (λ (xs : List ℕ). n ∷ xs) (map_shift (label_of labels) (node_in bytes) n 1 1 (λ x h. label-node (1 + x) (omega arith) (omega arith))))
      (ap (λ (xs : List ℕ). xs ++ (1 ∷ booleans_in bytes ∷ [])) (counted (datum_in bytes))))
    where
      counted : (g : ℕ → ℕ) → length (map g (from (size_in bytes) 1)) ∷ map g (from (size_in bytes) 1) ≡ size_in bytes ∷ map g (from (size_in bytes) 1)
      counted g = ap (λ (k : ℕ). k ∷ map g (from (size_in bytes) 1)) (length-map (from (size_in bytes) 1) g ∙ length_from (size_in bytes) 1)

pub text_gives_report : (a : List ℕ) → well_formed 1 a ≡ true → report_in (text a) ≡ unpadded a
unfolding report_in
text_gives_report a r =
    let f = formed a r in
    ap report_of (text-read a) ∙ report_read a f ∙ sym (in_sections_lem a f)

pub report_of_text : (a b : List ℕ) → well_formed 1 a ≡ true → well_formed 1 b ≡ true → text a ≡ text b → unpadded a ≡ unpadded b
report_of_text a b r s e = sym (text_gives_report a r) ∙ ap report_in e ∙ text_gives_report b s

-- Zeros behind a report

flat_same : (g h : ℕ → List ℕ) → ((v : ℕ) → g v ≡ h v) → (vs : List ℕ) → flat_map g vs ≡ flat_map h vs
flat_same g h e vs = ap (λ (u : ℕ → List ℕ). flat_map u vs) (fun_ext e)

module _ (bytes : List ℕ) (k : ℕ) where
  node_unseen : (v : ℕ) → node_line (bytes ++ replicate k 0) v ≡ node_line bytes v
  unfolding node_line terms_at count_in datum_in size_in node_in
  node_unseen v = simp (get_d_behind bytes k)

  arrow_unseen : (v : ℕ) → arrow_line (bytes ++ replicate k 0) v ≡ arrow_line bytes v
  unfolding arrow_line link_in
  arrow_unseen v = simp (get_d_behind bytes k)

  pub zeros_unseen : text (bytes ++ replicate k 0) ≡ text bytes
  unfolding text comment_line booleans_in count_in size_in
  zeros_unseen = simp (get_d_behind bytes k, flat_same (node_line (bytes ++ replicate k 0)) (node_line bytes) node_unseen, flat_same (arrow_line (bytes ++ replicate k 0)) (arrow_line bytes) arrow_unseen)

pub text_of_report : (a b : List ℕ) → well_formed 1 a ≡ true → well_formed 1 b ≡ true → unpadded a ≡ unpadded b → text a ≡ text b
text_of_report a b r s e = alone a r ∙ ap text e ∙ sym (alone b s)
  where
    alone : (c : List ℕ) → well_formed 1 c ≡ true → text c ≡ text (unpadded c)
    alone c q = ap text (zeros_past c (formed c q)) ∙ zeros_unseen (unpadded c) (length c - report_size c)
