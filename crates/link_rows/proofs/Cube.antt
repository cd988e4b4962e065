-- Rows of all links read and written. Callers use these laws and know nothing of places.
use Prim.Native.Nat.{ℕ, suc, ◌+◌, ◌-◌, ◌*◌, ◌≤◌, ◌<◌}
use native.Mathlib.Omega.{arith}
use mathlib.Core.Path.{◌≡◌, refl, sym, ap, ◌∙◌, fun_ext}
use mathlib.Core.Logic.{⊎_elim}
use mathlib.Core.Bool.{Bool, true, false, cond}
use mathlib.Core.List.{List, [], ◌∷◌, ◌++◌}
use lib.ListN.{length, get_or, set, take, drop, replicate, length-drop, get_or-append}
use lib.Seq.{get_or-set_same, get_or-set_other, get_or-take, get_or-drop, get_or-append-add, length-take-le}
use lib.Arith.{lt_of_le-ne}
use lib.Bits.{bit_or, bit_and}
use lib.Dec.{ltb, eqb}
use borrow.Author.Tests.{lt-ltb, le-ltb, eqb-true, eqb-false, eq-eqb, ltb-true}
use borrow.Rule.Slice.PartMut.{put_mid, post_of, take_put, drop_put, same_len_mid}
use Rattle.logic.specs.Search.{◌and◌, ◌or◌, any}
use Rattle.logic.specs.Facts.{became, replace_in}
use Rattle.theory.proofs.Basics.Search.{and-false}
use Rattle.theory.proofs.Basics.Compare.{eq_cases, le_cases}
use Rattle.theory.proofs.Basics.Count.{get_d_zeros}
use Rattle.rows.specs.Bits.{bit}
use Rattle.rows.specs.Square.{row_of, square}
use Rattle.rows.proofs.Bits.{bit-and}
use Rattle.rows.proofs.Fill.{Filled}
use Rattle.rows.proofs.Square.{row_or, row_only, row_none, row_in, row_beyond, square_row, square_above}
use Rattle.link_rows.specs.Cube.{cube}

module _ (rows : List ℕ) where
  pub cube_row : (k a : ℕ) → 0 < k → a ≤ 16 → cube rows k a ≡ row_of (get_or rows (17 * (k - 1) + a) 0)
  unfolding cube ◌and◌
  cube_row k a h l = fun_ext (λ b. rw (lt-ltb 0 k h, lt-ltb a 17 (omega arith)))

  pub cube_above : (k a b : ℕ) → 17 ≤ a → cube rows k a b ≡ false
  unfolding cube ◌and◌
  cube_above k a b h = rw (le-ltb a 17 h) (go (ltb 0 k))
    where
      go : (t : Bool) → (t and false) and row_of (get_or rows (17 * (k - 1) + a) 0) b ≡ false
      go true = refl
      go false = refl

  pub cube_beside : (k a b : ℕ) → 17 ≤ b → cube rows k a b ≡ false
  unfolding cube ◌and◌
  cube_beside k a b h = rw (row_beyond (get_or rows (17 * (k - 1) + a) 0) b h) (go (ltb 0 k) (ltb a 17))
    where
      go : (t u : Bool) → (t and u) and false ≡ false
      go true true = refl
      go true false = refl
      go false u = refl

  -- the bit at a place
  pub held_at : (k a b : ℕ) → 0 < k → a ≤ 16 → b ≤ 16 → (from : ℕ) → from ≡ 17 * (k - 1) → bit (get_or rows (from + a) 0) b ≡ cube rows k a b
  held_at k a b h l m from e =
      ap (λ (i : ℕ). bit (get_or rows (i + a) 0) b) e ∙ sym (row_in (get_or rows (17 * (k - 1) + a) 0) b m) ∙ sym (ap (λ (p : ℕ → Bool). p b) (cube_row k a h l))

  -- no link has the number 0
  pub cube-none : (k a b : ℕ) → k ≤ 0 → cube rows k a b ≡ false
  unfolding cube ◌and◌
  cube-none k a b h = rw (le-ltb 0 k h)

-- empty rows hold nothing
pub nothing_linked : (n k a b : ℕ) → cube (replicate n 0) k a b ≡ false
unfolding cube
nothing_linked n k a b = rw (get_d_zeros n (17 * (k - 1) + a), row_none b) (and-false (ltb 0 k and ltb a 17))

-- rows that agree in their places agree in a row of a link
pub same_row : (rows later : List ℕ) (j x : ℕ) → (0 < j → x ≤ 16 → get_or later (17 * (j - 1) + x) 0 ≡ get_or rows (17 * (j - 1) + x) 0) → cube later j x ≡ cube rows j x
same_row rows later j x e =
    ⊎_elim (λ h. fun_ext (λ b. cube-none later j x b h ∙ sym (cube-none rows j x b h)))
    (λ h. ⊎_elim (λ l. fun_ext (λ b. cube_above later j x b l ∙ sym (cube_above rows j x b l)))
    (λ l. cube_row later j x h (omega arith) ∙ ap row_of (e h (omega arith)) ∙ sym (cube_row rows j x h (omega arith))) (le_cases 17 x))
    (le_cases j 0)

-- where a row is written, the relation of its link is changed there alone
module _ (rows : List ℕ) (k a w : ℕ) (h : 0 < k) (l : a ≤ 16) where
  pub set_same : length rows ≡ 51 → k ≤ 3 → cube (set rows (17 * (k - 1) + a) w) k a ≡ row_of w
  set_same full m = cube_row (set rows (17 * (k - 1) + a) w) k a h l ∙ ap row_of (get_or-set_same rows (17 * (k - 1) + a) w 0 (omega arith))

  pub set_row : (j x : ℕ) → (j ≡ k → x ≡ a → ⊥) → cube (set rows (17 * (k - 1) + a) w) j x ≡ cube rows j x
  set_row j x d = same_row rows _ j x (λ i m. get_or-set_other rows (17 * (k - 1) + a) (17 * (j - 1) + x) w 0 (λ e. d (omega arith) (omega arith)))

-- a bit is added to a row of a link
pub cube-add : (rows : List ℕ) → length rows ≡ 51 → (k a b w : ℕ) → 0 < k → k ≤ 3 → a ≤ 16 → b ≤ 16 → ((i : ℕ) → bit w i ≡ eqb i b) →
    cube (set rows (17 * (k - 1) + a) (bit_or (get_or rows (17 * (k - 1) + a) 0) w)) ≡ (λ j x y. cube rows j x y or (eqb j k and eqb x a and eqb y b))
unfolding ◌and◌ ◌or◌
cube-add rows full k a b w h l m n e = fun_ext (λ j. fun_ext (λ x. fun_ext (λ y. go j x y (eqb j k) refl (eqb x a) refl)))
  where
    new : ℕ
    new = bit_or (get_or rows (17 * (k - 1) + a) 0) w

    none : (t : Bool) → t ≡ t or false
    none true = refl
    none false = refl

    go : (j x y : ℕ) (s : Bool) → eqb j k ≡ s → (t : Bool) → eqb x a ≡ t → cube (set rows (17 * (k - 1) + a) new) j x y ≡ cube rows j x y or (s and t and eqb y b)
    go j x y true f true g =
        rw (eqb-true j k f, eqb-true x a g)
        (ap (λ (p : ℕ → Bool). p y) (set_same rows k a new h m full l) ∙ row_or (get_or rows (17 * (k - 1) + a) 0) w y ∙ rw (row_only w b n e y, cube_row rows k a h m))
    go j x y true f false g = ap (λ (p : ℕ → Bool). p y) (set_row rows k a new h m j x (λ i o. eqb-false x a g o)) ∙ none (cube rows j x y)
    go j x y false f t g = ap (λ (p : ℕ → Bool). p y) (set_row rows k a new h m j x (λ i o. eqb-false j k f i)) ∙ none (cube rows j x y)

pub cube_added : (rows : List ℕ) → length rows ≡ 51 → (k a b w : ℕ) → 0 < k → k ≤ 3 → a ≤ 16 → b ≤ 16 → (from : ℕ) → from ≡ 17 * (k - 1) →
    ((i : ℕ) → bit w i ≡ eqb i b) → cube (set rows (from + a) (bit_or (get_or rows (from + a) 0) w)) ≡ (λ j x y. cube rows j x y or (eqb j k and eqb x a and eqb y b))
cube_added rows full k a b w h l m n from e f = ap (λ (i : ℕ). cube (set rows (i + a) (bit_or (get_or rows (i + a) 0) w))) e ∙ cube-add rows full k a b w h l m n f

-- a row of a link, cut to the terms
pub successors_at : (rows : List ℕ) (n k t : ℕ) → 0 < k → t ≤ 16 → n ≤ 16 → (from : ℕ) → from ≡ 17 * (k - 1) → (among : ℕ) →
    ((i : ℕ) → bit among i ≡ ltb 0 i and ltb i (n + 1)) → (i : ℕ) → bit (bit_and (get_or rows (from + t) 0) among) i ≡ cube rows k t i and (ltb 0 i and ltb i (n + 1))
unfolding ◌and◌
successors_at rows n k t h l m from e among f i = bit-and (get_or rows (from + t) 0) among i ∙ rw (f i) (go (ltb i (n + 1)) refl)
  where
    no : (s u : Bool) → s and (u and false) ≡ false
    no true true = refl
    no true false = refl
    no false u = refl

    go : (s : Bool) → ltb i (n + 1) ≡ s → bit (get_or rows (from + t) 0) i and (ltb 0 i and s) ≡ cube rows k t i and (ltb 0 i and s)
    go true g = let below = ltb-true i (n + 1) g in ap (λ (s : Bool). s and (ltb 0 i and true)) (held_at rows k t i h l (omega (arith, below)) from e)
    go false g = no (bit (get_or rows (from + t) 0) i) (ltb 0 i) ∙ sym (no (cube rows k t i) (ltb 0 i))

-- The rows of a link as a part of all
module _ (rows : List ℕ) (k : ℕ) (h : 0 < k) where
  pub part_square : (from : ℕ) → from ≡ 17 * (k - 1) → square (take (from + 17 - from) (drop from rows)) ≡ cube rows k
  part_square from e =
      fun_ext
      (λ a.
      ⊎_elim (λ l. fun_ext (λ b. square_above _ a b l ∙ sym (cube_above rows k a b l)))
      (λ l. square_row _ a (omega arith)
      ∙ ap row_of (get_or-take (from + 17 - from) (drop from rows) a 0 (omega arith) ∙ get_or-drop from rows a 0 ∙ ap (λ (i : ℕ). get_or rows (i + a) 0) e)
      ∙ sym (cube_row rows k a h (omega arith)))
      (le_cases 17 a))

  module _ (l : k ≤ 3) (full : length rows ≡ 51) (own : List ℕ) (long : length own ≡ 17) (from : ℕ) (e : from ≡ 17 * (k - 1)) where
    abbrev whole : List ℕ
    whole = put_mid from (from + 17 - from) rows own

    before : (i : ℕ) → i < from → get_or whole i 0 ≡ get_or rows i 0
    before i m = sym (get_or-take from whole i 0 m) ∙ ap (λ (xs : List ℕ). get_or xs i 0) (take_put from (from + 17 - from) rows own (omega arith)) ∙ get_or-take from rows i 0 m

    within : (a : ℕ) → a ≤ 16 → get_or whole (from + a) 0 ≡ get_or own a 0
    within a m =
        ap (λ (n : ℕ). get_or whole (n + a) 0) (sym (length-take-le from rows (omega arith)))
        ∙ get_or-append-add (take from rows) (own ++ post_of from (from + 17 - from) rows) a 0
        ∙ get_or-append own (post_of from (from + 17 - from) rows) 0 a (omega arith)

    behind : (i : ℕ) → from + 17 ≤ i → get_or whole i 0 ≡ get_or rows i 0
    behind i m =
        ap (λ (n : ℕ). get_or whole n 0) (omega arith)
        ∙ sym (get_or-drop (from + 17) whole (i - (from + 17)) 0)
        ∙ ap (λ (xs : List ℕ). get_or xs (i - (from + 17)) 0) (drop_put from (from + 17) rows own (omega arith) (omega arith) (omega arith))
        ∙ get_or-drop (from + 17) rows (i - (from + 17)) 0
        ∙ ap (λ (n : ℕ). get_or rows n 0) (omega arith)

    -- put back, it is the link's, and the other links are as they were
    pub put_back : cube whole ≡ (λ j. cond (eqb j k) (square own) (cube rows j))
    put_back = fun_ext (λ j. ⊎_elim (here j) (λ d. rw d.1 (there j d.0)) (eq_cases j k))
      where
        own_link : cube whole k ≡ square own
        own_link =
            fun_ext
            (λ a.
            ⊎_elim (λ m. fun_ext (λ b. cube_above whole k a b m ∙ sym (square_above own a b m)))
            (λ m. cube_row whole k a h (omega arith) ∙ ap row_of (ap (λ (i : ℕ). get_or whole (i + a) 0) (sym e) ∙ within a (omega arith)) ∙ sym (square_row own a (omega arith)))
            (le_cases 17 a))

        here : (j : ℕ) → j ≡ k → cube whole j ≡ cond (eqb j k) (square own) (cube rows j)
        here j i = ap (cube whole) i ∙ own_link ∙ sym (rw (eq-eqb j k i))

        there : (j : ℕ) → (j ≡ k → ⊥) → cube whole j ≡ cube rows j
        there j d = fun_ext (λ x. same_row rows whole j x
            (λ i m. ⊎_elim (λ n. before _ (omega (arith, n, e))) (λ n. let past : k < j = lt_of_le-ne (omega (arith, n)) (λ z. d (sym z)) in
            behind _ (omega (arith, past, e))) (le_cases (suc j) k)))

-- the part is a link's rows; put back, as many are there as were
module _ (rows : List ℕ) (from : ℕ) (full : length rows ≡ 51) (l : from ≤ 34) where
  pub part_long : length (take (from + 17 - from) (drop from rows)) ≡ 17
  part_long = length-take-le (from + 17 - from) (drop from rows) (omega (arith, length-drop from rows)) ∙ omega arith

  pub back_long : (own : List ℕ) → length own ≡ 17 → length (put_mid from (from + 17 - from) rows own) ≡ length rows
  back_long own e = same_len_mid from (from + 17 - from) rows own (e ∙ sym part_long)

-- a relation laid down as that of a link
pub put_as : (rows : List ℕ) (k : ℕ) → 0 < k → k ≤ 3 → length rows ≡ 51 → (own : List ℕ) → length own ≡ 17 → (from : ℕ) → from ≡ 17 * (k - 1) →
    (f : ℕ → ℕ → Bool) → square own ≡ f → cube (put_mid from (from + 17 - from) rows own) ≡ (λ j. cond (eqb j k) f (cube rows j))
put_as rows k h l full own long from e f i = put_back rows k h l full own long from e ∙ ap (λ (g : ℕ → ℕ → Bool). λ j. cond (eqb j k) g (cube rows j)) i

-- a replacement in the rows of a link
pub replaced_by : (rows : List ℕ) (k : ℕ) → 0 < k → k ≤ 3 → length rows ≡ 51 → (own : List ℕ) → length own ≡ 17 → (from : ℕ) → from ≡ 17 * (k - 1) →
    (lo hi : ℕ) → square own ≡ replace_in lo hi (square (take (from + 17 - from) (drop from rows))) →
    cube (put_mid from (from + 17 - from) rows own) ≡ (λ j. cond (eqb j k) (replace_in lo hi (cube rows j)) (cube rows j))
replaced_by rows k h l full own long from e lo hi f =
    put_back rows k h l full own long from e
    ∙ fun_ext (λ j. ⊎_elim (λ i. rw (eq-eqb j k i) (f ∙ ap (replace_in lo hi) (part_square rows k h from e ∙ ap (cube rows) (sym i)))) (λ d. rw d.1) (eq_cases j k))

-- where nothing is held, nothing is replaced
pub replaced_nothing : (lo hi : ℕ) → replace_in lo hi (λ a b. false) ≡ (λ a b. false)
unfolding replace_in any ◌or◌
replaced_nothing lo hi =
    fun_ext (λ a. fun_ext (λ b. ap (λ (t : ℕ → Bool). any t (became lo hi a)) (fun_ext (λ x. any_never (became lo hi b))) ∙ any_never (became lo hi a)))
  where
    any_never : (xs : List ℕ) → any (λ x. false) xs ≡ false
    any_never [] = refl
    any_never (x ∷ xs) = any_never xs

-- Links replaced in one after the other
module _ (rows : List ℕ) (lo hi : ℕ) where
  abbrev new : ℕ → ℕ → ℕ → Bool
  new j = replace_in lo hi (cube rows j)

  none : replace_in lo hi (cube rows 0) ≡ cube rows 0
  none = ap (replace_in lo hi) nothing ∙ replaced_nothing lo hi ∙ sym nothing
    where
      nothing : cube rows 0 ≡ (λ a b. false)
      nothing = fun_ext (λ a. fun_ext (λ b. cube-none rows 0 a b (omega arith)))

  pub replaced_none : Filled new (cube rows) 1 (cube rows)
  replaced_none j = ⊎_elim (λ h. rw (lt-ltb j 1 (omega arith)) (rw (le-zero j h) (sym none))) (λ h. rw (le-ltb j 1 (omega arith))) (le_cases j 0)
    where
      le-zero : (j : ℕ) → j ≤ 0 → j ≡ 0
      le-zero j h = omega arith
