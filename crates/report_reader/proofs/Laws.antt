-- The tests of a report as the code makes them.
use Prim.Native.Nat.{ℕ, ◌+◌, ◌-◌}
use native.Mathlib.Omega.{arith}
use mathlib.Core.Path.{◌≡◌, sym, ap, ◌∙◌}
use mathlib.Core.Logic.{⊎_elim}
use mathlib.Core.Bool.{Bool, true, false, ◌||◌, ◌&&◌}
use mathlib.Core.List.{List}
use lib.ListN.{length, get_or}
use lib.Dec.{eqb, ltb, leb}
use borrow.Author.Tests.{eqb-true, eqb-false, ltb-true, ltb-false, leb-true, lt-ltb, le-leb}
use Rattle.logic.specs.Search.{◌and◌, from, all}
use Rattle.logic.specs.Shown.{size_in, is_node, well_formed}
use Rattle.theory.proofs.Basics.Search.{bool_cases, true-false, not_of, and_intro, and_right}
use Rattle.theory.proofs.Calls.OneLink.{well_formed-one}
use Rattle.rows.proofs.Selections.{and_both}
use Rattle.drawing.specs.Text.{count_in}

-- a node, as the code tests it
module _ (m : ℕ) {v b : ℕ} (e : v ≡ b) where
  pub no_node : eqb v 0 || ltb m v ≡ true → is_node m b ≡ false
  unfolding is_node ◌and◌
  no_node h = ap (is_node m) (sym e) ∙ ⊎_elim zero_node past_node (bool_cases (eqb v 0))
    where
      zero_node : eqb v 0 ≡ true → is_node m v ≡ false
      zero_node z = rw (eqb-true v 0 z)

      past_node : eqb v 0 ≡ false → is_node m v ≡ false
      past_node z =
          let p : ltb m v ≡ true = sym (ap (λ (t : Bool). t || ltb m v) z) ∙ h in
          let l = ltb-true m v p in
          not_of (λ q. let k = leb-true v m (and_right (ltb 0 v) (leb v m) q) in omega arith)

  pub is_node_lem : eqb v 0 || ltb m v ≡ false → is_node m b ≡ true
  unfolding is_node
  is_node_lem h = ap (is_node m) (sym e) ∙ ⊎_elim (λ z. absurd (true-false (ap (λ (t : Bool). t || ltb m v) z) h)) near_node (bool_cases (eqb v 0))
    where
      near_node : eqb v 0 ≡ false → is_node m v ≡ true
      near_node z =
          let p : ltb m v ≡ false = sym (ap (λ (t : Bool). t || ltb m v) z) ∙ h in
          let l = ltb-false m v p in
          let d = eqb-false v 0 z in
          and_intro (lt-ltb 0 v (omega arith)) (le-leb v m l)

-- "well formed", as the code tests it
module _ (bytes : List ℕ) (m n third fourth : ℕ) (linked named blanks : Bool) where
  pub formed_test :
      m ≡ size_in bytes → n ≡ count_in bytes → third ≡ get_or bytes (m + n + 2) 0 → fourth ≡ get_or bytes (m + n + m + 3) 0
      → linked ≡ all (λ i. is_node m (get_or bytes i 0)) (from (m + 1 - 1) 1)
      → named ≡ all (λ i. is_node m (get_or bytes i 0)) (from (m + n + 2 - (m + 2)) (m + 2))
      → blanks ≡ all (λ i. eqb (get_or bytes i 0) 0) (from (length bytes - (m + n + m + 5)) (m + n + m + 5))
      → (((((((ltb 0 m && leb m 16) && leb n 16) && leb (m + n + m + 5) (length bytes)) && eqb third m) && eqb fourth 1) && linked) && named) && blanks ≡ well_formed 1 bytes
  unfolding count_in is_node
  formed_test em en e₃ e₄ el en' eb =
      let l = el ∙ ap (λ (k : ℕ). all (λ i. is_node m (get_or bytes i 0)) (from k 1)) (one) in
      let d = en' ∙ ap (λ (k : ℕ). all (λ i. is_node m (get_or bytes i 0)) (from k (m + 2))) (two) in
      rw (well_formed-one bytes, l, d, eb, e₃, e₄, en, em) (simp and_both)
    where
      one : m + 1 - 1 ≡ m
      one = omega arith

      two : m + n + 2 - (m + 2) ≡ n
      two = omega arith
