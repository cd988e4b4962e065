-- The length of a query in the bytes read for it. Assumes nothing.
use Prim.Native.Nat.{ℕ, ◌+◌, ◌*◌, ◌≤◌, ◌<◌}
use native.Mathlib.Omega.{arith}
use mathlib.Core.Path.{◌≡◌, sym, ap, ◌∙◌}
use mathlib.Core.Bool.{Bool, true, false, cond}
use mathlib.Core.List.{List}
use lib.ListN.{length, get_or}
use lib.Dec.{ltb}
use borrow.Author.Tests.{lt-ltb, le-ltb}
use Rattle.logic.specs.Search.{◌or◌}
use Rattle.sharing.specs.Output.{length_in, is_bad, wanted}
use Rattle.sharing.proofs.Lengths.{wanted_few}

-- lengths: cut short, too long, and good
module _ (head : List ℕ) where
  pub cut_short : length head < 2 → is_bad head ≡ true
  unfolding is_bad ◌or◌
  cut_short h = rw (lt-ltb (length head) 2 h)

  pub whole_length : {p q : ℕ} → 2 ≤ length head → p ≡ get_or head 0 0 → q ≡ get_or head 1 0 → ltb 681 (256 * p + q) ≡ is_bad head
  unfolding is_bad length_in ◌or◌
  whole_length h e f = rw (le-ltb (length head) 2 h, e, f)

  pub wanted-none : {b : Bool} → b ≡ is_bad head → b ≡ true → 0 ≡ wanted head
  unfolding wanted
  wanted-none e f = ap (λ (t : Bool). cond t 0 (length_in head)) (sym f ∙ e)

  pub wanted_all : {p q : ℕ} {b : Bool} → b ≡ is_bad head → b ≡ false → p ≡ get_or head 0 0 → q ≡ get_or head 1 0 → 256 * p + q ≡ wanted head
  unfolding wanted length_in
  wanted_all {p} {q} e f g h = let n : 256 * p + q ≡ 256 * get_or head 0 0 + get_or head 1 0 = omega arith in n ∙ ap (λ (t : Bool). cond t 0 (length_in head)) (sym f ∙ e)

pub asked : {r : ℕ} (head : List ℕ) → r ≡ wanted head → (r ≡ wanted head) × (r ≤ 681)
asked head e = (e, omega (arith, wanted_few head))
