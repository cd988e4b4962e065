-- How long a query is. Assumes nothing.
use Prim.Native.Nat.{ℕ, ◌≤◌}
use native.Mathlib.Omega.{arith}
use mathlib.Core.Path.{◌≡◌, refl}
use mathlib.Core.Bool.{Bool, true, false, cond}
use mathlib.Core.List.{List}
use lib.ListN.{length}
use lib.Dec.{ltb}
use borrow.Author.Tests.{ltb-false}
use Rattle.theory.proofs.Basics.Search.{neither}
use Rattle.sharing.specs.Output.{length_in, is_bad, wanted}

-- "a length above 681" is bad
few : (head : List ℕ) (b : Bool) → is_bad head ≡ b → cond b 0 (length_in head) ≤ 681
unfolding is_bad
few head true e = omega arith
few head false e = let l = ltb-false 681 (length_in head) (neither (ltb (length head) 2) _ e).1 in omega arith

pub wanted_few : (head : List ℕ) → wanted head ≤ 681
unfolding wanted
wanted_few head = few head (is_bad head) refl
