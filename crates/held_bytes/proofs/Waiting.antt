-- The test, as the code makes it. Assumes nothing.
use Prim.Native.Nat.{ℕ}
use mathlib.Core.Path.{◌≡◌, sym, ap}
use mathlib.Core.Bool.{Bool, true, false, cond}
use lib.Dec.{ltb}
use Rattle.held_bytes.specs.Waiting.{must_wait}

module _ {ended : Bool} (n needed : ℕ) where
  pub wait_ended : ended ≡ true → false ≡ must_wait n needed ended
  unfolding must_wait
  wait_ended e = ap (λ (b : Bool). cond b false (ltb n needed)) (sym e)

  pub wait_open : ended ≡ false → ltb n needed ≡ must_wait n needed ended
  unfolding must_wait
  wait_open e = ap (λ (b : Bool). cond b false (ltb n needed)) (sym e)
