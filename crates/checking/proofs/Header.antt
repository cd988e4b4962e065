-- What a C header says of the number of a wrong line: it is at most 16,001, so that two bytes hold it.
use Prim.Native.Nat.{ℕ, ◌+◌, ◌*◌, ◌≤◌}
use native.Mathlib.Omega.{arith}
use borrow.Author.Tests.{ltb-false}
use mathlib.Core.Path.{◌≡◌}
use mathlib.Core.Bool.{false, not}
use mathlib.Core.List.{List}
use lib.ListN.{length}
use lib.Dec.{eqb, ltb}
use Rattle.logic.specs.Calls.{CallForm}
use Rattle.theory.proofs.Basics.Search.{neither}
use Rattle.checking.specs.CheckCall.{wrong, count_in, misshapen, check_call_of}
use Rattle.checking.specs.Claims.{Claims}

shaped_few : (bytes : List ℕ) → misshapen bytes ≡ false → count_in bytes ≤ 16000
unfolding misshapen
shaped_few bytes h = ltb-false 16000 (count_in bytes) (neither (not (eqb (length bytes) (2 + 4 * count_in bytes))) (ltb 16000 (count_in bytes)) h).1

pub wrong_limit : (f : CallForm) → Claims f → (query derivation : List ℕ) (k : ℕ) → check_call_of f query derivation ≡ wrong k → k ≤ 16001
wrong_limit f claims query derivation k h =
    omega (arith, (claims.wrong_placed query derivation k h).1, shaped_few derivation ((claims.wrong_exactly query derivation k).0 h).0.1)
