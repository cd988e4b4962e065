-- Where an element stands in a list.
use Prim.Native.Nat.{ℕ, zero, suc, ◌+◌, ◌≤◌, ◌<◌}
use native.Mathlib.Omega.{arith}
use mathlib.Core.Path.{◌≡◌, sym, ap, ◌∙◌}
use mathlib.Core.Logic.{⊎_elim}
use mathlib.Core.Bool.{false}
use mathlib.Core.List.{List, ◌∷◌, Memᴰ}
use mathlib.Core.Option.{Option, some}
use lib.ListN.{length, get_or}
use lib.Dec.{eqb}
use borrow.Author.Tests.{eqb-true, eq-eqb}
use Rattle.logic.specs.Search.{at, from}
use Rattle.logic.specs.Shown.{place_of}
use Rattle.theory.proofs.Basics.Search.{bool_cases}
pub use Rattle.theory.proofs.Basics.Count.{length_from}

-- a member stands at some place, counted from 1
pub at_mem : {A : Type 0} (x : A) {xs : List A} → Memᴰ x xs → (i : ℕ) × (i < length xs) × (at xs (suc i) ≡ some x)
unfolding at
at_mem {A} x (Memᴰ.head {x = y} {xs = ys} e) = (0, omega arith, ap {B = Option A} some (sym e))
at_mem x (Memᴰ.tail {x = y} {xs = ys} m) = let r = at_mem x m in (suc r.0, omega arith, r.2)

pub get_d_from : (k i j : ℕ) → j < k → get_or (from k i) j 0 ≡ i + j
unfolding from
get_d_from zero i j h = absurd (omega arith)
get_d_from (suc k) i zero h = omega arith
get_d_from (suc k) i (suc j) h = get_d_from k (suc i) j (omega arith) ∙ omega arith

-- where a member stands: at the place of the first element equal to it
pub record Stands (v : ℕ) (ts : List ℕ) : Type 0 where
  pub index : ℕ
  pub within : index < length ts
  pub placed : place_of v ts ≡ suc index
  pub element : get_or ts index 0 ≡ v

stands_here : (u v : ℕ) (us : List ℕ) → u ≡ v → Stands v (u ∷ us)
unfolding place_of
stands_here u v us e = record { index = 0; within = omega arith; placed = rw (eq-eqb u v e); element = e }

stands_later : (u v : ℕ) (us : List ℕ) → eqb u v ≡ false → Stands v us → Stands v (u ∷ us)
unfolding place_of
stands_later u v us e r = record { index = suc r.index; within = omega arith; placed = rw e (ap suc r.placed); element = r.element }

pub place_of-mem : (v : ℕ) {ts : List ℕ} → Memᴰ v ts → Stands v ts
place_of-mem v (Memᴰ.head {x = u} {xs = us} e) = stands_here u v us (sym e)
place_of-mem v (Memᴰ.tail {x = u} {xs = us} m) =
    ⊎_elim (λ e. stands_here u v us (eqb-true u v e)) (λ e. stands_later u v us e (place_of-mem v m)) (bool_cases (eqb u v))

pub place_of_range : {ts : List ℕ} (v : ℕ) → Memᴰ v ts → (1 ≤ place_of v ts) × (place_of v ts ≤ length ts)
place_of_range v m = let r = place_of-mem v m in (omega arith, omega arith)

pub place_of_injective : {ts : List ℕ} (v w : ℕ) → Memᴰ v ts → Memᴰ w ts → place_of v ts ≡ place_of w ts → v ≡ w
place_of_injective {ts} v w m k e =
    let r = place_of-mem v m in
    let t = place_of-mem w k in
    let same : r.index ≡ t.index = omega arith in
    sym r.element ∙ ap (λ (i : ℕ). get_or ts i 0) same ∙ t.element
