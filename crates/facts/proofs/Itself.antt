-- Each term is made to stand for itself, one after the other.
use Prim.Native.Nat.{ℕ, ◌+◌, ◌≤◌, ◌<◌}
use native.Mathlib.Omega.{arith}
use mathlib.Core.Path.{◌≡◌, sym, ap, ◌∙◌, fun_ext}
use mathlib.Core.Logic.{⊎_elim}
use mathlib.Core.List.{List}
use lib.ListN.{length, set}
use lib.Dec.{eqb}
use borrow.Author.Tests.{eqb-true, eqb-false}
use Rattle.theory.proofs.Basics.Search.{bool_cases}
use Rattle.theory.proofs.Basics.Compare.{le_cases}
use Rattle.facts.specs.Path.{rep_of}
use Rattle.facts.proofs.Rep.{rep_same, rep_other, rep_beyond}

-- the numbers below t stand for themselves
abbrev pub Itself : ℕ → List ℕ → Type 0
Itself t rep = (x : ℕ) → x < t → rep_of rep x ≡ x

pub itself_more : (rep : List ℕ) → length rep ≡ 17 → (t : ℕ) → t ≤ 16 → Itself t rep → Itself (t + 1) (set rep t t)
itself_more rep full t h m x l =
    ⊎_elim
    (λ e. let p = eqb-true x t e in ap (rep_of (set rep t t)) p ∙ rep_same rep t t full h ∙ sym p)
    (λ e. let d = eqb-false x t e in rep_other rep t t x d ∙ m x (omega arith))
    (bool_cases (eqb x t))

pub itself_all : (rep : List ℕ) → Itself 17 rep → rep_of rep ≡ (λ x. x)
itself_all rep m = fun_ext (λ x. ⊎_elim (λ h. rep_beyond rep x h) (λ h. m x h) (le_cases 17 x))
