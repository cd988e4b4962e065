-- The examples of heaps hold, by computation for each term.
use Prim.Native.Nat.{ℕ, zero, suc}
use native.Mathlib.Omega.{arith}
use mathlib.Core.Path.{◌≡◌, refl, sym, ◌∙◌}
use mathlib.Core.Bool.{true, false≢true}
use mathlib.Core.List.{[], ◌∷◌}
use Rattle.logic.specs.Query.{one_link, entry_of, names_nil, argument_of}
use Rattle.logic.specs.Heap.{value, value_within}
use Rattle.logic.specs.HeapExamples.{HeapExamplesHold, leading_to}

-- the terms of the first example that name nil are one node, the first
nil_first : (t : ℕ) → names_nil (one_link (255 ∷ 0 ∷ [])) t ≡ true → 1 ≡ value (leading_to 1) (one_link (255 ∷ 0 ∷ [])) t
unfolding leading_to value value_within names_nil argument_of entry_of
nil_first zero e = absurd (false≢true e)
nil_first (suc zero) e = refl
nil_first (suc (suc zero)) e = absurd (false≢true e)
nil_first (suc (suc (suc t))) e = absurd (false≢true e)

pub heap_examples_hold : HeapExamplesHold
unfolding leading_to value value_within names_nil argument_of entry_of
heap_examples_hold =
    record {
      ends_in_nil = record { one_node' = λ t u e e'. sym (nil_first t e) ∙ nil_first u e'; own_link = λ i t e. nil_first t e };
      nil_in_list = λ n. absurd (omega (arith, n.own_link 1 1 refl));
      nils_apart = λ n. absurd (omega (arith, n.one_node' 1 2 refl refl));
    }
