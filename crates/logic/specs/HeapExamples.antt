-- Heaps that obey the rule of nil and heaps that do not (02, R-3): "all nil terms are one node and its link goes to itself".
use Rattle.std.specs.Prelude.{ℕ, false, cond, [], ◌∷◌, eqb}
use Rattle.logic.specs.Query.{one_link}
use Rattle.logic.specs.Heap.{Heap, NilNode}

-- two nodes, of which term 1 is the first and every other term the second; every link leads to the one given
unfoldable pub leading_to : ℕ → Heap
leading_to node =
    record { size = 2; link = λ i v. node; field = λ j v. false; variable = λ t. cond (eqb t 1) 1 2 }

pub record HeapExamplesHold : Type 0 where
  -- a list that ends in nil: only nil's own link must go to itself
  pub ends_in_nil : NilNode (leading_to 1) (one_link (255 ∷ 0 ∷ []))
  -- "a heap whose null pointed into a live list"
  pub nil_in_list : NilNode (leading_to 2) (one_link (255 ∷ 0 ∷ [])) → ⊥
  -- two nil terms that are two nodes
  pub nils_apart : NilNode (leading_to 1) (one_link (255 ∷ 255 ∷ [])) → ⊥
