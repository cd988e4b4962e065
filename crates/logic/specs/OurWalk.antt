-- Our walk as a relation of a path and its ending, with no count of steps (01, "The eight rules").
use Rattle.std.specs.Prelude.{◌≡◌, List, [], ◌∷◌, ◌++◌}
use Rattle.logic.specs.Query.{Query, term_count}
use Rattle.logic.specs.Facts.{Facts, Line, join_lines}
use Rattle.logic.specs.Rules.{Rule, Move, Fact, alternatives, branch, add, move_line}
use Rattle.logic.specs.Walk.{clashing, applying, saturated, look, Ending, refutation, saturation, after}

mutual
  -- "The walk takes the first applicable rule of the order list, at the smallest triple .. Each branch is walked by the same routine"
  pub data Walks (q : Query) (order : List Rule) : Facts → Ending → Type 0 where
    clashes : {s : Facts} (l : Line) → look q order s ≡ clashing l → Walks q order s (refutation (l ∷ []))
    saturates : {s : Facts} → look q order s ≡ saturated → Walks q order s (saturation s)
    goes_on : {s : Facts} (m : Move) {e : Ending} → look q order s ≡ applying m → WalksEach q order s (alternatives (term_count q) s.graph m) e → Walks q order s (after (move_line m ∷ []) e)

  -- the branches of a path by some alternatives: "tried left to right", until one is not refuted
  pub data WalksEach (q : Query) (order : List Rule) : Facts → List Fact → Ending → Type 0 where
    all_tried : {s : Facts} → WalksEach q order s [] (refutation [])
    refuted_first : {s : Facts} {c : Fact} {cs : List Fact} {ls : List Line} {e : Ending} → Walks q order (add (term_count q) s c) (refutation ls) → WalksEach q order s cs e → WalksEach q order s (c ∷ cs) (after (join_lines (branch (term_count q) s c).pairs ++ ls) e)
    saturated_first : {s : Facts} {c : Fact} {cs : List Fact} {t : Facts} → Walks q order (add (term_count q) s c) (saturation t) → WalksEach q order s (c ∷ cs) (saturation t)
