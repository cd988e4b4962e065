-- A goal: the lines at its head, its own line, and then its branches in order.
use Prim.Native.Nat.{ℕ, zero, suc, ◌+◌, ◌-◌, ◌≤◌, ◌<◌}
use native.Mathlib.Omega.{arith}
use native.Mathlib.Numerals.{add-one}
use mathlib.Core.Path.{◌≡◌, refl, sym, ap, ◌∙◌, subst}
use mathlib.Core.Bool.{true}
use mathlib.Core.List.{List, [], ◌∷◌, ◌++◌, map}
use mathlib.Core.Option.{Option, none, some}
use lib.ListN.{length, get_or, drop, length-map}
use Rattle.logic.specs.Query.{Query, term_count}
use Rattle.logic.specs.Facts.{Facts, Joined, Line, join_lines}
use Rattle.logic.specs.Rules.{Rule, triple, Move, move, Fact, equal, alternatives, applies, branch, add}
use Rattle.theory.proofs.Query.Tied.{Accepted}
use Rattle.theory.proofs.Basics.Count.{get_d_mem}
use Rattle.alternatives.specs.Alternatives.{count_of, alternative_at}
use Rattle.alternatives.proofs.Alternatives.{count_is, alternative_is}
use Rattle.checking.specs.Fitting.{Goal, goal_of, goals_of}
use Rattle.std.specs.Prelude.{Ok, Err, IfOk, IfErr}
use Rattle.derivation_lines.specs.Lines.{Shaped, line_at}
use Rattle.derivation_lines.specs.Judging.{Judged, wrong_at, resumed, JudgesHead, JudgesGoal}
use Rattle.derivation_lines.proofs.Lines.{line_within}
use Rattle.checker.specs.Reading.{Read, ending, ruling, unfit, read_at}
use Rattle.checker.specs.Ahead.{Ahead}
use Rattle.checker.proofs.Judging.{path_ends, path_rules, path_wrong}
use Rattle.checker.proofs.Range.{ahead_next}

-- lists by their elements
drop-map : {A B : Type 0} (f : A → B) (xs : List A) (i : ℕ) (d : A) → i < length xs → drop i (map f xs) ≡ f (get_or xs i d) ∷ drop (i + 1) (map f xs)
drop-map f [] i d h = absurd (omega arith)
drop-map f (x ∷ xs) zero d h = refl
drop-map f (x ∷ xs) (suc i) d h = drop-map f xs i d (omega arith) ∙ rw (add-one i, add-one (suc i)) refl

drop_all : {A : Type 0} (xs : List A) (i : ℕ) → length xs ≤ i → drop i xs ≡ []
drop_all [] zero h = refl
drop_all [] (suc i) h = refl
drop_all (x ∷ xs) zero h = absurd (omega arith)
drop_all (x ∷ xs) (suc i) h = drop_all xs i (omega arith)

-- the branches of a rule from i on are left of a path, its own line having been line `at`
pub record BranchesLeft (q : Query) (bytes : List ℕ) (count : ℕ) (s : Facts) (at : ℕ) (m : Move) (i to : ℕ) : Type 0 where
  pub left : (gs : List Goal) → wrong_at q bytes (record { heading = []; facts = s } ∷ gs) at ≡ wrong_at q bytes (drop i (goals_of (term_count q) s m) ++ gs) to
  pub inside : to ≤ count

-- a line that is not wrong is there
told : Read → ℕ
told ending = 0
told (ruling m) = 1
told unfit = 2

module _ (q : Query) (bytes : List ℕ) (count : ℕ) (shape : Shaped bytes count) where
  read_within : (s : Facts) (i : ℕ) (r : Read) → read_at q s (line_at bytes i) ≡ r → told r < 2 → i + 1 ≤ count
  unfolding read_at told
  read_within s i r e l = go (line_at bytes i) refl e
    where
      go : (o : Option Line) → line_at bytes i ≡ o → read_at q s o ≡ r → i + 1 ≤ count
      go none f e = absurd (omega (arith, ap told e, l))
      go (some m) f e = let b = line_within bytes count i m shape f in omega arith

  -- a path whose head is read, from line i on
  module _ (s : Facts) (at : ℕ) where
    abbrev bare : Goal
    bare = record { heading = []; facts = s }

    pub goal_ends : read_at q s (line_at bytes at) ≡ ending → JudgesGoal q bytes count bare at (Ok (at + 1))
    unfolding told resumed
    goal_ends e =
        record {
          judges = λ gs. path_ends q bytes at s gs e;
          within = read_within s at ending e (omega arith);
          numbered = tt;
        }

    pub goal_wrong : read_at q s (line_at bytes at) ≡ unfit → JudgesGoal q bytes count bare at (Err (at + 1))
    unfolding resumed
    goal_wrong e = record { judges = λ gs. path_wrong q bytes at s gs e; within = tt; numbered = omega arith }

    pub branches_begin : (m : Move) → read_at q s (line_at bytes at) ≡ ruling m → BranchesLeft q bytes count s at m 0 (at + 1)
    unfolding told
    branches_begin m e = record { left = λ gs. path_rules q bytes at s gs m e; inside = read_within s at (ruling m) e (omega arith) }

-- the lines at the head of a goal, and the rest
module _ (q : Query) (bytes : List ℕ) (count : ℕ) (pairs : List (ℕ × ℕ)) (s : Facts) (first : ℕ) (head : Judged) (h : JudgesHead bytes count pairs first head) where
  abbrev goal : Goal
  goal = record { heading = join_lines pairs; facts = s }

  pub head-judged : (wrong : ℕ) → head ≡ Err wrong → JudgesGoal q bytes count goal first (Err wrong)
  unfolding resumed
  head-judged wrong f =
      record {
        judges = λ gs. h.judges q s gs ∙ ap (resumed q bytes (record { heading = []; facts = s } ∷ gs)) f;
        within = tt;
        numbered = subst (λ (r : Judged). IfErr r (λ k. 1 ≤ k)) f h.numbered;
      }

  pub after_head : (at : ℕ) → head ≡ Ok at → (r : Judged) → JudgesGoal q bytes count (record { heading = []; facts = s }) at r → JudgesGoal q bytes count goal first r
  unfolding resumed
  after_head at f r j =
      record {
        judges = λ gs. h.judges q s gs ∙ ap (resumed q bytes (record { heading = []; facts = s } ∷ gs)) f ∙ j.judges gs;
        within = j.within;
        numbered = j.numbered;
      }

-- a rule line, and its branches from i on
module _ (q : Query) (bytes : List ℕ) (count : ℕ) (s : Facts) (at k : ℕ) (rule : Rule) (x y z n : ℕ) (terms_are : n ≡ term_count q) where
  abbrev m : Move
  m = move k rule (triple x y z)

  -- which alternative stands past the end does not matter
  abbrev other : Fact
  other = equal 0 0

  many : length (alternatives (term_count q) s.graph m) ≡ count_of rule z
  many = count_is k (term_count q) s.graph rule x y z

  same_branch : (i : ℕ) (j : Joined) → i < count_of rule z → j ≡ branch n s (alternative_at k n (s.graph k) rule x y z i)
      → branch (term_count q) s (get_or (alternatives (term_count q) s.graph m) i other) ≡ j
  same_branch i j l e =
      ap (branch (term_count q) s) (alternative_is k (term_count q) s.graph rule x y z i other l)
      ∙ ap (λ (l : ℕ). branch l s (alternative_at k l (s.graph k) rule x y z i)) (sym terms_are) ∙ sym e

  next_goal : (i : ℕ) (j : Joined) → i < count_of rule z → j ≡ branch n s (alternative_at k n (s.graph k) rule x y z i)
      → drop i (goals_of (term_count q) s m) ≡ goal_of j ∷ drop (i + 1) (goals_of (term_count q) s m)
  unfolding goals_of
  next_goal i j l e =
      drop-map (λ c. goal_of (branch (term_count q) s c)) (alternatives (term_count q) s.graph m) i other (omega (arith, many))
      ∙ ap (λ (b : Joined). goal_of b ∷ drop (i + 1) (map (λ c. goal_of (branch (term_count q) s c)) (alternatives (term_count q) s.graph m))) (same_branch i j l e)

  module _ (i to : ℕ) (b : BranchesLeft q bytes count s at m i to) (in_row : i < count_of rule z) (j : Joined) (j_is : j ≡ branch n s (alternative_at k n (s.graph k) rule x y z i)) (r : Judged) (judged : JudgesGoal q bytes count (goal_of j) to r) where
    at-branch : (gs : List Goal) → wrong_at q bytes (record { heading = []; facts = s } ∷ gs) at ≡ resumed q bytes (drop (i + 1) (goals_of (term_count q) s m) ++ gs) r
    at-branch gs = b.left gs ∙ ap (λ (hs : List Goal). wrong_at q bytes (hs ++ gs) to) (next_goal i j in_row j_is) ∙ judged.judges (drop (i + 1) (goals_of (term_count q) s m) ++ gs)

    pub branches_next : (next : ℕ) → r ≡ Ok next → BranchesLeft q bytes count s at m (i + 1) next
    unfolding resumed
    branches_next next f =
        record {
          left = λ gs. at-branch gs ∙ ap (resumed q bytes (drop (i + 1) (goals_of (term_count q) s m) ++ gs)) f;
          inside = subst (λ (o : Judged). IfOk o (λ k. k ≤ count)) f judged.within;
        }

    pub branches_wrong : (wrong : ℕ) → r ≡ Err wrong → JudgesGoal q bytes count (record { heading = []; facts = s }) at (Err wrong)
    unfolding resumed
    branches_wrong wrong f =
        record {
          judges = λ gs. at-branch gs ∙ ap (resumed q bytes (drop (i + 1) (goals_of (term_count q) s m) ++ gs)) f;
          within = tt;
          numbered = subst (λ (o : Judged). IfErr o (λ k. 1 ≤ k)) f judged.numbered;
        }

  pub branches_end : (i to : ℕ) → BranchesLeft q bytes count s at m i to → count_of rule z ≤ i → JudgesGoal q bytes count (record { heading = []; facts = s }) at (Ok to)
  unfolding goals_of resumed
  branches_end i to b l =
      record {
        judges = λ gs. b.left gs ∙ ap (λ (hs : List Goal). wrong_at q bytes (hs ++ gs) to) (drop_all (goals_of (term_count q) s m) i (omega (arith, many, length-map (alternatives (term_count q) s.graph m) (λ c. goal_of (branch (term_count q) s c)))));
        within = b.inside;
        numbered = tt;
      }

  -- a branch is one step deeper
  pub branch-ahead : Accepted q → (left : ℕ) → Ahead q s left → applies (term_count q) s m ≡ true → (i : ℕ) (j : Joined) → i < count_of rule z → j ≡ branch n s (alternative_at k n (s.graph k) rule x y z i) → Ahead q j.facts (left - 1)
  unfolding add
  branch-ahead ok left ahead app i j l e =
      subst (λ (b : Joined). Ahead q b.facts (left - 1)) (same_branch i j l e)
      (ahead_next q ok s left ahead m app (get_or (alternatives (term_count q) s.graph m) i other) (get_d_mem (alternatives (term_count q) s.graph m) i other (omega (arith, many))))

-- what is read, once the code's answer is known
pub reading_is : {A B : Type 0} (f : A → B) (v v' : A) (l : B) → f v ≡ l → v ≡ v' → l ≡ f v'
reading_is f v v' l h e = sym h ∙ ap f e
