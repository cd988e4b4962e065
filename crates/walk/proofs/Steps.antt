-- What a look says, and the branches of a rule that it sees.
use Prim.Native.Nat.{ℕ, ◌-◌, ◌≤◌, ◌<◌}
use native.Mathlib.Omega.{arith}
use mathlib.Core.Path.{◌≡◌, sym, ap, ◌∙◌, subst}
use mathlib.Core.List.{List}
use lib.ListN.{length, get_or}
use Rattle.logic.specs.Query.{Query, term_count}
use Rattle.logic.specs.Facts.{Facts, Joined, Line, line}
use Rattle.logic.specs.Rules.{Rule, triple, Move, move, Fact, equal, move_number, move_line, alternatives, branch, add}
use Rattle.logic.specs.Walk.{Look, clashing, applying, look, walk_branch, walk}
use Rattle.logic.specs.Steps.{AtMost}
use Rattle.theory.proofs.Walks.OurWalk.{look_fewer}
use Rattle.theory.proofs.Walks.Derives.{seen-applying}
use Rattle.theory.proofs.Paths.Applies.{has_link_range, applies_linked}
use Rattle.theory.proofs.Basics.Count.{get_d_mem}
use Rattle.facts.specs.Path.{HasLink}
use Rattle.query.specs.LaysOut.{literal_in}
use Rattle.query.specs.declared.Layout.{Layout}
use Rattle.query.proofs.Literals.{listed-length}
use Rattle.link_query.specs.Said.{said, Within, reach_in}
use Rattle.link_query.proofs.Said.{terms-said, equalities-said, reachability-said, fields-said}
use Rattle.alternatives.specs.Alternatives.{count_of, alternative_at}
use Rattle.alternatives.proofs.Alternatives.{count_is, alternative_is}
use Rattle.walk.specs.Lines.{count_all}
use Rattle.walk.specs.Looks.{look_of}
use Rattle.walk.specs.declared.Seen.{Seen}
use Rattle.walk.proofs.Lines.{count_all_bound}
use Rattle.walk.proofs.Looks.{move_range, clash_range}

-- what is seen, once the code's answer is known
pub look_is : (v v' : Seen) (l : Look) → look_of v ≡ l → v ≡ v' → l ≡ look_of v'
look_is v v' l h e = sym h ∙ ap look_of e

-- the numbers of a line fit a byte
module _ (bytes : List ℕ) (l : Layout) (laid : Within l bytes) (order : List Rule) (s : Facts) where
  pub clash_fits : (a i j : ℕ) → look (said l bytes) order s ≡ clashing (line 9 a i j) → (a < 256) × (i < 256) × (j < 256)
  clash_fits a i j h =
      let r = clash_range (said l bytes) order s 60 (line 9 a i j)
      (omega (arith, ap length (equalities-said l bytes laid), listed-length (literal_in bytes l.equal_at) l.equal_count, laid.equal_within))
      (omega (arith, ap length (reachability-said l bytes laid), listed-length (reach_in l.links bytes l.reach_at) l.reach_count, laid.reach_within))
      (omega (arith, ap length (fields-said l bytes laid), listed-length (literal_in bytes l.field_at) l.field_count, laid.field_within))
      h in
      (omega arith, omega arith, omega arith)

  pub move_fits : (k : ℕ) (r : Rule) (x y z : ℕ) → look (said l bytes) order s ≡ applying (move k r (triple x y z)) → (x ≤ 16) × (y ≤ 16) × (z ≤ 16)
  move_fits k r x y z h =
      let g = move_range (said l bytes) order s k r x y z h in
      let t = terms-said l bytes laid in
      let w = laid.terms_within in
      (omega arith, omega arith, omega arith)

-- a rule is seen by a link of the path
pub move_linked : (q : Query) (order : List Rule) (s : Facts) (k : ℕ) (r : Rule) (x y z : ℕ) → look q order s ≡ applying (move k r (triple x y z)) → HasLink s k
move_linked q order s k r x y z h =
    let m : Move = move k r (triple x y z) in
    let l = has_link_range s.links k r (triple x y z) (applies_linked (term_count q) s m (seen-applying q order s h).1) in
    (omega (arith, l), l.1)

-- the walk of a branch that the code makes
pub branch_walked : (q : Query) (order : List Rule) (k n : ℕ) (s : Facts) (j : Joined) (l : ℕ) (r : Rule) (x y z i : ℕ) (d : Fact) → n ≡ term_count q →
    i < count_of r z → j ≡ branch n s (alternative_at l n (s.graph l) r x y z i) →
    walk_branch (walk q order k) (branch (term_count q) s (get_or (alternatives (term_count q) s.graph (move l r (triple x y z))) i d)) ≡ walk_branch (walk q order k) j
branch_walked q order k n s j l r x y z i d e h f =
    ap (walk_branch (walk q order k))
    (ap (branch (term_count q) s) (alternative_is l (term_count q) s.graph r x y z i d h) ∙ ap (λ (m : ℕ). branch m s (alternative_at l m (s.graph l) r x y z i)) (sym e) ∙ sym f)

pub move-line : (l : ℕ) (r : Rule) (x y z a : ℕ) → a ≡ move_number l r → line a x y z ≡ move_line (move l r (triple x y z))
unfolding move_line
move-line l r x y z a e = ap (λ (j : ℕ). line j x y z) e

-- A rule applies: its branches are walked with a step less
module _ (q : Query) (order : List Rule) (k n : ℕ) (s : Facts) (l : ℕ) (rule : Rule) (x y z : ℕ)
    (seen : look q order s ≡ applying (move l rule (triple x y z))) (some_left : 1 ≤ k) (terms_are : n ≡ term_count q) where
  abbrev m : Move
  m = move l rule (triple x y z)

  abbrev cs : List Fact
  cs = alternatives (term_count q) s.graph m

  -- which alternative stands past the end does not matter
  abbrev other : Fact
  other = equal 0 0

  -- no more rule steps are left from a branch than are counted
  pub branch_fewer : AtMost (term_count q) s k → (j : Joined) (i : ℕ) → i < count_of rule z → j ≡ branch n s (alternative_at l n (s.graph l) rule x y z i) → AtMost (term_count q) j.facts (k - 1)
  unfolding add
  branch_fewer most j i in_row j_is =
      let in_cs : i < length cs = omega (arith, count_is l (term_count q) s.graph rule x y z) in
      let f = look_fewer q order k s m most seen (get_or cs i other) (get_d_mem cs i other in_cs) in
      subst (λ (b : Joined). AtMost (term_count q) b.facts (k - 1))
      (ap (branch (term_count q) s) (alternative_is l (term_count q) s.graph rule x y z i other in_row)
      ∙ ap (λ (m : ℕ). branch m s (alternative_at l m (s.graph l) rule x y z i)) (sym terms_are) ∙ sym j_is)
      f

-- the count behind them stays below its stop
pub headed_bound : (c c₁ : ℕ) (ls : List Line) → c₁ ≡ count_all c ls → c ≤ 16001 → c₁ ≤ 16001
headed_bound c c₁ ls e h = subst (λ (j : ℕ). j ≤ 16001) (sym e) (count_all_bound c ls h)

-- and it is walked with a step less
pub less_left : (k t : ℕ) → 1 ≤ k → k ≡ t → k - 1 < t
less_left k t l e = omega arith
