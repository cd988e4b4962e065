-- The paths of a segment: each check that one comes to, with what the path to it says of the state at its start. The definitions go with those of
-- runs, statement by statement.
use Rattle.std.specs.Prelude.{ℕ, suc, ◌≡◌, Bool, true, false, not, cond, List, [], ◌∷◌, ◌++◌, map, ltb, length}
use Rattle.logic.specs.Search.{all}
use Rattle.routine_logic.specs.Syntax.{null, Term, Formula, always, never, equal, unequal, reaches, between, flag, negation, both, either, implies, same, forall, Place, Clause, Code, end, assign, assign_link, assign_flag, havoc, assume, assert, cover, branch, loop, leave, break_out, Routine}
use Rattle.routine_logic.specs.State.{State}
use Rattle.routine_logic.specs.Formulas.{holds, same_truth}
use Rattle.routine_logic.specs.Runs.{Kind, null_of, asserted, covered, entry, kept, ensured, Check, can_fail, dereferenced, dereferenced_in}
use Rattle.path_theory.specs.Points.{Point, at_start, state_at, name_of, named, linked, marked, havocked}

-- What a path says: a formula has this value at a point; a `havoc` is given a node.
pub data Fact : Type 0 where
  says : Bool → Point → Formula → Fact
  gives : ℕ → Fact

unfoldable pub fact_holds : State → List ℕ → Fact → Bool
fact_holds s nodes (says b p f) = same_truth b (holds (state_at s nodes p) [] f)
fact_holds s nodes (gives k) = ltb k (length nodes)

-- where a path is, and what it has said so far
pub record Trail : Type 0 where
  pub point : Point
  pub facts : List Fact

abbrev pub further : Trail → Point → Trail
further t p = record { point = p; facts = t.facts }

abbrev pub saying : Trail → Bool → Formula → Trail
saying t b f = record { point = t.point; facts = says b t.point f ∷ t.facts }

-- A check that a path comes to: whether it passes, and what the path says then.
pub record Case : Type 0 where
  pub check : Check
  pub passes : Bool
  pub trail : Trail

abbrev pub Cases : Type 0
Cases = List Case

abbrev pub Follow : Type 0
Follow = Trail → Cases

abbrev pub case : ℕ → Kind → Bool → Trail → Case
case number kind passes t = record { check = record { statement = number; kind = kind }; passes = passes; trail = t }

-- a check passes or not, as a formula holds; a path goes on behind a failure only at a cover
unfoldable pub asking : ℕ → Kind → Formula → Trail → Follow → Cases
asking number kind f t next =
    case number kind true (saying t true f)
    ∷ case number kind false (saying t false f)
    ∷ (next (saying t true f) ++ cond (can_fail kind) [] (next (saying t false f)))

abbrev pub not_null : Term → Formula
not_null t = unequal t (record { base = null; links = [] })

unfoldable pub reading_paths : Place → List Term → Trail → Follow → Cases
reading_paths p [] t next = next t
reading_paths p (u ∷ us) t next = asking p.number (null_of u) (not_null u) t (λ t'. reading_paths p us t' next)

-- both values of an atom, and a condition as C evaluates it
unfoldable pub deciding : Place → Formula → Trail → (Bool → Follow) → Cases
deciding p f t next = reading_paths p (dereferenced_in f) t (λ t'. next true (saying t' true f) ++ next false (saying t' false f))

unfoldable pub testing_paths : Place → Formula → Trail → (Bool → Follow) → Cases
testing_paths p (negation f) t next = testing_paths p f t (λ b. next (not b))
testing_paths p (both f g) t next = testing_paths p f t (λ b t'. cond b (testing_paths p g t' next) (next false t'))
testing_paths p (either f g) t next = testing_paths p f t (λ b t'. cond b (next true t') (testing_paths p g t' next))
testing_paths p (implies f g) t next = testing_paths p f t (λ b t'. cond b (testing_paths p g t' next) (next true t'))
testing_paths p (same f g) t next = testing_paths p f t (λ b t'. testing_paths p g t' (λ c. next (same_truth b c)))
testing_paths p always t next = next true t
testing_paths p never t next = next false t
testing_paths p (equal u v) t next = deciding p (equal u v) t next
testing_paths p (unequal u v) t next = deciding p (unequal u v) t next
testing_paths p (reaches i u v) t next = deciding p (reaches i u v) t next
testing_paths p (between i u v w) t next = deciding p (between i u v w) t next
testing_paths p (flag j u) t next = deciding p (flag j u) t next
testing_paths p (forall f) t next = next true (saying t true (forall f)) ++ next false (saying t false (forall f))

unfoldable pub clauses_paths : ℕ → (ℕ → Kind) → ℕ → List Clause → Trail → Follow → Cases
clauses_paths number kind i [] t next = next t
clauses_paths number kind i (c ∷ cs) t next = asking number (kind i) c.formula t (λ t'. clauses_paths number kind (suc i) cs t' next)

-- the statements of a block
unfoldable pub paths : Follow → Code → Follow → Follow → Follow
paths final end next out t = next t
paths final (assign p x u rest) next out t =
    reading_paths p (dereferenced u) t (λ t'. paths final rest next out (further t' (named t'.point x (name_of t'.point u))))
paths final (assign_link p u i v rest) next out t =
    reading_paths p (dereferenced u ++ (u ∷ []) ++ dereferenced v) t
    (λ t'. paths final rest next out (further t' (linked t'.point i (name_of t'.point u) (name_of t'.point v))))
paths final (assign_flag p u j b rest) next out t =
    reading_paths p (dereferenced u ++ (u ∷ [])) t (λ t'. paths final rest next out (further t' (marked t'.point j (name_of t'.point u) b)))
paths final (havoc p x rest) next out t =
    paths final rest next out (record { point = havocked t.point x; facts = gives t.point.havocs ∷ t.facts })
paths final (assume p f rest) next out t = paths final rest next out (saying t true f)
paths final (assert p f rest) next out t = asking p.number asserted f t (paths final rest next out)
paths final (cover p f rest) next out t = asking p.number covered f t (paths final rest next out)
paths final (branch p f yes_code no_code rest) next out t =
    let behind : Follow = paths final rest next out in
    testing_paths p f t (λ b. cond b (paths final yes_code behind out) (paths final no_code behind out))
paths final (loop p f invariants body rest) next out t = clauses_paths p.number entry 0 invariants t (λ t'. [])
paths final (leave p rest) next out t = final t
paths final (break_out p rest) next out t = out t

-- The paths of each segment of a routine, in the order of the segments: what the segment assumes, and its paths.
pub record SegmentPaths : Type 0 where
  pub assumes : List Clause
  pub follow : Follow

unfoldable pub finishing_paths : Routine → Follow
finishing_paths r t = clauses_paths 0 ensured 0 r.ensures t (λ t'. [])

unfoldable pub returning_paths : Place → List Clause → Follow
returning_paths p invariants t = clauses_paths p.number kept 0 invariants t (λ t'. [])

unfoldable pub head_paths : Place → Formula → List Clause → (Follow → Follow → Follow) → Follow → Follow
head_paths p f invariants body behind t = testing_paths p f t (λ b. cond b (body (returning_paths p invariants) behind) behind)

unfoldable pub loop_paths : Follow → Code → Follow → Follow → List SegmentPaths
loop_paths final end next out = []
loop_paths final (assign p x u rest) next out = loop_paths final rest next out
loop_paths final (assign_link p u i v rest) next out = loop_paths final rest next out
loop_paths final (assign_flag p u j b rest) next out = loop_paths final rest next out
loop_paths final (havoc p x rest) next out = loop_paths final rest next out
loop_paths final (assume p f rest) next out = loop_paths final rest next out
loop_paths final (assert p f rest) next out = loop_paths final rest next out
loop_paths final (cover p f rest) next out = loop_paths final rest next out
loop_paths final (branch p f yes_code no_code rest) next out =
    let behind : Follow = paths final rest next out in
    loop_paths final yes_code behind out ++ loop_paths final no_code behind out ++ loop_paths final rest next out
loop_paths final (loop p f invariants body rest) next out =
    let behind : Follow = paths final rest next out in
    record { assumes = invariants; follow = head_paths p f invariants (paths final body) behind }
    ∷ loop_paths final body (returning_paths p invariants) behind ++ loop_paths final rest next out
loop_paths final (leave p rest) next out = loop_paths final rest next out
loop_paths final (break_out p rest) next out = loop_paths final rest next out

unfoldable pub segment_paths : Routine → List SegmentPaths
segment_paths r =
    record { assumes = r.requires; follow = paths (finishing_paths r) r.body (finishing_paths r) (λ t. []) }
    ∷ loop_paths (finishing_paths r) r.body (finishing_paths r) (λ t. [])

-- a path begins with what its segment assumes
unfoldable pub start_trail : List Clause → Trail
start_trail cs = record { point = at_start; facts = map (λ c. says true at_start c.formula) cs }
