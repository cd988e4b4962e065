-- Runs (03, "What a text means"): what happens, event by event.
use Rattle.std.specs.Prelude.{ℕ, zero, suc, ◌+◌, ◌≡◌, Bool, true, false, not, cond, List, [], ◌∷◌, ◌++◌, eqb}
use Rattle.routine_logic.specs.Syntax.{null, Term, Formula, always, never, equal, unequal, reaches, between, flag, negation, both, either, implies, same, forall, Place, Clause, Code, end, assign, assign_link, assign_flag, havoc, assume, assert, cover, branch, loop, leave, break_out, Routine}
use Rattle.routine_logic.specs.State.{State, null_node, with_variable, with_link, with_flag}
use Rattle.routine_logic.specs.Formulas.{node, holds, same_truth, meets}

-- What a check is about. The invariants of a loop, and the `ensures` of a routine, are numbered from 0.
pub data Kind : Type 0 where
  null_of : Term → Kind
  asserted covered : Kind
  entry kept : ℕ → Kind
  ensured : ℕ → Kind

-- A check: the number of its statement (of an `ensures` it is 0, and no other check is of its kind), and what it is about.
pub record Check : Type 0 where
  pub statement : ℕ
  pub kind : Kind

-- "A cover never fails"
unfoldable pub can_fail : Kind → Bool
can_fail (null_of t) = true
can_fail asserted = true
can_fail covered = false
can_fail (entry i) = true
can_fail (kept i) = true
can_fail (ensured i) = true

-- What a run meets: a statement on a line; a node that a `havoc` on a line gives; a check, whether it passes (a cover: "where its formula
-- holds"), the line that it stands on, and the state there.
pub data Event : Type 0 where
  met : ℕ → Event
  gave : ℕ → ℕ → Event
  checked : Check → Bool → ℕ → State → Event

abbrev pub Events : Type 0
Events = List Event

-- "A run of a segment ends at the first check that fails." `rest` is what happens behind one that does not.
unfoldable pub checking : ℕ → Kind → Bool → ℕ → State → Events → Events
checking number kind passes line s rest =
    checked (record { statement = number; kind = kind }) passes line s ∷ cond passes rest (cond (can_fail kind) [] rest)

-- Where a run is: a state, and "the nodes that its havocs give, in order" from there on.
pub record Now : Type 0 where
  pub state : State
  pub nodes : List ℕ

abbrev pub onward : Now → State → Now
onward n s = record { state = s; nodes = n.nodes }

-- what happens from somewhere on
abbrev pub Go : Type 0
Go = Now → Events

-- the terms that a term dereferences: `p` and `p->next` of `p->next->prev`, "from its first link to its last"
unfoldable pub prefixes : Term → List ℕ → List Term
prefixes t [] = []
prefixes t (i ∷ is) = t ∷ prefixes (record { base = t.base; links = t.links ++ (i ∷ []) }) is

unfoldable pub dereferenced : Term → List Term
dereferenced t = prefixes (record { base = t.base; links = [] }) t.links

-- the terms that an atom of a condition dereferences, "an atom's terms from left to right"; `t->flag` reads at t
unfoldable pub dereferenced_in : Formula → List Term
dereferenced_in (equal t u) = dereferenced t ++ dereferenced u
dereferenced_in (unequal t u) = dereferenced t ++ dereferenced u
dereferenced_in (reaches i t u) = dereferenced t ++ dereferenced u
dereferenced_in (between i t u v) = dereferenced t ++ dereferenced u ++ dereferenced v
dereferenced_in (flag j t) = dereferenced t ++ (t ∷ [])
dereferenced_in always = []
dereferenced_in never = []
dereferenced_in (negation f) = []
dereferenced_in (both f g) = []
dereferenced_in (either f g) = []
dereferenced_in (implies f g) = []
dereferenced_in (same f g) = []
dereferenced_in (forall f) = []

-- "`t->f` fails where `t` is NULL": the terms one after the other
unfoldable pub reading : Place → State → List Term → Events → Events
reading p s [] rest = rest
reading p s (t ∷ ts) rest = checking p.number (null_of t) (not (eqb (node s [] t) null_node)) p.line s (reading p s ts rest)

-- A condition of `if` or `while`: "there `&&`, `||` and `=>` go from left to right and stop as in C". What happens with its value is `then`.
-- "Conditions of `if` and `while` have none", no `forall`.
unfoldable pub testing : Place → State → Formula → (Bool → Events) → Events
testing p s (negation f) then = testing p s f (λ b. then (not b))
testing p s (both f g) then = testing p s f (λ b. cond b (testing p s g then) (then false))
testing p s (either f g) then = testing p s f (λ b. cond b (then true) (testing p s g then))
testing p s (implies f g) then = testing p s f (λ b. cond b (testing p s g then) (then true))
testing p s (same f g) then = testing p s f (λ b. testing p s g (λ c. then (same_truth b c)))
testing p s always then = then true
testing p s never then = then false
testing p s (equal t u) then = reading p s (dereferenced_in (equal t u)) (then (holds s [] (equal t u)))
testing p s (unequal t u) then = reading p s (dereferenced_in (unequal t u)) (then (holds s [] (unequal t u)))
testing p s (reaches i t u) then = reading p s (dereferenced_in (reaches i t u)) (then (holds s [] (reaches i t u)))
testing p s (between i t u v) then = reading p s (dereferenced_in (between i t u v)) (then (holds s [] (between i t u v)))
testing p s (flag j t) then = reading p s (dereferenced_in (flag j t)) (then (holds s [] (flag j t)))
testing p s (forall f) then = then (holds s [] (forall f))

-- clauses "tested in text order", numbered from i; their lines come last in a path
unfoldable pub clauses : ℕ → (ℕ → Kind) → ℕ → State → List Clause → Events → Events
clauses number kind i s [] rest = rest
clauses number kind i s (c ∷ cs) rest =
    checking number (kind i) (holds s [] c.formula) c.line s (clauses number kind (suc i) s cs rest)

-- "havoc gives the variable any node": the next of the nodes; where none is left the run is not followed on
unfoldable pub giving : Place → ℕ → State → List ℕ → Go → Events
giving p x s [] go = []
giving p x s (v ∷ vs) go = gave p.line v ∷ go (record { state = with_variable s x v; nodes = vs })

-- What happens at a loop, where the run comes to it: its place, condition and invariants, what its body does (and then goes on, or breaks out),
-- and what happens behind it.
abbrev pub AtLoop : Type 0
AtLoop = Place → Formula → List Clause → (Go → Go → Go) → Go → Go

-- The statements of a block, and then `next`; `break` goes to `out`, and `return` to `final`. "`return` goes to the routine's end, `break` behind
-- the innermost loop around it. `assume` ends a run where it does not hold, without fault." "In an assignment the left side is evaluated before
-- the right one."
unfoldable pub run : AtLoop → Go → Code → Go → Go → Go
run at final end next out n = next n
run at final (assign p x t rest) next out n =
    met p.line ∷ reading p n.state (dereferenced t) (run at final rest next out (onward n (with_variable n.state x (node n.state [] t))))
run at final (assign_link p t i u rest) next out n =
    let s : State = n.state in
    met p.line ∷ reading p s (dereferenced t ++ (t ∷ []) ++ dereferenced u) (run at final rest next out (onward n (with_link s i (node s [] t) (node s [] u))))
run at final (assign_flag p t j b rest) next out n =
    let s : State = n.state in
    met p.line ∷ reading p s (dereferenced t ++ (t ∷ [])) (run at final rest next out (onward n (with_flag s j (node s [] t) b)))
run at final (havoc p x rest) next out n = met p.line ∷ giving p x n.state n.nodes (run at final rest next out)
run at final (assume p f rest) next out n = met p.line ∷ cond (holds n.state [] f) (run at final rest next out n) []
run at final (assert p f rest) next out n =
    met p.line ∷ checking p.number asserted (holds n.state [] f) p.line n.state (run at final rest next out n)
run at final (cover p f rest) next out n =
    met p.line ∷ checking p.number covered (holds n.state [] f) p.line n.state (run at final rest next out n)
run at final (branch p f yes_code no_code rest) next out n =
    let behind : Go = run at final rest next out in
    met p.line ∷ testing p n.state f (λ b. cond b (run at final yes_code behind out n) (run at final no_code behind out n))
run at final (loop p f invariants body rest) next out n = at p f invariants (run at final body) (run at final rest next out) n
run at final (leave p rest) next out n = met p.line ∷ final n
run at final (break_out p rest) next out n = met p.line ∷ out n

-- nothing more
abbrev pub stop : Go
stop n = []

-- "`ensures` for each of them, where a run comes to the routine's end"
unfoldable pub finishing : Routine → Go
finishing r n = clauses 0 ensured 0 n.state r.ensures []

-- A segment "ends at the next head of a loop", where its invariants are tested.
unfoldable pub entering : AtLoop
entering p f invariants body behind n = clauses p.number entry 0 n.state invariants []

-- "`invariant kept`, where one comes back from its body"; then `more`
unfoldable pub returning : Place → List Clause → Go → Go
returning p invariants more n = clauses p.number kept 0 n.state invariants (more n)

-- At the head of a loop a segment "goes into the loop if its condition holds and else goes on behind it".
unfoldable pub at_head : Place → Formula → List Clause → (Go → Go → Go) → Go → Go → Go
at_head p f invariants body behind more n =
    testing p n.state f (λ b. cond b (body (returning p invariants more) behind n) (behind n))

-- A segment: the line that it is from, what it may assume of its state, and what happens.
pub record Segment : Type 0 where
  pub line : ℕ
  pub assumes : List Clause
  pub go : Go

-- the segments of the loops of a block, in text order. "A loop in code that no run comes to has its segments all the same."
unfoldable pub loop_segments : Go → Code → Go → Go → List Segment
loop_segments final end next out = []
loop_segments final (assign p x t rest) next out = loop_segments final rest next out
loop_segments final (assign_link p t i u rest) next out = loop_segments final rest next out
loop_segments final (assign_flag p t j b rest) next out = loop_segments final rest next out
loop_segments final (havoc p x rest) next out = loop_segments final rest next out
loop_segments final (assume p f rest) next out = loop_segments final rest next out
loop_segments final (assert p f rest) next out = loop_segments final rest next out
loop_segments final (cover p f rest) next out = loop_segments final rest next out
loop_segments final (branch p f yes_code no_code rest) next out =
    let behind : Go = run entering final rest next out in
    loop_segments final yes_code behind out ++ loop_segments final no_code behind out ++ loop_segments final rest next out
loop_segments final (loop p f invariants body rest) next out =
    let behind : Go = run entering final rest next out in
    record { line = p.line; assumes = invariants; go = at_head p f invariants (run entering final body) behind stop }
    ∷ loop_segments final body (returning p invariants stop) behind ++ loop_segments final rest next out
loop_segments final (leave p rest) next out = loop_segments final rest next out
loop_segments final (break_out p rest) next out = loop_segments final rest next out

-- "A segment begins at the start of the routine, in any state that meets all its `requires`, or at the head of a loop, in any state that meets
-- all its invariants". `break` stands only within a loop, so that the routine's own block has nowhere to break out to.
unfoldable pub segments : Routine → List Segment
segments r =
    record { line = r.line; assumes = r.requires; go = run entering (finishing r) r.body (finishing r) stop }
    ∷ loop_segments (finishing r) r.body (finishing r) stop

-- "The whole routine .. its loops run for real any number of times": at most m times round, each time that the run comes to a loop, and it is
-- not followed on behind that. The invariants are tested where it comes to the loop and each time round.
unfoldable pub rounds : ℕ → Place → Formula → List Clause → (Go → Go → Go) → Go → Go
rounds zero p f invariants body behind n = []
rounds (suc m) p f invariants body behind n = at_head p f invariants body behind (rounds m p f invariants body behind) n

unfoldable pub looping : ℕ → AtLoop
looping m p f invariants body behind n = clauses p.number entry 0 n.state invariants (rounds m p f invariants body behind n)

unfoldable pub whole_run : ℕ → Routine → Go
whole_run m r = run (looping m) (finishing r) r.body (finishing r) stop
