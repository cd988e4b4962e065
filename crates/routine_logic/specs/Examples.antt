-- Examples that the definitions are held to: those of 03, and one for each rule that is easily lost.
use Rattle.std.specs.Prelude.{ℕ, ◌-◌, ◌≡◌, Bool, true, false, cond, List, [], ◌∷◌, ◌++◌, map, eqb, length, get_or}
use Rattle.std.proofs.Math.Option.{Option, none, some, Option-elim}
use Rattle.logic.specs.Search.{from, at}
use Rattle.routine_logic.specs.Syntax.{null, variable, bound, Term, Formula, always, never, equal, unequal, reaches, between, flag, negation, both, either, implies, same, forall, Place, Clause, Code, end, assign, assign_link, assign_flag, havoc, assume, assert, cover, branch, loop, leave, break_out, Routine}
use Rattle.routine_logic.specs.State.{State, IsState}
use Rattle.routine_logic.specs.Formulas.{meets}
use Rattle.routine_logic.specs.Runs.{segments}
use Rattle.routine_logic.specs.Checks.{checks}
use Rattle.routine_logic.specs.Shown.{Given, Shown, shown, kind_number}

-- terms: NULL, a variable, the innermost bound name, and behind a link
abbrev pub NULL : Term
NULL = record { base = null; links = [] }

abbrev pub name : ℕ → Term
name x = record { base = variable x; links = [] }

abbrev pub each : Term
each = record { base = bound 0; links = [] }

abbrev pub via : Term → ℕ → Term
via t i = record { base = t.base; links = t.links ++ (i ∷ []) }

abbrev pub place : ℕ → ℕ → Place
place number line = record { number = number; line = line }

abbrev pub clause : ℕ → Formula → Clause
clause line f = record { line = line; formula = f }

-- a routine without clauses, on line 1
abbrev pub plainly : Code → Routine
plainly body = record { line = 1; requires = []; ensures = []; body = body }

-- a state as lists: of each link its targets from node 1 on, of each flag 0 or 1, the nodes of the variables
unfoldable pub state_of : List (List ℕ) → List (List ℕ) → List ℕ → State
state_of links flags variables =
    record {
      size = Option-elim (at links 1) 1 length;
      link = λ i v. Option-elim (at links i) v (λ l. get_or l (v - 1) 1);
      field = λ j v. Option-elim (at flags j) false (λ l. eqb (get_or l (v - 1) 0) 1);
      variable = λ x. get_or variables x 1;
    }

-- what is seen of a run: whether its state meets what the segment assumes, its path, its havocs, and at its end the targets of links and
-- the nodes of variables
pub record Seen : Type 0 where
  pub admitted : Bool
  pub path : List ℕ
  pub havocs : List Given
  pub links : List (List ℕ)
  pub variables : List ℕ

-- a run of the segment with this number from a state of so many links and variables; the check with this number comes to pass, or not
pub record Trial : Type 0 where
  pub routine : Routine
  pub segment : ℕ
  pub links : List (List ℕ)
  pub flags : List (List ℕ)
  pub variables : List ℕ
  pub nodes : List ℕ
  pub check : ℕ
  pub passes : Bool

unfoldable pub seen : Trial → Option Seen
seen t =
    let s : State = state_of t.links t.flags t.variables in
    Option-elim (at (segments t.routine) t.segment) none λ g.
    Option-elim (at (checks t.routine) t.check) none λ c.
    Option-elim (shown g (record { state = s; nodes = t.nodes }) c.check t.passes) none λ e.
    some (record {
      admitted = meets s g.assumes;
      path = e.path;
      havocs = e.havocs;
      links = map (λ i. map (e.state.link i) (from s.size 1)) (from (length t.links) 1);
      variables = map e.state.variable (from (length t.variables) 0);
    })

-- The first example of 03: `q`, the node behind `p`, is taken out of the list. Variables head, p, q, r; the flag old. What stands behind
-- `p->next = r` is `more`.
unfoldable pub remove : Code → Routine
remove more =
    record {
      line = 5;
      requires =
          clause 6 (both (both (reaches 1 (name 0) NULL) (reaches 1 (name 0) (name 1))) (unequal (name 1) NULL))
          ∷ clause 7 (forall (same (flag 1 each) (both (unequal each NULL) (reaches 1 (name 0) each))))
          ∷ [];
      ensures =
          clause 8 (reaches 1 (name 0) NULL)
          ∷ clause 9 (either (equal (name 2) NULL) (negation (reaches 1 (name 0) (name 2))))
          ∷ clause 10 (forall (implies (flag 1 each) (either (reaches 1 (name 0) each) (equal each (name 2)))))
          ∷ [];
      body =
          assign (place 0 13) 2 (via (name 1) 1)
          (branch (place 1 14) (equal (name 2) NULL) (leave (place 2 14) end) end
          (assign (place 3 15) 3 (via (name 2) 1)
          (assign_link (place 4 16) (name 1) 1 (name 3) more)));
    }

-- "With `if (r != NULL) { r->next = q; }` behind `p->next = r;` the list's tail bends back into its middle, as in the palletiser"
unfoldable pub bent : Routine
bent = remove (branch (place 5 17) (unequal (name 3) NULL) (assign_link (place 6 17) (name 3) 1 (name 2) end) end end)

-- "Without the `if` above it, `r = q->next` can fail at `null q`."
unfoldable pub unguarded : Routine
unguarded = plainly (assign (place 0 2) 2 (via (name 1) 1) (assign (place 1 3) 3 (via (name 2) 1) end))

-- The second example of 03, `palletiser(a, b)`.
unfoldable pub palletiser : Routine
palletiser =
    plainly (assume (place 0 2) (both (both (equal (via (name 0) 1) (via (name 1) 1)) (unequal (name 0) (name 1))) (reaches 1 (name 0) (name 1)))
    (cover (place 1 3) always (assume (place 2 4) (reaches 1 (name 1) (name 0)) (cover (place 3 5) always end))))

-- Conditions that stop where their value is known: `if (F) { }` with variables p, q
unfoldable pub tested : Formula → Routine
tested f = plainly (branch (place 0 2) f end end end)

abbrev pub non_null : Formula
non_null = unequal (name 0) NULL

abbrev pub behind_is_q : Formula
behind_is_q = equal (via (name 0) 1) (name 1)

-- `while (i != NULL) invariant .. invariant .. { i = i->next; B }`, and then `i = NULL; assert false`; variables i, head
unfoldable pub walking : Code → Routine
walking more =
    plainly (loop (place 0 2) (unequal (name 0) NULL) (clause 3 always ∷ clause 4 (reaches 1 (name 1) (name 0)) ∷ [])
    (assign (place 1 5) 0 (via (name 0) 1) more) (assign (place 2 8) 0 NULL (assert (place 3 9) never end)))

-- lines and kinds of a routine's checks
pub record Row : Type 0 where
  pub line : ℕ
  pub kind : ℕ

unfoldable pub rows_of : Routine → List Row
rows_of r = map (λ l. record { line = l.line; kind = kind_number l.check.kind }) (checks r)

abbrev pub row : ℕ → ℕ → Row
row line kind = record { line = line; kind = kind }

abbrev pub trial : Routine → ℕ → List (List ℕ) → List (List ℕ) → List ℕ → List ℕ → ℕ → Bool → Trial
trial r segment links flags variables nodes check passes =
    record { routine = r; segment = segment; links = links; flags = flags; variables = variables; nodes = nodes; check = check; passes = passes }

abbrev pub ends : List ℕ → List Given → List (List ℕ) → List ℕ → Option Seen
ends path havocs links variables = some (record { admitted = true; path = path; havocs = havocs; links = links; variables = variables })

-- a list of two nodes behind NULL, NULL itself at node 1
abbrev pub short : List (List ℕ)
short = (1 ∷ 3 ∷ 1 ∷ []) ∷ []

pub record ExamplesHold : Type 0 where
  -- "7 checks": three `ensures`, `null p`, `null q`, `null p`, `null r`
  pub bent_checks : rows_of bent ≡ row 8 5 ∷ row 9 5 ∷ row 10 5 ∷ row 13 0 ∷ row 15 0 ∷ row 16 0 ∷ row 17 0 ∷ []
  -- "8 ensures: can fail .. path 5 13 14 15 16 17 17 8", node by node
  pub bent_fails : seen (trial bent 1 ((1 ∷ 3 ∷ 4 ∷ 5 ∷ 1 ∷ []) ∷ []) ((0 ∷ 1 ∷ 1 ∷ 1 ∷ 1 ∷ []) ∷ []) (2 ∷ 3 ∷ 1 ∷ 1 ∷ []) [] 1 false)
      ≡ ends (5 ∷ 13 ∷ 14 ∷ 15 ∷ 16 ∷ 17 ∷ 17 ∷ 8 ∷ []) [] ((1 ∷ 3 ∷ 5 ∷ 5 ∷ 4 ∷ []) ∷ []) (2 ∷ 3 ∷ 4 ∷ 5 ∷ [])
  -- without the slip the same state passes; and where nothing is behind p, the run returns
  pub remove_passes : seen (trial (remove end) 1 ((1 ∷ 3 ∷ 4 ∷ 5 ∷ 1 ∷ []) ∷ []) ((0 ∷ 1 ∷ 1 ∷ 1 ∷ 1 ∷ []) ∷ []) (2 ∷ 3 ∷ 1 ∷ 1 ∷ []) [] 3 true)
      ≡ ends (5 ∷ 13 ∷ 14 ∷ 15 ∷ 16 ∷ 10 ∷ []) [] ((1 ∷ 3 ∷ 5 ∷ 5 ∷ 1 ∷ []) ∷ []) (2 ∷ 3 ∷ 4 ∷ 5 ∷ [])
  pub remove_returns : seen (trial (remove end) 1 ((1 ∷ 1 ∷ []) ∷ []) ((0 ∷ 1 ∷ []) ∷ []) (2 ∷ 2 ∷ 2 ∷ 2 ∷ []) [] 1 true)
      ≡ ends (5 ∷ 13 ∷ 14 ∷ 14 ∷ 8 ∷ []) [] ((1 ∷ 1 ∷ []) ∷ []) (2 ∷ 2 ∷ 1 ∷ 2 ∷ [])
  -- a state that the `requires` do not admit: a node that is not in the list is marked old
  pub not_admitted : map (λ f. meets (state_of short (f ∷ []) (2 ∷ 2 ∷ 1 ∷ 1 ∷ [])) (remove end).requires) ((0 ∷ 1 ∷ 1 ∷ []) ∷ (0 ∷ 1 ∷ 0 ∷ []) ∷ [])
      ≡ true ∷ false ∷ []
  pub unguarded_fails : seen (trial unguarded 1 ((1 ∷ 1 ∷ []) ∷ []) [] (2 ∷ 2 ∷ 2 ∷ 2 ∷ []) [] 2 false)
      ≡ ends (1 ∷ 2 ∷ 3 ∷ []) [] ((1 ∷ 1 ∷ []) ∷ []) (2 ∷ 2 ∷ 1 ∷ 2 ∷ [])
  -- "`possible` with a heap, then `impossible`": from the heap of the first cover no run comes to the second
  pub palletiser_possible : seen (trial palletiser 1 ((1 ∷ 4 ∷ 4 ∷ 3 ∷ []) ∷ []) [] (2 ∷ 3 ∷ []) [] 1 true)
      ≡ ends (1 ∷ 2 ∷ 3 ∷ []) [] ((1 ∷ 4 ∷ 4 ∷ 3 ∷ []) ∷ []) (2 ∷ 3 ∷ [])
  pub palletiser_not_met : seen (trial palletiser 1 ((1 ∷ 4 ∷ 4 ∷ 3 ∷ []) ∷ []) [] (2 ∷ 3 ∷ []) [] 2 true) ≡ none
  -- "`p != NULL && p->next == q` must not fail", and so for `||` and `=>`; the other way round it fails
  pub and_stops : seen (trial (tested (both non_null behind_is_q)) 1 short [] (1 ∷ 1 ∷ []) [] 1 false) ≡ none
  pub or_stops : seen (trial (tested (either (negation non_null) behind_is_q)) 1 short [] (1 ∷ 1 ∷ []) [] 1 false) ≡ none
  pub implies_stops : seen (trial (tested (implies non_null behind_is_q)) 1 short [] (1 ∷ 1 ∷ []) [] 1 false) ≡ none
  pub and_fails : seen (trial (tested (both behind_is_q non_null)) 1 short [] (1 ∷ 1 ∷ []) [] 1 false) ≡ ends (1 ∷ 2 ∷ []) [] short (1 ∷ 1 ∷ [])
  pub same_fails : seen (trial (tested (same non_null behind_is_q)) 1 short [] (1 ∷ 1 ∷ []) [] 1 false) ≡ ends (1 ∷ 2 ∷ []) [] short (1 ∷ 1 ∷ [])
  -- `q->f` in a condition reads at q: a flag of NULL is not read there
  pub flag_fails : seen (trial (tested (flag 1 (name 1))) 1 short [] (2 ∷ 1 ∷ []) [] 1 false) ≡ ends (1 ∷ 2 ∷ []) [] short (2 ∷ 1 ∷ [])
  -- one check for each term, in the order in which they are met; the left side comes first: p, p->next, q of `p->next->next = q->next`
  pub each_term_once : rows_of (plainly (assign_link (place 0 2) (via (name 0) 1) 1 (via (via (name 0) 1) 1) end)) ≡ row 2 0 ∷ row 2 0 ∷ []
  pub left_first : seen (trial (plainly (assign_link (place 0 2) (via (name 0) 1) 1 (via (name 1) 1) end)) 1 short [] (1 ∷ 1 ∷ []) [] 3 false) ≡ none
  pub left_fails : seen (trial (plainly (assign_link (place 0 2) (via (name 0) 1) 1 (via (name 1) 1) end)) 1 short [] (3 ∷ 1 ∷ []) [] 2 false)
      ≡ ends (1 ∷ 2 ∷ []) [] short (3 ∷ 1 ∷ [])
  pub right_fails : seen (trial (plainly (assign_link (place 0 2) (via (name 0) 1) 1 (via (name 1) 1) end)) 1 short [] (2 ∷ 1 ∷ []) [] 3 false)
      ≡ ends (1 ∷ 2 ∷ []) [] short (2 ∷ 1 ∷ [])
  -- a node assigned twice: the last assignment counts
  pub twice : seen (trial (plainly (assign_link (place 0 2) (name 0) 1 NULL (assign_link (place 1 3) (name 0) 1 (name 0) (assert (place 2 4) never end)))) 1 short [] (2 ∷ []) [] 3 false)
      ≡ ends (1 ∷ 2 ∷ 3 ∷ 4 ∷ []) [] ((1 ∷ 2 ∷ 1 ∷ []) ∷ []) (2 ∷ [])
  -- a loop's checks: `null`s of the condition first, then `entry` and `kept` of each invariant, then those of the body
  pub loop_checks : rows_of (walking end) ≡ row 3 3 ∷ row 3 4 ∷ row 4 3 ∷ row 4 4 ∷ row 5 0 ∷ row 9 1 ∷ []
  -- a segment ends at the head of a loop; none of its invariants is passed over
  pub entry_fails : seen (trial (walking end) 1 short [] (2 ∷ 3 ∷ []) [] 3 false) ≡ ends (1 ∷ 4 ∷ []) [] short (2 ∷ 3 ∷ [])
  -- from the head: once round, and back; the state must meet the invariants
  pub kept_holds : seen (trial (walking end) 2 short [] (2 ∷ 2 ∷ []) [] 4 true) ≡ ends (2 ∷ 5 ∷ 4 ∷ []) [] short (3 ∷ 2 ∷ [])
  pub kept_fails : seen (trial (walking (assign (place 4 6) 1 NULL end)) 2 short [] (2 ∷ 2 ∷ []) [] 4 false) ≡ ends (2 ∷ 5 ∷ 6 ∷ 4 ∷ []) [] short (3 ∷ 1 ∷ [])
  -- behind the loop, and by `break`; by `return` the run does not come there
  pub behind_loop : seen (trial (walking end) 2 short [] (1 ∷ 2 ∷ []) [] 6 false) ≡ ends (2 ∷ 8 ∷ 9 ∷ []) [] short (1 ∷ 2 ∷ [])
  pub break_loop : seen (trial (walking (break_out (place 4 6) end)) 2 short [] (2 ∷ 2 ∷ []) [] 6 false) ≡ ends (2 ∷ 5 ∷ 6 ∷ 8 ∷ 9 ∷ []) [] short (1 ∷ 2 ∷ [])
  pub return_loop : seen (trial (walking (leave (place 4 6) end)) 2 short [] (2 ∷ 2 ∷ []) [] 6 false) ≡ none
  -- "A loop in code that no run comes to has its segments all the same."
  pub behind_return : map (λ g. g.line) (segments (plainly (leave (place 0 2) (loop (place 1 3) always [] end end)))) ≡ 1 ∷ 3 ∷ []
  -- havocs give nodes in order, "a line as often as a statement on it was met"
  pub havocs_given : seen (trial (plainly (havoc (place 0 2) 1 (havoc (place 1 2) 0 (assert (place 2 3) never end)))) 1 short [] (1 ∷ 1 ∷ []) (3 ∷ 2 ∷ []) 1 false)
      ≡ ends (1 ∷ 2 ∷ 2 ∷ 3 ∷ []) (record { line = 2; node = 3 } ∷ record { line = 2; node = 2 } ∷ []) short (2 ∷ 3 ∷ [])
  -- between on a ring of three behind node 2: y is met no later than z
  pub between_on_ring : map (λ f. meets (state_of ((1 ∷ 3 ∷ 4 ∷ 2 ∷ []) ∷ []) [] (2 ∷ 3 ∷ 4 ∷ [])) (clause 1 f ∷ []))
      (between 1 (name 0) (name 1) (name 2) ∷ between 1 (name 0) (name 2) (name 1) ∷ between 1 (name 0) (name 0) (name 0) ∷ between 1 (name 0) (name 0) NULL ∷ [])
      ≡ true ∷ false ∷ true ∷ false ∷ []
  -- `reaches` by each link of its own; zero links are enough, and as many as there are nodes are not asked for
  pub reaches_by_lem : map (λ f. meets (state_of ((1 ∷ 3 ∷ 4 ∷ 1 ∷ []) ∷ (1 ∷ 1 ∷ 2 ∷ 3 ∷ []) ∷ []) [] (2 ∷ 4 ∷ [])) (clause 1 f ∷ []))
      (reaches 1 (name 0) (name 1) ∷ reaches 2 (name 0) (name 1) ∷ reaches 2 (name 1) (name 0) ∷ reaches 1 (name 0) NULL ∷ reaches 1 (name 0) (name 0) ∷ reaches 1 NULL (name 0) ∷ [])
      ≡ true ∷ false ∷ true ∷ true ∷ true ∷ false ∷ []
  -- NULL's "links lead to itself and its flags are 0"
  pub null_at_home : IsState (state_of ((1 ∷ 1 ∷ []) ∷ []) ((0 ∷ 1 ∷ []) ∷ []) [])
  pub null_astray : IsState (state_of ((2 ∷ 1 ∷ []) ∷ []) [] []) → ⊥
  pub null_flagged : IsState (state_of ((1 ∷ 1 ∷ []) ∷ []) ((1 ∷ 0 ∷ []) ∷ []) []) → ⊥
