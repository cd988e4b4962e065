-- A run of a routine is a chain of segments: where no check of a segment fails, none fails of the whole run (03, claim 4).
use Prim.Native.Nat.{ℕ, zero, suc}
use mathlib.Core.Path.{◌≡◌, refl, sym, ap, ◌∙◌}
use mathlib.Core.Bool.{Bool, true, false, cond}
use mathlib.Core.List.Memᴰ
use mathlib.Core.List.{List, [], ◌∷◌, ◌++◌, Memᴰ}
use Rattle.logic.specs.Heap.{Node}
use Rattle.routine_logic.specs.Syntax.{Term, Formula, Place, Clause, Code, end, assign, assign_link, assign_flag, havoc, assume, assert, cover, branch, loop, leave, break_out}
use Rattle.routine_logic.specs.State.{State, null_node, IsState, with_variable, with_link, with_flag}
use Rattle.routine_logic.specs.Formulas.{node, holds, meets}
use Rattle.routine_logic.specs.Runs.{can_fail, entry, kept, Events, Now, onward, Go, dereferenced, reading, testing, clauses}
use Rattle.routine_logic.specs.Runs.{giving, run, entering, returning, at_head, stop, Segment, loop_segments, rounds, looping}
use Rattle.routine_logic.specs.Answers.{Starts}
use Rattle.routine_theory.proofs.Passing.{Passing, Follows, checking_follows, reading_follows, testing_follows, clauses_follows}
use Rattle.routine_theory.proofs.States.{term_node, variable_kept, link_kept, flag_kept}

-- where a run can be: in a state, with nodes of it for the havocs to come
pub record Valid (n : Now) : Type 0 where
  pub is_state : IsState n.state
  pub nodes : (v : ℕ) → Memᴰ v n.nodes → Node n.state v

-- wherever a run can be, the second goes on without a failure if the first does
abbrev pub Onward : Go → Go → Type 0
Onward g h = (n : Now) → Valid n → Follows (g n) (h n)

-- no check fails of these segments
abbrev pub SegmentsPass : List Segment → Type 0
SegmentsPass gs = (g : Segment) → Memᴰ g gs → (n : Now) → Starts g.assumes n → Passing (g.go n)

-- a loop, whose segment passes: so does each number of rounds, if its body and what is behind it go on alike
module _ (p : Place) (f : Formula) (invariants : List Clause) (body body' : Go → Go → Go) (behind behind' : Go)
    (segment : (n : Now) → Starts invariants n → Passing (at_head p f invariants body behind stop n))
    (alike : (next' : Go) → Onward (returning p invariants stop) next' → Onward (body (returning p invariants stop) behind) (body' next' behind'))
    (along : Onward behind behind') where
  back_follows : (more : Go) → ((n : Now) → Starts invariants n → Passing (more n)) → Onward (returning p invariants stop) (returning p invariants more)
  unfolding returning can_fail
  back_follows more h n v =
      clauses_follows p.number kept 0 n.state invariants [] (more n) (λ j. refl)
      (λ m z. h n (record { is_state = v.is_state; met = m; nodes = v.nodes }))

  pub rounds_pass : (m : ℕ) (n : Now) → Starts invariants n → Passing (rounds m p f invariants body' behind' n)
  unfolding rounds at_head Passing
  rounds_pass zero n s = tt
  rounds_pass (suc m) n s =
      let v : Valid n = record { is_state = s.is_state; nodes = s.nodes } in
      let more : Go = rounds m p f invariants body' behind' in
      testing_follows p n.state f
      (λ b. cond b (body (returning p invariants stop) behind n) (behind n))
      (λ b. cond b (body' (returning p invariants more) behind' n) (behind' n))
      (elim [ true ↦ alike (returning p invariants more) (back_follows more (rounds_pass m)) n v | false ↦ along n v ])
      (segment n s)

left_part : (gs hs : List Segment) → SegmentsPass (gs ++ hs) → SegmentsPass gs
left_part gs hs h g m = h g (Memᴰ.append_left hs m)

right_part : (gs hs : List Segment) → SegmentsPass (gs ++ hs) → SegmentsPass hs
right_part gs hs h g m = h g (Memᴰ.append_right gs m)

cond_follows : (b : Bool) (es fs : Events) → Follows es fs → Follows (cond b es []) (cond b fs [])
cond_follows true es fs h = h
cond_follows false es fs h = λ z. z

-- a run can go on behind an assignment

valid_variable : (n : Now) (x u : ℕ) → Valid n → Node n.state u → Valid (onward n (with_variable n.state x u))
unfolding with_variable
valid_variable n x u v h = record { is_state = variable_kept n.state x u v.is_state h; nodes = v.nodes }

valid_link : (n : Now) (i u w : ℕ) → Valid n → (u ≡ null_node → ⊥) → Node n.state w → Valid (onward n (with_link n.state i u w))
unfolding with_link
valid_link n i u w v h k = record { is_state = link_kept n.state i u w v.is_state h k; nodes = v.nodes }

valid_flag : (n : Now) (j u : ℕ) (b : Bool) → Valid n → (u ≡ null_node → ⊥) → Valid (onward n (with_flag n.state j u b))
unfolding with_flag
valid_flag n j u b v h = record { is_state = flag_kept n.state j u b v.is_state h; nodes = v.nodes }

giving_follows : (p : Place) (x : ℕ) (s : State) (vs : List ℕ) → IsState s → ((u : ℕ) → Memᴰ u vs → Node s u) → (g h : Go) → Onward g h →
    Follows (giving p x s vs g) (giving p x s vs h)
unfolding giving Passing
giving_follows p x s [] is w g h k = λ z. z
giving_follows p x s (u ∷ us) is w g h k =
    k _ (valid_variable (record { state = s; nodes = us }) x u (record { is_state = is; nodes = λ y m. w y (Memᴰ.tail m) }) (w u (Memᴰ.head refl)))

module _ (m : ℕ) (final : Go) where
  -- a block, as a part of a segment and as a part of the whole run
  pub run_follows : (c : Code) (next next' out out' : Go) → SegmentsPass (loop_segments final c next out) → Onward next next' → Onward out out' →
      Onward (run entering final c next out) (run (looping m) final c next' out')
  unfolding run loop_segments Passing entering looping can_fail
  run_follows end next next' out out' pass k l n v = k n v
  run_follows (assign p x t rest) next next' out out' pass k l n v =
      reading_follows p n.state (dereferenced t) _ _ (λ safe. run_follows rest next next' out out' pass k l _
      (valid_variable n x _ v (term_node n.state v.is_state t)))
  run_follows (assign_link p t i u rest) next next' out out' pass k l n v =
      reading_follows p n.state (dereferenced t ++ (t ∷ []) ++ dereferenced u) _ _ (λ safe. run_follows rest next next' out out' pass k l _
      (valid_link n i _ _ v (safe t (Memᴰ.append_left (dereferenced u) (Memᴰ.append_right (dereferenced t) (Memᴰ.head refl)))) (term_node n.state v.is_state u)))
  run_follows (assign_flag p t j b rest) next next' out out' pass k l n v =
      reading_follows p n.state (dereferenced t ++ (t ∷ [])) _ _ (λ safe. run_follows rest next next' out out' pass k l _
      (valid_flag n j _ b v (safe t (Memᴰ.append_right (dereferenced t) (Memᴰ.head refl)))))
  run_follows (havoc p x rest) next next' out out' pass k l n v =
      giving_follows p x n.state n.nodes v.is_state v.nodes _ _ (run_follows rest next next' out out' pass k l)
  run_follows (assume p f rest) next next' out out' pass k l n v = cond_follows (holds n.state [] f) _ _ (run_follows rest next next' out out' pass k l n v)
  run_follows (assert p f rest) next next' out out' pass k l n v =
      checking_follows _ _ _ _ _ _ _ (λ h. run_follows rest next next' out out' pass k l n v)
  run_follows (cover p f rest) next next' out out' pass k l n v =
      checking_follows _ _ _ _ _ _ _ (λ h. run_follows rest next next' out out' pass k l n v)
  run_follows (branch p f a b rest) next next' out out' pass k l n v =
      let behind : Go = run entering final rest next out in
      let behind' : Go = run (looping m) final rest next' out' in
      let ys : List Segment = loop_segments final a behind out in
      let bs : List Segment = loop_segments final b behind out in
      let rs : List Segment = loop_segments final rest next out in
      let along : Onward behind behind' = run_follows rest next next' out out' (right_part (ys ++ bs) rs pass) k l in
      testing_follows p n.state f _ _
      (elim [
        | true ↦ run_follows a behind behind' out out' (left_part ys bs (left_part (ys ++ bs) rs pass)) along l n v
        | false ↦ run_follows b behind behind' out out' (right_part ys bs (left_part (ys ++ bs) rs pass)) along l n v
      ])
  run_follows (loop p f invariants body rest) next next' out out' pass k l n v =
      let behind : Go = run entering final rest next out in
      let behind' : Go = run (looping m) final rest next' out' in
      let back : Go = returning p invariants stop in
      let bs : List Segment = loop_segments final body back behind in
      let rs : List Segment = loop_segments final rest next out in
      let inner : SegmentsPass (bs ++ rs) = λ g h. pass g (Memᴰ.tail h) in
      let along : Onward behind behind' = run_follows rest next next' out out' (right_part bs rs inner) k l in
      clauses_follows p.number entry 0 n.state invariants [] _ (λ j. refl)
      (λ h z. rounds_pass p f invariants (run entering final body) (run (looping m) final body) behind behind'
      (pass _ (Memᴰ.head refl))
      (λ next'' onward. run_follows body back next'' behind behind' (left_part bs rs inner) onward along)
      along m n (record { is_state = v.is_state; met = h; nodes = v.nodes }))
  run_follows (leave p rest) next next' out out' pass k l n v = λ h. h
  run_follows (break_out p rest) next next' out out' pass k l n v = l n v
