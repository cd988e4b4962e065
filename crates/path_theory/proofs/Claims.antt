-- Segments and their paths, one by one.
use Prim.Native.Nat.{ℕ}
use mathlib.Core.Path.{◌≡◌, refl, sym, ap, ◌∙◌, subst}
use mathlib.Core.Logic.{◌⊎◌, ◌↔◌, ⊎_elim, inl, inr}
use mathlib.Core.Bool.{Bool, true, false, cond}
use mathlib.Core.List.{List, [], ◌∷◌, ◌++◌, map, Memᴰ}
use Rattle.logic.specs.Search.{all, ◌and◌}
use Rattle.routine_logic.specs.Syntax.{Formula, Place, Clause, Code, end, assign, assign_link, assign_flag, havoc, assume, assert, cover, branch, loop, leave, break_out, Routine}
use Rattle.routine_logic.specs.State.{State}
use Rattle.routine_logic.specs.Formulas.{holds, meets, same_truth}
use Rattle.routine_logic.specs.Runs.{Check, Event, met, gave, checked, Events, Now, Go, stop, entry, kept, ensured, run, finishing, entering, returning, at_head, Segment, loop_segments, segments}
use Rattle.path_theory.specs.Points.{Point, at_start, node_of, link_of, flag_of, state_at}
use Rattle.path_theory.specs.Paths.{Fact, says, fact_holds, Trail, Case, Cases, Follow, paths, SegmentPaths, finishing_paths, returning_paths, head_paths, loop_paths, segment_paths, start_trail}
use Rattle.path_theory.specs.Claims.{RunComes, Tells, PathComes, SameSegment, Paired, none, one_more, PathsExact}
use Rattle.path_theory.proofs.States.{start_state}
use Rattle.path_theory.proofs.Exact.{Meets, Sees, SeesOne, Hold, Exactly, Grows, Exact, nothing, no_case, clauses_exact, clauses-grows, testing_exact, testing-grows, paths_grow, run_exact}

-- what happens, in terms of membership

module _ (s : State) (nodes : List ℕ) (c : Check) (b : Bool) (at : State) where
  same_event : (d : Check) (a : Bool) (l : ℕ) (t : State) → d ≡ c → a ≡ b → t ≡ at → checked c b l at ≡ checked d a l t
  same_event d a l t e f g = sym (ap (λ (x : Check). checked x a l t) e ∙ ap (λ (x : Bool). checked c x l t) f ∙ ap (checked c b l) g)

  meets_member : (es : Events) → Meets s nodes c b at es → (l : ℕ) × Memᴰ (checked c b l at) es
  unfolding Meets
  meets_member [] h = absurd h
  meets_member (met l ∷ es) h = let r = meets_member es h in (r.0, Memᴰ.tail r.1)
  meets_member (gave l v ∷ es) h = let r = meets_member es h in (r.0, Memᴰ.tail r.1)
  meets_member (checked d a l t ∷ es) h =
      ⊎_elim (λ x. (l, Memᴰ.head (same_event d a l t x.0 x.1 x.2))) (λ x. let r = meets_member es x in (r.0, Memᴰ.tail r.1)) h

  -- what an event says of itself
  About : Event → Type 0
  About (met l) = ⊥
  About (gave l v) = ⊥
  About (checked d a l t) = (d ≡ c) × (a ≡ b) × (t ≡ at)

  member_meets : (l : ℕ) (es : Events) → Memᴰ (checked c b l at) es → Meets s nodes c b at es
  unfolding Meets About
  member_meets l [] m = elim m [ ]
  member_meets l (met k ∷ es) (Memᴰ.head e) = absurd (subst About e (refl, refl, refl))
  member_meets l (gave k v ∷ es) (Memᴰ.head e) = absurd (subst About e (refl, refl, refl))
  member_meets l (checked d a k t ∷ es) (Memᴰ.head e) = inl (subst About e (refl, refl, refl))
  member_meets l (met k ∷ es) (Memᴰ.tail m) = member_meets l es m
  member_meets l (gave k v ∷ es) (Memᴰ.tail m) = member_meets l es m
  member_meets l (checked d a k t ∷ es) (Memᴰ.tail m) = inr (member_meets l es m)

  sees_member : (xs : Cases) → Sees s nodes c b at xs → (x : Case) × Memᴰ x xs × Tells s nodes c b at x
  unfolding Sees
  sees_member [] h = absurd h
  sees_member (x ∷ xs) h =
      ⊎_elim
      (λ y. (x, Memᴰ.head refl, record { same_check = y.0; same_value = y.1; facts_hold = y.2; same_state = y.3 }))
      (λ y. let r = sees_member xs y in (r.0, Memᴰ.tail r.1, r.2))
      h

  member_sees : (x : Case) (xs : Cases) → Memᴰ x xs → Tells s nodes c b at x → Sees s nodes c b at xs
  unfolding Sees
  member_sees x [] m t = elim m [ ]
  member_sees x (y ∷ ys) (Memᴰ.head e) t =
      inl (subst (SeesOne s nodes c b at) e (t.same_check, t.same_value, t.facts_hold, t.same_state))
  member_sees x (y ∷ ys) (Memᴰ.tail m) t = inr (member_sees x ys m t)

-- what a segment assumes, as facts of its paths
start_hold : (s : State) (nodes : List ℕ) (cs : List Clause) → all (fact_holds s nodes) (start_trail cs).facts ≡ meets s cs
unfolding start_trail meets all fact_holds same_truth
start_hold s nodes [] = refl
start_hold s nodes (c ∷ cs) = ap (holds (state_at s nodes at_start) [] c.formula and◌) (start_hold s nodes cs) ∙ ap (λ (z : State). holds z [] c.formula and meets s cs) (start_state s nodes)

-- a segment and its paths, by what they do from any point on
same_segment : (line : ℕ) (assumes : List Clause) (g : Go) (h : Follow) → ((s : State) (nodes : List ℕ) → Exact s nodes g h) → ((s : State) (nodes : List ℕ) → Grows s nodes h) →
    SameSegment (record { line = line; assumes = assumes; go = g }) (record { assumes = assumes; follow = h })
unfolding start_trail state_at at_start node_of link_of flag_of
same_segment line assumes g h exact grows =
    record {
      same_assumed = refl;
      exact = λ s nodes m c b at.
          let e = exactly s nodes m c b at in (
            λ r. sees_member s nodes c b at _ (e.0 (member_meets s nodes c b at r.0 _ r.1)),
            λ r. meets_member s nodes c b at _ (e.1 (member_sees s nodes c b at r.0 _ r.1 r.2)),
          );
      assumed = λ s nodes c b at r.
          sym (start_hold s nodes assumes) ∙ grows s nodes (start_trail assumes) c b at (member_sees s nodes c b at r.0 _ r.1 r.2);
    }
  where
    exactly : (s : State) (nodes : List ℕ) → meets s assumes ≡ true → Exactly s nodes (g (record { state = s; nodes = nodes })) (h (start_trail assumes))
    exactly s nodes m = exact s nodes at_start _ (start_hold s nodes assumes ∙ m)

-- the ends of segments

module _ (s : State) (nodes : List ℕ) where
  no_more : Grows s nodes (λ t. [])
  no_more t c b at h = absurd (no_case s nodes c b at h)

  stop_exact : Exact s nodes stop (λ t. [])
  stop_exact p fs hold = nothing s nodes [] (no_case s nodes)

  finish_exact : (r : Routine) → Exact s nodes (finishing r) (finishing_paths r)
  unfolding finishing finishing_paths
  finish_exact r p fs hold = clauses_exact s nodes 0 ensured 0 r.ensures p fs hold (λ t. []) [] no_more (λ gs h. nothing s nodes [] (no_case s nodes))

  finish_grows : (r : Routine) → Grows s nodes (finishing_paths r)
  unfolding finishing_paths
  finish_grows r = clauses-grows s nodes 0 ensured 0 r.ensures (λ t. []) no_more

  return_exact : (q : Place) (invariants : List Clause) → Exact s nodes (returning q invariants stop) (returning_paths q invariants)
  unfolding returning returning_paths
  return_exact q invariants p fs hold =
      clauses_exact s nodes q.number kept 0 invariants p fs hold (λ t. []) [] no_more (λ gs h. nothing s nodes [] (no_case s nodes))

  return_grows : (q : Place) (invariants : List Clause) → Grows s nodes (returning_paths q invariants)
  unfolding returning_paths
  return_grows q invariants = clauses-grows s nodes q.number kept 0 invariants (λ t. []) no_more

  cond-follow : (b : Bool) (g h : Follow) → Grows s nodes g → Grows s nodes h → Grows s nodes (cond b g h)
  cond-follow true g h k l = k
  cond-follow false g h k l = l

  head-grows : (q : Place) (f : Formula) (invariants : List Clause) (body : Follow → Follow → Follow) (behind : Follow) →
      Grows s nodes (body (returning_paths q invariants) behind) → Grows s nodes behind → Grows s nodes (head_paths q f invariants body behind)
  unfolding head_paths
  head-grows q f invariants body behind k l =
      testing-grows s nodes q f _ (λ b. cond-follow b (body (returning_paths q invariants) behind) behind k l)

  head_exact : (q : Place) (f : Formula) (invariants : List Clause) (body : Go → Go → Go) (body' : Follow → Follow → Follow) (behind : Go) (behind' : Follow) →
      Grows s nodes (body' (returning_paths q invariants) behind') → Grows s nodes behind' →
      Exact s nodes (body (returning q invariants stop) behind) (body' (returning_paths q invariants) behind') → Exact s nodes behind behind' →
      Exact s nodes (at_head q f invariants body behind stop) (head_paths q f invariants body' behind')
  unfolding at_head head_paths
  head_exact q f invariants body body' behind behind' gb gn eb en p fs hold =
      testing_exact s nodes q f p fs hold _ (λ b. cond b (body' (returning_paths q invariants) behind') behind')
      (λ b. cond-follow b (body' (returning_paths q invariants) behind') behind' gb gn)
      (elim [ true ↦ eb p | false ↦ en p ])

-- A block at any state: both go on alike.
pub record Alike (g : Go) (h : Follow) : Type 0 where
  pub exact : (s : State) (nodes : List ℕ) → Exact s nodes g h
  pub grows : (s : State) (nodes : List ℕ) → Grows s nodes h

paired_append : {gs gs' : List Segment} {hs hs' : List SegmentPaths} → Paired gs hs → Paired gs' hs' → Paired (gs ++ gs') (hs ++ hs')
paired_append none q = q
paired_append (one_more x p) q = one_more x (paired_append p q)

module _ (final : Go) (final' : Follow) (ends : Alike final final') where
  block : (x : Code) (next out : Go) (next' out' : Follow) → Alike next next' → Alike out out' → Alike (run entering final x next out) (paths final' x next' out')
  block x next out next' out' k l =
      record {
        exact = λ s nodes. run_exact s nodes final final' (ends.grows s nodes) (ends.exact s nodes) x next out next' out'
            (k.grows s nodes) (l.grows s nodes) (k.exact s nodes) (l.exact s nodes);
        grows = λ s nodes. paths_grow s nodes final' (ends.grows s nodes) x next' out' (k.grows s nodes) (l.grows s nodes);
      }

  pub loops_paired : (x : Code) (next out : Go) (next' out' : Follow) → Alike next next' → Alike out out' → Paired (loop_segments final x next out) (loop_paths final' x next' out')
  unfolding loop_segments loop_paths
  loops_paired end next out next' out' k l = none
  loops_paired (assign q x u rest) next out next' out' k l = loops_paired rest next out next' out' k l
  loops_paired (assign_link q u i v rest) next out next' out' k l = loops_paired rest next out next' out' k l
  loops_paired (assign_flag q u j b rest) next out next' out' k l = loops_paired rest next out next' out' k l
  loops_paired (havoc q x rest) next out next' out' k l = loops_paired rest next out next' out' k l
  loops_paired (assume q f rest) next out next' out' k l = loops_paired rest next out next' out' k l
  loops_paired (assert q f rest) next out next' out' k l = loops_paired rest next out next' out' k l
  loops_paired (cover q f rest) next out next' out' k l = loops_paired rest next out next' out' k l
  loops_paired (branch q f a b rest) next out next' out' k l =
      let behind = block rest next out next' out' k l in
      paired_append (paired_append (loops_paired a _ out _ out' behind l) (loops_paired b _ out _ out' behind l)) (loops_paired rest next out next' out' k l)
  loops_paired (loop q f invariants body rest) next out next' out' k l =
      let behind = block rest next out next' out' k l in
      let back : Alike (returning q invariants stop) (returning_paths q invariants) =
      record { exact = λ s nodes. return_exact s nodes q invariants; grows = λ s nodes. return_grows s nodes q invariants } in
      let inside = block body (returning q invariants stop) _ (returning_paths q invariants) _ back behind in
      one_more
      (same_segment q.line invariants _ _
      (λ s nodes. head_exact s nodes q f invariants (run entering final body) (paths final' body) _ _
      (inside.grows s nodes) (behind.grows s nodes) (inside.exact s nodes) (behind.exact s nodes))
      (λ s nodes. head-grows s nodes q f invariants (paths final' body) _ (inside.grows s nodes) (behind.grows s nodes)))
      (paired_append (loops_paired body _ _ _ _ back behind) (loops_paired rest next out next' out' k l))
  loops_paired (leave q rest) next out next' out' k l = loops_paired rest next out next' out' k l
  loops_paired (break_out q rest) next out next' out' k l = loops_paired rest next out next' out' k l

pub paths_exact : PathsExact
unfolding segments segment_paths
paths_exact r =
    let final : Alike (finishing r) (finishing_paths r) = record { exact = λ s nodes. finish_exact s nodes r; grows = λ s nodes. finish_grows s nodes r } in
    let nowhere : Alike stop (λ t. []) = record { exact = λ s nodes. stop_exact s nodes; grows = λ s nodes. no_more s nodes } in
    let whole = block (finishing r) (finishing_paths r) final r.body (finishing r) stop (finishing_paths r) (λ t. []) final nowhere in
    one_more
    (same_segment r.line r.requires _ _ whole.exact whole.grows)
    (loops_paired (finishing r) (finishing_paths r) final r.body (finishing r) stop (finishing_paths r) (λ t. []) final nowhere)
