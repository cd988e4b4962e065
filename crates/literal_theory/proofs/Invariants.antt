-- What holds along every path: of the start, and kept by each statement. Formulas and assigned links may be held to something.
use Prim.Native.Nat.{ℕ, suc}
use mathlib.Core.Path.{◌≡◌, refl}
use mathlib.Core.Bool.{Bool, true, false, not, cond}
use mathlib.Core.List.Memᴰ
use mathlib.Core.List.{List, [], ◌∷◌, ◌++◌, Memᴰ}
use Rattle.routine_logic.specs.Syntax.{Term, Formula, always, never, equal, unequal, reaches, between, flag, negation, both, either, implies, same, forall, Place, Clause, Code, end, assign, assign_link, assign_flag, havoc, assume, assert, cover, branch, loop, leave, break_out, Routine}
use Rattle.routine_logic.specs.Formulas.{same_truth}
use Rattle.routine_logic.specs.Runs.{Kind, null_of, asserted, covered, entry, kept, ensured, can_fail, dereferenced, dereferenced_in}
use Rattle.path_theory.specs.Points.{Point, name_of, named, linked, marked, havocked}
use Rattle.path_theory.specs.Paths.{gives, Trail, further, saying, Case, Cases, Follow, asking, not_null, reading_paths, deciding, testing_paths, clauses_paths, paths, SegmentPaths, finishing_paths, returning_paths, head_paths, loop_paths, segment_paths, start_trail}
use Rattle.literal_theory.proofs.Names.{Each, each_cons, each_append}

-- what formulas F and assigned links L are held to, in a routine
module _ (F : Formula → Type 0) (L : ℕ → Type 0) where
  -- the atoms of a condition
  unfoldable pub InTest : Formula → Type 0
  InTest (negation f) = InTest f
  InTest (both f g) = InTest f × InTest g
  InTest (either f g) = InTest f × InTest g
  InTest (implies f g) = InTest f × InTest g
  InTest (same f g) = InTest f × InTest g
  InTest always = Unit
  InTest never = Unit
  InTest (equal t u) = F (equal t u)
  InTest (unequal t u) = F (unequal t u)
  InTest (reaches i t u) = F (reaches i t u)
  InTest (between i t u v) = F (between i t u v)
  InTest (flag j t) = F (flag j t)
  InTest (forall f) = F (forall f)

  abbrev pub InClauses : List Clause → Type 0
  InClauses cs = Each (λ (c : Clause). F c.formula) cs

  unfoldable pub InCode : Code → Type 0
  InCode end = Unit
  InCode (assign p x u rest) = InCode rest
  InCode (assign_link p u i v rest) = L i × InCode rest
  InCode (assign_flag p u j b rest) = InCode rest
  InCode (havoc p x rest) = InCode rest
  InCode (assume p f rest) = F f × InCode rest
  InCode (assert p f rest) = F f × InCode rest
  InCode (cover p f rest) = F f × InCode rest
  InCode (branch p f yes_code no_code rest) = InTest f × InCode yes_code × InCode no_code × InCode rest
  InCode (loop p f invariants body rest) = InTest f × InClauses invariants × InCode body × InCode rest
  InCode (leave p rest) = InCode rest
  InCode (break_out p rest) = InCode rest

  pub record InRoutine (r : Routine) : Type 0 where
    pub requires : InClauses r.requires
    pub ensures : InClauses r.ensures
    pub body : InCode r.body

-- a trail T that statements keep
pub record Invariant (T : Trail → Type 0) (F : Formula → Type 0) (L : ℕ → Type 0) : Type 0 where
  pub at_start_lem : (cs : List Clause) → InClauses F L cs → T (start_trail cs)
  pub not_null_lem : (u : Term) → F (not_null u)
  pub says : (t : Trail) (b : Bool) (f : Formula) → F f → T t → T (saying t b f)
  pub names : (t : Trail) (x : ℕ) (u : Term) → T t → T (further t (named t.point x (name_of t.point u)))
  pub links : (t : Trail) (i : ℕ) (u v : Term) → L i → T t → T (further t (linked t.point i (name_of t.point u) (name_of t.point v)))
  pub marks : (t : Trail) (j : ℕ) (u : Term) (b : Bool) → T t → T (further t (marked t.point j (name_of t.point u) b))
  pub havocs : (t : Trail) (x : ℕ) → T t → T (record { point = havocked t.point x; facts = gives t.point.havocs ∷ t.facts })

module _ (T : Trail → Type 0) (F : Formula → Type 0) (L : ℕ → Type 0) (inv : Invariant T F L) where
  abbrev Holds : Case → Type 0
  Holds x = T x.trail

  abbrev Keeps : Follow → Type 0
  Keeps g = (t : Trail) → T t → Each Holds (g t)

  none_kept : Each Holds []
  none_kept x m = absurd (Memᴰ.not-nil m)

  cond-kept : (b : Bool) (xs ys : Cases) → Each Holds xs → Each Holds ys → Each Holds (cond b xs ys)
  cond-kept true xs ys h k = h
  cond-kept false xs ys h k = k

  cond-follow : (b : Bool) (g h : Follow) → Keeps g → Keeps h → Keeps (cond b g h)
  cond-follow true g h k l = k
  cond-follow false g h k l = l

  asking-kept : (number : ℕ) (kind : Kind) (f : Formula) (next : Follow) → F f → Keeps next → Keeps (λ t. asking number kind f t next)
  unfolding asking
  asking-kept number kind f next q keeps t o =
      let yes_facts = inv.says t true f q o in
      let no_facts = inv.says t false f q o in
      each_cons Holds _ _ yes_facts (each_cons Holds _ _ no_facts
      (each_append Holds (next (saying t true f)) (cond (can_fail kind) [] (next (saying t false f))) (keeps (saying t true f) yes_facts)
      (cond-kept (can_fail kind) [] (next (saying t false f)) none_kept (keeps (saying t false f) no_facts))))

  reading_kept : (p : Place) (us : List Term) (next : Follow) → Keeps next → Keeps (λ t. reading_paths p us t next)
  unfolding reading_paths
  reading_kept p [] next keeps = keeps
  reading_kept p (u ∷ us) next keeps =
      asking-kept p.number (null_of u) (not_null u) (λ t. reading_paths p us t next) (inv.not_null_lem u) (reading_kept p us next keeps)

  either_kept : (f : Formula) (next : Bool → Follow) → F f → ((b : Bool) → Keeps (next b)) → Keeps (λ t. next true (saying t true f) ++ next false (saying t false f))
  either_kept f next q keeps t o =
      each_append Holds (next true (saying t true f)) (next false (saying t false f))
      (keeps true (saying t true f) (inv.says t true f q o)) (keeps false (saying t false f) (inv.says t false f q o))

  deciding-kept : (p : Place) (f : Formula) (next : Bool → Follow) → F f → ((b : Bool) → Keeps (next b)) → Keeps (λ t. deciding p f t next)
  unfolding deciding
  deciding-kept p f next q keeps = reading_kept p (dereferenced_in f) _ (either_kept f next q keeps)

  testing_kept : (p : Place) (f : Formula) (next : Bool → Follow) → InTest F L f → ((b : Bool) → Keeps (next b)) → Keeps (λ t. testing_paths p f t next)
  unfolding testing_paths InTest
  testing_kept p (negation f) next q keeps = testing_kept p f (λ b. next (not b)) q (λ b. keeps (not b))
  testing_kept p (both f g) next q keeps =
      testing_kept p f _ q.0 (λ b t o. cond-kept b (testing_paths p g t next) (next false t) (testing_kept p g next q.1 keeps t o) (keeps false t o))
  testing_kept p (either f g) next q keeps =
      testing_kept p f _ q.0 (λ b t o. cond-kept b (next true t) (testing_paths p g t next) (keeps true t o) (testing_kept p g next q.1 keeps t o))
  testing_kept p (implies f g) next q keeps =
      testing_kept p f _ q.0 (λ b t o. cond-kept b (testing_paths p g t next) (next true t) (testing_kept p g next q.1 keeps t o) (keeps true t o))
  testing_kept p (same f g) next q keeps =
      testing_kept p f _ q.0 (λ b. testing_kept p g (λ c. next (same_truth b c)) q.1 (λ c. keeps (same_truth b c)))
  testing_kept p always next q keeps = keeps true
  testing_kept p never next q keeps = keeps false
  testing_kept p (equal u v) next q keeps = deciding-kept p (equal u v) next q keeps
  testing_kept p (unequal u v) next q keeps = deciding-kept p (unequal u v) next q keeps
  testing_kept p (reaches i u v) next q keeps = deciding-kept p (reaches i u v) next q keeps
  testing_kept p (between i u v w) next q keeps = deciding-kept p (between i u v w) next q keeps
  testing_kept p (flag j u) next q keeps = deciding-kept p (flag j u) next q keeps
  testing_kept p (forall f) next q keeps = either_kept (forall f) next q keeps

  clauses_kept : (number : ℕ) (kind : ℕ → Kind) (i : ℕ) (cs : List Clause) (next : Follow) → InClauses F L cs → Keeps next → Keeps (λ t. clauses_paths number kind i cs t next)
  unfolding clauses_paths
  clauses_kept number kind i [] next q keeps = keeps
  clauses_kept number kind i (c ∷ cs) next q keeps =
      asking-kept number (kind i) c.formula (λ t. clauses_paths number kind (suc i) cs t next) (q c (Memᴰ.head refl))
      (clauses_kept number kind (suc i) cs next (λ d m. q d (Memᴰ.tail m)) keeps)

  no_more : Keeps (λ t. [])
  no_more t o = none_kept

  -- the paths of a segment, and what it assumes
  abbrev Segmented : SegmentPaths → Type 0
  Segmented h = Keeps h.follow × InClauses F L h.assumes

  module _ (final : Follow) (final_keeps : Keeps final) where
    paths-kept : (c : Code) (next out : Follow) → InCode F L c → Keeps next → Keeps out → Keeps (paths final c next out)
    unfolding paths InCode
    paths-kept end next out q k l = k
    paths-kept (assign p x u rest) next out q k l = reading_kept p (dereferenced u) _ (λ t o. paths-kept rest next out q k l _ (inv.names t x u o))
    paths-kept (assign_link p u i v rest) next out q k l =
        reading_kept p (dereferenced u ++ (u ∷ []) ++ dereferenced v) _ (λ t o. paths-kept rest next out q.1 k l _ (inv.links t i u v q.0 o))
    paths-kept (assign_flag p u j b rest) next out q k l =
        reading_kept p (dereferenced u ++ (u ∷ [])) _ (λ t o. paths-kept rest next out q k l _ (inv.marks t j u b o))
    paths-kept (havoc p x rest) next out q k l = λ t o. paths-kept rest next out q k l _ (inv.havocs t x o)
    paths-kept (assume p f rest) next out q k l = λ t o. paths-kept rest next out q.1 k l (saying t true f) (inv.says t true f q.0 o)
    paths-kept (assert p f rest) next out q k l = asking-kept p.number asserted f (paths final rest next out) q.0 (paths-kept rest next out q.1 k l)
    paths-kept (cover p f rest) next out q k l = asking-kept p.number covered f (paths final rest next out) q.0 (paths-kept rest next out q.1 k l)
    paths-kept (branch p f yes_code no_code rest) next out q k l =
        let behind : Keeps (paths final rest next out) = paths-kept rest next out q.3 k l in
        testing_kept p f _ q.0 (λ b. cond-follow b (paths final yes_code (paths final rest next out) out) (paths final no_code (paths final rest next out) out)
        (paths-kept yes_code (paths final rest next out) out q.1 behind l) (paths-kept no_code (paths final rest next out) out q.2 behind l))
    paths-kept (loop p f invariants body rest) next out q k l = clauses_kept p.number entry 0 invariants (λ t. []) q.1 no_more
    paths-kept (leave p rest) next out q k l = final_keeps
    paths-kept (break_out p rest) next out q k l = l

    returning_kept : (p : Place) (invariants : List Clause) → InClauses F L invariants → Keeps (returning_paths p invariants)
    unfolding returning_paths
    returning_kept p invariants q = clauses_kept p.number kept 0 invariants (λ t. []) q no_more

    head-kept : (p : Place) (f : Formula) (invariants : List Clause) (body : Code) (behind : Follow) → InTest F L f → InClauses F L invariants → InCode F L body → Keeps behind →
        Keeps (head_paths p f invariants (paths final body) behind)
    unfolding head_paths
    head-kept p f invariants body behind q q' q'' k =
        testing_kept p f _ q (λ b. cond-follow b (paths final body (returning_paths p invariants) behind) behind
        (paths-kept body (returning_paths p invariants) behind q'' (returning_kept p invariants q') k) k)

    loops_kept : (c : Code) (next out : Follow) → InCode F L c → Keeps next → Keeps out → Each Segmented (loop_paths final c next out)
    unfolding loop_paths InCode
    loops_kept end next out q k l = λ h m. absurd (Memᴰ.not-nil m)
    loops_kept (assign p x u rest) next out q k l = loops_kept rest next out q k l
    loops_kept (assign_link p u i v rest) next out q k l = loops_kept rest next out q.1 k l
    loops_kept (assign_flag p u j b rest) next out q k l = loops_kept rest next out q k l
    loops_kept (havoc p x rest) next out q k l = loops_kept rest next out q k l
    loops_kept (assume p f rest) next out q k l = loops_kept rest next out q.1 k l
    loops_kept (assert p f rest) next out q k l = loops_kept rest next out q.1 k l
    loops_kept (cover p f rest) next out q k l = loops_kept rest next out q.1 k l
    loops_kept (branch p f yes_code no_code rest) next out q k l =
        let behind : Keeps (paths final rest next out) = paths-kept rest next out q.3 k l in
        each_append Segmented _ (loop_paths final rest next out)
        (each_append Segmented (loop_paths final yes_code (paths final rest next out) out) (loop_paths final no_code (paths final rest next out) out)
        (loops_kept yes_code (paths final rest next out) out q.1 behind l) (loops_kept no_code (paths final rest next out) out q.2 behind l))
        (loops_kept rest next out q.3 k l)
    loops_kept (loop p f invariants body rest) next out q k l =
        let behind : Keeps (paths final rest next out) = paths-kept rest next out q.3 k l in
        each_cons Segmented _ _ (head-kept p f invariants body (paths final rest next out) q.0 q.1 q.2 behind, q.1)
        (each_append Segmented (loop_paths final body (returning_paths p invariants) (paths final rest next out)) (loop_paths final rest next out)
        (loops_kept body (returning_paths p invariants) (paths final rest next out) q.2 (returning_kept p invariants q.1) behind) (loops_kept rest next out q.3 k l))
    loops_kept (leave p rest) next out q k l = loops_kept rest next out q k l
    loops_kept (break_out p rest) next out q k l = loops_kept rest next out q k l

  finishing_kept : (r : Routine) → InClauses F L r.ensures → Keeps (finishing_paths r)
  unfolding finishing_paths
  finishing_kept r q = clauses_kept 0 ensured 0 r.ensures (λ t. []) q no_more

  segments_kept : (r : Routine) → InRoutine F L r → Each Segmented (segment_paths r)
  unfolding segment_paths
  segments_kept r q =
      let done = finishing_kept r q.ensures in
      each_cons Segmented _ _
      (paths-kept (finishing_paths r) done r.body (finishing_paths r) (λ t. []) q.body done no_more, q.requires)
      (loops_kept (finishing_paths r) done r.body (finishing_paths r) (λ t. []) q.body done no_more)

  -- every case that a path of the routine comes to
  pub cases_keep : (r : Routine) → InRoutine F L r → (h : SegmentPaths) → Memᴰ h (segment_paths r) → (x : Case) → Memᴰ x (h.follow (start_trail h.assumes)) → T x.trail
  cases_keep r q h m x m' = let s = segments_kept r q h m in s.0 (start_trail h.assumes) (inv.at_start_lem h.assumes s.1) x m'

-- a routine that is held to nothing
module _ where
  abbrev Any : Formula → Type 0
  Any f = Unit

  abbrev AnyLink : ℕ → Type 0
  AnyLink i = Unit

  test_any : (f : Formula) → InTest Any AnyLink f
  unfolding InTest
  test_any (negation f) = test_any f
  test_any (both f g) = (test_any f, test_any g)
  test_any (either f g) = (test_any f, test_any g)
  test_any (implies f g) = (test_any f, test_any g)
  test_any (same f g) = (test_any f, test_any g)
  test_any always = tt
  test_any never = tt
  test_any (equal t u) = tt
  test_any (unequal t u) = tt
  test_any (reaches i t u) = tt
  test_any (between i t u v) = tt
  test_any (flag j t) = tt
  test_any (forall f) = tt

  code_any : (c : Code) → InCode Any AnyLink c
  unfolding InCode
  code_any end = tt
  code_any (assign p x u rest) = code_any rest
  code_any (assign_link p u i v rest) = (tt, code_any rest)
  code_any (assign_flag p u j b rest) = code_any rest
  code_any (havoc p x rest) = code_any rest
  code_any (assume p f rest) = (tt, code_any rest)
  code_any (assert p f rest) = (tt, code_any rest)
  code_any (cover p f rest) = (tt, code_any rest)
  code_any (branch p f yes_code no_code rest) = (test_any f, code_any yes_code, code_any no_code, code_any rest)
  code_any (loop p f invariants body rest) = (test_any f, λ c m. tt, code_any body, code_any rest)
  code_any (leave p rest) = code_any rest
  code_any (break_out p rest) = code_any rest

  pub routine_any : (r : Routine) → InRoutine (λ f. Unit) (λ i. Unit) r
  routine_any r = record { requires = λ c m. tt; ensures = λ c m. tt; body = code_any r.body }
