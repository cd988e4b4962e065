-- Whatever a run of a segment comes to is one of the routine's checks.
use Prim.Native.Nat.{ℕ, suc}
use mathlib.Core.Path.{◌≡◌, refl, sym, ap, ◌∙◌, subst}
use mathlib.Core.Logic.{⊎_elim}
use mathlib.Core.Bool.{Bool, true, false, not, cond, false≢true}
use mathlib.Core.List.Memᴰ
use mathlib.Core.List.{List, [], ◌∷◌, ◌++◌, map, Memᴰ}
use lib.Dec.{eqb}
use Rattle.logic.specs.Search.{◌and◌, select}
use Rattle.theory.proofs.Basics.Search.{bool_cases, and_left, and_right, not_intro, select_intro}
use Rattle.theory.proofs.Basics.Compare.{eqb-true}
use Rattle.routine_logic.specs.Syntax.{Base, null, variable, bound, Term, Formula, always, never, equal, unequal, reaches, between}
use Rattle.routine_logic.specs.Syntax.{flag, negation, both, either, implies, same, forall, Place, Clause, Code, end, assign}
use Rattle.routine_logic.specs.Syntax.{assign_link, assign_flag, havoc, assume, assert, cover, branch, loop, leave, break_out, Routine}
use Rattle.routine_logic.specs.State.{State, with_variable}
use Rattle.routine_logic.specs.Formulas.{node, holds, same_truth}
use Rattle.routine_logic.specs.Runs.{Kind, null_of, asserted, covered, entry, kept, ensured, Check, can_fail, Event, met, gave}
use Rattle.routine_logic.specs.Runs.{checked, Events, checking, Now, Go, stop, dereferenced, dereferenced_in, reading, testing}
use Rattle.routine_logic.specs.Runs.{clauses, giving, run, finishing, entering, returning, at_head, Segment, loop_segments, segments}
use Rattle.routine_logic.specs.Checks.{same_base, same_links, same_term, once, terms_of, Listed, listed, nulls, invariant_checks, ensures_checks, code_checks, checks}
use Rattle.routine_logic.specs.Answers.{Run, events, Happens}
use Rattle.routine_logic.specs.Claims.{CheckOf, ChecksListed}

-- terms that are the same are equal

base_same : (b c : Base) → same_base b c ≡ true → b ≡ c
unfolding same_base
base_same null null h = refl
base_same null (variable y) h = absurd (false≢true h)
base_same null (bound j) h = absurd (false≢true h)
base_same (variable x) null h = absurd (false≢true h)
base_same (variable x) (variable y) h = ap variable (eqb-true x y h)
base_same (variable x) (bound j) h = absurd (false≢true h)
base_same (bound i) null h = absurd (false≢true h)
base_same (bound i) (variable y) h = absurd (false≢true h)
base_same (bound i) (bound j) h = ap bound (eqb-true i j h)

links-same : (is js : List ℕ) → same_links is js ≡ true → is ≡ js
unfolding same_links
links-same [] [] h = refl
links-same [] (j ∷ js) h = absurd (false≢true h)
links-same (i ∷ is) [] h = absurd (false≢true h)
links-same (i ∷ is) (j ∷ js) h =
    ap (◌∷ is) (eqb-true i j (and_left _ _ h)) ∙ ap (j ∷◌) (links-same is js (and_right (eqb i j) (same_links is js) h))

abbrev term_of : Base → List ℕ → Term
term_of b is = record { base = b; links = is }

pub term_same : (t u : Term) → same_term t u ≡ true → t ≡ u
unfolding same_term
term_same t u h =
    ap (λ b. term_of b t.links) (base_same t.base u.base (and_left _ _ h))
    ∙ ap (term_of u.base) (links-same t.links u.links (and_right (same_base t.base u.base) _ h))

-- each term is among those that come once

once_in : (t : Term) (ts : List Term) → Memᴰ t ts → Memᴰ t (once ts)
unfolding once
once_in t [] m = elim m [ ]
once_in t (u ∷ us) (Memᴰ.head e) = Memᴰ.head e
once_in t (u ∷ us) (Memᴰ.tail m) =
    ⊎_elim
    (λ h. Memᴰ.head (sym (term_same u t h)))
    (λ h. Memᴰ.tail (select_intro (λ w. not (same_term u w)) t (once_in t us m) (not_intro h)))
    (bool_cases (same_term u t))

-- Events whose checks are all of some kind, and how they are made.

module _ (P : Check → Type 0) where
  unfoldable pub Within : Events → Type 0
  Within [] = Unit
  Within (met l ∷ es) = Within es
  Within (gave l v ∷ es) = Within es
  Within (checked c b l s ∷ es) = P c × Within es

  abbrev at : ℕ → Kind → Type 0
  at number kind = P (record { statement = number; kind = kind })

  pub within_elim : (es : Events) (c : Check) (b : Bool) → Within es → Happens es c b → P c
  unfolding Within
  within_elim es c b h x = go es h x.among
    where
      CheckIn : Event → Type 0
      CheckIn (met l) = Unit
      CheckIn (gave l v) = Unit
      CheckIn (checked d a l s) = P d

      go : (fs : Events) → Within fs → Memᴰ (checked c b x.line x.state) fs → P c
      go [] h m = elim m [ ]
      go (met l ∷ fs) h (Memᴰ.head e) = subst CheckIn (sym e) tt
      go (gave l v ∷ fs) h (Memᴰ.head e) = subst CheckIn (sym e) tt
      go (checked d a l s ∷ fs) h (Memᴰ.head e) = subst CheckIn (sym e) h.0
      go (met l ∷ fs) h (Memᴰ.tail m) = go fs h m
      go (gave l v ∷ fs) h (Memᴰ.tail m) = go fs h m
      go (checked d a l s ∷ fs) h (Memᴰ.tail m) = go fs h.1 m

  cond_within : (b : Bool) (es fs : Events) → Within es → Within fs → Within (cond b es fs)
  cond_within true es fs h k = h
  cond_within false es fs h k = k

  checking_within : (number : ℕ) (kind : Kind) (b : Bool) (line : ℕ) (s : State) (es : Events) → at number kind → Within es →
      Within (checking number kind b line s es)
  unfolding Within checking
  checking_within number kind b line s es h k = (h, cond_within b es _ k (cond_within (can_fail kind) [] es tt k))

  reading_within : (p : Place) (s : State) (ts : List Term) (es : Events) → ((t : Term) → Memᴰ t ts → at p.number (null_of t)) → Within es →
      Within (reading p s ts es)
  unfolding reading
  reading_within p s [] es h k = k
  reading_within p s (t ∷ ts) es h k =
      checking_within p.number (null_of t) _ p.line s (reading p s ts es) (h t (Memᴰ.head refl))
      (reading_within p s ts es (λ u m. h u (Memᴰ.tail m)) k)

  testing_within : (p : Place) (s : State) (f : Formula) (g : Bool → Events) → ((t : Term) → Memᴰ t (terms_of f) → at p.number (null_of t)) →
      ((b : Bool) → Within (g b)) → Within (testing p s f g)
  unfolding testing terms_of
  testing_within p s (negation f) g h k = testing_within p s f (λ b. g (not b)) h (λ b. k (not b))
  testing_within p s (both f f') g h k =
      testing_within p s f _ (λ t m. h t (Memᴰ.append_left (terms_of f') m))
      (λ b. cond_within b _ _ (testing_within p s f' g (λ t m. h t (Memᴰ.append_right (terms_of f) m)) k) (k false))
  testing_within p s (either f f') g h k =
      testing_within p s f _ (λ t m. h t (Memᴰ.append_left (terms_of f') m))
      (λ b. cond_within b _ _ (k true) (testing_within p s f' g (λ t m. h t (Memᴰ.append_right (terms_of f) m)) k))
  testing_within p s (implies f f') g h k =
      testing_within p s f _ (λ t m. h t (Memᴰ.append_left (terms_of f') m))
      (λ b. cond_within b _ _ (testing_within p s f' g (λ t m. h t (Memᴰ.append_right (terms_of f) m)) k) (k true))
  testing_within p s (same f f') g h k =
      testing_within p s f _ (λ t m. h t (Memᴰ.append_left (terms_of f') m))
      (λ b. testing_within p s f' _ (λ t m. h t (Memᴰ.append_right (terms_of f) m)) (λ c. k (same_truth b c)))
  testing_within p s always g h k = k true
  testing_within p s never g h k = k false
  testing_within p s (equal t u) g h k = reading_within p s _ _ h (k _)
  testing_within p s (unequal t u) g h k = reading_within p s _ _ h (k _)
  testing_within p s (reaches i t u) g h k = reading_within p s _ _ h (k _)
  testing_within p s (between i t u v) g h k = reading_within p s _ _ h (k _)
  testing_within p s (flag j t) g h k = reading_within p s _ _ h (k _)
  testing_within p s (forall f) g h k = k _

  -- the clauses from number i on
  AtEach : ℕ → (ℕ → Kind) → ℕ → List Clause → Type 0
  AtEach number kind i [] = Unit
  AtEach number kind i (c ∷ cs) = at number (kind i) × AtEach number kind (suc i) cs

  clauses_within : (number : ℕ) (kind : ℕ → Kind) (i : ℕ) (s : State) (cs : List Clause) (es : Events) → AtEach number kind i cs → Within es →
      Within (clauses number kind i s cs es)
  unfolding clauses AtEach
  clauses_within number kind i s [] es h k = k
  clauses_within number kind i s (c ∷ cs) es h k =
      checking_within number (kind i) _ c.line s _ h.0 (clauses_within number kind (suc i) s cs es h.1 k)

  -- every check of a list
  abbrev Every : List Listed → Type 0
  Every ls = (l : Listed) → Memᴰ l ls → P l.check

  every_left : (ls ms : List Listed) → Every (ls ++ ms) → Every ls
  every_left ls ms h l m = h l (Memᴰ.append_left ms m)

  every_right : (ls ms : List Listed) → Every (ls ++ ms) → Every ms
  every_right ls ms h l m = h l (Memᴰ.append_right ls m)

  every-null : (p : Place) (ts : List Term) → Every (nulls p ts) → (t : Term) → Memᴰ t ts → at p.number (null_of t)
  unfolding nulls
  every-null p ts h t m = h _ (Memᴰ.map (λ u. listed p.line p.number (null_of u)) (once_in t ts m))

  every-ensured : (i : ℕ) (cs : List Clause) → Every (ensures_checks i cs) → AtEach 0 ensured i cs
  unfolding ensures_checks AtEach
  every-ensured i [] h = tt
  every-ensured i (c ∷ cs) h = (h _ (Memᴰ.head refl), every-ensured (suc i) cs (λ l m. h l (Memᴰ.tail m)))

  every-entry : (number i : ℕ) (cs : List Clause) → Every (invariant_checks number i cs) → AtEach number entry i cs
  unfolding invariant_checks AtEach
  every-entry number i [] h = tt
  every-entry number i (c ∷ cs) h =
      (h _ (Memᴰ.head refl), every-entry number (suc i) cs (λ l m. h l (Memᴰ.tail (Memᴰ.tail m))))

  every-kept : (number i : ℕ) (cs : List Clause) → Every (invariant_checks number i cs) → AtEach number kept i cs
  unfolding invariant_checks AtEach
  every-kept number i [] h = tt
  every-kept number i (c ∷ cs) h =
      (h _ (Memᴰ.tail (Memᴰ.head refl)), every-kept number (suc i) cs (λ l m. h l (Memᴰ.tail (Memᴰ.tail m))))

  -- wherever it begins
  abbrev Always : Go → Type 0
  Always g = (n : Now) → Within (g n)

  giving_within : (p : Place) (x : ℕ) (s : State) (vs : List ℕ) (g : Go) → Always g → Within (giving p x s vs g)
  unfolding giving Within
  giving_within p x s [] g h = tt
  giving_within p x s (v ∷ vs) g h = h _

  module _ (final : Go) (ends : Always final) where
    pub run_within : (c : Code) (next out : Go) → Every (code_checks c) → Always next → Always out → Always (run entering final c next out)
    unfolding run code_checks Within entering
    run_within end next out h k l n = k n
    run_within (assign p x t rest) next out h k l n =
        reading_within p n.state _ _ (every-null p _ (every_left _ (code_checks rest) h)) (run_within rest next out (every_right (nulls p _) _ h) k l _)
    run_within (assign_link p t i u rest) next out h k l n =
        reading_within p n.state _ _ (every-null p _ (every_left _ (code_checks rest) h)) (run_within rest next out (every_right (nulls p _) _ h) k l _)
    run_within (assign_flag p t j b rest) next out h k l n =
        reading_within p n.state _ _ (every-null p _ (every_left _ (code_checks rest) h)) (run_within rest next out (every_right (nulls p _) _ h) k l _)
    run_within (havoc p x rest) next out h k l n = giving_within p x n.state n.nodes _ (run_within rest next out h k l)
    run_within (assume p f rest) next out h k l n = cond_within (holds n.state [] f) _ _ (run_within rest next out h k l n) tt
    run_within (assert p f rest) next out h k l n =
        checking_within _ _ _ _ _ _ (h _ (Memᴰ.head refl)) (run_within rest next out (λ c m. h c (Memᴰ.tail m)) k l n)
    run_within (cover p f rest) next out h k l n =
        checking_within _ _ _ _ _ _ (h _ (Memᴰ.head refl)) (run_within rest next out (λ c m. h c (Memᴰ.tail m)) k l n)
    run_within (branch p f a b rest) next out h k l n =
        let N : List Listed = nulls p (terms_of f) in
        let h' : Every (N ++ code_checks a ++ code_checks b) = every_left _ (code_checks rest) h in
        let behind : Always (run entering final rest next out) = run_within rest next out (every_right (N ++ code_checks a ++ code_checks b) _ h) k l in
        testing_within p n.state f _ (every-null p _ (every_left N (code_checks a) (every_left (N ++ code_checks a) (code_checks b) h')))
        (λ c. cond_within c _ _
        (run_within a _ out (every_right N (code_checks a) (every_left (N ++ code_checks a) (code_checks b) h')) behind l n)
        (run_within b _ out (every_right (N ++ code_checks a) (code_checks b) h') behind l n))
    run_within (loop p f invariants body rest) next out h k l n =
        let N : List Listed = nulls p (terms_of f) in
        let I : List Listed = invariant_checks p.number 0 invariants in
        let h' : Every (N ++ I) = every_left (N ++ I) (code_checks body) (every_left (N ++ I ++ code_checks body) (code_checks rest) h) in
        clauses_within p.number entry 0 n.state invariants [] (every-entry p.number 0 invariants (every_right N I h')) tt
    run_within (leave p rest) next out h k l n = ends n
    run_within (break_out p rest) next out h k l n = l n

    head_within : (p : Place) (f : Formula) (invariants : List Clause) (body : Code) (behind : Go) →
        Every (nulls p (terms_of f) ++ invariant_checks p.number 0 invariants) → Every (code_checks body) → Always behind →
        Always (returning p invariants stop) × Always (at_head p f invariants (run entering final body) behind stop)
    unfolding returning at_head Within
    head_within p f invariants body behind h k l =
        let I : List Listed = invariant_checks p.number 0 invariants in
        let back : Always (returning p invariants stop) =
        λ n. clauses_within p.number kept 0 n.state invariants [] (every-kept p.number 0 invariants (every_right (nulls p (terms_of f)) I h)) tt in (
          back,
          λ n. testing_within p n.state f _ (every-null p _ (every_left (nulls p (terms_of f)) I h))
              (λ c. cond_within c _ _ (run_within body _ behind k back l n) (l n)),
        )

    pub loops_within : (c : Code) (next out : Go) → Every (code_checks c) → Always next → Always out →
        (g : Segment) → Memᴰ g (loop_segments final c next out) → Always g.go
    unfolding loop_segments code_checks
    loops_within end next out h k l g m = absurd (Memᴰ.not-nil m)
    loops_within (assign p x t rest) next out h k l g m = loops_within rest next out (every_right (nulls p _) _ h) k l g m
    loops_within (assign_link p t i u rest) next out h k l g m = loops_within rest next out (every_right (nulls p _) _ h) k l g m
    loops_within (assign_flag p t j b rest) next out h k l g m = loops_within rest next out (every_right (nulls p _) _ h) k l g m
    loops_within (havoc p x rest) next out h k l g m = loops_within rest next out h k l g m
    loops_within (assume p f rest) next out h k l g m = loops_within rest next out h k l g m
    loops_within (assert p f rest) next out h k l g m = loops_within rest next out (λ c z. h c (Memᴰ.tail z)) k l g m
    loops_within (cover p f rest) next out h k l g m = loops_within rest next out (λ c z. h c (Memᴰ.tail z)) k l g m
    loops_within (branch p f a b rest) next out h k l g m =
        let N : List Listed = nulls p (terms_of f) in
        let h' : Every (N ++ code_checks a ++ code_checks b) = every_left _ (code_checks rest) h in
        let hr : Every (code_checks rest) = every_right (N ++ code_checks a ++ code_checks b) _ h in
        let behind : Always (run entering final rest next out) = run_within rest next out hr k l in
        ⊎_elim
        (λ z. ⊎_elim
        (loops_within a _ out (every_right N (code_checks a) (every_left (N ++ code_checks a) (code_checks b) h')) behind l g)
        (loops_within b _ out (every_right (N ++ code_checks a) (code_checks b) h') behind l g)
        (Memᴰ.append_cases (loop_segments final a (run entering final rest next out) out) z))
        (loops_within rest next out hr k l g)
        (Memᴰ.append_cases (loop_segments final a (run entering final rest next out) out ++ loop_segments final b (run entering final rest next out) out) m)
    loops_within (loop p f invariants body rest) next out h k l g m =
        let N : List Listed = nulls p (terms_of f) in
        let I : List Listed = invariant_checks p.number 0 invariants in
        let hb : Every (N ++ I ++ code_checks body) = every_left (N ++ I ++ code_checks body) (code_checks rest) h in
        let hr : Every (code_checks rest) = every_right (N ++ I ++ code_checks body) (code_checks rest) h in
        let behind : Always (run entering final rest next out) = run_within rest next out hr k l in
        let head = head_within p f invariants body _ (every_left (N ++ I) (code_checks body) hb) (every_right (N ++ I) (code_checks body) hb) behind in
        ⊎_elim
        (λ e. subst (λ y. Always y.go) (sym e) head.1)
        (λ z. ⊎_elim
        (loops_within body _ _ (every_right (N ++ I) (code_checks body) hb) head.0 behind g)
        (loops_within rest next out hr k l g)
        (Memᴰ.append_cases (loop_segments final body (returning p invariants stop) (run entering final rest next out)) z))
        (Memᴰ.cases_cons m)
    loops_within (leave p rest) next out h k l g m = loops_within rest next out h k l g m
    loops_within (break_out p rest) next out h k l g m = loops_within rest next out h k l g m

pub checks_listed : ChecksListed
unfolding segments checks finishing Within
checks_listed r x c b happens =
    within_elim P (events x) c b
    (⊎_elim
    (λ e. subst (λ g. Within P (g.go x.now)) (sym e) (run_within P (finishing r) ends r.body (finishing r) stop every ends nothing x.now))
    (λ m. loops_within P (finishing r) ends r.body (finishing r) stop every ends nothing x.segment m x.now)
    (Memᴰ.cases_cons x.of_routine))
    happens
  where
    P : Check → Type 0
    P = CheckOf r

    every : (l : Listed) → Memᴰ l (code_checks r.body) → P l.check
    every l m = (l, Memᴰ.append_right (ensures_checks 0 r.ensures) m, refl)

    nothing : (n : Now) → Within P (stop n)
    nothing n = tt

    ends : (n : Now) → Within P (finishing r n)
    ends n = clauses_within P 0 ensured 0 n.state r.ensures [] (every-ensured P 0 r.ensures (λ l m. (l, Memᴰ.append_left (code_checks r.body) m, refl))) tt
