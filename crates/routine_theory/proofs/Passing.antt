-- Events among which no check fails. Of two rows of events the second passes if the first does: that is shown step by step, for what happens
-- behind a check, behind terms that are read, behind a condition and behind clauses.
use Prim.Native.Nat.{ℕ, suc}
use mathlib.Core.Path.{◌≡◌, refl, sym, ap, ◌∙◌, subst}
use mathlib.Core.Logic.{◌⊎◌, ⊎_elim, inl, inr}
use mathlib.Core.Bool.{Bool, true, false, not, cond, false≢true}
use mathlib.Core.List.Memᴰ
use mathlib.Core.List.{List, [], ◌∷◌, ◌++◌, Memᴰ}
use lib.Dec.{eqb}
use Rattle.logic.specs.Search.{all, ◌and◌}
use Rattle.theory.proofs.Basics.Search.{and_intro}
use Rattle.routine_logic.specs.Syntax.{Term, Formula, always, never, equal, unequal, reaches, between, flag, negation, both, either, implies, same, forall, Place, Clause}
use Rattle.routine_logic.specs.State.{State, null_node}
use Rattle.routine_logic.specs.Formulas.{node, holds, same_truth, meets}
use Rattle.routine_logic.specs.Runs.{Kind, null_of, Check, can_fail, Event, met, gave, checked, Events, checking, dereferenced_in, reading, testing, clauses}
use Rattle.routine_logic.specs.Answers.{Happens}

unfoldable pub Passing : Events → Type 0
Passing [] = Unit
Passing (met l ∷ es) = Passing es
Passing (gave l v ∷ es) = Passing es
Passing (checked c b l s ∷ es) = (can_fail c.kind ≡ true → b ≡ true) × Passing es

-- the same in terms of membership: no check that can fail happens not to pass
abbrev pub NoFailure : Events → Type 0
NoFailure es = (c : Check) → can_fail c.kind ≡ true → Happens es c false → ⊥

later : {e : Event} {es : Events} → NoFailure (e ∷ es) → NoFailure es
later h c k x = h c k (record { line = x.line; state = x.state; among = Memᴰ.tail x.among })

pub passing_intro : (es : Events) → NoFailure es → Passing es
unfolding Passing
passing_intro [] h = tt
passing_intro (met l ∷ es) h = passing_intro es (later h)
passing_intro (gave l v ∷ es) h = passing_intro es (later h)
passing_intro (checked c true l s ∷ es) h = (λ k. refl, passing_intro es (later h))
passing_intro (checked c false l s ∷ es) h =
    (λ k. absurd (h c k (record { line = l; state = s; among = Memᴰ.head refl })), passing_intro es (later h))

-- what a row of events says of an event of it
AtEvent : Event → Type 0
AtEvent (met l) = Unit
AtEvent (gave l v) = Unit
AtEvent (checked c b l s) = can_fail c.kind ≡ true → b ≡ true

passing_at : {e : Event} {es : Events} → Passing es → Memᴰ e es → AtEvent e
unfolding Passing AtEvent
passing_at {es = []} h m = elim m [ ]
passing_at {es = met l ∷ es} h (Memᴰ.head e) = subst AtEvent (sym e) tt
passing_at {es = gave l v ∷ es} h (Memᴰ.head e) = subst AtEvent (sym e) tt
passing_at {es = checked c b l s ∷ es} h (Memᴰ.head e) = subst AtEvent (sym e) h.0
passing_at {es = met l ∷ es} h (Memᴰ.tail m) = passing_at h m
passing_at {es = gave l v ∷ es} h (Memᴰ.tail m) = passing_at h m
passing_at {es = checked c b l s ∷ es} h (Memᴰ.tail m) = passing_at h.1 m

pub passing_elim : (es : Events) → Passing es → NoFailure es
unfolding AtEvent
passing_elim es h c k x = false≢true (passing_at h x.among k)

-- Of what happens behind: the second passes if the first does.
abbrev pub Follows : Events → Events → Type 0
Follows es fs = Passing es → Passing fs

behind_follows : (can b : Bool) (es fs : Events) → ((b ≡ true) ⊎ (can ≡ false) → Follows es fs) →
    Follows (cond b es (cond can [] es)) (cond b fs (cond can [] fs))
unfolding Passing
behind_follows can true es fs f h = f (inl refl) h
behind_follows true false es fs f h = h
behind_follows false false es fs f h = f (inr refl) h

pub checking_follows : (number : ℕ) (kind : Kind) (b : Bool) (line : ℕ) (s : State) (es fs : Events) →
    ((b ≡ true) ⊎ (can_fail kind ≡ false) → Follows es fs) → Follows (checking number kind b line s es) (checking number kind b line s fs)
unfolding Passing checking
checking_follows number kind b line s es fs f h = (h.0, behind_follows (can_fail kind) b es fs f h.1)

-- each of some terms is not NULL
abbrev pub Safe : State → List Term → Type 0
Safe s ts = (t : Term) → Memᴰ t ts → node s [] t ≡ null_node → ⊥

safe_next : (s : State) (t : Term) (ts : List Term) → not (eqb (node s [] t) null_node) ≡ true → Safe s ts → Safe s (t ∷ ts)
safe_next s t ts h k u (Memᴰ.head e) = λ z. not_null_lem (ap (node s []) (sym e) ∙ z)
  where
    not_null_lem : node s [] t ≡ null_node → ⊥
    not_null_lem z = false≢true (sym (ap (λ v. not (eqb v null_node)) z) ∙ h)
safe_next s t ts h k u (Memᴰ.tail m) = k u m

pub reading_follows : (p : Place) (s : State) (ts : List Term) (es fs : Events) → (Safe s ts → Follows es fs) →
    Follows (reading p s ts es) (reading p s ts fs)
unfolding reading can_fail
reading_follows p s [] es fs f = f (λ t m. absurd (Memᴰ.not-nil m))
reading_follows p s (t ∷ ts) es fs f =
    checking_follows p.number (null_of t) (not (eqb (node s [] t) null_node)) p.line s (reading p s ts es) (reading p s ts fs)
    (⊎_elim (λ h. reading_follows p s ts es fs (λ k. f (safe_next s t ts h k))) (λ h. absurd (false≢true (sym h))))

pub testing_follows : (p : Place) (s : State) (f : Formula) (g h : Bool → Events) → ((b : Bool) → Follows (g b) (h b)) →
    Follows (testing p s f g) (testing p s f h)
unfolding testing
testing_follows p s (negation f) g h k = testing_follows p s f (λ b. g (not b)) (λ b. h (not b)) (λ b. k (not b))
testing_follows p s (both f f') g h k =
    testing_follows p s f (λ b. cond b (testing p s f' g) (g false)) (λ b. cond b (testing p s f' h) (h false))
    (elim [ true ↦ testing_follows p s f' g h k | false ↦ k false ])
testing_follows p s (either f f') g h k =
    testing_follows p s f (λ b. cond b (g true) (testing p s f' g)) (λ b. cond b (h true) (testing p s f' h))
    (elim [ true ↦ k true | false ↦ testing_follows p s f' g h k ])
testing_follows p s (implies f f') g h k =
    testing_follows p s f (λ b. cond b (testing p s f' g) (g true)) (λ b. cond b (testing p s f' h) (h true))
    (elim [ true ↦ testing_follows p s f' g h k | false ↦ k true ])
testing_follows p s (same f f') g h k =
    testing_follows p s f (λ b. testing p s f' (λ c. g (same_truth b c))) (λ b. testing p s f' (λ c. h (same_truth b c)))
    (λ b. testing_follows p s f' (λ c. g (same_truth b c)) (λ c. h (same_truth b c)) (λ c. k (same_truth b c)))
testing_follows p s always g h k = k true
testing_follows p s never g h k = k false
testing_follows p s (equal t u) g h k = reading_follows p s _ _ _ (λ safe. k _)
testing_follows p s (unequal t u) g h k = reading_follows p s _ _ _ (λ safe. k _)
testing_follows p s (reaches i t u) g h k = reading_follows p s _ _ _ (λ safe. k _)
testing_follows p s (between i t u v) g h k = reading_follows p s _ _ _ (λ safe. k _)
testing_follows p s (flag j t) g h k = reading_follows p s _ _ _ (λ safe. k _)
testing_follows p s (forall f) g h k = k _

-- clauses of a kind that can fail: behind them the state meets them all
pub clauses_follows : (number : ℕ) (kind : ℕ → Kind) (i : ℕ) (s : State) (cs : List Clause) (es fs : Events) →
    ((j : ℕ) → can_fail (kind j) ≡ true) → (meets s cs ≡ true → Follows es fs) → Follows (clauses number kind i s cs es) (clauses number kind i s cs fs)
unfolding clauses meets all
clauses_follows number kind i s [] es fs can f = f refl
clauses_follows number kind i s (c ∷ cs) es fs can f =
    checking_follows number (kind i) (holds s [] c.formula) c.line s (clauses number kind (suc i) s cs es) (clauses number kind (suc i) s cs fs)
    (⊎_elim
    (λ h. clauses_follows number kind (suc i) s cs es fs can (λ k. f (and_intro h k)))
    (λ h. absurd (false≢true (sym h ∙ can i))))
