-- The claims, of every grammar that passes the test.
use Prim.Native.Nat.{ℕ, suc, ◌+◌, ◌*◌, ◌-◌, ◌≤◌}
use native.Mathlib.Omega.{arith}
use mathlib.Core.Path.{◌≡◌, refl, sym, ap, ◌∙◌, subst}
use mathlib.Core.Logic.{◌⊎◌, ⊎_elim, inl, inr}
use mathlib.Core.Bool.{true, false≢true}
use mathlib.Core.List.{List, [], ◌∷◌, ◌++◌, append-nil, append_assoc, head-eq_of_cons-eq, tail-eq_of_cons-eq}
use lib.Dec.{ltb}
use lib.ListN.{length}
use Rattle.logic.specs.Search.{◌and◌, all}
use Rattle.theory.proofs.Basics.Search.{and_left, and_right, and_intro}
use Rattle.grammar_theory.specs.Grammar.{rule, Kinds, Grammar, Step, Steps, Text, Begins}
use Rattle.grammar_theory.specs.Machine.{Table, next, State, Ending, accepted, stuck, unfinished, run, start, after}
use Rattle.grammar_theory.specs.LL1.{Facts, moves, parse}
use Rattle.grammar_theory.specs.Claims.{plain, Any, Next, ended, leaving, Refused, Fault, LL1Correct}
use Rattle.grammar_theory.proofs.Passed.{Passed, ll1_passed}
use Rattle.grammar_theory.proofs.Prediction.{fitting_start, derives_kinds, derives_unique}
use Rattle.grammar_theory.proofs.Leaves.{leaves_refl}
use Rattle.grammar_theory.proofs.Productive.{known_derivable}
use Rattle.grammar_theory.proofs.Bounds.{start-enough, ends_at}
use Rattle.grammar_theory.proofs.Runs.{Mode, Refusal, Said, said_run}
use Rattle.grammar_theory.proofs.Prefixes.{derives_leads, run_more}

-- two ways to split a list: one front is the other one and more
pub split_cases : {A : Type 0} (xs ys xs' ys' : List A) → xs ++ ys ≡ xs' ++ ys' →
    ((zs : List A) × (xs' ≡ xs ++ zs) × (ys ≡ zs ++ ys')) ⊎ ((zs : List A) × (xs ≡ xs' ++ zs) × (ys' ≡ zs ++ ys))
split_cases [] ys xs' ys' e = inl (xs', refl, e)
split_cases (x ∷ xs) ys [] ys' e = inr (x ∷ xs, refl, sym e)
split_cases {A} (x ∷ xs) ys (x' ∷ xs') ys' e = go (split_cases xs ys xs' ys' (tail-eq_of_cons-eq e))
  where
    cons : {us vs : List A} → us ≡ vs → x ∷ us ≡ x ∷ vs
    cons h = ap (λ (u : List A). x ∷ u) h

    head : x' ∷ xs' ≡ x ∷ xs'
    head = ap (λ (u : A). u ∷ xs') (sym (head-eq_of_cons-eq e))

    go : ((zs : List A) × (xs' ≡ xs ++ zs) × (ys ≡ zs ++ ys')) ⊎ ((zs : List A) × (xs ≡ xs' ++ zs) × (ys' ≡ zs ++ ys)) →
        ((zs : List A) × (x' ∷ xs' ≡ x ∷ xs ++ zs) × (ys ≡ zs ++ ys')) ⊎ ((zs : List A) × (x ∷ xs ≡ x' ∷ xs' ++ zs) × (ys' ≡ zs ++ ys))
    go (inl r) = inl (r.0, head ∙ cons r.1, r.2)
    go (inr r) = inr (r.0, cons r.1 ∙ ap (λ (u : A). u ∷ (xs' ++ r.0)) (head-eq_of_cons-eq e), r.2)

module _ (g : Grammar) (r : ℕ) where
  begins_shorter : (ks more : Kinds) → Begins g r (ks ++ more) → Begins g r ks
  begins_shorter ks more b = (more ++ b.0, b.1, subst (λ (x : Kinds). Text g r x b.1) (append_assoc ks more b.0) b.2)

  -- a front that is longer than one behind which no text goes on begins none
  refused_longer : (read zs left : Kinds) → Refused g r read (zs ++ left) → Begins g r (read ++ zs) → zs ≡ []
  unfolding Refused
  refused_longer read [] left f b = refl
  refused_longer read (k ∷ zs) left f b =
      absurd (f (begins_shorter (read ++ (k ∷ [])) zs (subst (Begins g r) (sym (append_assoc read (k ∷ []) zs)) b)))

  refused_text_lem : (read left : Kinds) (steps : Steps) → Refused g r read left → Text g r (read ++ left) steps → ⊥
  unfolding Refused
  refused_text_lem read [] steps f d = f steps (subst (λ (x : Kinds). Text g r x steps) (append-nil read) d)
  refused_text_lem read (k ∷ left) steps f d =
      f (left, steps, subst (λ (x : Kinds). Text g r x steps) (sym (append_assoc read (k ∷ []) left)) d)

plain_of : (bound : ℕ) (ks : Kinds) → all (λ k. ltb 0 k and ltb k bound) ks ≡ true → plain ks ≡ true
unfolding plain all
plain_of bound [] h = refl
plain_of bound (k ∷ ks) h = and_intro (and_left _ _ (and_left _ _ h)) (plain_of bound ks (and_right _ _ h))

ended_cases : {B : Type 0} (e : Ending B) → ended e ≡ true → ((b : B) × (e ≡ accepted b)) ⊎ ((left : Kinds) × (b : B) × (e ≡ stuck left b))
unfolding ended
ended_cases (accepted b) h = inl (b, refl)
ended_cases (stuck left b) h = inr (left, b, refl)
ended_cases unfinished h = absurd (false≢true h)

module _ {g : Grammar} {t : Table} {c : Facts} {r : ℕ} (p : Passed g t c r) {B : Type 0} (does : Step → B → B) where
  parse_ends : (ks : Kinds) (b : B) → ended (parse does g t c r ks b) ≡ true
  unfolding parse start
  parse_ends ks b = ends_at p does (moves c r (length ks)) (rule r ∷ []) ks b b true (fitting_start p) (start-enough r ks (fitting_start p))

  -- at first nothing is read or done
  parse-said : (ks : Kinds) (b : B) → plain ks ≡ true → Said g t c does (rule r ∷ []) ks b (parse does g t c r ks b)
  unfolding parse start Mode after
  parse-said ks b pl =
      said_run g t c does (rule r ∷ []) ks b p (moves c r (length ks)) (rule r ∷ []) ks b b true
      (record {
        read_kinds = [];
        split = refl;
        is_plain = pl;
        settled = rule r ∷ [];
        settled_fitting = fitting_start p;
        sure = [];
        sure_leaves = leaves_refl Any (rule r ∷ []);
        sure_made = refl;
        tried = [];
        tried_leaves = leaves_refl (Next (next ks)) (rule r ∷ []);
        tried_made = refl;
        fitting = fitting_start p;
        mode = (refl, refl);
      })

  said_accepted : (ks : Kinds) (b b' : B) → plain ks ≡ true → parse does g t c r ks b ≡ accepted b' → (steps : Steps) × Text g r ks steps × (b' ≡ after does steps b)
  unfolding Said
  said_accepted ks b b' pl e = subst (Said g t c does (rule r ∷ []) ks b) e (parse-said ks b pl)

  said_stuck : (ks left : Kinds) (b b' : B) → plain ks ≡ true → parse does g t c r ks b ≡ stuck left b' → Refusal g t c does (rule r ∷ []) ks b left b'
  unfolding Said
  said_stuck ks left b b' pl e = subst (Said g t c does (rule r ∷ []) ks b) e (parse-said ks b pl)

  -- what is left of the stack derives something
  refusal_begins : (ks left : Kinds) (b b' : B) (f : Refusal g t c does (rule r ∷ []) ks b left b') → Begins g r f.read_kinds
  refusal_begins ks left b b' f =
      let d = known_derivable p f.settled f.settled_fitting.are_known in
      (d.0, f.sure ++ d.1, f.leaves.back d.0 d.1 tt d.2)

  -- and nothing that begins as `left` does
  refusal_refused : (ks left : Kinds) (b b' : B) (f : Refusal g t c does (rule r ∷ []) ks b left b') → Refused g r f.read_kinds left
  unfolding Refused next
  refusal_refused ks [] b b' f = λ steps d.
      let more = f.leaves.forth [] steps tt (subst (λ (x : Kinds). Text g r x steps) (sym (append-nil f.read_kinds)) d) in
      f.blocked [] more.0 refl more.2
  refusal_refused ks (k ∷ left) b b' f = λ begun.
      let more = f.leaves.forth (k ∷ begun.0) begun.1 tt (subst (λ (x : Kinds). Text g r x begun.1) (append_assoc f.read_kinds (k ∷ []) begun.0) begun.2) in
      f.blocked (k ∷ begun.0) more.0 refl more.2

  refusal_fault : (ks left : Kinds) (b b' : B) → Refusal g t c does (rule r ∷ []) ks b left b' → Fault g r does ks left b b'
  refusal_fault ks left b b' f =
      record {
        read = f.read_kinds;
        split = f.split;
        begins = refusal_begins ks left b b' f;
        refused = refusal_refused ks left b b' f;
        steps = f.sure;
        certain = record { settled = f.settled; waits = f.waits; leaves = f.leaves };
        made = f.made;
      }

  parse_accepts : (ks : Kinds) (steps : Steps) (b : B) → Text g r ks steps → parse does g t c r ks b ≡ accepted (after does steps b)
  parse_accepts ks steps b d =
      let pl = plain_of c.kinds ks (derives_kinds p d (fitting_start p)) in
      ⊎_elim
      (λ x.
      let said = said_accepted ks b x.0 pl x.1 in
      x.1 ∙ ap accepted (said.2 ∙ ap (λ (y : Steps). after does y b) (derives_unique p (fitting_start p) said.1 d)))
      (λ x.
      let f = said_stuck ks x.0 b x.1 pl x.2 in
      absurd (refused_text_lem g r f.read_kinds x.0 steps (refusal_refused ks x.0 b x.1 f) (subst (λ (y : Kinds). Text g r y steps) (sym f.split) d)))
      (ended_cases (parse does g t c r ks b) (parse_ends ks b))

  -- behind the same kinds
  fault-same : (read left : Kinds) (left' : Kinds) (b b' : B) → Begins g r read → Refused g r read left → Fault g r does (read ++ left) left' b b' → left' ≡ left
  fault-same read left left' b b' begun refused f =
      ⊎_elim
      (λ x.
      let none = refused_longer g r f.read x.0 left (subst (Refused g r f.read) x.2 f.refused) (subst (Begins g r) x.1 begun) in
      x.2 ∙ ap (λ (y : Kinds). y ++ left) none)
      (λ x.
      let none = refused_longer g r read x.0 left' (subst (Refused g r read) x.2 refused) (subst (Begins g r) x.1 f.begins) in
      sym (x.2 ∙ ap (λ (y : Kinds). y ++ left') none))
      (split_cases f.read left' read left f.split)

  parse_sticks : (read left : Kinds) (b : B) → plain (read ++ left) ≡ true → Begins g r read → Refused g r read left →
      (b' : B) × (parse does g t c r (read ++ left) b ≡ stuck left b')
  parse_sticks read left b pl begun refused =
      ⊎_elim
      (λ x. let said = said_accepted (read ++ left) b x.0 pl x.1 in absurd (refused_text_lem g r read left said.0 refused said.1))
      (λ x.
      let f = refusal_fault (read ++ left) x.0 b x.1 (said_stuck (read ++ left) x.0 b x.1 pl x.2) in
      (x.1, x.2 ∙ ap (λ (y : Kinds). stuck y x.1) (fault-same read left x.0 b x.1 begun refused f)))
      (ended_cases (parse does g t c r (read ++ left) b) (parse_ends (read ++ left) b))

  parse_prefix : (read : Kinds) (b : B) → Begins g r read →
      (n : ℕ) × (s : State B) × ((rest : Kinds) (m : ℕ) → run does g t (n + m) (start r (read ++ rest) b) ≡ run does g t m (leaving rest s))
  unfolding start
  parse_prefix read b begun =
      let l = derives_leads does g t p begun.2 (fitting_start p) read begun.0 b b true refl in
      (l.moves, l.state, l.same)

-- the moves for more tokens change nothing
moves_more : (c : Facts) (r m n : ℕ) → moves c r (m + n) ≡ moves c r m + n * suc (suc c.heaviest * c.top)
unfolding moves
moves_more c r m n = omega arith

parse_longer : {g : Grammar} {t : Table} {c : Facts} {r : ℕ} → Passed g t c r → {B : Type 0} (does : Step → B → B) (ks : Kinds) (b : B) (n : ℕ) → length ks ≤ n →
    run does g t (moves c r n) (start r ks b) ≡ parse does g t c r ks b
unfolding parse
parse_longer {g} {t} {c} {r} p does ks b n l =
    let m : ℕ = n - length ks in
    let z : n ≡ length ks + m = omega (arith, l) in
    let more : ℕ = m * suc (suc c.heaviest * c.top) in
    ap (λ (x : ℕ). run does g t x (start r ks b)) (ap (moves c r) z ∙ moves_more c r (length ks) m)
    ∙ run_more does g t (moves c r (length ks)) more (start r ks b) (parse_ends p does ks b)

pub ll1_correct : LL1Correct
unfolding LL1Correct
ll1_correct g t c r passes =
    let p = ll1_passed g t c r passes in
    record {
      text_unique = λ ks steps steps' d d'. derives_unique p (fitting_start p) d d';
      text_accepted = λ does. parse_accepts p does;
      accepted_text = λ does. said_accepted p does;
      stuck_fault = λ does ks left b b' pl e. refusal_fault p does ks left b b' (said_stuck p does ks left b b' pl e);
      fault_stuck = λ does. parse_sticks p does;
      parse_ended = λ does. parse_ends p does;
      parse_more = λ does. parse_longer p does;
      run_prefix = λ does. parse_prefix p does;
    }
