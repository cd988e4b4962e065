-- What a call answers, by cases: a check that stands, or what its walk says.
use Prim.Native.Nat.{ℕ, ◌+◌, ◌-◌, ◌*◌, ◌≤◌}
use native.Mathlib.Omega.{arith}
use mathlib.Core.Path.{◌≡◌, refl, sym, ap, ◌∙◌}
use mathlib.Core.Logic.{◌⊎◌, ⊎_elim, inl, inr}
use mathlib.Core.Bool.{Bool, true, not}
use mathlib.Core.List.Memᴰ
use mathlib.Core.List.{List, [], ◌∷◌, ◌++◌, Memᴰ}
use mathlib.Core.Option.{Option, none, some, Option-elim}
use lib.ListN.{length, replicate, length-append, length-replicate}
use lib.Dec.{ltb}
use borrow.Author.Tests.{ltb-false, le-ltb}
use Rattle.logic.specs.Search.{keep, is_some, or_else}
use Rattle.logic.specs.Query.{sections, is_order, layout_fault, byte_fault}
use Rattle.logic.specs.Walk.{Ending, our_walk}
use Rattle.logic.specs.Calls.{Input, Check, order_check, layout_check, byte_check, room_under, query_checks, CallForm, verdict_checks_of}
use Rattle.logic.specs.Calls.{derivation_checks_of, Answer, refused, Outcome, refusal_of, accepts_by, padded, blank, call}
use Rattle.logic.specs.Demands.{NoneStands, numbers, Alike}
use Rattle.theory.proofs.Basics.Search.{none-some, first_of-some, first_of-none, first_of_empty, first_of-append, is_some-false, keep-none, not-true, bool_cases, true-false}
use Rattle.theory.proofs.Query.Tied.{Accepted}
use Rattle.theory.proofs.Query.AcceptedBytes.{form_elim}
use Rattle.theory.proofs.Calls.CheckingOrder.{answers, Early}

answers-some : (i : Input) (c : Check) (a : Answer) → answers i c ≡ some a → (place : ℕ) × (c.place i ≡ some place) × (a ≡ refused c.number place)
unfolding Option-elim
answers-some i c a h = go (c.place i) refl h
  where
    go : (o : Option ℕ) → c.place i ≡ o → Option-elim o none (λ place. some (refused c.number place)) ≡ some a → (place : ℕ) × (c.place i ≡ some place) × (a ≡ refused c.number place)
    go none e h = absurd (none-some h)
    go (some place) e h = (place, e, cc)

answers-none : (i : Input) (c : Check) → answers i c ≡ none → c.place i ≡ none
unfolding Option-elim
answers-none i c h = go (c.place i) refl h
  where
    go : (o : Option ℕ) → c.place i ≡ o → Option-elim o none (λ place. some (refused c.number place)) ≡ none → c.place i ≡ none
    go none e h = e
    go (some place) e h = absurd (none-some (sym h))

module _ (cs : List Check) (i : Input) where
  -- a refusal is that of a check that stands
  pub refusal_of-some : (a : Answer) → refusal_of cs i ≡ some a → (c : Check) × Memᴰ c cs × ((place : ℕ) × (c.place i ≡ some place) × (a ≡ refused c.number place))
  unfolding refusal_of
  refusal_of-some a h = let f = first_of-some (answers i) cs a h in (f.0, f.1, answers-some i f.0 a f.2)

  -- no refusal: no check stands
  pub refusal_of-none : refusal_of cs i ≡ none → (c : Check) → Memᴰ c cs → c.place i ≡ none
  unfolding refusal_of
  refusal_of-none h c m = answers-none i c (first_of-none (answers i) c h m)

  pub refusal_of_clear : ((c : Check) → Memᴰ c cs → c.place i ≡ none) → refusal_of cs i ≡ none
  unfolding refusal_of Option-elim
  refusal_of_clear h = first_of_empty (answers i) cs (λ c m. rw (h c m))

  pub refusal_of-append : (ds : List Check) → refusal_of (cs ++ ds) i ≡ or_else (refusal_of cs i) (refusal_of ds i)
  unfolding refusal_of
  refusal_of-append ds = first_of-append (answers i) cs ds

  pub call_cases : (f : CallForm) (result : Ending → Outcome) →
      ((a : Answer) × (refusal_of cs i ≡ some a) × (call f cs result i ≡ blank i.room a)) ⊎
      ((refusal_of cs i ≡ none) × (call f cs result i ≡ result (our_walk i.order (f.decode i.query))))
  unfolding call Option-elim
  call_cases f result = go (refusal_of cs i) refl
    where
      go : (o : Option Answer) → refusal_of cs i ≡ o →
          ((a : Answer) × (refusal_of cs i ≡ some a)
          × (Option-elim o (result (our_walk i.order (f.decode i.query))) (blank i.room) ≡ blank i.room a)) ⊎
          ((refusal_of cs i ≡ none) × (Option-elim o (result (our_walk i.order (f.decode i.query))) (blank i.room) ≡ result
          (our_walk i.order (f.decode i.query))))
      go none e = inr (e, refl)
      go (some a) e = inl (a, e, refl)

-- The checks of a query in the form of 01 read the query alone.
pub query-local : (i j : Input) → i.query ≡ j.query → (c : Check) → Memᴰ c query_checks → c.place i ≡ c.place j
unfolding query_checks layout_check byte_check
query-local i j e =
    form_elim sections (λ (c : Check). c.place i ≡ c.place j) (λ k m. ap (layout_fault sections k) e) (λ k l u. ap (byte_fault sections k) e)

-- What is known of a form of query that calls take: what its checks are, and that a query that passes them is all that the theory asks.
abbrev pub InQuery : ℕ → List ℕ → ℕ → Type 0
InQuery longest bytes place = (place ≤ length bytes) × (place ≤ longest)

-- the place of a refusal by checks
abbrev pub Placed : ℕ → List Check → Input → Type 0
Placed longest cs i = (k place : ℕ) → refusal_of cs i ≡ some (refused k place) → InQuery longest i.query place

pub record FormLaws (f : CallForm) : Type 0 where
  pub accepted_query : (bytes : List ℕ) → accepts_by f bytes ≡ true → Accepted (f.decode bytes)
  pub same_links : (bytes : List ℕ) → (f.decode bytes).links ≡ f.links
  pub local : (i j : Input) → i.query ≡ j.query → (c : Check) → Memᴰ c f.checks → c.place i ≡ c.place j
  pub early : (k : ℕ) → Memᴰ k (numbers f.checks) → (Early k) × (k ≡ 9 → ⊥)
  pub placed : (i : Input) → Placed f.longest f.checks i
  pub roomy : f.links * 16 + 37 ≤ f.room

module _ (f : CallForm) (laws : FormLaws f) where
  -- a query that passes its checks in one call is accepted
  pub accepts_clear : (i : Input) → ((c : Check) → Memᴰ c f.checks → c.place i ≡ none) → accepts_by f i.query ≡ true
  unfolding accepts_by is_some
  accepts_clear i h =
      let j : Input = record { order = []; query = i.query; room = 0 } in
      rw (refusal_of_clear f.checks j (λ c m. sym (laws.local i j refl c m) ∙ h c m))

  -- and none of them stands in a call on an accepted query
  pub accepts_checks : (i : Input) → accepts_by f i.query ≡ true → (c : Check) → Memᴰ c f.checks → c.place i ≡ none
  unfolding accepts_by
  accepts_checks i h c m =
      let j : Input = record { order = []; query = i.query; room = 0 } in
      laws.local i j refl c m ∙ refusal_of-none f.checks j (is_some-false _ (not-true h)) c m

-- what a call knows where none of its checks stands
order_clear : (cs : List Check) (i : Input) → Memᴰ order_check cs → NoneStands cs i → is_order i.order ≡ true
unfolding order_check
order_clear cs i m h =
    let e = keep-none (not (is_order i.order)) 0 (h order_check m) in
    ⊎_elim (λ p. p) (λ p. absurd (true-false (ap not p) e)) (bool_cases (is_order i.order))

pub record Passed (f : CallForm) (i : Input) : Type 0 where
  pub order : is_order i.order ≡ true
  pub query : accepts_by f i.query ≡ true

-- two calls of one order list and one query pass check 1 alike
order-local : (i j : Input) → i.order ≡ j.order → order_check.place i ≡ order_check.place j
unfolding order_check
order-local i j e = ap (λ (order : List ℕ). keep (not (is_order order)) 0) e

module _ (f : CallForm) (laws : FormLaws f) where
  pub derivation_passed : (i : Input) → NoneStands (derivation_checks_of f) i → Passed f i
  unfolding derivation_checks_of
  derivation_passed i h =
      record {
        order = order_clear (derivation_checks_of f) i (Memᴰ.head refl) h;
        query = accepts_clear f laws i (λ c m. h c (Memᴰ.tail m));
      }

  -- the verdict call's checks are the derivation call's, and that of the report's room
  pub derivation_known : (c : Check) → Memᴰ c (derivation_checks_of f) → Memᴰ c (verdict_checks_of f)
  unfolding derivation_checks_of verdict_checks_of
  derivation_known c m = ⊎_elim (λ e. Memᴰ.head e) (λ n. Memᴰ.tail (Memᴰ.append_left (room_under f.room ∷ []) n)) (Memᴰ.cases_cons m)

  pub verdict_clear : (i : Input) → NoneStands (derivation_checks_of f) i → f.room ≤ i.room → NoneStands (verdict_checks_of f) i
  unfolding derivation_checks_of verdict_checks_of room_under keep
  verdict_clear i h r c m =
      ⊎_elim (λ e. h c (Memᴰ.head e))
      (λ n. ⊎_elim (λ n'. h c (Memᴰ.tail n'))
      (λ n'. ⊎_elim (λ e. ap (λ (d : Check). d.place i) e ∙ ap (λ (b : Bool). keep b 0) (le-ltb i.room f.room r)) (λ n''. absurd (Memᴰ.not-nil n'')) (Memᴰ.cases_cons n'))
      (Memᴰ.append_cases f.checks n))
      (Memᴰ.cases_cons m)

  pub verdict_passed : (i : Input) → NoneStands (verdict_checks_of f) i → Passed f i × (f.room ≤ i.room)
  unfolding verdict_checks_of room_under
  verdict_passed i h = (
    derivation_passed i (λ c m. h c (derivation_known c m)),
    ltb-false i.room f.room (keep-none (ltb i.room f.room) 0 (h (room_under f.room) (Memᴰ.tail (Memᴰ.append_right f.checks (Memᴰ.head refl))))),
  )

  -- two calls of one order list and one query pass the derivation call's checks alike
  pub alike_clear : (i j : Input) → Alike i j → NoneStands (derivation_checks_of f) i → NoneStands (derivation_checks_of f) j
  unfolding derivation_checks_of
  alike_clear i j a h c m =
      ⊎_elim (λ e. ap (λ (d : Check). d.place j) e ∙ sym (order-local i j a.0) ∙ h order_check (Memᴰ.head refl))
      (λ n. sym (laws.local i j a.1 c n) ∙ h c m) (Memᴰ.cases_cons m)

-- padding fills what is lent
pub padded-length : (room : ℕ) (bytes : List ℕ) → length bytes ≤ room → length (padded room bytes) ≡ room
unfolding padded
padded-length room bytes l = omega (arith, length-append bytes (replicate (room - length bytes) 0), length-replicate {A = ℕ} (room - length bytes) 0)

pub blank-length : (room : ℕ) (a : Answer) → length (blank room a).lent ≡ room
unfolding blank
blank-length room a = length-replicate room 0
