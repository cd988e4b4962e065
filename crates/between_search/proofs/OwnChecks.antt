-- Each refusal under its own condition: 9 and 21, which the call has of its own behind the checks of the six sections.
use Prim.Native.Nat.{ℕ, ◌<◌}
use mathlib.Core.Path.{◌≡◌, refl, sym, ap, ◌∙◌, subst}
use mathlib.Core.Bool.{Bool, true, not, false≢true}
use mathlib.Core.List.Memᴰ
use mathlib.Core.List.{List, [], ◌∷◌, ◌++◌, Memᴰ, append_assoc}
use mathlib.Core.Option.{Option, none, some, Option-elim}
use lib.Dec.{eqb, ltb}
use borrow.Author.Tests.{eq-eqb, ltb-true, lt-ltb}
use Rattle.logic.specs.Search.{◌and◌, all, keep, or_else, first_of}
use Rattle.logic.specs.Query.{first_byte, term_count}
use Rattle.logic.specs.Calls.{Input, Check, layout_check, byte_check, form_checks, room_under, room_check, Answer, refused, refusal_of}
use Rattle.logic.specs.Demands.{NoneStands, numbers}
use Rattle.theory.proofs.Basics.Search.{none-some, keep_some, keep-true, all_true}
use Rattle.theory.proofs.Query.AcceptedBytes.{Passes, form-passes}
use Rattle.theory.proofs.Calls.CheckingOrder.{refusal_first, first_refusal, first_numbered}
use Rattle.theory.proofs.Calls.CallLaws.{refusal_of-none, refusal_of-append}
use Rattle.theory.proofs.Calls.Refusals.{refused_one}
use Rattle.between_search.specs.Bytes.{six_sections, decode_six, six_checks, five_terms_check, between_checks}
use Rattle.between_search.specs.Calls.{given}
use Rattle.between_search.proofs.Accepted.{terms_first}

-- a number that no check of these has is no refusal by them
abbrev lacks : ℕ → List Check → Bool
lacks k cs = all (λ (j : ℕ). not (eqb j k)) (numbers cs)

module _ (cs : List Check) (i : Input) (k place : ℕ) (other : Memᴰ k (numbers cs) → ⊥) where
  not_by : refusal_of cs i ≡ some (refused k place) → ⊥
  not_by e =
      let r = refusal_first cs i (refused k place) e in
      let same = refused_one (sym r.3) in
      other (subst (λ (j : ℕ). Memᴰ j (numbers cs)) same.0 (first_numbered cs i r.0 r.1 r.2))

-- a refusal whose number one check alone has: exactly where that check stands, and none before it
module _ (cs : List Check) (c : Check) (ds : List Check) (i : Input) (place : ℕ) (before : Memᴰ c.number (numbers cs) → ⊥) (behind : Memᴰ c.number (numbers ds) → ⊥) where
  abbrev Own : Type 0
  Own = NoneStands cs i × (c.place i ≡ some place)

  own_stands : Own → refusal_of (cs ++ (c ∷ ds)) i ≡ some (refused c.number place)
  own_stands h =
      first_refusal (cs ++ (c ∷ ds)) i c.number place
      (record { before = cs; check = c; behind = ds; in_order = refl; numbered = refl; stands = h.1; none_before = h.0 })

  own_only : refusal_of (cs ++ (c ∷ ds)) i ≡ some (refused c.number place) → Own
  unfolding refusal_of first_of or_else Option-elim
  own_only e = go (refusal_of cs i) refl (sym (refusal_of-append cs i (c ∷ ds)) ∙ e)
    where
      here : NoneStands cs i → refusal_of (c ∷ ds) i ≡ some (refused c.number place) → Own
      here n h = at (c.place i) refl h
        where
          at : (o : Option ℕ) → c.place i ≡ o → or_else (Option-elim o none (λ p. some (refused c.number p))) (refusal_of ds i) ≡ some (refused c.number place) → Own
          at none s h = absurd (not_by ds i c.number place behind h)
          at (some p) s h = let q : p ≡ place = cc in (n, s ∙ ap some q)

      go : (o : Option Answer) → refusal_of cs i ≡ o → or_else o (refusal_of (c ∷ ds) i) ≡ some (refused c.number place) → Own
      go (some a) s h = absurd (not_by cs i c.number place before (s ∙ h))
      go none s h = here (refusal_of-none cs i s) h

-- the checks before 21
abbrev earlier : List Check
earlier = six_checks ++ (room_check ∷ [])

apart : (k : ℕ) (cs : List Check) → lacks k cs ≡ true → Memᴰ k (numbers cs) → ⊥
apart k cs h m = false≢true (sym (ap not (same k)) ∙ all_true (λ (j : ℕ). not (eqb j k)) k h m)
  where
    same : (j : ℕ) → eqb j j ≡ true
    same j = eq-eqb j j refl

twenty_one_apart : lacks 21 earlier ≡ true
unfolding all ◌and◌ six_checks form_checks layout_check byte_check room_under
twenty_one_apart = refl

nine_apart : lacks 9 six_checks ≡ true
unfolding all ◌and◌ six_checks form_checks layout_check byte_check
nine_apart = refl

nine_behind : lacks 9 (five_terms_check ∷ []) ≡ true
unfolding all ◌and◌ five_terms_check
nine_behind = refl

module _ (query : List ℕ) (room place : ℕ) where
  abbrev Refuses : ℕ → Type 0
  Refuses k = refusal_of between_checks (given query room) ≡ some (refused k place)

  -- "21 more than five terms"
  module _ (n : NoneStands (six_checks ++ (room_check ∷ [])) (given query room)) where
    counted : term_count (decode_six query).base ≡ first_byte query
    unfolding six_checks
    counted = terms_first query (form-passes six_sections (given query room) (λ c m. n c (Memᴰ.append_left (room_check ∷ []) m)))

  checks_split : between_checks ≡ earlier ++ (five_terms_check ∷ [])
  unfolding between_checks
  checks_split = sym (append_assoc six_checks (room_check ∷ []) (five_terms_check ∷ []))

  none_behind : Memᴰ 21 (numbers []) → ⊥
  none_behind m = Memᴰ.not-nil m

  pub many_terms_only : Refuses 21 → (place ≡ 0) × NoneStands (six_checks ++ (room_check ∷ [])) (given query room) × (5 < term_count (decode_six query).base)
  unfolding five_terms_check
  many_terms_only e =
      let o = own_only earlier five_terms_check [] (given query room) place (apart 21 earlier twenty_one_apart) none_behind
      (ap (λ (cs : List Check). refusal_of cs (given query room)) (sym checks_split) ∙ e) in
      let k = keep_some (ltb 5 (first_byte query)) o.1 in
      (sym k.1, o.0, subst (λ (x : ℕ). 5 < x) (sym (counted o.0)) (ltb-true 5 (first_byte query) k.0))

  pub many_terms_stand : (place ≡ 0) × NoneStands (six_checks ++ (room_check ∷ [])) (given query room) × (5 < term_count (decode_six query).base) → Refuses 21
  unfolding five_terms_check
  many_terms_stand h =
      let many : ltb 5 (first_byte query) ≡ true = lt-ltb 5 (first_byte query) (subst (λ (x : ℕ). 5 < x) (counted h.1) h.2) in
      ap (λ (cs : List Check). refusal_of cs (given query room)) checks_split
      ∙ own_stands earlier five_terms_check [] (given query room) place (apart 21 earlier twenty_one_apart) none_behind (h.1, keep-true 0 many ∙ ap some (sym h.0))

  -- "9. The heap report's buffer has fewer than 53 bytes"
  room_split : between_checks ≡ six_checks ++ (room_check ∷ five_terms_check ∷ [])
  unfolding between_checks
  room_split = refl

  pub little_room_only : Refuses 9 → (place ≡ 0) × NoneStands six_checks (given query room) × (room < 53)
  unfolding room_under
  little_room_only e =
      let o = own_only six_checks room_check (five_terms_check ∷ []) (given query room) place (apart 9 six_checks nine_apart)
      (apart 9 (five_terms_check ∷ []) nine_behind) (ap (λ (cs : List Check). refusal_of cs (given query room)) (sym room_split) ∙ e) in
      let k = keep_some (ltb room 53) o.1 in
      (sym k.1, o.0, ltb-true room 53 k.0)

  pub little_room-stands : (place ≡ 0) × NoneStands six_checks (given query room) × (room < 53) → Refuses 9
  unfolding room_under
  little_room-stands h =
      ap (λ (cs : List Check). refusal_of cs (given query room)) room_split
      ∙ own_stands six_checks room_check (five_terms_check ∷ []) (given query room) place (apart 9 six_checks nine_apart)
      (apart 9 (five_terms_check ∷ []) nine_behind) (h.1, keep-true 0 (lt-ltb room 53 h.2) ∙ ap some (sym h.0))
