-- What a call that writes a query answers, by cases, and so how it refuses. Assumes nothing.
use Prim.Native.Nat.{ℕ, ◌≤◌}
use native.Mathlib.Omega.{arith}
use mathlib.Core.Path.{◌≡◌, refl, sym, ap, ◌∙◌, subst}
use mathlib.Core.Logic.{◌↔◌, ⊎_elim}
use mathlib.Core.Bool.{true, false}
use mathlib.Core.List.{List, [], ◌∷◌, Memᴰ}
use mathlib.Core.Option.{Option, Option-elim, none, some}
use lib.ListN.{length, replicate, take, length-replicate}
use lib.Seq.{take_at}
use Rattle.logic.specs.Search.{keep, is_some, or_else, first_of}
use Rattle.logic.specs.Calls.{Check, layout_check, byte_check, form_checks, query_checks, refusal_of, padded}
use Rattle.logic.specs.Calls as calls
use Rattle.logic.specs.Demands.{NoneStands, FirstStands}
use Rattle.theory.proofs.Basics.Search.{not-true, is_some-false, bool_cases, map_intro}
use Rattle.theory.proofs.Calls.CheckingOrder.{refusal_first, first_refusal, first_own, query_early}
use Rattle.theory.proofs.Calls.CallLaws.{refusal_of-none, refusal_of_clear, refusal_of-append, padded-length}
use Rattle.encoding.specs.WritingCall.{Answer, written, refused, Outcome, Writing, given, accepts_in, room_check, writing_checks, refusal, blank, writes, writing_call, WritingRefusals}

pub written_refused : {n k place : ℕ} → written n ≡ refused k place → ⊥
written_refused e = let z : ◌≡◌ {A = ℕ} 0 1 = cc in omega arith

pub refused_same : {k place j at : ℕ} → refused k place ≡ refused j at → (k ≡ j) × (place ≡ at)
refused_same e = (cc, cc)

module _ (w : Writing) (bytes : List ℕ) (room : ℕ) where
  -- the checks of a form read the query alone
  local : refusal_of (form_checks w.form) (given bytes room) ≡ refusal_of (form_checks w.form) (given bytes 0)
  unfolding refusal_of form_checks layout_check byte_check first_of
  local = refl

  pub accepts_none : accepts_in w.form bytes ≡ true → refusal_of (form_checks w.form) (given bytes room) ≡ none
  unfolding accepts_in
  accepts_none h = local ∙ is_some-false _ (not-true h)

  pub none_accepts : refusal_of (form_checks w.form) (given bytes room) ≡ none → accepts_in w.form bytes ≡ true
  unfolding accepts_in is_some
  none_accepts h = rw (sym local ∙ h)

  -- with a check that stands, and with none
  call_some : (a : calls.Answer) → refusal_of (writing_checks w) (given bytes room) ≡ some a → writing_call w bytes room ≡ blank room a
  unfolding writing_call Option-elim
  call_some a h = rw h

  call_none : refusal_of (writing_checks w) (given bytes room) ≡ none → writing_call w bytes room ≡ writes room (w.made bytes)
  unfolding writing_call Option-elim
  call_none h = rw h

  -- the checks are those of the form, and that of the room
  split : refusal_of (writing_checks w) (given bytes room) ≡ or_else (refusal_of (form_checks w.form) (given bytes room)) (refusal_of (room_check w ∷ []) (given bytes room))
  unfolding writing_checks
  split = refusal_of-append (form_checks w.form) (given bytes room) (room_check w ∷ [])

  no_room : w.has_room room bytes ≡ false → refusal_of (room_check w ∷ []) (given bytes room) ≡ some (calls.refused 27 0)
  unfolding refusal_of first_of room_check keep Option-elim or_else
  no_room h = rw h

  some-room : w.has_room room bytes ≡ true → refusal_of (room_check w ∷ []) (given bytes room) ≡ none
  unfolding refusal_of first_of room_check keep Option-elim or_else
  some-room h = rw h

  -- the three ways that the call goes
  pub call_refused : (a : calls.Answer) → refusal_of (form_checks w.form) (given bytes room) ≡ some a → writing_call w bytes room ≡ blank room a
  unfolding or_else
  call_refused a h = call_some a (split ∙ rw h)

  pub call_full : accepts_in w.form bytes ≡ true → w.has_room room bytes ≡ false → writing_call w bytes room ≡ blank room (calls.refused 27 0)
  unfolding or_else
  call_full h n = call_some (calls.refused 27 0) (split ∙ rw (accepts_none h, no_room n))

  pub call_writes : accepts_in w.form bytes ≡ true → w.has_room room bytes ≡ true → writing_call w bytes room ≡ writes room (w.made bytes)
  unfolding or_else
  call_writes h n = call_none (split ∙ rw (accepts_none h, some-room n))

  pub data Case : Outcome → Type 0 where
    by_check : {o : Outcome} (k place : ℕ) → FirstStands (form_checks w.form) (given bytes room) k place → o ≡ blank room (calls.refused k place) → Case o
    by_room : {o : Outcome} → accepts_in w.form bytes ≡ true → w.has_room room bytes ≡ false → o ≡ blank room (calls.refused 27 0) → Case o
    by_writing : {o : Outcome} → accepts_in w.form bytes ≡ true → w.has_room room bytes ≡ true → o ≡ writes room (w.made bytes) → Case o

  pub by_case : Case (writing_call w bytes room)
  by_case = go (refusal_of (form_checks w.form) (given bytes room)) refl
    where
      go : (o : Option calls.Answer) → refusal_of (form_checks w.form) (given bytes room) ≡ o → Case (writing_call w bytes room)
      go (some a) h =
          let r = refusal_first (form_checks w.form) (given bytes room) a h in
          by_check r.0 r.1 r.2 (call_refused a h ∙ ap (blank room) r.3)
      go none h =
          let a = none_accepts h in
          ⊎_elim (λ n. by_writing a n (call_writes a n)) (λ n. by_room a n (call_full a n)) (bool_cases (w.has_room room bytes))

  -- The answers

  abbrev Answers : Answer → Type 0
  Answers a = (writing_call w bytes room).answer ≡ a

  pub blank-answer : {o : Outcome} {k place : ℕ} → o ≡ blank room (calls.refused k place) → o.answer ≡ refused k place
  unfolding blank refusal
  blank-answer e = ap (λ (x : Outcome). x.answer) e

  pub blank-lent : {o : Outcome} (a : calls.Answer) → o ≡ blank room a → o.lent ≡ replicate room 0
  unfolding blank
  blank-lent a e = ap (λ (x : Outcome). x.lent) e

  pub writes-answer : {o : Outcome} → o ≡ writes room (w.made bytes) → o.answer ≡ written (length (w.made bytes))
  unfolding writes
  writes-answer e = ap (λ (x : Outcome). x.answer) e

  pub writes-lent : {o : Outcome} → o ≡ writes room (w.made bytes) → o.lent ≡ padded room (w.made bytes)
  unfolding writes
  writes-lent e = ap (λ (x : Outcome). x.lent) e

  first-only : (k place : ℕ) → Answers (refused k place) → FirstStands (writing_checks w) (given bytes room) k place
  first-only k place e = go (refusal_of (writing_checks w) (given bytes room)) refl
    where
      go : (o : Option calls.Answer) → refusal_of (writing_checks w) (given bytes room) ≡ o → FirstStands (writing_checks w) (given bytes room) k place
      go none h = absurd (written_refused (sym (writes-answer (call_none h)) ∙ e))
      go (some a) h =
          let r = refusal_first (writing_checks w) (given bytes room) a h in
          let same = refused_same (sym (blank-answer (call_some a h ∙ ap (blank room) r.3)) ∙ e) in
          subst (λ (j : ℕ). FirstStands (writing_checks w) (given bytes room) j place) same.0 (subst (FirstStands (writing_checks w) (given bytes room) r.0) same.1 r.2)

  first_if : (k place : ℕ) → FirstStands (writing_checks w) (given bytes room) k place → Answers (refused k place)
  first_if k place f = blank-answer (call_some (calls.refused k place) (first_refusal (writing_checks w) (given bytes room) k place f))

  -- no check of a form is 27
  not_27 : (c : Check) → Memᴰ c (form_checks w.form) → c.number ≡ 27 → ⊥
  unfolding query_checks form_checks layout_check byte_check
  not_27 c m e = let early = query_early c.number (map_intro (λ (d : Check). d.number) c m) in ⊎_elim (λ l. omega arith) (λ f. omega arith) early.1

  room_only : (place : ℕ) (o : Outcome) → Case o → o.answer ≡ refused 27 place → (place ≡ 0) × (accepts_in w.form bytes ≡ true) × (w.has_room room bytes ≡ false)
  room_only place o (by_check k at f e) h = absurd (not_27 f.check (first_own (form_checks w.form) (given bytes room) k at f) (f.numbered ∙ (refused_same (sym (blank-answer e) ∙ h)).0))
  room_only place o (by_room a n e) h = (sym (refused_same (sym (blank-answer e) ∙ h)).1, a, n)
  room_only place o (by_writing a n e) h = absurd (written_refused (sym (writes-answer e) ∙ h))

  -- a query that is written
  pub record Wrote (n : ℕ) : Type 0 where
    pub accepted : accepts_in w.form bytes ≡ true
    pub room_there : w.has_room room bytes ≡ true
    pub counted : n ≡ length (w.made bytes)
    pub taken : take n (writing_call w bytes room).lent ≡ w.made bytes
    pub leaves : (writing_call w bytes room).lent ≡ padded room (w.made bytes)

  wrote_in : (n : ℕ) (o : Outcome) → writing_call w bytes room ≡ o → Case o → o.answer ≡ written n → Wrote n
  unfolding padded
  wrote_in n o s (by_check k at f e) h = absurd (written_refused (sym h ∙ blank-answer e))
  wrote_in n o s (by_room a m e) h = absurd (written_refused (sym h ∙ blank-answer e))
  wrote_in n o s (by_writing a m e) h =
      let q : written n ≡ written (length (w.made bytes)) = sym h ∙ writes-answer e in
      let l : n ≡ length (w.made bytes) = cc in
      record { accepted = a; room_there = m; counted = l; taken = ap (take n) (writes-lent (s ∙ e)) ∙ take_at (w.made bytes) _ n (sym l); leaves = writes-lent (s ∙ e) }

  pub wrote : (n : ℕ) → Answers (written n) → Wrote n
  wrote n h = wrote_in n (writing_call w bytes room) refl by_case h

  none_only : (n : ℕ) → Answers (written n) → NoneStands (writing_checks w) (given bytes room)
  none_only n h = go (refusal_of (writing_checks w) (given bytes room)) refl
    where
      go : (o : Option calls.Answer) → refusal_of (writing_checks w) (given bytes room) ≡ o → NoneStands (writing_checks w) (given bytes room)
      go none e = refusal_of-none (writing_checks w) (given bytes room) e
      go (some a) e =
          let r = refusal_first (writing_checks w) (given bytes room) a e in
          absurd (written_refused (sym h ∙ blank-answer (call_some a e ∙ ap (blank room) r.3)))

  blank_in : (k place : ℕ) (o : Outcome) → Case o → o.answer ≡ refused k place → o.lent ≡ replicate room 0
  blank_in k place o (by_check j at f e) h = blank-lent _ e
  blank_in k place o (by_room a m e) h = blank-lent _ e
  blank_in k place o (by_writing a m e) h = absurd (written_refused (sym (writes-answer e) ∙ h))

  module _ (fits : w.has_room room bytes ≡ true → length (w.made bytes) ≤ room) where
    lent_in : (o : Outcome) → Case o → length o.lent ≡ room
    lent_in o (by_check k at f e) = ap length (blank-lent _ e) ∙ length-replicate room 0
    lent_in o (by_room a m e) = ap length (blank-lent _ e) ∙ length-replicate room 0
    lent_in o (by_writing a m e) = ap length (writes-lent e) ∙ padded-length room (w.made bytes) (fits m)

    pub refusals : (NoRoom : ℕ → List ℕ → Type 0) → (w.has_room room bytes ≡ false) ↔ NoRoom room bytes → WritingRefusals w NoRoom bytes room
    refusals NoRoom means =
        record {
          first_exactly = λ k place. (first-only k place, first_if k place);
          no_room_exactly = λ place. (
            λ h. let r = room_only place (writing_call w bytes room) by_case h in (r.0, r.1, means.0 r.2),
            λ h. blank-answer (call_full h.1 (means.1 h.2)) ∙ ap (refused 27) (sym h.0),
          );
          written_exactly = λ n. (
            λ h. (none_only n h, (wrote n h).counted),
            λ h. writes-answer (call_none (refusal_of_clear (writing_checks w) (given bytes room) h.0)) ∙ ap written (sym h.1),
          );
          refusal_blank = λ k place. blank_in k place (writing_call w bytes room) by_case;
          lent_whole = lent_in (writing_call w bytes room) by_case;
        }
