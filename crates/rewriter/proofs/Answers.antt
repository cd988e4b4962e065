-- What the call does, case by case. Assumes nothing.
use Prim.Native.Nat.{ℕ, ◌+◌, ◌≤◌, ◌<◌}
use native.Mathlib.Omega.{arith}
use mathlib.Core.Path.{◌≡◌, refl, sym, ap, ◌∙◌, subst}
use mathlib.Core.Logic.{inl, inr}
use mathlib.Core.Bool.{true, false}
use mathlib.Core.List.{List, [], ◌∷◌}
use lib.ListN.{length, replicate}
use Rattle.logic.specs.Query.{Literal, Query, term_count}
use Rattle.logic.specs.Calls as calls
use Rattle.theory.proofs.Query.Bytes.{layout_numbers, three_number}
use Rattle.encoding.specs.QueryBytes.{encode}
use Rattle.encoding.specs.WritingCall.{Outcome, written, given, refusal, blank, writes}
use Rattle.encoding.proofs.WritingCall.{none_accepts, call_refused, call_full, call_writes}
use Rattle.text.specs.Text.{Writes}
use Rattle.text.proofs.Writing.{writes_as, writes_blank}
use Rattle.query_checks.specs.Answers.{FullCheckedAs}
use Rattle.query.specs.declared.FullLayout.{FullLayout}
use Rattle.rewriting.specs.OldQuery.{old_sections, decode_old}
use Rattle.rewriting.specs.Rewritten.{rewritten, rewrite}
use Rattle.rewriting.specs.Call.{rewrite_of, has_room, rewriting_old, rewrite_call}
use Rattle.rewriting.proofs.OldBytes.{base_limits}
use Rattle.rewriting.proofs.Encoded.{room_intro}
use Rattle.rewriting.proofs.Copied.{copied}
use Rattle.rewriting.proofs.Calls.{has_not}
use Rattle.rewriter.specs.Bytes.{rewritten_bytes}
use Rattle.rewriter.specs.Promise.{Does, Passing}
use Rattle.std.specs.Prelude.{Result, Ok, Err}
use Rattle.refusals.specs.declared.Refusal.{Refusal}
use Rattle.refusals.specs.declared.Fault.TheVariants as fault
use Rattle.refusals.specs.Numbers.{number_of, refusal_at}
use Rattle.rewriter.proofs.Written.{fourth_at, boolean_counted, terms_more, fields_more, written_is, written_long}

-- a refusal leaves what was cleared, and a query is written into it
pub does_blank : (room : ℕ) {o : Outcome} {r : Refusal} {out : List ℕ} → o ≡ blank room (calls.refused (number_of r.fault) r.place) → out ≡ replicate room 0 → Does o (Err r) out
unfolding blank refusal
does_blank room c e = record { answers = sym (ap (λ (x : Outcome). x.answer) c); leaves = e ∙ sym (ap (λ (x : Outcome). x.lent) c) }

pub does_write : (room : ℕ) {o : Outcome} {r : ℕ} {bytes before after : List ℕ} → o ≡ writes room bytes → length bytes ≤ room →
    before ≡ replicate room 0 → Writes before 0 bytes after r → Does o (Ok r) after
unfolding writes
does_write room {r = r} {bytes = bytes} {after = after} c fits e w =
    let done = writes_blank (subst (λ (xs : List ℕ). Writes xs 0 bytes after r) e w) fits in
    record { answers = ap written done.1 ∙ sym (ap (λ (x : Outcome). x.answer) c); leaves = done.0 ∙ sym (ap (λ (x : Outcome). x.lent) c) }

-- the same room, as the buffer has it that was cleared
pub moved : (call : ℕ → Outcome) {r : Result ℕ Refusal} {out : List ℕ} {n room : ℕ} → n ≡ room → Does (call n) r out → Does (call room) r out
moved call {r} {out} e h = subst (λ (k : ℕ). Does (call k) r out) e h

no_literals : (bs : List Literal) → 0 ≡ length bs → bs ≡ []
no_literals [] e = refl
no_literals (b ∷ bs) e = absurd (omega arith)

module _ (l : FullLayout) (bytes : List ℕ) (p : Passing l bytes) (room : ℕ) where
  full : has_room room (rewrite_of bytes) ≡ false → (out : List ℕ) → out ≡ replicate room 0 → Does (rewrite_call bytes room) (Err (refusal_at fault.RewriteRoom 0)) out
  full h out e = does_blank room (call_full rewriting_old bytes room p.accepted h) e

  wrote : has_room room (rewrite_of bytes) ≡ true → length (encode (rewrite_of bytes)) ≤ room → (before after : List ℕ) (r : ℕ) →
      before ≡ replicate room 0 → Writes before 0 (encode (rewrite_of bytes)) after r → Does (rewrite_call bytes room) (Ok r) after
  wrote h fits before after r e w = does_write room (call_writes rewriting_old bytes room p.accepted h) fits e w

  -- "others are copied"
  module _ (none_held : l.boolean_count ≡ 0) where
    empty : (decode_old bytes).booleans ≡ []
    empty = no_literals (decode_old bytes).booleans (sym none_held ∙ boolean_counted l bytes p)

    base-itself : rewrite_of bytes ≡ (decode_old bytes).base
    unfolding rewrite rewritten
    base-itself = ap (rewritten (decode_old bytes).base) empty

    itself : encode (rewrite_of bytes) ≡ bytes
    itself = copied bytes p.accepted empty

    pub copy_short : room < length bytes → (out : List ℕ) → out ≡ replicate room 0 → Does (rewrite_call bytes room) (Err (refusal_at fault.RewriteRoom 0)) out
    copy_short h = full (has_not bytes room (inr (inr (omega (arith, ap length itself)))))

    pub copy_done : length bytes ≤ room → (before after : List ℕ) (r : ℕ) → before ≡ replicate room 0 → Writes before 0 bytes after r → Does (rewrite_call bytes room) (Ok r) after
    copy_done h before after r e w =
        let fits : length (encode (rewrite_of bytes)) ≤ room = omega (arith, ap length itself) in
        let limits = base_limits bytes p.accepted in
        let room_there =
        room_intro room (rewrite_of bytes)
        (record {
          terms = omega (arith, ap term_count base-itself, limits.terms);
          fields = omega (arith, ap (λ (q : Query). length q.fields) base-itself, limits.fields);
          output = fits;
        }) in
        wrote room_there fits before after r e (writes_as (sym itself) w)

  module _ (held : l.boolean_count ≡ 0 → ⊥) where
    pub no_term : l.layout.terms ≡ 16 → (out : List ℕ) → out ≡ replicate room 0 → Does (rewrite_call bytes room) (Err (refusal_at fault.RewriteRoom 0)) out
    no_term h = full (has_not bytes room (inl (omega (arith, terms_more l bytes p held))))

    pub no_literal : 60 < l.layout.field_count + l.boolean_count → (out : List ℕ) → out ≡ replicate room 0 → Does (rewrite_call bytes room) (Err (refusal_at fault.RewriteRoom 0)) out
    no_literal h = full (has_not bytes room (inr (inl (omega (arith, fields_more l bytes p held)))))

    pub no_output : room < length bytes + l.boolean_count + 1 → (out : List ℕ) → out ≡ replicate room 0 → Does (rewrite_call bytes room) (Err (refusal_at fault.RewriteRoom 0)) out
    no_output h = full (has_not bytes room (inr (inr (omega (arith, written_long l bytes p held)))))

    pub done : l.layout.terms < 16 → l.layout.field_count + l.boolean_count ≤ 60 → length bytes + l.boolean_count + 1 ≤ room →
        (before after : List ℕ) (r : ℕ) → before ≡ replicate room 0 →
        Writes before 0 (rewritten_bytes l.layout.terms (fourth_at l bytes p) l.layout.field_count l.boolean_count bytes) after r →
        Does (rewrite_call bytes room) (Ok r) after
    done a b c before after r e w =
        let fits : length (encode (rewrite_of bytes)) ≤ room = omega (arith, written_long l bytes p held) in
        let room_there =
        room_intro room (rewrite_of bytes)
        (record {
          terms = omega (arith, terms_more l bytes p held);
          fields = omega (arith, fields_more l bytes p held);
          output = fits;
        }) in
        wrote room_there fits before after r e (writes_as (written_is l bytes p held) w)

-- The checks

pub refuses : (bytes : List ℕ) (room : ℕ) {r : Refusal} → FullCheckedAs (Err r) bytes 60 3 → (out : List ℕ) →
    out ≡ replicate room 0 → Does (rewrite_call bytes room) (Err r) out
unfolding old_sections layout_numbers
refuses bytes room {r} h out e = does_blank room (call_refused rewriting_old bytes room (calls.refused (number_of r.fault) r.place) (h three_number (given bytes room) refl)) e

pub passing : (l : FullLayout) (bytes : List ℕ) → FullCheckedAs (Ok l) bytes 60 3 → Passing l bytes
unfolding old_sections
passing l bytes h = record { laid = h.1; accepted = none_accepts rewriting_old bytes 0 (h.0 (given bytes 0) refl) }
