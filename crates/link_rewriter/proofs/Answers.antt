-- What the call does, case by case. Assumes nothing.
use Prim.Native.Nat.{ℕ, ◌+◌, ◌≤◌, ◌<◌}
use native.Mathlib.Omega.{arith}
use mathlib.Core.Path.{◌≡◌, refl, ◌∙◌}
use mathlib.Core.Bool.{true}
use mathlib.Core.List.{List}
use lib.ListN.{length, replicate}
use borrow.Author.Tests.{le-leb, lt-leb}
use Rattle.logic.specs.Query.{sections}
use Rattle.logic.specs.Calls.{accepts, query_checks}
use Rattle.logic.specs.Calls as calls
use Rattle.encoding.specs.WritingCall.{given, accepts_in}
use Rattle.encoding.proofs.WritingCall.{call_refused, call_full, call_writes}
use Rattle.text.specs.Text.{Writes}
use Rattle.text.proofs.Writing.{writes_as}
use Rattle.query_checks.specs.Answers.{CheckedAs}
use Rattle.query.specs.LaysOut.{LaysOut}
use Rattle.query.specs.declared.Layout.{Layout}
use Rattle.rewriter.specs.Promise.{Does}
use Rattle.std.specs.Prelude.{Ok, Err}
use Rattle.refusals.specs.declared.Refusal.{Refusal}
use Rattle.refusals.specs.declared.Fault.TheVariants as fault
use Rattle.refusals.specs.Numbers.{number_of, refusal_at}
use Rattle.rewriter.proofs.Answers.{does_blank, does_write}
use Rattle.link_rewriting.specs.Call.{linked_bytes, rewriting_links, links_rewrite_call}
use Rattle.link_rewriting.proofs.Claims.{accepts_same}
use Rattle.link_rewriter.specs.Bytes.{rewritten_bytes}
use Rattle.link_rewriter.proofs.Written.{reach_place, written_is, written_long}

module _ (l : Layout) (bytes : List ℕ) (laid : LaysOut l bytes) (ok : accepts bytes ≡ true) (room : ℕ) where
  passed : accepts_in sections bytes ≡ true
  passed = accepts_same bytes ∙ ok

  pub short : room < length bytes + l.terms + l.reach_count → (out : List ℕ) → out ≡ replicate room 0 → Does (links_rewrite_call bytes room) (Err (refusal_at fault.RewriteRoom 0)) out
  short h out e = does_blank room (call_full rewriting_links bytes room passed (lt-leb _ room (omega (arith, h, written_long l bytes laid ok)))) e

  pub done : length bytes + l.terms + l.reach_count ≤ room → (before after : List ℕ) (r : ℕ) → before ≡ replicate room 0 →
      Writes before 0 (rewritten_bytes l.terms (reach_place l bytes laid ok) l.reach_count bytes) after r →
      Does (links_rewrite_call bytes room) (Ok r) after
  done h before after r e w =
      let fits : length (linked_bytes bytes) ≤ room = omega (arith, h, written_long l bytes laid ok) in
      does_write room (call_writes rewriting_links bytes room passed (le-leb _ room fits)) fits e (writes_as (written_is l bytes laid ok) w)

-- The checks

pub refuses : (bytes : List ℕ) (room : ℕ) {r : Refusal} → CheckedAs (Err r) bytes → (out : List ℕ) → out ≡ replicate room 0 →
    Does (links_rewrite_call bytes room) (Err r) out
unfolding query_checks
refuses bytes room {r} h out e = does_blank room (call_refused rewriting_links bytes room (calls.refused (number_of r.fault) r.place) (h (given bytes room) refl)) e
