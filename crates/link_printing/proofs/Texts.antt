-- The texts as they are written. Assumes nothing.
use Prim.Native.Nat.{ℕ, ◌≤◌}
use mathlib.Core.Path.{◌≡◌, refl, sym, ap, ◌∙◌}
use mathlib.Core.List.{List}
use lib.ListN.{length, take}
use lib.Seq.{take_all}
use Rattle.rewriter.specs.Promise.{meaning, Does}
use Rattle.std.specs.Prelude.{Result}
use Rattle.refusals.specs.declared.Refusal.{Refusal}
use Rattle.link_rewriting.specs.Call.{links_rewrite_call}
use Rattle.rewrite_printing.specs.RewriteText.{answer_text, outcome_text}
use Rattle.rewrite_printing.proofs.Texts.{told}
use Rattle.link_printing.specs.LinkText.{text_of, rewritelinks_text}

-- what the call answers and leaves
pub linked_text : (query : List ℕ) (room : ℕ) {r : Result ℕ Refusal} {bytes : List ℕ} → Does (links_rewrite_call query room) r bytes → room ≡ 637 → answer_text (meaning r) bytes ≡ text_of query
unfolding text_of
linked_text query room does full = told does ∙ ap (λ (k : ℕ). outcome_text (links_rewrite_call query k)) full

-- the bytes that are read
pub text_cut : (bytes : List ℕ) → text_of (take 1024 bytes) ≡ rewritelinks_text bytes
unfolding rewritelinks_text
text_cut bytes = refl

pub text_whole : (bytes : List ℕ) → length bytes ≤ 1024 → text_of bytes ≡ rewritelinks_text bytes
unfolding rewritelinks_text
text_whole bytes h = ap text_of (sym (take_all 1024 bytes h))
