-- The number gives back the answer: of every call, for whatever it is given. `r` is the number that the call answers and `bytes` what it leaves in
-- the lent output: its contract is the hypothesis. Assumes nothing.
use Prim.Native.Nat.{ℕ, ◌≤◌, ◌<◌}
use native.Mathlib.Omega.{arith}
use mathlib.Core.Path.{◌≡◌}
use mathlib.Core.List.{List}
use lib.ListN.{length}
use Rattle.logic.specs.Calls.{CallForm, one_link_form, verdict_call, verdict_call_of, derivation_call, derivation_call_of}
use Rattle.logic.specs.ThreeLinks.{three_link_form}
use Rattle.theory.proofs.Calls.CallLaws.{FormLaws}
use Rattle.theory.proofs.Calls.Refusals.{one_link_laws}
use Rattle.theory.proofs.Calls.ThreeLinks.{three_link_laws}
use Rattle.prover.specs.Promise.{input_of}
use Rattle.formula.specs.Call.{formula_call}
use Rattle.formula_call.specs.FormulaPromise.{formula_input}
use Rattle.checking.specs.CheckCall.{check_call, check_call_of}
use Rattle.checking.specs.Claims.{Claims}
use Rattle.checking.proofs.Claims as checks
use Rattle.between_search.specs.Calls.{between_call}
use Rattle.ordering.specs.Calls.{order_call}
use Rattle.drawing.specs.Call.{dot_call}
use Rattle.rewriting.specs.Call.{rewrite_call}
use Rattle.rewriting.proofs.Claims as rewriting
use Rattle.link_rewriting.specs.Call.{links_rewrite_call}
use Rattle.link_rewriting.proofs.Claims as link_rewriting
use Rattle.joining.specs.Call.{join_call}
use Rattle.joining.specs.HandBack.{hand_back_call}
use Rattle.codes.specs.Codes.{code, digits_in}
use Rattle.codes.proofs.Numbers.{number_back}
use Rattle.answer_codes.specs.Numbers.{verdict_digits, verdict_read, order_digits, order_read, formula_digits, formula_read, check_digits, check_read}
use Rattle.answer_codes.specs.Numbers.{dot_digits, dot_read, writing_digits, writing_read, join_digits, join_read, hand_digits, hand_read}
use Rattle.answer_codes.proofs.Returned.{verdict_returns, order_returns, formula_returns, check_returns, dot_returns, writing_returns, join_returns, hand_returns}
use Rattle.lemitsaka.specs.VerdictPromise.{answer_in, Codes}
use Rattle.lemitsaka.specs.PrecedencePromise.{OrderCodes}
use Rattle.lemitsaka.specs.FormulaPromise.{CodesFormula}
use Rattle.lemitsaka.specs.DotPromise.{DotCodes}
use Rattle.lemitsaka.specs.RewritePromise.{RewriteCodes}
use Rattle.lemitsaka.specs.JoinPromise.{JoinCodes}
use Rattle.lemitsaka.proofs.Bounds.{check_counted, check_refused, formula_counted, formula_refused, between_refused, rewrite_refused, links_rewrite_refused, order_refused, dot_refused}
use Rattle.lemitsaka.proofs.TwoQueries.{join_small, hand_small}
use Rattle.lemitsaka.proofs.Header as header

module _ (order query before bytes : List ℕ) (r : ℕ) where
  pub lemitsaka_verdict : Codes (verdict_call (input_of order query before)) r bytes → answer_in r ≡ (verdict_call (input_of order query before)).answer
  lemitsaka_verdict = header.verdict_number one_link_form one_link_laws (omega arith) order query before bytes r

  pub lemitsaka_derivation : Codes (derivation_call (input_of order query before)) r bytes → answer_in r ≡ (derivation_call (input_of order query before)).answer
  lemitsaka_derivation = header.derivation_number one_link_form one_link_laws (omega arith) order query before bytes r

  pub lemitsaka_links_verdict : Codes (verdict_call_of three_link_form (input_of order query before)) r bytes → answer_in r ≡ (verdict_call_of three_link_form (input_of order query before)).answer
  lemitsaka_links_verdict = header.verdict_number three_link_form three_link_laws (omega arith) order query before bytes r

  pub lemitsaka_links_derivation : Codes (derivation_call_of three_link_form (input_of order query before)) r bytes → answer_in r ≡ (derivation_call_of three_link_form (input_of order query before)).answer
  lemitsaka_links_derivation = header.derivation_number three_link_form three_link_laws (omega arith) order query before bytes r

  pub lemitsaka_formula : (text : List ℕ) → CodesFormula (formula_call (formula_input order query text before)) r bytes
      → formula_read (digits_in r) ≡ (formula_call (formula_input order query text before)).answer
  lemitsaka_formula text codes =
      let i = formula_input order query text before in
      number_back formula_digits formula_read _ (formula_returns _ (formula_counted i) (λ k place. formula_refused i place k)) r codes.answers

module _ (f : CallForm) (laws : FormLaws f) (claims : Claims f) (short : f.longest ≤ 637) (query derivation : List ℕ) where
  check_number : (r : ℕ) → r ≡ code (check_digits (check_call_of f query derivation)) → check_read (digits_in r) ≡ check_call_of f query derivation
  check_number = number_back check_digits check_read _ (check_returns _ (check_counted f laws claims short query derivation) (check_refused f laws claims short query derivation))

pub lemitsaka_check : (query derivation : List ℕ) (r : ℕ) → r ≡ code (check_digits (check_call query derivation)) → check_read (digits_in r) ≡ check_call query derivation
lemitsaka_check = check_number one_link_form one_link_laws checks.claims (omega arith)

pub lemitsaka_links_check : (query derivation : List ℕ) (r : ℕ) → r ≡ code (check_digits (check_call_of three_link_form query derivation))
    → check_read (digits_in r) ≡ check_call_of three_link_form query derivation
lemitsaka_links_check = check_number three_link_form three_link_laws checks.links_claims (omega arith)

-- the calls that take one slice and are lent so many bytes
module _ (given : List ℕ) (room : ℕ) (bytes : List ℕ) (r : ℕ) where
  pub lemitsaka_between : Codes (between_call given room) r bytes → answer_in r ≡ (between_call given room).answer
  lemitsaka_between codes = number_back verdict_digits verdict_read _ (verdict_returns _ (between_refused given room)) r codes.answers

  pub lemitsaka_order : OrderCodes (order_call given room) r bytes → order_read (digits_in r) ≡ (order_call given room).answer
  lemitsaka_order codes = number_back order_digits order_read _ (order_returns _ (order_refused given room)) r codes.answers

  pub lemitsaka_dot : DotCodes (dot_call given room) r bytes → dot_read (digits_in r) ≡ (dot_call given room).answer
  lemitsaka_dot codes = number_back dot_digits dot_read _ (dot_returns _ (λ n e. omega (arith, codes.short n e)) (dot_refused given room)) r codes.answers

  pub lemitsaka_rewrite : RewriteCodes (rewrite_call given room) r bytes → writing_read (digits_in r) ≡ (rewrite_call given room).answer
  lemitsaka_rewrite codes =
      number_back writing_digits writing_read _ (writing_returns _ (λ n e. omega (arith, ((rewriting.claims).written given room n e).within)) (rewrite_refused given room)) r codes.answers

  pub lemitsaka_links_rewrite : RewriteCodes (links_rewrite_call given room) r bytes → writing_read (digits_in r) ≡ (links_rewrite_call given room).answer
  lemitsaka_links_rewrite codes =
      number_back writing_digits writing_read _ (writing_returns _ (λ n e. omega (arith, ((link_rewriting.claims).written given room n e).within)) (links_rewrite_refused given room)) r codes.answers

-- the calls that take two queries
module _ (first second : List ℕ) (r : ℕ) where
  pub lemitsaka_join : (pairs : List ℕ) (room : ℕ) (bytes : List ℕ) → JoinCodes (join_call first second pairs room) r bytes → join_read (digits_in r) ≡ (join_call first second pairs room).answer
  lemitsaka_join pairs room bytes codes = number_back join_digits join_read _ (join_returns _ (join_small first second pairs room)) r codes.answers

  pub lemitsaka_hand_back : (line : List ℕ) → r ≡ code (hand_digits (hand_back_call first second line)) → hand_read (digits_in r) ≡ hand_back_call first second line
  lemitsaka_hand_back line = number_back hand_digits hand_read _ (hand_returns _ (hand_small first second line)) r
