-- The numbers say what the grammar says: a test that is computed, and the law that it gives.
use Prim.Native.Nat.{ℕ, zero, suc, ◌≤◌, ◌<◌}
use native.Mathlib.Omega.{arith}
use mathlib.Core.Logic.{⊎_elim}
use mathlib.Core.Path.{◌≡◌, refl, sym, ap, ◌∙◌}
use mathlib.Core.Bool.{Bool, true, false}
use mathlib.Core.List.{List, [], ◌∷◌}
use mathlib.Core.Option.{Option, none, some}
use lib.Dec.{eqb, ltb}
use lib.ListN.{length, get_elem?, get_or-eq_default}
use borrow.Author.Tests.{eqb-true, ltb-true, ltb-false}
use Rattle.logic.specs.Search.{◌and◌, ◌or◌, from, all}
use Rattle.theory.proofs.Basics.Search.{bool_cases, true-false, and_left, and_right, all_true, from_intro}
use Rattle.text.specs.Text.{is_digit}
use Rattle.grammar_theory.specs.Grammar.{Symbol, token, rule, action, Symbols, alternatives, symbol_of}
use Rattle.grammar_theory.specs.Machine.{predicted}
use Rattle.routine_tokens.specs.Tokens.{is_blank, is_letter, is_word_byte, word_length, opens_comment, separates, in_comment, separators}
use Rattle.routine_tokens.specs.Tokens.{fits, row_of, row_length, reserved_kind, digit_kind, word_kind, token_of, word_of, sign_of, token_at, token_behind, token_in}
use Rattle.routine_text.specs.Grammar.{grammar, predictions, digits}
use Rattle.routine_reader.specs.Rows.{rows, choices, row, choice}
use Rattle.routine_reader.specs.Stack.{pushed, symbols_of}
use Rattle.routine_reader.proofs.Stack.{choice_out}

-- two symbols are the same

unfoldable same_symbol : Symbol → Symbol → Bool
same_symbol (token i) (token j) = eqb i j
same_symbol (rule i) (rule j) = eqb i j
same_symbol (action i) (action j) = eqb i j
same_symbol (token i) (rule j) = false
same_symbol (token i) (action j) = false
same_symbol (rule i) (token j) = false
same_symbol (rule i) (action j) = false
same_symbol (action i) (token j) = false
same_symbol (action i) (rule j) = false

same_symbol_lem : (a b : Symbol) → same_symbol a b ≡ true → a ≡ b
unfolding same_symbol
same_symbol_lem (token i) (token j) h = ap token (eqb-true i j h)
same_symbol_lem (rule i) (rule j) h = ap rule (eqb-true i j h)
same_symbol_lem (action i) (action j) h = ap action (eqb-true i j h)
same_symbol_lem (token i) (rule j) h = absurd (true-false h refl)
same_symbol_lem (token i) (action j) h = absurd (true-false h refl)
same_symbol_lem (rule i) (token j) h = absurd (true-false h refl)
same_symbol_lem (rule i) (action j) h = absurd (true-false h refl)
same_symbol_lem (action i) (token j) h = absurd (true-false h refl)
same_symbol_lem (action i) (rule j) h = absurd (true-false h refl)

unfoldable same_symbols : Symbols → Symbols → Bool
same_symbols [] [] = true
same_symbols [] (b ∷ bs) = false
same_symbols (a ∷ cs) [] = false
same_symbols (a ∷ cs) (b ∷ bs) = same_symbol a b and same_symbols cs bs

same_symbols_lem : (xs ys : Symbols) → same_symbols xs ys ≡ true → xs ≡ ys
unfolding same_symbols
same_symbols_lem [] [] h = refl
same_symbols_lem [] (b ∷ bs) h = absurd (true-false h refl)
same_symbols_lem (a ∷ cs) [] h = absurd (true-false h refl)
same_symbols_lem (a ∷ cs) (b ∷ bs) h =
    ap (λ (x : Symbol). x ∷ cs) (same_symbol_lem a b (and_left _ _ h)) ∙ ap (λ (xs : Symbols). b ∷ xs) (same_symbols_lem cs bs (and_right _ _ h))

-- an alternative and the choice of a number are the same
unfoldable agrees : Option Symbols → ℕ → Bool
agrees none zero = true
agrees none (suc j) = false
agrees (some ss) zero = false
agrees (some ss) (suc j) = ltb j 94 and same_symbols ss (symbols_of (pushed (row j) []))

unfoldable agrees_at : ℕ → ℕ → Bool
agrees_at r k = agrees (get_elem? (alternatives grammar r) (predicted predictions r k)) (choice r k)

all_agree : all (λ r. all (agrees_at r) (from 45 0)) (from 42 0) ≡ true
unfolding ◌and◌ ◌or◌ from all is_digit alternatives symbol_of predicted is_blank is_letter is_word_byte word_length opens_comment separates in_comment separators fits row_of row_length reserved_kind digit_kind word_kind token_of word_of sign_of token_at token_behind token_in grammar predictions digits rows choices row choice pushed symbols_of same_symbol same_symbols agrees agrees_at
all_agree = refl

agree : (r k : ℕ) → r < 42 → k < 45 → agrees_at r k ≡ true
agree r k h l =
    let of_rule : all (agrees_at r) (from 45 0) ≡ true =
    all_true (λ (r : ℕ). all (agrees_at r) (from 45 0)) r all_agree (from_intro 42 0 r (omega arith) (omega arith)) in
    all_true (agrees_at r) k of_rule (from_intro 45 0 k (omega arith) (omega arith))

agrees-none : (o : Option Symbols) → agrees o 0 ≡ true → o ≡ none
unfolding agrees
agrees-none none h = refl
agrees-none (some ss) h = absurd (true-false h refl)

agrees-some : (o : Option Symbols) (j : ℕ) → agrees o (suc j) ≡ true → (o ≡ some (symbols_of (pushed (row j) []))) × (j < 94)
unfolding agrees
agrees-some none j h = absurd (true-false h refl)
agrees-some (some ss) j h = (ap some (same_symbols_lem ss _ (and_right _ _ h)), ltb-true j 94 (and_left _ _ h))

-- no alternative of a rule that there is not
grammar-length : length grammar ≡ 42
unfolding grammar
grammar-length = refl

no_rule : (r k : ℕ) → 42 ≤ r → get_elem? (alternatives grammar r) k ≡ none
unfolding alternatives
no_rule r k h = ap (λ (rules : List Symbols). get_elem? rules k) (get_or-eq_default grammar [] {n = r} (omega (arith, grammar-length)))

pub chosen_none : (r k : ℕ) → k < 45 → choice r k ≡ 0 → get_elem? (alternatives grammar r) (predicted predictions r k) ≡ none
chosen_none r k l e =
    ⊎_elim
    (λ (h : ltb r 42 ≡ true). agrees-none _ (ap (agrees (get_elem? (alternatives grammar r) (predicted predictions r k))) (sym e) ∙ unfold agrees_at in agree r k (ltb-true r 42 h) l))
    (λ h. no_rule r _ (ltb-false r 42 h))
    (bool_cases (ltb r 42))

pub chosen_some : (r k j : ℕ) → k < 45 → choice r k ≡ suc j →
    (get_elem? (alternatives grammar r) (predicted predictions r k) ≡ some (symbols_of (pushed (row j) []))) × (j < 94)
chosen_some r k j l e =
    ⊎_elim
    (λ (h : ltb r 42 ≡ true). agrees-some _ j (ap (agrees (get_elem? (alternatives grammar r) (predicted predictions r k))) (sym e) ∙ unfold agrees_at in agree r k (ltb-true r 42 h) l))
    (λ h. let z : 0 ≡ suc j = choice_out r k (ltb-false r 42 h) ∙ e in absurd (omega arith))
    (bool_cases (ltb r 42))
