-- The machine's moves, as the code makes them.
use Prim.Native.Nat.{ℕ, suc, ◌-◌, ◌≤◌, ◌<◌}
use native.Mathlib.Omega.{arith}
use mathlib.Core.Path.{◌≡◌, refl, sym, ap, ◌∙◌}
use mathlib.Core.Logic.{⊎_elim}
use mathlib.Core.Bool.{Bool, true, false, cond}
use mathlib.Core.List.{List, [], ◌∷◌, ◌++◌, map-append, tail}
use lib.ListN.{get_elem?}
use lib.Dec.{eqb, ltb, leb}
use borrow.Author.Tests.{eq-eqb, ne_eqb, lt-ltb, le-ltb, le-leb, eqb-true, ltb-false}
use Rattle.logic.specs.Search.{select, all}
use Rattle.theory.proofs.Basics.Search.{bool_cases, and_intro}
use Rattle.grammar_theory.specs.Grammar.{token, rule, action, Symbols, Kinds, alternatives, symbol_of}
use Rattle.grammar_theory.specs.Machine.{predicted, next, Move, finish, read, perform, expand, refuse, expand_by, move, State, Ending, accepted, stuck, unfinished}
use Rattle.grammar_theory.specs.Machine.{after_expand, after_read, after_perform, moved, run}
use Rattle.routine_tokens.specs.declared.Token.{Token}
use Rattle.routine_text.specs.Grammar.{grammar, predictions}
use Rattle.routine_text.specs.Reading.{kinds_of}
use Rattle.routine_reader.specs.Rows.{row, choice}
use Rattle.routine_reader.specs.Stack.{pushed, symbols_of}
use Rattle.routine_reader.specs.Answers.{nothing}
use Rattle.routine_reader.proofs.Choices.{chosen_none, chosen_some}

-- where the machine is, with these numbers on its stack before these tokens
abbrev state : List ℕ → List Token → Bool → State ℕ
state codes ts e = record { stack = symbols_of codes; left = kinds_of ts; now = 0; certain = 0; eager = e }

unfoldable pub reading : ℕ → List ℕ → List Token → Bool → Ending ℕ
reading n codes ts e = run nothing grammar predictions n (state codes ts e)

pub reading_out : (codes : List ℕ) (ts : List Token) (e : Bool) → reading 0 codes ts e ≡ unfinished
unfolding reading run
reading_out codes ts e = refl

-- what a number stands for

module _ {c : ℕ} where
  is_token : c < 64 → symbol_of c ≡ token c
  unfolding symbol_of
  is_token h = rw (lt-ltb c 64 h) refl

  is_rule_lem : 64 ≤ c → c < 128 → symbol_of c ≡ rule (c - 64)
  unfolding symbol_of
  is_rule_lem h l = rw (le-ltb c 64 h, lt-ltb c 128 l) refl

  is_action : 128 ≤ c → symbol_of c ≡ action (c - 128)
  unfolding symbol_of
  is_action h = rw (le-ltb c 64 (omega arith), le-ltb c 128 h) refl

-- an alternative that is pushed stands before what is on the stack
pushed_symbols : (cs below stack : List ℕ) → symbols_of (pushed cs (below ++ stack)) ≡ symbols_of (pushed cs below) ++ symbols_of stack
unfolding pushed symbols_of
pushed_symbols [] below stack = map-append symbol_of below stack
pushed_symbols (c ∷ cs) below stack =
    ⊎_elim
    (λ (h : ltb c 2 ≡ true). rw h (map-append symbol_of below stack))
    (λ h. rw h (pushed_symbols cs (c ∷ below) stack))
    (bool_cases (ltb c 2))

-- only symbols of alternatives are pushed
unfoldable pub no_end : ℕ → Bool
no_end c = leb 2 c

pub pushed-no_end : (cs stack : List ℕ) → all no_end stack ≡ true → all no_end (pushed cs stack) ≡ true
unfolding pushed
pushed-no_end [] stack h = h
pushed-no_end (c ∷ cs) stack h =
    ⊎_elim
    (λ (l : ltb c 2 ≡ true). rw l h)
    (λ l. rw l (pushed-no_end cs (c ∷ stack) (unfold all no_end in and_intro (le-leb 2 c (ltb-false c 2 l)) h)))
    (bool_cases (ltb c 2))

module _ (n : ℕ) (codes : List ℕ) (t : Token) (rest : List Token) (e : Bool) where
  by_move : (m : Move) → move grammar predictions (symbols_of codes) (next (kinds_of (t ∷ rest))) ≡ m →
      reading (suc n) codes (t ∷ rest) e ≡ moved nothing (run nothing grammar predictions n) (state codes (t ∷ rest) e) m
  unfolding reading run
  by_move m h = ap (moved nothing (run nothing grammar predictions n) (state codes (t ∷ rest) e)) h

  by_refuse : move grammar predictions (symbols_of codes) (next (kinds_of (t ∷ rest))) ≡ refuse → reading (suc n) codes (t ∷ rest) e ≡ stuck (kinds_of (t ∷ rest)) 0
  unfolding moved
  by_refuse h = by_move refuse h

module _ (t : Token) (rest : List Token) where
  -- the kind of the next token
  next-kind : (t.kind < 2 → rest ≡ []) → next (kinds_of (t ∷ rest)) ≡ t.kind
  unfolding next kinds_of select
  next-kind z =
      ⊎_elim
      (λ (h : eqb t.kind 0 ≡ true). let k : t.kind ≡ 0 = eqb-true _ _ h in
      ap (λ (ts : List Token). next (kinds_of (t ∷ ts))) (z (omega arith)) ∙ (rw h (sym k)))
      (λ h. rw h refl)
      (bool_cases (eqb t.kind 0))

  pub kinds_more : 2 ≤ t.kind → kinds_of (t ∷ rest) ≡ t.kind ∷ kinds_of rest
  unfolding kinds_of select
  kinds_more h = rw (ne_eqb t.kind 0 (λ (k : t.kind ≡ 0). omega arith)) refl

module _ (n : ℕ) (codes : List ℕ) (t : Token) (rest : List Token) (e : Bool) (z : t.kind < 2 → rest ≡ []) where
  pub move_end : t.kind ≡ 0 → reading (suc n) [] (t ∷ rest) e ≡ accepted 0
  unfolding moved move symbols_of
  move_end h = by_move n [] t rest e finish (rw (eq-eqb _ 0 (next-kind t rest z ∙ h)) refl)

  pub move_more : (t.kind ≡ 0 → ⊥) → reading (suc n) [] (t ∷ rest) e ≡ stuck (kinds_of (t ∷ rest)) 0
  unfolding move symbols_of
  move_more h = by_refuse n [] t rest e (rw (ne_eqb _ 0 (λ (k : next (kinds_of (t ∷ rest)) ≡ 0). h (sym (next-kind t rest z) ∙ k))) refl)

  module _ (c : ℕ) where
    pub move_other : c < 64 → (c ≡ t.kind → ⊥) → reading (suc n) (c ∷ codes) (t ∷ rest) e ≡ stuck (kinds_of (t ∷ rest)) 0
    unfolding move symbols_of
    move_other h l = by_refuse n (c ∷ codes) t rest e (rw (is_token h, ne_eqb c _ (λ (k : c ≡ next (kinds_of (t ∷ rest))). l (k ∙ next-kind t rest z))) refl)

    pub move-token : c < 64 → c ≡ t.kind → 2 ≤ t.kind → reading (suc n) (c ∷ codes) (t ∷ rest) e ≡ reading n codes rest true
    unfolding moved move symbols_of after_read nothing reading
    move-token h l k =
        by_move n (c ∷ codes) t rest e read (rw (is_token h, eq-eqb c _ (l ∙ sym (next-kind t rest z))) refl)
        ∙ ap (λ (ks : Kinds). run nothing grammar predictions n (record { stack = symbols_of codes; left = tail ks; now = 0; certain = 0; eager = true })) (kinds_more t rest k)

    pub move-action : 128 ≤ c → reading (suc n) (c ∷ codes) (t ∷ rest) e ≡ reading n codes (t ∷ rest) e
    unfolding moved move symbols_of after_perform nothing reading
    move-action h = by_move n (c ∷ codes) t rest e (perform (c - 128)) (rw (is_action h) refl) ∙ plain e
      where
        plain : (b : Bool) →
            run nothing grammar predictions n (record { stack = symbols_of codes; left = kinds_of (t ∷ rest); now = 0; certain = cond b 0 0; eager = b })
            ≡ run nothing grammar predictions n (state codes (t ∷ rest) b)
        plain true = refl
        plain false = refl

    module _ (h : 64 ≤ c) (l : c < 128) (k : t.kind < 45) where
      rule_move : move grammar predictions (symbols_of (c ∷ codes)) (next (kinds_of (t ∷ rest))) ≡ expand_by (get_elem? (alternatives grammar (c - 64)) (predicted predictions (c - 64) t.kind))
      unfolding move symbols_of
      rule_move = rw (is_rule_lem h l, next-kind t rest z) refl

      pub move-none : choice (c - 64) t.kind ≡ 0 → reading (suc n) (c ∷ codes) (t ∷ rest) e ≡ stuck (kinds_of (t ∷ rest)) 0
      unfolding expand_by
      move-none o = by_refuse n (c ∷ codes) t rest e (rule_move ∙ ap expand_by (chosen_none (c - 64) t.kind k o))

      pub move_row : (j : ℕ) → choice (c - 64) t.kind ≡ suc j → reading (suc n) (c ∷ codes) (t ∷ rest) e ≡ reading n (pushed (row j) codes) (t ∷ rest) false
      unfolding moved expand_by after_expand reading
      move_row j o =
          by_move n (c ∷ codes) t rest e (expand (symbols_of (pushed (row j) []))) (rule_move ∙ ap expand_by (chosen_some (c - 64) t.kind j k o).0)
          ∙ ap (λ (ss : Symbols). run nothing grammar predictions n (record { stack = ss; left = kinds_of (t ∷ rest); now = 0; certain = 0; eager = false })) same
        where
          same : symbols_of (pushed (row j) []) ++ tail (symbols_of (c ∷ codes)) ≡ symbols_of (pushed (row j) codes)
          same = ap (λ (ss : Symbols). symbols_of (pushed (row j) []) ++ ss) below ∙ sym (pushed_symbols (row j) [] codes)
            where
              below : tail (symbols_of (c ∷ codes)) ≡ symbols_of codes
              below = unfold symbols_of in refl
