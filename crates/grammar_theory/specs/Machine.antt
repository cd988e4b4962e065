-- The machine that reads a text with a stack of symbols, looking at the kind of the next token. It does the steps to something: `does` says what
-- each step makes of it. What is done because of the next token (behind a rule that was expanded for it) is certain once that token is read.
use Rattle.std.specs.Prelude.{ℕ, zero, suc, Bool, true, false, cond, eqb, get_or}
use mathlib.Core.List.{List, [], ◌∷◌, ◌++◌, tail}
use Rattle.std.proofs.Math.Option.{Option, none, some}
use Rattle.std.proofs.Math.ListN.{get_elem?}
use Rattle.grammar_theory.specs.Grammar.{token, rule, action, Symbols, Kinds, Grammar, alternatives, Step, shift, act, Steps}

-- For each rule, and each kind: the number of the alternative that is taken before a token of that kind, counted from 0.
abbrev pub Table : Type 0
Table = List (List ℕ)

unfoldable pub predicted : Table → ℕ → ℕ → ℕ
predicted t r k = get_or (get_or t r []) k 0

-- the kind of the next token: 0 at the end
unfoldable pub next : Kinds → ℕ
next [] = 0
next (k ∷ ks) = k

-- What the machine does at a stack before a token of a kind.
pub data Move : Type 0 where
  finish : Move
  read : Move
  perform : ℕ → Move
  expand : Symbols → Move
  refuse : Move

unfoldable pub expand_by : Option Symbols → Move
expand_by none = refuse
expand_by (some ss) = expand ss

unfoldable pub move : Grammar → Table → Symbols → ℕ → Move
move g t [] k = cond (eqb k 0) finish refuse
move g t (token j ∷ ss) k = cond (eqb j k) read refuse
move g t (rule r ∷ ss) k = expand_by (get_elem? (alternatives g r) (predicted t r k))
move g t (action a ∷ ss) k = perform a

-- Where the machine is: the stack, the kinds of the tokens not yet read, what the steps so far made, and what the certain ones of them made. Actions
-- are certain at once as long as no rule was expanded since the last token was read ("eager").
pub record State (B : Type 0) : Type 0 where
  pub stack : Symbols
  pub left : Kinds
  pub now : B
  pub certain : B
  pub eager : Bool

-- How the machine ends: the text is read; or its first token that is left cannot stand there (none left: the text cannot end there), with what the
-- certain steps made; or the machine was not given enough moves.
pub data Ending (B : Type 0) : Type 0 where
  accepted : B → Ending B
  stuck : Kinds → B → Ending B
  unfinished : Ending B

unfoldable pub after_expand : {B : Type 0} → Symbols → State B → State B
after_expand ss s = record { stack = ss ++ tail s.stack; left = s.left; now = s.now; certain = s.certain; eager = false }

module _ {B : Type 0} (does : Step → B → B) where
  unfoldable pub after_read : State B → State B
  after_read s =
      let b : B = does (shift (next s.left)) s.now in
      record { stack = tail s.stack; left = tail s.left; now = b; certain = b; eager = true }

  unfoldable pub after_perform : ℕ → State B → State B
  after_perform a s =
      let b : B = does (act a) s.now in
      record { stack = tail s.stack; left = s.left; now = b; certain = cond s.eager b s.certain; eager = s.eager }

  -- one move; `go` goes on from where it leads
  unfoldable pub moved : (State B → Ending B) → State B → Move → Ending B
  moved go s finish = accepted s.now
  moved go s read = go (after_read s)
  moved go s (perform a) = go (after_perform a s)
  moved go s (expand ss) = go (after_expand ss s)
  moved go s refuse = stuck s.left s.certain

  -- at most n moves
  unfoldable pub run : Grammar → Table → ℕ → State B → Ending B
  run g t zero s = unfinished
  run g t (suc n) s = moved (run g t n) s (move g t s.stack (next s.left))

-- at first: a rule to be read, and what the steps are done to
unfoldable pub start : {B : Type 0} → ℕ → Kinds → B → State B
start r ks b = record { stack = rule r ∷ []; left = ks; now = b; certain = b; eager = true }

-- what steps make, one after the other
unfoldable pub after : {B : Type 0} → (Step → B → B) → Steps → B → B
after does [] b = b
after does (s ∷ ss) b = after does ss (does s b)
