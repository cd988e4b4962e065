-- What is claimed of the machine and a grammar that passes the LL(1) test.
use Rattle.std.specs.Prelude.{ℕ, ◌+◌, ◌≤◌, ◌≡◌, Bool, true, false, ltb, length}
use mathlib.Core.List.{[], ◌∷◌, ◌++◌, Memᴰ}
use Rattle.logic.specs.Search.{all}
use Rattle.grammar_theory.specs.Grammar.{token, rule, action, Symbols, Kinds, Grammar, alternatives, Step, shift, act, Steps, Derives, Text, Begins}
use Rattle.grammar_theory.specs.Machine.{Table, next, State, Ending, accepted, stuck, unfinished, run, start, after}
use Rattle.grammar_theory.specs.LL1.{Facts, ll1, moves, parse}

-- no token is the end of the text
unfoldable pub plain : Kinds → Bool
plain ks = all (ltb 0) ks

-- what may come: anything; a token of kind k (of kind 0: nothing)
abbrev pub Any : Kinds → Type 0
Any rest = Unit

abbrev pub Next : ℕ → Kinds → Type 0
Next k rest = next rest ≡ k

-- To derive what begins with the kinds `read` from `ss`, if what comes behind them passes P, is to do the steps `done` and to derive the rest from
-- `left`.
pub record Leaves (g : Grammar) (P : Kinds → Type 0) (ss : Symbols) (read : Kinds) (done : Steps) (left : Symbols) : Type 0 where
  pub forth : (rest : Kinds) (steps : Steps) → P rest → Derives g ss (read ++ rest) steps → (more : Steps) × (steps ≡ done ++ more) × Derives g left rest more
  pub back : (rest : Kinds) (more : Steps) → P rest → Derives g left rest more → Derives g ss (read ++ rest) (done ++ more)

-- no action stands on top
unfoldable pub waiting : Symbols → Bool
waiting [] = true
waiting (token k ∷ ss) = true
waiting (rule r ∷ ss) = true
waiting (action a ∷ ss) = false

-- the state with these kinds left
unfoldable pub leaving : {B : Type 0} → Kinds → State B → State B
leaving left s = record { stack = s.stack; left = left; now = s.now; certain = s.certain; eager = s.eager }

-- the machine was given enough moves
unfoldable pub ended : {B : Type 0} → Ending B → Bool
ended (accepted b) = true
ended (stuck left b) = true
ended unfinished = false

-- Two machines that do the same steps to different things: a relation between them, at each stack, is kept by every move.
pub record Keeps (g : Grammar) {A B : Type 0} (R : Symbols → A → B → Type 0) (does : Step → A → A) (does' : Step → B → B) : Type 0 where
  pub keeps_shift : (k : ℕ) (ss : Symbols) (a : A) (b : B) → R (token k ∷ ss) a b → R ss (does (shift k) a) (does' (shift k) b)
  pub keeps_act : (x : ℕ) (ss : Symbols) (a : A) (b : B) → R (action x ∷ ss) a b → R ss (does (act x) a) (does' (act x) b)
  pub keeps_expand : (r : ℕ) (alternative ss : Symbols) (a : A) (b : B) → Memᴰ alternative (alternatives g r) → R (rule r ∷ ss) a b →
      R (alternative ++ ss) a b

-- endings alike: what was made is related, where it is stuck at some stack
unfoldable pub Alike : {A B : Type 0} → (Symbols → A → B → Type 0) → Ending A → Ending B → Type 0
Alike R (accepted a) (accepted b) = R [] a b
Alike R (accepted a) (stuck left b) = ⊥
Alike R (accepted a) unfinished = ⊥
Alike R (stuck left a) (accepted b) = ⊥
Alike R (stuck left a) (stuck left' b) = (left ≡ left') × ((ss : Symbols) × R ss a b)
Alike R (stuck left a) unfinished = ⊥
Alike R unfinished (accepted b) = ⊥
Alike R unfinished (stuck left b) = ⊥
Alike R unfinished unfinished = Unit

-- the kinds `read` begin a text of which `left` cannot be the rest: no text goes on with its first kind; none left, they are no text
unfoldable pub Refused : Grammar → ℕ → Kinds → Kinds → Type 0
Refused g r read [] = (steps : Steps) → Text g r read steps → ⊥
Refused g r read (k ∷ left) = Begins g r (read ++ (k ∷ [])) → ⊥

-- the steps that every text beginning with the kinds `read` has at its beginning, whatever comes: up to the last of these tokens, and the actions behind
-- it that stand before the next token or rule
pub record Certain (g : Grammar) (r : ℕ) (read : Kinds) (steps : Steps) : Type 0 where
  pub settled : Symbols
  pub waits : waiting settled ≡ true
  pub leaves : Leaves g Any (rule r ∷ []) read steps settled

-- how the machine gets stuck: behind the kinds `read`, having done certain steps
pub record Fault (g : Grammar) (r : ℕ) {B : Type 0} (does : Step → B → B) (ks left : Kinds) (b b' : B) : Type 0 where
  pub read : Kinds
  pub split : read ++ left ≡ ks
  pub begins : Begins g r read
  pub refused : Refused g r read left
  pub steps : Steps
  pub certain : Certain g r read steps
  pub made : b' ≡ after does steps b

-- the claims of a grammar whose texts are derived from rule r
pub record Correct (g : Grammar) (t : Table) (c : Facts) (r : ℕ) : Type 1 where
  -- one sequence of steps for each text
  pub text_unique : (ks : Kinds) (steps steps' : Steps) → Text g r ks steps → Text g r ks steps' → steps ≡ steps'
  -- exactly the texts are accepted, with exactly their steps
  pub text_accepted : {B : Type 0} (does : Step → B → B) (ks : Kinds) (steps : Steps) (b : B) → Text g r ks steps →
      parse does g t c r ks b ≡ accepted (after does steps b)
  pub accepted_text : {B : Type 0} (does : Step → B → B) (ks : Kinds) (b b' : B) → plain ks ≡ true → parse does g t c r ks b ≡ accepted b' →
      (steps : Steps) × Text g r ks steps × (b' ≡ after does steps b)
  -- the machine is stuck exactly at the first token that no text has there
  pub stuck_fault : {B : Type 0} (does : Step → B → B) (ks left : Kinds) (b b' : B) → plain ks ≡ true → parse does g t c r ks b ≡ stuck left b' →
      Fault g r does ks left b b'
  pub fault_stuck : {B : Type 0} (does : Step → B → B) (read left : Kinds) (b : B) → plain (read ++ left) ≡ true → Begins g r read → Refused g r read left →
      (b' : B) × (parse does g t c r (read ++ left) b ≡ stuck left b')
  -- the machine ends
  pub parse_ended : {B : Type 0} (does : Step → B → B) (ks : Kinds) (b : B) → ended (parse does g t c r ks b) ≡ true
  -- with the moves that are enough for more tokens it ends as it does
  pub parse_more : {B : Type 0} (does : Step → B → B) (ks : Kinds) (b : B) (n : ℕ) → length ks ≤ n →
      run does g t (moves c r n) (start r ks b) ≡ parse does g t c r ks b
  -- its moves up to the last of some tokens that begin a text are the same, whatever comes behind them
  pub run_prefix : {B : Type 0} (does : Step → B → B) (read : Kinds) (b : B) → Begins g r read →
      (n : ℕ) × (s : State B) × ((rest : Kinds) (m : ℕ) → run does g t (n + m) (start r (read ++ rest) b) ≡ run does g t m (leaving rest s))

-- every grammar that passes the test
unfoldable pub LL1Correct : Type 1
LL1Correct = (g : Grammar) (t : Table) (c : Facts) (r : ℕ) → ll1 g t c r ≡ true → Correct g t c r
