-- Where the code is in reading a text, and what each turn makes of it.
use Prim.Native.Nat.{ℕ, suc, ◌+◌, ◌*◌, ◌-◌, ◌≤◌, ◌<◌}
use native.Mathlib.Omega.{arith}
use mathlib.Core.Path.{◌≡◌, refl, sym, ap, ◌∙◌, subst}
use mathlib.Core.Bool.{Bool, true, false}
use mathlib.Core.List.{List, [], ◌∷◌, ◌++◌, append_assoc}
use lib.ListN.{length, drop, get_or, set}
use lib.Seq.{get_or-set_same}
use borrow.Author.Tests.{leb-true}
use Rattle.logic.specs.Search.{◌and◌, all}
use Rattle.theory.proofs.Basics.Search.{and_left, and_right}
use Rattle.grammar_theory.specs.Grammar.{Kinds, symbol_of}
use Rattle.grammar_theory.specs.Machine.{accepted, stuck, unfinished, start}
use Rattle.grammar_theory.specs.LL1.{moves, weight}
use Rattle.routine_tokens.specs.declared.Token.{Token}
use Rattle.routine_tokens.specs.Tokens.{token_from, tokens_in, tokens}
use Rattle.routine_text.specs.Grammar.{facts}
use Rattle.routine_text.specs.Reading.{kinds_of}
use Rattle.routine_reader.specs.Rows.{row, choice}
use Rattle.routine_reader.specs.Stack.{stack_of, pushed, symbols_of}
use Rattle.routine_reader.specs.Answers.{recognised, Left}
use Rattle.routine_reader.proofs.Stack.{stack_top}
use Rattle.routine_reader.proofs.Choices.{chosen_some}
use Rattle.routine_reader.proofs.Coming.{from_sound, rest_of, rest_last, rest_more, coming}
use Rattle.routine_reader.proofs.Moves.{reading, reading_out, no_end, pushed-no_end, move_end, move_more, move_other, move-token, move-action, move-none, move_row}

-- The stack's numbers, the next token and the moves that are left. Behind `place` the tokens are still to be read.
pub record Going (text codes : List ℕ) (t : Token) (left : ℕ) : Type 0 where
  pub place : ℕ
  pub count : ℕ
  pub eager : Bool
  pub read : List Token
  pub enough : length text ≤ place + count
  pub here : t ≡ token_from text place
  pub split : read ++ (token_from text place ∷ rest_of text place count) ≡ tokens text
  pub same : reading left codes (token_from text place ∷ rest_of text place count) eager ≡ recognised text
  pub symbols : all no_end codes ≡ true

pub moves_are : (n : ℕ) → moves facts 0 n ≡ 25 + 25 * n
unfolding moves weight facts
moves_are n = omega arith

pub going_start : (text : List ℕ) → Going text (64 ∷ []) (token_from text 0) (25 + 25 * length text)
going_start text =
    record {
      place = 0;
      count = length text;
      eager = true;
      read = [];
      enough = omega arith;
      here = refl;
      split = sym whole;
      same = begun;
      symbols = unfold all no_end ◌and◌ in refl;
    }
  where
    whole : tokens text ≡ token_from text 0 ∷ rest_of text 0 (length text)
    whole = unfold tokens in coming text 0 (length text)

    begun : reading (25 + 25 * length text) (64 ∷ []) (token_from text 0 ∷ rest_of text 0 (length text)) true ≡ recognised text
    begun =
        unfold reading recognised start symbols_of symbol_of in
        rw (← moves_are (length text), ← whole) refl

-- the stack in its array: at first; empty; with its top

pub going_first : (text stack : List ℕ) {t : Token} → 0 < length stack → t ≡ token_from text 0 →
    Going text (stack_of (set stack 0 64) 1) t (25 + 25 * length text - 0)
going_first text stack {t} h e =
    subst (Going text (stack_of (set stack 0 64) 1) t) all (unfold stack_of in rw (get_or-set_same stack 0 64 0 h, e) (going_start text))
  where
    all : 25 + 25 * length text ≡ 25 + 25 * length text - 0
    all = omega arith

module _ {text : List ℕ} (stack : List ℕ) (height : ℕ) {t : Token} {n : ℕ} (g : Going text (stack_of stack height) t n) where
  pub going_empty : height ≡ 0 → Going text [] t n
  going_empty e = subst (λ (codes : List ℕ). Going text codes t n) (ap (stack_of stack) e ∙ none) g
    where
      none : stack_of stack 0 ≡ []
      none = unfold stack_of in refl

  pub going_top : {c : ℕ} → (height ≡ 0 → ⊥) → c ≡ get_or stack (height - 1) 0 → Going text (c ∷ stack_of stack (height - 1)) t n
  going_top {c} h e = subst (λ (codes : List ℕ). Going text codes t n) (stack_top stack height above ∙ ap (λ (x : ℕ). x ∷ stack_of stack (height - 1)) (sym e)) g
    where
      above : 0 < height
      above = omega (arith, h)

-- k of n turns are made
pub going_turn : {text codes : List ℕ} {t : Token} {n k : ℕ} → Going text codes t (n - k) → k < n → Going text codes t (suc (n - (k + 1)))
going_turn {text} {codes} {t} {n} {k} g h = subst (Going text codes t) one g
  where
    one : n - k ≡ suc (n - (k + 1))
    one = omega arith

pub going_out : {text codes : List ℕ} {t : Token} {n k : ℕ} → Going text codes t (n - k) → n ≤ k → recognised text ≡ unfinished
going_out {text} {codes} {t} {n} {k} g h =
    let ts : List Token = token_from text g.place ∷ rest_of text g.place g.count in
    sym g.same ∙ ap (λ (m : ℕ). reading m codes ts g.eager) none ∙ reading_out codes ts g.eager
  where
    none : n - k ≡ 0
    none = omega arith

module _ {text codes : List ℕ} {t : Token} {n : ℕ} where
  ends : (g : Going text codes t (suc n)) → (token_from text g.place).kind < 2 → rest_of text g.place g.count ≡ []
  ends g h = rest_last text g.place g.count h

  pub going_below : Going text codes t (suc n) → t.kind < 45
  going_below g = subst (λ (u : Token). u.kind < 45) (sym g.here) (from_sound text g.place).below

  -- the machine is stuck before the next token
  halted : (g : Going text codes t (suc n)) → recognised text ≡ stuck (kinds_of (token_from text g.place ∷ rest_of text g.place g.count)) 0 →
      (left : Kinds) × (recognised text ≡ stuck left 0) × Left text t.start left
  halted g h = (
    kinds_of (token_from text g.place ∷ rest_of text g.place g.count),
    h,
    record {
      read = g.read;
      first = token_from text g.place;
      rest = rest_of text g.place g.count;
      split = g.split;
      kinds = refl;
      starts = ap (λ (u : Token). u.start) (sym g.here);
    },
  )

  kind-here : (g : Going text codes t (suc n)) → t.kind ≡ (token_from text g.place).kind
  kind-here g = ap (λ (u : Token). u.kind) g.here

module _ {text : List ℕ} {t : Token} {n : ℕ} (g : Going text [] t (suc n)) where
  pub going_accepted : t.kind ≡ 0 → recognised text ≡ accepted 0
  going_accepted h = sym g.same ∙ move_end n [] _ _ g.eager (ends g) (sym (kind-here g) ∙ h)

  pub going_more : (t.kind ≡ 0 → ⊥) → (left : Kinds) × (recognised text ≡ stuck left 0) × Left text t.start left
  going_more h = halted g (sym g.same ∙ move_more n [] _ _ g.eager (ends g) (λ k. h (kind-here g ∙ k)))

module _ {text codes : List ℕ} {t : Token} {n c : ℕ} (g : Going text (c ∷ codes) t (suc n)) where
  pub going_other : c < 64 → (c ≡ t.kind → ⊥) → (left : Kinds) × (recognised text ≡ stuck left 0) × Left text t.start left
  going_other h l = halted g (sym g.same ∙ move_other n codes _ _ g.eager (ends g) c h (λ k. l (k ∙ sym (kind-here g))))

  others : all no_end codes ≡ true
  others = unfold all in and_right (no_end c) (all no_end codes) (unfold all in g.symbols)

  no_end_lem : 2 ≤ c
  no_end_lem = leb-true 2 c (unfold no_end in and_left (no_end c) (all no_end codes) (unfold all in g.symbols))

  -- the token is read, and the next one comes
  module _ (h : c < 64) (l : c ≡ t.kind) where
    more : 2 ≤ (token_from text g.place).kind
    more = omega (arith, no_end_lem, kind-here g)

    counted : g.count ≡ suc (g.count - 1)
    counted = omega (arith, g.enough, (from_sound text g.place).inside (omega (arith, more)))

    next_rest : rest_of text g.place g.count ≡ token_from text t.end ∷ rest_of text t.end (g.count - 1)
    next_rest =
        let u : Token = token_from text g.place in
        rest_more text g.place g.count more
        ∙ ap (λ (m : ℕ). tokens_in m u.end (drop u.end text)) counted
        ∙ coming text u.end (g.count - 1)
        ∙ ap (λ (v : Token). token_from text v.end ∷ rest_of text v.end (g.count - 1)) (sym g.here)

    end-here : t.end ≡ (token_from text g.place).end
    end-here = ap (λ (u : Token). u.end) g.here

    pub going_token : Going text codes (token_from text t.end) n
    going_token =
        let u : Token = token_from text g.place in
        record {
          place = t.end;
          count = g.count - 1;
          eager = true;
          read = g.read ++ (u ∷ []);
          enough = omega (arith, g.enough, (from_sound text g.place).behind more, end-here);
          here = refl;
          split = append_assoc g.read (u ∷ []) _ ∙ ap (λ (ts : List Token). g.read ++ (u ∷ ts)) (sym next_rest) ∙ g.split;
          same =
              ap (λ (ts : List Token). reading n codes ts true) (sym next_rest)
              ∙ sym (move-token n codes u _ g.eager (ends g) c h (l ∙ kind-here g) more)
              ∙ g.same;
          symbols = others;
        }

  pub going_action : 128 ≤ c → Going text codes t n
  going_action h =
      record {
        place = g.place;
        count = g.count;
        eager = g.eager;
        read = g.read;
        enough = g.enough;
        here = g.here;
        split = g.split;
        same = sym (move-action n codes _ _ g.eager (ends g) c h) ∙ g.same;
        symbols = others;
      }

  module _ (h : 64 ≤ c) (l : c < 128) where
    pub going_none : choice (c - 64) t.kind ≡ 0 → (left : Kinds) × (recognised text ≡ stuck left 0) × Left text t.start left
    going_none o =
        halted g (sym g.same ∙ move-none n codes _ _ g.eager (ends g) c h l (from_sound text g.place).below (ap (choice (c - 64)) (sym (kind-here g)) ∙ o))

    module _ (j : ℕ) (o : choice (c - 64) t.kind ≡ suc j) where
      here_chosen : choice (c - 64) (token_from text g.place).kind ≡ suc j
      here_chosen = ap (choice (c - 64)) (sym (kind-here g)) ∙ o

      pub going_below_94 : j < 94
      going_below_94 = (chosen_some (c - 64) (token_from text g.place).kind j (from_sound text g.place).below here_chosen).1

      pub going_row : Going text (pushed (row j) codes) t n
      going_row =
          record {
            place = g.place;
            count = g.count;
            eager = false;
            read = g.read;
            enough = g.enough;
            here = g.here;
            split = g.split;
            same = sym (move_row n codes _ _ g.eager (ends g) c h l (from_sound text g.place).below j here_chosen) ∙ g.same;
            symbols = pushed-no_end (row j) codes others;
          }

-- a number that is not 0
pub one_more : {j : ℕ} → (j ≡ 0 → ⊥) → j ≡ suc (j - 1)
one_more n = omega (arith, n)

-- the same with another name for the token, or for the stack's numbers
pub going_same : {text codes codes' : List ℕ} {t t' : Token} {n : ℕ} → Going text codes t n → codes' ≡ codes → t' ≡ t → Going text codes' t' n
going_same {text} {codes} {codes'} {t} {t'} {n} g e f =
    subst (λ (u : Token). Going text codes' u n) (sym f) (subst (λ (cs : List ℕ). Going text cs t n) (sym e) g)
