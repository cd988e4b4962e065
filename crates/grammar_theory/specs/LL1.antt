-- The LL(1) test: a finite computation on a grammar, a table and claimed facts about the rules. The facts need not be the least ones.
use Rattle.std.specs.Prelude.{ℕ, suc, ◌+◌, ◌*◌, ◌^◌, ◌/◌, ◌%◌, max, Bool, true, false, cond, List, [], ◌∷◌, eqb, ltb, leb, get_or, length}
use Rattle.logic.specs.Search.{◌and◌, ◌or◌, from, any, all}
use Rattle.grammar_theory.specs.Grammar.{token, rule, action, Symbols, Kinds, Grammar, Step}
use Rattle.grammar_theory.specs.Machine.{Table, predicted, Ending, run, start}

-- What is claimed. A set of rules is a number, bit r of which is 1 for a rule r in it.
pub record Facts : Type 0 where
  -- kinds are below this number, ranks below that one; the symbols of an alternative weigh at most so much
  pub kinds : ℕ
  pub top : ℕ
  pub heaviest : ℕ
  -- the rules from which nothing, the empty sequence, can be derived
  pub nullables : ℕ
  -- for each kind the rules that can begin with it, and the rules behind which it can stand
  pub firsts : List ℕ
  pub follows : List ℕ
  -- for each rule: its rank, above those of the rules that it can begin with; how many moves at most derive nothing from it; the height of its lowest
  -- derivation
  pub ranks : List ℕ
  pub weights : List ℕ
  pub heights : List ℕ

unfoldable pub has : ℕ → ℕ → Bool
has set r = eqb (set / 2 ^ r % 2) 1

module _ (c : Facts) where
  unfoldable pub nullable : ℕ → Bool
  nullable r = has c.nullables r

  unfoldable pub first : ℕ → ℕ → Bool
  first k r = has (get_or c.firsts k 0) r

  unfoldable pub follow : ℕ → ℕ → Bool
  follow k r = has (get_or c.follows k 0) r

  unfoldable pub rank : ℕ → ℕ
  rank r = get_or c.ranks r 0

  unfoldable pub weight : ℕ → ℕ
  weight r = get_or c.weights r 0

  unfoldable pub height : ℕ → ℕ
  height r = get_or c.heights r 0

  -- nothing can be derived from these symbols
  unfoldable pub vanish : Symbols → Bool
  vanish [] = true
  vanish (token j ∷ ss) = false
  vanish (rule r ∷ ss) = let rest : Bool = vanish ss in nullable r and rest
  vanish (action a ∷ ss) = vanish ss

  -- these symbols can begin with kind k; `behind` says whether what stands behind them can
  unfoldable pub begin : ℕ → Symbols → Bool → Bool
  begin k [] behind = behind
  begin k (token j ∷ ss) behind = eqb j k
  begin k (rule r ∷ ss) behind = let rest : Bool = begin k ss behind in first k r or (nullable r and rest)
  begin k (action a ∷ ss) behind = begin k ss behind

  -- the highest of the numbers of the rules that these symbols can begin with
  abbrev pub highest : (ℕ → ℕ) → Symbols → ℕ
  highest f [] = 0
  highest f (token j ∷ ss) = 0
  highest f (rule r ∷ ss) = let rest : ℕ = highest f ss in max (f r) (cond (nullable r) rest 0)
  highest f (action a ∷ ss) = highest f ss

  -- one more than the highest rank of those rules
  unfoldable pub leading : Symbols → ℕ
  leading ss = highest (λ r. suc (rank r)) ss

  unfoldable pub weigh : Symbols → ℕ
  weigh [] = 0
  weigh (token j ∷ ss) = weigh ss
  weigh (rule r ∷ ss) = weight r + weigh ss
  weigh (action a ∷ ss) = suc (weigh ss)

  -- the rules among these symbols are lower than h
  unfoldable pub lower : ℕ → Symbols → Bool
  lower h [] = true
  lower h (token j ∷ ss) = lower h ss
  lower h (rule r ∷ ss) = let rest : Bool = lower h ss in ltb (height r) h and rest
  lower h (action a ∷ ss) = lower h ss

-- if a then b
infixr 30 ◌implies◌
unfoldable pub ◌implies◌ : Bool → Bool → Bool
true implies b = b
false implies b = true

-- a test of each element and its number, from i on
unfoldable pub each : {A : Type 0} → (ℕ → A → Bool) → ℕ → List A → Bool
each p i [] = true
each p i (x ∷ xs) = let rest : Bool = each p (suc i) xs in p i x and rest

module _ (g : Grammar) (t : Table) (c : Facts) where
  -- kinds and rules that there are
  unfoldable pub known : Symbols → Bool
  known [] = true
  known (token j ∷ ss) = let rest : Bool = known ss in ltb 0 j and ltb j c.kinds and rest
  known (rule r ∷ ss) = let rest : Bool = known ss in ltb r (length g) and ltb (rank c r) c.top and rest
  known (action a ∷ ss) = known ss

  -- kind k: it follows each rule among the symbols of an alternative that it can stand behind; `behind` says whether it can stand behind all of them
  unfoldable pub followed : ℕ → Symbols → Bool → Bool
  followed k [] behind = true
  followed k (token j ∷ ss) behind = followed k ss behind
  followed k (rule r ∷ ss) behind =
      let rest : Bool = followed k ss behind in
      (begin c k ss behind implies follow c k r) and rest
  followed k (action a ∷ ss) behind = followed k ss behind

  -- kind k: an alternative that can begin with it, or vanish before it, is the one that the table has; the rule can then begin with it
  unfoldable pub fits_kind : ℕ → ℕ → ℕ → Symbols → Bool
  fits_kind k r i ss =
      (begin c k ss (follow c k r) implies eqb (predicted t r k) i) and
      (begin c k ss false implies first c k r) and
      followed k ss (follow c k r)

  -- an alternative of rule r, but for kinds
  unfoldable pub fits_rule : ℕ → Symbols → Bool
  fits_rule r ss =
      known ss and
      (vanish c ss implies (nullable c r and leb (suc (weigh c ss)) (weight c r))) and
      leb (leading c ss) (rank c r) and
      leb (weigh c ss) c.heaviest

  -- every rule is productive
  unfoldable pub fits : ℕ → List Symbols → Bool
  fits r alternatives = all (fits_rule r) alternatives and any (lower c (height c r)) alternatives

  -- the grammar whose texts are derived from rule r is LL(1)
  unfoldable pub ll1 : ℕ → Bool
  ll1 r =
      ltb 0 c.kinds and
      known (rule r ∷ []) and
      follow c 0 r and
      each fits 0 g and
      all (λ k. each (λ s. each (fits_kind k s) 0) 0 g) (from c.kinds 0)

-- how many moves are enough for a text of n tokens
unfoldable pub moves : Facts → ℕ → ℕ → ℕ
moves c r n = let most : ℕ = suc c.heaviest * c.top in suc (weight c r + most + n * suc most)

-- the machine on a text whose tokens have these kinds
unfoldable pub parse : {B : Type 0} → (Step → B → B) → Grammar → Table → Facts → ℕ → Kinds → B → Ending B
parse does g t c r ks b = run does g t (moves c r (length ks)) (start r ks b)
