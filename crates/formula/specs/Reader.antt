-- How the formula of a text, or its first fault, is found: readers for or, and, item that call each other.
use Rattle.std.specs.Prelude.{ℕ, zero, suc, ◌+◌, ◌*◌, ◌-◌, Bool, cond, List, [], ◌∷◌, length, eqb}
use Rattle.text.specs.Text.{is_digit}
use Rattle.formula.specs.Grammar.{Letter, E, R, D, B, Formula, literal, both, either, is_place, shown, Level, disjunction, conjunction, item}
use Rattle.formula.specs.Places.{digits_at, past_digits}

-- what a byte is to a reader
pub data Mark : Type 0 where
  blank opening closing ampersand bar other : Mark
  letter : Letter → Mark
  digit : Mark

unfoldable pub mark : ℕ → Mark
mark b =
    cond (eqb b 32) blank
    (cond (eqb b 40) opening
    (cond (eqb b 41) closing
    (cond (eqb b 38) ampersand
    (cond (eqb b 124) bar
    (cond (eqb b 69) (letter E)
    (cond (eqb b 82) (letter R) (cond (eqb b 68) (letter D) (cond (eqb b 66) (letter B) (cond (is_digit b) digit other)))))))))

-- the bytes behind blanks
unfoldable pub past_blanks : List ℕ → List ℕ
past_blanks [] = []
past_blanks (b ∷ bs) = cond (eqb b 32) (past_blanks bs) (b ∷ bs)

-- What a reader finds: a refusal and the bytes from its place on, or a formula and the bytes behind it.
pub data Reading : Type 0 where
  refused : ℕ → List ℕ → Reading
  done : Formula → List ℕ → Reading

unfoldable pub and_then : Reading → (Formula → List ℕ → Reading) → Reading
and_then (refused k at) next = refused k at
and_then (done f rest) next = next f rest

unfoldable pub joined : (Formula → Formula → Formula) → Formula → Formula → List ℕ → Reading
joined join f g rest = done (join f g) rest

-- behind a formula: where the separator stands, what follows it is read and joined to it
unfoldable pub further : ℕ → (Formula → Formula → Formula) → (List ℕ → Reading) → Formula → List ℕ → Reading
further separator join more f [] = done f []
further separator join more f (b ∷ bs) = cond (eqb b separator) (and_then (more bs) (joined join f)) (done f (b ∷ bs))

-- behind an or in parentheses
unfoldable pub closed : Formula → List ℕ → Reading
closed f [] = refused 17 []
closed f (b ∷ bs) = cond (eqb b 41) (done f (past_blanks bs)) (refused 17 (b ∷ bs))

-- behind the letter of a name: whole has the letter too
unfoldable pub named : (Letter → ℕ → Bool) → Letter → List ℕ → List ℕ → Reading
named has l whole bs =
    cond (is_place (digits_at bs)) (cond (has l (shown 0 (digits_at bs))) (done (literal l (shown 0 (digits_at bs))) (past_blanks (past_digits bs))) (refused 17 whole))
    (refused 17 bs)

-- an item from its first byte that is no blank, where `inner` reads an or one parenthesis deeper and `left` parentheses may still be opened
unfoldable pub item_by : (Letter → ℕ → Bool) → (List ℕ → Reading) → ℕ → Mark → List ℕ → List ℕ → Reading
item_by has inner left opening whole bs = cond (eqb left 0) (refused 18 whole) (and_then (inner bs) closed)
item_by has inner left (letter l) whole bs = named has l whole bs
item_by has inner left blank whole bs = refused 17 whole
item_by has inner left closing whole bs = refused 17 whole
item_by has inner left ampersand whole bs = refused 17 whole
item_by has inner left bar whole bs = refused 17 whole
item_by has inner left other whole bs = refused 17 whole
item_by has inner left digit whole bs = refused 17 whole

unfoldable pub item_at : (Letter → ℕ → Bool) → (List ℕ → Reading) → ℕ → List ℕ → Reading
item_at has inner left [] = refused 17 []
item_at has inner left (b ∷ bs) = item_by has inner left (mark b) (b ∷ bs) bs

-- the readers, with `left` parentheses that may still be opened, and a count of calls that is never used up
unfoldable pub read : (Letter → ℕ → Bool) → ℕ → Level → ℕ → List ℕ → Reading
read has zero level left bs = refused 17 bs
read has (suc k) disjunction left bs = and_then (read has k conjunction left bs) (further 124 either (read has k disjunction left))
read has (suc k) conjunction left bs = and_then (read has k item left bs) (further 38 both (read has k conjunction left))
read has (suc k) item left bs = item_at has (read has k disjunction (left - 1)) left (past_blanks bs)

-- enough calls for bytes of a length, at each level
unfoldable pub calls : Level → ℕ → ℕ
calls disjunction n = 3 * n + 3
calls conjunction n = 3 * n + 2
calls item n = 3 * n + 1

-- behind the whole text's or nothing stands
unfoldable pub ended : Formula → List ℕ → Reading
ended f [] = done f []
ended f (b ∷ bs) = refused 17 (b ∷ bs)

unfoldable pub read_text : (Letter → ℕ → Bool) → ℕ → List ℕ → Reading
read_text has most text = and_then (read has (calls disjunction (length text)) disjunction most text) ended
