-- The texts of formulas (02, R-7), of any length and depth.
use Rattle.std.specs.Prelude.{ℕ, ◌+◌, ◌-◌, ◌*◌, ◌≤◌, ◌≡◌, Bool, true, false, not, List, [], ◌∷◌, ◌++◌, eqb}
use Rattle.logic.specs.Search.{◌and◌, all}
use Rattle.text.specs.Text.{is_digit}

-- "its literals, E, R, D or B with a place from 1": an equality, a reachability literal, a data literal; a boolean literal is one that no
-- query has any more (02, R-13)
pub data Letter : Type 0 where
  E R D B : Letter

unfoldable pub letter_byte : Letter → ℕ
letter_byte E = 69
letter_byte R = 82
letter_byte D = 68
letter_byte B = 66

-- "joined by `&` and `|`"
pub data Formula : Type 0 where
  literal : Letter → ℕ → Formula
  both : Formula → Formula → Formula
  either : Formula → Formula → Formula

unfoldable pub is_blank : ℕ → Bool
is_blank b = eqb b 32

-- "a place from 1, no leading zero": decimal digits, the first of them not 0
unfoldable pub is_place : List ℕ → Bool
is_place [] = false
is_place (d ∷ ds) = is_digit d and not (eqb d 48) and all is_digit ds

-- the number that digits show, behind those of v
unfoldable pub shown : ℕ → List ℕ → ℕ
shown v [] = v
shown v (d ∷ ds) = shown (10 * v + (d - 48)) ds

-- "An or is read as ands, an and as items, and an item in parentheses is an or again".
pub data Level : Type 0 where
  disjunction conjunction item : Level

-- The texts of each level, with their formulas: bytes 38 and 124 are `&` and `|`, 40 and 41 parentheses. "`&` binding tighter": an or has ands
-- between its bars, and an and has items between its ampersands. "blanks free round literals, `&`, `|` and parentheses": they stand before and
-- behind an item, which is as much as round all of these, and nowhere else.
pub data Reads : Level → List ℕ → Formula → Type 0 where
  one_and : {t : List ℕ} {f : Formula} → Reads conjunction t f → Reads disjunction t f
  or : {t u : List ℕ} {f g : Formula} → Reads conjunction t f → Reads disjunction u g → Reads disjunction (t ++ (124 ∷ u)) (either f g)
  one_item : {t : List ℕ} {f : Formula} → Reads item t f → Reads conjunction t f
  and : {t u : List ℕ} {f g : Formula} → Reads item t f → Reads conjunction u g → Reads conjunction (t ++ (38 ∷ u)) (both f g)
  name : (l : Letter) (before digits after : List ℕ) → all is_blank before ≡ true → is_place digits ≡ true → all is_blank after ≡ true → Reads item (before ++ (letter_byte l ∷ (digits ++ after))) (literal l (shown 0 digits))
  parentheses : {t : List ℕ} {f : Formula} (before after : List ℕ) → all is_blank before ≡ true → Reads disjunction t f → all is_blank after ≡ true → Reads item (before ++ (40 ∷ (t ++ (41 ∷ after)))) f

-- "an item in parentheses is an or again, to a depth of 32": no more than `most` parentheses stand round any part
unfoldable pub Within : ℕ → {level : Level} {t : List ℕ} {f : Formula} → Reads level t f → Type 0
Within most (one_and x) = Within most x
Within most (Reads.or x y) = Within most x × Within most y
Within most (one_item x) = Within most x
Within most (Reads.and x y) = Within most x × Within most y
Within most (name l before digits after a p c) = Unit
Within most (parentheses before after a x c) = (1 ≤ most) × Within (most - 1) x

-- a text of the grammar, and what begins one
abbrev pub Text : List ℕ → Type 0
Text t = (f : Formula) × Reads disjunction t f

abbrev pub Begins : List ℕ → Type 0
Begins t = (u : List ℕ) × Text (t ++ u)
