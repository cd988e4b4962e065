-- How items with signs between them are read (03, "formula", "implies", "or", "and"), said level by level; and that the actions at the signs read them so.
use Rattle.std.specs.Prelude.{ℕ, ◌≡◌, Bool, true, List, [], ◌∷◌, ◌++◌, ltb}
use Rattle.routine_logic.specs.Syntax.{Formula, both, either, implies, same}
use Rattle.routine_text.specs.Builder.{Open, conjoining, disjoining, implying, equating, tightness, Formulas, set_opened, set_finished, join, Builder, join_and, join_or, join_implies, join_iff, close_formula}

pub data Sign : Type 0 where
  and_sign or_sign implies_sign iff_sign : Sign

-- a sign and the item behind it; an item and what is behind it is a chain
pub record Signed : Type 0 where
  pub sign : Sign
  pub item : Formula

abbrev pub signed : Sign → Formula → Signed
signed s f = record { sign = s; item = f }

-- "and = item { "&&" item }"
pub data And : Formula → List Signed → Formula → Type 0 where
  one_item : {f : Formula} → And f [] f
  and_item : {f g : Formula} {xs : List Signed} (h : Formula) → And f xs g → And f (xs ++ (signed and_sign h ∷ [])) (both g h)

-- "or = and { "||" and }"
pub data Or : Formula → List Signed → Formula → Type 0 where
  one_and : {f g : Formula} {xs : List Signed} → And f xs g → Or f xs g
  or_and : {f g h k : Formula} {xs ys : List Signed} → Or f xs g → And h ys k → Or f (xs ++ (signed or_sign h ∷ ys)) (either g k)

-- "implies = or [ "=>" implies ]"
pub data Implies : Formula → List Signed → Formula → Type 0 where
  one_or : {f g : Formula} {xs : List Signed} → Or f xs g → Implies f xs g
  or_implies : {f g h k : Formula} {xs ys : List Signed} → Or f xs g → Implies h ys k → Implies f (xs ++ (signed implies_sign h ∷ ys)) (implies g k)

-- "formula = implies { "<=>" implies }"
pub data Iff : Formula → List Signed → Formula → Type 0 where
  one_implies : {f g : Formula} {xs : List Signed} → Implies f xs g → Iff f xs g
  iff_implies : {f g h k : Formula} {xs ys : List Signed} → Iff f xs g → Implies h ys k → Iff f (xs ++ (signed iff_sign h ∷ ys)) (same g k)

-- what the action at a sign does to the formulas, and that at the end of a formula
unfoldable pub close_at : ℕ → Formulas → Formulas
close_at least f = join least f.opened f.finished f

unfoldable pub least : Sign → ℕ
least and_sign = 4
least or_sign = 3
least implies_sign = 3
least iff_sign = 1

unfoldable pub opening : Sign → Formula → Open
opening and_sign f = conjoining f
opening or_sign f = disjoining f
opening implies_sign f = implying f
opening iff_sign f = equating f

unfoldable pub open_sign : Sign → Formulas → Formulas
open_sign s f = set_opened (opening s f.finished ∷ f.opened) f

unfoldable pub meet_sign : Sign → Formulas → Formulas
meet_sign s f = open_sign s (close_at (least s) f)

unfoldable pub at_sign : Sign → Builder → Builder
at_sign and_sign b = join_and b
at_sign or_sign b = join_or b
at_sign implies_sign b = join_implies b
at_sign iff_sign b = join_iff b

-- a chain is read: at each sign its action, then the item is finished
unfoldable pub read_chain : List Signed → Formulas → Formulas
read_chain [] f = f
read_chain (x ∷ xs) f = let m : Formulas = meet_sign x.sign f in read_chain xs (set_finished m.opened x.item m)

-- what is open binds less tight than this
unfoldable pub below : ℕ → List Open → Bool
below most [] = true
below most (o ∷ os) = ltb (tightness o) most

-- Every chain has a reading, and it is the one that the actions make. At the beginning of a formula, what is open is a parenthesis or a `forall`, or nothing.
pub record JoiningClaims : Type 0 where
  pub has_reading : (x : Formula) (xs : List Signed) → (g : Formula) × Iff x xs g
  pub sign_met : (s : Sign) (b : Builder) → (at_sign s b).formulas ≡ meet_sign s b.formulas
  pub end_met : (b : Builder) → (close_formula b).formulas ≡ close_at 1 b.formulas
  pub read_so : {x g : Formula} {xs : List Signed} (os : List Open) (f : Formulas) → Iff x xs g → below 1 os ≡ true →
      close_at 1 (read_chain xs (set_finished os x f)) ≡ set_finished os g f
