-- What a formula over a query's literals means in a heap, and the query of a conjunction (02, R-7).
use Rattle.std.specs.Prelude.{ℕ, suc, ◌≡◌, ◌⊎◌, Bool, true, cond, List, [], ◌∷◌, eqb, leb, length}
use Rattle.std.proofs.Math.Option.{some}
use Rattle.logic.specs.Search.{◌and◌, any, at}
use Rattle.logic.specs.Query.{Literal, Query}
use Rattle.logic.specs.Heap.{Heap, Meets, MeansEqual, MeansReach, MeansField}
use Rattle.formula.specs.Grammar.{Letter, E, R, D, B, letter_byte, Formula, literal, both, either}
use Rattle.formula.specs.Expansion.{Conjunction}

-- "names its literals": the section that a letter names, and what a literal of it means. B names none, since no query has booleans
-- (02, R-13).
abbrev pub literals_of : Query → Letter → List Literal
literals_of q E = q.equalities
literals_of q R = q.reachability
literals_of q D = q.fields
literals_of q B = []

abbrev pub Means : Heap → Query → Letter → Literal → Type 0
Means h q E l = MeansEqual h q.entries l
Means h q R l = MeansReach h q.entries l
Means h q D l = MeansField h q.entries l
Means h q B l = ⊥

-- a formula's and and or over the literals that it names
unfoldable pub Holds : Heap → Query → Formula → Type 0
Holds h q (literal letter n) = (l : Literal) × (at (literals_of q letter) n ≡ some l) × Means h q letter l
Holds h q (both f g) = Holds h q f × Holds h q g
Holds h q (either f g) = Holds h q f ⊎ Holds h q g

-- the query's terms without its literals
unfoldable pub bare : Query → Query
bare q = record { links = q.links; entries = q.entries; equalities = []; reachability = []; fields = [] }

-- "a finite heap meets it": a heap for the query's terms, in which the formula holds. "Literals not named do not count."
pub record MeetsFormula (h : Heap) (q : Query) (f : Formula) : Type 0 where
  pub terms : Meets h (bare q)
  pub holds : Holds h q f

-- the query has the literal; every literal that a formula names is one that the query has
unfoldable pub present : Query → Letter → ℕ → Bool
present q letter n = leb 1 n and leb n (length (literals_of q letter))

unfoldable pub AllPresent : (Letter → ℕ → Bool) → Formula → Type 0
AllPresent has (literal letter n) = has letter n ≡ true
AllPresent has (both f g) = AllPresent has f × AllPresent has g
AllPresent has (either f g) = AllPresent has f × AllPresent has g

-- A conjunction names the literal at a place
unfoldable pub names : Conjunction → Letter → ℕ → Bool
names c letter n = any (λ x. eqb (letter_byte x.letter) (letter_byte letter) and eqb x.place n) c

-- of the elements from place n on, those at places that pass a test
unfoldable pub chosen : {A : Type 0} → (ℕ → Bool) → ℕ → List A → List A
chosen p n [] = []
chosen p n (x ∷ xs) = cond (p n) (x ∷ chosen p (suc n) xs) (chosen p (suc n) xs)

-- the query of a conjunction: the query's terms, and of each section the literals that the conjunction names, in the query's order, so that
-- a literal named twice counts once
unfoldable pub restricted : Query → Conjunction → Query
restricted q c =
    record {
      links = q.links;
      entries = q.entries;
      equalities = chosen (names c E) 1 q.equalities;
      reachability = chosen (names c R) 1 q.reachability;
      fields = chosen (names c D) 1 q.fields;
    }
