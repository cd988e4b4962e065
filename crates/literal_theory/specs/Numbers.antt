-- Names by number (03, "A way": "a query", whose terms are numbered): the label at a place of a table.
use Rattle.std.specs.Prelude.{ℕ, suc, ◌-◌, Bool, true, false, not, cond, List, [], ◌∷◌, eqb, get_or}
use Rattle.logic.specs.Search.{◌and◌, select}
use Rattle.routine_logic.specs.Formulas.{same_truth}
use Rattle.path_theory.specs.Points.{Name, nil, initial, given, read, Stores, none, store}
use Rattle.path_theory.specs.Paths.{Case}
use Rattle.literal_theory.specs.Labels.{Label, named, chosen, after}
use Rattle.literal_theory.specs.Forms.{Form, names_of, renamed}
use Rattle.literal_theory.specs.Translation.{case_form}

-- one name is another: "Shared: same f, same j, same a is the same name"
unfoldable mutual
  pub same_name : Name → Name → Bool
  same_name nil nil = true
  same_name nil (initial y) = false
  same_name nil (given l) = false
  same_name nil (read j v b) = false
  same_name (initial x) nil = false
  same_name (initial x) (initial y) = eqb x y
  same_name (initial x) (given l) = false
  same_name (initial x) (read j v b) = false
  same_name (given k) nil = false
  same_name (given k) (initial y) = false
  same_name (given k) (given l) = eqb k l
  same_name (given k) (read j v b) = false
  same_name (read i w a) nil = false
  same_name (read i w a) (initial y) = false
  same_name (read i w a) (given l) = false
  same_name (read i w a) (read j v b) = eqb i j and same_stores w v and same_name a b

  pub same_stores : Stores → Stores → Bool
  same_stores none none = true
  same_stores none (store v c d) = false
  same_stores (store w a b) none = false
  same_stores (store w a b) (store v c d) = same_stores w v and same_name a c and same_name b d

unfoldable pub same_place : List Bool → List Bool → Bool
same_place [] [] = true
same_place [] (c ∷ d) = false
same_place (b ∷ a) [] = false
same_place (b ∷ a) (c ∷ d) = same_truth b c and same_place a d

unfoldable pub same_label : Label → Label → Bool
same_label (named a) (named b) = same_name a b
same_label (named a) (chosen l d) = false
same_label (named a) (after j v m) = false
same_label (chosen k a) (named b) = false
same_label (chosen k a) (chosen l d) = eqb k l and same_place a d
same_label (chosen k a) (after j v m) = false
same_label (after i w l) (named b) = false
same_label (after i w l) (chosen k d) = false
same_label (after i w l) (after j v m) = eqb i j and same_stores w v and same_label l m

-- the number of a label in a table, counted from 0
unfoldable pub number_of : List Label → Label → ℕ
number_of [] l = 0
number_of (m ∷ ms) l = cond (same_label l m) 0 (suc (number_of ms l))

-- "Terms are numbered from 1" (01)
unfoldable pub term_of : List Label → Label → ℕ
term_of table l = suc (number_of table l)

-- each label where it comes first
unfoldable pub distinct : List Label → List Label
distinct [] = []
distinct (l ∷ ls) = l ∷ select (λ m. not (same_label l m)) (distinct ls)

-- the table of a formula: NULL is term 1
unfoldable pub table_of : Form Label → List Label
table_of f = distinct (named nil ∷ names_of f)

-- the formula of a case over terms by number
unfoldable pub numbered : List ℕ → List ℕ → Case → Form ℕ
numbered flags links x = renamed (term_of (table_of (case_form flags links x))) (case_form flags links x)

-- what a term stands for
unfoldable pub label_at : List Label → ℕ → Label
label_at table n = get_or table (n - 1) (named nil)
