-- The checks of a routine, "in text order" (03, "What a text means").
use Rattle.std.specs.Prelude.{ℕ, zero, suc, Bool, true, false, not, cond, List, [], ◌∷◌, ◌++◌, map, eqb}
use Rattle.logic.specs.Search.{◌and◌, select}
use Rattle.routine_logic.specs.Syntax.{Base, null, variable, bound, Term, Formula, always, never, equal, unequal, reaches, between, flag, negation, both, either, implies, same, forall, Place, Clause, Code, end, assign, assign_link, assign_flag, havoc, assume, assert, cover, branch, loop, leave, break_out, Routine}
use Rattle.routine_logic.specs.Runs.{Kind, null_of, asserted, covered, entry, kept, ensured, Check, dereferenced, dereferenced_in}

-- one term is another
unfoldable pub same_base : Base → Base → Bool
same_base null null = true
same_base null (variable y) = false
same_base null (bound j) = false
same_base (variable x) null = false
same_base (variable x) (variable y) = eqb x y
same_base (variable x) (bound j) = false
same_base (bound i) null = false
same_base (bound i) (variable y) = false
same_base (bound i) (bound j) = eqb i j

unfoldable pub same_links : List ℕ → List ℕ → Bool
same_links [] [] = true
same_links [] (j ∷ js) = false
same_links (i ∷ is) [] = false
same_links (i ∷ is) (j ∷ js) = eqb i j and same_links is js

unfoldable pub same_term : Term → Term → Bool
same_term t u = same_base t.base u.base and same_links t.links u.links

-- "one for each T in it, in the order in which they are met": each term where it comes first
unfoldable pub once : List Term → List Term
once [] = []
once (t ∷ ts) = t ∷ select (λ u. not (same_term t u)) (once ts)

-- the terms that a condition dereferences, from left to right
unfoldable pub terms_of : Formula → List Term
terms_of (negation f) = terms_of f
terms_of (both f g) = terms_of f ++ terms_of g
terms_of (either f g) = terms_of f ++ terms_of g
terms_of (implies f g) = terms_of f ++ terms_of g
terms_of (same f g) = terms_of f ++ terms_of g
terms_of always = []
terms_of never = []
terms_of (equal t u) = dereferenced_in (equal t u)
terms_of (unequal t u) = dereferenced_in (unequal t u)
terms_of (reaches i t u) = dereferenced_in (reaches i t u)
terms_of (between i t u v) = dereferenced_in (between i t u v)
terms_of (flag j t) = dereferenced_in (flag j t)
terms_of (forall f) = []

-- A check with the line that it stands on.
pub record Listed : Type 0 where
  pub line : ℕ
  pub check : Check

abbrev pub listed : ℕ → ℕ → Kind → Listed
listed line number kind = record { line = line; check = record { statement = number; kind = kind } }

-- "`null T` for each term T that is dereferenced in an assignment or a condition"
unfoldable pub nulls : Place → List Term → List Listed
nulls p ts = map (λ t. listed p.line p.number (null_of t)) (once ts)

-- "for each `invariant` of a loop .. `invariant entry` .. and `invariant kept`"
unfoldable pub invariant_checks : ℕ → ℕ → List Clause → List Listed
invariant_checks number i [] = []
invariant_checks number i (c ∷ cs) =
    listed c.line number (entry i) ∷ listed c.line number (kept i) ∷ invariant_checks number (suc i) cs

unfoldable pub ensures_checks : ℕ → List Clause → List Listed
ensures_checks i [] = []
ensures_checks i (c ∷ cs) = listed c.line 0 (ensured i) ∷ ensures_checks (suc i) cs

-- the checks of the statements of a block
unfoldable pub code_checks : Code → List Listed
code_checks end = []
code_checks (assign p x t rest) = nulls p (dereferenced t) ++ code_checks rest
code_checks (assign_link p t i u rest) = nulls p (dereferenced t ++ (t ∷ []) ++ dereferenced u) ++ code_checks rest
code_checks (assign_flag p t j b rest) = nulls p (dereferenced t ++ (t ∷ [])) ++ code_checks rest
code_checks (havoc p x rest) = code_checks rest
code_checks (assume p f rest) = code_checks rest
code_checks (assert p f rest) = listed p.line p.number asserted ∷ code_checks rest
code_checks (cover p f rest) = listed p.line p.number covered ∷ code_checks rest
code_checks (branch p f yes_code no_code rest) = nulls p (terms_of f) ++ code_checks yes_code ++ code_checks no_code ++ code_checks rest
code_checks (loop p f invariants body rest) =
    nulls p (terms_of f) ++ invariant_checks p.number 0 invariants ++ code_checks body ++ code_checks rest
code_checks (leave p rest) = code_checks rest
code_checks (break_out p rest) = code_checks rest

unfoldable pub checks : Routine → List Listed
checks r = ensures_checks 0 r.ensures ++ code_checks r.body
