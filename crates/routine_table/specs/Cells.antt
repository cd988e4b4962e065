-- The table of a text: one array of numbers below 65,536. What stands where:
--
-- from 0        10,240 numbers   terms
-- from 10,240    2,048 numbers   statements, 8 each: at most 256
-- from 12,288    4,096 numbers   clauses, 4 each: at most 1,024
-- from 16,384    6,144 numbers   routines, 8 each: at most 768
-- from 22,528    4,096 numbers   variables: the place of each one's name in the text
-- from 26,624       32 numbers   the numbers of links, of flags and of routines; then the places of the names of 3 links and of 8 flags
-- from 26,656   24,576 numbers   parts of formulas, 8 each: at most 3,072, since a `forall` of three names is three parts
--
-- What no text fills is 0, and so is what lies behind the end.
use Rattle.std.specs.Prelude.{ℕ, ◌+◌, ◌*◌, ◌-◌, cond, List, [], ◌∷◌, get_or, drop, eqb, leb, ltb}
use Rattle.routine_logic.specs.Syntax.{Base, null, variable, bound, Term}

abbrev pub Table : Type 0
Table = List ℕ

-- how many numbers a table has, and how many parts
abbrev pub size : ℕ
size = 51232

abbrev pub most_parts : ℕ
most_parts = 3072

abbrev pub cell : Table → ℕ → ℕ
cell t p = get_or t p 0

-- number k of statement s, of clause i, of routine r, of part i
abbrev pub statement_cell : Table → ℕ → ℕ → ℕ
statement_cell t s k = cell t (10240 + 8 * s + k)

abbrev pub clause_cell : Table → ℕ → ℕ → ℕ
clause_cell t i k = cell t (12288 + 4 * i + k)

abbrev pub routine_cell : Table → ℕ → ℕ → ℕ
routine_cell t r k = cell t (16384 + 8 * r + k)

abbrev pub part_cell : Table → ℕ → ℕ → ℕ
part_cell t i k = cell t (26656 + 8 * i + k)

-- a number that is none of the first `most` and 0 is the last of them
unfoldable pub capped : ℕ → ℕ → ℕ
capped most c = cond (leb c most) c most

-- "term = ( name | "NULL" ) { "->" link }": a term is a place. There stands its base: 0 is NULL, 1 to 63 the variables from 0 on, and from 64 on
-- the names of `forall`s from the innermost one on. Behind it stand its links, and behind these 0.
unfoldable pub base_of : ℕ → Base
base_of c = cond (eqb c 0) null (cond (ltb c 64) (variable (c - 1)) (bound (c - 64)))

unfoldable pub links_of : List ℕ → List ℕ
links_of [] = []
links_of (c ∷ cs) = cond (eqb c 0) [] (c ∷ links_of cs)

unfoldable pub term_of : Table → ℕ → Term
term_of t p = record { base = base_of (cell t p); links = links_of (drop (p + 1) t) }
