-- A routine as data (03, "The text"). Names are resolved: links are numbered from 1 and flags from 1, in the order in which they are declared;
-- the variables of a routine, its parameters first, from 0.
use Rattle.std.specs.Prelude.{ℕ, Bool, List}

-- "( name | "NULL" )": a name is a variable, or one of a `forall` around it, counted from the innermost one, which is 0. Of several names of one
-- `forall` the last is the innermost.
pub data Base : Type 0 where
  null : Base
  variable : ℕ → Base
  bound : ℕ → Base

-- "term = ( name | "NULL" ) { "->" link }": the links, from the first to the last
pub record Term : Type 0 where
  pub base : Base
  pub links : List ℕ

-- "formula": `by` left out is the first link. A `forall` of several names is one for each of them.
pub data Formula : Type 0 where
  always never : Formula
  equal unequal : Term → Term → Formula
  reaches : ℕ → Term → Term → Formula
  between : ℕ → Term → Term → Term → Formula
  flag : ℕ → Term → Formula
  negation : Formula → Formula
  both either implies same : Formula → Formula → Formula
  forall : Formula → Formula

-- Where a statement stands: its number, in text order, by which its checks are told apart, and the line of its first byte.
pub record Place : Type 0 where
  pub number : ℕ
  pub line : ℕ

-- a formula behind `requires`, `ensures` or `invariant`, with the line of that word
pub record Clause : Type 0 where
  pub line : ℕ
  pub formula : Formula

-- "{ statement }": a statement and those behind it in its block. Behind `return` and `break` stand those that no run comes to.
pub data Code : Type 0 where
  end : Code
  assign : Place → ℕ → Term → Code → Code
  assign_link : Place → Term → ℕ → Term → Code → Code
  assign_flag : Place → Term → ℕ → Bool → Code → Code
  havoc : Place → ℕ → Code → Code
  assume assert cover : Place → Formula → Code → Code
  branch : Place → Formula → Code → Code → Code → Code
  loop : Place → Formula → List Clause → Code → Code → Code
  leave : Place → Code → Code
  break_out : Place → Code → Code

-- "routine": the line of that word, its clauses and its body
pub record Routine : Type 0 where
  pub line : ℕ
  pub requires : List Clause
  pub ensures : List Clause
  pub body : Code
