-- The tests of one choice: which literals fail where the links are `link` and the terms up to t name the nodes `node`. That they say
-- what `MeetsBetween` says is a theorem (proofs/Sound, proofs/Complete).
use Rattle.std.specs.Prelude.{ℕ, zero, suc, ◌+◌, ◌-◌, Bool, true, false, not, cond, ◌&&◌, ◌||◌, List, eqb, ltb, leb}
use Rattle.logic.specs.Search.{◌or◌, from, any}
use Rattle.logic.specs.Query.{Literal, Entries, names_nil}
use Rattle.between.specs.Meaning.{BetweenLiteral, BetweenQuery}

-- "least step count" from v to w, looked for at k nodes: k where w is not met
unfoldable pub step_count : (ℕ → ℕ) → ℕ → ℕ → ℕ → ℕ
step_count f zero v w = 0
step_count f (suc k) v w = let rest : ℕ = suc (step_count f k (f v) w) in cond (eqb v w) 0 rest

-- in heaps of at most five nodes, five links are enough: 6 where w is not met
unfoldable pub steps : (ℕ → ℕ) → ℕ → ℕ → ℕ
steps link v w = step_count link 6 v w

-- what is held is what the sign asks for
unfoldable pub agrees : Bool → Bool → Bool
agrees sign held = (sign && held) || (not sign && not held)

-- a literal is tested as soon as all its terms are chosen: t is the last of them
unfoldable pub due_pair : ℕ → ℕ → ℕ → Bool
due_pair a b t = (leb a t && leb b t) && (eqb a t || eqb b t)

unfoldable pub due_triple : ℕ → ℕ → ℕ → ℕ → Bool
due_triple x y z t = ((leb x t && leb y t) && leb z t) && ((eqb x t || eqb y t) || eqb z t)

-- an equality holds where no link is to be followed, a reachability literal where five are enough: `most` is 0 or 5
unfoldable pub pair_breaks : (ℕ → ℕ) → (ℕ → ℕ) → ℕ → ℕ → Literal → Bool
pair_breaks link node most t l =
    due_pair l.left l.right t && not (agrees l.plain (leb (steps link (node l.left) (node l.right)) most))

-- "following links from x both are met, and y's least step count is not above z's"
unfoldable pub triple_breaks : (ℕ → ℕ) → (ℕ → ℕ) → ℕ → BetweenLiteral → Bool
triple_breaks link node t l =
    let y : ℕ = steps link (node l.from) (node l.middle) in
    let z : ℕ = steps link (node l.from) (node l.to) in
    due_triple l.from l.middle l.to t && not (agrees l.plain (leb y z && leb z 5))

-- "all nil terms are one node and its link goes to itself"
unfoldable pub nil_breaks : Entries → (ℕ → ℕ) → (ℕ → ℕ) → ℕ → Bool
nil_breaks entries link node t =
    names_nil entries t
    && (not (eqb (link (node t)) (node t)) || any (λ u. names_nil entries u && not (eqb (node u) (node t))) (from t 1))

-- a literal of this sign says field j of term t; one term has a field plain that the other has negated
unfoldable pub says_field : Bool → ℕ → ℕ → Literal → Bool
says_field sign j t l = (agrees sign l.plain && eqb l.left j) && eqb l.right t

unfoldable pub has_field : List Literal → Bool → ℕ → ℕ → Bool
has_field fields sign j t = any (says_field sign j t) fields

unfoldable pub opposed : List Literal → ℕ → ℕ → Bool
opposed fields a b = any (λ j. has_field fields true j a && has_field fields false j b) (from 8 1)

-- a field would be held plain and negated at the node of t
unfoldable pub field_breaks : List Literal → (ℕ → ℕ) → ℕ → Bool
field_breaks fields node t = any (λ u. eqb (node u) (node t) && (opposed fields u t || opposed fields t u)) (from t 1)

-- term t names a node that no lower term names; how many nodes the terms up to t name
unfoldable pub is_fresh : (ℕ → ℕ) → ℕ → Bool
is_fresh node t = not (any (λ u. eqb (node u) (node t)) (from (t - 1) 1))

unfoldable pub used : (ℕ → ℕ) → ℕ → ℕ
used node zero = 0
used node (suc t) = used node t + cond (is_fresh node (suc t)) 1 0

-- Term t cannot name this node, in a heap of m nodes: more nodes are unnamed than terms are left (a smaller heap would do), or a literal
-- over the terms up to t fails.
unfoldable pub breaks : BetweenQuery → ℕ → (ℕ → ℕ) → (ℕ → ℕ) → ℕ → ℕ → Bool
breaks q m link node n t =
    ltb (used node t + (n - t)) m
    or (nil_breaks q.base.entries link node t
    or (field_breaks q.base.fields node t
    or (any (pair_breaks link node 0 t) q.base.equalities
    or (any (pair_breaks link node 5 t) q.base.reachability
    or any (triple_breaks link node t) q.betweens))))
