-- The eight rules (01, "The eight rules"; 000, Fig. 3).
use Rattle.std.specs.Prelude.{ℕ, zero, suc, ◌+◌, ◌-◌, ◌*◌, Bool, false, not, cond, List, [], ◌∷◌, map, eqb, ltb, leb}
use Rattle.std.proofs.Math.Option.{Option, get_or}
use Rattle.logic.specs.Search.{◌and◌, from, keep, any, first_of, find, flat_map}
use Rattle.logic.specs.Facts.{Graph, Facts, Joined, Line, line, link_numbers, terms, live, unjoined, join, add_reach}

pub data Rule : Type 0 where
  REFLEX TRANS1 TRANS2 FUNC CYCLE SCC TOTAL SHARE : Rule

unfoldable pub rule_number : Rule → ℕ
rule_number REFLEX = 1
rule_number TRANS1 = 2
rule_number TRANS2 = 3
rule_number FUNC = 4
rule_number CYCLE = 5
rule_number SCC = 6
rule_number TOTAL = 7
rule_number SHARE = 8

unfoldable pub rules : List Rule
rules = REFLEX ∷ TRANS1 ∷ TRANS2 ∷ FUNC ∷ CYCLE ∷ SCC ∷ TOTAL ∷ SHARE ∷ []

unfoldable pub rule_of : ℕ → Option Rule
rule_of k = find (λ r. eqb (rule_number r) k) rules

-- "(first number, then second, then third)"
pub data Triple : Type 0 where
  triple : ℕ → ℕ → ℕ → Triple

-- What a rule line holds: a link, a rule and its triple.
pub data Move : Type 0 where
  move : ℕ → Rule → Triple → Move

-- What a rule concludes: two terms are equal, or by this link one reaches the other.
pub data Fact : Type 0 where
  equal : ℕ → ℕ → Fact
  reaches : ℕ → ℕ → ℕ → Fact

-- the successor of a term, or 0 where it has none
unfoldable pub next : ℕ → Graph → ℕ → ℕ
next n g c = get_or (find (g.link c) (terms n)) 0

-- "links from x return to x after k steps, k least and at least 1": from c they lead to x after k steps, and not before
unfoldable pub returns : ℕ → Graph → ℕ → ℕ → ℕ → Bool
returns n g x zero c = false
returns n g x (suc k) c = let rest : Bool = returns n g x k (next n g c) in cond (eqb (next n g c) x) (eqb k 0) rest

-- "or the next term round, and so on": the k terms from c on
unfoldable pub round : ℕ → Graph → ℕ → ℕ → List ℕ
round n g zero c = []
round n g (suc k) c = c ∷ round n g k (next n g c)

-- What a rule asks of the facts about its link. "terms range over those not replaced": only such terms have facts, and REFLEX says so.
unfoldable pub conditions : ℕ → (ℕ → Bool) → (ℕ → Graph) → Move → Bool
conditions n alive g (move i REFLEX (triple x y z)) = alive x and eqb y 0 and eqb z 0
conditions n alive g (move i TRANS1 (triple x y z)) = (g i).link x y and eqb z 0
conditions n alive g (move i TRANS2 (triple x y z)) = (g i).reach x y and (g i).reach y z
conditions n alive g (move i FUNC (triple x y z)) = (g i).link x y and (g i).reach x z
conditions n alive g (move i CYCLE (triple x y k)) = returns n (g i) x k x and (g i).reach x y
conditions n alive g (move i SCC (triple x y z)) = (g i).reach x y and (g i).reach y x and (g i).reach x z
conditions n alive g (move i TOTAL (triple x y z)) = (g i).reach x y and (g i).reach x z
conditions n alive g (move i SHARE (triple x y z)) = (g i).link x z and (g i).link y z and (g i).reach x y and (g i).reach y x

-- "Alternatives are branches, tried left to right."
unfoldable pub alternatives : ℕ → (ℕ → Graph) → Move → List Fact
alternatives n g (move i REFLEX (triple x y z)) = reaches i x x ∷ []
alternatives n g (move i TRANS1 (triple x y z)) = reaches i x y ∷ []
alternatives n g (move i TRANS2 (triple x y z)) = reaches i x z ∷ []
alternatives n g (move i FUNC (triple x y z)) = equal x z ∷ reaches i y z ∷ []
alternatives n g (move i CYCLE (triple x y k)) = map (equal y) (round n (g i) k x)
alternatives n g (move i SCC (triple x y z)) = equal x y ∷ reaches i z x ∷ []
alternatives n g (move i TOTAL (triple x y z)) = reaches i y z ∷ reaches i z y ∷ []
alternatives n g (move i SHARE (triple x y z)) = equal x y ∷ []

-- "x=x is always held"
unfoldable pub held : (ℕ → Graph) → Fact → Bool
held g (equal a b) = eqb a b
held g (reaches i a b) = (g i).reach a b

-- the link of a move is one of so many
unfoldable pub has_link : ℕ → Move → Bool
has_link links (move i r t) = ltb 0 i and leb i links

-- "A rule applies if all its conditions are held and none of its alternatives is."
unfoldable pub applies : ℕ → Facts → Move → Bool
applies n s m =
    has_link s.links m and conditions n (live n s) s.graph m and not (any (held s.graph) (alternatives n s.graph m))

-- "each with its alternative joined or added": what an alternative makes of a path, and the pairs joined to make it
unfoldable pub branch : ℕ → Facts → Fact → Joined
branch n s (equal a b) = join n a b s
branch n s (reaches i a b) = unjoined (add_reach i a b s)

unfoldable pub add : ℕ → Facts → Fact → Facts
add n s c = (branch n s c).facts

-- what becomes of a path: one for each alternative, left to right
unfoldable pub branches : ℕ → Facts → Move → List Facts
branches n s m = map (add n s) (alternatives n s.graph m)

-- the triples of numbers up to n, smallest first
unfoldable pub triples : ℕ → List Triple
triples n =
    flat_map (λ x. flat_map (λ y. map (triple x y) (from (suc n) 0)) (from (suc n) 0)) (from (suc n) 0)

-- "the first applicable rule of the order list, at the smallest triple"; "within a rule link 1 is tried first" (02, R-11)
unfoldable pub choose : ℕ → List Rule → Facts → Option Move
choose n order s =
    first_of (λ r. first_of (λ i. first_of (λ t. keep (applies n s (move i r t)) (move i r t)) (triples n)) (link_numbers s.links)) order

-- "A rule line is the rule number and its triple." Its "first byte gains 16 times (link minus 1)" (02, R-11).
unfoldable pub move_number : ℕ → Rule → ℕ
move_number i r = 16 * (i - 1) + rule_number r

unfoldable pub move_line : Move → Line
move_line (move i r (triple x y z)) = line (move_number i r) x y z

-- the move of so many links that such a number and a triple name
unfoldable pub move_of : ℕ → ℕ → Triple → Option Move
move_of links b t = first_of (λ i. first_of (λ r. keep (eqb (move_number i r) b) (move i r t)) rules) (link_numbers links)
