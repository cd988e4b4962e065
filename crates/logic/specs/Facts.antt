-- The facts of a path: joining, the start, and the clash (01, "Joining and starting").
use Rattle.std.specs.Prelude.{ℕ, zero, suc, min, max, Bool, true, false, not, cond, List, [], ◌∷◌, ◌++◌, map, length, eqb, ltb, leb}
use Rattle.std.proofs.Math.Option.{Option, none, some, Option-elim}
use Rattle.logic.specs.Search.{◌and◌, ◌or◌, from, any, select, at, holds_of, first_of, find, flat_map}
use Rattle.logic.specs.Query.{Literal, Query, literal, names_nil, argument_of, link_of, term_count}

-- The facts about one link field: f(a) = b, and "a>b", a reaches b. Facts speak of terms that are not replaced.
pub record Graph : Type 0 where
  pub link : ℕ → ℕ → Bool
  pub reach : ℕ → ℕ → Bool

-- The facts of a path: what each term was replaced by (itself where it was not), how many links there are, and the facts about each link:
-- "The path record holds links and reachability per link" (02, R-11). The literals of the query are read through `rep`, so that a join
-- replaces terms in them too.
pub record Facts : Type 0 where
  pub rep : ℕ → ℕ
  pub links : ℕ
  pub graph : ℕ → Graph

-- the numbers of so many links
unfoldable pub link_numbers : ℕ → List ℕ
link_numbers links = from links 1

-- the terms of a query of n terms
unfoldable pub terms : ℕ → List ℕ
terms n = from n 1

-- term t is not replaced
unfoldable pub live : ℕ → Facts → ℕ → Bool
live n s t = ltb 0 t and ltb t (suc n) and eqb (s.rep t) t

unfoldable pub live_terms : ℕ → Facts → List ℕ
live_terms n s = select (live n s) (terms n)

-- the terms that become a where hi is replaced by lo
unfoldable pub became : ℕ → ℕ → ℕ → List ℕ
became lo hi a = cond (eqb a hi) [] (cond (eqb a lo) (lo ∷ hi ∷ []) (a ∷ []))

unfoldable pub replace_in : ℕ → ℕ → (ℕ → ℕ → Bool) → ℕ → ℕ → Bool
replace_in lo hi facts a b = any (λ x. any (facts x) (became lo hi b)) (became lo hi a)

-- "replaces the higher number by the lower in every fact"
unfoldable pub replace : ℕ → ℕ → Facts → Facts
replace lo hi s =
    record {
      rep = λ t. cond (eqb (s.rep t) hi) lo (s.rep t);
      links = s.links;
      graph = λ k. record { link = replace_in lo hi (s.graph k).link; reach = replace_in lo hi (s.graph k).reach };
    }

-- the successors of a term, ascending
unfoldable pub successors : ℕ → Graph → ℕ → List ℕ
successors n g t = select (g.link t) (terms n)

unfoldable pub first_two : List ℕ → Option (ℕ × ℕ)
first_two [] = none
first_two (a ∷ []) = none
first_two (a ∷ b ∷ rest) = some (a, b)

-- "the two lowest successors of the lowest such term"; "doubled successors are joined by lowest term, then link" (02, R-11)
unfoldable pub doubled : ℕ → Facts → Option (ℕ × ℕ)
doubled n s = first_of (λ t. first_of (λ k. first_two (successors n (s.graph k) t)) (link_numbers s.links)) (terms n)

-- What joining hands back: "every pair it joined, in order" (02, R-1), each as the kept term and the replaced, and the facts then.
pub record Joined : Type 0 where
  pub pairs : List (ℕ × ℕ)
  pub facts : Facts

-- no pair, one pair, and joins one after the other
unfoldable pub unjoined : Facts → Joined
unjoined s = record { pairs = []; facts = s }

unfoldable pub join_pair : ℕ × ℕ → Facts → Joined
join_pair ab s = record { pairs = ab ∷ []; facts = replace ab.0 ab.1 s }

unfoldable pub and_then : Joined → (Facts → Joined) → Joined
and_then j f = record { pairs = j.pairs ++ (f j.facts).pairs; facts = (f j.facts).facts }

-- "While a term has two successors, the two lowest successors of the lowest such term are joined", at most k times
unfoldable pub settle : ℕ → ℕ → Facts → Joined
settle n zero s = unjoined s
settle n (suc k) s = Option-elim (doubled n s) (unjoined s) (λ ab. and_then (join_pair ab s) (settle n k))

-- "Joining a and b": each replacement leaves one term fewer, so n of them are enough. A term joined with itself is no pair.
unfoldable pub join : ℕ → ℕ → ℕ → Facts → Joined
join n a b s = cond (eqb a b) (unjoined s) (and_then (join_pair (min a b, max a b) s) (settle n n))

-- a reachability fact about link k added
unfoldable pub add_reach : ℕ → ℕ → ℕ → Facts → Facts
add_reach k a b s =
    record {
      rep = s.rep;
      links = s.links;
      graph = λ j. record { link = (s.graph j).link; reach = λ x y. (s.graph j).reach x y or (eqb j k and eqb x a and eqb y b) };
    }

-- "The start holds the links of section 1"
unfoldable pub links_of : Query → Facts
links_of q =
    record {
      rep = λ t. t;
      links = q.links;
      graph = λ k. record { link = λ a b. ltb 0 a and eqb (argument_of q.entries b) a and eqb (link_of q.entries b) k; reach = λ a b. false };
    }

-- "then each plain equality joined in query order"
unfoldable pub join_each : ℕ → List Literal → Facts → Joined
join_each n [] s = unjoined s
join_each n (l ∷ ls) s =
    and_then (cond l.plain (join n (s.rep l.left) (s.rep l.right) s) (unjoined s)) (join_each n ls)

-- "then the plain reachability facts"
unfoldable pub reach_each : List Literal → Facts → Facts
reach_each [] s = s
reach_each (l ∷ ls) s = reach_each ls (cond l.plain (add_reach l.link (s.rep l.left) (s.rep l.right) s) s)

-- the terms that name nil, ascending
unfoldable pub nil_terms : Query → List ℕ
nil_terms q = select (names_nil q.entries) (terms (term_count q))

-- the facts f(a) = b of every link added
unfoldable pub add_links : ℕ → ℕ → Facts → Facts
add_links a b s =
    record {
      rep = s.rep;
      links = s.links;
      graph = λ j. record { link = λ x y. (s.graph j).link x y or (ltb 0 j and leb j s.links and eqb x a and eqb y b); reach = (s.graph j).reach };
    }

-- "the start joins the nil terms to the lowest, ascending, then adds nil's link and joins its doubled successors" (02, R-3); nil's links
-- "are added before their joins" (02, R-11)
unfoldable pub equal_to : ℕ → List ℕ → List Literal
equal_to t us = map (literal true t) us

unfoldable pub add_nil_links : ℕ → Facts → Facts
add_nil_links t s = add_links (s.rep t) (s.rep t) s

unfoldable pub join_nil : ℕ → List ℕ → Facts → Joined
join_nil n [] s = unjoined s
join_nil n (t ∷ us) s = and_then (join_each n (equal_to t us) s) (λ s'. settle n n (add_nil_links t s'))

-- the joins of the start: doubled links of section 1, then nil, then the plain equalities
unfoldable pub start_joins : Query → Joined
start_joins q =
    let n : ℕ = term_count q in
    and_then (and_then (settle n n (links_of q)) (join_nil n (nil_terms q))) (join_each n q.equalities)

unfoldable pub start : Query → Facts
start q = reach_each q.reachability (start_joins q).facts

-- A line of a derivation: four numbers.
pub data Line : Type 0 where
  line : ℕ → ℕ → ℕ → ℕ → Line

-- "a line 10, kept term, replaced term, 0 for each" pair (02, R-1)
unfoldable pub join_lines : List (ℕ × ℕ) → List Line
join_lines pairs = map (λ ab. line 10 ab.0 ab.1 0) pairs

-- the literal at a place is negated and passes the test; it is plain and passes the test
unfoldable pub negated_at : List Literal → ℕ → (Literal → Bool) → Bool
negated_at ls i p = holds_of (at ls i) (λ l. not l.plain and p l)

unfoldable pub plain_at : List Literal → ℕ → (Literal → Bool) → Bool
plain_at ls i p = holds_of (at ls i) (λ l. l.plain and p l)

-- "A clash is a negated equality of one term with itself, a negated reachability fact that is held, or a data .. literal held plain and
-- negated." Section, "place of the negated literal (from 1)", and for section 4 the place of a plain partner, else 0.
unfoldable pub is_clash : Query → Facts → Line → Bool
is_clash q s (line nine section i j) =
    eqb nine 9
    and (eqb section 2 and eqb j 0 and negated_at q.equalities i (λ l. eqb (s.rep l.left) (s.rep l.right))
    or eqb section 3 and eqb j 0 and negated_at q.reachability i (λ l. (s.graph l.link).reach (s.rep l.left) (s.rep l.right))
    or eqb section 4 and negated_at q.fields i
    (λ l. plain_at q.fields j (λ m. eqb l.left m.left and eqb (s.rep l.right) (s.rep m.right))))

-- the clash lines that a query allows: by section, then place, then partner
unfoldable pub clash_lines : Query → List Line
clash_lines q =
    let alone : ℕ → List Literal → List Line = λ k ls. map (λ i. line 9 k i 0) (from (length ls) 1) in
    let paired : ℕ → List Literal → List Line =
    λ k ls. flat_map (λ i. map (line 9 k i) (from (length ls) 1)) (from (length ls) 1) in
    alone 2 q.equalities ++ (alone 3 q.reachability ++ paired 4 q.fields)

-- "Lowest section, then lowest place, is reported", with "the place of the lowest plain partner"
unfoldable pub clash : Query → Facts → Option Line
clash q s = find (is_clash q s) (clash_lines q)
