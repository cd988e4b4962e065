-- What is claimed of the joining call and of the hand-back, as statements about the definitions (02, R-12).
use Rattle.std.specs.Prelude.{ℕ, ◌+◌, ◌-◌, ◌≤◌, ◌<◌, ◌≡◌, ◌↔◌, ◌⊎◌, true, length, get_or, take, drop, replicate}
use mathlib.Core.List.{List, [], ◌∷◌, ◌++◌, Memᴰ}
use Rattle.std.proofs.Math.Option.{some}
use Rattle.logic.specs.Search.{at, flat_map}
use Rattle.logic.specs.Query.{Literal, Query, term_count, literals, decode}
use Rattle.logic.specs.Facts.{Facts, line, is_clash}
use Rattle.logic.specs.Heap.{Satisfiable}
use Rattle.logic.specs.Calls.{Input, query_checks, accepts, verdict_call}
use Rattle.logic.specs.Calls as calls
use Rattle.logic.specs.Demands.{NotRefused, FirstStands, numbers}
use Rattle.encoding.specs.QueryBytes.{encode}
use Rattle.encoding.specs.WritingCall.{given}
use Rattle.joining.specs.Pairs.{Pair}
use Rattle.joining.specs.Joined.{joined, pair_literal}
use Rattle.joining.specs.Heaps.{OneHeap}
use Rattle.joining.specs.Call.{Answer, written, first_refused, second_refused, refused, join_call}
use Rattle.joining.specs.HandBack.{Handed, in_first, in_second, literals_in, raised_in, hand_back_call, part_of}
use Rattle.joining.specs.HandBack as handed

-- both queries pass their checks
abbrev pub BothAccepted : List ℕ → List ℕ → Type 0
BothAccepted first second = (accepts first ≡ true) × (accepts second ≡ true)

-- "a list of pairs after a count of 0 to 60 (term of the first, term of the second)": these bytes list these pairs, of queries with n and m
-- terms
pub record Lists (n m : ℕ) (bytes : List ℕ) (ps : List Pair) : Type 0 where
  pub at_most : length ps ≤ 60
  pub bytes_are : bytes ≡ length ps ∷ flat_map (λ p. p.first ∷ p.second ∷ []) ps
  pub first_terms : (p : Pair) → Memᴰ p ps → (1 ≤ p.first) × (p.first ≤ n)
  pub second_terms : (p : Pair) → Memᴰ p ps → (1 ≤ p.second) × (p.second ≤ m)

-- of the terms of these two queries
abbrev pub ListsPairs : List ℕ → List ℕ → List ℕ → List Pair → Type 0
ListsPairs first second = Lists (term_count (decode first)) (term_count (decode second))

-- the query that is written for them
abbrev pub as_one : List ℕ → List ℕ → List Pair → Query
as_one first second = joined (decode first) (decode second)

-- "24 a limit passed or output buffer too short": the limits are 16 terms and 60 literals a section (01), in each "first's entries, then second's ..,
-- then an equality per pair"; bytes that just fill the buffer are not too many
module _ (room : ℕ) (first second : List ℕ) (ps : List Pair) where
  abbrev a : Query
  a = decode first

  abbrev b : Query
  b = decode second

  abbrev pub Exceeds : Type 0
  Exceeds =
      (16 < term_count a + term_count b)
      ⊎ (60 < length a.equalities + length b.equalities + length ps)
      ⊎ (60 < length a.reachability + length b.reachability)
      ⊎ (60 < length a.fields + length b.fields)
      ⊎ (room < length (encode (as_one first second ps)))

  pub record Fits : Type 0 where
    pub terms : term_count a + term_count b ≤ 16
    pub equalities : length a.equalities + length b.equalities + length ps ≤ 60
    pub reachability : length a.reachability + length b.reachability ≤ 60
    pub fields : length a.fields + length b.fields ≤ 60
    pub output : length (encode (as_one first second ps)) ≤ room

-- The joining call

module _ (first second pairs : List ℕ) (room : ℕ) where
  abbrev pub answered : Answer
  answered = (join_call first second pairs room).answer

  abbrev pub left : List ℕ
  left = (join_call first second pairs room).lent

  -- the bytes list no pairs; they list some, and the query is too large, or fits and has n bytes
  abbrev pub Unlisted : Type 0
  Unlisted = (ps : List Pair) → ListsPairs first second pairs ps → ⊥

  abbrev pub TooLarge : Type 0
  TooLarge = (ps : List Pair) × ListsPairs first second pairs ps × Exceeds room first second ps

  abbrev pub WrittenAs : ℕ → Type 0
  WrittenAs n = (ps : List Pair) × ListsPairs first second pairs ps × Fits room first second ps × (n ≡ length (encode (as_one first second ps)))

  -- How the call refuses. For every input:
  pub record JoinRefusals : Type 0 where
    -- "Checks: 2 to 8 for the first, then the second": the first in checking order whose condition stands
    pub first_exactly : (k place : ℕ) → (answered ≡ first_refused k place) ↔ FirstStands query_checks (given first 0) k place
    pub second_exactly : (k place : ℕ) → (answered ≡ second_refused k place) ↔ ((accepts first ≡ true) × FirstStands query_checks (given second 0) k place)
    -- "23 a pair list of wrong length or count, or with a term its query lacks": the bytes list no pairs of terms, however many
    pub pairs_exactly : (place : ℕ) → (answered ≡ refused 23 place) ↔ ((place ≡ 0) × BothAccepted first second × Unlisted)
    -- then 24
    pub room_exactly : (place : ℕ) → (answered ≡ refused 24 place) ↔ ((place ≡ 0) × BothAccepted first second × TooLarge)
    -- there is no other
    pub refusal_numbered : (k place : ℕ) → answered ≡ refused k place → (k ≡ 23) ⊎ (k ≡ 24)
    -- a query is written exactly where it fits, and its length is answered
    pub written_exactly : (n : ℕ) → (answered ≡ written n) ↔ (BothAccepted first second × WrittenAs n)
    -- "All bytes .. are zero after a refusal" (01), and the call fills just what was lent in any case
    pub refusal_blank : ((n : ℕ) → answered ≡ written n → ⊥) → left ≡ replicate room 0
    pub lent_whole : length left ≡ room

  -- What is claimed of the n bytes that were written, of the pairs that are listed.
  module _ (n : ℕ) (ps : List Pair) where
    abbrev pub taken : List ℕ
    taken = take n left

    pub record Written : Type 0 where
      -- they are the joined query, and zeros follow
      pub is_joined : taken ≡ encode (as_one first second ps)
      pub zeros_follow : left ≡ taken ++ replicate (room - n) 0
      -- at most as many as the longest query has
      pub within : n ≤ 561
      -- every call accepts them, and they say the joined query
      pub accepted : accepts taken ≡ true
      pub says : decode taken ≡ as_one first second ps
      -- "The result is satisfiable exactly if one heap meets both with the pairs, and all nil terms of both, equal": of the definitions, and
      -- of the verdict call
      pub one_heap : Satisfiable (decode taken) ↔ OneHeap (decode first) (decode second) ps
      pub satisfiable_exactly : (i : Input) → i.query ≡ taken → NotRefused (verdict_call i).answer → ((verdict_call i).answer ≡ calls.satisfiable) ↔ OneHeap (decode first) (decode second) ps
      pub refuted_exactly : (i : Input) → i.query ≡ taken → NotRefused (verdict_call i).answer → ((verdict_call i).answer ≡ calls.refuted) ↔ (OneHeap (decode first) (decode second) ps → ⊥)

-- The hand-back

abbrev pub IsPart : Handed → Type 0
IsPart (in_first at_byte size) = Unit {0}
IsPart (in_second at_byte size) = Unit {0}
IsPart (handed.first_refused r place) = ⊥
IsPart (handed.second_refused r place) = ⊥
IsPart (handed.refused r place) = ⊥

-- of a line "whose second and third bytes name a literal"
module _ (first second bytes : List ℕ) where
  abbrev pub result : Handed
  result = hand_back_call first second bytes

  abbrev pub section : ℕ
  section = get_or bytes 1 0

  abbrev pub number : ℕ
  number = get_or bytes 2 0

  -- a literal of the first; a literal of the second, which stands behind those of the first
  abbrev pub NamesFirst : Literal → Type 0
  NamesFirst l = at (literals_in (decode first) section) number ≡ some l

  abbrev pub NamesSecond : Literal → Type 0
  NamesSecond l = (k : ℕ) × (number ≡ length (literals_in (decode first) section) + k) × (at (literals_in (decode second) section) k ≡ some l)

  -- a literal of the two joined with these pairs; the equality of one of these
  abbrev pub NamedIn : List Pair → Literal → Type 0
  NamedIn ps l = at (literals_in (as_one first second ps) section) number ≡ some l

  abbrev pub OfPair : List Pair → Literal → Type 0
  OfPair ps l = (p : Pair) × Memᴰ p ps × (l ≡ pair_literal (term_count (decode first)) p)

  -- the part is three bytes of the query, which read as the literal that the line names; in the joined query that of the second is raised
  pub record OfFirst (at_byte size : ℕ) : Type 0 where
    pub both : BothAccepted first second
    pub begins : get_or bytes 0 0 ≡ 9
    pub literal : Literal
    pub own : NamesFirst literal
    pub named : (ps : List Pair) → NamedIn ps literal
    pub within : (size ≡ 3) × (at_byte + size ≤ length first)
    pub part : part_of result first second ≡ take size (drop at_byte first)
    pub reads : literals (part_of result first second) ≡ literal ∷ []

  pub record OfSecond (at_byte size : ℕ) : Type 0 where
    pub both : BothAccepted first second
    pub begins : get_or bytes 0 0 ≡ 9
    pub literal : Literal
    pub own : NamesSecond literal
    pub named : (ps : List Pair) → NamedIn ps (raised_in (term_count (decode first)) section literal)
    pub within : (size ≡ 3) × (at_byte + size ≤ length second)
    pub part : part_of result first second ≡ take size (drop at_byte second)
    pub reads : literals (part_of result first second) ≡ literal ∷ []

  -- "the line does not begin with 9 or names no literal of either"
  abbrev pub Unnamed : Type 0
  Unnamed = (get_or bytes 0 0 ≡ 9 → ⊥) ⊎ ((l : Literal) → NamesFirst l ⊎ NamesSecond l → ⊥)

  -- For every two queries and every line:
  pub record HandBackClaims : Type 0 where
    pub first_exactly : (k place : ℕ) → (result ≡ handed.first_refused k place) ↔ FirstStands query_checks (given first 0) k place
    pub second_exactly : (k place : ℕ) → (result ≡ handed.second_refused k place) ↔ ((accepts first ≡ true) × FirstStands query_checks (given second 0) k place)
    -- "25, in the hand-back after 2 to 8 alone"
    pub unnamed_exactly : (k place : ℕ) → (result ≡ handed.refused k place) ↔ ((k ≡ 25) × (place ≡ 0) × BothAccepted first second × Unnamed)
    -- "hand back that literal's own bytes from whichever of the two lent queries it came from"
    pub of_first_lem : (at_byte size : ℕ) → result ≡ in_first at_byte size → OfFirst at_byte size
    pub of_second_lem : (at_byte size : ℕ) → result ≡ in_second at_byte size → OfSecond at_byte size
    -- "A refused hand-back is an empty part"
    pub refused_empty : (IsPart result → ⊥) → part_of result first second ≡ []
    -- what else is named in the joined query, by a line that is refused, is the equality of a pair
    pub pair_named : (ps : List Pair) (l : Literal) → BothAccepted first second → (IsPart result → ⊥) → get_or bytes 0 0 ≡ 9 → NamedIn ps l → OfPair ps l

-- a clash line of the result is not refused: it names a negated literal, and the pairs' equalities are plain
abbrev pub ClashHanded : List ℕ → List ℕ → Type 0
ClashHanded first second =
    (ps : List Pair) (facts : Facts) (nine s k j : ℕ) → is_clash (as_one first second ps) facts (line nine s k j) ≡ true
    → IsPart (hand_back_call first second (nine ∷ s ∷ k ∷ j ∷ []))

pub record Claims : Type 0 where
  -- "2 to 8", and 26 among them (02, R-13)
  pub query_checks_lem : numbers query_checks ≡ 2 ∷ 3 ∷ 26 ∷ 4 ∷ 5 ∷ 6 ∷ 7 ∷ 8 ∷ []
  pub refusals : (first second pairs : List ℕ) (room : ℕ) → JoinRefusals first second pairs room
  pub joins : (first second pairs : List ℕ) (room n : ℕ) (ps : List Pair) → answered first second pairs room ≡ written n → ListsPairs first second pairs ps → Written first second pairs room n ps
  pub hand_back : (first second bytes : List ℕ) → HandBackClaims first second bytes
  pub clash_handed : (first second : List ℕ) → BothAccepted first second → ClashHanded first second
