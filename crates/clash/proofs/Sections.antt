-- The searches of a section as a loop over its places meets them: what is left to search equals the whole.
use Prim.Native.Nat.{ℕ, ◌+◌, ◌-◌, ◌≤◌, ◌<◌}
use native.Mathlib.Omega.{arith}
use mathlib.Core.Path.{◌≡◌, refl, sym, ap, ◌∙◌}
use mathlib.Core.Bool.{Bool, true, false, not}
use mathlib.Core.List.{List, [], ◌∷◌}
use mathlib.Core.Option.{Option, none, some}
use lib.ListN.{length}
use Rattle.logic.specs.Search.{◌and◌, from, at, holds_of, keep, or_else, first_of, find}
use Rattle.logic.specs.Query.{Literal}
use Rattle.logic.specs.Facts.{Line, line, negated_at, plain_at}
use Rattle.theory.proofs.Basics.Search.{none-some, first_of_empty, keep-true, keep-false}
use Rattle.rows.proofs.Loops.{first_end, first_here, first_next, find_end, find_here, find_next}
use Rattle.query.proofs.Literals.{listed, listed-length, listed_at}
use Rattle.clash.specs.Sections.{alone, partner, paired}

-- one turn of a search that asks a test, and of one that finds
turn_none : {A B : Type 0} (t : Bool) (a : A) (b : B) (o : Option A) (r : Option B) → (o ≡ none → r ≡ none) → or_else (keep t a) o ≡ none → or_else (keep t b) r ≡ none
unfolding or_else keep
turn_none true a b o r ih e = absurd (none-some (sym e))
turn_none false a b o r ih e = ih e

turn_some : {A B : Type 0} (f : A → B) (t : Bool) (a c : A) (o : Option A) (r : Option B) → (o ≡ some c → r ≡ some (f c)) → or_else (keep t a) o ≡ some c → or_else (keep t (f a)) r ≡ some (f c)
unfolding or_else keep
turn_some f true a c o r ih e = ap some (ap f (let q : a ≡ c = cc in q))
turn_some f false a c o r ih e = ih e

-- the first answer along a list comes from the element that is found
module _ {A B : Type 0} (p : A → Bool) (f : A → B) where
  first-none : (xs : List A) → find p xs ≡ none → first_of (λ x. keep (p x) (f x)) xs ≡ none
  unfolding find first_of
  first-none [] e = refl
  first-none (x ∷ xs) e = turn_none (p x) x (f x) _ _ (first-none xs) e

  first_some : (xs : List A) (a : A) → find p xs ≡ some a → first_of (λ x. keep (p x) (f x)) xs ≡ some (f a)
  unfolding find first_of
  first_some [] a e = absurd (none-some e)
  first_some (x ∷ xs) a e = turn_some f (p x) x a _ _ (first_some xs a) e

-- what each search asks of a place, and what is left of it from a place on
module _ (ls : List Literal) (count : ℕ) where
  abbrev hit : ℕ → (Literal → Bool) → ℕ → Option Line
  hit k p i = keep (negated_at ls i p) (line 9 k i 0)

  abbrev pub AloneLeft : ℕ → (Literal → Bool) → ℕ → Type 0
  AloneLeft k p i = alone k ls p ≡ first_of (hit k p) (from (count + 1 - (i + 1)) (i + 1))

  abbrev is_partner : (Literal → Literal → Bool) → ℕ → ℕ → Bool
  is_partner p i j = negated_at ls i (λ m. plain_at ls j (p m))

  abbrev pub PartnerLeft : (Literal → Literal → Bool) → ℕ → ℕ → Type 0
  PartnerLeft p i j = partner ls p i ≡ find (is_partner p i) (from (count + 1 - (j + 1)) (j + 1))

  abbrev pair : ℕ → (Literal → Literal → Bool) → ℕ → Option Line
  pair k p i = first_of (λ j. keep (is_partner p i j) (line 9 k i j)) (from (length ls) 1)

  abbrev pub PairedLeft : ℕ → (Literal → Literal → Bool) → ℕ → Type 0
  PairedLeft k p i = paired k ls p ≡ first_of (pair k p) (from (count + 1 - (i + 1)) (i + 1))

-- Literal i, counted from 0, is f i and stands at place i + 1.
module _ (f : ℕ → Literal) (count : ℕ) (ls : List Literal) (are : ls ≡ listed f count 0) where
  literal_is : (i : ℕ) → i < count → at ls (i + 1) ≡ some (f i)
  literal_is i h = ap (λ (xs : List Literal). at xs (i + 1)) are ∙ listed_at f count i h

  pub negated_at_lem : (i : ℕ) (p : Literal → Bool) → i < count → negated_at ls (i + 1) p ≡ (not (f i).plain and p (f i))
  unfolding negated_at holds_of
  negated_at_lem i p h = rw (literal_is i h)

  pub plain_at_lem : (i : ℕ) (p : Literal → Bool) → i < count → plain_at ls (i + 1) p ≡ ((f i).plain and p (f i))
  unfolding plain_at holds_of
  plain_at_lem i p h = rw (literal_is i h)

  size : length ls ≡ count + 1 - 1
  size = ap length are ∙ listed-length f count ∙ one_less
    where
      one_less : count ≡ count + 1 - 1
      one_less = omega arith

  -- a negated literal that passes a test
  module _ (k : ℕ) (p : Literal → Bool) where
    pub alone_begin : AloneLeft ls count k p 0
    unfolding alone
    alone_begin = ap (λ (m : ℕ). first_of (hit ls count k p) (from m 1)) size

    pub alone_here : (i : ℕ) → i < count → (not (f i).plain and p (f i)) ≡ true → AloneLeft ls count k p i → alone k ls p ≡ some (line 9 k (i + 1) 0)
    alone_here i h e left = left ∙ first_here (hit ls count k p) (count + 1) (i + 1) _ (omega arith) (keep-true _ (negated_at_lem i p h ∙ e))

    pub alone_next : (i : ℕ) → i < count → (not (f i).plain and p (f i)) ≡ false → AloneLeft ls count k p i → AloneLeft ls count k p (i + 1)
    alone_next i h e left = left ∙ first_next (hit ls count k p) (count + 1) (i + 1) (omega arith) (keep-false _ (negated_at_lem i p h ∙ e))

    pub alone_end : (i : ℕ) → count ≤ i → AloneLeft ls count k p i → alone k ls p ≡ none
    alone_end i h left = left ∙ first_end (hit ls count k p) (count + 1) (i + 1) (omega arith)

  -- a plain partner of literal i
  module _ (p : Literal → Literal → Bool) (i : ℕ) (h : i < count) where
    pub partner_begin : PartnerLeft ls count p (i + 1) 0
    unfolding partner
    partner_begin = ap (λ (m : ℕ). find (is_partner ls count p (i + 1)) (from m 1)) size

    is_plain : (j : ℕ) → (f i).plain ≡ true → is_partner ls count p (i + 1) j ≡ false
    unfolding ◌and◌
    is_plain j e = negated_at_lem i (λ m. plain_at ls j (p m)) h ∙ rw e

    is_negated : (j : ℕ) → (f i).plain ≡ false → j < count → is_partner ls count p (i + 1) (j + 1) ≡ ((f j).plain and p (f i) (f j))
    unfolding ◌and◌
    is_negated j e k =
        negated_at_lem i (λ m. plain_at ls (j + 1) (p m)) h ∙ ap (λ (t : Bool). not t and plain_at ls (j + 1) (p (f i))) e ∙ plain_at_lem j (p (f i)) k

    -- only a negated literal has a partner
    pub partner-plain : (f i).plain ≡ true → partner ls p (i + 1) ≡ none
    unfolding partner find
    partner-plain e = first_of_empty _ (from (length ls) 1) (λ j m. keep-false j (is_plain j e))

    pub partner_here : (j : ℕ) → j < count → (f i).plain ≡ false → ((f j).plain and p (f i) (f j)) ≡ true → PartnerLeft ls count p (i + 1) j → partner ls p (i + 1) ≡ some (j + 1)
    partner_here j k n e left = left ∙ find_here (is_partner ls count p (i + 1)) (count + 1) (j + 1) (omega arith) (is_negated j n k ∙ e)

    pub partner_next : (j : ℕ) → j < count → (f i).plain ≡ false → ((f j).plain and p (f i) (f j)) ≡ false → PartnerLeft ls count p (i + 1) j → PartnerLeft ls count p (i + 1) (j + 1)
    partner_next j k n e left = left ∙ find_next (is_partner ls count p (i + 1)) (count + 1) (j + 1) (omega arith) (is_negated j n k ∙ e)

    pub partner_end : (j : ℕ) → count ≤ j → PartnerLeft ls count p (i + 1) j → partner ls p (i + 1) ≡ none
    partner_end j k left = left ∙ find_end (is_partner ls count p (i + 1)) (count + 1) (j + 1) (omega arith)

  -- a negated literal that has a partner
  module _ (k : ℕ) (p : Literal → Literal → Bool) where
    pub paired_begin : PairedLeft ls count k p 0
    unfolding paired
    paired_begin = ap (λ (m : ℕ). first_of (pair ls count k p) (from m 1)) size

    pub paired_here : (i j : ℕ) → i < count → partner ls p (i + 1) ≡ some j → PairedLeft ls count k p i → paired k ls p ≡ some (line 9 k (i + 1) j)
    unfolding partner
    paired_here i j h e left = left ∙ first_here (pair ls count k p) (count + 1) (i + 1) _ (omega arith) (first_some _ (line 9 k (i + 1)) _ j e)

    pub paired_next : (i : ℕ) → i < count → partner ls p (i + 1) ≡ none → PairedLeft ls count k p i → PairedLeft ls count k p (i + 1)
    unfolding partner
    paired_next i h e left = left ∙ first_next (pair ls count k p) (count + 1) (i + 1) (omega arith) (first-none _ (line 9 k (i + 1)) _ e)

    pub paired_end : (i : ℕ) → count ≤ i → PairedLeft ls count k p i → paired k ls p ≡ none
    paired_end i h left = left ∙ first_end (pair ls count k p) (count + 1) (i + 1) (omega arith)
