-- The bytes that list pairs, and the pairs that they list. Assumes nothing.
use Prim.Native.Nat.{ℕ, zero, suc, ◌+◌, ◌*◌, ◌≤◌}
use native.Mathlib.Omega.{arith}
use mathlib.Core.Path.{◌≡◌, refl, sym, ap, ap₂, ◌∙◌}
use mathlib.Core.Bool.{true}
use mathlib.Core.List.{List, [], ◌∷◌, Memᴰ}
use lib.ListN.{length}
use borrow.Author.Tests.{leb-true, eqb-true, le-leb, lt-ltb, ltb-true}
use Rattle.logic.specs.Search.{flat_map}
use Rattle.logic.specs.Query.{first_byte}
use Rattle.theory.proofs.Basics.Search.{and_left, and_right, and_intro, all_true, all_intro}
use Rattle.theory.proofs.Basics.Count.{length-flat_map}
use Rattle.theory.proofs.Basics.Compare.{eqb_self}
use Rattle.joining.specs.Pairs.{Pair, pairs, pairs_of, has_terms, is_pair_list}
use Rattle.joining.specs.Claims.{Lists}

abbrev pair_bytes : List Pair → List ℕ
pair_bytes = flat_map (λ p. p.first ∷ p.second ∷ [])

pairs_read : (ps : List Pair) → pairs (pair_bytes ps) ≡ ps
unfolding flat_map pairs
pairs_read [] = refl
pairs_read (p ∷ ps) = ap (λ (xs : List Pair). p ∷ xs) (pairs_read ps)

pairs_written : (c : ℕ) (bytes : List ℕ) → length bytes ≡ 2 * c → (pair_bytes (pairs bytes) ≡ bytes) × (length (pairs bytes) ≡ c)
unfolding flat_map pairs
pairs_written zero [] e = (refl, refl)
pairs_written zero (a ∷ bytes) e = absurd (omega arith)
pairs_written (suc c) [] e = absurd (omega arith)
pairs_written (suc c) (a ∷ []) e = absurd (omega arith)
pairs_written (suc c) (a ∷ b ∷ rest) e =
    let r = pairs_written c rest (omega arith) in
    (ap (λ (xs : List ℕ). a ∷ b ∷ xs) r.0, ap suc r.1)

module _ (n m : ℕ) where
  -- a pair names a term of either query
  pub pair_terms : (p : Pair) → has_terms n m p ≡ true → ((1 ≤ p.first) × (p.first ≤ n)) × ((1 ≤ p.second) × (p.second ≤ m))
  unfolding has_terms
  pair_terms p h =
      let left = and_left _ _ h in
      let right = and_right _ _ h in (
        (ltb-true 0 p.first (and_left _ _ left), leb-true p.first n (and_right _ _ left)),
        (ltb-true 0 p.second (and_left _ _ right), leb-true p.second m (and_right _ _ right)),
      )

  terms_pair : (p : Pair) → (1 ≤ p.first) × (p.first ≤ n) → (1 ≤ p.second) × (p.second ≤ m) → has_terms n m p ≡ true
  unfolding has_terms
  terms_pair p f s =
      and_intro (and_intro (lt-ltb 0 p.first f.0) (le-leb p.first n f.1)) (and_intro (lt-ltb 0 p.second s.0) (le-leb p.second m s.1))

  -- the bytes of a pair list that passes list its pairs
  pub listed_lists : (bytes : List ℕ) → is_pair_list n m bytes ≡ true → Lists n m bytes (pairs_of bytes)
  unfolding is_pair_list pairs_of first_byte
  listed_lists [] h = absurd (omega (arith, eqb-true 0 1 (and_right _ _ (and_left _ _ h))))
  listed_lists (c ∷ rest) h =
      let front = and_left _ _ h in
      let sized = eqb-true (length (c ∷ rest)) (1 + 2 * c) (and_right _ _ front) in
      let r = pairs_written c rest (omega arith) in
      let each : (p : Pair) → Memᴰ p (pairs rest) → has_terms n m p ≡ true = λ p own. all_true (has_terms n m) p (and_right _ _ h) own in
      record {
        at_most = omega (arith, r.1, leb-true c 60 (and_left _ _ front));
        bytes_are = sym (ap₂ (λ (x : ℕ) (xs : List ℕ). x ∷ xs) r.1 r.0);
        first_terms = λ p own. (pair_terms p (each p own)).0;
        second_terms = λ p own. (pair_terms p (each p own)).1;
      }

  -- and bytes list no others
  module _ (bytes : List ℕ) (ps : List Pair) (l : Lists n m bytes ps) where
    pub lists_pairs : pairs_of bytes ≡ ps
    unfolding pairs_of
    lists_pairs = ap pairs_of l.bytes_are ∙ pairs_read ps

    count_read : first_byte bytes ≡ length ps
    unfolding first_byte
    count_read = ap first_byte l.bytes_are

    sized : length bytes ≡ 1 + 2 * first_byte bytes
    sized = omega (arith, ap length l.bytes_are, length-flat_map (λ (p : Pair). p.first ∷ p.second ∷ []) 2 (λ p. refl) ps, count_read)

    pub lists_listed : is_pair_list n m bytes ≡ true
    unfolding is_pair_list
    lists_listed =
        and_intro (and_intro (le-leb (first_byte bytes) 60 (omega (arith, count_read, l.at_most))) (rw (← sized) (eqb_self (length bytes))))
        (rw lists_pairs (all_intro (has_terms n m) ps (λ p own. terms_pair p (l.first_terms p own) (l.second_terms p own))))
