-- Laws of the literals that are kept, as a loop over them meets them.
use Prim.Native.Nat.{ℕ, zero, suc, ◌+◌, ◌-◌, ◌*◌, ◌≤◌, ◌<◌}
use native.Mathlib.Omega.{arith}
use native.Mathlib.Numerals.{add-one}
use mathlib.Core.Path.{◌≡◌, refl, sym, ap, ap₂, ◌∙◌, subst}
use mathlib.Core.Bool.{Bool, true, false, cond}
use mathlib.Core.List.{List, [], ◌∷◌, ◌++◌, append_assoc}
use lib.ListN.{length, get_or, take, drop, drop_of_length-le}
use lib.Seq.{drop-cons}
use lib.Dec.{eqb}
use Rattle.logic.specs.Search.{flat_map}
use Rattle.logic.specs.Query.{Literal, Entries, literal, term_count, literals, decode}
use Rattle.query.specs.LaysOut.{LaysOut, literal_in}
use Rattle.query.specs.declared.Layout.{Layout}
use Rattle.query.proofs.Literals.{listed, listed_end, listed_next, listed-length, literals_are}
use Rattle.formula.specs.Grammar.{Letter, E, R, D}
use Rattle.formula.specs.Expansion.{Conjunction}
use Rattle.formula.specs.Meaning.{names, chosen, restricted}
use Rattle.encoding.specs.QueryBytes.{sign_byte, literal_bytes, section_bytes, encode}
use Rattle.formula_reader.specs.Tree.{letter_code}
use Rattle.formula_reader.specs.Marked.{marked}
use Rattle.formula_query.specs.Kept.{mark}

nothing : Literal
nothing = literal false 0 0

length-kept : (b : Bool) (x : Literal) (xs : List Literal) → length (cond b (x ∷ xs) xs) ≡ cond b 1 0 + length xs
length-kept true x xs = omega arith
length-kept false x xs = omega arith

-- one more, or not
pub one_more : (b : Bool) (r k n : ℕ) → r ≡ cond b (k + 1) k → r + n ≡ k + (cond b 1 0 + n)
one_more true r k n e = omega arith
one_more false r k n e = omega arith

pub more_bound : (b : Bool) (r k i : ℕ) → r ≡ cond b (k + 1) k → k ≤ i → r ≤ i + 1
more_bound true r k i e h = omega arith
more_bound false r k i e h = omega arith

module _ (p : ℕ → Bool) where
  chosen-length : (ls : List Literal) (i : ℕ) → i < length ls → length (chosen p (i + 1) (drop i ls)) ≡ cond (p (i + 1)) 1 0 + length (chosen p (i + 1 + 1) (drop (i + 1) ls))
  chosen-length ls i h =
      ap (λ (xs : List Literal). length (chosen p (i + 1) xs)) (drop-cons ls i nothing h)
      ∙ cons (get_or ls i nothing) (drop (suc i) ls)
      ∙ ap₂ (λ (m : ℕ) (xs : List Literal). cond (p (i + 1)) 1 0 + length (chosen p m xs)) (sym (add-one (i + 1))) (ap (λ (m : ℕ). drop m ls) (sym (add-one i)))
    where
      cons : (x : Literal) (xs : List Literal) → length (chosen p (i + 1) (x ∷ xs)) ≡ cond (p (i + 1)) 1 0 + length (chosen p (suc (i + 1)) xs)
      cons x xs = unfold chosen in length-kept (p (i + 1)) x (chosen p (suc (i + 1)) xs)

  pub count_next : (ls : List Literal) (i k r : ℕ) → i < length ls → r ≡ cond (p (i + 1)) (k + 1) k → r + length (chosen p (i + 1 + 1) (drop (i + 1) ls)) ≡ k + length (chosen p (i + 1) (drop i ls))
  count_next ls i k r h e = one_more (p (i + 1)) r k (length (chosen p (i + 1 + 1) (drop (i + 1) ls))) e ∙ ap (λ (n : ℕ). k + n) (sym (chosen-length ls i h))

  pub count_end : (ls : List Literal) (i k : ℕ) → length ls ≤ i → k + length (chosen p (i + 1) (drop i ls)) ≡ k
  count_end ls i k h = ap (λ (xs : List Literal). k + length (chosen p (i + 1) xs)) (drop_of_length-le ls h) ∙ none
    where
      none : k + length (chosen {A = Literal} p (i + 1) []) ≡ k
      none = unfold chosen in omega arith

  -- Writing

  module _ (f : ℕ → Literal) where
    pub kept : ℕ → ℕ → List ℕ
    kept count i = flat_map literal_bytes (chosen p (i + 1) (listed f count i))

    pub kept_is : (count : ℕ) → kept count 0 ≡ flat_map literal_bytes (chosen p 1 (listed f count 0))
    unfolding kept
    kept_is count = refl

    flat_kept : (b : Bool) (x : Literal) (xs : List Literal) → flat_map literal_bytes (cond b (x ∷ xs) xs) ≡ cond b (literal_bytes x) [] ++ flat_map literal_bytes xs
    flat_kept true x xs = unfold flat_map in refl
    flat_kept false x xs = refl

    pub kept_next : (count i : ℕ) → i < count → kept count i ≡ cond (p (i + 1)) (literal_bytes (f i)) [] ++ kept count (i + 1)
    unfolding kept
    kept_next count i h =
        ap (λ (xs : List Literal). flat_map literal_bytes (chosen p (i + 1) xs)) (listed_next f count i h)
        ∙ cons (f i) (listed f count (i + 1))
        ∙ ap (λ (m : ℕ). cond (p (i + 1)) (literal_bytes (f i)) [] ++ flat_map literal_bytes (chosen p m (listed f count (i + 1)))) (sym (add-one (i + 1)))
      where
        cons : (x : Literal) (xs : List Literal) → flat_map literal_bytes (chosen p (i + 1) (x ∷ xs)) ≡ cond (p (i + 1)) (literal_bytes x) [] ++ flat_map literal_bytes (chosen p (suc (i + 1)) xs)
        cons x xs = unfold chosen in flat_kept (p (i + 1)) x (chosen p (suc (i + 1)) xs)

    pub kept_end : (count i : ℕ) → count ≤ i → kept count i ≡ []
    unfolding kept
    kept_end count i h = ap (λ (xs : List Literal). flat_map literal_bytes (chosen p (i + 1) xs)) (listed_end f count i h) ∙ none
      where
        none : flat_map literal_bytes (chosen {A = Literal} p (i + 1) []) ≡ []
        none = unfold chosen flat_map in refl

    pub section_kept : (count n : ℕ) (ls : List Literal) → ls ≡ listed f count 0 →
        ((xs : List Literal) → length xs ≡ count → n ≡ length (chosen p 1 xs)) → (n ∷ []) ++ kept count 0 ≡ section_bytes (chosen p 1 ls)
    section_kept count n ls e h = ap₂ (λ (m : ℕ) (xs : List ℕ). m ∷ xs) (h (listed f count 0) (listed-length f count)) (kept_is count) ∙ whole
        ∙ ap (λ (xs : List Literal). section_bytes (chosen p 1 xs)) (sym e)
      where
        whole : length (chosen p 1 (listed f count 0)) ∷ flat_map literal_bytes (chosen p 1 (listed f count 0)) ≡ section_bytes (chosen p 1 (listed f count 0))
        whole = unfold section_bytes in refl

-- The bytes of one literal are at most three

pub literal_size : (b : Bool) (l : Literal) → length (cond b (literal_bytes l) []) ≤ 3
unfolding literal_bytes
literal_size true l = omega arith
literal_size false l = omega arith

-- a literal is written where it is marked
pub put-none : (b : Bool) (bytes : List ℕ) → b ≡ false → [] ≡ cond b bytes []
put-none b bytes e = rw e refl

pub put_some : (b : Bool) (bytes : List ℕ) → b ≡ true → bytes ≡ cond b bytes []
put_some b bytes e = rw e refl

pub literal-bytes : (bytes : List ℕ) (at i s : ℕ) → s ≡ sign_byte (eqb (get_or bytes (at + 3 * i) 0) 1) →
    ((s ∷ []) ++ (get_or bytes (at + 3 * i + 1) 0 ∷ [])) ++ (get_or bytes (at + 3 * i + 2) 0 ∷ []) ≡ literal_bytes (literal_in bytes at i)
literal-bytes bytes at i s e = unfold literal_bytes in ap (λ (x : ℕ). x ∷ get_or bytes (at + 3 * i + 1) 0 ∷ get_or bytes (at + 3 * i + 2) 0 ∷ []) e

-- The whole query

same_chosen : (p q : ℕ → Bool) (n : ℕ) (xs : List Literal) → ((m : ℕ) → m < n + length xs → p m ≡ q m) → chosen p n xs ≡ chosen q n xs
unfolding chosen
same_chosen p q n [] h = refl
same_chosen p q n (x ∷ xs) h = ap₂ (λ (b : Bool) (ys : List Literal). cond b (x ∷ ys) ys) (h n (omega arith)) (same_chosen p q (suc n) xs (λ m l. h m (omega arith)))

module _ (query : List ℕ) (marks : List Bool) (c : Conjunction) (same : (l : Letter) (n : ℕ) → n < 64 → marked marks l n ≡ names c l n) where
  section_same : (l : Letter) (code : ℕ) → code ≡ letter_code l → (ls : List Literal) → length ls ≤ 60 → chosen (mark marks code) 1 ls ≡ chosen (names c l) 1 ls
  section_same l code e ls h = same_chosen (mark marks code) (names c l) 1 ls (λ m k. ap (λ (x : ℕ). mark marks x m) e ∙ same l m (omega arith))

  pub query-bytes : (n : ℕ) (es : List ℕ) (equal reach field : List Literal) → n ≡ term_count (decode query) → (decode query).entries.terms ≡ es →
      (decode query).equalities ≡ equal → (decode query).reachability ≡ reach → (decode query).fields ≡ field → length equal ≤ 60 → length reach ≤ 60 →
      length field ≤ 60 → (((((n ∷ []) ++ es) ++ section_bytes (chosen (mark marks 0) 1 equal)) ++ section_bytes
      (chosen (mark marks 1) 1 reach)) ++ section_bytes (chosen (mark marks 2) 1 field)) ++ (0 ∷ []) ≡ encode (restricted (decode query) c)
  query-bytes n es equal reach field e₀ e₁ e₂ e₃ e₄ l₂ l₃ l₄ =
      simp append_assoc
      (ap₂ (λ (x : List ℕ) (y : List ℕ). x ++ y) (ap₂ (λ (x : ℕ) (y : List ℕ). x ∷ y) e₀ (sym e₁))
      (ap₂ (λ (x : List ℕ) (y : List ℕ). x ++ y) (part E 0 (unfold letter_code in refl) equal (decode query).equalities e₂ l₂)
      (ap₂ (λ (x : List ℕ) (y : List ℕ). x ++ y) (part R 1 (unfold letter_code in refl) reach (decode query).reachability e₃ l₃)
      (ap (λ (x : List ℕ). x ++ (0 ∷ [])) (part D 2 (unfold letter_code in refl) field (decode query).fields e₄ l₄)))))
      ∙ whole
    where
      part : (l : Letter) (code : ℕ) → code ≡ letter_code l → (ls ms : List Literal) → ms ≡ ls → length ls ≤ 60 → section_bytes (chosen (mark marks code) 1 ls) ≡ section_bytes (chosen (names c l) 1 ms)
      part l code e ls ms d h = ap section_bytes (section_same l code e ls h ∙ ap (chosen (names c l) 1) (sym d))

      whole : (term_count (decode query) ∷ (decode query).entries.terms) ++ (section_bytes
          (chosen (names c E) 1 (decode query).equalities) ++ (section_bytes
          (chosen (names c R) 1 (decode query).reachability) ++ (section_bytes (chosen (names c D) 1 (decode query).fields) ++ (0 ∷ [])))) ≡ encode
          (restricted (decode query) c)
      whole = unfold encode restricted term_count in refl

pub take_bound : (n : ℕ) (xs : List ℕ) → length (take n xs) ≤ n
take_bound zero xs = omega arith
take_bound (suc n) [] = omega arith
take_bound (suc n) (x ∷ xs) = let h : length (take n xs) ≤ n = take_bound n xs in omega arith

pub terms_bound : (n : ℕ) (xs : List ℕ) → n ≤ 16 → length (take (n + 1 - 1) xs) ≤ 16
terms_bound n xs h = let l : length (take (n + 1 - 1) xs) ≤ n + 1 - 1 = take_bound (n + 1 - 1) xs in omega arith

module _ (layout : Layout) (query : List ℕ) (laid : LaysOut layout query) (marks : List Bool) (c : Conjunction) (same : (l : Letter) (n : ℕ) → n < 64 → marked marks l n ≡ names c l n) where
  entries_put : (decode query).entries.terms ≡ take (layout.terms + 1 - 1) (drop 1 query)
  entries_put = ap (λ (es : Entries). es.terms) laid.entries_are ∙ ap (λ (m : ℕ). take m (drop 1 query)) number
    where
      number : layout.terms ≡ layout.terms + 1 - 1
      number = omega arith

  literals-count : (at count : ℕ) → at + 3 * count ≤ length query → count ≤ 60 → length (literals (take (3 * count) (drop at query))) ≤ 60
  literals-count at count h l = subst (λ (n : ℕ). n ≤ 60) (sym (ap length (literals_are query at count h) ∙ listed-length (literal_in query at) count)) l

  pub whole-bytes : (((((layout.terms ∷ []) ++ take (layout.terms + 1 - 1) (drop 1 query)) ++ section_bytes
      (chosen (mark marks 0) 1 (literals (take (3 * layout.equal_count) (drop layout.equal_at query))))) ++ section_bytes
      (chosen (mark marks 1) 1 (literals (take (3 * layout.reach_count) (drop layout.reach_at query))))) ++ section_bytes
      (chosen (mark marks 2) 1 (literals (take (3 * layout.field_count) (drop layout.field_at query))))) ++ (0 ∷ []) ≡ encode (restricted (decode query) c)
  whole-bytes =
      query-bytes query marks c same layout.terms _ _ _ _ laid.term_count_lem entries_put laid.equal_are laid.reach_are laid.field_are
      (literals-count layout.equal_at layout.equal_count laid.equal_fit laid.equal_within)
      (literals-count layout.reach_at layout.reach_count laid.reach_fit laid.reach_within)
      (literals-count layout.field_at layout.field_count laid.field_fit laid.field_within)
