-- Counting line by line, and adding count by count. Assumes nothing.
use Prim.Native.Nat.{ℕ, zero, suc, ◌+◌, ◌-◌, ◌*◌, ◌≤◌, ◌<◌}
use native.Mathlib.Omega.{arith}
use native.Mathlib.Numerals.{add-one}
use native.Mathlib.Nat.{add-zero, sub-zero}
use mathlib.Core.Path.{◌≡◌, refl, sym, ap, subst, ◌∙◌}
use mathlib.Core.Logic.{⊎_elim}
use mathlib.Core.Bool.{Bool, true, false, cond}
use mathlib.Core.List.{List, [], ◌∷◌}
use lib.ListN.{length, get_or, set, drop, replicate, drop_of_length-le}
use lib.Seq.{drop-cons, drop-drop, get_or-drop, get_or-set_same, get_or-set_other, ext_get_or}
use lib.Dec.{eqb, leb}
use borrow.Author.Tests.{le-leb, lt-leb, eq-eqb, ne_eqb}
use Rattle.logic.specs.Search.{◌and◌, all}
use Rattle.logic.specs.Facts.{Line, line}
use Rattle.logic.specs.Derivation.{lines_from, lines_in}
use Rattle.theory.proofs.Basics.Compare.{le_cases}
use Rattle.tally.specs.Counting.{kind_of, rule_lines, raised_from, raised, plus, fits, refusal_of, tallied, no_lines, Below, Adds}

-- Rule lines: those of the first line, and those of the others. Only the number that a line begins with counts.
one_more : (r k b c d : ℕ) (ls : List Line) → rule_lines r (line k 0 0 0 ∷ []) + rule_lines r ls ≡ rule_lines r (line k b c d ∷ ls)
unfolding rule_lines kind_of
one_more r k b c d ls = by_case (eqb k r)
  where
    by_case : (t : Bool) → cond t 1 0 + rule_lines r ls ≡ cond t (suc (rule_lines r ls)) (rule_lines r ls)
    by_case true = omega arith
    by_case false = omega arith

raised_from-more : (r : ℕ) (cs : List ℕ) (k b c d : ℕ) (ls : List Line) → raised_from r (raised_from r cs (line k 0 0 0 ∷ [])) ls ≡ raised_from r cs (line k b c d ∷ ls)
unfolding raised_from
raised_from-more r [] k b c d ls = refl
raised_from-more r (n ∷ cs) k b c d ls =
    let e : n + rule_lines r (line k 0 0 0 ∷ []) + rule_lines r ls ≡ n + rule_lines r (line k b c d ∷ ls) = omega (arith, one_more r k b c d ls) in
    ap (λ (m : ℕ). m ∷ raised_from (suc r) (raised_from (suc r) cs (line k 0 0 0 ∷ [])) ls) e
    ∙ ap (λ (ms : List ℕ). (n + rule_lines r (line k b c d ∷ ls)) ∷ ms) (raised_from-more (suc r) cs k b c d ls)

raised_from-length : (r : ℕ) (cs : List ℕ) (ls : List Line) → length (raised_from r cs ls) ≡ length cs
unfolding raised_from
raised_from-length r [] ls = refl
raised_from-length r (c ∷ cs) ls = ap suc (raised_from-length (suc r) cs ls)

pub raised-length : (cs : List ℕ) (ls : List Line) → length (raised cs ls) ≡ length cs
unfolding raised
raised-length cs ls = raised_from-length 1 cs ls

-- no count is raised by more than the lines
rule_lines_few : (r : ℕ) (ls : List Line) → rule_lines r ls ≤ length ls
unfolding rule_lines
rule_lines_few r [] = omega arith
rule_lines_few r (l ∷ ls) = by_case (rule_lines_few r ls) (eqb (kind_of l) r)
  where
    by_case : rule_lines r ls ≤ length ls → (t : Bool) → cond t (suc (rule_lines r ls)) (rule_lines r ls) ≤ suc (length ls)
    by_case h true = omega arith
    by_case h false = omega arith

raised_from_few : (r : ℕ) (cs : List ℕ) (ls : List Line) (k : ℕ) → get_or (raised_from r cs ls) k 0 ≤ get_or cs k 0 + length ls
unfolding raised_from
raised_from_few r [] ls k = omega arith
raised_from_few r (c ∷ cs) ls zero = let h = rule_lines_few r ls in omega arith
raised_from_few r (c ∷ cs) ls (suc k) = raised_from_few (suc r) cs ls k

pub raised_below : {n : ℕ} (cs : List ℕ) (l : Line) → Below n cs → Below (n + 1) (raised cs (l ∷ []))
unfolding raised
raised_below cs l h k = let f = raised_from_few 1 cs (l ∷ []) k in let g = h k in omega arith

-- the count of a rule's own place
pub at_most : {n : ℕ} (cs : List ℕ) → Below n cs → (k : ℕ) → get_or cs (k - 1) 0 < n
at_most cs b k = b (k - 1)

pub none_below : Below 1 no_lines
unfolding no_lines
none_below k = zeros 8 k
  where
    zeros : (n k : ℕ) → get_or (replicate n 0) k 0 < 1
    zeros zero k = omega arith
    zeros (suc n) zero = omega arith
    zeros (suc n) (suc k) = zeros n k

-- A line of no rule of the tally changes nothing; one of rule r + j raises the count at place j by 1.
other_rule : (r k : ℕ) → (k ≡ r → ⊥) → rule_lines r (line k 0 0 0 ∷ []) ≡ 0
unfolding rule_lines kind_of
other_rule r k h = rw (ne_eqb k r h)

own_rule : (r k : ℕ) → k ≡ r → rule_lines r (line k 0 0 0 ∷ []) ≡ 1
unfolding rule_lines kind_of
own_rule r k h = rw (eq-eqb k r h)

raised_from-none : (r : ℕ) (cs : List ℕ) (k : ℕ) → ((j : ℕ) → j < length cs → k ≡ r + j → ⊥) → raised_from r cs (line k 0 0 0 ∷ []) ≡ cs
unfolding raised_from
raised_from-none r [] k h = refl
raised_from-none r (c ∷ cs) k h =
    let e = other_rule r k (λ q. h 0 (omega arith) (omega arith)) in
    let first : c + rule_lines r (line k 0 0 0 ∷ []) ≡ c = omega arith in
    ap (λ (m : ℕ). m ∷ raised_from (suc r) cs (line k 0 0 0 ∷ [])) first
    ∙ ap (λ (ms : List ℕ). c ∷ ms) (raised_from-none (suc r) cs k (λ j l q. h (suc j) (omega arith) (omega arith)))

raised_from_one : (r : ℕ) (cs : List ℕ) (k j : ℕ) → k ≡ r + j → j < length cs → raised_from r cs (line k 0 0 0 ∷ []) ≡ set cs j (get_or cs j 0 + 1)
unfolding raised_from
raised_from_one r [] k j e h = absurd (omega arith)
raised_from_one r (c ∷ cs) k zero e h =
    let f = own_rule r k (omega arith) in
    ap (λ (m : ℕ). (c + m) ∷ raised_from (suc r) cs (line k 0 0 0 ∷ [])) f
    ∙ ap (λ (ms : List ℕ). (c + 1) ∷ ms) (raised_from-none (suc r) cs k (λ j l q. omega arith))
raised_from_one r (c ∷ cs) k (suc j) e h =
    let f = other_rule r k (λ q. omega arith) in
    let first : c + rule_lines r (line k 0 0 0 ∷ []) ≡ c = omega arith in
    ap (λ (m : ℕ). m ∷ raised_from (suc r) cs (line k 0 0 0 ∷ [])) first
    ∙ ap (λ (ms : List ℕ). c ∷ ms) (raised_from_one (suc r) cs k j (omega arith) (omega arith))

pub raised_low : (cs : List ℕ) (k : ℕ) → k < 1 → cs ≡ raised cs (line k 0 0 0 ∷ [])
unfolding raised
raised_low cs k h = sym (raised_from-none 1 cs k (λ j l q. omega arith))

pub raised_high : (cs : List ℕ) (k : ℕ) → length cs ≡ 8 → 8 < k → cs ≡ raised cs (line k 0 0 0 ∷ [])
unfolding raised
raised_high cs k e h = sym (raised_from-none 1 cs k (λ j l q. omega arith))

pub raised_own : (cs : List ℕ) (k j n : ℕ) → length cs ≡ 8 → k ≡ 1 + j → j < 8 → n ≡ get_or cs j 0 + 1 → set cs j n ≡ raised cs (line k 0 0 0 ∷ [])
unfolding raised
raised_own cs k j n e p h q = ap (set cs j) q ∙ sym (raised_from_one 1 cs k j p (omega arith))

raised_from_nothing : (r : ℕ) (cs : List ℕ) → raised_from r cs [] ≡ cs
unfolding raised_from rule_lines
raised_from_nothing r [] = refl
raised_from_nothing r (c ∷ cs) = ap (λ (m : ℕ). m ∷ raised_from (suc r) cs []) (add-zero c) ∙ ap (λ (ms : List ℕ). c ∷ ms) (raised_from_nothing (suc r) cs)

pub raised_nothing : (cs : List ℕ) → raised cs [] ≡ cs
unfolding raised
raised_nothing cs = raised_from_nothing 1 cs

-- The lines of a derivation from line i on are left to count.
abbrev pub left : ℕ → List ℕ → ℕ → List Line
left count bytes i = lines_from (count - i) (drop (2 + 4 * i) bytes)

line_first : (bytes : List ℕ) (from k : ℕ) → (b : ℕ) × (c : ℕ) × (d : ℕ) × (lines_from (suc k) (drop from bytes) ≡ line (get_or bytes from 0) b c d ∷ lines_from k (drop (from + 4) bytes))
unfolding lines_from
line_first bytes from k = (
  get_or (drop from bytes) 1 0,
  get_or (drop from bytes) 2 0,
  get_or (drop from bytes) 3 0,
  ap (λ (a : ℕ). line a (get_or (drop from bytes) 1 0) (get_or (drop from bytes) 2 0) (get_or (drop from bytes) 3 0) ∷ lines_from k
      (drop 4 (drop from bytes))) (get_or-drop from bytes 0 0 ∙ ap (λ (j : ℕ). get_or bytes j 0) (add-zero from))
      ∙ ap (λ (xs : List ℕ). line (get_or bytes from 0) (get_or (drop from bytes) 1 0) (get_or (drop from bytes) 2 0) (get_or (drop from bytes) 3 0) ∷ lines_from k xs) (drop-drop 4 from bytes),
)

module _ (count : ℕ) (bytes : List ℕ) where
  pub count-whole : count ≡ 256 * get_or bytes 0 0 + get_or bytes 1 0 → left count bytes 0 ≡ lines_in bytes
  unfolding lines_in
  count-whole e = ap (λ (k : ℕ). lines_from k (drop 2 bytes)) (sub-zero count ∙ e)

  pub count_next : (cs : List ℕ) (i from kind : ℕ) → from ≡ 2 + 4 * i → kind ≡ get_or bytes from 0 → i < count →
      raised (raised cs (line kind 0 0 0 ∷ [])) (left count bytes (i + 1)) ≡ raised cs (left count bytes i)
  unfolding raised
  count_next cs i from kind e q h =
      let k : ℕ = count - (i + 1) in
      let more : count - i ≡ suc k = omega arith in
      let on : from + 4 ≡ 2 + 4 * (i + 1) = omega arith in
      let (b, c, d, f) = line_first bytes from k in
      ap (λ (j : ℕ). raised_from 1 (raised_from 1 cs (line kind 0 0 0 ∷ [])) (lines_from k (drop j bytes))) (sym on)
      ∙ raised_from-more 1 cs kind b c d (lines_from k (drop (from + 4) bytes))
      ∙ ap (λ (a : ℕ). raised_from 1 cs (line a b c d ∷ lines_from k (drop (from + 4) bytes))) q
      ∙ ap (raised_from 1 cs) (sym f)
      ∙ ap (λ (j : ℕ). raised_from 1 cs (lines_from (suc k) (drop j bytes))) e
      ∙ ap (λ (j : ℕ). raised_from 1 cs (lines_from j (drop (2 + 4 * i) bytes))) (sym more)

  pub count_end : (cs : List ℕ) (i : ℕ) → count ≤ i → raised cs (left count bytes i) ≡ cs
  unfolding raised lines_from
  count_end cs i h =
      let z : count - i ≡ 0 = omega arith in
      ap (λ (k : ℕ). raised_from 1 cs (lines_from k (drop (2 + 4 * i) bytes))) z ∙ raised_from_nothing 1 cs

-- Sums: what a derivation adds, count by count
plus-raised : (r : ℕ) (cs : List ℕ) (ls : List Line) → plus cs (raised_from r (replicate (length cs) 0) ls) ≡ raised_from r cs ls
unfolding plus raised_from
plus-raised r [] ls = refl
plus-raised r (c ∷ cs) ls =
    let e : c + (0 + rule_lines r ls) ≡ c + rule_lines r ls = omega arith in
    ap (λ (m : ℕ). m ∷ plus cs (raised_from (suc r) (replicate (length cs) 0) ls)) e ∙ ap (λ (ms : List ℕ). (c + rule_lines r ls) ∷ ms) (plus-raised (suc r) cs ls)

pub raised-plus : (cs : List ℕ) (ls : List Line) → length cs ≡ 8 → plus cs (raised no_lines ls) ≡ raised cs ls
unfolding raised no_lines
raised-plus cs ls e = ap (λ (k : ℕ). plus cs (raised_from 1 (replicate k 0) ls)) (sym e) ∙ plus-raised 1 cs ls

pub plus-length : (a b : List ℕ) → length (plus a b) ≡ length a
unfolding plus
plus-length [] b = refl
plus-length (x ∷ a) [] = refl
plus-length (x ∷ a) (y ∷ b) = ap suc (plus-length a b)

pub plus_at : (a b : List ℕ) (k : ℕ) → k < length a → get_or (plus a b) k 0 ≡ get_or a k 0 + get_or b k 0
unfolding plus
plus_at [] b k h = absurd (omega arith)
plus_at (x ∷ a) [] k h = sym (add-zero (get_or (x ∷ a) k 0))
plus_at (x ∷ a) (y ∷ b) zero h = refl
plus_at (x ∷ a) (y ∷ b) (suc k) h = plus_at a b k (omega arith)

-- the counts from k on are left
module _ (a b : List ℕ) (k : ℕ) where
  pub fits_next : k < length a → k < length b → fits (plus (drop k a) (drop k b)) ≡ (leb (get_or a k 0 + get_or b k 0) 4294967295 and fits (plus (drop (k + 1) a) (drop (k + 1) b)))
  unfolding fits plus all
  fits_next h l =
      ap (λ (xs : List ℕ). fits (plus xs (drop k b))) (drop-cons a k 0 h ∙ ap (λ (j : ℕ). get_or a k 0 ∷ drop j a) (sym (add-one k)))
      ∙ ap (λ (xs : List ℕ). fits (plus (get_or a k 0 ∷ drop (k + 1) a) xs)) (drop-cons b k 0 l ∙ ap (λ (j : ℕ). get_or b k 0 ∷ drop j b) (sym (add-one k)))

  pub fits-end : length a ≤ k → fits (plus (drop k a) (drop k b)) ≡ true
  unfolding fits plus all
  fits-end h = ap (λ (xs : List ℕ). fits (plus xs (drop k b))) (drop_of_length-le a {i = k} h)

  pub fits-here : k < length a → k < length b → get_or a k 0 + get_or b k 0 ≤ 4294967295 → fits (plus (drop k a) (drop k b)) ≡ fits (plus (drop (k + 1) a) (drop (k + 1) b))
  unfolding ◌and◌
  fits-here h l s = fits_next h l ∙ rw (le-leb (get_or a k 0 + get_or b k 0) 4294967295 s)

  pub fits_not : k < length a → k < length b → 4294967295 < get_or a k 0 + get_or b k 0 → fits (plus (drop k a) (drop k b)) ≡ false
  unfolding ◌and◌
  fits_not h l s = fits_next h l ∙ rw (lt-leb (get_or a k 0 + get_or b k 0) 4294967295 s)

-- the sums before k are made
pub record Summed (a b next : List ℕ) (k : ℕ) : Type 0 where
  pub made : (j : ℕ) → j < k → get_or next j 0 ≡ get_or a j 0 + get_or b j 0

pub summed_none : (a b next : List ℕ) → Summed a b next 0
summed_none a b next = record { made = λ j h. absurd (omega arith) }

pub summed_more : (a b next : List ℕ) (k n : ℕ) → k < length next → n ≡ get_or a k 0 + get_or b k 0 → Summed a b next k → Summed a b (set next k n) (k + 1)
summed_more a b next k n h e s = record { made = λ j l. ⊎_elim (λ ge. here j (omega arith)) (λ lt. there j lt) (le_cases k j) }
  where
    here : (j : ℕ) → j ≡ k → get_or (set next k n) j 0 ≡ get_or a j 0 + get_or b j 0
    here j q = ap (λ (i : ℕ). get_or (set next k n) i 0) q ∙ get_or-set_same next k n 0 h ∙ e ∙ ap (λ (i : ℕ). get_or a i 0 + get_or b i 0) (sym q)

    there : (j : ℕ) → j < k → get_or (set next k n) j 0 ≡ get_or a j 0 + get_or b j 0
    there j l = get_or-set_other next k j n 0 (λ q. omega arith) ∙ s.made j l

pub summed_all : (a b next : List ℕ) (k : ℕ) → length next ≡ length a → length a ≤ k → Summed a b next k → next ≡ plus a b
summed_all a b next k e h s =
    ext_get_or 0 next (plus a b) (e ∙ sym (plus-length a b)) (λ i l. s.made i (omega arith) ∙ sym (plus_at a b i (omega arith)))

pub below_more : {n m : ℕ} (cs : List ℕ) → n ≤ m → Below n cs → Below m cs
below_more cs h b k = let l = b k in omega arith

pub below_as : {n : ℕ} {cs ds : List ℕ} → cs ≡ ds → Below n ds → Below n cs
below_as {n} e b = subst (Below n) (sym e) b

pub zeros-none : replicate 8 0 ≡ no_lines
unfolding no_lines
zeros-none = refl

-- the loop over the lines: at first, and from line to line
pub count_starts : {p q : ℕ} (bytes : List ℕ) → p ≡ get_or bytes 0 0 → q ≡ get_or bytes 1 0 → raised (replicate 8 0) (left (256 * p + q) bytes 0) ≡ raised no_lines (lines_in bytes)
count_starts {p} {q} bytes e f =
    let whole : 256 * p + q ≡ 256 * get_or bytes 0 0 + get_or bytes 1 0 = omega arith in
    ap (λ (cs : List ℕ). raised cs (left (256 * p + q) bytes 0)) zeros-none ∙ ap (raised no_lines) (count-whole (256 * p + q) bytes whole)

pub count_again : {next : List ℕ} (count : ℕ) (bytes cs : List ℕ) (i kind : ℕ) → next ≡ raised cs (line kind 0 0 0 ∷ []) →
    kind ≡ get_or bytes (2 + 4 * i) 0 → i < count → raised next (left count bytes (i + 1)) ≡ raised cs (left count bytes i)
count_again count bytes cs i kind e q h = ap (λ (ns : List ℕ). raised ns (left count bytes (i + 1))) e ∙ count_next count bytes cs i (2 + 4 * i) kind refl q h

-- what a derivation adds, where `more` are the lines of each rule
pub adds_lines : {more left : List ℕ} {r : ℕ} (counts : List ℕ) (ls : List Line) → length counts ≡ 8 → more ≡ raised no_lines ls
    → (r ≡ cond (fits (plus counts more)) 0 28) × (left ≡ cond (fits (plus counts more)) (plus counts more) counts) → Adds counts ls left r
unfolding tallied refusal_of
adds_lines {more} counts ls eight lines (e, f) =
    let grown : plus counts more ≡ raised counts ls = ap (plus counts) lines ∙ raised-plus counts ls eight in
    record {
      leaves = f ∙ ap (λ (cs : List ℕ). cond (fits cs) cs counts) grown;
      answers = e ∙ ap (λ (cs : List ℕ). cond (fits cs) 0 28) grown;
    }

-- either outcome of a test
pub test_true : {A : Type 0} {b t : Bool} {r : A} (x y : A) → t ≡ b → t ≡ true → r ≡ x → r ≡ cond b x y
test_true x y e f g = g ∙ ap (λ (u : Bool). cond u x y) (sym f ∙ e)

pub test_false : {A : Type 0} {b t : Bool} {r : A} (x y : A) → t ≡ b → t ≡ false → r ≡ y → r ≡ cond b x y
test_false x y e f g = g ∙ ap (λ (u : Bool). cond u x y) (sym f ∙ e)
