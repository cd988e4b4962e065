-- The readers read every text of the grammar, so that a text has at most one formula.
use Prim.Native.Nat.{ℕ, zero, suc, ◌+◌, ◌-◌, ◌≤◌, ◌<◌}
use native.Mathlib.Omega.{arith}
use native.Mathlib.Nat.{le_of_lt, add-zero}
use mathlib.Core.Path.{◌≡◌, refl, sym, ap, ◌∙◌, subst}
use mathlib.Core.Bool.{Bool, true, false}
use mathlib.Core.List.{List, [], ◌∷◌, ◌++◌, append_assoc, append-nil}
use lib.ListN.{length, length-append}
use borrow.Author.Tests.{eqb-true, eq-eqb, ne_eqb}
use Rattle.logic.specs.Search.{◌and◌, all}
use Rattle.theory.proofs.Basics.Search.{and_left, and_right}
use Rattle.text.specs.Text.{is_digit}
use Rattle.formula.specs.Grammar.{Letter, E, R, D, B, letter_byte, Formula, literal, both, either, is_blank, is_place, shown}
use Rattle.formula.specs.Grammar.{Level, disjunction, conjunction, item, Reads, one_and, one_item, name, parentheses, Within}
use Rattle.formula.specs.Meaning.{AllPresent}
use Rattle.formula.specs.Places.{digits_at, past_digits}
use Rattle.formula.specs.Reader.{past_blanks, Reading, done, and_then, joined, further, closed, named, item_by, item_at, read, calls}
use Rattle.formula.proofs.Marks.{mark-opening, mark_letter}
use Rattle.formula.proofs.Reading.{Stops}

-- what may follow a formula: no digit either
abbrev pub NoDigit : List ℕ → Type 0
NoDigit [] = Unit
NoDigit (b ∷ bs) = is_digit b ≡ false

-- Blanks and digits that are passed

blanks_passed : (before rest : List ℕ) → all is_blank before ≡ true → past_blanks (before ++ rest) ≡ past_blanks rest
blanks_passed [] rest h = refl
blanks_passed (b ∷ bs) rest h = passed (eqb-true b 32 (unfold all is_blank in and_left _ _ h)) ∙ blanks_passed bs rest (unfold all in and_right _ _ h)
  where
    passed : b ≡ 32 → past_blanks (b ∷ (bs ++ rest)) ≡ past_blanks (bs ++ rest)
    passed e = unfold past_blanks in rw (eq-eqb b 32 e) refl

no_blank : (b : ℕ) (bs : List ℕ) → (b ≡ 32 → ⊥) → past_blanks (b ∷ bs) ≡ b ∷ bs
unfolding past_blanks
no_blank b bs n = rw (ne_eqb b 32 n) refl

stops_here : (r : List ℕ) → Stops item r → past_blanks r ≡ r
stops_here [] s = unfold past_blanks in refl
stops_here (b ∷ bs) s = no_blank b bs s

blank_no_digit : (after rest : List ℕ) → all is_blank after ≡ true → NoDigit rest → NoDigit (after ++ rest)
blank_no_digit [] rest h n = n
blank_no_digit (b ∷ bs) rest h n = subst (λ (x : ℕ). is_digit x ≡ false) (sym (eqb-true b 32 (unfold all is_blank in and_left _ _ h))) (unfold is_digit ◌and◌ in refl)

module _ (rest : List ℕ) (n : NoDigit rest) where
  digits-taken : (ds : List ℕ) → all is_digit ds ≡ true → digits_at (ds ++ rest) ≡ ds
  digits-taken [] h = none rest n
    where
      none : (r : List ℕ) → NoDigit r → digits_at r ≡ []
      none [] m = unfold digits_at in refl
      none (b ∷ bs) m = unfold digits_at in rw m refl
  digits-taken (d ∷ ds) h = taken (unfold all in and_left _ _ h) ∙ ap (λ (x : List ℕ). d ∷ x) (digits-taken ds (unfold all in and_right _ _ h))
    where
      taken : is_digit d ≡ true → digits_at (d ∷ (ds ++ rest)) ≡ d ∷ digits_at (ds ++ rest)
      taken e = unfold digits_at in rw e refl

  digits_passed : (ds : List ℕ) → all is_digit ds ≡ true → past_digits (ds ++ rest) ≡ rest
  digits_passed [] h = none rest n
    where
      none : (r : List ℕ) → NoDigit r → past_digits r ≡ r
      none [] m = unfold past_digits in refl
      none (b ∷ bs) m = unfold past_digits in rw m refl
  digits_passed (d ∷ ds) h = passed (unfold all in and_left _ _ h) ∙ digits_passed ds (unfold all in and_right _ _ h)
    where
      passed : is_digit d ≡ true → past_digits (d ∷ (ds ++ rest)) ≡ past_digits (ds ++ rest)
      passed e = unfold past_digits in rw e refl

place_digits : (ds : List ℕ) → is_place ds ≡ true → all is_digit ds ≡ true
place_digits [] h = unfold all in refl
place_digits (d ∷ ds) h = parts (unfold is_place in and_left _ _ (and_left _ _ h)) (unfold is_place in and_right _ _ h)
  where
    parts : is_digit d ≡ true → all is_digit ds ≡ true → all is_digit (d ∷ ds) ≡ true
    parts a b = unfold all ◌and◌ in rw (a, b) refl

letter_no_blank : (l : Letter) → letter_byte l ≡ 32 → ⊥
unfolding letter_byte
letter_no_blank E e = omega arith
letter_no_blank R e = omega arith
letter_no_blank D e = omega arith
letter_no_blank B e = omega arith

len_left : (x y : List ℕ) (m : ℕ) → length (x ++ y) ≤ m → length x ≤ m
len_left x y m h = let e : length (x ++ y) ≡ length x + length y = length-append x y in omega arith

len_right : (b : ℕ) (x y : List ℕ) (m : ℕ) → length (x ++ (b ∷ y)) ≤ m → length y < m
len_right b x y m h = let e : length (x ++ (b ∷ y)) ≡ length x + suc (length y) = length-append x (b ∷ y) in omega arith

or_size : (x y z : List ℕ) (j : ℕ) → calls disjunction (length (x ++ (124 ∷ y)) + length z) ≤ suc j → calls conjunction (length x + suc (length (y ++ z))) ≤ j
unfolding calls
or_size x y z j h = let e : length (x ++ (124 ∷ y)) ≡ length x + suc (length y) = length-append x (124 ∷ y) in let d : length (y ++ z) ≡ length y + length z = length-append y z in omega arith

or-rest : (x y z : List ℕ) (j : ℕ) → calls disjunction (length (x ++ (124 ∷ y)) + length z) ≤ suc j → calls disjunction (length y + length z) ≤ j
unfolding calls
or-rest x y z j h = let e : length (x ++ (124 ∷ y)) ≡ length x + suc (length y) = length-append x (124 ∷ y) in omega arith

and_size : (x y z : List ℕ) (j : ℕ) → calls conjunction (length (x ++ (38 ∷ y)) + length z) ≤ suc j → calls item (length x + suc (length (y ++ z))) ≤ j
unfolding calls
and_size x y z j h = let e : length (x ++ (38 ∷ y)) ≡ length x + suc (length y) = length-append x (38 ∷ y) in let d : length (y ++ z) ≡ length y + length z = length-append y z in omega arith

and-rest : (x y z : List ℕ) (j : ℕ) → calls conjunction (length (x ++ (38 ∷ y)) + length z) ≤ suc j → calls conjunction (length y + length z) ≤ j
unfolding calls
and-rest x y z j h = let e : length (x ++ (38 ∷ y)) ≡ length x + suc (length y) = length-append x (38 ∷ y) in omega arith

item_size : (before t after r : List ℕ) (k : ℕ) → calls item (length (before ++ (40 ∷ (t ++ (41 ∷ after)))) + length r) ≤ suc k → calls disjunction (length t + suc (length (after ++ r))) ≤ k
unfolding calls
item_size before t after r k h =
    let a : length (before ++ (40 ∷ (t ++ (41 ∷ after)))) ≡ length before + suc (length (t ++ (41 ∷ after))) = length-append before (40 ∷ (t ++ (41 ∷ after))) in
    let b : length (t ++ (41 ∷ after)) ≡ length t + suc (length after) = length-append t (41 ∷ after) in
    let c : length (after ++ r) ≡ length after + length r = length-append after r in
    omega arith

item_depth : (before t after : List ℕ) (left : ℕ) → length (before ++ (40 ∷ (t ++ (41 ∷ after)))) ≤ left → suc (length t) ≤ left
item_depth before t after left h =
    let a : length (before ++ (40 ∷ (t ++ (41 ∷ after)))) ≡ length before + suc (length (t ++ (41 ∷ after))) = length-append before (40 ∷ (t ++ (41 ∷ after))) in
    let b : length (t ++ (41 ∷ after)) ≡ length t + suc (length after) = length-append t (41 ∷ after) in
    omega arith

-- a text is not deeper than it is long
pub short_within : (level : Level) {t : List ℕ} {f : Formula} (x : Reads level t f) (most : ℕ) → length t ≤ most → Within most x
unfolding Within
short_within disjunction (one_and x) most l = short_within conjunction x most l
short_within disjunction (Reads.or {t} {u} x y) most l = (short_within conjunction x most (len_left t (124 ∷ u) most l), short_within disjunction y most (le_of_lt (len_right 124 t u most l)))
short_within conjunction (one_item x) most l = short_within item x most l
short_within conjunction (Reads.and {t} {u} x y) most l = (short_within item x most (len_left t (38 ∷ u) most l), short_within conjunction y most (le_of_lt (len_right 38 t u most l)))
short_within item (name q before digits behind i p o) most l = tt
short_within item (parentheses {t} before behind i x o) most l = let h : suc (length t) ≤ most = item_depth before t behind most l in (omega arith, short_within disjunction x (most - 1) (omega arith))

heads : {b c : ℕ} {bs cs : List ℕ} → c ∷ cs ≡ b ∷ bs → c ≡ b
heads e = cc

conj_weaker : (w : List ℕ) → Stops disjunction w → Stops conjunction w
conj_weaker [] q = tt
conj_weaker (b ∷ bs) q = (q.0, q.1)

item_weaker : (w : List ℕ) → Stops conjunction w → Stops item w
item_weaker [] q = tt
item_weaker (b ∷ bs) q = q.0

no_bar : (w : List ℕ) → Stops disjunction w → (b : ℕ) (bs : List ℕ) → w ≡ b ∷ bs → b ≡ 124 → ⊥
no_bar [] q b bs e x = absurd (let z : ◌≡◌ {A = ℕ} 0 1 = cc in omega arith)
no_bar (c ∷ cs) q b bs e x = q.2 (heads e ∙ x)

no_ampersand : (w : List ℕ) → Stops conjunction w → (b : ℕ) (bs : List ℕ) → w ≡ b ∷ bs → b ≡ 38 → ⊥
no_ampersand [] q b bs e x = absurd (let z : ◌≡◌ {A = ℕ} 0 1 = cc in omega arith)
no_ampersand (c ∷ cs) q b bs e x = q.1 (heads e ∙ x)

-- what calls are left, from one level to the next
pub some_or : (n k : ℕ) → calls disjunction n ≤ k → 1 ≤ k
unfolding calls
some_or n k h = omega arith

pub some-and : (n k : ℕ) → calls conjunction n ≤ k → 1 ≤ k
unfolding calls
some-and n k h = omega arith

some_item : (n k : ℕ) → calls item n ≤ k → 1 ≤ k
unfolding calls
some_item n k h = omega arith

pub or_fewer : (n k : ℕ) → calls disjunction n ≤ suc k → calls conjunction n ≤ k
unfolding calls
or_fewer n k h = omega arith

pub and_fewer : (n k : ℕ) → calls conjunction n ≤ suc k → calls item n ≤ k
unfolding calls
and_fewer n k h = omega arith

module _ (has : Letter → ℕ → Bool) where
  further_stops : (separator : ℕ) (join : Formula → Formula → Formula) (more : List ℕ → Reading) (f : Formula) (r : List ℕ) →
      ((b : ℕ) (bs : List ℕ) → r ≡ b ∷ bs → b ≡ separator → ⊥) → further separator join more f r ≡ done f r
  further_stops separator join more f [] n = unfold further in refl
  further_stops separator join more f (b ∷ bs) n = unfold further in rw (ne_eqb b separator (n b bs refl)) refl

  further_on : (separator : ℕ) (join : Formula → Formula → Formula) (more : List ℕ → Reading) (f g : Formula) (u r : List ℕ) → more u ≡ done g r →
      further separator join more f (separator ∷ u) ≡ done (join f g) r
  further_on separator join more f g u r e = unfold further in rw (eq-eqb separator separator refl, e) (unfold and_then joined in refl)

  then_done : (next : Formula → List ℕ → Reading) {x : Reading} {f : Formula} {s : List ℕ} → x ≡ done f s → and_then x next ≡ next f s
  then_done next e = unfold and_then in rw e refl

  item_open : (inner : List ℕ → Reading) (left : ℕ) (s : List ℕ) → (left ≡ 0 → ⊥) → item_at has inner left (40 ∷ s) ≡ and_then (inner s) closed
  item_open inner left s n = unfold item_at in rw (mark-opening refl) (unfold item_by in rw (ne_eqb left 0 n) refl)

  item-name : (inner : List ℕ → Reading) (left : ℕ) (l : Letter) (s : List ℕ) → item_at has inner left (letter_byte l ∷ s) ≡ named has l (letter_byte l ∷ s) s
  item-name inner left l s = unfold item_at in rw (mark_letter l) (unfold item_by in refl)

  named_here : (l : Letter) (whole s : List ℕ) → is_place (digits_at s) ≡ true → has l (shown 0 (digits_at s)) ≡ true →
      named has l whole s ≡ done (literal l (shown 0 (digits_at s))) (past_blanks (past_digits s))
  named_here l whole s p h = unfold named in rw (p, h) refl

  closed_here : (f : Formula) (s : List ℕ) → closed f (41 ∷ s) ≡ done f (past_blanks s)
  closed_here f s = unfold closed in refl

  or_step : (k left : ℕ) (bs : List ℕ) → read has (suc k) disjunction left bs ≡ and_then (read has k conjunction left bs) (further 124 either (read has k disjunction left))
  or_step k left bs = unfold read in refl

  and_step : (k left : ℕ) (bs : List ℕ) → read has (suc k) conjunction left bs ≡ and_then (read has k item left bs) (further 38 both (read has k conjunction left))
  and_step k left bs = unfold read in refl

  item_step : (k left : ℕ) (bs : List ℕ) → read has (suc k) item left bs ≡ item_at has (read has k disjunction (left - 1)) left (past_blanks bs)
  item_step k left bs = unfold read in refl

  split : (k : ℕ) → 1 ≤ k → (j : ℕ) × (k ≡ suc j)
  split zero h = absurd (omega arith)
  split (suc j) h = (j, refl)

  pub complete : (level : Level) {t : List ℕ} {f : Formula} (x : Reads level t f) → AllPresent has f → (r : List ℕ) → Stops level r → NoDigit r →
      (left : ℕ) → Within left x → (k : ℕ) → calls level (length t + length r) ≤ k → read has k level left (t ++ r) ≡ done f r
  complete disjunction {t} {f} (one_and x) a r s n left l k₀ c =
      let (k, e) = split k₀ (some_or (length t + length r) k₀ c) in
      ap (λ (m : ℕ). read has m disjunction left (t ++ r)) e
      ∙ or_step k left (t ++ r)
      ∙ then_done (further 124 either (read has k disjunction left)) (complete conjunction x a r (conj_weaker r s) n left (unfold Within in
      l) k (or_fewer (length t + length r) k (subst (λ (m : ℕ). calls disjunction (length t + length r) ≤ m) e c)))
      ∙ further_stops 124 either (read has k disjunction left) f r (no_bar r s)
  complete disjunction (Reads.or {t} {u} {f} {g} x y) a r s n left l k₀ c =
      let p : AllPresent has f × AllPresent has g = (unfold AllPresent in a) in
      let w : Within left x × Within left y = (unfold Within in l) in
      let (k, e) = split k₀ (some_or (length (t ++ (124 ∷ u)) + length r) k₀ c) in
      ap (λ (m : ℕ). read has m disjunction left ((t ++ (124 ∷ u)) ++ r)) e
      ∙ ap (read has (suc k) disjunction left) (append_assoc t (124 ∷ u) r)
      ∙ or_step k left (t ++ (124 ∷ (u ++ r)))
      ∙ then_done (further 124 either (read has k disjunction left))
      (complete conjunction x p.0 (124 ∷ (u ++ r)) ((λ e. omega arith), (λ e. omega arith)) (unfold is_digit ◌and◌ in
      refl) left w.0 k (or_size t u r k (subst (λ (m : ℕ). calls disjunction (length (t ++ (124 ∷ u)) + length r) ≤ m) e c)))
      ∙ further_on 124 either (read has k disjunction left) f g (u ++ r) r
      (complete disjunction y p.1 r s n left w.1 k (or-rest t u r k (subst (λ (m : ℕ). calls disjunction (length (t ++ (124 ∷ u)) + length r) ≤ m) e c)))
  complete conjunction {t} {f} (one_item x) a r s n left l k₀ c =
      let (k, e) = split k₀ (some-and (length t + length r) k₀ c) in
      ap (λ (m : ℕ). read has m conjunction left (t ++ r)) e
      ∙ and_step k left (t ++ r)
      ∙ then_done (further 38 both (read has k conjunction left)) (complete item x a r (item_weaker r s) n left (unfold Within in
      l) k (and_fewer (length t + length r) k (subst (λ (m : ℕ). calls conjunction (length t + length r) ≤ m) e c)))
      ∙ further_stops 38 both (read has k conjunction left) f r (no_ampersand r s)
  complete conjunction (Reads.and {t} {u} {f} {g} x y) a r s n left l k₀ c =
      let p : AllPresent has f × AllPresent has g = (unfold AllPresent in a) in
      let w : Within left x × Within left y = (unfold Within in l) in
      let (k, e) = split k₀ (some-and (length (t ++ (38 ∷ u)) + length r) k₀ c) in
      ap (λ (m : ℕ). read has m conjunction left ((t ++ (38 ∷ u)) ++ r)) e
      ∙ ap (read has (suc k) conjunction left) (append_assoc t (38 ∷ u) r)
      ∙ and_step k left (t ++ (38 ∷ (u ++ r)))
      ∙ then_done (further 38 both (read has k conjunction left)) (complete item x p.0 (38 ∷ (u ++ r)) (λ e. omega arith) (unfold is_digit ◌and◌ in
      refl) left w.0 k (and_size t u r k (subst (λ (m : ℕ). calls conjunction (length (t ++ (38 ∷ u)) + length r) ≤ m) e c)))
      ∙ further_on 38 both (read has k conjunction left) f g (u ++ r) r
      (complete conjunction y p.1 r s n left w.1 k (and-rest t u r k (subst (λ (m : ℕ). calls conjunction (length (t ++ (38 ∷ u)) + length r) ≤ m) e c)))
  complete item (name q before digits behind i p o) a r s n left l k₀ c =
      let (k, e) = split k₀ (some_item (length (before ++ (letter_byte q ∷ (digits ++ behind))) + length r) k₀ c) in
      let m : NoDigit (behind ++ r) = blank_no_digit behind r o n in
      let d : digits_at (digits ++ (behind ++ r)) ≡ digits = digits-taken (behind ++ r) m digits (place_digits digits p) in
      ap (λ (m : ℕ). read has m item left ((before ++ (letter_byte q ∷ (digits ++ behind))) ++ r)) e
      ∙ ap (read has (suc k) item left) (append_assoc before (letter_byte q ∷ (digits ++ behind)) r ∙ ap (λ (w : List ℕ). before ++ (letter_byte q ∷ w)) (append_assoc digits behind r))
      ∙ item_step k left (before ++ (letter_byte q ∷ (digits ++ (behind ++ r))))
      ∙ ap (item_at has (read has k disjunction (left - 1)) left)
      (blanks_passed before (letter_byte q ∷ (digits ++ (behind ++ r))) i ∙ no_blank (letter_byte q) (digits ++ (behind ++ r)) (letter_no_blank q))
      ∙ item-name (read has k disjunction (left - 1)) left q (digits ++ (behind ++ r))
      ∙ named_here q (letter_byte q ∷ (digits ++ (behind ++ r))) (digits ++ (behind ++ r)) (ap is_place d ∙ p) (ap (λ (w : List ℕ). has q (shown 0 w)) d ∙ (unfold AllPresent in a))
      ∙ ap (λ (w : List ℕ). done (literal q (shown 0 w)) (past_blanks (past_digits (digits ++ (behind ++ r))))) d
      ∙ ap (done (literal q (shown 0 digits))) (ap past_blanks (digits_passed (behind ++ r) m digits (place_digits digits p)) ∙ blanks_passed behind r o ∙ stops_here r s)
  complete item (parentheses {t} {f} before behind i x o) a r s n left l k₀ c =
      let w : (1 ≤ left) × Within (left - 1) x = (unfold Within in l) in
      let (k, e) = split k₀ (some_item (length (before ++ (40 ∷ (t ++ (41 ∷ behind)))) + length r) k₀ c) in
      ap (λ (m : ℕ). read has m item left ((before ++ (40 ∷ (t ++ (41 ∷ behind)))) ++ r)) e
      ∙ ap (read has (suc k) item left) (append_assoc before (40 ∷ (t ++ (41 ∷ behind))) r ∙ ap (λ (w : List ℕ). before ++ (40 ∷ w)) (append_assoc t (41 ∷ behind) r))
      ∙ item_step k left (before ++ (40 ∷ (t ++ (41 ∷ (behind ++ r)))))
      ∙ ap (item_at has (read has k disjunction (left - 1)) left) (blanks_passed before (40 ∷ (t ++ (41 ∷ (behind ++ r)))) i ∙ no_blank 40 (t ++ (41 ∷ (behind ++ r))) (λ e. omega arith))
      ∙ item_open (read has k disjunction (left - 1)) left (t ++ (41 ∷ (behind ++ r))) (λ e. let h : 1 ≤ left = w.0 in omega arith)
      ∙ then_done closed (complete disjunction x a (41 ∷ (behind ++ r)) ((λ e. omega arith), (λ e. omega arith), (λ e. omega arith)) (unfold is_digit ◌and◌ in
      refl) (left - 1) w.1 k (item_size before t behind r k (subst (λ (m : ℕ). calls item (length (before ++ (40 ∷ (t ++ (41 ∷ behind)))) + length r) ≤ m) e c)))
      ∙ closed_here f (behind ++ r)
      ∙ ap (done f) (blanks_passed behind r o ∙ stops_here r s)

  pub whole_complete : (t : List ℕ) (f : Formula) (x : Reads disjunction t f) → AllPresent has f → (left : ℕ) → Within left x → read has (calls disjunction (length t)) disjunction left t ≡ done f []
  whole_complete t f x a left l = ap (read has (calls disjunction (length t)) disjunction left) (sym (append-nil t))
      ∙ complete disjunction x a [] tt tt left l (calls disjunction (length t)) (same (length t))
    where
      same : (m : ℕ) → calls disjunction (m + 0) ≤ calls disjunction m
      same m = rw (add-zero m) (omega arith)

-- every literal is there
abbrev pub always : Letter → ℕ → Bool
always l n = true

pub all-always : (f : Formula) → AllPresent always f
unfolding AllPresent
all-always (literal l n) = refl
all-always (both f g) = (all-always f, all-always g)
all-always (either f g) = (all-always f, all-always g)

-- "Each text has at most one formula."
pub one_formula : (t : List ℕ) (f g : Formula) → Reads disjunction t f → Reads disjunction t g → f ≡ g
one_formula t f g x y = same (sym (whole_complete always t f x (all-always f) (length t) (short_within disjunction x (length t) (omega arith)))
    ∙ whole_complete always t g y (all-always g) (length t) (short_within disjunction y (length t) (omega arith)))
  where
    same : done f [] ≡ done g [] → f ≡ g
    same e = cc
