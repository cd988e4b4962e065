-- Where the scan stops is the first fault of the text.
use Prim.Native.Nat.{ℕ, zero, suc, ◌≤◌, ◌<◌}
use native.Mathlib.Omega.{arith}
use mathlib.Core.Path.{◌≡◌, refl, sym, ap, ◌∙◌, subst}
use mathlib.Core.Logic.{◌⊎◌, ⊎_elim, inl, inr}
use mathlib.Core.Bool.{Bool, true, false, not, cond}
use mathlib.Core.List.{List, [], ◌∷◌, ◌++◌, append_assoc, append-nil}
use lib.ListN.{length}
use lib.Dec.{eqb, ltb}
use borrow.Author.Tests.{ltb-true, ltb-false, lt-ltb}
use Rattle.logic.specs.Search.{◌and◌, all}
use Rattle.theory.proofs.Basics.Search.{true-false, and_left, and_right, not-true, all_append}
use Rattle.text.specs.Text.{is_digit}
use Rattle.formula.specs.Grammar.{Letter, letter_byte, Formula, is_place, shown, disjunction, Reads, Text}
use Rattle.formula.specs.Meaning.{AllPresent}
use Rattle.formula.specs.Places.{digits_at}
use Rattle.formula.specs.Reader.{Mark, mark, blank, opening, closing, ampersand, bar, other, letter, digit, Reading, done, refused, read, calls}
use Rattle.formula.proofs.Marks.{Marked, marked, is_blank_lem, is_opening, is_closing, is_ampersand, is_bar, is_letter}
use Rattle.formula.proofs.Scan.{State, wants, named, counted, after, Result, clean, fault, Move, to, stop, closes, wants_by, after_by, move, end_of, scan, scan_to, scan-stop}
use Rattle.formula.proofs.Reading.{As, reads_as}
use Rattle.formula.proofs.Complete.{always, all-always, short_within, whole_complete}
use Rattle.formula.proofs.Contexts.{Passed, Wanting, Ended, an_and, an_or, a_close, a_blank, wanting_open, name_ended, textual, blank_before}

-- A text of the grammar whose literals are there is scanned without a fault, if enough parentheses may be open

pub read-clean : (has : Letter → ℕ → Bool) (t : List ℕ) (f : Formula) → Reads disjunction t f → AllPresent has f → (most : ℕ) → length t ≤ most → scan has most (wants 0) t ≡ clean
read-clean has t f x a most l = by (read has (calls disjunction (length t)) disjunction most t)
    (whole_complete has t f x a most (short_within disjunction x most l))
    (reads_as has most (calls disjunction (length t)) disjunction 0 most (omega arith) t (omega arith))
  where
    by : (r : Reading) → r ≡ done f [] → As has most disjunction 0 t r → scan has most (wants 0) t ≡ clean
    by (refused k s) e a = absurd (let z : ◌≡◌ {A = ℕ} 0 1 = cc in omega arith)
    by (done g rest) e a = a.goes ∙ ap (scan has most (after 0)) (rests e) ∙ (unfold scan end_of in refl)
      where
        rests : done g rest ≡ done f [] → rest ≡ []
        rests y = cc

pub text_clean : (t : List ℕ) → Text t → (most : ℕ) → length t ≤ most → scan always most (wants 0) t ≡ clean
text_clean t (f, x) most l = read-clean always t f x (all-always f) most l

-- Moves

pub not_to : {k : ℕ} {t : State} → Path Move (stop k) (to t) → ⊥
not_to e = let z : ◌≡◌ {A = ℕ} 0 1 = cc in omega arith

pub not-clean : {k : ℕ} {x : List ℕ} → Path Result (fault k x) clean → ⊥
not-clean e = let z : ◌≡◌ {A = ℕ} 0 1 = cc in omega arith

pub to_same : {s t : State} → Path Move (to s) (to t) → s ≡ t
to_same e = cc

stop_same : {j k : ℕ} → Path Move (stop j) (stop k) → j ≡ k
stop_same e = cc

fault-same : {j k : ℕ} {x y : List ℕ} → Path Result (fault j x) (fault k y) → (j ≡ k) × (x ≡ y)
fault-same e = (cc, cc)

never : (x : Bool) → x and not true ≡ false
never true = unfold ◌and◌ in refl
never false = unfold ◌and◌ in refl

module _ (has : Letter → ℕ → Bool) (most more : ℕ) (l : most ≤ more) where
  closes_same : (d : ℕ) → closes has most d ≡ closes always more d
  closes_same zero = unfold closes in refl
  closes_same (suc d) = unfold closes in refl

  pub after_same : (d : ℕ) (m : Mark) → after_by has most d m ≡ after_by always more d m
  after_same d blank = unfold after_by in refl
  after_same d opening = unfold after_by in refl
  after_same d closing = unfold after_by in closes_same d
  after_same d ampersand = unfold after_by in refl
  after_same d bar = unfold after_by in refl
  after_same d other = unfold after_by in refl
  after_same d (letter x) = unfold after_by in refl
  after_same d digit = unfold after_by in refl

  pub end_same : (s : State) → end_of has most s ≡ end_of always more s
  end_same (wants d) = unfold end_of in refl
  end_same (named d) = unfold end_of in refl
  end_same (counted zero) = unfold end_of in refl
  end_same (counted (suc d)) = unfold end_of in refl
  end_same (after zero) = unfold end_of in refl
  end_same (after (suc d)) = unfold end_of in refl

  wants_grows : (d : ℕ) (t : State) (bs cs : List ℕ) (m : Mark) → wants_by has most d m bs ≡ to t → wants_by always more d m cs ≡ to t
  unfolding wants_by
  wants_grows d t bs cs blank e = e
  wants_grows d t bs cs opening e = by (ltb d most) refl e
    where
      by : (x : Bool) → ltb d most ≡ x → cond x (to (wants (suc d))) (stop 18) ≡ to t → cond (ltb d more) (to (wants (suc d))) (stop 18) ≡ to t
      by true y z = rw (lt-ltb d more (let w : d < most = ltb-true d most y in omega arith)) z
      by false y z = absurd (not_to z)
  wants_grows d t bs cs (letter x) e = by (is_place (digits_at bs) and not (has x (shown 0 (digits_at bs)))) e
    where
      by : (y : Bool) → cond y (stop 17) (to (named d)) ≡ to t → cond (is_place (digits_at cs) and not true) (stop 17) (to (named d)) ≡ to t
      by true z = absurd (not_to z)
      by false z = rw (never (is_place (digits_at cs))) z
  wants_grows d t bs cs closing e = absurd (not_to e)
  wants_grows d t bs cs ampersand e = absurd (not_to e)
  wants_grows d t bs cs bar e = absurd (not_to e)
  wants_grows d t bs cs other e = absurd (not_to e)
  wants_grows d t bs cs digit e = absurd (not_to e)

  -- a move that is made is made where every literal is there and more parentheses may be open
  pub move_grows : (s t : State) (b : ℕ) (bs cs : List ℕ) → move has most s b bs ≡ to t → move always more s b cs ≡ to t
  unfolding move
  move_grows (wants d) t b bs cs e = wants_grows d t bs cs (mark b) e
  move_grows (named d) t b bs cs e = e
  move_grows (counted d) t b bs cs e = counts (is_digit b) e
    where
      counts : (x : Bool) → cond x (to (counted d)) (after_by has most d (mark b)) ≡ to t → cond x (to (counted d)) (after_by always more d (mark b)) ≡ to t
      counts true z = z
      counts false z = sym (after_same d (mark b)) ∙ z
  move_grows (after d) t b bs cs e = sym (after_same d (mark b)) ∙ e

-- Why a move is not made: no text of the grammar goes on so; or the literal is absent; or the parenthesis is one too many
pub data Stopped (has : Letter → ℕ → Bool) (most : ℕ) : ℕ → State → ℕ → List ℕ → Type 0 where
  grammar : {s : State} {b : ℕ} {bs : List ℕ} → ((more : ℕ) (cs : List ℕ) → most ≤ more → move always more s b cs ≡ stop 17) → Stopped has most 17 s b bs
  absent : {d b : ℕ} {bs : List ℕ} (l : Letter) → b ≡ letter_byte l → is_place (digits_at bs) ≡ true → has l (shown 0 (digits_at bs)) ≡ false → Stopped has most 17 (wants d) b bs
  too_deep : {d b : ℕ} {bs : List ℕ} → b ≡ 40 → most ≤ d → Stopped has most 18 (wants d) b bs

module _ (has : Letter → ℕ → Bool) (most : ℕ) where
  after-stops : (d k : ℕ) (m : Mark) → after_by has most d m ≡ stop k → k ≡ 17
  unfolding after_by closes
  after-stops d k blank e = absurd (not_to (sym e))
  after-stops d k opening e = sym (stop_same e)
  after-stops zero k closing e = sym (stop_same e)
  after-stops (suc d) k closing e = absurd (not_to (sym e))
  after-stops d k ampersand e = absurd (not_to (sym e))
  after-stops d k bar e = absurd (not_to (sym e))
  after-stops d k other e = sym (stop_same e)
  after-stops d k (letter l) e = sym (stop_same e)
  after-stops d k digit e = sym (stop_same e)

  by_grammar : (k : ℕ) {s : State} {b : ℕ} {bs : List ℕ} → k ≡ 17 → ((more : ℕ) (cs : List ℕ) → most ≤ more → move always more s b cs ≡ stop 17) → Stopped has most k s b bs
  by_grammar k {s} {b} {bs} e h = subst (λ (j : ℕ). Stopped has most j s b bs) (sym e) (grammar h)

  wants_stops : (d k b : ℕ) (bs : List ℕ) (m : Mark) → mark b ≡ m → Marked b m → wants_by has most d m bs ≡ stop k → Stopped has most k (wants d) b bs
  unfolding wants_by
  wants_stops d k b bs blank q w e = absurd (not_to (sym e))
  wants_stops d k b bs opening q (is_opening x) e = by (ltb d most) refl e
    where
      by : (y : Bool) → ltb d most ≡ y → cond y (to (wants (suc d))) (stop 18) ≡ stop k → Stopped has most k (wants d) b bs
      by true y z = absurd (not_to (sym z))
      by false y z = subst (λ (j : ℕ). Stopped has most j (wants d) b bs) (stop_same z) (too_deep x (ltb-false d most y))
  wants_stops d k b bs (letter l) q (is_letter l' x) e = by (is_place (digits_at bs) and not (has l (shown 0 (digits_at bs)))) refl e
    where
      by : (y : Bool) → is_place (digits_at bs) and not (has l (shown 0 (digits_at bs))) ≡ y → cond y (stop 17) (to (named d)) ≡ stop k → Stopped has most k (wants d) b bs
      by true y z = subst (λ (j : ℕ). Stopped has most j (wants d) b bs) (stop_same z) (absent l x (and_left _ _ y) (not-true (and_right _ _ y)))
      by false y z = absurd (not_to (sym z))
  wants_stops d k b bs closing q w e = by_grammar k (sym (stop_same e)) (λ more cs r. (unfold move wants_by in rw q refl))
  wants_stops d k b bs ampersand q w e = by_grammar k (sym (stop_same e)) (λ more cs r. (unfold move wants_by in rw q refl))
  wants_stops d k b bs bar q w e = by_grammar k (sym (stop_same e)) (λ more cs r. (unfold move wants_by in rw q refl))
  wants_stops d k b bs other q w e = by_grammar k (sym (stop_same e)) (λ more cs r. (unfold move wants_by in rw q refl))
  wants_stops d k b bs digit q w e = by_grammar k (sym (stop_same e)) (λ more cs r. (unfold move wants_by in rw q refl))

  pub stops : (s : State) (k b : ℕ) (bs : List ℕ) → move has most s b bs ≡ stop k → Stopped has most k s b bs
  unfolding move
  stops (wants d) k b bs e = wants_stops d k b bs (mark b) refl (marked b) e
  stops (named d) k b bs e = by (is_digit b and not (eqb b 48)) refl e
    where
      by : (x : Bool) → is_digit b and not (eqb b 48) ≡ x → cond x (to (counted d)) (stop 17) ≡ stop k → Stopped has most k (named d) b bs
      by true y z = absurd (not_to (sym z))
      by false y z = by_grammar k (sym (stop_same z)) (λ more cs r. (unfold move in rw y refl))
  stops (counted d) k b bs e = by (is_digit b) refl e
    where
      by : (x : Bool) → is_digit b ≡ x → cond x (to (counted d)) (after_by has most d (mark b)) ≡ stop k → Stopped has most k (counted d) b bs
      by true y z = absurd (not_to (sym z))
      by false y z = by_grammar k (after-stops d k (mark b) z) (λ more cs r. (unfold move in rw y (sym (after_same has most more r d (mark b)) ∙ z ∙ ap stop (after-stops d k (mark b) z))))
  stops (after d) k b bs e = by_grammar k (after-stops d k (mark b) e) (λ more cs r. (unfold move in (sym (after_same has most more r d (mark b)) ∙ e ∙ ap stop (after-stops d k (mark b) e))))

-- A way through bytes, with what stands behind them

pub data Run (has : Letter → ℕ → Bool) (most : ℕ) (rest : List ℕ) : State → List ℕ → State → Type 0 where
  stay : {s : State} → Run has most rest s [] s
  step : {s t u : State} {b : ℕ} {bs : List ℕ} → move has most s b (bs ++ rest) ≡ to u → Run has most rest u bs t → Run has most rest s (b ∷ bs) t

abbrev Halts : (has : Letter → ℕ → Bool) (most k : ℕ) → State → List ℕ → Type 0
Halts has most k s [] = (k ≡ 17) × (end_of has most s ≡ fault 17 [])
Halts has most k s (b ∷ bs) = move has most s b bs ≡ stop k

-- the scan goes as far as its fault, or to the end
pub record Went (has : Letter → ℕ → Bool) (most : ℕ) (s : State) (bs : List ℕ) (k : ℕ) (x : List ℕ) : Type 0 where
  pub passed : List ℕ
  pub splits : bs ≡ passed ++ x
  pub last : State
  pub way : Run has most x s passed last
  pub halts : Halts has most k last x

module _ (has : Letter → ℕ → Bool) (most : ℕ) where
  end_fault : (s : State) (k : ℕ) (x : List ℕ) → end_of has most s ≡ fault k x → (k ≡ 17) × (x ≡ []) × (end_of has most s ≡ fault 17 [])
  end_fault s k x e = by (end_of has most s) e (only s)
    where
      only : (t : State) → (end_of has most t ≡ clean) ⊎ (end_of has most t ≡ fault 17 [])
      only (wants d) = inr (unfold end_of in refl)
      only (named d) = inr (unfold end_of in refl)
      only (counted zero) = inl (unfold end_of in refl)
      only (counted (suc d)) = inr (unfold end_of in refl)
      only (after zero) = inl (unfold end_of in refl)
      only (after (suc d)) = inr (unfold end_of in refl)

      by : (r : Result) → r ≡ fault k x → (r ≡ clean) ⊎ (r ≡ fault 17 []) → (k ≡ 17) × (x ≡ []) × (r ≡ fault 17 [])
      by r e o = ⊎_elim (λ (c : r ≡ clean). absurd (not-clean (sym e ∙ c))) (λ c. let d = fault-same (sym e ∙ c) in (d.0, d.1, c)) o

  pub went : (s : State) (bs : List ℕ) (k : ℕ) (x : List ℕ) → scan has most s bs ≡ fault k x → Went has most s bs k x
  went s [] k x e = let d = end_fault s k x (unfold scan in e) in
      subst (λ (y : List ℕ). Went has most s [] k y) (sym d.1) (record { passed = []; splits = refl; last = s; way = stay; halts = (d.0, d.2) })
  went s (b ∷ bs) k x e = by (move has most s b bs) refl (λ t h. went t bs k x h)
    where
      by : (m : Move) → move has most s b bs ≡ m → ((t : State) → scan has most t bs ≡ fault k x → Went has most t bs k x) → Went has most s (b ∷ bs) k x
      by (to t) q ih =
          let w = ih t (sym (scan_to has most s t b bs q) ∙ e) in
          record { passed = b ∷ w.passed; splits = ap (λ (y : List ℕ). b ∷ y) w.splits; last = w.last; way = step (ap (move has most s b) (sym w.splits) ∙ q) w.way; halts = w.halts }
      by (stop j) q ih =
          let d = fault-same (sym (scan-stop has most s j b bs q) ∙ e) in
          subst (λ (y : List ℕ). Went has most s (b ∷ bs) k y) d.1 (record { passed = []; splits = refl; last = s; way = stay; halts = q ∙ ap stop d.0 })

  pub went_whole : (s : State) (bs : List ℕ) → scan has most s bs ≡ clean → (t : State) × Run has most [] s bs t × (end_of has most t ≡ clean)
  went_whole s [] e = (s, stay, unfold scan in e)
  went_whole s (b ∷ bs) e = by (move has most s b bs) refl (λ t h. went_whole t bs h)
    where
      by : (m : Move) → move has most s b bs ≡ m →
          ((u : State) → scan has most u bs ≡ clean → (t : State) × Run has most [] u bs t × (end_of has most t ≡ clean)) → (t : State)
          × Run has most [] s (b ∷ bs) t × (end_of has most t ≡ clean)
      by (to u) q ih = let (t, w, c) = ih u (sym (scan_to has most s u b bs q) ∙ e) in (t, step (ap (move has most s b) (append-nil bs) ∙ q) w, c)
      by (stop j) q ih = absurd (not-clean (sym (scan-stop has most s j b bs q) ∙ e))

  -- the same way where every literal is there
  pub run_scans : (more : ℕ) → most ≤ more → {rest : List ℕ} {s t : State} {pre : List ℕ} → Run has most rest s pre t → (ys : List ℕ) → scan always more s (pre ++ ys) ≡ scan always more t ys
  run_scans more l stay ys = refl
  run_scans more l {rest} (step {s} {t} {u} {b} {bs} q w) ys = scan_to always more s u b (bs ++ ys) (move_grows has most more l s u b (bs ++ rest) (bs ++ ys) q) ∙ run_scans more l w ys

  pub run_split : {rest : List ℕ} {s t : State} (x : List ℕ) (b : ℕ) (z : List ℕ) → Run has most rest s (x ++ (b ∷ z)) t → (u : State) × (v : State)
      × Run has most ((b ∷ z) ++ rest) s x u × (move has most u b (z ++ rest) ≡ to v) × Run has most rest v z t
  run_split {s = s} [] b z (step {u = v} q w) = (s, v, stay, q, w)
  run_split {rest} (y ∷ x) b z (step q w) = let (u, v, r, m, e) = run_split x b z w in (u, v, step (ap (move has most _ y) (sym (append_assoc x (b ∷ z) rest)) ∙ q) r, m, e)

-- What is passed begins a text of the grammar

place_more : (ds : List ℕ) (b : ℕ) → is_place ds ≡ true → is_digit b ≡ true → is_place (ds ++ (b ∷ [])) ≡ true
place_more [] b p h = absurd (true-false p (unfold is_place in refl))
place_more (d ∷ ds) b p h = both (unfold is_place in and_left _ _ p) (all_append is_digit ds (b ∷ []) (unfold is_place in and_right _ _ p) (unfold all ◌and◌ in rw h refl))
  where
    both : is_digit d and not (eqb d 48) ≡ true → all is_digit (ds ++ (b ∷ [])) ≡ true → is_place ((d ∷ ds) ++ (b ∷ [])) ≡ true
    both x y = unfold is_place ◌and◌ in rw (x, y) refl

place_one : (b : ℕ) → is_digit b and not (eqb b 48) ≡ true → is_place (b ∷ []) ≡ true
place_one b h = unfold is_place all ◌and◌ in rw h refl

module _ (has : Letter → ℕ → Bool) (most : ℕ) where
  ended_on : (d : ℕ) (w : List ℕ) (t : State) (b : ℕ) (m : Mark) → Marked b m → Ended d w → after_by has most d m ≡ to t → Passed t (w ++ (b ∷ []))
  unfolding after_by closes
  ended_on d w t b blank (is_blank_lem x) h e = subst (λ (s : State). Passed s (w ++ (b ∷ []))) (to_same e)
      (λ r z. textual (sym (append_assoc w (b ∷ []) r)) (subst (λ (c : ℕ). Text (w ++ (c ∷ r))) (sym x) (h (32 ∷ r) (a_blank z))))
  ended_on d w t b ampersand (is_ampersand x) h e = subst (λ (s : State). Passed s (w ++ (b ∷ []))) (to_same e)
      (λ u r f y z. textual (sym (append_assoc w (b ∷ []) (u ++ r))) (subst (λ (c : ℕ). Text (w ++ (c ∷ (u ++ r)))) (sym x) (h (38 ∷ (u ++ r)) (an_and y z))))
  ended_on d w t b bar (is_bar x) h e = subst (λ (s : State). Passed s (w ++ (b ∷ []))) (to_same e)
      (λ u r f y z. textual (sym (append_assoc w (b ∷ []) (u ++ r))) (subst (λ (c : ℕ). Text (w ++ (c ∷ (u ++ r)))) (sym x) (h (124 ∷ (u ++ r)) (an_or y z))))
  ended_on zero w t b closing (is_closing x) h e = absurd (not_to e)
  ended_on (suc d) w t b closing (is_closing x) h e = subst (λ (s : State). Passed s (w ++ (b ∷ []))) (to_same e)
      (λ r z. textual (sym (append_assoc w (b ∷ []) r)) (subst (λ (c : ℕ). Text (w ++ (c ∷ r))) (sym x) (h (41 ∷ r) (a_close z))))
  ended_on d w t b opening q h e = absurd (not_to e)
  ended_on d w t b (letter l) q h e = absurd (not_to e)
  ended_on d w t b digit q h e = absurd (not_to e)
  ended_on d w t b other q h e = absurd (not_to e)

  wanting_on : (d : ℕ) (w : List ℕ) (t : State) (b : ℕ) (bs : List ℕ) (m : Mark) → Marked b m → Wanting d w → wants_by has most d m bs ≡ to t → Passed t (w ++ (b ∷ []))
  unfolding wants_by
  wanting_on d w t b bs blank (is_blank_lem x) h e = subst (λ (s : State). Passed s (w ++ (b ∷ []))) (to_same e)
      (λ u r f y z. textual (sym (append_assoc w (b ∷ []) (u ++ r)))
      (subst (λ (c : ℕ). Text (w ++ (c ∷ (u ++ r)))) (sym x) (h (32 ∷ u) r f (blank_before disjunction y) z)))
  wanting_on d w t b bs opening (is_opening x) h e = by (ltb d most) e
    where
      by : (y : Bool) → cond y (to (wants (suc d))) (stop 18) ≡ to t → Passed t (w ++ (b ∷ []))
      by true z = subst (λ (s : State). Passed s (w ++ (b ∷ []))) (to_same z) (subst (λ (c : ℕ). Wanting (suc d) (w ++ (c ∷ []))) (sym x) (wanting_open d w h))
      by false z = absurd (not_to z)
  wanting_on d w t b bs (letter l) (is_letter l' x) h e = by (is_place (digits_at bs) and not (has l (shown 0 (digits_at bs)))) e
    where
      by : (y : Bool) → cond y (stop 17) (to (named d)) ≡ to t → Passed t (w ++ (b ∷ []))
      by true z = absurd (not_to z)
      by false z = subst (λ (s : State). Passed s (w ++ (b ∷ []))) (to_same z) (w, l, ap (λ (c : ℕ). w ++ (c ∷ [])) x, h)
  wanting_on d w t b bs closing q h e = absurd (not_to e)
  wanting_on d w t b bs ampersand q h e = absurd (not_to e)
  wanting_on d w t b bs bar q h e = absurd (not_to e)
  wanting_on d w t b bs digit q h e = absurd (not_to e)
  wanting_on d w t b bs other q h e = absurd (not_to e)

  pub move_passed : (s t : State) (w : List ℕ) (b : ℕ) (bs : List ℕ) → Passed s w → move has most s b bs ≡ to t → Passed t (w ++ (b ∷ []))
  unfolding move
  move_passed (wants d) t w b bs h e = wanting_on d w t b bs (mark b) (marked b) h e
  move_passed (named d) t w b bs (s, l, q, h) e = by (is_digit b and not (eqb b 48)) refl e
    where
      by : (x : Bool) → is_digit b and not (eqb b 48) ≡ x → cond x (to (counted d)) (stop 17) ≡ to t → Passed t (w ++ (b ∷ []))
      by true y z = subst (λ (u : State). Passed u (w ++ (b ∷ []))) (to_same z) (s, l, b ∷ [], ap (λ (v : List ℕ). v ++ (b ∷ [])) q ∙ append_assoc s (letter_byte l ∷ []) (b ∷ []), place_one b y, h)
      by false y z = absurd (not_to z)
  move_passed (counted d) t w b bs (s, l, ds, q, p, h) e = by (is_digit b) refl e
    where
      by : (x : Bool) → is_digit b ≡ x → cond x (to (counted d)) (after_by has most d (mark b)) ≡ to t → Passed t (w ++ (b ∷ []))
      by true y z = subst (λ (u : State). Passed u (w ++ (b ∷ []))) (to_same z)
          (s, l, ds ++ (b ∷ []), ap (λ (v : List ℕ). v ++ (b ∷ [])) q ∙ append_assoc s (letter_byte l ∷ ds) (b ∷ []), place_more ds b p y, h)
      by false y z = subst (λ (v : List ℕ). Passed t (v ++ (b ∷ []))) (sym q) (ended_on d (s ++ (letter_byte l ∷ ds)) t b (mark b) (marked b) (name_ended d s l ds p h) z)
  move_passed (after d) t w b bs h e = ended_on d w t b (mark b) (marked b) h e

  pub run_passed : {rest : List ℕ} {s t : State} {pre : List ℕ} (w : List ℕ) → Run has most rest s pre t → Passed s w → Passed t (w ++ pre)
  run_passed {t = t} w stay h = subst (Passed t) (sym (append-nil w)) h
  run_passed {rest} {t = t} w (step {s} {t = t'} {u} {b} {bs} q r) h = subst (Passed t) (append_assoc w (b ∷ []) bs) (run_passed (w ++ (b ∷ [])) r (move_passed s u w b (bs ++ rest) h q))
