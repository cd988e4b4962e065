-- The refusal of a text is its first fault, and a text that is read has none.
use Prim.Native.Nat.{ℕ, zero, suc, ◌+◌, ◌-◌, ◌≤◌, ◌<◌}
use native.Mathlib.Omega.{arith}
use mathlib.Core.Path.{◌≡◌, refl, sym, ap, ap₂, ◌∙◌, subst}
use mathlib.Core.Logic.{⊎_elim, inl, inr}
use mathlib.Core.Bool.{Bool, true, false, not, cond}
use mathlib.Core.List.{List, [], ◌∷◌, ◌++◌, append_assoc, append-nil}
use lib.ListN.{length, get_or, take, drop, length-append, get_or-append}
use lib.Seq.{take-append_seam, drop-append_seam, get_or-append_seam, take-append-le, drop-append-le, take-suc, split_at}
use lib.Dec.{eqb, ltb}
use borrow.Author.Tests.{eq-eqb, ne_eqb, ltb-true, ltb-false, lt-ltb}
use Rattle.logic.specs.Search.{◌and◌}
use Rattle.theory.proofs.Basics.Search.{bool_cases, true-false, and_left}
use Rattle.text.specs.Text.{is_digit}
use Rattle.formula.specs.Grammar.{Letter, E, R, D, B, letter_byte, is_place, shown, Text, Begins}
use Rattle.formula.specs.Places.{Outside, byte, ended, digits_at, Absent, occurrences, TooDeep, NoneBefore, FirstFault, wrong, deep}
use Rattle.formula.specs.Reader.{Mark, mark, blank, opening, closing, ampersand, bar, other, letter, digit}
use Rattle.formula.proofs.Marks.{Marked, marked, is_blank_lem, is_opening, is_closing, is_ampersand, is_bar, is_letter, is_digit_lem, mark-opening, mark_letter}
use Rattle.formula.proofs.Scan.{State, wants, named, counted, after, fault, to, stop, closes, wants_by, after_by, move, end_of, scan, scan-stop}
use Rattle.formula.proofs.Complete.{always}
use Rattle.formula.proofs.Contexts.{passed_begins, wanting_start}
use Rattle.formula.proofs.Faults.{text_clean, not_to, not-clean, to_same, end_same, Stopped, grammar, absent, too_deep}
use Rattle.formula.proofs.Faults.{stops, Run, stay, step, Went, run_scans, run_split, move_passed, run_passed}

-- How many parentheses are open

abbrev depth : State → ℕ
depth (wants d) = d
depth (named d) = d
depth (counted d) = d
depth (after d) = d

abbrev neutral : Mark → Bool
neutral blank = true
neutral opening = false
neutral closing = false
neutral ampersand = true
neutral bar = true
neutral other = false
neutral (letter l) = true
neutral digit = true

-- a byte that is no parenthesis
no_parenthesis : (b : ℕ) (m : Mark) → Marked b m → neutral m ≡ true → (eqb 40 b ≡ false) × (eqb 41 b ≡ false)
no_parenthesis b blank (is_blank_lem e) n = rw e (refl, refl)
no_parenthesis b opening w n = absurd (true-false n refl)
no_parenthesis b closing w n = absurd (true-false n refl)
no_parenthesis b ampersand (is_ampersand e) n = rw e (refl, refl)
no_parenthesis b bar (is_bar e) n = rw e (refl, refl)
no_parenthesis b (letter l) (is_letter l' e) n = rw e (letters l)
  where
    letters : (x : Letter) → (eqb 40 (letter_byte x) ≡ false) × (eqb 41 (letter_byte x) ≡ false)
    letters E = unfold letter_byte in (refl, refl)
    letters R = unfold letter_byte in (refl, refl)
    letters D = unfold letter_byte in (refl, refl)
    letters B = unfold letter_byte in (refl, refl)
no_parenthesis b digit (is_digit_lem e) n = (
  ne_eqb 40 b (λ x. true-false e (ap is_digit (sym x) ∙ (unfold is_digit ◌and◌ in
      refl))),
  ne_eqb 41 b (λ x. true-false e (ap is_digit (sym x) ∙ (unfold is_digit ◌and◌ in
      refl))),
)
no_parenthesis b other w n = absurd (true-false n refl)

count_neutral : (a b : ℕ) (bs : List ℕ) → eqb a b ≡ false → occurrences a (b ∷ bs) ≡ occurrences a bs
count_neutral a b bs e = unfold occurrences in rw e refl

count_here : (a : ℕ) (b : ℕ) (bs : List ℕ) → eqb a b ≡ true → occurrences a (b ∷ bs) ≡ suc (occurrences a bs)
count_here a b bs e = unfold occurrences in rw e refl

-- one byte more: what opens, and what closes
data Turn (b : ℕ) (s u : State) : Type 0 where
  level : eqb 40 b ≡ false → eqb 41 b ≡ false → depth s ≡ depth u → Turn b s u
  opens : b ≡ 40 → depth u ≡ suc (depth s) → Turn b s u
  closes_one : b ≡ 41 → depth s ≡ suc (depth u) → Turn b s u

module _ (has : Letter → ℕ → Bool) (most : ℕ) where
  level-turn : (b : ℕ) (s u v : State) (m : Mark) → Marked b m → neutral m ≡ true → to v ≡ to u → depth s ≡ depth v → Turn b s u
  level-turn b s u v m w n e d = let p = no_parenthesis b m w n in level p.0 p.1 (d ∙ ap depth (to_same e))

  after_turn : (b d : ℕ) (s u : State) (m : Mark) → Marked b m → depth s ≡ d → after_by has most d m ≡ to u → Turn b s u
  unfolding after_by closes
  after_turn b d s u blank w q e = level-turn b s u (after d) blank w refl e q
  after_turn b d s u ampersand w q e = level-turn b s u (wants d) ampersand w refl e q
  after_turn b d s u bar w q e = level-turn b s u (wants d) bar w refl e q
  after_turn b zero s u closing w q e = absurd (not_to e)
  after_turn b (suc d) s u closing (is_closing x) q e = closes_one x (q ∙ ap suc (ap depth (to_same e)))
  after_turn b d s u opening w q e = absurd (not_to e)
  after_turn b d s u other w q e = absurd (not_to e)
  after_turn b d s u (letter l) w q e = absurd (not_to e)
  after_turn b d s u digit w q e = absurd (not_to e)

  wants-turn : (b d : ℕ) (bs : List ℕ) (u : State) (m : Mark) → Marked b m → wants_by has most d m bs ≡ to u → Turn b (wants d) u
  unfolding wants_by
  wants-turn b d bs u blank w e = level-turn b (wants d) u (wants d) blank w refl e refl
  wants-turn b d bs u opening (is_opening x) e = by (ltb d most) e
    where
      by : (y : Bool) → cond y (to (wants (suc d))) (stop 18) ≡ to u → Turn b (wants d) u
      by true z = opens x (sym (ap depth (to_same z)))
      by false z = absurd (not_to z)
  wants-turn b d bs u (letter l) w e = by (is_place (digits_at bs) and not (has l (shown 0 (digits_at bs)))) e
    where
      by : (y : Bool) → cond y (stop 17) (to (named d)) ≡ to u → Turn b (wants d) u
      by true z = absurd (not_to z)
      by false z = level-turn b (wants d) u (named d) (letter l) w refl z refl
  wants-turn b d bs u closing w e = absurd (not_to e)
  wants-turn b d bs u ampersand w e = absurd (not_to e)
  wants-turn b d bs u bar w e = absurd (not_to e)
  wants-turn b d bs u other w e = absurd (not_to e)
  wants-turn b d bs u digit w e = absurd (not_to e)

  turn : (s u : State) (b : ℕ) (bs : List ℕ) → move has most s b bs ≡ to u → Turn b s u
  unfolding move
  turn (wants d) u b bs e = wants-turn b d bs u (mark b) (marked b) e
  turn (named d) u b bs e = by (is_digit b and not (eqb b 48)) refl e
    where
      by : (x : Bool) → is_digit b and not (eqb b 48) ≡ x → cond x (to (counted d)) (stop 17) ≡ to u → Turn b (named d) u
      by true y z = level-turn b (named d) u (counted d) digit (is_digit_lem (and_left _ _ y)) refl z refl
      by false y z = absurd (not_to z)
  turn (counted d) u b bs e = by (is_digit b) refl e
    where
      by : (x : Bool) → is_digit b ≡ x → cond x (to (counted d)) (after_by has most d (mark b)) ≡ to u → Turn b (counted d) u
      by true y z = level-turn b (counted d) u (counted d) digit (is_digit_lem y) refl z refl
      by false y z = after_turn b d (counted d) u (mark b) (marked b) refl z
  turn (after d) u b bs e = after_turn b d (after d) u (mark b) (marked b) refl e

  pub run_depth : {rest : List ℕ} {s t : State} {pre : List ℕ} → Run has most rest s pre t → occurrences 40 pre + depth s ≡ occurrences 41 pre + depth t
  run_depth stay = unfold occurrences in refl
  run_depth {rest} {t = t} (step {s} {t = t'} {u} {b} {bs} q r) = by (turn s u b (bs ++ rest) q) (run_depth r)
    where
      by : Turn b s u → occurrences 40 bs + depth u ≡ occurrences 41 bs + depth t' → occurrences 40 (b ∷ bs) + depth s ≡ occurrences 41 (b ∷ bs) + depth t'
      by (level o c d) ih = let x : occurrences 40 (b ∷ bs) ≡ occurrences 40 bs = count_neutral 40 b bs o in
          let y : occurrences 41 (b ∷ bs) ≡ occurrences 41 bs = count_neutral 41 b bs c in
          omega arith
      by (opens o d) ih =
          let x : occurrences 40 (b ∷ bs) ≡ suc (occurrences 40 bs) = count_here 40 b bs (eq-eqb 40 b (sym o)) in
          let y : occurrences 41 (b ∷ bs) ≡ occurrences 41 bs = count_neutral 41 b bs (ne_eqb 41 b (λ z. omega arith)) in
          omega arith
      by (closes_one o d) ih =
          let x : occurrences 40 (b ∷ bs) ≡ occurrences 40 bs = count_neutral 40 b bs (ne_eqb 40 b (λ z. omega arith)) in
          let y : occurrences 41 (b ∷ bs) ≡ suc (occurrences 41 bs) = count_here 41 b bs (eq-eqb 41 b (sym o)) in
          omega arith

  -- A move at a parenthesis that opens, and at a letter

  open_digit : is_digit 40 ≡ false
  open_digit = unfold is_digit ◌and◌ in refl

  scan_end : (s : State) → end_of has most s ≡ scan has most s []
  scan_end s = unfold scan in refl

  after-opening : (d : ℕ) (u : State) → after_by has most d opening ≡ to u → ⊥
  unfolding after_by
  after-opening d u e = not_to e

  after_letter : (d : ℕ) (l : Letter) (u : State) → after_by has most d (letter l) ≡ to u → ⊥
  unfolding after_by
  after_letter d l u e = not_to e

  pub open_move : (s u : State) (b : ℕ) (bs : List ℕ) → b ≡ 40 → move has most s b bs ≡ to u → (d : ℕ) × (s ≡ wants d) × (d < most)
  unfolding move
  open_move (wants d) u b bs o e = (d, refl, by (ltb d most) refl (ap (λ (m : Mark). wants_by has most d m bs) (sym (mark-opening o)) ∙ e))
    where
      by : (x : Bool) → ltb d most ≡ x → wants_by has most d opening bs ≡ to u → d < most
      by true y z = ltb-true d most y
      by false y z = absurd (not_to (deep_stop ∙ z))
        where
          deep_stop : stop 18 ≡ wants_by has most d opening bs
          deep_stop = unfold wants_by in rw y refl
  open_move (named d) u b bs o e = absurd (not_to (wrong_digit ∙ e))
    where
      wrong_digit : stop 17 ≡ cond (is_digit b and not (eqb b 48)) (to (counted d)) (stop 17)
      wrong_digit = rw o (unfold is_digit ◌and◌ in refl)
  open_move (counted d) u b bs o e = absurd (after-opening d u (sym after_this ∙ e))
    where
      after_this : cond (is_digit b) (to (counted d)) (after_by has most d (mark b)) ≡ after_by has most d opening
      after_this = ap (λ (m : Mark). cond (is_digit b) (to (counted d)) (after_by has most d m)) (mark-opening o)
          ∙ ap (λ (x : Bool). cond x (to (counted d)) (after_by has most d opening)) (ap is_digit o ∙ open_digit)
  open_move (after d) u b bs o e = absurd (after-opening d u (sym (ap (λ (m : Mark). after_by has most d m) (mark-opening o)) ∙ e))

  letter_digit : (l : Letter) → is_digit (letter_byte l) ≡ false
  letter_digit E = unfold letter_byte is_digit ◌and◌ in refl
  letter_digit R = unfold letter_byte is_digit ◌and◌ in refl
  letter_digit D = unfold letter_byte is_digit ◌and◌ in refl
  letter_digit B = unfold letter_byte is_digit ◌and◌ in refl

  pub absent_move : (s u : State) (b : ℕ) (bs : List ℕ) (l : Letter) → b ≡ letter_byte l → is_place (digits_at bs) ≡ true → has l (shown 0 (digits_at bs)) ≡ false → move has most s b bs ≡ to u → ⊥
  unfolding move
  absent_move (wants d) u b bs l o p h e = not_to (stopped ∙ ap (λ (m : Mark). wants_by has most d m bs) (sym (ap mark o ∙ mark_letter l)) ∙ e)
    where
      stopped : stop 17 ≡ wants_by has most d (letter l) bs
      stopped = unfold wants_by ◌and◌ in rw (p, h) refl
  absent_move (named d) u b bs l o p h e = not_to (wrong_digit ∙ e)
    where
      wrong_digit : stop 17 ≡ cond (is_digit b and not (eqb b 48)) (to (counted d)) (stop 17)
      wrong_digit = rw (ap is_digit o ∙ letter_digit l) (unfold ◌and◌ in refl)
  absent_move (counted d) u b bs l o p h e = after_letter d l u (sym after_this ∙ e)
    where
      after_this : cond (is_digit b) (to (counted d)) (after_by has most d (mark b)) ≡ after_by has most d (letter l)
      after_this = ap (λ (m : Mark). cond (is_digit b) (to (counted d)) (after_by has most d m)) (ap mark o ∙ mark_letter l)
          ∙ ap (λ (x : Bool). cond x (to (counted d)) (after_by has most d (letter l))) (ap is_digit o ∙ letter_digit l)
  absent_move (after d) u b bs l o p h e = after_letter d l u (sym (ap (λ (m : Mark). after_by has most d m) (ap mark o ∙ mark_letter l)) ∙ e)

-- Places

module _ (has : Letter → ℕ → Bool) (most : ℕ) (text pre rest : List ℕ) (e : text ≡ pre ++ rest) (t : State) (w : Run has most rest (wants 0) pre t) where
  module _ (j : ℕ) (h : j < length pre) where
    front : take j text ≡ take j pre
    front = ap (take j) e ∙ take-append-le j pre rest (omega arith)

    at : get_or text j 0 ≡ get_or pre j 0
    at = ap (λ (x : List ℕ). get_or x j 0) e ∙ get_or-append pre rest 0 j h

    behind : drop (suc j) text ≡ drop (suc j) pre ++ rest
    behind = ap (drop (suc j)) e ∙ drop-append-le (suc j) pre rest (omega arith)

    front_next : take (suc j) text ≡ take j pre ++ (get_or pre j 0 ∷ [])
    front_next = ap (take (suc j)) e ∙ take-append-le (suc j) pre rest (omega arith) ∙ take-suc pre j 0 h

    parted : (u : State) × (v : State) × Run has most ((get_or pre j 0 ∷ drop (suc j) pre) ++ rest) (wants 0) (take j pre) u
        × (move has most u (get_or pre j 0) (drop (suc j) pre ++ rest) ≡ to v) × Run has most rest v (drop (suc j) pre) t
    parted = run_split has most (take j pre) (get_or pre j 0) (drop (suc j) pre) (subst (λ (x : List ℕ). Run has most rest (wants 0) x t) (split_at pre j 0 h) w)

    pub not_outside : Outside text j → ⊥
    not_outside (byte i b n) =
        let (u, v, r, m, q) = parted in
        n (subst Begins (sym front_next)
        (passed_begins v (take j pre ++ (get_or pre j 0 ∷ []))
        (move_passed has most u v (take j pre) (get_or pre j 0) (drop (suc j) pre ++ rest) (run_passed has most [] r wanting_start) m)))
    not_outside (ended i b n) = let l : length text ≡ length pre + length rest = ap length e ∙ length-append pre rest in omega arith

    pub not_absent : Absent has text j → ⊥
    not_absent a = let (u, v, r, m, q) = parted in
        absent_move has most u v (get_or pre j 0) (drop (suc j) pre ++ rest) a.letter (sym at ∙ a.letter_is)
        (subst (λ (x : List ℕ). is_place (digits_at x) ≡ true) behind a.named)
        (subst (λ (x : List ℕ). has a.letter (shown 0 (digits_at x)) ≡ false) behind a.absent) m

    pub not_deep : TooDeep most text j → ⊥
    not_deep a =
        let (u, v, r, m, q) = parted in
        let (d, x, l) = open_move has most u v (get_or pre j 0) (drop (suc j) pre ++ rest) (sym at ∙ a.opening) m in
        let y : occurrences 40 (take j pre) + 0 ≡ occurrences 41 (take j pre) + depth u = run_depth has most r in
        let z : depth u ≡ d = ap depth x in
        let k : occurrences 41 (take j pre) + most ≤ occurrences 40 (take j pre) = subst (λ (b : List ℕ). occurrences 41 b + most ≤ occurrences 40 b) front a.still_open in
        omega arith

module _ (has : Letter → ℕ → Bool) (text pre rest : List ℕ) (e : text ≡ pre ++ rest) (t : State) (w : Run has 32 rest (wants 0) pre t) where
  pub none_before : (p : ℕ) → p ≤ length pre → NoneBefore has text p
  none_before p l j h = let i : j < length pre = omega arith in
      ((λ f. ⊎_elim (not_outside has 32 text pre rest e t w j i) (not_absent has 32 text pre rest e t w j i) f), not_deep has 32 text pre rest e t w j i)

  pub prefix_begins : Begins pre
  prefix_begins = passed_begins t pre (run_passed has 32 [] w wanting_start)

  -- nothing of the grammar goes on with a byte at which no text of the grammar moves
  pub dead_end : (b : ℕ) → ((more : ℕ) (cs : List ℕ) → 32 ≤ more → move always more t b cs ≡ stop 17) → Begins (pre ++ (b ∷ [])) → ⊥
  dead_end b g (u, x) =
      let more : ℕ = 32 + length ((pre ++ (b ∷ [])) ++ u) in
      let l : 32 ≤ 32 + length ((pre ++ (b ∷ [])) ++ u) = omega arith in
      not-clean (sym (scan-stop always (32 + length ((pre ++ (b ∷ [])) ++ u)) t 17 b u (g (32 + length ((pre ++ (b ∷ [])) ++ u)) u l))
      ∙ sym (run_scans has 32 (32 + length ((pre ++ (b ∷ [])) ++ u)) l w (b ∷ u))
      ∙ ap (scan always (32 + length ((pre ++ (b ∷ [])) ++ u)) (wants 0)) (sym (append_assoc pre (b ∷ []) u))
      ∙ text_clean ((pre ++ (b ∷ [])) ++ u) x (32 + length ((pre ++ (b ∷ [])) ++ u)) (omega arith))

  -- nor ends where an end is wrong
  pub dead_stop : end_of has 32 t ≡ fault 17 [] → Text pre → ⊥
  dead_stop g x =
      let l : 32 ≤ 32 + length pre = omega arith in
      not-clean (sym g ∙ end_same has 32 (32 + length pre) l t ∙ scan_end always (32 + length pre) t ∙ sym (run_scans has 32 (32 + length pre) l w [])
      ∙ ap (scan always (32 + length pre) (wants 0)) (append-nil pre) ∙ text_clean pre x (32 + length pre) (omega arith))

-- The place where the scan stops

module _ (has : Letter → ℕ → Bool) (text pre : List ℕ) (b : ℕ) (y : List ℕ) (e : text ≡ pre ++ (b ∷ y)) where
  size : length text ≡ length pre + suc (length y)
  size = ap length e ∙ length-append pre (b ∷ y)

  here : get_or text (length pre) 0 ≡ b
  here = ap (λ (x : List ℕ). get_or x (length pre) 0) e ∙ get_or-append_seam pre b y 0

  before_here : take (length pre) text ≡ pre
  before_here = ap (take (length pre)) e ∙ take-append_seam pre (b ∷ y)

  regrouped : text ≡ (pre ++ (b ∷ [])) ++ y
  regrouped = e ∙ sym (append_assoc pre (b ∷ []) y)

  one_longer : length (pre ++ (b ∷ [])) ≡ suc (length pre)
  one_longer = length-append pre (b ∷ []) ∙ plus
    where
      plus : length pre + 1 ≡ suc (length pre)
      plus = omega arith

  with_here : take (suc (length pre)) text ≡ pre ++ (b ∷ [])
  with_here = ap₂ (λ (n : ℕ) (x : List ℕ). take n x) (sym one_longer) regrouped ∙ take-append_seam (pre ++ (b ∷ [])) y

  past_here : drop (suc (length pre)) text ≡ y
  past_here = ap₂ (λ (n : ℕ) (x : List ℕ). drop n x) (sym one_longer) regrouped ∙ drop-append_seam (pre ++ (b ∷ [])) y

  inside_here : length pre < length text
  inside_here = omega (arith, size)

  stopped_first : (k : ℕ) (t : State) → Run has 32 (b ∷ y) (wants 0) pre t → Stopped has 32 k t b y → FirstFault has text k (length pre)
  stopped_first k t w (grammar g) =
      wrong {p = length pre} (inl (byte (inside_here) (subst Begins (sym before_here) (prefix_begins has text pre (b ∷ y) e t w))
      (λ x. dead_end has text pre (b ∷ y) e t w b g (subst Begins with_here x)))) (none_before has text pre (b ∷ y) e t w (length pre) (omega arith))
  stopped_first k t w (absent l o p h) =
      wrong {p = length pre} (inr (record {
        inside = inside_here;
        letter = l;
        letter_is = here ∙ o;
        named = ap (λ (x : List ℕ). is_place (digits_at x)) past_here ∙ p;
        absent = ap (λ (x : List ℕ). has l (shown 0 (digits_at x))) past_here ∙ h;
      })) (none_before has text pre (b ∷ y) e t w (length pre) (omega arith))
  stopped_first k t w (too_deep {d} o l) =
      deep {p = length pre} (record {
        inside = inside_here;
        opening = here ∙ o;
        still_open = subst (λ (x : List ℕ). occurrences 41 x + 32 ≤ occurrences 40 x) (sym before_here)
            (let r : occurrences 40 pre + 0 ≡ occurrences 41 pre + d = run_depth has 32 w in
            omega arith);
      })
      (λ f. ⊎_elim not_out not_gone f)
      (none_before has text pre (b ∷ y) e t w (length pre) (omega arith))
    where
      opened : move always (suc d) (wants d) b [] ≡ to (wants (suc d))
      opened = unfold move wants_by in rw (mark-opening o, lt-ltb d (suc d) (omega arith)) refl

      not_out : Outside text (length pre) → ⊥
      not_out (byte i x n) = n (subst Begins (sym with_here)
          (passed_begins (wants (suc d)) (pre ++ (b ∷ [])) (move_passed always (suc d) (wants d) (wants (suc d)) pre b [] (run_passed has 32 [] w wanting_start) opened)))
      not_out (ended i x n) = let z : length pre < length text = inside_here in omega arith

      not_gone : Absent has text (length pre) → ⊥
      not_gone a = letters a.letter (sym o ∙ sym here ∙ a.letter_is)
        where
          letters : (x : Letter) → 40 ≡ letter_byte x → ⊥
          letters E z = unfold letter_byte in omega arith
          letters R z = unfold letter_byte in omega arith
          letters D z = unfold letter_byte in omega arith
          letters B z = unfold letter_byte in omega arith

pub went_first : (has : Letter → ℕ → Bool) (text : List ℕ) (k : ℕ) (x : List ℕ) → Went has 32 (wants 0) text k x → FirstFault has text k (length text - length x)
went_first has text k [] g =
    let l : length text ≡ length g.passed + 0 = ap length g.splits ∙ length-append g.passed [] in
    let s : text ≡ g.passed = g.splits ∙ append-nil g.passed in
    subst (λ (j : ℕ). FirstFault has text j (length text - 0)) (sym g.halts.0)
    (wrong {p = length text - 0} (inl
    (ended (whole_length) (subst Begins (sym s) (prefix_begins has text g.passed [] g.splits g.last g.way))
    (λ y. dead_stop has text g.passed [] g.splits g.last g.way g.halts.1 (subst Text s y))))
    (none_before has text g.passed [] g.splits g.last g.way (length text - 0) (omega arith)))
  where
    whole_length : length text - 0 ≡ length text
    whole_length = omega arith
went_first has text k (b ∷ y) g =
    subst (λ (p : ℕ). FirstFault has text k p) (place (length g.passed) (length y) (ap length g.splits ∙ length-append g.passed (b ∷ y)))
    (stopped_first has text g.passed b y g.splits k g.last g.way (stops has 32 g.last k b y g.halts))
  where
    place : (m n : ℕ) → length text ≡ m + suc n → m ≡ length text - suc n
    place m n h = omega arith

-- "lowest place first, 17 on a tie" leaves one answer
pub first_unique : (has : Letter → ℕ → Bool) (text : List ℕ) (j k p q : ℕ) → FirstFault has text j p → FirstFault has text k q → (j ≡ k) × (p ≡ q)
first_unique has text j k p q f g =
    ⊎_elim
    (λ (l : ltb p q ≡ true). absurd (clash j p k q (ltb-true p q l) f g))
    (λ l. ⊎_elim (λ (m : ltb q p ≡ true). absurd (clash k q j p (ltb-true q p m) g f)) (λ m. same p q (let a : q ≤ p = ltb-false p q l in
    let b : p ≤ q = ltb-false q p m in
    omega arith) f g) (bool_cases (ltb q p)))
    (bool_cases (ltb p q))
  where
    before : {a b : ℕ} → FirstFault has text a b → NoneBefore has text b
    before (wrong x n) = n
    before (deep x m n) = n

    clash : (a b c d : ℕ) → b < d → FirstFault has text a b → FirstFault has text c d → ⊥
    clash a b c d l (wrong x n) y = (before y b l).0 x
    clash a b c d l (deep x m n) y = (before y b l).1 x

    ties : {a b c : ℕ} → FirstFault has text a b → FirstFault has text c b → a ≡ c
    ties (wrong x n) (wrong y m) = refl
    ties (wrong x n) (deep y o m) = absurd (o x)
    ties (deep x o n) (wrong y m) = absurd (o y)
    ties (deep x o n) (deep y o' m) = refl

    same : (a b : ℕ) → a ≡ b → FirstFault has text j a → FirstFault has text k b → (j ≡ k) × (a ≡ b)
    same a b e x y = (ties x (subst (λ (n : ℕ). FirstFault has text k n) (sym e) y), e)
