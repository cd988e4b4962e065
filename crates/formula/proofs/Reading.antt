-- What the readers find is what the scan finds, and what they read is in the grammar.
use Prim.Native.Nat.{ℕ, zero, suc, ◌+◌, ◌-◌, ◌≤◌, ◌<◌}
use native.Mathlib.Omega.{arith}
use mathlib.Core.Path.{◌≡◌, refl, sym, ap, ◌∙◌, subst}
use mathlib.Core.Logic.{⊎_elim}
use mathlib.Core.Bool.{Bool, true, false, not, cond}
use mathlib.Core.List.{List, [], ◌∷◌, ◌++◌, append_assoc}
use lib.ListN.{length}
use lib.Dec.{eqb, ltb}
use borrow.Author.Tests.{eqb-true, eqb-false, ltb-true, ltb-false, lt-ltb, le-ltb}
use Rattle.logic.specs.Search.{◌and◌, all}
use Rattle.theory.proofs.Basics.Search.{bool_cases, true-false, and_left}
use Rattle.text.specs.Text.{is_digit}
use Rattle.formula.specs.Grammar.{Letter, letter_byte, Formula, literal, both, either, is_blank, is_place, shown, Level}
use Rattle.formula.specs.Grammar.{disjunction, conjunction, item, Reads, one_and, one_item, name, parentheses, Within}
use Rattle.formula.specs.Meaning.{AllPresent}
use Rattle.formula.specs.Places.{digits_at, past_digits}
use Rattle.formula.specs.Reader.{Mark, mark, blank, opening, closing, ampersand, bar, other, letter, digit, past_blanks, Reading}
use Rattle.formula.specs.Reader.{refused, done, and_then, joined, further, closed, named, item_by, item_at, read, calls}
use Rattle.formula.proofs.Marks.{mark-ampersand, mark-bar, mark-closing, Marked, marked, is_blank_lem, is_opening, is_closing, is_ampersand, is_bar, is_letter, is_digit_lem, is_other}
use Rattle.formula.proofs.Scan.{State, wants, counted, after, Result, fault, to, stop, closes, wants_by, after_by, move, end_of}
use Rattle.formula.proofs.Scan.{scan, scan_to, scan-stop, want_move, after-move, want_blanks, after_blanks, counted_digits}
use Rattle.formula.proofs.Scan as scans

-- what does not follow a formula of each level
abbrev pub Stops : Level → List ℕ → Type 0
Stops item [] = Unit
Stops item (b ∷ bs) = b ≡ 32 → ⊥
Stops conjunction [] = Unit
Stops conjunction (b ∷ bs) = (b ≡ 32 → ⊥) × (b ≡ 38 → ⊥)
Stops disjunction [] = Unit
Stops disjunction (b ∷ bs) = (b ≡ 32 → ⊥) × (b ≡ 38 → ⊥) × (b ≡ 124 → ⊥)

-- Blanks and digits at the front

unfoldable pub blanks_at : List ℕ → List ℕ
blanks_at [] = []
blanks_at (b ∷ bs) = cond (eqb b 32) (b ∷ blanks_at bs) []

pub blanks_split : (bs : List ℕ) → bs ≡ blanks_at bs ++ past_blanks bs
unfolding blanks_at past_blanks
blanks_split [] = refl
blanks_split (b ∷ bs) = go (eqb b 32) (blanks_split bs)
  where
    go : (t : Bool) → bs ≡ blanks_at bs ++ past_blanks bs → b ∷ bs ≡ cond t (b ∷ blanks_at bs) [] ++ cond t (past_blanks bs) (b ∷ bs)
    go true ih = ap (λ (s : List ℕ). b ∷ s) ih
    go false ih = refl

pub blanks_are : (bs : List ℕ) → all is_blank (blanks_at bs) ≡ true
unfolding blanks_at
blanks_are [] = unfold all in refl
blanks_are (b ∷ bs) = go (eqb b 32) refl (blanks_are bs)
  where
    go : (t : Bool) → eqb b 32 ≡ t → all is_blank (blanks_at bs) ≡ true → all is_blank (cond t (b ∷ blanks_at bs) []) ≡ true
    go true e ih = unfold all is_blank ◌and◌ in rw (e, ih) refl
    go false e ih = unfold all in refl

pub past_stops : (bs : List ℕ) → Stops item (past_blanks bs)
unfolding past_blanks
past_stops [] = tt
past_stops (b ∷ bs) = go (eqb b 32) refl (past_stops bs)
  where
    go : (t : Bool) → eqb b 32 ≡ t → Stops item (past_blanks bs) → Stops item (cond t (past_blanks bs) (b ∷ bs))
    go true e ih = ih
    go false e ih = eqb-false b 32 e

pub past_shorter : (bs : List ℕ) → length (past_blanks bs) ≤ length bs
unfolding past_blanks
past_shorter [] = omega arith
past_shorter (b ∷ bs) = go (eqb b 32) (past_shorter bs)
  where
    go : (t : Bool) → length (past_blanks bs) ≤ length bs → length (cond t (past_blanks bs) (b ∷ bs)) ≤ suc (length bs)
    go true ih = omega arith
    go false ih = omega arith

pub digits_split : (bs : List ℕ) → bs ≡ digits_at bs ++ past_digits bs
unfolding digits_at past_digits
digits_split [] = refl
digits_split (b ∷ bs) = go (is_digit b) (digits_split bs)
  where
    go : (t : Bool) → bs ≡ digits_at bs ++ past_digits bs → b ∷ bs ≡ cond t (b ∷ digits_at bs) [] ++ cond t (past_digits bs) (b ∷ bs)
    go true ih = ap (λ (s : List ℕ). b ∷ s) ih
    go false ih = refl

pub digits_shorter : (bs : List ℕ) → length (past_digits bs) ≤ length bs
unfolding past_digits
digits_shorter [] = omega arith
digits_shorter (b ∷ bs) = go (is_digit b) (digits_shorter bs)
  where
    go : (t : Bool) → length (past_digits bs) ≤ length bs → length (cond t (past_digits bs) (b ∷ bs)) ≤ suc (length bs)
    go true ih = omega arith
    go false ih = omega arith

pub all_digits : (bs : List ℕ) → all is_digit (digits_at bs) ≡ true
unfolding digits_at
all_digits [] = unfold all in refl
all_digits (b ∷ bs) = go (is_digit b) refl (all_digits bs)
  where
    go : (t : Bool) → is_digit b ≡ t → all is_digit (digits_at bs) ≡ true → all is_digit (cond t (b ∷ digits_at bs) []) ≡ true
    go true e ih = unfold all ◌and◌ in rw (e, ih) refl
    go false e ih = unfold all in refl

-- the digits at the front are a place exactly if the first byte is a digit and not 0
pub place_first : (b : ℕ) (bs : List ℕ) → is_place (digits_at (b ∷ bs)) ≡ is_digit b and not (eqb b 48)
unfolding digits_at
place_first b bs = go (is_digit b) refl
  where
    go : (t : Bool) → is_digit b ≡ t → is_place (cond t (b ∷ digits_at bs) []) ≡ t and not (eqb b 48)
    go true e = unfold is_place in rw (e, all_digits bs) (ands (not (eqb b 48)))
      where
        ands : (x : Bool) → true and x and true ≡ true and x
        ands true = unfold ◌and◌ in refl
        ands false = unfold ◌and◌ in refl
    go false e = unfold is_place ◌and◌ in refl

module _ (has : Letter → ℕ → Bool) (most : ℕ) where
  abbrev go_on : State → List ℕ → Result
  go_on = scan has most

  pub record Found (level : Level) (d : ℕ) (bs : List ℕ) (f : Formula) (rest : List ℕ) : Type 0 where
    pub text : List ℕ
    pub splits : bs ≡ text ++ rest
    pub reads : Reads level text f
    pub shallow : Within (most - d) reads
    pub goes : go_on (wants d) bs ≡ go_on (after d) rest
    pub stops : Stops level rest
    pub there : AllPresent has f
    pub shorter : length rest < length bs

  abbrev pub As : Level → ℕ → List ℕ → Reading → Type 0
  As level d bs (refused n s) = go_on (wants d) bs ≡ fault n s
  As level d bs (done f rest) = Found level d bs f rest

  -- What follows an item that has ended

  pub ends_wrong : (d b : ℕ) (bs : List ℕ) → (b ≡ 32 → ⊥) → (b ≡ 38 → ⊥) → (b ≡ 124 → ⊥) → (b ≡ 41 → ⊥) → go_on (after d) (b ∷ bs) ≡ fault 17 (b ∷ bs)
  ends_wrong d b bs n₁ n₂ n₃ n₄ = scan-stop has most (after d) 17 b bs (after-move has most d b bs refl ∙ go (mark b) (marked b))
    where
      go : (m : Mark) → Marked b m → after_by has most d m ≡ stop 17
      go blank (is_blank_lem e) = absurd (n₁ e)
      go opening (is_opening e) = unfold after_by in refl
      go closing (is_closing e) = absurd (n₄ e)
      go ampersand (is_ampersand e) = absurd (n₂ e)
      go bar (is_bar e) = absurd (n₃ e)
      go (letter l) (is_letter l' e) = unfold after_by in refl
      go digit (is_digit_lem e) = unfold after_by in refl
      go other (is_other e) = unfold after_by in refl

  after_end : (d : ℕ) → go_on (after (suc d)) [] ≡ fault 17 []
  after_end d = unfold scan end_of in refl

  -- An or of ands, and an and of items

  module _ (separator : ℕ) (join : Formula → Formula → Formula) (low up : Level)
      (one : (t : List ℕ) (f : Formula) → Reads low t f → Reads up t f)
      (two : (t u : List ℕ) (f g : Formula) → Reads low t f → Reads up u g → Reads up (t ++ (separator ∷ u)) (join f g))
      (one_within : (n : ℕ) (t : List ℕ) (f : Formula) (x : Reads low t f) → Within n x → Within n (one t f x))
      (two_within : (n : ℕ) (t u : List ℕ) (f g : Formula) (x : Reads low t f) (y : Reads up u g) → Within n x → Within n y → Within n (two t u f g x y))
      (onward : (d : ℕ) (bs : List ℕ) → go_on (after d) (separator ∷ bs) ≡ go_on (wants d) bs)
      (ends : Stops up [])
      (stop_more : (b : ℕ) (bs : List ℕ) → Stops low (b ∷ bs) → (b ≡ separator → ⊥) → Stops up (b ∷ bs))
      (there_both : (f g : Formula) → AllPresent has f → AllPresent has g → AllPresent has (join f g))
      (d : ℕ) (bs : List ℕ) where
    second : (f : Formula) (b : ℕ) (s : List ℕ) → Found low d bs f (b ∷ s) → b ≡ separator → (m : Reading) → As up d s m → As up d bs (and_then m (joined join f))
    unfolding and_then joined
    second f b s h e (refused n x) a = h.goes ∙ ap (λ (c : ℕ). go_on (after d) (c ∷ s)) e ∙ onward d s ∙ a
    second f b s h e (done g rest) a =
        record {
          text = h.text ++ (separator ∷ a.text);
          splits = h.splits ∙ ap (λ (c : ℕ). h.text ++ (c ∷ s)) e ∙ ap (λ (x : List ℕ). h.text ++ (separator ∷ x)) a.splits ∙ sym (append_assoc h.text (separator ∷ a.text) rest);
          reads = two _ _ _ _ h.reads a.reads;
          shallow = two_within (most - d) _ _ _ _ h.reads a.reads h.shallow a.shallow;
          goes = h.goes ∙ ap (λ (c : ℕ). go_on (after d) (c ∷ s)) e ∙ onward d s ∙ a.goes;
          stops = a.stops;
          there = there_both f g h.there a.there;
          shorter = let p : length (b ∷ s) < length bs = h.shorter in let q : length rest < length s = a.shorter in omega arith;
        }

    pub joins : (r : Reading) (more : List ℕ → Reading) → As low d bs r → ((s : List ℕ) → length s < length bs → As up d s (more s)) → As up d bs (and_then r (further separator join more))
    unfolding and_then further
    joins (refused n s) more a h = a
    joins (done f []) more a h = record {
      text = a.text;
      splits = a.splits;
      reads = one _ _ a.reads;
      shallow = one_within (most - d) _ _ a.reads a.shallow;
      goes = a.goes;
      stops = ends;
      there = a.there;
      shorter = a.shorter;
    }
    joins (done f (b ∷ s)) more a h = go (eqb b separator) refl
      where
        go : (t : Bool) → eqb b separator ≡ t → As up d bs (cond t (and_then (more s) (joined join f)) (done f (b ∷ s)))
        go true e = second f b s a (eqb-true b separator e) (more s) (h s (let p : length (b ∷ s) < length bs = a.shorter in omega arith))
        go false e = record {
          text = a.text;
          splits = a.splits;
          reads = one _ _ a.reads;
          shallow = one_within (most - d) _ _ a.reads a.shallow;
          goes = a.goes;
          stops = stop_more b s a.stops (eqb-false b separator e);
          there = a.there;
          shorter = a.shorter;
        }

  -- An item

  module _ (d left : ℕ) (sum : d + left ≡ most) (bs : List ℕ) (b : ℕ) (s : List ℕ) (past : past_blanks bs ≡ b ∷ s) where
    from_here : go_on (wants d) bs ≡ go_on (wants d) (b ∷ s)
    from_here = want_blanks has most d bs ∙ ap (go_on (wants d)) past

    shorter_here : length s < length bs
    shorter_here = let p : length (past_blanks bs) ≤ length bs = past_shorter bs in let q : length (past_blanks bs) ≡ suc (length s) = ap length past in omega arith

    split_here : bs ≡ blanks_at bs ++ (b ∷ s)
    split_here = blanks_split bs ∙ ap (λ (x : List ℕ). blanks_at bs ++ x) past

    stopped : (k : ℕ) {m : Mark} → mark b ≡ m → wants_by has most d m s ≡ stop k → go_on (wants d) bs ≡ fault k (b ∷ s)
    stopped k e w = from_here ∙ scan-stop has most (wants d) k b s (want_move has most d b s e ∙ w)

    moved : (t : State) {m : Mark} → mark b ≡ m → wants_by has most d m s ≡ to t → go_on (wants d) bs ≡ go_on t s
    moved t e w = from_here ∙ scan_to has most (wants d) t b s (want_move has most d b s e ∙ w)

    closed-as : (f : Formula) (rest : List ℕ) → d < most → b ≡ 40 → go_on (wants d) bs ≡ go_on (wants (suc d)) s → Found disjunction (suc d) s f rest → As item d bs (closed f rest)
    unfolding closed
    closed-as f [] l e g a = g ∙ a.goes ∙ after_end d
    closed-as f (x ∷ xs) l e g a = go (eqb x 41) refl
      where
        fewer : most - suc d ≡ (most - d) - 1
        fewer = omega arith

        deeper : {t : List ℕ} (r : Reads disjunction t f) → Within (most - suc d) r → Within (most - d) (parentheses (blanks_at bs) (blanks_at xs) (blanks_are bs) r (blanks_are xs))
        deeper r w = unfold Within in (omega arith, subst (λ (n : ℕ). Within n r) fewer w)

        go : (t : Bool) → eqb x 41 ≡ t → As item d bs (cond t (done f (past_blanks xs)) (refused 17 (x ∷ xs)))
        go true y =
            record {
              text = blanks_at bs ++ (40 ∷ (a.text ++ (41 ∷ blanks_at xs)));
              splits =
                  split_here
                  ∙ ap (λ (c : ℕ). blanks_at bs ++ (c ∷ s)) e
                  ∙ ap (λ (w : List ℕ). blanks_at bs ++ (40 ∷ w))
                  (a.splits ∙ ap (λ (c : ℕ). a.text ++ (c ∷ xs)) (eqb-true x 41 y) ∙ ap (λ (w : List ℕ). a.text ++ (41 ∷ w)) (blanks_split xs)
                  ∙ sym (append_assoc a.text (41 ∷ blanks_at xs) (past_blanks xs)))
                  ∙ sym (append_assoc (blanks_at bs) (40 ∷ (a.text ++ (41 ∷ blanks_at xs))) (past_blanks xs));
              reads = parentheses (blanks_at bs) (blanks_at xs) (blanks_are bs) a.reads (blanks_are xs);
              shallow = deeper a.reads a.shallow;
              goes = g ∙ a.goes ∙ scan_to has most (after (suc d)) (after d) x xs
                  (after-move has most (suc d) x xs (mark-closing (eqb-true x 41 y)) ∙ (unfold after_by closes in
                  refl)) ∙ after_blanks has most d xs;
              stops = past_stops xs;
              there = a.there;
              shorter = let p : length (x ∷ xs) < length s = a.shorter in let q : length (past_blanks xs) ≤ length xs = past_shorter xs in let r : length s < length bs = shorter_here in omega arith;
            }
        go false y = g ∙ a.goes ∙ ends_wrong (suc d) x xs a.stops.0 a.stops.1 a.stops.2 (eqb-false x 41 y)

    inner-as : (r : Reading) → d < most → b ≡ 40 → go_on (wants d) bs ≡ go_on (wants (suc d)) s → As disjunction (suc d) s r → As item d bs (and_then r closed)
    unfolding and_then
    inner-as (refused n x) l e g a = g ∙ a
    inner-as (done f rest) l e g a = closed-as f rest l e g a

    name_wrong : (xs : List ℕ) → is_place (digits_at xs) ≡ false → go_on (scans.named d) xs ≡ fault 17 xs
    name_wrong [] p = unfold scan end_of in refl
    name_wrong (x ∷ xs) p = scan-stop has most (scans.named d) 17 x xs (unfold move in rw (sym (place_first x xs) ∙ p) refl)

    name-right : (xs : List ℕ) → is_place (digits_at xs) ≡ true → go_on (scans.named d) xs ≡ go_on (after d) (past_digits xs)
    name-right [] p = absurd (true-false p (unfold digits_at is_place in refl))
    name-right (x ∷ xs) p =
        scan_to has most (scans.named d) (counted d) x xs (unfold move in rw (sym (place_first x xs) ∙ p) refl)
        ∙ counted_digits has most d xs
        ∙ ap (go_on (after d)) (sym (skipped x xs (and_left _ _ (sym (place_first x xs) ∙ p))))
      where
        skipped : (y : ℕ) (ys : List ℕ) → is_digit y ≡ true → past_digits (y ∷ ys) ≡ past_digits ys
        skipped y ys e = unfold past_digits in rw e refl

    named-as : (l : Letter) → b ≡ letter_byte l → mark b ≡ letter l → As item d bs (named has l (b ∷ s) s)
    unfolding named
    named-as l e m = go (is_place (digits_at s)) refl (has l (shown 0 (digits_at s))) refl
      where
        letters : (p h : Bool) → is_place (digits_at s) ≡ p → has l (shown 0 (digits_at s)) ≡ h → wants_by has most d (letter l) s ≡ cond (p and not h) (stop 17) (to (scans.named d))
        letters p h q r = unfold wants_by in rw (q, r) refl

        go : (p : Bool) → is_place (digits_at s) ≡ p → (h : Bool) → has l (shown 0 (digits_at s)) ≡ h →
            As item d bs (cond p (cond h (done (literal l (shown 0 (digits_at s))) (past_blanks (past_digits s))) (refused 17 (b ∷ s))) (refused 17 s))
        go true q true r =
            record {
              text = blanks_at bs ++ (letter_byte l ∷ (digits_at s ++ blanks_at (past_digits s)));
              splits =
                  split_here
                  ∙ ap (λ (c : ℕ). blanks_at bs ++ (c ∷ s)) e
                  ∙ ap (λ (w : List ℕ). blanks_at bs ++ (letter_byte l ∷ w))
                  (digits_split s ∙ ap (λ (w : List ℕ). digits_at s ++ w) (blanks_split (past_digits s))
                  ∙ sym (append_assoc (digits_at s) (blanks_at (past_digits s)) (past_blanks (past_digits s))))
                  ∙ sym (append_assoc (blanks_at bs) (letter_byte l ∷ (digits_at s ++ blanks_at (past_digits s))) (past_blanks (past_digits s)));
              reads = name l (blanks_at bs) (digits_at s) (blanks_at (past_digits s)) (blanks_are bs) q (blanks_are (past_digits s));
              shallow = unfold Within in tt;
              goes = moved (scans.named d) m (letters true true q r ∙ (unfold ◌and◌ in refl)) ∙ name-right s q ∙ after_blanks has most d (past_digits s);
              stops = past_stops (past_digits s);
              there = unfold AllPresent in r;
              shorter = let p : length (past_blanks (past_digits s)) ≤ length (past_digits s) = past_shorter (past_digits s) in
                  let q : length (past_digits s) ≤ length s = digits_shorter s in
                  let r : length s < length bs = shorter_here in
                  omega arith;
            }
        go true q false r = stopped 17 m (letters true false q r ∙ (unfold ◌and◌ in refl))
        go false q h r = moved (scans.named d) m (letters false h q r ∙ (unfold ◌and◌ in refl)) ∙ name_wrong s q

    pub item_from : (inner : List ℕ → Reading) → ((left ≡ 0 → ⊥) → As disjunction (suc d) s (inner s)) → As item d bs (item_by has inner left (mark b) (b ∷ s) s)
    item_from inner h = by (mark b) refl (marked b)
      where
        by : (m : Mark) → mark b ≡ m → Marked b m → As item d bs (item_by has inner left m (b ∷ s) s)
        by blank e (is_blank_lem x) = absurd (subst (λ (w : List ℕ). Stops item w) past (past_stops bs) x)
        by opening e (is_opening x) = go (eqb left 0) refl
          where
            go : (t : Bool) → eqb left 0 ≡ t → As item d bs (item_by has inner left opening (b ∷ s) s)
            go true y = unfold item_by in rw y (stopped 18 e (unfold wants_by in rw (le-ltb d most (let z : left ≡ 0 = eqb-true left 0 y in omega arith)) refl))
            go false y = unfold item_by in rw y (inner-as (inner s) (below y) x (moved (wants (suc d)) e (unfold wants_by in rw (lt-ltb d most (below y)) refl)) (h (eqb-false left 0 y)))
              where
                below : eqb left 0 ≡ false → d < most
                below z = ⊎_elim (λ (k : ltb d most ≡ true). ltb-true d most k) (λ k. absurd (eqb-false left 0 z (let q : most ≤ d = ltb-false d most k in omega arith))) (bool_cases (ltb d most))
        by closing e (is_closing x) = unfold item_by in stopped 17 e (unfold wants_by in refl)
        by ampersand e (is_ampersand x) = unfold item_by in stopped 17 e (unfold wants_by in refl)
        by bar e (is_bar x) = unfold item_by in stopped 17 e (unfold wants_by in refl)
        by (letter l) e (is_letter l' x) = unfold item_by in named-as l x e
        by digit e (is_digit_lem x) = unfold item_by in stopped 17 e (unfold wants_by in refl)
        by other e (is_other x) = unfold item_by in stopped 17 e (unfold wants_by in refl)

  item-as : (d left : ℕ) → d + left ≡ most → (bs : List ℕ) (inner : List ℕ → Reading) →
      ((s : List ℕ) → length s < length bs → (left ≡ 0 → ⊥) → As disjunction (suc d) s (inner s)) → As item d bs (item_at has inner left (past_blanks bs))
  item-as d left sum bs inner h = go (past_blanks bs) refl
    where
      go : (w : List ℕ) → past_blanks bs ≡ w → As item d bs (item_at has inner left w)
      go [] e = unfold item_at in (want_blanks has most d bs ∙ ap (go_on (wants d)) e ∙ (unfold scan end_of in refl))
      go (b ∷ s) e = unfold item_at in
          item_from d left sum bs b s e inner
          (h s (let p : length (past_blanks bs) ≤ length bs = past_shorter bs in let q : length (past_blanks bs) ≡ suc (length s) = ap length e in omega arith))

  -- The readers

  or-onward : (d : ℕ) (bs : List ℕ) → go_on (after d) (124 ∷ bs) ≡ go_on (wants d) bs
  or-onward d bs = scan_to has most (after d) (wants d) 124 bs (after-move has most d 124 bs (mark-bar refl) ∙ (unfold after_by in refl))

  and-onward : (d : ℕ) (bs : List ℕ) → go_on (after d) (38 ∷ bs) ≡ go_on (wants d) bs
  and-onward d bs = scan_to has most (after d) (wants d) 38 bs (after-move has most d 38 bs (mark-ampersand refl) ∙ (unfold after_by in refl))

  pub reads_as : (k : ℕ) (level : Level) (d left : ℕ) → d + left ≡ most → (bs : List ℕ) → calls level (length bs) ≤ k → As level d bs (read has k level left bs)
  unfolding read calls AllPresent Within
  reads_as zero disjunction d left e bs h = absurd (omega arith)
  reads_as zero conjunction d left e bs h = absurd (omega arith)
  reads_as zero item d left e bs h = absurd (omega arith)
  reads_as (suc k) disjunction d left e bs h =
      joins 124 either conjunction disjunction (λ t f r. one_and r) (λ t u f g r q. Reads.or r q) (λ n t f x w. w) (λ n t u f g x y v w. (v, w))
      or-onward tt (λ b s p q. (p.0, p.1, q)) (λ f g a b. (a, b)) d bs (read has k conjunction left bs) (read has k disjunction left)
      (reads_as k conjunction d left e bs (omega arith))
      (λ s l. reads_as k disjunction d left e s (omega arith))
  reads_as (suc k) conjunction d left e bs h =
      joins 38 both item conjunction (λ t f r. one_item r) (λ t u f g r q. Reads.and r q) (λ n t f x w. w) (λ n t u f g x y v w. (v, w)) and-onward tt
      (λ b s p q. (p, q)) (λ f g a b. (a, b)) d bs (read has k item left bs) (read has k conjunction left) (reads_as k item d left e bs (omega arith))
      (λ s l. reads_as k conjunction d left e s (omega arith))
  reads_as (suc k) item d left e bs h =
      item-as d left e bs (read has k disjunction (left - 1)) (λ s l n. reads_as k disjunction (suc d) (left - 1) (less n) s (omega arith))
    where
      less : (left ≡ 0 → ⊥) → suc d + (left - 1) ≡ most
      less n = ⊎_elim (λ (x : ltb 0 left ≡ true). let y : 0 < left = ltb-true 0 left x in
          omega arith) (λ x. absurd (n (let y : left ≤ 0 = ltb-false 0 left x in omega arith))) (bool_cases (ltb 0 left))
