-- Each step of the readers, as the definitions take it.
use Prim.Native.Nat.{ℕ, zero, suc, ◌+◌, ◌-◌, ◌*◌, ◌≤◌, ◌<◌}
use native.Mathlib.Omega.{arith}
use mathlib.Core.Path.{◌≡◌, refl, sym, ap, ◌∙◌, subst}
use mathlib.Core.Logic.{⊎_elim}
use mathlib.Core.Bool.{true, false}
use mathlib.Core.List.{List, [], ◌∷◌}
use lib.ListN.{length, get_or, drop}
use lib.Dec.{eqb, ltb, leb}
use borrow.Author.Tests.{ltb-true, ltb-false, leb-true, not-true, eqb-true, eqb-false, lt-ltb, le-leb, lt-leb, eq-eqb, ne_eqb}
use Rattle.logic.specs.Search.{◌and◌}
use Rattle.theory.proofs.Basics.Search.{bool_cases, true-false, and_left, and_right}
use Rattle.text.specs.Text.{is_digit}
use Rattle.formula.specs.Grammar.{Letter, Formula, literal, both, either, is_place, shown, Level, disjunction, conjunction, item}
use Rattle.formula.specs.Places.{digits_at, past_digits}
use Rattle.formula.specs.Reader.{Mark, mark, opening, letter, past_blanks, Reading, refused, done, and_then, joined, further, closed, named, item_by, item_at, read, calls, ended, read_text}
use Rattle.formula_reader.specs.Tree.{letter_code, capped, Tree, put_node, has}
use Rattle.formula_reader.specs.Answers.{stands, begins_none, saturated, Grown, FoundAs, Ranged, ReadAs, ClosedAs, Counts}
use Rattle.std.specs.Prelude.{Result, Ok, Err}
use Rattle.refusals.specs.declared.Fault.TheVariants as fault
use Rattle.refusals.specs.declared.Refusal.{Refusal}
use Rattle.refusals.specs.Numbers.{refusal_at}
use Rattle.formula_reader.specs.declared.Parsed.{Parsed}
use Rattle.formula_reader.proofs.Laws.{next_byte, nothing_left, sat_low, sat_high}
use Rattle.formula_reader.proofs.Trees.{put_node_kept, put_node-length, tree_kept, either_tree, both_tree}

-- a formula was read up to a place
abbrev pub parsed : ℕ → ℕ → Parsed
parsed next used = record { next = next; used = used }

module _ (text : List ℕ) (at b : ℕ) where
  pub stands_inside : stands text at b ≡ true → at < length text
  unfolding stands
  stands_inside h = ltb-true _ _ (and_left _ _ h)

  pub stands_byte : stands text at b ≡ true → get_or text at 0 ≡ b
  unfolding stands
  stands_byte h = eqb-true _ _ (and_right _ _ h)

  stands-not : stands text at b ≡ false → at < length text → eqb (get_or text at 0) b ≡ false
  unfolding stands ◌and◌
  stands-not h k = (rw (lt-ltb at (length text) k) at h)

-- What stands behind a formula

module _ (separator : ℕ) (join : Formula → Formula → Formula) (more : List ℕ → Reading) (f : Formula) (text : List ℕ) (at : ℕ) where
  further_here : stands text at separator ≡ true → further separator join more f (drop at text) ≡ and_then (more (drop (at + 1) text)) (joined join f)
  unfolding further
  further_here h = ap (further separator join more f) (next_byte text at (stands_inside text at separator h)) ∙ rw (eq-eqb _ _ (stands_byte text at separator h)) refl

  further-not : stands text at separator ≡ false → further separator join more f (drop at text) ≡ done f (drop at text)
  unfolding further
  further-not h =
      ⊎_elim
      (λ (k : ltb at (length text) ≡ true). let i : at < length text = ltb-true _ _ k in
      ap (further separator join more f) (next_byte text at i) ∙ (rw (stands-not text at separator h i) refl) ∙ ap (done f) (sym (next_byte text at i)))
      (λ k. let e : drop at text ≡ [] = nothing_left text at (ltb-false _ _ k) in ap (further separator join more f) e ∙ ap (done f) (sym e))
      (bool_cases (ltb at (length text)))

module _ (f : Formula) (text : List ℕ) (at : ℕ) where
  pub closed_here : stands text at 41 ≡ true → closed f (drop at text) ≡ done f (past_blanks (drop (at + 1) text))
  unfolding closed
  closed_here h = ap (closed f) (next_byte text at (stands_inside text at 41 h)) ∙ rw (eq-eqb _ _ (stands_byte text at 41 h)) refl

  pub closed-not : stands text at 41 ≡ false → closed f (drop at text) ≡ refused 17 (drop at text)
  unfolding closed
  closed-not h =
      ⊎_elim
      (λ (k : ltb at (length text) ≡ true). let i : at < length text = ltb-true _ _ k in
      ap (closed f) (next_byte text at i) ∙ (rw (stands-not text at 41 h i) refl) ∙ ap (refused 17) (sym (next_byte text at i)))
      (λ k. let e : drop at text ≡ [] = nothing_left text at (ltb-false _ _ k) in ap (closed f) e ∙ ap (refused 17) (sym e))
      (bool_cases (ltb at (length text)))

-- A name

shown_grows : (v : ℕ) (ds : List ℕ) → v ≤ shown v ds
unfolding shown
shown_grows v [] = omega arith
shown_grows v (d ∷ ds) = let h : 10 * v + (d - 48) ≤ shown (10 * v + (d - 48)) ds = shown_grows (10 * v + (d - 48)) ds in omega arith

pub place_positive : (ds : List ℕ) → is_place ds ≡ true → 1 ≤ shown 0 ds
unfolding is_place shown is_digit
place_positive [] h = absurd (true-false h refl)
place_positive (d ∷ ds) h =
    let g : 10 * 0 + (d - 48) ≤ shown (10 * 0 + (d - 48)) ds = shown_grows (10 * 0 + (d - 48)) ds in
    let l : 48 ≤ d = leb-true _ _ (and_left _ _ (and_left _ _ (and_left _ _ h))) in
    let n : d ≡ 48 → ⊥ = eqb-false _ _ (not-true _ (and_right _ _ (and_left _ _ h))) in
    ⊎_elim (λ (e : eqb d 48 ≡ true). absurd (n (eqb-true _ _ e))) (λ e. let m : d ≡ 48 → ⊥ = eqb-false _ _ e in
    ⊎_elim (λ (k : ltb 48 d ≡ true). omega (arith, ltb-true 48 d k)) (λ k. absurd (m (omega (arith, ltb-false 48 d k)))) (bool_cases (ltb 48 d)))
    (bool_cases (eqb d 48))

module _ (counts : List ℕ) (l : Letter) (whole bs : List ℕ) where
  pub named-not : is_place (digits_at bs) ≡ false → named (has counts) l whole bs ≡ refused 17 bs
  unfolding named
  named-not e = rw e refl

  module _ (code : ℕ) (c : Counts counts) (e : code ≡ letter_code l) (p : is_place (digits_at bs) ≡ true) where
    pub named_absent : get_or counts code 0 < saturated (shown 0 (digits_at bs)) → named (has counts) l whole bs ≡ refused 17 whole
    unfolding named has
    named_absent h = rw (p, absent) refl
      where
        above : get_or counts (letter_code l) 0 < shown 0 (digits_at bs)
        above =
            ⊎_elim
            (λ (k : ltb 99 (shown 0 (digits_at bs)) ≡ true). let m : 99 < shown 0 (digits_at bs) = ltb-true _ _ k in let d : get_or counts (letter_code l) 0 ≤ 60 = c (letter_code l) in omega arith)
            (λ k. let m : shown 0 (digits_at bs) ≤ 99 = ltb-false _ _ k in subst (λ (j : ℕ). get_or counts j 0 < shown 0 (digits_at bs)) e (subst (λ (n : ℕ). get_or counts code 0 < n) (sat_low _ m) h))
            (bool_cases (ltb 99 (shown 0 (digits_at bs))))

        absent : leb 1 (shown 0 (digits_at bs)) and leb (shown 0 (digits_at bs)) (get_or counts (letter_code l) 0) ≡ false
        absent = unfold ◌and◌ in rw (le-leb 1 (shown 0 (digits_at bs)) (place_positive (digits_at bs) p), lt-leb (shown 0 (digits_at bs)) (get_or counts (letter_code l) 0) above) refl

    module _ (h : saturated (shown 0 (digits_at bs)) ≤ get_or counts code 0) where
      pub place_small : saturated (shown 0 (digits_at bs)) ≡ shown 0 (digits_at bs)
      place_small =
          ⊎_elim
          (λ (k : ltb 99 (shown 0 (digits_at bs)) ≡ true). let m : saturated (shown 0 (digits_at bs)) ≡ 100 = sat_high _ (ltb-true _ _ k) in
          let d : get_or counts code 0 ≤ 60 = c code in
          absurd (omega arith))
          (λ k. sat_low _ (ltb-false _ _ k))
          (bool_cases (ltb 99 (shown 0 (digits_at bs))))

      pub named_present : named (has counts) l whole bs ≡ done (literal l (shown 0 (digits_at bs))) (past_blanks (past_digits bs))
      unfolding named has
      named_present = rw (p, there) refl
        where
          below : shown 0 (digits_at bs) ≤ get_or counts (letter_code l) 0
          below = subst (λ (j : ℕ). shown 0 (digits_at bs) ≤ get_or counts j 0) e (subst (λ (n : ℕ). n ≤ get_or counts code 0) place_small h)

          there : leb 1 (shown 0 (digits_at bs)) and leb (shown 0 (digits_at bs)) (get_or counts (letter_code l) 0) ≡ true
          there = unfold ◌and◌ in rw (le-leb 1 (shown 0 (digits_at bs)) (place_positive (digits_at bs) p), le-leb (shown 0 (digits_at bs)) (get_or counts (letter_code l) 0) below) refl

-- Readings

module _ (next : Formula → List ℕ → Reading) where
  then_refused : {r : Reading} {k : ℕ} {s : List ℕ} → r ≡ refused k s → and_then r next ≡ refused k s
  unfolding and_then
  then_refused e = rw e refl

  then_done : {r : Reading} {f : Formula} {s : List ℕ} → r ≡ done f s → and_then r next ≡ next f s
  unfolding and_then
  then_done e = rw e refl

-- An or over ands, and an and over items

module _ (counts : List ℕ) (left separator : ℕ) (join : Formula → Formula → Formula) (low up : Level)
    (step : (k : ℕ) (bs : List ℕ) → read (has counts) (suc k) up left bs ≡ and_then (read (has counts) k low left bs) (further separator join (read (has counts) k up left)))
    (fewer : (n k : ℕ) → calls up n ≤ suc k → calls low n ≤ k)
    (later : (m n k : ℕ) → m < n → calls low n ≤ k → calls up m ≤ k)
    (some : (n k : ℕ) → calls up n ≤ k → 1 ≤ k)
    (text : List ℕ) (at : ℕ) where
  -- at any number of calls that is enough
  by_step : (r : Result Parsed Refusal) (nodes : List ℕ) →
      ((k : ℕ) → calls low (length text - at) ≤ k → FoundAs r text nodes
      (and_then (read (has counts) k low left (drop at text)) (further separator join (read (has counts) k up left)))) → ReadAs r up text at left counts nodes
  by_step r nodes h zero l = absurd (no (some _ _ l))
    where
      no : 1 ≤ zero → ⊥
      no x = omega arith
  by_step r nodes h (suc k) l = subst (λ (x : Reading). FoundAs r text nodes x) (sym (step k (drop at text))) (h k (fewer _ _ l))

  pub first_refused : (x : Refusal) (nodes : List ℕ) → ReadAs (Err x) low text at left counts nodes → ReadAs (Err x) up text at left counts nodes
  first_refused x nodes h = by_step (Err x) nodes (λ k l. then_refused _ (h k l))

  pub alone : (next mid : ℕ) (nodes : List ℕ) → ReadAs (Ok (parsed next mid)) low text at left counts nodes → stands text next separator ≡ false →
      ReadAs (Ok (parsed next mid)) up text at left counts nodes
  alone next mid nodes h e = by_step (Ok (parsed next mid)) nodes (λ k l. let (f, d, t) = h k l in (f, then_done _ d ∙ further-not separator join _ f text next e, t))

  module _ (next mid : ℕ) (nodes : List ℕ) (h : ReadAs (Ok (parsed next mid)) low text at left counts nodes) (e : stands text next separator ≡ true) (a : at < next) where
    room : (k : ℕ) → calls low (length text - at) ≤ k → calls up (length text - (next + 1)) ≤ k
    room k l = let i : next < length text = stands_inside text next separator e in later _ _ k (omega arith) l

    pub second_refused : (x : Refusal) (after : List ℕ) → ReadAs (Err x) up text (next + 1) left counts after → ReadAs (Err x) up text at left counts after
    second_refused x after g = by_step (Err x) after (λ k l. let (f, d, t) = h k l in
        then_done _ d ∙ further_here separator join _ f text next e ∙ then_refused _ (g k (room k l)))

    pub both_read : (end last : ℕ) (after whole : List ℕ) → ReadAs (Ok (parsed end last)) up text (next + 1) left counts after →
        ((f g : Formula) → Tree nodes (mid - 1) f → Tree after (last - 1) g → Tree whole (last + 1 - 1) (join f g)) →
        ReadAs (Ok (parsed end (last + 1))) up text at left counts whole
    both_read end last after whole g w = by_step (Ok (parsed end (last + 1))) whole (λ k l. let (f, d, t) = h k l in
        let (f', d', t') = g k (room k l) in
        (join f f', then_done _ d ∙ further_here separator join _ f text next e ∙ then_done _ d' ∙ joined_is f f' (drop end text), w f f' t t'))
      where
        joined_is : (x y : Formula) (s : List ℕ) → joined join x y s ≡ done (join x y) s
        joined_is x y s = unfold joined in refl

-- the steps of an or, and of an and

module _ (counts : List ℕ) (left : ℕ) where
  pub or_step : (k : ℕ) (bs : List ℕ) → read (has counts) (suc k) disjunction left bs ≡ and_then (read (has counts) k conjunction left bs) (further 124 either (read (has counts) k disjunction left))
  unfolding read
  or_step k bs = refl

  pub and_step : (k : ℕ) (bs : List ℕ) → read (has counts) (suc k) conjunction left bs ≡ and_then (read (has counts) k item left bs) (further 38 both (read (has counts) k conjunction left))
  unfolding read
  and_step k bs = refl

pub or_later : (m n k : ℕ) → m < n → calls conjunction n ≤ k → calls disjunction m ≤ k
unfolding calls
or_later m n k h l = omega arith

pub and-later : (m n k : ℕ) → m < n → calls item n ≤ k → calls conjunction m ≤ k
unfolding calls
and-later m n k h l = omega arith

-- An item

pub nothing_begins : (counts : List ℕ) (inner : List ℕ → Reading) (left : ℕ) (m : Mark) (whole bs : List ℕ) → begins_none m ≡ true → item_by (has counts) inner left m whole bs ≡ refused 17 whole
unfolding item_by begins_none
nothing_begins counts inner left Mark.blank whole bs h = refl
nothing_begins counts inner left Mark.opening whole bs h = absurd (true-false h refl)
nothing_begins counts inner left Mark.closing whole bs h = refl
nothing_begins counts inner left Mark.ampersand whole bs h = refl
nothing_begins counts inner left Mark.bar whole bs h = refl
nothing_begins counts inner left Mark.other whole bs h = refl
nothing_begins counts inner left (Mark.letter l) whole bs h = absurd (true-false h refl)
nothing_begins counts inner left Mark.digit whole bs h = refl

module _ (text : List ℕ) (at left : ℕ) (counts : List ℕ) (start : ℕ) (e : drop start text ≡ past_blanks (drop at text)) where
  by_item : (r : Result Parsed Refusal) (nodes : List ℕ) →
      ((k : ℕ) → calls item (length text - at) ≤ suc k → FoundAs r text nodes
      (item_at (has counts) (read (has counts) k disjunction (left - 1)) left (drop start text))) → ReadAs r item text at left counts nodes
  by_item r nodes h zero l = absurd (no l)
    where
      no : calls item (length text - at) ≤ zero → ⊥
      no x = unfold calls in omega arith
  by_item r nodes h (suc k) l = subst (λ (x : Reading). FoundAs r text nodes x) (step k) (h k l)
    where
      step : (j : ℕ) → item_at (has counts) (read (has counts) j disjunction (left - 1)) left (drop start text) ≡ read (has counts) (suc j) item left (drop at text)
      step j = unfold read in ap (item_at (has counts) (read (has counts) j disjunction (left - 1)) left) e

  pub item-end : (nodes : List ℕ) → start ≡ length text → ReadAs (Err (refusal_at fault.FormulaText start)) item text at left counts nodes
  item-end nodes s = by_item (Err (refusal_at fault.FormulaText start)) nodes (λ k l. let d : drop start text ≡ [] = nothing_left text start (omega arith) in
      ap (item_at (has counts) (read (has counts) k disjunction (left - 1)) left) d ∙ none k ∙ ap (refused 17) (sym d))
    where
      none : (k : ℕ) → item_at (has counts) (read (has counts) k disjunction (left - 1)) left [] ≡ refused 17 []
      none k = unfold item_at in refl

  module _ (i : start < length text) where
    by_mark : (inner : List ℕ → Reading) {m : Mark} → mark (get_or text start 0) ≡ m →
        item_at (has counts) inner left (drop start text) ≡ item_by (has counts) inner left m (drop start text) (drop (start + 1) text)
    unfolding item_at
    by_mark inner {m} k =
        ap (item_at (has counts) inner left) (next_byte text start i)
        ∙ ap (λ (x : Mark). item_by (has counts) inner left x (get_or text start 0 ∷ drop (start + 1) text) (drop (start + 1) text)) k
        ∙ ap (λ (w : List ℕ). item_by (has counts) inner left m w (drop (start + 1) text)) (sym (next_byte text start i))

    pub item_nothing : (nodes : List ℕ) → begins_none (mark (get_or text start 0)) ≡ true → ReadAs (Err (refusal_at fault.FormulaText start)) item text at left counts nodes
    item_nothing nodes h = by_item (Err (refusal_at fault.FormulaText start)) nodes (λ k l. by_mark _ refl ∙ nothing_begins counts _ left (mark (get_or text start 0)) (drop start text) (drop (start + 1) text) h)

    pub item-name : (l : Letter) (r : Result Parsed Refusal) (nodes : List ℕ) → mark (get_or text start 0) ≡ letter l →
        FoundAs r text nodes (named (has counts) l (drop start text) (drop (start + 1) text)) → ReadAs r item text at left counts nodes
    item-name l r nodes m h = by_item r nodes (λ k c. subst (λ (x : Reading). FoundAs r text nodes x) (sym (by_mark (read (has counts) k disjunction (left - 1)) m ∙ letters k)) h)
      where
        letters : (k : ℕ) → item_by (has counts) (read (has counts) k disjunction (left - 1)) left (letter l) (drop start text)
            (drop (start + 1) text) ≡ named (has counts) l (drop start text) (drop (start + 1) text)
        letters k = unfold item_by in refl

    module _ (m : mark (get_or text start 0) ≡ opening) where
      pub item_deep : (nodes : List ℕ) → left ≡ 0 → ReadAs (Err (refusal_at fault.FormulaDepth start)) item text at left counts nodes
      item_deep nodes z = by_item (Err (refusal_at fault.FormulaDepth start)) nodes (λ k l. by_mark _ m ∙ deep k)
        where
          deep : (k : ℕ) → item_by (has counts) (read (has counts) k disjunction (left - 1)) left opening (drop start text) (drop (start + 1) text) ≡ refused 18 (drop start text)
          deep k = unfold item_by in rw (eq-eqb left 0 z) refl

      module _ (n : left ≡ 0 → ⊥) (a : at ≤ start) where
        inner_is : (k : ℕ) → item_at (has counts) (read (has counts) k disjunction (left - 1)) left (drop start text) ≡ and_then
            (read (has counts) k disjunction (left - 1) (drop (start + 1) text)) closed
        inner_is k = by_mark _ m ∙ (unfold item_by in rw (ne_eqb left 0 n) refl)

        room_inside : (k : ℕ) → calls item (length text - at) ≤ suc k → calls disjunction (length text - (start + 1)) ≤ k
        room_inside k l = unfold calls in omega arith

        pub inner_refused : (x : Refusal) (nodes : List ℕ) → ReadAs (Err x) disjunction text (start + 1) (left - 1) counts nodes →
            ReadAs (Err x) item text at left counts nodes
        inner_refused x nodes h = by_item (Err x) nodes (λ k l. inner_is k ∙ then_refused _ (h k (room_inside k l)))

        pub inner-closed : (next last : ℕ) (r : Result Parsed Refusal) (nodes : List ℕ) →
            ReadAs (Ok (parsed next last)) disjunction text (start + 1) (left - 1) counts nodes → ClosedAs r text next last → ReadAs r item text at left counts nodes
        inner-closed next last (Err x) nodes h g = by_item (Err x) nodes (λ k l. let (f, d, t) = h k (room_inside k l) in inner_is k ∙ then_done _ d ∙ g.1 f)
        inner-closed next last (Ok p) nodes h g = by_item (Ok p) nodes (λ k l. let (f, d, t) = h k (room_inside k l) in
            (f, inner_is k ∙ then_done _ d ∙ g.3 f, subst (λ (j : ℕ). Tree nodes (j - 1) f) (sym g.2) t))

-- Nodes of two sides, and the node of both

module _ (text : List ℕ) (at used next mid end last : ℕ) (before n₁ n₂ n₃ : List ℕ) (g₁ : Grown text at used next mid before n₁)
    (g₂ : Grown text (next + 1) mid end last n₁ n₂) (u : used ≤ at) (t : length text ≤ 512) (l : length before ≡ 2048) where
  pub grown-joined : (kind a b count : ℕ) → n₃ ≡ put_node n₂ (last - 1 + 1) kind a b count → Grown text at used end (last + 1) before n₃
  grown-joined kind a b count w =
      record {
        advanced = omega arith;
        within = g₂.within;
        grown = omega arith;
        bounded = omega arith;
        kept = λ j h. ap (λ (x : List ℕ). get_or x j 0) w ∙ put_node_kept n₂ (last - 1 + 1) kind a b count j (omega arith) ∙ g₂.kept j (omega arith) ∙ g₁.kept j h;
        same_length = ap length w ∙ put_node-length n₂ (last - 1 + 1) kind a b count ∙ g₂.same_length ∙ g₁.same_length;
      }

  place : last - 1 + 1 ≡ last + 1 - 1
  place = omega arith

  pub either_joined : n₃ ≡ put_node n₂ (last - 1 + 1) 5 (mid - 1) (last - 1)
      (capped (capped (get_or n₂ (4 * (mid - 1) + 3) 0) + capped (get_or n₂ (4 * (last - 1) + 3) 0))) → (f g : Formula) → Tree n₁ (mid - 1) f →
      Tree n₂ (last - 1) g → Tree n₃ (last + 1 - 1) (either f g)
  either_joined w f g a b = subst (λ (i : ℕ). Tree n₃ i (either f g)) place
      (either_tree (tree_kept n₂ mid g₂.kept (omega arith) a) b (last - 1 + 1) (omega arith) (g₂.same_length ∙ g₁.same_length ∙ l) (omega arith) (omega arith) w)

  pub both_joined : n₃ ≡ put_node n₂ (last - 1 + 1) 4 (mid - 1) (last - 1)
      (capped (capped (get_or n₂ (4 * (mid - 1) + 3) 0) * capped (get_or n₂ (4 * (last - 1) + 3) 0))) → (f g : Formula) → Tree n₁ (mid - 1) f →
      Tree n₂ (last - 1) g → Tree n₃ (last + 1 - 1) (both f g)
  both_joined w f g a b = subst (λ (i : ℕ). Tree n₃ i (both f g)) place
      (both_tree (tree_kept n₂ mid g₂.kept (omega arith) a) b (last - 1 + 1) (omega arith) (g₂.same_length ∙ g₁.same_length ∙ l) (omega arith) (omega arith) w)

-- A whole text

module _ (text : List ℕ) (counts nodes : List ℕ) where
  enough : calls disjunction (length text - 0) ≤ calls disjunction (length text)
  enough = ap-le (omega arith)
    where
      ap-le : {m n : ℕ} → m ≡ n → calls disjunction m ≤ calls disjunction n
      ap-le e = rw e (omega arith)

  pub whole_refused : (x : Refusal) → ReadAs (Err x) disjunction text 0 32 counts nodes → FoundAs (Err x) text nodes (read_text (has counts) 32 text)
  unfolding read_text
  whole_refused x h = then_refused _ (h (calls disjunction (length text)) enough)

  pub whole-more : (next last : ℕ) → next < length text → ReadAs (Ok (parsed next last)) disjunction text 0 32 counts nodes → FoundAs (Err (refusal_at fault.FormulaText next)) text nodes (read_text (has counts) 32 text)
  unfolding read_text
  whole-more next last i h = let (f, d, t) = h (calls disjunction (length text)) enough in then_done _ d ∙ ap (ended f) (next_byte text next i) ∙ more f ∙ ap (refused 17) (sym (next_byte text next i))
    where
      more : (f : Formula) → ended f (get_or text next 0 ∷ drop (next + 1) text) ≡ refused 17 (get_or text next 0 ∷ drop (next + 1) text)
      more f = unfold ended in refl

  pub whole-read : (next last : ℕ) → length text ≤ next → ReadAs (Ok (parsed next last)) disjunction text 0 32 counts nodes → FoundAs (Ok (parsed next last)) text nodes (read_text (has counts) 32 text)
  unfolding read_text
  whole-read next last i h = let (f, d, t) = h (calls disjunction (length text)) enough in
      (f, then_done _ d ∙ ap (ended f) (nothing_left text next i) ∙ none f ∙ ap (done f) (sym (nothing_left text next i)), t)
    where
      none : (f : Formula) → ended f [] ≡ done f []
      none f = unfold ended in refl

pub inside : {i n : ℕ} → i ≤ n → (i ≡ n → ⊥) → i < n
inside {i} {n} h k = ⊎_elim (λ (e : ltb i n ≡ true). ltb-true i n e) (λ e. absurd (k (omega (arith, ltb-false i n e)))) (bool_cases (ltb i n))

pub positive : {n : ℕ} → (n ≡ 0 → ⊥) → 1 ≤ n
positive {n = zero} h = absurd (h refl)
positive {n = suc n} h = omega arith

pub code_small : (code : ℕ) (l : Letter) → code ≡ letter_code l → code < 4
unfolding letter_code
code_small code Letter.E e = omega arith
code_small code Letter.R e = omega arith
code_small code Letter.D e = omega arith
code_small code Letter.B e = omega arith
