-- A word added to a row.
use Prim.Native.Nat.{ℕ, ◌+◌, ◌≤◌, ◌<◌}
use native.Mathlib.Omega.{arith}
use mathlib.Core.Path.{◌≡◌, refl, sym, ap, ap₂, ◌∙◌, subst, subst₂}
use mathlib.Core.Logic.{◌⊎◌, ⊎_elim, inl, inr}
use mathlib.Core.Bool.{Bool, true, false, cond}
use mathlib.Core.List.{List}
use lib.ListN.{length, get_or, set}
use lib.Bits.{bit_and, bit_or}
use lib.Dec.{eqb}
use borrow.Author.Tests.{ne_eqb}
use Rattle.logic.specs.Search.{◌and◌, ◌or◌}
use Rattle.logic.specs.Facts.{Graph, Facts, live}
use Rattle.logic.specs.Decision.{Follows, is_held, itself, by_link, onward, Closes}
use Rattle.theory.proofs.Basics.Search.{true-false, and_left, and_right, and_intro, or_cases, or_left, or_right, and-false}
use Rattle.theory.proofs.Basics.Compare.{eq_cases, eqb-true, eqb_self, le_cases}
use Rattle.theory.proofs.Paths.Ranged.{live_range}
use Rattle.rows.specs.Bits.{bit}
use Rattle.rows.specs.Square.{row_of, square}
use Rattle.link_rows.specs.Cube.{cube}
use Rattle.facts.specs.Path.{graph_of, graph_in, no_facts, graphs, path_as, HasLink}
use Rattle.facts.proofs.Path.{linking, alike-graph, graph_at, graph_beyond, graph-none}
use Rattle.rows.proofs.Bits.{bit-and, bit-or, bit-none}
use Rattle.rows.proofs.Square.{row_or, row_in, row_beyond, row_none, square_row, square_in, square_above, square_beside, set_same, set_other}
use Rattle.closing.specs.Closed.{Closed}
use Rattle.closing.specs.Rows.{Within, Above, Seeded, Passed, Onward, LinkClosed}

-- what TRANS2 concludes through the numbers below k is in the rows
abbrev pub OnwardBelow : List ℕ → ℕ → Type 0
OnwardBelow rows k = (a b c : ℕ) → b < k → square rows a b ≡ true → square rows b c ≡ true → square rows a c ≡ true

module _ (rows : List ℕ) (full : length rows ≡ 17) (a w : ℕ) (h : a ≤ 16) where
  abbrev rows' : List ℕ
  rows' = set rows a (bit_or (get_or rows a 0) w)

  -- a fact of the new rows is one of the old, or one of the word's
  or-true : (x y : ℕ) → square rows' x y ≡ true → (square rows x y ≡ true) ⊎ ((x ≡ a) × (y ≤ 16) × (bit w y ≡ true))
  or-true x y e =
      ⊎_elim
      (λ p.
      let f : square rows' a y ≡ true = subst (λ (z : ℕ). square rows' z y ≡ true) p e in
      let in_row : y ≤ 16 = ⊎_elim (λ l. l) (λ l. absurd (true-false f (square_beside rows' a y (omega arith)))) (le_cases y 16) in
      let g : row_of (get_or rows a 0) y or row_of w y ≡ true = sym (row_or (get_or rows a 0) w y) ∙ sym (ap (λ (r : ℕ → Bool). r y) (set_same rows a (bit_or (get_or rows a 0) w) full h)) ∙ f in
      ⊎_elim
      (λ old. inl (rw p (ap (λ (r : ℕ → Bool). r y) (square_row rows a h) ∙ old)))
      (λ new. inr (p, in_row, sym (row_in w y in_row) ∙ new))
      (or_cases (row_of (get_or rows a 0) y) (row_of w y) g))
      (λ d. inl (sym (ap (λ (r : ℕ → Bool). r y) (set_other rows a (bit_or (get_or rows a 0) w) x d.0)) ∙ e))
      (eq_cases x a)

  or_kept : (x y : ℕ) → square rows x y ≡ true → square rows' x y ≡ true
  or_kept x y e =
      ⊎_elim
      (λ p.
      let f : row_of (get_or rows a 0) y ≡ true = sym (ap (λ (r : ℕ → Bool). r y) (square_row rows a h)) ∙ subst (λ (z : ℕ). square rows z y ≡ true) p e in
      rw p (ap (λ (r : ℕ → Bool). r y) (set_same rows a (bit_or (get_or rows a 0) w) full h) ∙ row_or (get_or rows a 0) w y ∙ or_left (row_of w y) f))
      (λ d. ap (λ (r : ℕ → Bool). r y) (set_other rows a (bit_or (get_or rows a 0) w) x d.0) ∙ e)
      (eq_cases x a)

  pub within_more : (alive : ℕ → Bool) (link reach : ℕ → ℕ → Bool) → Within alive link reach rows → ((y : ℕ) → y ≤ 16 → bit w y ≡ true → Follows alive link reach a y) → Within alive link reach rows'
  within_more alive link reach in_old new x y e =
      ⊎_elim (λ o. in_old x y o) (λ o. let (p, l, b) = o in subst (λ (z : ℕ). Follows alive link reach z y) (sym p) (new y l b)) (or-true x y e)

  pub above_more : (reach : ℕ → ℕ → Bool) → Above reach rows → Above reach rows'
  above_more reach up x y e = or_kept x y (up x y e)

pub within_first : (alive : ℕ → Bool) (link : ℕ → ℕ → Bool) (rows : List ℕ) → Within alive link (square rows) rows
within_first alive link rows a b e = is_held e

-- a bit of row a is a fact, where it speaks of a number up to 16
bit-square : (rows : List ℕ) (a y : ℕ) → a ≤ 16 → y ≤ 16 → bit (get_or rows a 0) y ≡ true → square rows a y ≡ true
bit-square rows a y h l e = square_in rows a y h l ∙ e

-- what a turn of each loop adds
pub seed_follows : (alive : ℕ) (link : List ℕ) (reach : ℕ → ℕ → Bool) (a o : ℕ) → a ≤ 16 → ((i : ℕ) → bit o i ≡ eqb i a) → (y : ℕ) → y ≤ 16 →
    bit (bit_or (get_or link a 0) (bit_and o alive)) y ≡ true → Follows (bit alive) (square link) reach a y
seed_follows alive link reach a o h e y l t =
    ⊎_elim
    (λ p. by_link (bit-square link a y h l p))
    (λ p.
    let b : bit o y and bit alive y ≡ true = sym (bit-and o alive y) ∙ p in
    let same : y ≡ a = eqb-true y a (sym (e y) ∙ and_left (bit o y) (bit alive y) b) in
    subst (λ (z : ℕ). Follows (bit alive) (square link) reach a z) (sym same) (itself (subst (λ (z : ℕ). bit alive z ≡ true) same (and_right (bit o y) (bit alive y) b))))
    (or_cases (bit (get_or link a 0) y) (bit (bit_and o alive) y) (sym (bit-or (get_or link a 0) (bit_and o alive) y) ∙ t))

-- the rows below a hold what REFLEX and TRANS1 conclude
abbrev pub SeededBelow : ℕ → List ℕ → ℕ → List ℕ → Type 0
SeededBelow alive link a rows = ((x b : ℕ) → x < a → square link x b ≡ true → square rows x b ≡ true) × ((x : ℕ) → x < a → bit alive x ≡ true → square rows x x ≡ true)

pub seeded_none : (alive : ℕ) (link rows : List ℕ) → SeededBelow alive link 0 rows
seeded_none alive link rows = (λ x b l e. absurd (omega arith), λ x l e. absurd (omega arith))

pub seeded_more : (alive : ℕ) (link rows : List ℕ) (a o : ℕ) → length rows ≡ 17 → a ≤ 16 → ((i : ℕ) → bit o i ≡ eqb i a) →
    SeededBelow alive link a rows → SeededBelow alive link (a + 1) (set rows a (bit_or (get_or rows a 0) (bit_or (get_or link a 0) (bit_and o alive))))
seeded_more alive link rows a o full h e (links, own) = (
  λ x b l t.
      ⊎_elim
      (λ p. rw p (here b (or_left (row_of (bit_and o alive) b) (sym (ap (λ (r : ℕ → Bool). r b) (square_row link a h)) ∙ subst (λ (z : ℕ). square link z b ≡ true) p t))))
      (λ d. ap (λ (r : ℕ → Bool). r b) (set_other rows a _ x d.0) ∙ links x b (let ne = d.0 in omega arith) t)
      (eq_cases x a),
  λ x l t.
      ⊎_elim
      (λ p.
      rw p (here a (or_right (row_of (get_or link a 0) a)
      (row_in (bit_and o alive) a h ∙ bit-and o alive a ∙ and_intro (e a ∙ eqb_self a) (subst (λ (z : ℕ). bit alive z ≡ true) p t)))))
      (λ d. ap (λ (r : ℕ → Bool). r x) (set_other rows a _ x d.0) ∙ own x (let ne = d.0 in omega arith) t)
      (eq_cases x a),
)
  where
    here : (b : ℕ) → row_of (get_or link a 0) b or row_of (bit_and o alive) b ≡ true → square (set rows a (bit_or (get_or rows a 0) (bit_or (get_or link a 0) (bit_and o alive)))) a b ≡ true
    here b t =
        ap (λ (r : ℕ → Bool). r b) (set_same rows a _ full h)
        ∙ row_or (get_or rows a 0) (bit_or (get_or link a 0) (bit_and o alive)) b
        ∙ or_right (row_of (get_or rows a 0) b) (row_or (get_or link a 0) (bit_and o alive) b ∙ t)

pub seeded_all : (alive : ℕ) (link rows : List ℕ) → SeededBelow alive link 17 rows → Seeded (bit alive) (square link) rows
seeded_all alive link rows (links, own) = (
  λ a b t. ⊎_elim (λ l. links a b (omega arith) t) (λ l. absurd (true-false t (square_above link a b l))) (le_cases a 16),
  λ a l t. own a (omega arith) t,
)

pub seeded_kept : (alive : ℕ → Bool) (link : ℕ → ℕ → Bool) (rows later : List ℕ) → Above (square rows) later → Seeded alive link rows → Seeded alive link later
seeded_kept alive link rows later up (links, own) = (λ a b t. up a b (links a b t), λ a l t. up a a (own a l t))

-- the row of a, once it has what y reaches
pub through_row : (rows out : List ℕ) (y a w : ℕ) → length out ≡ 17 → a ≤ 16 → y ≤ 16 → ((b : ℕ) → square out a b ≡ square rows a b) →
    ((i : ℕ) → bit w i ≡ bit (get_or out a 0) y and bit (get_or rows y 0) i) → (b : ℕ) →
    square (set out a (bit_or (get_or out a 0) w)) a b ≡ square rows a b or (square rows a y and square rows y b)
through_row rows out y a w full la ly same e b =
    ap (λ (r : ℕ → Bool). r b) (set_same out a (bit_or (get_or out a 0) w) full la)
    ∙ row_or (get_or out a 0) w b
    ∙ ap₂ (λ (x z : Bool). x or z) (sym (ap (λ (r : ℕ → Bool). r b) (square_row out a la)) ∙ same b) (⊎_elim inside outside (le_cases b 16))
  where
    inside : b ≤ 16 → row_of w b ≡ square rows a y and square rows y b
    inside l = row_in w b l ∙ e b ∙ ap₂ (λ (x z : Bool). x and z) (sym (square_in out a y la ly) ∙ same y) (sym (square_in rows y b ly l))

    outside : 16 < b → row_of w b ≡ square rows a y and square rows y b
    outside l = row_beyond w b l ∙ sym (ap (λ (z : Bool). square rows a y and z) (square_beside rows y b l) ∙ and-false (square rows a y))

-- after the rows below a
pub through_more : (rows out : List ℕ) (y a w : ℕ) → length out ≡ 17 → a ≤ 16 → y ≤ 16 →
    ((x b : ℕ) → x < a → square out x b ≡ square rows x b or (square rows x y and square rows y b)) →
    ((x b : ℕ) → a ≤ x → square out x b ≡ square rows x b) → ((i : ℕ) → bit w i ≡ bit (get_or out a 0) y and bit (get_or rows y 0) i) → (x b : ℕ) →
    x < a + 1 → square (set out a (bit_or (get_or out a 0) w)) x b ≡ square rows x b or (square rows x y and square rows y b)
through_more rows out y a w full la ly done left e x b l =
    ⊎_elim
    (λ p. rw p (through_row rows out y a w full la ly (λ c. left a c (omega arith)) e b))
    (λ d. ap (λ (r : ℕ → Bool). r b) (set_other out a (bit_or (get_or out a 0) w) x d.0) ∙ done x b (let ne = d.0 in omega arith))
    (eq_cases x a)

pub through_left : (rows out : List ℕ) (a w : ℕ) → ((x b : ℕ) → a ≤ x → square out x b ≡ square rows x b) → (x b : ℕ) → a + 1 ≤ x → square (set out a w) x b ≡ square rows x b
through_left rows out a w left x b l = ap (λ (r : ℕ → Bool). r b) (set_other out a w x (λ p. omega arith)) ∙ left x b (omega arith)

-- all rows; the numbers above 16 have none
pub through_all : (rows out : List ℕ) (y : ℕ) → ((x b : ℕ) → x < 17 → square out x b ≡ square rows x b or (square rows x y and square rows y b)) → Passed out rows y
unfolding ◌and◌ ◌or◌
through_all rows out y done a b =
    ⊎_elim
    (λ l. done a b (omega arith))
    (λ l. square_above out a b l ∙ sym (rw (square_above rows a b l, square_above rows a y l) refl))
    (le_cases a 16)

-- where y reaches nothing
pub through_none : (rows : List ℕ) (y : ℕ) → y ≤ 16 → get_or rows y 0 ≡ 0 → Passed rows rows y
unfolding ◌or◌
through_none rows y h e a b = sym (ap (λ (z : Bool). square rows a b or (square rows a y and z)) empty
    ∙ ap (λ (z : Bool). square rows a b or z) (and-false (square rows a y)) ∙ or-none (square rows a b))
  where
    empty : square rows y b ≡ false
    empty = ap (λ (r : ℕ → Bool). r b) (square_row rows y h) ∙ ap (λ (w : ℕ). row_of w b) e ∙ row_none b

    or-none : (x : Bool) → x or false ≡ x
    or-none true = refl
    or-none false = refl

-- What passing on through k leaves, of any relation
module _ (rows later : List ℕ) (k : ℕ) (p : Passed later rows k) where
  passed_cases : (a b : ℕ) → square later a b ≡ true → (square rows a b ≡ true) ⊎ ((square rows a k ≡ true) × (square rows k b ≡ true))
  passed_cases a b e =
      ⊎_elim (λ o. inl o) (λ o. inr (and_left (square rows a k) (square rows k b) o, and_right (square rows a k) (square rows k b) o))
      (or_cases (square rows a b) (square rows a k and square rows k b) (sym (p a b) ∙ e))

  pub passed_kept : (a b : ℕ) → square rows a b ≡ true → square later a b ≡ true
  passed_kept a b e = p a b ∙ or_left (square rows a k and square rows k b) e

  passed_via : (a b : ℕ) → square rows a k ≡ true → square rows k b ≡ true → square later a b ≡ true
  passed_via a b e f = p a b ∙ or_right (square rows a b) (and_intro e f)

  pub passed_within : (alive : ℕ → Bool) (link reach : ℕ → ℕ → Bool) → Within alive link reach rows → Within alive link reach later
  passed_within alive link reach inside a b e = ⊎_elim (λ o. inside a b o) (λ o. onward (inside a k o.0) (inside k b o.1)) (passed_cases a b e)

  pub passed_onward : OnwardBelow rows k → OnwardBelow later (k + 1)
  passed_onward below a b c l e f = ⊎_elim through_k lower (eq_cases b k)
    where
      to_k : (x : ℕ) → square later x k ≡ true → square rows x k ≡ true
      to_k x g = ⊎_elim (λ o. o) (λ o. o.0) (passed_cases x k g)

      from_k : (x : ℕ) → square later k x ≡ true → square rows k x ≡ true
      from_k x g = ⊎_elim (λ o. o) (λ o. o.1) (passed_cases k x g)

      through_k : b ≡ k → square later a c ≡ true
      through_k q = passed_via a c (to_k a (subst (λ (z : ℕ). square later a z ≡ true) q e)) (from_k c (subst (λ (z : ℕ). square later z c ≡ true) q f))

      lower : (b ≡ k → ⊥) × (eqb b k ≡ false) → square later a c ≡ true
      lower d =
          let ne = d.0 in
          let m : b < k = omega arith in
          ⊎_elim
          (λ o. ⊎_elim (λ o'. passed_kept a c (below a b c m o o')) (λ o'. passed_via a c (below a b k m o o'.0) o'.1) (passed_cases b c f))
          (λ o. ⊎_elim (λ o'. passed_via a c o.0 (below k b c m o.1 o')) (λ o'. passed_via a c o.0 o'.1) (passed_cases b c f))
          (passed_cases a b e)

pub onward_all : (rows : List ℕ) → OnwardBelow rows 17 → Onward rows
onward_all rows below a b c e f = ⊎_elim (λ l. below a b c (omega arith) e f) (λ l. absurd (true-false e (square_beside rows a b l))) (le_cases b 16)

-- bits handed on where the row has y, and where it has not
pub passed_all : (row y far i : ℕ) → bit row y ≡ true → bit far i ≡ bit row y and bit far i
unfolding ◌and◌
passed_all row y far i e = rw e refl

pub passed_none : (row y far i : ℕ) → bit row y ≡ false → bit 0 i ≡ bit row y and bit far i
unfolding ◌and◌
passed_none row y far i e = bit-none i ∙ rw e refl

-- the rows of a link with all that follows
pub link-closed : (alive : ℕ) (link reach rows : List ℕ) → Within (bit alive) (square link) (square reach) rows → Above (square reach) rows →
    Seeded (bit alive) (square link) rows → Onward rows → LinkClosed (bit alive) (graph_of link reach) (graph_of link rows)
unfolding graph_of
link-closed alive link reach rows inside up (links, own) on =
    record { same_link = refl; reach_kept = up; reach_follows = inside; link_held = links; itself_held = own; onward_held = on }

-- a path, and another with all that follows of each of its links: facts are of these alone
module _ (n : ℕ) (s t : Facts) (alive : ℕ → Bool) (e : alive ≡ live n s) (same_rep : t.rep ≡ s.rep) (same_links : t.links ≡ s.links)
    (at_link : (i : ℕ) → HasLink s i → LinkClosed alive (s.graph i) (t.graph i))
    (elsewhere : (i : ℕ) → HasLink s i ⊎ ((s.graph i ≡ no_facts) × (t.graph i ≡ no_facts))) where
  reach_within : (i a b : ℕ) → (t.graph i).reach a b ≡ true → HasLink s i
  unfolding no_facts
  reach_within i a b f = ⊎_elim (λ h. h) (λ none. absurd (true-false f (ap (λ (g : Graph). g.reach a b) none.1))) (elsewhere i)

  link-within : (i a b : ℕ) → (t.graph i).link a b ≡ true → HasLink s i
  unfolding no_facts
  link-within i a b f = ⊎_elim (λ h. h) (λ none. absurd (true-false f (ap (λ (g : Graph). g.link a b) none.1))) (elsewhere i)

  closes : Closes n s t
  closes =
      record {
        same_rep = same_rep;
        same_links = same_links;
        same_link = λ i. ⊎_elim (λ h. (at_link i h).same_link) (λ none. ap (λ (g : Graph). g.link) (none.1 ∙ sym none.0)) (elsewhere i);
        reach_kept = λ i a b f. ⊎_elim (λ h. (at_link i h).reach_kept a b f) (λ none. ap (λ (g : Graph). g.reach a b) (none.1 ∙ sym none.0) ∙ f) (elsewhere i);
        reach_linked = λ i a b f. let h = reach_within i a b f in let l = h.0 in (omega arith, h.1);
        reach_follows = λ i a b f. subst (λ (p : ℕ → Bool). Follows p (s.graph i).link (s.graph i).reach a b) e ((at_link i (reach_within i a b f)).reach_follows a b f);
      }

  closed : n ≤ 16 → Closed n t
  unfolding live
  closed small =
      record {
        itself_held = λ i a low high h.
            let live_a : live n s a ≡ true = rw (sym same_rep) h in
            let m : i ≤ s.links = rw (sym same_links) high in
            (at_link i (omega arith, m)).itself_held a (let in_n = live_range n s a live_a in omega arith) (ap (λ (p : ℕ → Bool). p a) e ∙ live_a);
        link_held = λ i a b f. (at_link i (link-within i a b f)).link_held a b f;
        onward_held = λ i a b d f g. (at_link i (reach_within i a b f)).onward_held a b d f g;
      }

-- rows of all links in which those of link k alone were put in place
module _ (later rows : List ℕ) (k : ℕ) (own : ℕ → ℕ → Bool) (e : cube later ≡ (λ j. cond (eqb j k) own (cube rows j))) where
  at : (j : ℕ) → cube later j ≡ cond (eqb j k) own (cube rows j)
  at j = ap (λ (f : ℕ → ℕ → ℕ → Bool). f j) e

  pub put_own : cube later k ≡ own
  put_own = at k ∙ rw (eqb_self k)

  pub put_others : (j : ℕ) → (j ≡ k → ⊥) → cube later j ≡ cube rows j
  put_others j d = at j ∙ rw (ne_eqb j k d)

-- a link closed in rows of its own is closed in those of all links
pub closed_in : (alive : ℕ → Bool) (link reach later : List ℕ) (k : ℕ) (own part last : List ℕ) → square own ≡ cube link k →
    square part ≡ cube reach k → cube later k ≡ square last → LinkClosed alive (graph_of own part) (graph_of own last) →
    LinkClosed alive (graph_in link reach k) (graph_in link later k)
unfolding graph_of graph_in
closed_in alive link reach later k own part last d e f = subst₂ (LinkClosed alive) (alike-graph d e) (alike-graph d (sym f))

-- The links closed one after the other
module _ (alive : ℕ → Bool) (link reach : List ℕ) where
  -- those below k are closed, and the rows of the others are as they were
  abbrev pub ClosedBelow : ℕ → List ℕ → Type 0
  ClosedBelow k later = ((j : ℕ) → 0 < j → j < k → LinkClosed alive (graph_in link reach j) (graph_in link later j)) × ((j : ℕ) → k ≤ j → cube later j ≡ cube reach j)

  pub closed_more : (k : ℕ) (cur later : List ℕ) → LinkClosed alive (graph_in link cur k) (graph_in link later k) →
      ((j : ℕ) → (j ≡ k → ⊥) → cube later j ≡ cube cur j) → ClosedBelow k cur → ClosedBelow (k + 1) later
  unfolding graph_in
  closed_more k cur later here there (done, left) = (
    λ j l m.
        ⊎_elim
        (λ e. rw e (subst (λ (f : ℕ → ℕ → Bool). LinkClosed alive (linking (cube link k) f) (graph_in link later k)) (left k (omega arith)) here))
        (λ d. rw (there j d.0) (done j l (let ne = d.0 in omega arith)))
        (eq_cases j k),
    λ j l. there j (λ e. omega arith) ∙ left j (omega arith),
  )

-- the path that arrays hold, once all its links are closed
module _ (n : ℕ) (single : Bool) (rep link reach later : List ℕ) (alive : ℕ → Bool) (e : alive ≡ live n (path_as single rep link reach)) (k : ℕ)
    (past : cond single 1 3 < k) (below : ClosedBelow alive link reach k later) where
  abbrev was : Facts
  was = path_as single rep link reach

  abbrev becomes : Facts
  becomes = path_as single rep link later

  at_each : (i : ℕ) → HasLink was i → LinkClosed alive (was.graph i) (becomes.graph i)
  at_each i h = rw (graph_at single link reach i h.1, graph_at single link later i h.1) (below.0 i h.0 (omega (arith, h.1, past)))

  outside : (i : ℕ) → HasLink was i ⊎ ((was.graph i ≡ no_facts) × (becomes.graph i ≡ no_facts))
  outside i =
      ⊎_elim
      (λ l. ⊎_elim (λ z. inr (none reach l z, none later l z)) (λ z. inl (z, l)) (le_cases i 0))
      (λ l. inr (graph_beyond single link reach i l, graph_beyond single link later i l))
      (le_cases i (cond single 1 3))
    where
      none : (rows : List ℕ) → i ≤ cond single 1 3 → i ≤ 0 → graphs single link rows i ≡ no_facts
      none rows l z = graph_at single link rows i l ∙ graph-none link rows i z

  pub rows-closed : n ≤ 16 → Closes n was becomes × Closed n becomes
  rows-closed small = (closes n was becomes alive e refl refl at_each outside, closed n was becomes alive e refl refl at_each outside small)

-- the same where the other arrays are handed back as they were
pub path-closed : (n : ℕ) (single : Bool) (rep link reach : List ℕ) (single' : Bool) (rep' link' later : List ℕ) (alive : ℕ → Bool) →
    single' ≡ single → rep' ≡ rep → link' ≡ link → alive ≡ live n (path_as single rep link reach) → (k : ℕ) → cond single 1 3 < k →
    ClosedBelow alive link reach k later → n ≤ 16 →
    Closes n (path_as single rep link reach) (path_as single' rep' link' later) × Closed n (path_as single' rep' link' later)
path-closed n single rep link reach single' rep' link' later alive d f g e k past below small =
    rw (d, f, g) (rows-closed n single rep link reach later alive e k past below small)
