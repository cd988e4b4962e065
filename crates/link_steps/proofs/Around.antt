-- Where the links lead, after how many steps, and past which terms.
use Prim.Native.Nat.{ℕ, zero, suc, ◌+◌, ◌-◌, ◌≤◌, ◌<◌}
use native.Mathlib.Omega.{arith}
use native.Mathlib.Numerals.{add-one}
use native.Mathlib.Nat.{eq-or-lt_of_le}
use mathlib.Core.Path.{◌≡◌, refl, sym, ap, ap₂, ◌∙◌}
use mathlib.Core.Logic.{⊎_elim}
use mathlib.Core.Bool.{Bool, true, false, cond}
use mathlib.Core.List.{List, map}
use mathlib.Core.Option.{Option, none, some}
use lib.Bits.{bit_or}
use lib.Dec.{eqb, ltb}
use borrow.Author.Tests.{eq-eqb, ne_eqb, lt-ltb, le-ltb}
use Rattle.logic.specs.Search.{◌or◌, from, any, find}
use Rattle.logic.specs.Heap.{iterate}
use Rattle.logic.specs.Facts.{Graph, terms}
use Rattle.logic.specs.Rules.{equal, next, returns, round, held}
use Rattle.theory.proofs.Basics.Compare.{eq_cases, le_cases}
use Rattle.theory.proofs.Basics.Search.{find-some, from-mem}
use Rattle.theory.proofs.Basics.Iterate.{iterate-suc, iterate-add}
use Rattle.std.specs.Prelude as code
use Rattle.std.specs.Option.{unwrap_or}
use Rattle.rows.specs.Bits.{bit}
use Rattle.rows.specs.declared.Term.{Term}
use Rattle.rows.specs.Options.{found_of}
use Rattle.facts.specs.Path.{graph_of, links_in}
use Rattle.rows.proofs.Bits.{bit-or}
use Rattle.link_steps.specs.Cycle.{steps_to}

-- the successor of a term, as a search finds it
module _ (n : ℕ) (g : Graph) (c : ℕ) where
  pub next-some : (a : ℕ) → find (g.link c) (terms n) ≡ some a → next n g c ≡ a
  unfolding next
  next-some a e = rw e

  pub next-none : find (g.link c) (terms n) ≡ none → next n g c ≡ 0
  unfolding next
  next-none e = rw e

  -- what was found, or 0
  pub next_or : (o : code.Option Term) (t : Term) → found_of o ≡ find (g.link c) (terms n) → t ≡ unwrap_or o (record { 0 = 0 }) → t.0 ≡ next n g c
  next_or (code.Some a) t e f = ap (λ (u : Term). u.0) f ∙ sym (next-some a.0 (sym e))
  next_or code.None t e f = ap (λ (u : Term). u.0) f ∙ sym (next-none (sym e))

  pub next_le : next n g c ≤ n
  unfolding terms
  next_le = go (find (g.link c) (terms n)) refl
    where
      go : (o : Option ℕ) → find (g.link c) (terms n) ≡ o → next n g c ≤ n
      go none e = let h = next-none e in omega arith
      go (some a) e = let h = next-some a e in let l = from-mem n 1 a (find-some (g.link c) (from n 1) a e).0 in omega arith

-- the term that so many links lead to
module _ (n : ℕ) (g : Graph) where
  pub iterate-none : (k c : ℕ) → k ≡ 0 → iterate (next n g) k c ≡ c
  unfolding iterate
  iterate-none k c e = rw e

  -- one link more, after k
  pub iterate_turn : (k c t d : ℕ) → t ≡ iterate (next n g) k c → d ≡ next n g t → d ≡ iterate (next n g) (k + 1) c
  iterate_turn k c t d e f = f ∙ ap (next n g) e ∙ sym (iterate-suc (next n g) k c) ∙ ap (λ (j : ℕ). iterate (next n g) j c) (sym (add-one k))

  -- a link that leads back where it starts leads nowhere else
  iterate_still : (k t : ℕ) → next n g t ≡ t → iterate (next n g) k t ≡ t
  unfolding iterate
  iterate_still zero t e = refl
  iterate_still (suc k) t e = ap (iterate (next n g) k) e ∙ iterate_still k t e

  pub iterate_stuck : (k m c t : ℕ) → k ≤ m → t ≡ iterate (next n g) k c → next n g t ≡ t → t ≡ iterate (next n g) m c
  iterate_stuck k m c t l e s =
      let j : k + (m - k) ≡ m = omega arith in
      sym (iterate_still (m - k) t s) ∙ ap (iterate (next n g) (m - k)) e ∙ sym (iterate-add (next n g) k (m - k) c) ∙ ap (λ (i : ℕ). iterate (next n g) i c) j

  pub iterate-le : (k c m : ℕ) → n ≤ m → c ≤ m → iterate (next n g) k c ≤ m
  unfolding iterate
  iterate-le zero c m h l = l
  iterate-le (suc k) c m h l = iterate-le k (next n g c) m h (let b = next_le n g c in omega arith)

eqb-suc : (a b : ℕ) → eqb (suc a) (suc b) ≡ eqb a b
eqb-suc a b = ⊎_elim (λ e. eq-eqb (suc a) (suc b) (ap suc e) ∙ sym (eq-eqb a b e)) (λ d. ne_eqb (suc a) (suc b) (λ q. d.0 (omega arith)) ∙ sym d.1) (eq_cases a b)

ltb-suc : (a b : ℕ) → ltb (suc a) (suc b) ≡ ltb a b
ltb-suc a b = ⊎_elim (λ h. le-ltb (suc a) (suc b) (omega arith) ∙ sym (le-ltb a b h)) (λ h. lt-ltb (suc a) (suc b) (omega arith) ∙ sym (lt-ltb a b h)) (le_cases b a)

or_swap : (a b c : Bool) → (a or b) or c ≡ (a or c) or b
unfolding ◌or◌
or_swap true b c = refl
or_swap false true true = refl
or_swap false true false = refl
or_swap false false true = refl
or_swap false false false = refl

or_again : (a b : Bool) → (a or b) or b ≡ a or b
unfolding ◌or◌
or_again true b = refl
or_again false true = refl
or_again false false = refl

module _ (n : ℕ) (g : Graph) (x : ℕ) where
  -- no step is made where none is left, or where x is; else one, and those from the next term on
  steps_none : (left c : ℕ) → left ≡ 0 → steps_to n g x left c ≡ 0
  unfolding steps_to
  steps_none left c e = rw e

  steps-here : (left c : ℕ) → c ≡ x → steps_to n g x left c ≡ 0
  unfolding steps_to
  steps-here zero c e = refl
  steps-here (suc left) c e = rw (eq-eqb c x e)

  steps_on : (left c : ℕ) → (left ≡ 0 → ⊥) → (c ≡ x → ⊥) → steps_to n g x left c ≡ steps_to n g x (left - 1) (next n g c) + 1
  unfolding steps_to
  steps_on zero c h e = absurd (h refl)
  steps_on (suc left) c h e = rw (ne_eqb c x e, less, sym (add-one (steps_to n g x left (next n g c))))
    where
      less : suc left - 1 ≡ left
      less = omega arith

  pub steps_le : (left c : ℕ) → steps_to n g x left c ≤ left
  unfolding steps_to
  steps_le zero c = omega arith
  steps_le (suc left) c = go (eqb c x) (steps_le left (next n g c))
    where
      go : (t : Bool) → steps_to n g x left (next n g c) ≤ left → cond t 0 (suc (steps_to n g x left (next n g c))) ≤ suc left
      go true h = omega arith
      go false h = omega arith

  pub steps_bound : (left c s : ℕ) → s ≡ steps_to n g x left c → s ≤ left
  steps_bound left c s e = let l = steps_le left c in omega arith

  steps_stuck : (c : ℕ) → next n g c ≡ c → (c ≡ x → ⊥) → (left : ℕ) → steps_to n g x left c ≡ left
  unfolding steps_to
  steps_stuck c e d zero = refl
  steps_stuck c e d (suc left) = rw (ne_eqb c x d, e) (ap suc (steps_stuck c e d left))

  -- k of the steps are made and t is where they lead: at first, there, at the end, at a link back to t, or one step on
  pub follow_start : (left t : ℕ) → steps_to n g x left t ≡ 0 + steps_to n g x (left - 0) t
  follow_start left t =
      let e : left ≡ left - 0 = omega arith in
      let f : steps_to n g x left t ≡ steps_to n g x (left - 0) t = ap (λ (j : ℕ). steps_to n g x j t) e in
      omega (arith, f)

  pub follow_there : (left k t whole : ℕ) → whole ≡ k + steps_to n g x (left - k) t → t ≡ x → k ≡ whole
  follow_there left k t whole e h = omega (arith, e, steps-here (left - k) t h)

  pub follow_end : (left k t whole : ℕ) → whole ≡ k + steps_to n g x (left - k) t → left ≤ k → k ≡ whole
  follow_end left k t whole e h = omega (arith, e, steps_none (left - k) t (omega arith))

  pub follow_stuck : (left k t whole : ℕ) → whole ≡ k + steps_to n g x (left - k) t → k < left → (t ≡ x → ⊥) → next n g t ≡ t → left ≡ whole
  follow_stuck left k t whole e l h s = omega (arith, e, steps_stuck t s h (left - k))

  pub follow_turn : (left k t d whole : ℕ) → whole ≡ k + steps_to n g x (left - k) t → k < left → (t ≡ x → ⊥) → d ≡ next n g t → whole ≡ (k + 1) + steps_to n g x (left - (k + 1)) d
  follow_turn left k t d whole e l h f =
      let s = steps_on (left - k) t (omega arith) h in
      let m : left - k - 1 ≡ left - (k + 1) = omega arith in
      let u : steps_to n g x (left - k - 1) (next n g t) ≡ steps_to n g x (left - (k + 1)) d = ap (λ (j : ℕ). steps_to n g x j (next n g t)) m ∙ ap (steps_to n g x (left - (k + 1))) (sym f) in
      omega (arith, e, s, u)

  -- x is one of the terms from which the steps are made: of none, of one more before them, of one more after them, of all after a link back
  pub passed_none : (c : ℕ) → false ≡ ltb (steps_to n g x 0 c) 0
  passed_none c = sym (le-ltb (steps_to n g x 0 c) 0 (omega arith))

  pub passed_on : (c s : ℕ) → ltb (steps_to n g x s (next n g c)) s or eqb x c ≡ ltb (steps_to n g x (s + 1) c) (s + 1)
  unfolding ◌or◌ steps_to
  passed_on c s = rw (add-one s) (⊎_elim here there (eq_cases c x))
    where
      either : (t : Bool) → t or true ≡ true
      either true = refl
      either false = refl

      neither : (t : Bool) → t or false ≡ t
      neither true = refl
      neither false = refl

      here : c ≡ x → ltb (steps_to n g x s (next n g c)) s or eqb x c ≡ ltb (cond (eqb c x) 0 (suc (steps_to n g x s (next n g c)))) (suc s)
      here e = rw (eq-eqb c x e, eq-eqb x c (sym e)) (either (ltb (steps_to n g x s (next n g c)) s) ∙ sym (lt-ltb 0 (suc s) (omega arith)))

      there : (c ≡ x → ⊥) × (eqb c x ≡ false) → ltb (steps_to n g x s (next n g c)) s or eqb x c ≡ ltb (cond (eqb c x) 0 (suc (steps_to n g x s (next n g c)))) (suc s)
      there d = rw (d.1, ne_eqb x c (λ q. d.0 (sym q))) (neither (ltb (steps_to n g x s (next n g c)) s) ∙ sym (ltb-suc (steps_to n g x s (next n g c)) s))

  pub passed_turn : (k c : ℕ) → ltb (steps_to n g x k c) k or eqb x (iterate (next n g) k c) ≡ ltb (steps_to n g x (k + 1) c) (k + 1)
  unfolding steps_to iterate
  passed_turn zero c = passed_on c 0
  passed_turn (suc k) c =
      ap (λ (t : Bool). t or eqb x (iterate (next n g) k (next n g c))) (sym before)
      ∙ or_swap (ltb (steps_to n g x k (next n g c)) k) (eqb x c) (eqb x (iterate (next n g) k (next n g c)))
      ∙ ap (λ (t : Bool). t or eqb x c) (passed_turn k (next n g c) ∙ ap (λ (j : ℕ). ltb (steps_to n g x j (next n g c)) j) (add-one k))
      ∙ passed_on c (suc k)
    where
      before : ltb (steps_to n g x k (next n g c)) k or eqb x c ≡ ltb (steps_to n g x (suc k) c) (suc k)
      before = passed_on c k ∙ ap (λ (j : ℕ). ltb (steps_to n g x j c) j) (add-one k)

  pub passed_stuck : (k c t : ℕ) → t ≡ iterate (next n g) k c → next n g t ≡ t → (left : ℕ) → k < left → ltb (steps_to n g x k c) k or eqb x t ≡ ltb (steps_to n g x left c) left
  passed_stuck k c t e s zero l = absurd (omega arith)
  passed_stuck k c t e s (suc left) l = ⊎_elim here (λ h. there (passed_stuck k c t e s left h)) (eq-or-lt_of_le within)
    where
      within : k ≤ left
      within = omega arith

      last : ltb (steps_to n g x left c) left or eqb x t ≡ ltb (steps_to n g x (suc left) c) (suc left)
      last = ap (λ (u : ℕ). ltb (steps_to n g x left c) left or eqb x u) (iterate_stuck n g k left c t within e s) ∙ passed_turn left c ∙ ap (λ (j : ℕ). ltb (steps_to n g x j c) j) (add-one left)

      here : k ≡ left → ltb (steps_to n g x k c) k or eqb x t ≡ ltb (steps_to n g x (suc left) c) (suc left)
      here q = ap (λ (j : ℕ). ltb (steps_to n g x j c) j or eqb x t) q ∙ last

      there : ltb (steps_to n g x k c) k or eqb x t ≡ ltb (steps_to n g x left c) left → ltb (steps_to n g x k c) k or eqb x t ≡ ltb (steps_to n g x (suc left) c) (suc left)
      there q = sym (or_again (ltb (steps_to n g x k c) k) (eqb x t)) ∙ ap (λ (b : Bool). b or eqb x t) q ∙ last

  -- to a number that is no term the links never lead
  pub steps_never : n < x → (left c : ℕ) → c < x → steps_to n g x left c ≡ left
  unfolding steps_to
  steps_never h zero c l = refl
  steps_never h (suc left) c l = rw (ne_eqb c x (omega arith)) (ap suc (steps_never h left (next n g c) (let b = next_le n g c in omega arith)))

  -- the links from c lead to x after as many steps as lead there from the next term, and one; not after any other number of them
  pub returns_is : (left k c : ℕ) → k < left → returns n g x (suc k) c ≡ eqb k (steps_to n g x left (next n g c))
  unfolding returns steps_to
  returns_is zero k c h = absurd (omega arith)
  returns_is (suc left) zero c h = go (eqb (next n g c) x)
    where
      go : (t : Bool) → cond t true false ≡ eqb 0 (cond t 0 (suc (steps_to n g x left (next n g (next n g c)))))
      go true = refl
      go false = sym (ne_eqb 0 (suc (steps_to n g x left (next n g (next n g c)))) (λ (e : 0 ≡ suc (steps_to n g x left (next n g (next n g c)))). omega arith))
  returns_is (suc left) (suc k) c h = go (eqb (next n g c) x) (returns_is left k (next n g c) (omega arith))
    where
      go : (t : Bool) → returns n g x (suc k) (next n g c) ≡ eqb k (steps_to n g x left (next n g (next n g c))) →
          cond t (eqb (suc k) 0) (returns n g x (suc k) (next n g c)) ≡ eqb (suc k) (cond t 0 (suc (steps_to n g x left (next n g (next n g c)))))
      go true ih = refl
      go false ih = ih ∙ sym (eqb-suc k _)

  returns-zero : (c : ℕ) → returns n g x 0 c ≡ false
  unfolding returns
  returns-zero c = refl

  pub returns-not : (left k c : ℕ) → k ≤ left → (k ≡ steps_to n g x left (next n g c) + 1 → ⊥) → returns n g x k c ≡ false
  returns-not left zero c h e = returns-zero c
  returns-not left (suc k) c h e = returns_is left k c (omega arith) ∙ ne_eqb k _ (λ q. e (omega arith))

  pub returns_at : (left k c : ℕ) → k ≤ left → k ≡ steps_to n g x left (next n g c) + 1 → returns n g x k c ≡ true
  returns_at left zero c h e = absurd (omega arith)
  returns_at left (suc k) c h e = returns_is left k c (omega arith) ∙ eq-eqb k _ (omega arith)

  -- x is one of the k terms from c on exactly where fewer than k steps lead there
  pub round_is : (k c : ℕ) → any (held (λ i. g)) (map (equal x) (round n g k c)) ≡ ltb (steps_to n g x k c) k
  unfolding any round held ◌or◌ steps_to
  round_is zero c = refl
  round_is (suc k) c = ⊎_elim here (λ d. there d.0 (round_is k (next n g c))) (eq_cases c x)
    where
      here : c ≡ x → (eqb x c or any (held (λ i. g)) (map (equal x) (round n g k (next n g c)))) ≡ ltb (cond (eqb c x) 0 (suc (steps_to n g x k (next n g c)))) (suc k)
      here e = rw (eq-eqb c x e, eq-eqb x c (sym e)) (sym (lt-ltb 0 (suc k) (omega arith)))

      there : (c ≡ x → ⊥) → any (held (λ i. g)) (map (equal x) (round n g k (next n g c))) ≡ ltb (steps_to n g x k (next n g c)) k →
          (eqb x c or any (held (λ i. g)) (map (equal x) (round n g k (next n g c)))) ≡ ltb (cond (eqb c x) 0 (suc (steps_to n g x k (next n g c)))) (suc k)
      there e ih = rw (ne_eqb c x e, ne_eqb x c (λ q. e (sym q))) (ih ∙ sym (ltb-suc _ k))

-- following reads the links alone
module _ (n : ℕ) (link reach : List ℕ) where
  pub steps_links : (x k c : ℕ) → steps_to n (links_in link) x k c ≡ steps_to n (graph_of link reach) x k c
  unfolding steps_to next links_in graph_of
  steps_links x zero c = refl
  steps_links x (suc k) c = ap (λ (s : ℕ). cond (eqb c x) 0 (suc s)) (steps_links x k (next n (links_in link) c))

  -- from the successor of x, which is found first
  pub back_links : (x c s : ℕ) → c ≡ next n (links_in link) x → s ≡ steps_to n (links_in link) x n c → s + 1 ≡ steps_to n (graph_of link reach) x n (next n (graph_of link reach) x) + 1
  unfolding next links_in graph_of
  back_links x c s e h = ap (λ (k : ℕ). k + 1) (h ∙ ap (steps_to n (links_in link) x n) e ∙ steps_links x n (next n (links_in link) x))

-- the terms passed, with one more before them; with one more after them, from which the links lead on or back
pub passed_more : (n : ℕ) (g : Graph) (y c d s passed o : ℕ) → d ≡ next n g c → bit passed y ≡ ltb (steps_to n g y s d) s → bit o y ≡ eqb y c →
    bit (bit_or passed o) y ≡ ltb (steps_to n g y (s + 1) c) (s + 1)
passed_more n g y c d s passed o q e f = bit-or passed o y ∙ ap₂ ◌or◌ (e ∙ ap (λ (t : ℕ). ltb (steps_to n g y s t) s) q) f ∙ passed_on n g y c s

module _ (n : ℕ) (g : Graph) (c k t passed o : ℕ) (e : t ≡ iterate (next n g) k c) (f : (y : ℕ) → bit passed y ≡ ltb (steps_to n g y k c) k) (h : (y : ℕ) → bit o y ≡ eqb y t) where
  pub passed_then : (y : ℕ) → bit (bit_or passed o) y ≡ ltb (steps_to n g y (k + 1) c) (k + 1)
  passed_then y = bit-or passed o y ∙ ap₂ ◌or◌ (f y) (h y ∙ ap (eqb y) e) ∙ passed_turn n g y k c

  pub passed_ever : (left : ℕ) → k < left → next n g t ≡ t → (y : ℕ) → bit (bit_or passed o) y ≡ ltb (steps_to n g y left c) left
  passed_ever left l s y = bit-or passed o y ∙ ap₂ ◌or◌ (f y) (h y) ∙ passed_stuck n g y k c t e s left l
