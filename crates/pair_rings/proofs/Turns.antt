-- Tests and searches as the code's loops meet them: what is left equals the whole.
use Prim.Native.Nat.{ℕ, suc, ◌+◌, ◌-◌, ◌≤◌, ◌<◌}
use native.Mathlib.Nat.{sub-zero}
use native.Mathlib.Numerals.{add-one}
use native.Mathlib.Omega.{arith}
use mathlib.Core.Path.{◌≡◌, refl, sym, ap, ap₂, ◌∙◌, fun_ext}
use mathlib.Core.Logic.{⊎_elim}
use mathlib.Core.Bool.{Bool, true, false, ◌&&◌, ◌||◌}
use mathlib.Core.List.{List, [], ◌∷◌, ◌++◌, map, append_assoc, append-nil, Memᴰ}
use mathlib.Core.Option.{none, some, Option-elim}
use lib.ListN.{length, get_or, set, take, drop, replicate, length-set, length-replicate, take-append-drop, get_or-replicate}
use lib.Seq.{length-take-le, drop-drop, get_or-set_same, get_or-set_other, take-suc-set, drop-set-lt}
use lib.Dec.{eqb}
use borrow.Author.Tests.{eq-eqb, ne_eqb}
use Rattle.logic.specs.Search.{◌and◌, ◌or◌, from, any, find, first_of}
use Rattle.logic.specs.Calls.{padded}
use Rattle.theory.proofs.Basics.Search.{from-mem, find-some, or-false, any_alike}
use Rattle.theory.proofs.Basics.Compare.{eq_cases}
use Rattle.rows.proofs.Selections.{and_both, any_turn, any_end as any_none}
use Rattle.ordering.specs.Sheet.{Pair, count_of, pair_at, pairs, laid_out, rules_only, paired}
use Rattle.ordering.specs.Finding.{leads, onward, next_on, follow, ring_start, ring_of, shown_ring}
use Rattle.ordering.proofs.Lists.{is_rule_lem}
use Rattle.ordering.proofs.Sheets.{sheet_numbered}

-- the tests of pairs, pair by pair

any-map : {A : Type 0} (f : A → Bool) (g : ℕ → A) (xs : List ℕ) → any f (map g xs) ≡ any (λ x. f (g x)) xs
unfolding any
any-map f g [] = refl
any-map f g (x ∷ xs) = ap (λ (b : Bool). f (g x) or b) (any-map f g xs)

module _ (sheet : List ℕ) (f : Pair → Bool) where
  pub any-pairs : any f (pairs sheet) ≡ any (λ i. f (pair_at sheet i)) (from (count_of sheet - 0) 0)
  unfolding pairs
  any-pairs = any-map f (pair_at sheet) (from (count_of sheet) 0) ∙ ap (λ (n : ℕ). any (λ i. f (pair_at sheet i)) (from n 0)) (sym (sub-zero (count_of sheet)))

-- a pair leads from a to b, as the code tests it
abbrev pub joins : List ℕ → ℕ → ℕ → ℕ → Bool
joins sheet a b i = eqb (pair_at sheet i).earlier a && eqb (pair_at sheet i).later b

pub paired-pairs : (sheet : List ℕ) (a b : ℕ) → paired (pairs sheet) a b ≡ any (joins sheet a b) (from (count_of sheet - 0) 0)
unfolding paired
paired-pairs sheet a b =
    any-pairs sheet (λ p. eqb p.earlier a and eqb p.later b)
    ∙ ap (λ (f : ℕ → Bool). any f (from (count_of sheet - 0) 0)) (fun_ext (λ i. sym (and_both (eqb (pair_at sheet i).earlier a) (eqb (pair_at sheet i).later b))))

-- The ways

-- what leads in one pair more, after the first i pairs are looked at
abbrev pub Marks : List ℕ → List Bool → ℕ → ℕ → List Bool → Type 0
Marks sheet row end i out =
    (a : ℕ) → a < 9 → any (λ p. eqb p.earlier a and get_or row p.later false) (pairs sheet) ≡ get_or out a false or any
    (λ j. eqb (pair_at sheet j).earlier a and get_or row (pair_at sheet j).later false) (from (end - i) i)

pub marks_start : (sheet : List ℕ) (row : List Bool) → Marks sheet row (count_of sheet) 0 (replicate 9 false)
unfolding ◌or◌
marks_start sheet row a h =
    rw (get_or-replicate 9 a false false h) (any-pairs sheet (λ p. eqb p.earlier a and get_or row p.later false))

or_assoc : (a b c : Bool) → a or (b or c) ≡ (a or b) or c
unfolding ◌or◌
or_assoc true b c = refl
or_assoc false b c = refl

or_both : (a b : Bool) → a || b ≡ a or b
unfolding ◌or◌
or_both true b = refl
or_both false b = refl

mark_set : (out : List Bool) (e a : ℕ) (v : Bool) → e < length out → get_or (set out e (get_or out e false || v)) a false ≡ get_or out a false or (eqb e a and v)
unfolding ◌and◌
mark_set out e a v h =
    ⊎_elim
    (λ q. ap (λ (b : ℕ). get_or (set out e (get_or out e false || v)) b false) (sym q) ∙ get_or-set_same out e (get_or out e false || v) false h
    ∙ or_both (get_or out e false) v ∙ ap₂ (λ (b : ℕ) (t : Bool). get_or out b false or (t and v)) q (sym (eq-eqb e a q)))
    (λ d. get_or-set_other out e a (get_or out e false || v) false (λ q. d.0 (sym q)) ∙ rw d.1 (sym (or-false (get_or out a false))))
    (eq_cases e a)

pub marks_turn : (sheet : List ℕ) (row : List Bool) (end i : ℕ) (out : List Bool) (e l : ℕ) → i < end → length out ≡ 9 → e < 9 →
    e ≡ (pair_at sheet i).earlier → l ≡ (pair_at sheet i).later → Marks sheet row end i out → Marks sheet row end (i + 1) (set out e (get_or out e false || get_or row l false))
marks_turn sheet row end i out e l h size small from_pair to_pair m a k =
    m a k
    ∙ ap (λ (b : Bool). get_or out a false or b) (any_turn (λ j. eqb (pair_at sheet j).earlier a and get_or row (pair_at sheet j).later false) end i h)
    ∙ or_assoc (get_or out a false) (eqb (pair_at sheet i).earlier a and get_or row (pair_at sheet i).later false)
    (any (λ j. eqb (pair_at sheet j).earlier a and get_or row (pair_at sheet j).later false) (from (end - (i + 1)) (i + 1)))
    ∙ ap (λ (b : Bool). b or any (λ j. eqb (pair_at sheet j).earlier a and get_or row (pair_at sheet j).later false) (from (end - (i + 1)) (i + 1)))
    (ap₂ (λ (x y : ℕ). get_or out a false or (eqb x a and get_or row y false)) (sym from_pair) (sym to_pair) ∙ sym (mark_set out e a (get_or row l false) (omega arith)))

pub marks_end : (sheet : List ℕ) (row : List Bool) (end i : ℕ) (out : List Bool) → end ≤ i → Marks sheet row end i out → (a : ℕ) → a < 9 →
    get_or out a false ≡ any (λ p. eqb p.earlier a and get_or row p.later false) (pairs sheet)
marks_end sheet row end i out h m a k =
    sym (m a k ∙ ap (λ (b : Bool). get_or out a false or b) (any_none (λ j. eqb (pair_at sheet j).earlier a and get_or row (pair_at sheet j).later false) end i h) ∙ or-false (get_or out a false))

-- the numbers from which k pairs lead to z
abbrev pub Row : List ℕ → ℕ → ℕ → List Bool → Type 0
Row sheet z k row = (a : ℕ) → a < 9 → get_or row a false ≡ leads (pairs sheet) k a z

pub row-start : (sheet : List ℕ) (z : ℕ) → z ≤ 8 → Row sheet z 0 (set (replicate 9 false) z true)
unfolding leads
row-start sheet z h a k =
    ⊎_elim
    (λ q. ap (λ (b : ℕ). get_or (set (replicate 9 false) z true) b false) (sym q) ∙ get_or-set_same (replicate 9 false) z true false (omega (arith, length-replicate 9 false)) ∙ sym (eq-eqb a z (sym q)))
    (λ d. get_or-set_other (replicate 9 false) z a true false (λ q. d.0 (sym q)) ∙ get_or-replicate 9 a false false k ∙ sym (ne_eqb a z (λ q. d.0 (sym q))))
    (eq_cases z a)

pub row_turn : (sheet : List ℕ) (z k : ℕ) (row next : List Bool) → laid_out sheet ≡ true → rules_only sheet ≡ true → Row sheet z k row →
    ((a : ℕ) → a < 9 → get_or next a false ≡ any (λ p. eqb p.earlier a and get_or row p.later false) (pairs sheet)) → Row sheet z (k + 1) next
unfolding leads
row_turn sheet z k row next l n r s a h =
    s a h
    ∙ any_alike (λ p. eqb p.earlier a and get_or row p.later false) (λ p. eqb p.earlier a and leads (pairs sheet) k p.later z) (pairs sheet)
    (λ p m. ap (λ (b : Bool). eqb p.earlier a and b) (r p.later (small p m)))
    ∙ ap (λ (j : ℕ). leads (pairs sheet) j a z) (sym (add-one k))
  where
    small : (p : Pair) → Memᴰ p (pairs sheet) → p.later < 9
    small p m = omega (arith, is_rule_lem p.later ((sheet_numbered sheet l n).later_rule p m))

-- The ring

module _ (ps : List Pair) where
  pub onward-not : (z k a r : ℕ) → paired ps a r ≡ false → onward ps z k a r ≡ false
  unfolding onward ◌and◌
  onward-not z k a r h = rw h

  pub onward_is : (z k a r : ℕ) → paired ps a r ≡ true → onward ps z k a r ≡ leads ps k r z
  unfolding onward ◌and◌
  onward_is z k a r h = rw h

  pub next_found : (z k a r : ℕ) → find (onward ps z k a) (from 8 1) ≡ some r → next_on ps z k a ≡ r
  unfolding next_on Option-elim
  next_found z k a r h = rw h

  pub next_missing : (z k a : ℕ) → find (onward ps z k a) (from 8 1) ≡ none → next_on ps z k a ≡ 0
  unfolding next_on Option-elim
  next_missing z k a h = rw h

  pub start_small : (k s : ℕ) → ring_start ps k ≡ some s → s ≤ 8
  unfolding ring_start
  start_small k s h = omega (arith, from-mem 8 1 s (find-some (λ s. leads ps k s s) (from 8 1) s h).0)

  pub ring_here : (k s : ℕ) → ring_start ps k ≡ some s → ring_of ps k ≡ some (s ∷ follow ps s (k - 1) s)
  unfolding ring_of Option-elim
  ring_here k s h = rw h

  pub ring-not : (k : ℕ) → ring_start ps k ≡ none → ring_of ps k ≡ none
  unfolding ring_of Option-elim
  ring-not k h = rw h

  pub shown_some : (ring : List ℕ) → first_of (ring_of ps) (from 8 1) ≡ some ring → shown_ring ps ≡ ring
  unfolding shown_ring Option-elim
  shown_some ring h = rw h

  pub shown_none : first_of (ring_of ps) (from 8 1) ≡ none → shown_ring ps ≡ []
  unfolding shown_ring Option-elim
  shown_none h = rw h

  -- n numbers of the ring of k are written, a the last of them
  pub record Followed (k s n a : ℕ) (ring : List ℕ) : Type 0 where
    pub begun : 1 ≤ n
    pub within : n ≤ k
    pub size : length ring ≡ 8
    pub whole : s ∷ follow ps s (k - 1) s ≡ take n ring ++ follow ps s (k - n) a
    pub blank : drop n ring ≡ replicate (8 - n) 0

  pub followed_start : (k s : ℕ) → 1 ≤ k → Followed k s 1 s (set (replicate 8 0) 0 s)
  followed_start k s h = record { begun = omega arith; within = h; size = refl; whole = refl; blank = refl }

  pub followed_turn : (k s n a r : ℕ) (ring : List ℕ) → n < k → k ≤ 8 → r ≡ next_on ps s (k - n) a → Followed k s n a ring → Followed k s (n + 1) r (set ring n r)
  unfolding follow
  followed_turn k s n a r ring h small e f =
      record {
        begun = omega arith;
        within = omega arith;
        size = simp length-set f.size;
        whole =
            f.whole
            ∙ ap (λ (j : ℕ). take n ring ++ follow ps s j a) left
            ∙ ap (λ (x : ℕ). take n ring ++ x ∷ follow ps s (k - (n + 1)) x) (ap (λ (j : ℕ). next_on ps s j a) (sym left) ∙ sym e)
            ∙ sym (append_assoc (take n ring) (r ∷ []) (follow ps s (k - (n + 1)) r))
            ∙ ap (λ (l : List ℕ). l ++ follow ps s (k - (n + 1)) r) (sym (take-suc-set ring n r (omega (arith, f.size))) ∙ ap (λ (j : ℕ). take j (set ring n r)) (sym (add-one n)));
        blank = drop-set-lt (n + 1) ring n r (omega arith) ∙ sym (drop-drop 1 n ring) ∙ ap (drop 1) (f.blank ∙ ap (λ (j : ℕ). replicate j 0) more);
      }
    where
      left : k - n ≡ suc (k - (n + 1))
      left = omega arith

      more : 8 - n ≡ suc (8 - (n + 1))
      more = omega arith

  pub followed_end : (k s n a : ℕ) (ring : List ℕ) → k ≤ n → k ≤ 8 → Followed k s n a ring → ring ≡ padded 8 (s ∷ follow ps s (k - 1) s)
  unfolding padded follow
  followed_end k s n a ring h small f =
      sym (take-append-drop n ring)
      ∙ ap₂ (λ (u v : List ℕ). u ++ v) (sym front) (f.blank ∙ ap (λ (j : ℕ). replicate (8 - j) 0) (sym count))
    where
      none_left : k - n ≡ 0
      none_left = omega arith

      front : s ∷ follow ps s (k - 1) s ≡ take n ring
      front = f.whole ∙ ap (λ (j : ℕ). take n ring ++ follow ps s j a) none_left ∙ append-nil (take n ring)

      count : length (s ∷ follow ps s (k - 1) s) ≡ n
      count = ap length front ∙ length-take-le n ring (omega (arith, f.size, f.within))
