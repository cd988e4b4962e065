-- What is seen at a path, and that its numbers fit a byte.
use Prim.Native.Nat.{ℕ, ◌≤◌}
use native.Mathlib.Omega.{arith}
use mathlib.Core.Path.{◌≡◌, sym, ap, ◌∙◌, subst}
use mathlib.Core.Logic.{⊎_elim}
use mathlib.Core.List.Memᴰ
use mathlib.Core.List.{List, map, Memᴰ}
use mathlib.Core.Option.{Option, none, some, Option-elim}
use lib.ListN.{length}
use Rattle.logic.specs.Search.{from, keep, first_of, flat_map}
use Rattle.logic.specs.Query.{Literal, Query, term_count}
use Rattle.logic.specs.Facts.{Facts, link_numbers, Line, line, is_clash, clash_lines, clash}
use Rattle.logic.specs.Rules.{Rule, Triple, triple, Move, move, applies, triples, choose}
use Rattle.logic.specs.Walk.{clashing, applying, saturated, look}
use Rattle.theory.proofs.Basics.Search.{keep_some, first_of-some, find-some, from-mem, flat_map-mem, map-mem}
use Rattle.theory.proofs.Paths.Applies.{triple_range}

module _ (q : Query) (order : List Rule) (s : Facts) where
  pub look-clashing : (l : Line) → clash q s ≡ some l → look q order s ≡ clashing l
  unfolding look Option-elim
  look-clashing l h = rw h

  pub look-applying : (m : Move) → clash q s ≡ none → choose (term_count q) order s ≡ some m → look q order s ≡ applying m
  unfolding look Option-elim
  look-applying m h k = rw (h, k)

  pub look-saturated : clash q s ≡ none → choose (term_count q) order s ≡ none → look q order s ≡ saturated
  unfolding look Option-elim
  look-saturated h k = rw (h, k)

  -- and back
  look_cases : (o : Option Line) (p : Option Move) → (l : Line) → Option-elim o (Option-elim p saturated applying) clashing ≡ clashing l → o ≡ some l
  unfolding Option-elim
  look_cases none none l h = let z : ◌≡◌ {A = ℕ} 0 1 = cc in absurd (omega arith)
  look_cases none (some m) l h = let z : ◌≡◌ {A = ℕ} 0 1 = cc in absurd (omega arith)
  look_cases (some l') p l h = ap some (cc)

  clashing_back : (l : Line) → look q order s ≡ clashing l → clash q s ≡ some l
  unfolding look
  clashing_back l h = look_cases (clash q s) (choose (term_count q) order s) l h

  move_cases : (o : Option Line) (p : Option Move) → (m : Move) → Option-elim o (Option-elim p saturated applying) clashing ≡ applying m → p ≡ some m
  unfolding Option-elim
  move_cases none none m h = let z : ◌≡◌ {A = ℕ} 0 1 = cc in absurd (omega arith)
  move_cases none (some m') m h = ap some (cc)
  move_cases (some l) p m h = let z : ◌≡◌ {A = ℕ} 0 1 = cc in absurd (omega arith)

  applying_back : (m : Move) → look q order s ≡ applying m → choose (term_count q) order s ≡ some m
  unfolding look
  applying_back m h = move_cases (clash q s) (choose (term_count q) order s) m h

pub move_range : (q : Query) (order : List Rule) (s : Facts) (i : ℕ) (r : Rule) (x y z : ℕ) → look q order s ≡ applying (move i r (triple x y z)) →
    (x ≤ term_count q) × (y ≤ term_count q) × (z ≤ term_count q)
unfolding choose
move_range q order s i r x y z h =
    let n : ℕ = term_count q in
    let m : Move = move i r (triple x y z) in
    let at : Rule → ℕ → Triple → Option Move = λ r i t. keep (applies n s (move i r t)) (move i r t) in
    let f = first_of-some (λ r. first_of (λ i. first_of (at r i) (triples n)) (link_numbers s.links)) order m (applying_back q order s m h) in
    let l = first_of-some (λ i. first_of (at f.0 i) (triples n)) (link_numbers s.links) m f.2 in
    let g = first_of-some (at f.0 l.0) (triples n) m l.2 in
    let k = (keep_some (applies n s (move l.0 f.0 g.0)) g.2).1 in
    let e : g.0 ≡ triple x y z = cc in
    triple_range n x y z (subst (λ (t : Triple). Memᴰ t (triples n)) e g.1)

-- the numbers of a line
abbrev pub Small : ℕ → Line → Type 0
Small m (line a b c d) = (b ≤ 4) × (c ≤ m) × (d ≤ m)

alone_small : (m k : ℕ) (ls : List Literal) (l : Line) → k ≤ 4 → length ls ≤ m → Memᴰ l (map (λ i. line 9 k i 0) (from (length ls) 1)) → Small m l
alone_small m k ls l h g i =
    let p = map-mem (λ i. line 9 k i 0) l (from (length ls) 1) i in
    let r = from-mem (length ls) 1 p.0 p.1 in
    subst (Small m) (sym p.2) (h, omega arith, omega arith)

paired_small : (m k : ℕ) (ls : List Literal) (l : Line) → k ≤ 4 → length ls ≤ m → Memᴰ l (flat_map (λ i. map (line 9 k i) (from (length ls) 1)) (from (length ls) 1)) → Small m l
paired_small m k ls l h g i =
    let p = flat_map-mem (λ i. map (line 9 k i) (from (length ls) 1)) l (from (length ls) 1) i in
    let r = from-mem (length ls) 1 p.0 p.1 in
    let c = map-mem (line 9 k p.0) l (from (length ls) 1) p.2 in
    let t = from-mem (length ls) 1 c.0 c.1 in
    subst (Small m) (sym c.2) (h, omega arith, omega arith)

pub clash_range : (q : Query) (order : List Rule) (s : Facts) (m : ℕ) (l : Line) → length q.equalities ≤ m → length q.reachability ≤ m →
    length q.fields ≤ m → look q order s ≡ clashing l → Small m l
unfolding clash clash_lines
clash_range q order s m l a b c h =
    let i = (find-some (is_clash q s) (clash_lines q) l (clashing_back q order s l h)).0 in
    ⊎_elim (λ p. alone_small m 2 q.equalities l (omega arith) a p)
    (λ p. ⊎_elim (λ p. alone_small m 3 q.reachability l (omega arith) b p)
    (λ p. paired_small m 4 q.fields l (omega arith) c p) (Memᴰ.append_cases _ p)) (Memᴰ.append_cases _ i)

-- What the code's searches find, as what is seen
module _ (q : Query) (order : List Rule) (s : Facts) (n : ℕ) (terms_are : n ≡ term_count q) (o : Option Line) (found : o ≡ clash q s) where
  pub seen-clashing : (l : Line) → o ≡ some l → clashing l ≡ look q order s
  seen-clashing l e = sym (look-clashing q order s l (sym found ∙ e))

  module _ (p : Option Move) (none_clash : o ≡ none) (chosen : p ≡ choose n order s) where
    choice : choose (term_count q) order s ≡ p
    choice = ap (λ (j : ℕ). choose j order s) (sym terms_are) ∙ sym chosen

    pub seen-applying : (m : Move) → p ≡ some m → applying m ≡ look q order s
    seen-applying m f = sym (look-applying q order s m (sym found ∙ none_clash) (choice ∙ f))

    pub seen-saturated : p ≡ none → saturated ≡ look q order s
    seen-saturated f = sym (look-saturated q order s (sym found ∙ none_clash) (choice ∙ f))
