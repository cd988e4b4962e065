-- What a walk comes to: a refutation follows the rules line by line, and what the rules keep is kept to the path where it ends.
use Prim.Native.Nat.{ℕ, zero, suc}
use native.Mathlib.Omega.{arith}
use mathlib.Core.Path.{◌≡◌, refl, sym, subst}
use mathlib.Core.Logic.{⊎_elim}
use mathlib.Core.Bool.{Bool, true, false, not, cond}
use mathlib.Core.List.Memᴰ
use mathlib.Core.List.{List, [], ◌∷◌, ◌++◌, map, Memᴰ}
use mathlib.Core.Option.{Option, none, some, Option-elim}
use Rattle.logic.specs.Search.{◌and◌}
use Rattle.logic.specs.Query.{Query, term_count}
use Rattle.logic.specs.Facts.{Facts, Line, join_lines, start, is_clash, clash_lines, clash}
use Rattle.logic.specs.Rules.{Rule, Move, applies, branch, add, branches, choose, move_line, move_of}
use Rattle.logic.specs.Walk.{Look, clashing, applying, saturated, look, Ending, refutation, saturation, after, Pick, is_clashed, picked, splice, pick_each, hand_row}
use Rattle.logic.specs.OurWalk.{Walks, clashes, saturates, goes_on, all_tried, refuted_first, saturated_first}
use Rattle.logic.specs.Derivation.{Refutes, ends, follows, RefutesEach, none_left, one_more}
use Rattle.theory.proofs.Basics.Search.{and_left, and_right, not-true, is_some-false, find-some}
use Rattle.theory.proofs.Walks.Order.{choose-some}

-- The endings are told apart

pub refuted_saturated : {ls : List Line} {s : Facts} → refutation ls ≡ saturation s → ⊥
refuted_saturated e = let z : ◌≡◌ {A = ℕ} 0 1 = cc in omega arith

pub after-refutation : (ls : List Line) (e : Ending) (out : List Line) → after ls e ≡ refutation out → (ms : List Line) × (e ≡ refutation ms) × (ls ++ ms ≡ out)
unfolding after
after-refutation ls (refutation ms) out h = (ms, refl, cc)
after-refutation ls (saturation s) out h = absurd (refuted_saturated (sym h))

pub after-saturation : (ls : List Line) (e : Ending) (t : Facts) → after ls e ≡ saturation t → e ≡ saturation t
unfolding after
after-saturation ls (refutation ms) t h = absurd (refuted_saturated h)
after-saturation ls (saturation s) t h = h

-- What is seen at a path

module _ (q : Query) (order : List Rule) (s : Facts) where
  -- what each look says of the path
  unfoldable pub Seen : Look → Type 0
  Seen (clashing l) = clash q s ≡ some l
  Seen (applying m) = (clash q s ≡ none) × (applies (term_count q) s m ≡ true)
  Seen saturated = (clash q s ≡ none) × (choose (term_count q) order s ≡ none)

  pub seen : Seen (look q order s)
  unfolding Seen look Option-elim
  seen = at_clash (clash q s) refl
    where
      at_choice : (o : Option Move) → choose (term_count q) order s ≡ o → clash q s ≡ none → Seen (Option-elim o saturated applying)
      at_choice none e no_clash = (no_clash, e)
      at_choice (some m) e no_clash = (no_clash, choose-some (term_count q) s order m e)

      at_clash : (o : Option Line) → clash q s ≡ o → Seen (Option-elim o (Option-elim (choose (term_count q) order s) saturated applying) clashing)
      at_clash none e = at_choice (choose (term_count q) order s) refl e
      at_clash (some l) e = e

-- what is seen, by the look
module _ (q : Query) (order : List Rule) (s : Facts) where
  pub seen-clashing : {l : Line} → look q order s ≡ clashing l → clash q s ≡ some l
  unfolding Seen
  seen-clashing h = subst (Seen q order s) h (seen q order s)

  pub seen-applying : {m : Move} → look q order s ≡ applying m → (clash q s ≡ none) × (applies (term_count q) s m ≡ true)
  unfolding Seen
  seen-applying h = subst (Seen q order s) h (seen q order s)

  pub seen-saturated : look q order s ≡ saturated → (clash q s ≡ none) × (choose (term_count q) order s ≡ none)
  unfolding Seen
  seen-saturated h = subst (Seen q order s) h (seen q order s)

-- A refutation follows the rules

clash-true : (q : Query) (s : Facts) (l : Line) → clash q s ≡ some l → is_clash q s l ≡ true
unfolding clash
clash-true q s l e = (find-some (is_clash q s) (clash_lines q) l e).1

pub walks_refutes : (q : Query) (order : List Rule) {s : Facts} {e : Ending} → Walks q order s e → (ls : List Line) → e ≡ refutation ls → Refutes q s ls
walks_refutes q order r =
    elim r as (λ s e r. (ls : List Line) → e ≡ refutation ls → Refutes q s ls) (λ s cs e r. (ls : List Line) → e ≡ refutation ls → RefutesEach q s cs ls) [
      | clashes {s = s} l h ↦ λ ls f. subst (Refutes q s) (cc) (ends l (clash-true q s l (seen-clashing q order s h)))
      | saturates h ↦ λ ls f. absurd (refuted_saturated (sym f))
      | goes_on {s = s} m {e = d} h (rs → below) ↦ λ ls f.
          let (ms, g, k) = after-refutation (move_line m ∷ []) d ls f in
          let (free, app) = seen-applying q order s h in
          subst (Refutes q s) k (follows m free app (below ms g))
      | all_tried {s = s} ↦ λ ls f. subst (RefutesEach q s []) (cc) none_left
      | refuted_first {s = s} {c = c} {cs = cs} {ls = ls} {e = d} (r → first) (rs → rest) ↦ λ out f.
          let (ms, g, k) = after-refutation (join_lines (branch (term_count q) s c).pairs ++ ls) d out f in
          subst (RefutesEach q s (c ∷ cs)) k (one_more (first ls refl) (rest ms g))
      | saturated_first (r → first) ↦ λ out f. absurd (refuted_saturated (sym f))
    ]

-- What the rules keep

-- P passes from a path without a clash to each branch of a rule that applies to it
abbrev pub Kept : Query → (Facts → Type 0) → Type 0
Kept q P = (s s' : Facts) (m : Move) → P s → clash q s ≡ none → applies (term_count q) s m ≡ true → Memᴰ s' (branches (term_count q) s m) → P s'

-- P of the path where a walk is saturated, and what is seen there
abbrev pub EndsIn : Query → (Facts → Type 0) → List Rule → Facts → Type 0
EndsIn q P order t = P t × (clash q t ≡ none) × (choose (term_count q) order t ≡ none)

-- P of every path of a row
abbrev Everywhere : (Facts → Type 0) → List Facts → Type 0
Everywhere P row = (s : Facts) → Memᴰ s row → P s

module _ (q : Query) (P : Facts → Type 0) (kept : Kept q P) where
  pub walks_saturation : (order : List Rule) {s : Facts} {e : Ending} → Walks q order s e → (t : Facts) → P s → e ≡ saturation t → EndsIn q P order t
  unfolding branches
  walks_saturation order r =
      elim r as (λ s e r. (t : Facts) → P s → e ≡ saturation t → EndsIn q P order t) (λ s cs e r. (t : Facts) → Everywhere P (map (add (term_count q) s) cs) → e ≡ saturation t → EndsIn q P order t) [
        | clashes l h ↦ λ t p f. absurd (refuted_saturated f)
        | saturates {s = s} h ↦ λ t p f.
            let (free, e) = seen-saturated q order s h in
            let same : s ≡ t = cc in
            subst (EndsIn q P order) same (p, free, e)
        | goes_on {s = s} m {e = d} h (rs → below) ↦ λ t p f.
            let (free, app) = seen-applying q order s h in
            below t (λ s' mem. kept s s' m p free app mem) (after-saturation (move_line m ∷ []) d t f)
        | all_tried ↦ λ t p f. absurd (refuted_saturated f)
        | refuted_first {s = s} {c = c} {ls = ls} {e = d} (r → first) (rs → rest) ↦ λ t p f.
            rest t (λ s' mem. p s' (Memᴰ.tail mem)) (after-saturation (join_lines (branch (term_count q) s c).pairs ++ ls) d t f)
        | saturated_first {s = s} {c = c} (r → first) ↦ λ t p f. first t (p (add (term_count q) s c) (Memᴰ.head refl)) f
      ]

  -- The hand's row

  picked_all : (p : Pick) (s : Facts) → P s → Everywhere P (picked q p s)
  unfolding picked Option-elim is_clashed
  picked_all p s ps = at_move (move_of s.links p.rule p.at_triple)
    where
      vain : Everywhere P (s ∷ [])
      vain s' m = subst P (sym (Memᴰ.eq_of_singleton m)) ps

      test : Move → Bool
      test m = not (is_clashed q s) and applies (term_count q) s m

      at_test : (m : Move) (b : Bool) → test m ≡ b → Everywhere P (cond b (branches (term_count q) s m) (s ∷ []))
      at_test m true e s' mem =
          kept s s' m ps (is_some-false (clash q s) (not-true (and_left (not (is_clashed q s)) (applies (term_count q) s m) e)))
          (and_right (not (is_clashed q s)) (applies (term_count q) s m) e) mem
      at_test m false e s' mem = vain s' mem

      at_move : (o : Option Move) → Everywhere P (Option-elim o (s ∷ []) (λ m. cond (test m) (branches (term_count q) s m) (s ∷ [])))
      at_move none = vain
      at_move (some m) = at_test m (test m) refl

  splice_all : (f : Facts → List Facts) → ((s : Facts) → P s → Everywhere P (f s)) → (i : ℕ) (row : List Facts) → Everywhere P row → Everywhere P (splice f i row)
  unfolding splice
  splice_all f each i [] all s' m = all s' m
  splice_all f each zero (s ∷ row) all s' m = all s' m
  splice_all f each (suc zero) (s ∷ row) all s' m =
      ⊎_elim (each s (all s (Memᴰ.head refl)) s') (λ n. all s' (Memᴰ.tail n)) (Memᴰ.append_cases (f s) m)
  splice_all f each (suc (suc i)) (s ∷ row) all s' m =
      ⊎_elim (λ e. all s' (Memᴰ.head e)) (λ n. splice_all f each (suc i) row (λ s'' n'. all s'' (Memᴰ.tail n')) s' n) (Memᴰ.cases_cons m)

  pick_each-all : (picks : List Pick) (row : List Facts) → Everywhere P row → Everywhere P (pick_each q picks row)
  unfolding pick_each
  pick_each-all [] row all = all
  pick_each-all (p ∷ ps) row all = pick_each-all ps (splice (picked q p) p.position row) (splice_all (picked q p) (picked_all p) p.position row all)

  pub row-all : P (start q) → (picks : List Pick) (s : Facts) → Memᴰ s (hand_row q picks) → P s
  unfolding hand_row
  row-all p picks = pick_each-all picks (start q ∷ []) (λ s m. subst P (sym (Memᴰ.eq_of_singleton m)) p)
