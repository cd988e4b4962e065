-- "Refuted" is right: lines that refute a path leave no heap of which its facts are true, and neither does a row of a hand's whose
-- paths all clash.
use Prim.Native.Nat.{ℕ, zero, suc, ◌≤◌}
use native.Mathlib.Omega.{arith}
use mathlib.Core.Path.{◌≡◌, refl, subst}
use mathlib.Core.Logic.{⊎_elim}
use mathlib.Core.Bool.{Bool, true, false, not, cond}
use mathlib.Core.List.Memᴰ
use mathlib.Core.List.{List, [], ◌∷◌, map, Memᴰ}
use mathlib.Core.Option.{Option, none, some, Option-elim}
use Rattle.logic.specs.Search.{◌and◌, all, any}
use Rattle.logic.specs.Query.{Query, term_count}
use Rattle.logic.specs.Heap.{Heap, Meets, Satisfiable, value}
use Rattle.logic.specs.Facts.{Facts, Line, live, start, is_clash, clash_lines, clash}
use Rattle.logic.specs.Rules.{Move, applies, add, branches, move_of}
use Rattle.logic.specs.Walk.{refuted, satisfiable, Pick, is_clashed, is_saturated, picked, splice, pick_each, hand_row, hand_verdict}
use Rattle.logic.specs.Derivation.{Derivation, Refutes, ends, follows, none_left, one_more}
use Rattle.theory.proofs.Basics.Search.{none-some, is_some-true, and_left, and_right, all_true, find-some, map_intro}
use Rattle.theory.proofs.Basics.Compare.{ltb-true}
use Rattle.theory.proofs.Query.Tied.{Accepted}
use Rattle.theory.proofs.Paths.Applies.{applies_met}
use Rattle.theory.proofs.Soundness.Truth.{Holds}
use Rattle.theory.proofs.Soundness.RuleSound.{rule_sound}
use Rattle.theory.proofs.Soundness.FactsSound.{holds_add, start_holds}
use Rattle.theory.proofs.Soundness.ClashSound.{clash_sound}

live_term : (n : ℕ) (s : Facts) (t : ℕ) → live n s t ≡ true → 1 ≤ t
unfolding live
live_term n s t e = ltb-true 0 t (and_left _ _ (and_left _ _ e))

module _ (q : Query) (h : Heap) where
  -- the facts of a path are true of the heap; those of some path of a row are
  abbrev pub HoldsIn : Facts → Type 0
  HoldsIn s = Holds h.link (value h q.entries) s

  abbrev pub SomeHolds : List Facts → Type 0
  SomeHolds row = (s : Facts) × Memᴰ s row × HoldsIn s

  -- a path where a rule applies gives way to one that still holds
  pub branch_holds : (s : Facts) → HoldsIn s → (m : Move) → applies (term_count q) s m ≡ true → SomeHolds (branches (term_count q) s m)
  unfolding branches
  branch_holds s holds m e =
      let n = term_count q in
      let (c, i, t) = rule_sound h.link (value h q.entries) n s.graph holds.graph_true (live n s) (live_term n s) m (applies_met n s m e) in
      (add n s c, map_intro (add n s) c i, holds_add h.link (value h q.entries) n c t s holds)

module _ (q : Query) (ok : Accepted q) (h : Heap) (meets : Meets h q) where
  pub refutes_sound : {s : Facts} {ls : List Line} → Refutes q s ls → HoldsIn q h s → ⊥
  unfolding branches
  refutes_sound r =
      elim r as (λ s ls r. HoldsIn q h s → ⊥) (λ s cs ls r. SomeHolds q h (map (add (term_count q) s) cs) → ⊥) [
        | ends {s = s} l e ↦ λ holds. clash_sound q ok h meets s holds l e
        | follows {s = s} m c e (rs → below) ↦ λ holds. below (branch_holds q h s holds m e)
        | none_left ↦ λ t. Memᴰ.not-nil t.1
        | one_more (r → first) (rs → others) ↦ λ t. ⊎_elim (λ e. first (subst (HoldsIn q h) e t.2)) (λ i. others (t.0, i, t.2)) (Memᴰ.cases_cons t.1)
      ]

  clashed_not : (s : Facts) → is_clashed q s ≡ true → HoldsIn q h s → ⊥
  unfolding is_clashed clash
  clashed_not s e holds =
      let (l, found) = is_some-true (clash q s) e in
      clash_sound q ok h meets s holds l (find-some (is_clash q s) (clash_lines q) l found).1

-- a derivation leaves no heap
pub derivation_sound : (q : Query) → Accepted q → {ls : List Line} → Derivation q ls → Satisfiable q → ⊥
derivation_sound q ok d (h, meets) = refutes_sound q ok h meets d.refutes (start_holds q ok h meets)

-- The hand's row: some path of it holds, whatever is picked
module _ (q : Query) (h : Heap) where
  picked-holds : (p : Pick) (s : Facts) → HoldsIn q h s → SomeHolds q h (picked q p s)
  unfolding picked Option-elim
  picked-holds p s holds = go (move_of s.links p.rule p.at_triple)
    where
      stays : SomeHolds q h (s ∷ [])
      stays = (s, Memᴰ.head refl, holds)

      pick : (b : Bool) (m : Move) → (b ≡ true → applies (term_count q) s m ≡ true) → SomeHolds q h (cond b (branches (term_count q) s m) (s ∷ []))
      pick true m e = branch_holds q h s holds m (e refl)
      pick false m e = stays

      go : (o : Option Move) → SomeHolds q h (Option-elim o (s ∷ []) (λ m. cond (not (is_clashed q s) and applies (term_count q) s m) (branches (term_count q) s m) (s ∷ [])))
      go none = stays
      go (some m) = pick (not (is_clashed q s) and applies (term_count q) s m) m (and_right (not (is_clashed q s)) (applies (term_count q) s m))

  module _ (f : Facts → List Facts) (kept : (s : Facts) → HoldsIn q h s → SomeHolds q h (f s)) where
    splice-holds : (i : ℕ) (row : List Facts) → SomeHolds q h row → SomeHolds q h (splice f i row)
    unfolding splice
    splice-holds i [] (t, m, holds) = absurd (Memᴰ.not-nil m)
    splice-holds zero (s ∷ row) r = r
    splice-holds (suc zero) (s ∷ row) (t, m, holds) =
        ⊎_elim
        (λ e. let (u, i, k) = kept s (subst (HoldsIn q h) e holds) in (u, Memᴰ.append_left row i, k))
        (λ i. (t, Memᴰ.append_right (f s) i, holds))
        (Memᴰ.cases_cons m)
    splice-holds (suc (suc i)) (s ∷ row) (t, m, holds) =
        ⊎_elim
        (λ e. (t, Memᴰ.head e, holds))
        (λ j. let (u, k, l) = splice-holds (suc i) row (t, j, holds) in (u, Memᴰ.tail k, l))
        (Memᴰ.cases_cons m)

  pick_each-holds : (picks : List Pick) (row : List Facts) → SomeHolds q h row → SomeHolds q h (pick_each q picks row)
  unfolding pick_each
  pick_each-holds [] row r = r
  pick_each-holds (p ∷ ps) row r = pick_each-holds ps _ (splice-holds (picked q p) (picked-holds p) p.position row r)

-- a hand's walk is refuted only where all of its paths clash
refuted_clashed : (q : Query) (row : List Facts) → hand_verdict q row ≡ some refuted → all (is_clashed q) row ≡ true
unfolding hand_verdict
refuted_clashed q row e = go (all (is_clashed q) row) (any (is_saturated q) row) e
  where
    go : (b c : Bool) → cond b (some refuted) (cond c (some satisfiable) none) ≡ some refuted → b ≡ true
    go true c e = refl
    go false true e = let z : ◌≡◌ {A = ℕ} 0 1 = cc in absurd (omega arith)
    go false false e = absurd (none-some e)

pub hand_refuted : (q : Query) → Accepted q → (picks : List Pick) → hand_verdict q (hand_row q picks) ≡ some refuted → Satisfiable q → ⊥
unfolding hand_row
hand_refuted q ok picks e (h, meets) =
    let (s, m, holds) = pick_each-holds q h picks (start q ∷ []) (start q, Memᴰ.head refl, start_holds q ok h meets) in
    clashed_not q ok h meets s (all_true (is_clashed q) s (refuted_clashed q (hand_row q picks) e) m) holds
