-- Nogoods carried back: over a path that holds their facts, a clash, the closure of a path, an alternative, and a rule.
use Prim.Native.Nat.{ℕ, zero, suc, ◌≤◌, ◌<◌}
use native.Mathlib.Omega.{arith}
use mathlib.Core.Path.{◌≡◌, refl, sym, ap, ◌∙◌, subst}
use mathlib.Core.Logic.{⊎_elim}
use mathlib.Core.Bool.{Bool, true}
use mathlib.Core.List.{List, Memᴰ}
use Rattle.logic.specs.Query.{Query}
use Rattle.logic.specs.Heap.{Heap, Reaches, value}
use Rattle.logic.specs.Facts.{Facts, Line, live, is_clash}
use Rattle.logic.specs.Rules.{Move, Fact, conditions, alternatives, add}
use Rattle.logic.specs.Decision.{NoHeap, Follows, is_held, itself, by_link, onward, Closes}
use lib.Dec.{ltb}
use Rattle.theory.proofs.Basics.Search.{not_of}
use Rattle.theory.proofs.Basics.Compare.{le_cases, ltb-true}
use Rattle.theory.proofs.Basics.Iterate.{reaches_refl, reaches_trans, reaches_next}
use Rattle.theory.proofs.Query.Tied.{Accepted}
use Rattle.theory.proofs.Soundness.Truth.{Between, between, Same, Reached, True, between_same}
use Rattle.theory.proofs.Paths.Ranged.{live_range}
use Rattle.theory.proofs.Soundness.RuleSound.{rule_sound}
use Rattle.theory.proofs.Soundness.FactsSound.{holds_add}
use Rattle.theory.proofs.Soundness.ClashSound.{clash_sound}
use Rattle.theory.proofs.Calls.Decision.{Known, holds_of}
use Rattle.facts.specs.Path.{rep_of, path_of}
use Rattle.facts.specs.declared.Facts as code
use Rattle.covering.specs.Covers.{Covers}
use Rattle.nogoods.specs.Nogoods.{Held, Nogood, Excludes}

same_sym : {val : ℕ → ℕ} {a b : ℕ} → Same val a b → Same val b a
same_sym r = between r.right_term r.left_term (sym r.stands)

-- a number that stands for a term, where 0 stands for itself
term_of : (rep : ℕ → ℕ) (a : ℕ) → rep 0 ≡ 0 → 1 ≤ rep a → 1 ≤ a
term_of rep zero e l = absurd (omega arith)
term_of rep (suc a) e l = omega arith

-- Where the facts of a path are true, so are those that it holds
module _ {q : Query} {h : Heap} (w s : Facts) (c : Covers w s) (held : Held q h w) where
  abbrev Val : ℕ → ℕ
  Val = value h q.entries

  stands_for : (a : ℕ) → 1 ≤ a → Same Val (w.rep a) a
  stands_for = held.holds.rep_true

  covered_fact : {R : ℕ → ℕ → Type 0} (a b : ℕ) → Between Val R (w.rep a) (w.rep b) → Between Val R a b
  covered_fact {R} a b r =
      let l = term_of w.rep a held.zero_kept r.left_term in
      let m = term_of w.rep b held.zero_kept r.right_term in
      between_same {R = R} (same_sym (stands_for a l)) (same_sym (stands_for b m)) r

  covered_zero : s.rep 0 ≡ 0
  covered_zero = go (s.rep 0) refl
    where
      go : (t : ℕ) → s.rep 0 ≡ t → t ≡ 0
      go zero e = refl
      go (suc t) e =
          let stood = c.same_reps 0 (omega arith) ∙ held.zero_kept in
          let one = (stands_for (suc t) (omega arith)).left_term in
          let z : w.rep (suc t) ≡ 0 = ap w.rep (sym e) ∙ stood in
          absurd (omega arith)

  covered_rep : (t : ℕ) → 1 ≤ t → t ≤ 16 → Same Val (s.rep t) t
  covered_rep t l m =
      let here = stands_for t l in
      let e = c.same_reps t m in
      let u = term_of w.rep (s.rep t) held.zero_kept (subst (λ (x : ℕ). 1 ≤ x) (sym e) here.left_term) in
      between u l (sym (stands_for (s.rep t) u).stands ∙ ap Val e ∙ here.stands)

  pub covers_held : ((t : ℕ) → 16 < t → s.rep t ≡ t) → Held q h s
  covers_held beyond =
      record {
        holds = record {
          rep_true = λ t l. ⊎_elim (λ m. covered_rep t l m) (λ m. rw (beyond t m) (between l l refl)) (le_cases t 16);
          graph_true = λ i. record {
            link_true = λ a b e. covered_fact {R = λ v u. h.link i v ≡ u} a b ((held.holds.graph_true i).link_true (w.rep a) (w.rep b) (c.links_held i a b e));
            reach_true = λ a b e. covered_fact {R = Reaches (h.link i)} a b ((held.holds.graph_true i).reach_true (w.rep a) (w.rep b) (c.reach_held i a b e));
          };
        };
        zero_kept = covered_zero;
      }

-- no number above 16 is a term that was replaced
abbrev pub Bounded : Facts → Type 0
Bounded s = (t : ℕ) → 16 < t → s.rep t ≡ t

module _ (q : Query) where
  abbrev TrueOf : Heap → Fact → Type 0
  TrueOf h = True h.link (value h q.entries)

  -- a nogood that a path holds is one of the path
  pub nogood_covered : (w s : Facts) → Bounded s → Covers w s → Nogood q s → Nogood q w
  nogood_covered w s b c none h meets held = none h meets (covers_held {q = q} {h = h} w s c held b)

  pub excludes_covered : (w s : Facts) → Bounded s → Covers w s → (f : Fact) → Excludes q s f → Excludes q w f
  excludes_covered w s b c f none h meets held t = none h meets (covers_held {q = q} {h = h} w s c held b) t

  -- a clash
  pub nogood_clash : Accepted q → (s : Facts) (l : Line) → is_clash q s l ≡ true → Nogood q s
  nogood_clash ok s l e h meets held = clash_sound q ok h meets s held.holds l e

  -- the closure of a path has no facts that are not true with those of the path
  module _ (n : ℕ) (s t : Facts) (cl : Closes n s t) (h : Heap) (held : Held q h s) where
    abbrev Value : ℕ → ℕ
    Value = value h q.entries

    follows_reached : (i : ℕ) {a b : ℕ} → Follows (live n s) (s.graph i).link (s.graph i).reach a b → Reached (h.link i) Value a b
    follows_reached i (is_held e) = (held.holds.graph_true i).reach_true _ _ e
    follows_reached i (itself {a = a} e) = let l = (live_range n s a e).0 in between l l (reaches_refl (h.link i) (Value a))
    follows_reached i (by_link {a = a} {b = b} e) =
        let l = (held.holds.graph_true i).link_true a b e in
        between l.left_term l.right_term (subst (Reaches (h.link i) (Value a)) l.stands (reaches_next (h.link i) (Value a)))
    follows_reached i (onward {a = a} {b = b} {c = c} f g) =
        let x = follows_reached i f in
        let y = follows_reached i g in
        between x.left_term y.right_term (reaches_trans (h.link i) (Value a) (Value b) (Value c) x.stands y.stands)

    pub held_closed : Held q h t
    held_closed =
        record {
          holds = record {
            rep_true = λ u l. subst (λ (r : ℕ → ℕ). Same Value (r u) u) (sym cl.same_rep) (held.holds.rep_true u l);
            graph_true = λ i. record {
              link_true = λ a b e. (held.holds.graph_true i).link_true a b (ap (λ (f : ℕ → ℕ → Bool). f a b) (sym (cl.same_link i)) ∙ e);
              reach_true = λ a b e. follows_reached i (cl.reach_follows i a b e);
            };
          };
          zero_kept = ap (λ (r : ℕ → ℕ). r 0) cl.same_rep ∙ held.zero_kept;
        }

  pub nogood_closed : (n : ℕ) (s t : Facts) → Closes n s t → Nogood q t → Nogood q s
  nogood_closed n s t cl none h meets held = none h meets (held_closed n s t cl h held)

  -- an alternative whose branch is a nogood
  pub excludes_branch : (n : ℕ) (s : Facts) (c : Fact) → (add n s c).rep 0 ≡ 0 → Nogood q (add n s c) → Excludes q s c
  excludes_branch n s c e none h meets held t =
      none h meets (record { holds = holds_add h.link (value h q.entries) n c t s held.holds; zero_kept = e })

  -- a rule all of whose alternatives are excluded
  pub nogood_rule : (n : ℕ) (s : Facts) (m : Move) → conditions n (live n s) s.graph m ≡ true → ((c : Fact) → Memᴰ c (alternatives n s.graph m) → Excludes q s c) → Nogood q s
  nogood_rule n s m met none h meets held =
      let (c, i, t) = rule_sound h.link (value h q.entries) n s.graph held.holds.graph_true (live n s) (λ x l. (live_range n s x l).0) m met in
      none c i h meets held t

  -- a path whose facts are a nogood has no heap
  pub nogood_path : Accepted q → (s : Facts) → Known q s → s.rep 0 ≡ 0 → Nogood q s → NoHeap q s
  nogood_path ok s known e none (h, m) = none h m.meets (record { holds = holds_of q ok s known h m; zero_kept = e })

-- Of paths that arrays hold

rep_beyond : (rep : List ℕ) (t : ℕ) → 16 < t → rep_of rep t ≡ t
unfolding rep_of
rep_beyond rep t l = rw (not_of {b = ltb t 17} (λ e. let l' = ltb-true t 17 e in omega arith)) refl

pub bounded : (s : code.Facts) → Bounded (path_of s)
unfolding path_of
bounded s = rep_beyond s.rep

-- a nogood that the closure of a path holds
pub nogood_explained : (n : ℕ) (s : Facts) (t d : code.Facts) → Closes n s (path_of t) → Covers (path_of t) (path_of d) → (q : Query) → Nogood q (path_of d) → Nogood q s
nogood_explained n s t d cl c q none = nogood_closed q n s (path_of t) cl (nogood_covered q (path_of t) (path_of d) (bounded d) c none)
