-- What the call answers, by the start's goal.
use Prim.Native.Nat.{ℕ, zero, suc, ◌+◌, ◌*◌, ◌≤◌}
use native.Mathlib.Omega.{arith}
use mathlib.Core.Path.{◌≡◌, refl, sym, ap, ◌∙◌, subst}
use mathlib.Core.Bool.{Bool, true, false, not, true≢false, false≢true}
use mathlib.Core.List.{List, []}
use mathlib.Core.Option.{none}
use Rattle.std.specs.Prelude.{Option as CodeOption, Some, None, IfSome, Ok, Err}
use Rattle.logic.specs.Query.{Query, term_count}
use Rattle.logic.specs.Facts.{Joined}
use Rattle.logic.specs.Derivation.{lines_in}
use Rattle.logic.specs.Walk.{limit}
use Rattle.logic.specs.Calls.{CallForm}
use Rattle.theory.proofs.Query.Tied.{Accepted}
use Rattle.query.specs.declared.Layout.{Layout}
use Rattle.refusals.specs.declared.Refusal.{Refusal}
use Rattle.refusals.specs.Numbers.{number_of as fault_number}
use Rattle.link_query.specs.Said.{said}
use Rattle.link_query.specs.Answers.{CheckedBy}
use Rattle.start.specs.Started.{started}
use Rattle.checking.specs.Fitting.{Goal, goal_of, start_goal, wrong_line}
use Rattle.checking.specs.CheckCall.{Checked, accepted, wrong, refused, misshapen, by_wrong, query_refusal, check_call_of}
use Rattle.checking.proofs.Claims.{check_refused, check_misshapen, check_judged}
use Rattle.derivation_lines.specs.Lines.{Shaped, shapely}
use Rattle.derivation_lines.specs.Judging.{Judged, number_of, JudgesGoal, Concludes}
use Rattle.checker.specs.Ahead.{Ahead}
use Rattle.checker.specs.Promise.{judged_as}
use Rattle.checker.proofs.Range.{ahead-start}

by_some : (k : ℕ) → 1 ≤ k → wrong k ≡ by_wrong k
unfolding by_wrong
by_some zero h = absurd (omega arith)
by_some (suc k) h = refl

pub start_goal_lem : (q : Query) (j : Joined) → j ≡ started q → goal_of j ≡ start_goal q
unfolding goal_of start_goal started
start_goal_lem q j e = ap goal_of e

-- all the steps that a path can have are left at the start, by the numbers that the code reads
pub start_ahead : (q : Query) → Accepted q → (j : Joined) (links n k : ℕ) → j ≡ started q → links ≡ q.links → n ≡ term_count q → k ≡ links * (n * n) + n → Ahead q j.facts k
unfolding started limit
start_ahead q ok j links n k e l t c =
    let most : k ≡ limit q = c ∙ ap (λ (i : ℕ). i * (n * n) + n) l ∙ ap (λ (m : ℕ). q.links * (m * m) + m) t in
    subst (λ (i : Joined). Ahead q i.facts k) (sym e) (ahead-start q ok k most)

-- the start's goal by its path and the pairs joined there, and so the first wrong line
module _ (q : Query) (bytes : List ℕ) (count : ℕ) (shape : Shaped bytes count) (j : Joined) (j_is : j ≡ started q) (r : Judged) (h : JudgesGoal q bytes count (goal_of j) 0 r) (o : CodeOption ℕ) (found : Concludes count r o) where
  first_is : number_of o ≡ wrong_line q (lines_in bytes)
  first_is = found.concludes q bytes shape (subst (λ (g : Goal). JudgesGoal q bytes count g 0 r) (start_goal_lem q j j_is) h)

  abbrev Answers : Checked → Type 0
  Answers a = a ≡ by_wrong (wrong_line q (lines_in bytes))

  pub answer_none : o ≡ None → Answers accepted
  unfolding by_wrong
  answer_none e = sym (ap by_wrong (sym first_is ∙ ap number_of e))

  pub answer_some : (k : ℕ) → o ≡ Some k → Answers (wrong k)
  answer_some k e =
      let l = subst (λ (p : CodeOption ℕ). IfSome p (λ i. 1 ≤ i)) e (found.numbered q bytes (subst (λ (g : Goal). JudgesGoal q bytes count g 0 r) (start_goal_lem q j j_is) h)) in
      by_some k l ∙ ap by_wrong (ap number_of (sym e) ∙ first_is)

  pub answer_found : Answers (judged_as o)
  answer_found = go o refl
    where
      go : (x : CodeOption ℕ) → o ≡ x → Answers (judged_as x)
      go None e = answer_none e
      go (Some k) e = answer_some k e

-- the checks

misshapen-not : (bytes : List ℕ) (b : Bool) → shapely bytes ≡ not b → misshapen bytes ≡ b
unfolding shapely
misshapen-not bytes b e = go (misshapen bytes) b e
  where
    go : (a b : Bool) → not a ≡ not b → a ≡ b
    go true true e = refl
    go true false e = absurd (false≢true e)
    go false true e = absurd (true≢false e)
    go false false e = refl

module _ (f : CallForm) (query derivation : List ℕ) where
  pub call_refused : (e : Refusal) → CheckedBy f (Err e) query → refused (fault_number e.fault) e.place ≡ check_call_of f query derivation
  unfolding query_refusal
  call_refused e h = sym (check_refused f query derivation (fault_number e.fault) e.place (h (record { order = []; query = query; room = 0 }) refl))

  module _ (l : Layout) (h : CheckedBy f (Ok l) query) where
    clear : query_refusal f query ≡ none
    unfolding query_refusal
    clear = h.free (record { order = []; query = query; room = 0 }) refl

    pub call_misshapen : shapely derivation ≡ false → refused 20 0 ≡ check_call_of f query derivation
    call_misshapen e = sym (check_misshapen f query derivation clear (misshapen-not derivation true e))

    pub call_judged : shapely derivation ≡ true → (a : Checked) → a ≡ by_wrong (wrong_line (said l query) (lines_in derivation)) → a ≡ check_call_of f query derivation
    call_judged e a g =
        g ∙ ap (λ (q : Query). by_wrong (wrong_line q (lines_in derivation))) h.says
        ∙ sym (check_judged f query derivation clear (misshapen-not derivation false e))
