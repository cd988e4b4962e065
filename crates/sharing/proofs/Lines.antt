-- The lines that are written. Assumes nothing.
use Prim.Native.Nat.{ℕ}
use native.Mathlib.Omega.{arith}
use mathlib.Core.Path.{◌≡◌, refl, sym, ap, ◌∙◌}
use mathlib.Core.List.{List, [], ◌∷◌}
use lib.ListN.{get_or, replicate}
use Rattle.logic.specs.Derivation.{lines_from, lines_in}
use Rattle.logic.specs.Calls.{Answer, Outcome, refused, satisfiable, refuted, derivation_call}
use Rattle.theory.proofs.Calls.Demands.{demand1}
use Rattle.sharing.specs.Output.{lines_of, answer_of, written_lines}

-- no lines in two zeros
none_in : (bytes : List ℕ) → get_or bytes 0 0 ≡ 0 → get_or bytes 1 0 ≡ 0 → lines_in bytes ≡ []
unfolding lines_in lines_from
none_in bytes a b = rw (a, b)

module _ (order query : List ℕ) where
  abbrev pub derived : Outcome
  derived = derivation_call (record { order = order; query = query; room = 64002 })

  -- a satisfiable query has no derivation
  pub sat_none : answer_of order query ≡ satisfiable → lines_in (0 ∷ 0 ∷ []) ≡ written_lines order query
  unfolding answer_of written_lines lines_of lines_in lines_from
  sat_none v =
      let d : derived.answer ≡ refused 11 0 = (demand1.one_heap (record { order = order; query = query; room = 53 })
      (record { order = order; query = query; room = 64002 }) (refl, refl) (omega arith)).0 v in
      sym (ap (λ (a : Answer). lines_of a derived.lent) d)

  -- else the lines are those in the bytes that the derivation call leaves, and there are none where it is refused
  refused_none : (k place : ℕ) → derived.answer ≡ refused k place → lines_in derived.lent ≡ lines_of (refused k place) derived.lent
  unfolding lines_of
  refused_none k place e =
      ap lines_in (demand1.derivation_refusals.refusal_blank (record { order = order; query = query; room = 64002 }) k place e) ∙ none_in (replicate 64002 0) refl refl

  lines_of_lem : (a : Answer) → derived.answer ≡ a → lines_in derived.lent ≡ lines_of a derived.lent
  unfolding lines_of
  lines_of_lem (refused k place) e = refused_none k place e
  lines_of_lem satisfiable e = absurd (demand1.never_satisfiable (record { order = order; query = query; room = 64002 }) e)
  lines_of_lem refuted e = refl

  pub lines_left : lines_in derived.lent ≡ written_lines order query
  unfolding written_lines
  lines_left = lines_of_lem derived.answer refl
