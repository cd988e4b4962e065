-- The entries of a query's terms: who has an argument, and who names nil.
use Prim.Native.Nat.{ℕ, zero, suc, ◌≤◌, ◌<◌}
use native.Mathlib.Omega.{arith}
use mathlib.Core.Path.{◌≡◌, refl}
use mathlib.Core.Logic.{⊎_elim}
use mathlib.Core.Bool.{true}
use mathlib.Core.List.{Memᴰ}
use lib.ListN.{length, get_or-eq_default}
use Rattle.logic.specs.Search.{from}
use Rattle.logic.specs.Query.{Query, entry_of, names_nil, argument_of, term_count, Entries}
use Rattle.logic.specs.Facts.{terms, nil_terms}
use Rattle.theory.proofs.Basics.Search.{select-mem, select_intro, from-mem, from_intro}
use Rattle.theory.proofs.Basics.Compare.{eqb-true, le_cases}
use Rattle.theory.proofs.Query.Tied.{InTerms}

module _ (entries : Entries) where
  -- what lies outside of the list counts as a variable
  entry_of_above : (t : ℕ) → length entries.terms < t → entry_of entries t ≡ 0
  unfolding entry_of
  entry_of_above zero l = refl
  entry_of_above (suc i) l = get_or-eq_default entries.terms 0 (omega arith)

  entry_of-zero : (t : ℕ) → t ≡ 0 → entry_of entries t ≡ 0
  unfolding entry_of
  entry_of-zero zero e = refl
  entry_of-zero (suc i) e = absurd (omega arith)

  -- an entry other than 0 is that of a term
  entry_of_range : (t : ℕ) → (entry_of entries t ≡ 0 → ⊥) → (1 ≤ t) × (t ≤ length entries.terms)
  entry_of_range t h = (
    ⊎_elim (λ l. l) (λ l. absurd (h (entry_of-zero t (omega arith)))) (le_cases 1 t),
    ⊎_elim (λ l. l) (λ l. absurd (h (entry_of_above t l))) (le_cases t (length entries.terms)),
  )

  -- only a term has an argument, and only a term names nil
  pub argument_range : (t : ℕ) → 1 ≤ argument_of entries t → (1 ≤ t) × (t ≤ length entries.terms)
  unfolding argument_of names_nil
  argument_range t h = entry_of_range t (λ e. let z : argument_of entries t ≡ 0 = rw e refl in omega arith)

  pub nil_range : (t : ℕ) → names_nil entries t ≡ true → (1 ≤ t) × (t ≤ length entries.terms)
  unfolding names_nil
  nil_range t h = entry_of_range t (λ e. omega (arith, e, eqb-true (entry_of entries t) 255 h))

-- The terms that name nil

pub nil_terms-mem : (q : Query) (t : ℕ) → names_nil q.entries t ≡ true → Memᴰ t (nil_terms q)
unfolding nil_terms terms term_count
nil_terms-mem q t h =
    let r = nil_range q.entries t h in
    select_intro (names_nil q.entries) t (from_intro (length q.entries.terms) 1 t r.0 (omega arith)) h

pub nil_terms_names : (q : Query) (t : ℕ) → Memᴰ t (nil_terms q) → InTerms q t × (names_nil q.entries t ≡ true)
unfolding nil_terms terms
nil_terms_names q t m =
    let r = select-mem (names_nil q.entries) t (from (term_count q) 1) m in
    let l = from-mem (term_count q) 1 t r.0 in
    ((l.0, omega arith), r.1)
