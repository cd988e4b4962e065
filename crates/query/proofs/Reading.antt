-- The walk from the front at a section: where it is refused, and what it leaves where it is passed.
use Prim.Native.Nat.{ℕ, suc, ◌+◌, ◌-◌, ◌*◌, ◌≤◌, ◌<◌}
use native.Mathlib.Omega.{arith}
use mathlib.Core.Path.{◌≡◌, refl, ◌∙◌}
use mathlib.Core.List.{List, [], ◌∷◌}
use Rattle.std.specs.Prelude.{Err}
use lib.ListN.{length, get_or, take, drop, length-drop}
use lib.Seq.{drop-length, drop-drop}
use borrow.Author.Tests.{le-leb, lt-leb}
use Rattle.logic.specs.Query.{Section, Form, faulty, parts, with_part, layout, first_byte, layout_by}
use Rattle.entries.specs.declared.Kind.{Kind}
use Rattle.entries.specs.declared.Kind.TheVariants as kind
use Rattle.entries.specs.Entries.{width_of}
use Rattle.refusals.specs.declared.Refusal.{Refusal}
use Rattle.refusals.specs.Numbers.{number_of}
use Rattle.query.specs.Sections.{Stands, ReadAs}
use Rattle.entries.proofs.Loops.{drop_next}

module _ (s : Section) (ss : List Section) (bytes : List ℕ) (at : ℕ) where
  pub missing : at ≡ length bytes → layout (s ∷ ss) at (drop at bytes) ≡ faulty 2 at
  unfolding layout
  missing e = rw (e, drop-length)

  pub above : at < length bytes → s.limit < get_or bytes at 0 → layout (s ∷ ss) at (drop at bytes) ≡ faulty s.excess at
  unfolding layout
  above h e = rw (drop_next bytes at h, lt-leb _ _ e)

  pub short : at < length bytes → get_or bytes at 0 ≤ s.limit → length bytes < at + 1 + get_or bytes at 0 * s.width → layout (s ∷ ss) at (drop at bytes) ≡ faulty 2 (length bytes)
  unfolding layout
  short h e f = rw (drop_next bytes at h, le-leb _ _ e, length-drop, lt-leb _ _ left, whole)
    where
      left : length bytes - (at + 1) < get_or bytes at 0 * s.width
      left = omega arith

      whole : suc at + (length bytes - (at + 1)) ≡ length bytes
      whole = omega arith

  module _ (count next : ℕ) (stands : Stands bytes s.limit s.width at count next) where
    pub passed : layout (s ∷ ss) at (drop at bytes) ≡ with_part (take (count * s.width) (drop (at + 1) bytes)) (layout ss next (drop next bytes))
    unfolding layout
    passed = rw (drop_next bytes at stands.counted, stands.count_is, le-leb _ _ stands.within, length-drop, le-leb _ _ left, drop-drop, ← behind, next-at)
      where
        left : count * s.width ≤ length bytes - (at + 1)
        left = omega (arith, stands.fits, stands.next_is, stands.counted)

        behind : next ≡ at + 1 + count * s.width
        behind = stands.next_is

        next-at : suc at + count * s.width ≡ next
        next-at = omega arith

    pub pass_faulty : (k place : ℕ) → layout ss next (drop next bytes) ≡ faulty k place → layout (s ∷ ss) at (drop at bytes) ≡ faulty k place
    unfolding with_part
    pass_faulty k place e = passed ∙ rw e

    pub pass_parts : (ps : List (List ℕ)) → layout ss next (drop next bytes) ≡ parts ps → layout (s ∷ ss) at (drop at bytes) ≡ parts (take (count * s.width) (drop (at + 1) bytes) ∷ ps)
    unfolding with_part
    pass_parts ps e = passed ∙ rw e

-- a section stands whatever its limit, if that is not below the count
pub with_limit : {bytes : List ℕ} {limit width at count next : ℕ} (most : ℕ) → Stands bytes limit width at count next → count ≤ most → Stands bytes most width at count next
with_limit most s h = record { counted = s.counted; count_is = s.count_is; within = h; next_is = s.next_is; fits = s.fits }

-- The walk has come to the sections ss at `at`: a refusal that it meets from there on is the query's.
pub record Reached (form : Form) (bytes : List ℕ) (ss : List Section) (at : ℕ) : Type 0 where
  pub leads : (k place : ℕ) → layout ss at (drop at bytes) ≡ faulty k place → layout_by form bytes ≡ faulty k place

pub at_front : (form : Form) (bytes : List ℕ) → Reached form bytes (form (first_byte bytes)) 0
unfolding layout_by
at_front form bytes = record { leads = λ k place e. e }

module _ {form : Form} {bytes : List ℕ} {s : Section} {ss : List Section} {at : ℕ} (reached : Reached form bytes (s ∷ ss) at) where
  pub beyond : {count next : ℕ} → Stands bytes s.limit s.width at count next → Reached form bytes ss next
  beyond {count} {next} stands = record { leads = λ k place e. reached.leads k place (pass_faulty s ss bytes at count next stands k place e) }

  -- the section that the walk has come to is refused
  pub stopped : (e : Refusal) → ReadAs (Err e) bytes at s.limit s.excess s.width → layout_by form bytes ≡ faulty (number_of e.fault) e.place
  stopped e h = reached.leads (number_of e.fault) e.place (h s ss refl refl refl)

-- bytes follow the last section
pub trailing : {form : Form} {bytes : List ℕ} {at : ℕ} → Reached form bytes [] at → at < length bytes → layout_by form bytes ≡ faulty 4 at
unfolding layout
trailing {form} {bytes} {at} reached h = reached.leads 4 at (rw (drop_next bytes at h))
