-- The search for the lowest link byte that may not stand where it does, entry by entry.
use Prim.Native.Nat.{ℕ, zero, suc, ◌+◌, ◌-◌, ◌*◌, ◌≤◌, ◌<◌}
use native.Mathlib.Nat.{sub-eq-zero_of_le}
use native.Mathlib.Omega.{arith}
use mathlib.Core.Path.{◌≡◌, refl, ◌∙◌}
use mathlib.Core.Bool.{Bool, not}
use mathlib.Core.List.{List}
use mathlib.Core.Option.{none, some}
use lib.ListN.{length, get_or, take, drop}
use Rattle.logic.specs.Search.{keep, or_else}
use Rattle.logic.specs.ThreeLinks.{is_link, may_precede, entry_link_fault, reach_link_fault}
use Rattle.entries.specs.declared.Linked.{Linked}
use Rattle.entries.specs.declared.Linked.TheVariants as linked
use Rattle.entries.specs.Links.{linked_width, link_at, links_from}
use Rattle.entries.proofs.Loops.{drop_two, drop_four}
use Rattle.entries.proofs.Faults.{or_else-some, or_else_next}

-- what is left of `count` entries behind the first i, as a loop over i meets it
module _ (l : Linked) (bytes : List ℕ) (count i at : ℕ) where
  pub links_end : count ≤ i → links_from l bytes (count - i) at ≡ none
  unfolding links_from
  links_end h = rw (sub-eq-zero_of_le h)

  links_first : i < count → links_from l bytes (count - i) at ≡ or_else (link_at l bytes at) (links_from l bytes (count - (i + 1)) (at + linked_width l))
  unfolding links_from
  links_first h = rw left refl
    where
      left : count - i ≡ suc (count - (i + 1))
      left = omega arith

  pub links_here : (p : ℕ) → i < count → link_at l bytes at ≡ some p → links_from l bytes (count - i) at ≡ some p
  links_here p h e = links_first h ∙ or_else-some _ e

  pub links_next : i < count → link_at l bytes at ≡ none → links_from l bytes (count - i) at ≡ links_from l bytes (count - (i + 1)) (at + linked_width l)
  links_next h e = links_first h ∙ or_else_next _ e

-- what the tests say of the bytes
module _ (bytes : List ℕ) (at : ℕ) {b v : Bool} where
  pub term_tested : {x y : ℕ} → b ≡ may_precede x y → x ≡ get_or bytes at 0 → y ≡ get_or bytes (at + 1) 0 → b ≡ v → link_at linked.Terms bytes at ≡ keep (not v) at
  unfolding link_at
  term_tested test e f h = rw (← e, ← f, ← test, h)

  pub pair_tested : {x : ℕ} → b ≡ is_link x → x ≡ get_or bytes (at + 1) 0 → b ≡ v → link_at linked.Pairs bytes at ≡ keep (not v) (at + 1)
  unfolding link_at
  pair_tested test e h = rw (← e, ← test, h)

-- the searches of the definitions, of the bytes at a place of the query
module _ (bytes : List ℕ) where
  pub entry_links : (count at : ℕ) → at + count * 2 ≤ length bytes → entry_link_fault at (take (count * 2) (drop at bytes)) ≡ links_from linked.Terms bytes count at
  unfolding entry_link_fault links_from link_at
  entry_links zero at h = refl
  entry_links (suc count) at h = rw (size, drop_two bytes at (omega arith), entry_links count (at + 2) (omega arith))
    where
      size : suc count * 2 ≡ suc (suc (count * 2))
      size = omega arith

  pub reach_links : (count at : ℕ) → at + count * 4 ≤ length bytes → reach_link_fault at (take (count * 4) (drop at bytes)) ≡ links_from linked.Pairs bytes count at
  unfolding reach_link_fault links_from link_at
  reach_links zero at h = refl
  reach_links (suc count) at h = rw (size, drop_four bytes at (omega arith), reach_links count (at + 4) (omega arith))
    where
      size : suc count * 4 ≡ suc (suc (suc (suc (count * 4))))
      size = omega arith
