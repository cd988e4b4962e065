-- The link bytes of a query with three links (02, R-11), entry by entry.
use Rattle.std.specs.Prelude.{ℕ, zero, suc, ◌+◌, not, List, get_or}
use Rattle.std.proofs.Math.Option.{Option, none}
use Rattle.logic.specs.Search.{keep, or_else}
use Rattle.logic.specs.ThreeLinks.{is_link, may_precede}
use Rattle.entries.specs.declared.Linked.{Linked}
use Rattle.entries.specs.declared.Linked.TheVariants as linked

abbrev pub linked_terms : Linked
linked_terms = linked.Terms

abbrev pub linked_pairs : Linked
linked_pairs = linked.Pairs

-- the bytes of an entry
abbrev pub linked_width : Linked → ℕ
linked_width linked.Terms = 2
linked_width linked.Pairs = 4

-- the place of the link byte of the entry at a place, where it may not stand there
unfoldable pub link_at : Linked → List ℕ → ℕ → Option ℕ
link_at linked.Terms bytes at = keep (not (may_precede (get_or bytes at 0) (get_or bytes (at + 1) 0))) at
link_at linked.Pairs bytes at = keep (not (is_link (get_or bytes (at + 1) 0))) (at + 1)

-- the lowest of them, among `count` entries from a place on
unfoldable pub links_from : Linked → List ℕ → ℕ → ℕ → Option ℕ
links_from l bytes zero at = none
links_from l bytes (suc count) at = or_else (link_at l bytes at) (links_from l bytes count (at + linked_width l))
