-- The links of the heap shown as the code holds them, and the tests by which a remaining term's link is chosen.
use Rattle.std.specs.Prelude.{ℕ, ◌≤◌, Bool, false, not, cond, ◌&&◌, List, get_or, eqb}
use Rattle.rows.specs.Square.{square}
use Rattle.logic.specs.Search.{◌and◌, ◌or◌, any, all}
use Rattle.logic.specs.Facts.{Graph}
use Rattle.logic.specs.Shown.{reached, on_path, new_link}

-- the link of a term, 0 where it has none
unfoldable pub link_of : List ℕ → ℕ → ℕ
link_of links t = get_or links t 0

-- every link is a term, or none
abbrev pub InRange : List ℕ → Type 0
InRange links = (t : ℕ) → link_of links t ≤ 16

-- a graph with these reachability facts alone: what reads only these asks no more
unfoldable pub reach_in : List ℕ → Graph
reach_in reach = record { link = λ a b. false; reach = square reach }

-- a link from inside v's basin leads to b
abbrev pub leads_to : List ℕ → (ℕ → ℕ) → ℕ → ℕ → ℕ → Bool
leads_to reach p v b u = square reach v u && eqb (p u) b

-- b begins a path in v's basin
unfoldable pub begins : ℕ → Graph → (ℕ → ℕ) → ℕ → ℕ → Bool
begins n g p v b = g.reach v b and not (any (λ u. eqb (p u) b) (reached n g v))

-- b begins a path in v's basin, and v is not on it
abbrev pub begins_without : ℕ → Graph → (ℕ → ℕ) → ℕ → ℕ → Bool
begins_without n g p v b = begins n g p v b and not (on_path p v n b)

-- u reaches every term that v reaches, v alone excepted
unfoldable pub covers_all : ℕ → Graph → ℕ → ℕ → Bool
covers_all n g v u = all (λ w. eqb w v or g.reach u w) (reached n g v)

-- the link of v after its turn: a term that is not replaced and has none gets one
unfoldable pub link_at : ℕ → Graph → (ℕ → ℕ) → (ℕ → ℕ) → ℕ → ℕ
link_at n g rep p v = cond (eqb (rep v) v and eqb (p v) 0) (new_link n g p v) (p v)
