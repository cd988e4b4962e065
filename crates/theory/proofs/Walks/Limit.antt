-- The path limit cannot bite (02, R-5): rule steps from the start are no more than what it can gain, whoever picks them; so our
-- walk ends as it would without a limit.
use Prim.Native.Nat.{ℕ, suc, ◌+◌, ◌*◌, ◌≤◌}
use native.Mathlib.Omega.{arith}
use mathlib.Core.Path.{◌≡◌, refl, sym, ◌∙◌, subst}
use mathlib.Core.List.{List, Memᴰ}
use Rattle.logic.specs.Query.{Query, term_count}
use Rattle.logic.specs.Facts.{Facts, Line, join_lines, start_joins, start}
use Rattle.logic.specs.Walk.{order_of, Ending, refutation, saturation, after, walk, limit, our_walk, Pick, hand_row}
use Rattle.logic.specs.Steps.{Steps, at_first, one_more, AtMost}
use Rattle.logic.specs.OurWalk.{Walks}
use Rattle.logic.specs.Derivation.{Derivation}
use Rattle.theory.proofs.Query.Tied.{Accepted}
use Rattle.theory.proofs.Paths.Start.{start_sane, start_tied}
use Rattle.theory.proofs.Walks.Derives.{after-refutation, after-saturation, walks_refutes, Kept, EndsIn, walks_saturation, row-all}
use Rattle.theory.proofs.Walks.Gains.{gains_left, gains_left_most, gains_at_most}
use Rattle.theory.proofs.Walks.OurWalk.{walk_walks}

pub start_at_most : (q : Query) → Accepted q → AtMost (term_count q) (start q) (limit q)
unfolding limit
start_at_most q ok k s steps =
    let n = term_count q in
    let most : gains_left n (start q) ≤ q.links * (n * n) + n = subst (λ (i : ℕ). gains_left n (start q) ≤ i * (n * n) + n) (start_tied q ok).same_links (gains_left_most n (start q)) in
    omega (arith, gains_at_most n (start q) (start_sane q ok) k s steps, most)

-- a path of a hand's row: steps lead to it from the start
pub row_steps : (q : Query) (picks : List Pick) (s : Facts) → Memᴰ s (hand_row q picks) → (k : ℕ) × Steps (term_count q) (start q) k s
row_steps q =
    row-all q (λ s. (k : ℕ) × Steps (term_count q) (start q) k s)
    (λ s s' m led free app mem. (suc led.0, one_more led.1 (record { rule_move = m; applicable = app; branch = mem })))
    (0, at_first)

-- our walk of the start ends as its sentence says, and the lines of the start's joins stand before it
abbrev pub walked : List ℕ → Query → Ending
walked order q = walk q (order_of order) (limit q) (start q)

pub our_walks : (q : Query) → Accepted q → (order : List ℕ) → Walks q (order_of order) (start q) (walked order q)
our_walks q ok order = walk_walks q (order_of order) (limit q) (start q) (start_at_most q ok)

pub our_headed : (q : Query) (order : List ℕ) → our_walk order q ≡ after (join_lines (start_joins q).pairs) (walked order q)
unfolding our_walk
our_headed q order = refl

-- so its refutation follows the rules, and what the rules keep is kept to the path where it ends
pub our_refutes : (q : Query) → Accepted q → (order : List ℕ) (ls : List Line) → our_walk order q ≡ refutation ls → Derivation q ls
our_refutes q ok order ls h =
    let (ms, e, f) = after-refutation (join_lines (start_joins q).pairs) (walked order q) ls (sym (our_headed q order) ∙ h) in
    record { walked = ms; headed = sym f; refutes = walks_refutes q (order_of order) (our_walks q ok order) ms e }

pub our_saturation : (q : Query) → Accepted q → (P : Facts → Type 0) → Kept q P → (order : List ℕ) (t : Facts) → P (start q) → our_walk order q ≡ saturation t → EndsIn q P (order_of order) t
our_saturation q ok P kept order t p h =
    walks_saturation q P kept (order_of order) (our_walks q ok order) t p (after-saturation (join_lines (start_joins q).pairs) (walked order q) t (sym (our_headed q order) ∙ h))
