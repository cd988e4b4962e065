-- One part behind the other. Assumes nothing.
use Prim.Native.Nat.{ℕ, ◌+◌, ◌≤◌}
use native.Mathlib.Omega.{arith}
use borrow.Author.Rules.{rules}
use mathlib.Core.Path.{◌≡◌, ap, ◌∙◌}
use mathlib.Core.Bool.{true}
use mathlib.Core.List.{List, ◌++◌, append_assoc}
use lib.ListN.{length, length-append}
use Rattle.text.specs.Text.{decimal}
use Rattle.text.proofs.Writing.{writes_as, writes_then}
use Rattle.drawing.specs.Text.{datum_in, label_open, label_close, slash, listed, terms_at, node_line}
use Rattle.dot_lines.proofs.draw_node.Statement.{statement}
use Rattle.dot_lines.proofs.draw_node.Tie as tie

-- the parts of a line, and how long they are
module _ (report : List ℕ) (v : ℕ) where
  abbrev names : List ℕ
  names = listed true (terms_at report v)

  abbrev datum : ℕ → List ℕ
  datum d = slash ++ (decimal d ++ label_close)

  parts : (d : ℕ) → d ≡ datum_in report v → (decimal v ++ label_open) ++ (names ++ datum d) ≡ node_line report v
  unfolding node_line
  parts d e = append_assoc (decimal v) label_open (names ++ datum d) ∙ ap (λ (k : ℕ). decimal v ++ (label_open ++ (names ++ datum k))) e

  sizes : (d : ℕ) → d ≡ datum_in report v → length (decimal v ++ label_open) + length names ≤ length (node_line report v)
  sizes d e =
      omega (arith, ap length (parts d e), length-append (decimal v ++ label_open) (names ++ datum d), length-append names (datum d))

-- draw-terms-requires
draw_terms_requires : tie.Need-draw_terms-slash-requires
draw_terms_requires c κs =
    let read = c.datum_in-datum in
    omega (arith, c.requires.1, c.add-label.ensures.ends, sizes c.args.report.now c.args.v.0 _ read.ensures)

-- add-requires-2
add_requires_2 : tie.Need-add-requires
add_requires_2 c κs =
    let first = c.add-label in
    let terms = c.draw_terms-slash in
    let read = c.datum_in-datum in
    omega (arith, c.requires.1, first.ensures.ends, terms.ensures.ends, sizes c.args.report.now c.args.v.0 _ read.ensures)

-- returns
returns : tie.Need-returns
returns c =
    let first = c.add-label in
    let terms = c.draw_terms-slash in
    let read = c.datum_in-datum in
    writes_as (parts c.args.report.now c.args.v.0 _ read.ensures)
    (writes_then first.ensures (writes_then terms.ensures c.add.ensures))

pub draw_node_spec : {M : Type 1} → statement M
draw_node_spec =
    tie.close
    (tie.spec
    -- datum-in-requires
    (λ c κs. search rules)
    -- add-requires
    (λ c κs. search rules)
    draw_terms_requires
    add_requires_2
    -- same-length
    (λ c. search rules)
    returns)
