use Rattle.std.proofs.Common.{arith, sym, ap, ◌∙◌}
use Rattle.rows.proofs.Loops.{first_end, first_here, first_next}
use Rattle.between_search.specs.Search.{most_nodes}
use Rattle.between_seek.proofs.Laws.{most_few, heap_sizes}
use Rattle.between_seek.proofs.heap_found.Goals as goal

pub overflow_add-m-end : goal.overflow_add-m-end
overflow_add-m-end c = let k = most_few _ c.requires.entered.few in omega (arith, k, c.most_nodes-m-end.ensures)

pub size_found-requires : goal.size_found-requires
size_found-requires c = let k = most_few _ c.requires.entered.few in (c.requires, omega (arith, k, c.most_nodes-m-end.ensures, c.loop-m-test.true))

pub returns-in-Some : goal.returns-in-Some
returns-in-Some c =
    let sizes = heap_sizes _ _ (c.most_nodes-m-end.ensures ∙ ap most_nodes c.requires.entered.laid.term_count_lem) in
    sym (sizes ∙ c.loop-m.invariant ∙ first_here _ _ _ _ c.loop-m-test.true (sym c.in-Some.ensures))

pub loop-m-preserved : goal.loop-m-preserved
loop-m-preserved c = c.loop-m.invariant ∙ first_next _ _ _ c.loop-m-test.true (sym c.in_default.ensures)

pub returns : goal.returns
returns c =
    let sizes = heap_sizes _ _ (c.most_nodes-m-end.ensures ∙ ap most_nodes c.requires.entered.laid.term_count_lem) in
    sym (sizes ∙ c.loop-m.invariant ∙ first_end _ _ _ c.loop-m-test.false)
