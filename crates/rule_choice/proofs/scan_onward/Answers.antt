-- As for any rule: what is left of the row is the whole search.
use Rattle.std.proofs.Common.{arith, sym, ap, ◌∙◌, true, [], get_or}
use Rattle.std.proofs.lemmas.Nat.{and_le_r}
use Rattle.logic.specs.Rules.{TRANS2}
use Rattle.facts.specs.Path.{graph_of}
use Rattle.rows.specs.Options.{found_of}
use Rattle.rows.proofs.Finds.{find_masked}
use Rattle.rule_choice.proofs.Nested.{third_nowhere, third_at}
use Rattle.rules.proofs.Rows.{third_trans2}
use Rattle.rule_choice.proofs.Searches.{left_all, left_none, left_pair, left_here, left-next, row_positive, onward_not_cycle, pair_onward}
use Rattle.rule_choice.proofs.scan_onward.Goals as goal

pub loop-y-init : goal.loop-y-init
loop-y-init c = (
  let m = and_le_r (get_or c.args.view.now.reach c.args.x.0 0) c.up_to-among.result in omega arith,
  λ few alive link. left_all _ few alive _ TRANS2 onward_not_cycle _ _ _ (pair_onward link _ alive _ c.requires.1) c.up_to-among.ensures,
)

pub offset_bounds-view-y : goal.offset_bounds-view-y
offset_bounds-view-y c =
    let p = left_pair _ c.requires.0 (λ t. true) (graph_of [] _) TRANS2 onward_not_cycle _ _ _ (sym c.first.ensures ∙ ap found_of c.in-Some.is) (c.loop-y.invariant.1 c.requires.0 (λ t. true) []) in
    omega arith

pub bounds-view-y : goal.bounds-view-y
bounds-view-y c =
    let p = left_pair _ c.requires.0 (λ t. true) (graph_of [] _) TRANS2 onward_not_cycle _ _ _ (sym c.first.ensures ∙ ap found_of c.in-Some.is) (c.loop-y.invariant.1 c.requires.0 (λ t. true) []) in
    omega arith

pub returns-in-Some-first : goal.returns-in-Some-first
returns-in-Some-first c =
    λ alive link.
    let f = sym c.first.ensures ∙ ap found_of c.in-Some.is in
    let m = c.loop-y.invariant.1 c.requires.0 alive link in
    let p = left_pair _ c.requires.0 _ _ _ onward_not_cycle _ _ _ f m in
    sym (left_here _ c.requires.0 _ _ _ onward_not_cycle _ c.loop-y.left _ (row_positive _ _ f) c.loop-y.invariant.0 f m _
    (third_at _ _ _ _ onward_not_cycle _ _ p.1 _
    (sym (find_masked _ _ _ _ c.requires.0 (λ z l. third_trans2 link _ _ _ z c.requires.1 (omega arith) l _ c.without-row.ensures) c.up_to-among.ensures)
    ∙ sym c.first-in-Some.ensures ∙ ap found_of c.in-Some-first.is)))

pub rest-left-requires : goal.rest-left-requires
rest-left-requires c = row_positive _ _ (sym c.first.ensures ∙ ap found_of c.in-Some.is)

pub loop-y-preserved : goal.loop-y-preserved
loop-y-preserved c = (
  let i = c.loop-y.invariant.0 in let r = c.rest-left.ensures.0 in omega arith,
  λ few alive link.
      let f = sym c.first.ensures ∙ ap found_of c.in-Some.is in
      let m = c.loop-y.invariant.1 few alive link in
      let p = left_pair _ few _ _ _ onward_not_cycle _ _ _ f m in
      left-next _ few _ _ _ onward_not_cycle _ _ _ _ (c.rest-left.ensures.1 _ f) m
      (third_nowhere _ _ _ _ onward_not_cycle _ _ p.1
      (sym (find_masked _ _ _ _ few (λ z l. third_trans2 link _ _ _ z c.requires.1 (omega arith) l _ c.without-row.ensures) c.up_to-among.ensures)
      ∙ sym c.first-in-Some.ensures ∙ ap found_of c.in_default-first.is)),
)

pub returns : goal.returns
returns c =
    λ alive link. sym (left_none _ c.requires.0 alive (graph_of link _) TRANS2 onward_not_cycle _ _ (sym c.first.ensures ∙ ap found_of c.in_default.is) (c.loop-y.invariant.1 c.requires.0 alive link))
