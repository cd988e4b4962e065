-- What each part writes, joined, and that the writer held the caller's buffer to the end. Assumes nothing.
use Rattle.std.proofs.Common.{◌≡◌, arith, ap, List, ℕ, MutBor}
use Rattle.text.proofs.Writing.{writes_then}
use Rattle.dot_writer.proofs.Chain.{appended, holds_on}
use Rattle.dot_text.specs.Parts.{head, nodes, arrows}
use Rattle.dot_text.proofs.draw.Goals as goal

pub returns : goal.returns
returns c =
    let one = appended c.new-w.result (head c.args.report.now) c.put_head.ensures in
    let two = appended c.put_head.new.w (nodes c.args.report.now) c.put_nodes.ensures in
    let three = appended c.put_nodes.new.w (arrows c.args.report.now) c.put_arrows.ensures in
    let four = appended c.put_arrows.new.w c.args.end.now c.append_bytes.ensures in
    let all = writes_then one (writes_then two (writes_then three four)) in
    let held1 = holds_on c.new-w.result (head c.args.report.now) c.put_head.ensures in
    let held2 = holds_on c.put_head.new.w (nodes c.args.report.now) c.put_nodes.ensures in
    let held3 = holds_on c.put_nodes.new.w (arrows c.args.report.now) c.put_arrows.ensures in
    let held4 = holds_on c.put_arrows.new.w c.args.end.now c.append_bytes.ensures in
    let named = ap (λ (u : MutBor (List ℕ)). u.ghost_name) c.new-w.ensures.0 in
    let begun : c.new-w.result.out.now ≡ c.args.out.now = ap (λ (u : MutBor (List ℕ)). u.now) c.new-w.ensures.0 in
    record { leaves = grind arith; ends = cc }
