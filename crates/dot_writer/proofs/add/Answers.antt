-- What each part writes, joined, and that the writer held the caller's buffer to the end. Assumes nothing.
use Rattle.std.proofs.Common.{◌≡◌, arith, ap, List, ℕ, MutBor}
use Rattle.text.specs.Text.{decimal}
use Rattle.text.proofs.Digits.{decimal_machine}
use Rattle.text.proofs.Writing.{writes_then}
use Rattle.dot_writer.proofs.Chain.{appended, holds_on}
use Rattle.dot_writer.proofs.add.Goals as goal

pub append_bytes-requires-2 : goal.append_bytes-requires-2
append_bytes-requires-2 c =
    let one = appended c.new-w.result c.args.before.now c.append_bytes.ensures in
    let two = appended c.append_bytes.new.self (decimal c.args.k) c.append_number.ensures in
    let short = decimal_machine c.args.k (omega arith) in
    omega (arith, one.ends, two.ends)

pub returns : goal.returns
returns c =
    let one = appended c.new-w.result c.args.before.now c.append_bytes.ensures in
    let two = appended c.append_bytes.new.self (decimal c.args.k) c.append_number.ensures in
    let three = appended c.append_number.new.self c.args.after.now c.append_bytes-2.ensures in
    let all = writes_then one (writes_then two three) in
    let held1 = holds_on c.new-w.result c.args.before.now c.append_bytes.ensures in
    let held2 = holds_on c.append_bytes.new.self (decimal c.args.k) c.append_number.ensures in
    let held3 = holds_on c.append_number.new.self c.args.after.now c.append_bytes-2.ensures in
    let named = ap (λ (u : MutBor (List ℕ)). u.ghost_name) c.new-w.ensures.0 in
    let begun : c.new-w.result.out.now ≡ c.args.out.now = ap (λ (u : MutBor (List ℕ)). u.now) c.new-w.ensures.0 in
    record { leaves = grind arith; ends = cc }
