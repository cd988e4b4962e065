-- The query in hex, or the refusal.
use Rattle.std.proofs.Common.{ℕ, ◌≡◌, ◌≤◌, length, replicate, length-take-le, arith}
use Rattle.std.proofs.lemmas.List.{length-replicate}
use Rattle.text.proofs.Writing.{writes_as}
use Rattle.hex_lines.proofs.Hex.{taken_within}
use Rattle.join_printing.proofs.Texts.{written_within, written_text, refused_text_lem}
use Rattle.join_printing.proofs.put_joined.Goals as goal

full : length (replicate {A = ℕ} 561 0) ≡ 561
full = length-replicate {A = ℕ} 561 0

pub slice_bounds-out-end : goal.slice_bounds-out-end
slice_bounds-out-end c = omega (arith, c.join.auto.out, written_within _ _ _ _ _ _ c.join.ensures full _ c.in-Ok.is)

pub slice_bounds-put_hex_line-end : goal.slice_bounds-put_hex_line-end
slice_bounds-put_hex_line-end c =
    let fits : c.in-Ok.length ≤ length c.join.new.out = omega (arith, c.join.auto.out, written_within _ _ _ _ _ _ c.join.ensures full _ c.in-Ok.is) in
    omega (arith, length-take-le c.in-Ok.length c.join.new.out fits)

pub put_hex_line-requires : goal.put_hex_line-requires
put_hex_line-requires c =
    (omega arith, taken_within c.in-Ok.length _ _ (omega (arith, written_within _ _ _ _ _ _ c.join.ensures full _ c.in-Ok.is)))

pub returns-in-Ok : goal.returns-in-Ok
returns-in-Ok c = writes_as (written_text _ _ _ _ _ _ c.join.ensures full _ c.in-Ok.is) c.put_hex_line.ensures

pub returns-in-Err : goal.returns-in-Err
returns-in-Err c = writes_as (refused_text_lem _ _ _ _ _ _ c.join.ensures full _ c.in-Err.is) c.put_refusal.ensures
