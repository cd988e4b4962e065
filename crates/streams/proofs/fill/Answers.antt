-- A read puts its bytes behind those that stand at the front.
use Rattle.std.proofs.Common.{◌≡◌, ℕ, ◌+◌, ◌≤◌, List, ◌++◌, length, take, sym, ap, subst, ◌∙◌, arith, length-take-le}
use Rattle.std.proofs.Math.Seq.{take-append-add}
use Rattle.std.proofs.lemmas.List.{take-append-le}
use Rattle.std.proofs.KnownBytes.{Consumes-trans}
use Rattle.std.specs.Io.KnownBytes.{Consumes}
use Rattle.streams.proofs.fill.Goals as goal

-- the front with the bytes of a read behind it
longer : (front part rest : List ℕ) (at n : ℕ) → length front ≡ at → n ≤ length part → take (at + n) (front ++ (part ++ rest)) ≡ front ++ take n part
longer front part rest at n long fits =
    ap (λ k. take (k + n) (front ++ (part ++ rest))) (sym long) ∙ take-append-add front (part ++ rest) n ∙ ap (λ l. front ++ l) (take-append-le n part rest fits)

pub loop-filled-preserved : goal.loop-filled-preserved
loop-filled-preserved g c =
    let buffer = c.loop-filled.buffer in let at = c.loop-filled.filled in
    let long = length-take-le at buffer (omega (arith, c.loop-filled.invariant.0)) in (
      search (arith, c.loop-filled.invariant.0),
      subst (Consumes _ _) (sym (longer _ c.read.new.buf _ at c.in-Ok.n long c.in-Ok.ensures.bound.0))
          (Consumes-trans _ _ _ _ _ c.loop-filled.invariant.1 c.in-Ok.ensures.bytes.0),
    )
