-- A pair to r, and the way from there. Assumes nothing.
use mathlib.Core.Path.{sym, ◌∙◌}
use Rattle.pair_rings.proofs.Turns.{onward-not, onward_is}
use Rattle.pair_rings.proofs.is_onward.Statement.{statement}
use Rattle.pair_rings.proofs.is_onward.Tie as tie

pub is_onward_spec : {M : Type 1} → statement M
is_onward_spec =
    tie.close
    (tie.spec
    -- is-paired-requires
    (λ c κs. c.requires.0)
    -- returns
    (λ c.
    sym (onward-not _ c.args.z c.args.k _ _ (sym c.is_paired.ensures ∙ c.if-not-is_paired.true)))
    -- is-led-requires
    (λ c κs.
    (c.requires.0, c.requires.1, c.requires.3, c.requires.2))
    -- returns-2
    (λ c.
    c.is_led.ensures ∙ sym (onward_is _ _ _ c.args.a _ (sym c.is_paired.ensures ∙ c.if-not-is_paired.false))))
