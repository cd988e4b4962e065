use Rattle.std.proofs.Common.{ℕ, ◌≡◌, ◌<◌, ◌⊎◌, false, refl, inl, inr, arith, eqb}
use Rattle.std.proofs.lemmas.Bool.{eqb-false}
use Rattle.theory.proofs.Query.Bytes.{layout_numbers, LayoutNumber}
use Rattle.refusals.specs.declared.Fault.{Fault}
use Rattle.refusals.specs.declared.Fault.TheVariants as fault
use Rattle.refusals.specs.Numbers.{number_of}
use mathlib.Core.List.Memᴰ
use mathlib.Core.List.{Memᴰ}
use Rattle.between_checks.proofs.Merged.{accepted_ends, refused_early, refused_ends, follows-five}
use Rattle.between_checks.proofs.check.Goals as goal

-- a number that is not 2, 3, 26 or 4 is none of the walk from the front
not_front : (k : ℕ) → eqb k 2 ≡ false → eqb k 3 ≡ false → eqb k 26 ≡ false → eqb k 4 ≡ false → LayoutNumber k → ⊥
unfolding layout_numbers
not_front k a b c d (Memᴰ.head e) = eqb-false k 2 a e
not_front k a b c d (Memᴰ.tail (Memᴰ.head e)) = eqb-false k 3 b e
not_front k a b c d (Memᴰ.tail (Memᴰ.tail (Memᴰ.head e))) = eqb-false k 26 c e
not_front k a b c d (Memᴰ.tail (Memᴰ.tail (Memᴰ.tail (Memᴰ.head e)))) = eqb-false k 4 d e
not_front k a b c d (Memᴰ.tail (Memᴰ.tail (Memᴰ.tail (Memᴰ.tail m)))) = Memᴰ.not-nil m

other : (f : Fault) → (f ≡ fault.QueryEnds → ⊥) → (f ≡ fault.CountAboveLimit → ⊥) → (f ≡ fault.TrailingBytes → ⊥) → (f ≡ fault.BooleanCount → ⊥) →
    LayoutNumber (number_of f) → ⊥
other fault.OrderList q c t b m = not_front _ refl refl refl refl m
other fault.QueryEnds q c t b m = q refl
other fault.CountAboveLimit q c t b m = c refl
other fault.TrailingBytes q c t b m = t refl
other fault.TermByte q c t b m = not_front _ refl refl refl refl m
other fault.Sign q c t b m = not_front _ refl refl refl refl m
other fault.TermNumber q c t b m = not_front _ refl refl refl refl m
other fault.FieldNumber q c t b m = not_front _ refl refl refl refl m
other fault.ReportBuffer q c t b m = not_front _ refl refl refl refl m
other fault.NothingToDerive q c t b m = not_front _ refl refl refl refl m
other fault.DerivationBuffer q c t b m = not_front _ refl refl refl refl m
other fault.HeapReport q c t b m = not_front _ refl refl refl refl m
other fault.TextBuffer q c t b m = not_front _ refl refl refl refl m
other fault.SheetLength q c t b m = not_front _ refl refl refl refl m
other fault.SheetRule q c t b m = not_front _ refl refl refl refl m
other fault.FormulaText q c t b m = not_front _ refl refl refl refl m
other fault.FormulaDepth q c t b m = not_front _ refl refl refl refl m
other fault.Conjunctions q c t b m = not_front _ refl refl refl refl m
other fault.DerivationLength q c t b m = not_front _ refl refl refl refl m
other fault.BetweenTerms q c t b m = not_front _ refl refl refl refl m
other fault.LinkByte q c t b m = not_front _ refl refl refl refl m
other fault.PairList q c t b m = not_front _ refl refl refl refl m
other fault.JoinRoom q c t b m = not_front _ refl refl refl refl m
other fault.ClashLine q c t b m = not_front _ refl refl refl refl m
other fault.BooleanCount q c t b m = b refl
other fault.RewriteRoom q c t b m = not_front _ refl refl refl refl m

pub check_sixth-requires : goal.check_sixth-requires
check_sixth-requires c = follows-five _ _ _ (rw c.in-TrailingBytes.is refl) c.in-Err.ensures

pub returns-in-Ok : goal.returns-in-Ok
returns-in-Ok c = rw c.at.ensures (accepted_ends _ _ c.in-Ok.ensures)

early_number : (f : Fault) → (f ≡ fault.QueryEnds) ⊎ ((f ≡ fault.CountAboveLimit) ⊎ (f ≡ fault.BooleanCount)) → (number_of f < 4) ⊎ (number_of f ≡ 26)
early_number f (inl e) = inl (rw e (omega arith))
early_number f (inr (inl e)) = inl (rw e (omega arith))
early_number f (inr (inr e)) = inr (rw e refl)

pub returns-in-QueryEnds : goal.returns-in-QueryEnds
returns-in-QueryEnds c = refused_early _ _ _ (early_number _ c.in-QueryEnds.is) c.in-Err.ensures

pub returns-in_default : goal.returns-in_default
returns-in_default c =
    let d = c.in_default in
    rw c.at-in_default.ensures
    (refused_ends _ _ _ (other c.in-Err.refusal.fault d.not-QueryEnds d.not-CountAboveLimit d.not-TrailingBytes d.not-BooleanCount) c.in-Err.ensures)
