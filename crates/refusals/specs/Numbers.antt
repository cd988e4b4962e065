-- The faults of 01 and 02 by their numbers, and refusals.
use Rattle.std.specs.Prelude.{ℕ, ◌≡◌, List, [], ◌∷◌, map, refl}
use Rattle.refusals.specs.declared.Fault.{Fault}
use Rattle.refusals.specs.declared.Fault.TheVariants as fault
use Rattle.refusals.specs.declared.Refusal.{Refusal}

-- the number of a fault
abbrev pub number_of : Fault → ℕ
number_of fault.OrderList = 1
number_of fault.QueryEnds = 2
number_of fault.CountAboveLimit = 3
number_of fault.TrailingBytes = 4
number_of fault.TermByte = 5
number_of fault.Sign = 6
number_of fault.TermNumber = 7
number_of fault.FieldNumber = 8
number_of fault.ReportBuffer = 9
number_of fault.NothingToDerive = 11
number_of fault.DerivationBuffer = 12
number_of fault.HeapReport = 13
number_of fault.TextBuffer = 14
number_of fault.SheetLength = 15
number_of fault.SheetRule = 16
number_of fault.FormulaText = 17
number_of fault.FormulaDepth = 18
number_of fault.Conjunctions = 19
number_of fault.DerivationLength = 20
number_of fault.BetweenTerms = 21
number_of fault.LinkByte = 22
number_of fault.PairList = 23
number_of fault.JoinRoom = 24
number_of fault.ClashLine = 25
number_of fault.BooleanCount = 26
number_of fault.RewriteRoom = 27

-- the refusal for a fault, at a place
abbrev pub refusal_at : Fault → ℕ → Refusal
refusal_at f p = record { fault = f; place = p }

-- every fault, in the order of the papers
abbrev pub faults : List Fault
faults =
    fault.OrderList
    ∷ fault.QueryEnds
    ∷ fault.CountAboveLimit
    ∷ fault.TrailingBytes
    ∷ fault.TermByte
    ∷ fault.Sign
    ∷ fault.TermNumber
    ∷ fault.FieldNumber
    ∷ fault.ReportBuffer
    ∷ fault.NothingToDerive
    ∷ fault.DerivationBuffer
    ∷ fault.HeapReport
    ∷ fault.TextBuffer
    ∷ fault.SheetLength
    ∷ fault.SheetRule
    ∷ fault.FormulaText
    ∷ fault.FormulaDepth
    ∷ fault.Conjunctions
    ∷ fault.DerivationLength
    ∷ fault.BetweenTerms
    ∷ fault.LinkByte
    ∷ fault.PairList
    ∷ fault.JoinRoom
    ∷ fault.ClashLine
    ∷ fault.BooleanCount
    ∷ fault.RewriteRoom
    ∷ []

-- Each number once, from 1 to 27; 10 is withdrawn (02, R-5).
pub numbers :
    map number_of faults
    ≡ 1 ∷ 2 ∷ 3 ∷ 4 ∷ 5 ∷ 6 ∷ 7 ∷ 8 ∷ 9 ∷ 11 ∷ 12 ∷ 13 ∷ 14 ∷ 15 ∷ 16 ∷ 17 ∷ 18 ∷ 19 ∷ 20 ∷ 21 ∷ 22 ∷ 23 ∷ 24 ∷ 25 ∷ 26 ∷ 27 ∷ []
numbers = refl
