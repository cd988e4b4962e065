-- The code's answers in the words of the definitions.
use Rattle.std.specs.Prelude.{ℕ, ◌≤◌, ◌≡◌, Bool, Result, Ok, Err}
use Rattle.std.specs.Prelude as code
use mathlib.Core.List.{List, [], ◌∷◌, Memᴰ}
use Rattle.std.proofs.Math.Option.{none, some}
use Rattle.logic.specs.Query.{Form, five_sections, byte_fault}
use Rattle.logic.specs.Calls.{Input, form_checks, query_checks, refused, refusal_of}
use Rattle.entries.specs.Entries.{found_of, Passes}
use Rattle.query.specs.Forms.{form_by}
use Rattle.query.specs.LaysOut.{LaysOut, FullLaysOut}
use Rattle.query.specs.declared.FullLayout.{FullLayout}
use Rattle.query.specs.declared.Layout.{Layout}
use Rattle.refusals.specs.declared.Fault.{Fault}
use Rattle.refusals.specs.declared.Refusal.{Refusal}
use Rattle.refusals.specs.Numbers.{number_of}

-- the lowest byte that meets refusal k of 5 to 8, however many booleans pass
abbrev pub FoundIn : code.Option ℕ → ℕ → ℕ → List ℕ → Type 0
FoundIn r k links bytes = (most excess : ℕ) → found_of r ≡ byte_fault (form_by links most excess) k bytes

-- where the test passes, no byte meets one of them
abbrev pub PassesIn : Bool → ℕ → List ℕ → Type 0
PassesIn r links bytes = (most excess : ℕ) → Passes r (λ k. byte_fault (form_by links most excess) k bytes)

-- the refusal of a byte, or none, of a query that is laid out so
abbrev pub ByteAnswer : Result FullLayout Refusal → FullLayout → Form → List ℕ → Type 0
ByteAnswer (Err e) l form bytes = (i : Input) → i.query ≡ bytes → refusal_of (form_checks form) i ≡ some (refused (number_of e.fault) e.place)
ByteAnswer (Ok m) l form bytes = ((i : Input) → i.query ≡ bytes → refusal_of (form_checks form) i ≡ none) × (m ≡ l)

-- the same, however many booleans pass
abbrev pub BytesChecked : Result FullLayout Refusal → FullLayout → List ℕ → Type 0
BytesChecked r l bytes = (most excess : ℕ) → l.boolean_count ≤ most → ByteAnswer r l (form_by l.layout.links most excess) bytes

-- a fault has the number that too many booleans are refused with, where that is one of the checks'
abbrev pub StandsFor : Fault → ℕ → Type 0
StandsFor f k = Memᴰ k (2 ∷ 3 ∷ 26 ∷ 4 ∷ []) → number_of f ≡ k

-- The checks of a form with these query bytes, whatever else a call is given. They answer every refusal that the walk from the front
-- meets where that of an excess count is one of theirs.
abbrev pub FullCheckedAs : Result FullLayout Refusal → List ℕ → ℕ → ℕ → Type 0
FullCheckedAs (Err e) bytes most excess =
    Memᴰ excess (2 ∷ 3 ∷ 26 ∷ 4 ∷ []) → (i : Input) → i.query ≡ bytes → refusal_of (form_checks (five_sections most excess)) i ≡ some (refused (number_of e.fault) e.place)
FullCheckedAs (Ok l) bytes most excess =
    ((i : Input) → i.query ≡ bytes → refusal_of (form_checks (five_sections most excess)) i ≡ none) × FullLaysOut l bytes most excess

-- checks 2 to 8 and 26 of any call with these query bytes
abbrev pub CheckedAs : Result Layout Refusal → List ℕ → Type 0
CheckedAs (Err e) bytes = (i : Input) → i.query ≡ bytes → refusal_of query_checks i ≡ some (refused (number_of e.fault) e.place)
CheckedAs (Ok l) bytes = ((i : Input) → i.query ≡ bytes → refusal_of query_checks i ≡ none) × LaysOut l bytes
