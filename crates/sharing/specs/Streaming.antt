-- A stream that is read in pieces (02, R-14: "Standard input is an order list, then queries"): what is printed of a piece, and what is kept
-- of it for the next.
use Rattle.std.specs.Prelude.{ℕ, ◌≤◌, ◌<◌, ◌≡◌, ◌⊎◌, Bool, true, false, cond, List, [], ◌++◌, length}
use Rattle.fractions.specs.Fractions.{shares_text}
use Rattle.sharing.specs.Output.{output_from}

-- What is still to be printed: where a query may follow, all that is printed of these bytes, the order list first; else the shares alone.
unfoldable pub still_printed : Bool → List ℕ → List ℕ → List ℕ
still_printed goes counts bytes = cond goes (output_from counts bytes) (shares_text counts)

-- A round on the bytes that are held: the text that it makes, the tally after it, the bytes that are kept, and whether a query may follow.
pub record Processes (counts held : List ℕ) (ended : Bool) (text after kept : List ℕ) (goes : Bool) : Type 0 where
  -- whatever bytes follow those held, and none do where the stream has ended
  pub prints : (more : List ℕ) → (ended ≡ true → more ≡ []) → output_from counts (held ++ more) ≡ text ++ still_printed goes after (kept ++ more)
  pub shrinks : length kept ≤ length held
  -- it takes something, or waits for more bytes: those held are fewer than an order list and the longest query with its length
  pub advances : goes ≡ true → (length kept < length held) ⊎ ((ended ≡ false) × (length held < 691))
