-- What the program prints of a stream, however it is cut into pieces.
use Rattle.std.specs.Prelude.{ℕ, suc, ◌*◌, ◌≤◌, ◌<◌, ◌≡◌, Bool, true, false, List, [], ◌++◌, length, take, ltb}
use Rattle.logic.specs.Search.{◌or◌}
use Rattle.tally.specs.Counting.{no_lines}
use Rattle.fractions.specs.Fractions.{shares_text}
use Rattle.sharing.specs.Output.{output}
use Rattle.sharing.specs.Streaming.{Processes}

-- Where the program stands: the tally, the bytes that are kept, and those of the stream that are not read yet.
pub record Standing : Type 0 where
  pub counts : List ℕ
  pub kept : List ℕ
  pub unread : List ℕ

abbrev pub at_first : List ℕ → Standing
at_first stream = record { counts = no_lines; kept = []; unread = stream }

-- A round of its loop: it reads a piece behind the bytes that are kept, processes them and prints the text. Once the stream has ended nothing
-- is left of it, and before, something is read.
pub record Round (s : Standing) (text : List ℕ) (t : Standing) (goes : Bool) : Type 0 where
  pub piece : List ℕ
  pub ended : Bool
  pub cut : s.unread ≡ piece ++ t.unread
  pub all : ended ≡ true → t.unread ≡ []
  pub some_bytes : ended ≡ false → 0 < length piece
  pub processes : Processes s.counts (s.kept ++ piece) ended text t.counts t.kept goes

-- rounds one after the other, as long as a query may follow: all that they print, and how many there are
pub data Rounds : Standing → List ℕ → Standing → ℕ → Type 0 where
  no_round : {s : Standing} → Rounds s [] s 0
  one_more : {s t u : Standing} {text printed : List ℕ} {n : ℕ} → Round s text t true → Rounds t printed u n → Rounds s (text ++ printed) u (suc n)

-- The whole of `main`: rounds, the one after which no query may follow, and the shares.
pub record Run (stream printed : List ℕ) : Type 0 where
  pub before : Standing
  pub after : Standing
  pub texts : List ℕ
  pub text : List ℕ
  pub number : ℕ
  pub rounds : Rounds (at_first stream) texts before number
  pub last : Round before text after false
  pub prints : printed ≡ texts ++ (text ++ shares_text after.counts)

-- What the program knows where its loop ends at a tally: the bytes that were read, whether the input has ended behind them, and the texts of all
-- rounds. Whatever the stream has behind these bytes, that is a run on it, where the shares of the tally are printed.
pub record Ran (counts : List ℕ) : Type 0 where
  pub bytes : List ℕ
  pub ended : Bool
  pub printed : List ℕ
  pub run : (future : List ℕ) → (ended ≡ true → future ≡ []) → Run (bytes ++ future) (printed ++ shares_text counts)

-- The loop ends so, or after 2^64 - 1 rounds that all went on; then 2^63 bytes or more were read (`rounds_few`).
pub data Ends (counts : List ℕ) : Type 0 where
  ran : Ran counts → Ends counts
  used_up : (bytes printed kept : List ℕ) → Rounds (at_first bytes) printed (record { counts = counts; kept = kept; unread = [] }) 18446744073709551615 → Ends counts

-- What a read leaves: the bytes that are kept stay, what is read stands behind them, and the input has ended where it had before, or where what is
-- read does not fill the space.
pub record Reads (before : List ℕ) (kept : ℕ) (was : Bool) (after : List ℕ) (filled : ℕ) (ended : Bool) : Type 0 where
  pub same_length : length after ≡ length before
  pub least : kept ≤ filled
  pub most : filled ≤ length before
  pub kept_stay : take kept after ≡ take kept before
  pub has_ended : ended ≡ (was or ltb filled (length before))
  pub none_behind : was ≡ true → filled ≡ kept

-- What a round of the program leaves, between two places where it stands: it has read a piece behind the bytes kept, and processed just these
-- bytes. Once the input has ended it reads nothing, and before, something.
pub record RoundOf (counts kept : List ℕ) (was : Bool) (after left : List ℕ) (ended goes : Bool) : Type 0 where
  pub piece : List ℕ
  pub text : List ℕ
  pub none_behind : was ≡ true → (ended ≡ true) × (piece ≡ [])
  pub some_bytes : ended ≡ false → 0 < length piece
  pub processes : Processes counts (kept ++ piece) ended text after left goes

pub record Claims : Type 0 where
  -- whatever the pieces are, what is printed is what the definition says of the whole stream
  pub run_prints : {stream printed : List ℕ} → Run stream printed → printed ≡ output stream
  -- and rounds are so few that no stream uses up the number that `run` counts down from
  pub rounds_few : {stream printed : List ℕ} {s : Standing} {n : ℕ} → Rounds (at_first stream) printed s n → n ≤ 2 * length stream
  -- every stream has a run
  pub has_run : (stream : List ℕ) → (printed : List ℕ) × Run stream printed
  -- and wherever the program stands, whatever piece of the stream is read next, there is a round on it
  pub has_round : (s : Standing) (piece rest : List ℕ) (ended : Bool) → s.unread ≡ piece ++ rest → (ended ≡ true → rest ≡ []) → (ended ≡ false → 0 < length piece)
      → (text : List ℕ) × (t : Standing) × (goes : Bool) × (t.unread ≡ rest) × Round s text t goes
  -- so all that the program has printed where its loop ends, with the shares that it prints then, is what the definition says of the stream
  pub ran_prints : {counts : List ℕ} (r : Ran counts) (future : List ℕ) → (r.ended ≡ true → future ≡ []) → r.printed ++ shares_text counts ≡ output (r.bytes ++ future)
