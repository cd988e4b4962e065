-- Lines of a derivation in a lent buffer, behind the two bytes of their count.
use Rattle.std.specs.Prelude.{ℕ, ◌+◌, ◌*◌, cond, List, [], ◌∷◌, length, set, leb, ltb}
use Rattle.logic.specs.Facts.{Line, line}

-- The count stops above 16,000, the most lines that a derivation may have.
unfoldable pub counted : ℕ → ℕ
counted c = cond (leb c 16000) (c + 1) c

unfoldable pub count_all : ℕ → List Line → ℕ
count_all c [] = c
count_all c (l ∷ ls) = count_all (counted c) ls

-- line c stands at 4 c + 2, where there is room for it
unfoldable pub put_line : List ℕ → ℕ → Line → List ℕ
put_line buffer c (line w x y z) =
    cond (ltb (length buffer) (4 * c + 2 + 4)) buffer
    (set (set (set (set buffer (4 * c + 2) w) (4 * c + 2 + 1) x) (4 * c + 2 + 2) y) (4 * c + 2 + 3) z)

unfoldable pub put_all : List ℕ → ℕ → List Line → List ℕ
put_all buffer c [] = buffer
put_all buffer c (l ∷ ls) = put_all (put_line buffer c l) (counted c) ls
