-- The text of a heap report in Graphviz's DOT language (02, R-2).
use Rattle.std.specs.Prelude.{ℕ, ◌+◌, Bool, true, false, List, [], ◌∷◌, ◌++◌, get_or, eqb}
use Rattle.logic.specs.Search.{from, select, flat_map}
use Rattle.logic.specs.Shown.{size_in, node_in}
use Rattle.text.specs.Text.{ascii, decimal}

-- What stands where in a report (01, "The heap shown"): the term count, the link and the data byte of a node, the byte of booleans, and
-- the report's length without the bytes past it, 2m+n+5.
unfoldable pub count_in : List ℕ → ℕ
count_in bytes = get_or bytes (size_in bytes + 1) 0

unfoldable pub link_in : List ℕ → ℕ → ℕ
link_in bytes v = get_or bytes v 0

unfoldable pub datum_in : List ℕ → ℕ → ℕ
datum_in bytes v = get_or bytes (size_in bytes + count_in bytes + 2 + v) 0

unfoldable pub booleans_in : List ℕ → ℕ
booleans_in bytes = get_or bytes (size_in bytes + count_in bytes + size_in bytes + 4) 0

unfoldable pub report_size : List ℕ → ℕ
report_size bytes = size_in bytes + count_in bytes + size_in bytes + 5

-- The fixed parts: what begins and ends the text, the comment, a node's line and an arrow's
abbrev pub opening : List ℕ
opening = ascii "digraph heap {\n"

abbrev pub closing : List ℕ
closing = ascii "}\n"

abbrev pub comment_open : List ℕ
comment_open = ascii "// "

abbrev pub newline : List ℕ
newline = ascii "\n"

abbrev pub label_open : List ℕ
label_open = ascii " [label=\""

abbrev pub label_close : List ℕ
label_close = ascii "\"];\n"

abbrev pub arrow : List ℕ
arrow = ascii " -> "

abbrev pub line_end : List ℕ
line_end = ascii ";\n"

abbrev pub slash : List ℕ
slash = ascii "/"

-- a blank before each number but the first
abbrev pub blank : Bool → List ℕ
blank true = []
blank false = ascii " "

-- "blanks between": numbers in decimal, of which the first is the first of all or not
unfoldable pub listed : Bool → List ℕ → List ℕ
listed first [] = []
listed first (t ∷ ts) = blank first ++ (decimal t ++ listed false ts)

-- "the node's term numbers ascending"
unfoldable pub terms_at : List ℕ → ℕ → List ℕ
terms_at bytes v = select (λ t. eqb (node_in bytes t) v) (from (count_in bytes) 1)

-- "The boolean byte stands in a comment line"
unfoldable pub comment_line : List ℕ → List ℕ
comment_line bytes = comment_open ++ (decimal (booleans_in bytes) ++ newline)

-- "A label is the node's term numbers ascending, blanks between, a slash and the data byte, all decimal."
unfoldable pub node_line : List ℕ → ℕ → List ℕ
node_line bytes v =
    decimal v ++ (label_open ++ (listed true (terms_at bytes v) ++ (slash ++ (decimal (datum_in bytes v) ++ label_close))))

-- "an arrow per link"
unfoldable pub arrow_line : List ℕ → ℕ → List ℕ
arrow_line bytes v = decimal v ++ (arrow ++ (decimal (link_in bytes v) ++ line_end))

-- "a line per node, then an arrow per link, both ascending"
unfoldable pub text : List ℕ → List ℕ
text bytes =
    let nodes : List ℕ = from (size_in bytes) 1 in
    opening ++ (comment_line bytes ++ (flat_map (node_line bytes) nodes ++ (flat_map (arrow_line bytes) nodes ++ closing)))
