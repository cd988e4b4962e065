-- What rewritelinks prints, byte for byte, as a function of the bytes that it is given (02, R-11): a query in the old layout.
use Rattle.std.specs.Prelude.{ℕ, List, take}
use Rattle.link_rewriting.specs.Call.{links_rewrite_call}
use Rattle.rewrite_printing.specs.RewriteText.{outcome_text}

-- a query with three links has at most 637 bytes
unfoldable pub text_of : List ℕ → List ℕ
text_of query = outcome_text (links_rewrite_call query 637)

-- at most the first 1,024 bytes of standard input, as heapverdict reads them
unfoldable pub rewritelinks_text : List ℕ → List ℕ
rewritelinks_text bytes = text_of (take 1024 bytes)
