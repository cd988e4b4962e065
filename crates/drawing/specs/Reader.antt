-- A reader of the text, which gives the report back. It looks at digits and at six marks, and at nothing else.
use Rattle.std.specs.Prelude.{ℕ, suc, ◌+◌, ◌-◌, ◌*◌, cond, List, [], ◌∷◌, ◌++◌, map, length, eqb}
use Rattle.std.proofs.Math.Option.{Option, none, some, get_or}
use Rattle.logic.specs.Search.{◌or◌, from, any, flat_map}
use Rattle.text.specs.Text.{is_digit}

-- What is read so far: the number whose digits are being read, the terms of the label that is being read, and the parts of the report.
pub record Read : Type 0 where
  pub number : Option ℕ
  pub terms : List ℕ
  pub labels : List (List ℕ)
  pub bytes : List ℕ
  pub links : List ℕ
  pub booleans : ℕ

abbrev pub read : Option ℕ → List ℕ → List (List ℕ) → List ℕ → List ℕ → ℕ → Read
read number terms labels bytes links booleans = record { number = number; terms = terms; labels = labels; bytes = bytes; links = links; booleans = booleans }

-- a digit goes to the number
abbrev pub at_digit : ℕ → Read → Read
at_digit d r = read (some (10 * get_or r.number 0 + d)) r.terms r.labels r.bytes r.links r.booleans

-- behind a number, a quote ends a label and the number is its data byte; else it begins one
abbrev pub at_quote : Option ℕ → Read → Read
at_quote none r = read none [] r.labels r.bytes r.links r.booleans
at_quote (some b) r = read none [] (r.labels ++ (r.terms ∷ [])) (r.bytes ++ (b ∷ [])) r.links r.booleans

-- behind a number, a semicolon ends an arrow and the number is where it leads
abbrev pub at_semicolon : Option ℕ → Read → Read
at_semicolon none r = r
at_semicolon (some v) r = read none [] r.labels r.bytes (r.links ++ (v ∷ [])) r.booleans

-- behind a number, a newline ends the comment and the number is the byte of booleans
abbrev pub at_newline : Option ℕ → Read → Read
at_newline none r = r
at_newline (some b) r = read none r.terms r.labels r.bytes r.links b

-- behind a number, a blank or a slash makes it a term
abbrev pub at_blank : Option ℕ → Read → Read
at_blank none r = r
at_blank (some t) r = read none (r.terms ++ (t ∷ [])) r.labels r.bytes r.links r.booleans

unfoldable pub at_mark : ℕ → Read → Read
at_mark b r =
    cond (eqb b 34) (at_quote r.number r) (cond (eqb b 59) (at_semicolon r.number r) (cond (eqb b 10) (at_newline r.number r) (cond (eqb b 32 or eqb b 47) (at_blank r.number r) (read none r.terms r.labels r.bytes r.links r.booleans))))

-- one byte, and all bytes of a text
unfoldable pub step : Read → ℕ → Read
step r b = cond (is_digit b) (at_digit (b - 48) r) (at_mark b r)

unfoldable pub run : Read → List ℕ → Read
run r [] = r
run r (b ∷ bs) = run (step r b) bs

-- the place, from 1, of the first label that lists a term
unfoldable pub label_of : List (List ℕ) → ℕ → ℕ
label_of [] t = 0
label_of (ts ∷ labels) t = cond (any (eqb t) ts) 1 (suc (label_of labels t))

-- the report of what is read: each section after its count
unfoldable pub report_of : Read → List ℕ
report_of r =
    let n : ℕ = length (flat_map (λ ts. ts) r.labels) in
    (length r.links ∷ r.links)
    ++ ((n ∷ map (label_of r.labels) (from n 1)) ++ ((length r.bytes ∷ r.bytes) ++ (1 ∷ r.booleans ∷ [])))

unfoldable pub report_in : List ℕ → List ℕ
report_in text = report_of (run (read none [] [] [] [] 0) text)
