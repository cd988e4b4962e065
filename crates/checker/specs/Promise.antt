-- The call's answer in the words of 02.
use Rattle.std.specs.Prelude.{ℕ, Option, Some, None, Result, Ok, Err}
use Rattle.refusals.specs.declared.Refusal.{Refusal}
use Rattle.refusals.specs.Numbers.{number_of}
use Rattle.checking.specs.CheckCall.{Checked, accepted, wrong, refused}

-- by the first wrong line, if there is one
abbrev pub judged_as : Option ℕ → Checked
judged_as None = accepted
judged_as (Some k) = wrong k

abbrev pub meaning : Result (Option ℕ) Refusal → Checked
meaning (Ok found) = judged_as found
meaning (Err e) = refused (number_of e.fault) e.place
