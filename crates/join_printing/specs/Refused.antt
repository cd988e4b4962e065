-- What is printed of a refusal of two queries, by the code's type.
use Rattle.std.specs.Prelude.{ℕ, List, ◌++◌}
use Rattle.text.specs.Text.{ascii}
use Rattle.wording.specs.Words.{refused_text}
use Rattle.refusals.specs.Numbers.{number_of}
use Rattle.joiner.specs.declared.JoinRefusal.{JoinRefusal}
use Rattle.joiner.specs.declared.JoinRefusal.TheVariants as refusal

abbrev pub refusal_words : JoinRefusal → List ℕ
refusal_words (refusal.First e) = refused_text (number_of e.fault) e.place ++ ascii " of the first query\n"
refusal_words (refusal.Second e) = refused_text (number_of e.fault) e.place ++ ascii " of the second query\n"
refusal_words (refusal.Neither e) = refused_text (number_of e.fault) e.place ++ ascii "\n"
