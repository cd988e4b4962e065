-- The code's word of a fault.
use Rattle.routine_text.specs.Builder.{Fault, text_fault, name_fault, forall_fault, limit_fault}
use Rattle.routine_lines.specs.declared.FaultWord.{FaultWord}
use Rattle.routine_lines.specs.declared.FaultWord.TheVariants as word

unfoldable pub word_of : FaultWord → Fault
word_of word.Text = text_fault
word_of word.Name = name_fault
word_of word.Forall = forall_fault
word_of word.Limit = limit_fault
