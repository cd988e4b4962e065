-- What the code sees at a path, in the words of the definitions.
use Rattle.logic.specs.Facts.{line}
use Rattle.logic.specs.Walk.{Look, clashing, applying, saturated}
use Rattle.rules.specs.Answers.{move_as}
use Rattle.walk.specs.declared.Seen.{Seen}
use Rattle.walk.specs.declared.Seen.TheVariants as seen

abbrev pub look_of : Seen → Look
look_of (seen.Clashing c) = clashing (line 9 c.section c.place c.partner)
look_of (seen.Applying m) = applying (move_as m)
look_of seen.Saturated = saturated
