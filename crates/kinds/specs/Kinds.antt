-- What is found out of a path: refuted, open, or unknown.
use Rattle.std.specs.Prelude.{Bool, true, false}
use Rattle.kinds.specs.declared.Kind.{Kind}
use Rattle.kinds.specs.declared.Kind.TheVariants as kind

abbrev pub is_refuted : Kind → Bool
is_refuted kind.Refuted = true
is_refuted kind.Open = false
is_refuted kind.Unknown = false

abbrev pub is_unknown : Kind → Bool
is_unknown kind.Refuted = false
is_unknown kind.Open = false
is_unknown kind.Unknown = true
