-- What the code answers for the number of a size.
use Rattle.std.specs.Prelude.{Some, None}
use Rattle.std.specs.Prelude as std
use Rattle.std.proofs.Math.Option.{Option, none, some}
use Rattle.format.specs.declared.Scale.{Scale}

abbrev pub known_scale : std.Option Scale → Option Scale
known_scale (Some scale) = some scale
known_scale None = none
