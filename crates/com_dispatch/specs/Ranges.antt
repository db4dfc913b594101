-- The slots that arguments name.
use Rattle.std.specs.Prelude.{◌<◌}
use Rattle.com_dispatch.specs.declared.members.DispArg.{DispArg}
use Rattle.com_dispatch.specs.declared.members.DispArg.TheVariants as given

-- slots are 0 to 7
abbrev pub IsDispArg : DispArg → Type 0
IsDispArg (given.Literal v) = Unit {0}
IsDispArg (given.Slot slot) = slot < 8
IsDispArg given.Null = Unit {0}
