-- What stands open in a lane, the outermost first.
use Rattle.std.specs.Prelude.{◌-◌, List, Option, length, take, slice_get}
use Rattle.com_draw_state.specs.declared.stacks.Opening.{Opening}

-- The innermost, where something is open.
abbrev pub innermost : List Opening → Option Opening
innermost os = slice_get os (length os - 1)

-- All but the innermost.
abbrev pub outer : List Opening → List Opening
outer os = take (length os - 1) os
