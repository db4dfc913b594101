-- Two histories that are legal but for their last entry, an Enter of which one half of `HasWork` fails.
use Rattle.std.specs.Prelude.{List, [], ◌∷◌, None, pos}
use Rattle.com_base.specs.declared.value.Value.TheVariants as value
use Rattle.com_model.specs.declared.deeds.Deed.TheVariants as deed
use Rattle.com_model.specs.declared.deeds.Entry.{Entry}
use Rattle.com_model.specs.Cases.{direct_call_2, direct_call_3}

-- A lane enters call 1, which nobody issued, on object 1, of a declared class.
abbrev pub enters_unissued : List Entry
enters_unissued =
    record { lane = 1; deed = deed.Enter 1 1 3 None (value.Int (pos 5) ∷ []) } ∷ direct_call_2

-- A lane enters call 1, which was issued, on object 2, which nobody made.
abbrev pub enters_unmade : List Entry
enters_unmade = record { lane = 1; deed = deed.Enter 1 2 3 None (value.Int (pos 5) ∷ []) } ∷ direct_call_3
