-- A history that is legal but for its last entry, which makes an object by an interface that its class does not
-- have.
use Rattle.std.specs.Prelude.{List, ◌∷◌, Some}
use Rattle.com_body.specs.declared.operands.Asked.TheVariants as asked
use Rattle.com_model.specs.declared.deeds.Deed.TheVariants as deed
use Rattle.com_model.specs.declared.deeds.Entry.{Entry}
use Rattle.com_model.specs.Answers.{S_OK}
use Rattle.com_model.specs.Cases.{direct_call_1}

-- The counter's class has the counter's interface alone, and a relay's is made of it.
abbrev pub as_a_relay : List Entry
as_a_relay =
    record { lane = 1; deed = deed.Made (Some 1) (Some 3) (asked.Number 1) (asked.Number 2) S_OK }
    ∷ direct_call_1
