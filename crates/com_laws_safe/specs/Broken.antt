-- Seven histories that are legal but for their last entry, and each breaks one of the clauses of `Safe` by
-- it. The last entries were chosen so that the other clauses have nothing against them, which is not proved.
use Rattle.std.specs.Prelude.{List, [], ◌∷◌, Some, None, pos}
use Rattle.com_base.specs.declared.value.Value.TheVariants as value
use Rattle.com_base.specs.declared.value.Mode.TheVariants as mode
use Rattle.com_body.specs.declared.operands.Asked.TheVariants as asked
use Rattle.com_body.specs.declared.statements.Stmt.TheVariants as stmt
use Rattle.com_model.specs.declared.deeds.Deed.TheVariants as deed
use Rattle.com_model.specs.declared.deeds.Entry.{Entry}
use Rattle.com_model.specs.declared.scenario.Scenario.{Scenario}
use Rattle.com_model.specs.Answers.{S_OK, RPC_E_OUT_OF_RESOURCES}
use Rattle.com_model.specs.Cases.{direct_call, direct_call_3, direct_call_6, pumped_words_3}
use Rattle.com_model.specs.Cases.{into_the_host_3, answer_first_10}

-- The host's thread enters an object of its STA as if that were in the MTA, apartment 1.
abbrev pub in_foreign_apartment : List Entry
in_foreign_apartment =
    record { lane = 2; deed = deed.Enter 1 1 1 (Some 1) (value.Int (pos 7) ∷ []) } ∷ into_the_host_3

-- A script makes its next action while its pump is still open.
abbrev pub above_a_pump : List Entry
above_a_pump = record { lane = 1; deed = deed.Raw 0 4 } ∷ pumped_words_3

-- A lane admits a call above a call that has its answer.
abbrev pub above_an_answer : List Entry
above_an_answer =
    record { lane = 1; deed = deed.Enter 2 1 3 (Some 1) (value.Int (pos 2) ∷ []) } ∷ answer_first_10

-- A body is entered with another value than its caller gave.
abbrev pub another_value : List Entry
another_value = record { lane = 1; deed = deed.Enter 1 1 3 None (value.Int (pos 6) ∷ []) } ∷ direct_call_3

-- A packet is unmarshalled that nobody made: the STA has a place of the object and no proxy for it.
abbrev pub unmarshalled_out_of_nothing : Scenario
unmarshalled_out_of_nothing = record {
  version = 1;
  pool = 1;
  classes = direct_call.classes;
  filters = [];
  threads =
      (stmt.Init mode.Mta ∷ stmt.Create 0 (asked.Number 1) (asked.Number 1) ∷ [])
      ∷ (stmt.Init mode.Sta ∷ stmt.Unmarshal 0 0 ∷ []) ∷ [];
  picks = [];
}

abbrev pub two_apartments : List Entry
two_apartments =
    record { lane = 2; deed = deed.Init mode.Sta 3 S_OK }
    ∷ record { lane = 1; deed = deed.Made (Some 1) (Some 1) (asked.Number 1) (asked.Number 1) S_OK }
    ∷ record { lane = 1; deed = deed.Init mode.Mta 1 S_OK } ∷ []

abbrev pub out_of_nothing : List Entry
out_of_nothing =
    record { lane = 2; deed = deed.Unmarshal (Some 1) (Some (record { object = 1; iface = 1 })) 5 S_OK }
    ∷ two_apartments

-- An object is released while a script holds it.
abbrev pub held_by_a_script : List Entry
held_by_a_script = record { lane = 1; deed = deed.Final 1 } ∷ direct_call_6

-- A call is refused for want of resources, where there are enough.
abbrev pub without_a_cause : List Entry
without_a_cause = record { lane = 1; deed = deed.Refuse 1 RPC_E_OUT_OF_RESOURCES } ∷ direct_call_3
