-- Histories that are legal but for their last entry, and each breaks a rule of queries by it.
use Rattle.std.specs.Prelude.{List, [], ◌∷◌, Some}
use Rattle.com_base.specs.declared.value.Mode.TheVariants as mode
use Rattle.com_body.specs.declared.operands.Asked.TheVariants as asked
use Rattle.com_body.specs.declared.statements.Stmt.TheVariants as stmt
use Rattle.com_model.specs.declared.deeds.Deed.TheVariants as deed
use Rattle.com_model.specs.declared.deeds.Entry.{Entry}
use Rattle.com_model.specs.declared.scenario.Scenario.{Scenario}
use Rattle.com_model.specs.Answers.{S_OK, E_NOINTERFACE, RPC_E_DISCONNECTED}
use Rattle.com_model.specs.Cases.{direct_call}

-- A counter is asked for IUnknown, through that for the counter's interface, and through that for it again.
abbrev pub asking : Scenario
asking = record {
  version = 1;
  pool = 1;
  classes = direct_call.classes;
  filters = [];
  threads =
      (stmt.Init mode.Sta ∷ stmt.Create 0 (asked.Number 1) (asked.Number 1)
      ∷ stmt.Query 1 0 (asked.Number 0) ∷ stmt.Query 2 1 (asked.Number 1) ∷ stmt.Query 3 2 (asked.Number 1)
      ∷ []) ∷ [];
  picks = [];
}

abbrev pub asking_2 : List Entry
asking_2 =
    record { lane = 1; deed = deed.Made (Some 1) (Some 3) (asked.Number 1) (asked.Number 1) S_OK }
    ∷ record { lane = 1; deed = deed.Init mode.Sta 3 S_OK } ∷ []

abbrev pub asking_3 : List Entry
asking_3 = record { lane = 1; deed = deed.Query (Some 1) (asked.Number 0) S_OK } ∷ asking_2

abbrev pub asking_4 : List Entry
asking_4 = record { lane = 1; deed = deed.Query (Some 1) (asked.Number 1) S_OK } ∷ asking_3

-- The answer names another object.
abbrev pub of_another : List Entry
of_another = record { lane = 1; deed = deed.Query (Some 2) (asked.Number 0) S_OK } ∷ asking_2

-- The answer says that the proxy's object is not connected, where the lane's own apartment has it.
abbrev pub without_reason : List Entry
without_reason =
    record { lane = 1; deed = deed.Query (Some 1) (asked.Number 0) RPC_E_DISCONNECTED } ∷ asking_2

-- IUnknown is wanting.
abbrev pub without_identity : List Entry
without_identity = record { lane = 1; deed = deed.Query (Some 1) (asked.Number 0) E_NOINTERFACE } ∷ asking_2

-- There is no way back.
abbrev pub without_return : List Entry
without_return = record { lane = 1; deed = deed.Query (Some 1) (asked.Number 1) E_NOINTERFACE } ∷ asking_3

-- What was given is wanting: the reference's own interface.
abbrev pub without_own : List Entry
without_own = record { lane = 1; deed = deed.Query (Some 1) (asked.Number 1) E_NOINTERFACE } ∷ asking_4
