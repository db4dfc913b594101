-- Frames: where a body or a script stands, and how one begins.
use Rattle.std.specs.Prelude.{ℕ, ◌+◌, ◌-◌, List, [], ◌∷◌, ◌++◌, Option, None, pos, length, replicate}
use Rattle.std.specs.Prelude.{slice_set}
use Rattle.com_base.specs.declared.limits.TheConstants.{ANSWER_REGISTER, REGISTER_COUNT, SLOT_COUNT}
use Rattle.com_base.specs.declared.value.RefValue.{RefValue}
use Rattle.com_base.specs.declared.value.Value.{Value}
use Rattle.com_base.specs.declared.value.Value.TheVariants as value

-- What contracts see of a frame: the number of the next statement, `REGISTER_COUNT` values and `SLOT_COUNT`
-- references.
pub record FrameView : Type 0 where
  pub place : ℕ
  pub registers : List Value
  pub slots : List (Option RefValue)

-- The values that are no references, in their order.
abbrev pub plain_values : List Value → List Value
plain_values [] = []
plain_values (value.Ref held ∷ rest) = plain_values rest
plain_values (other ∷ rest) = other ∷ plain_values rest

-- The references among the values, in their order.
abbrev pub references : List Value → List (Option RefValue)
references [] = []
references (value.Ref held ∷ rest) = held ∷ references rest
references (other ∷ rest) = references rest

-- The Int 0.
abbrev pub no_number : Value
no_number = value.Int (pos 0)

-- All registers: those that may have been set, of those before the answer's; the others, which are the Int 0; and the
-- answer's, which is the last.
abbrev pub padded : List Value → Value → List Value
padded values answer = (values ++ replicate (ANSWER_REGISTER - length values) no_number) ++ answer ∷ []

-- A frame at Enter: the values that are no references stand in the registers from the first on, and the
-- references in the slots from the first on. All other registers are the Int 0, and all other slots are null.
abbrev pub entered : List Value → FrameView
entered values = record {
  place = 0;
  registers = plain_values values ++ replicate (REGISTER_COUNT - length (plain_values values)) no_number;
  slots = references values ++ replicate (SLOT_COUNT - length (references values)) None;
}

-- A frame with another value in one register.
abbrev pub with_register : FrameView → ℕ → Value → FrameView
with_register frame number value = record frame { registers = slice_set frame.registers number value }

-- A frame with another reference in one slot.
abbrev pub with_slot : FrameView → ℕ → Option RefValue → FrameView
with_slot frame number held = record frame { slots = slice_set frame.slots number held }

-- A frame whose program counter is n statements further on.
abbrev pub moved : FrameView → ℕ → FrameView
moved frame n = record frame { place = frame.place + n }
