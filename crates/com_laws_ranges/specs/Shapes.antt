-- How many registers and slots a frame has.
use Rattle.std.specs.Prelude.{◌≡◌, length}
use Rattle.com_base.specs.declared.limits.TheConstants.{REGISTER_COUNT, SLOT_COUNT}
use Rattle.com_body.specs.Frames.{FrameView}

-- A frame has each register and each slot that there is.
pub record HasShape (f : FrameView) : Type 0 where
  pub registers : length f.registers ≡ REGISTER_COUNT
  pub slots : length f.slots ≡ SLOT_COUNT
