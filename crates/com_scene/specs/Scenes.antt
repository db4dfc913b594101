-- A scene before the first entry, and the frame of whoever acts in a scene.
use Rattle.std.specs.Prelude.{ℕ, ◌+◌, []}
use Rattle.com_base.specs.declared.limits.TheConstants.{BUFFER_COUNT}
use Rattle.com_body.specs.declared.operands.Destination.TheVariants as destination
use Rattle.com_body.specs.Frames.{FrameView, entered}
use Rattle.com_body.specs.Operands.{new_cells}
use Rattle.com_model.specs.Frames.{Actor as Acting, Body, Script, Nobody}
use Rattle.com_model.specs.Lists.{tabulated}
use Rattle.com_model.specs.State.{SceneTables}
use Rattle.com_state.specs.SceneParts.{body_at, script_at}

-- That of the first state of a scenario with so many threads.
abbrev pub new_scene : (threads : ℕ) → SceneTables
new_scene n = record {
  scripts = tabulated (n + 1) (λ l. entered []);
  bodies = tabulated 1 (λ c. entered []);
  cells = tabulated 1 (λ o. new_cells);
  buffers = tabulated BUFFER_COUNT (λ b. []);
  destinations = tabulated 1 (λ c. destination.Nowhere);
}

-- The frame of whoever acts: that of the call's body or of the lane's script, and an empty one where nobody acts.
abbrev pub frame_of : SceneTables → Acting → FrameView
frame_of t (Body c o) = body_at t c
frame_of t (Script l) = script_at t l
frame_of t Nobody = entered []
