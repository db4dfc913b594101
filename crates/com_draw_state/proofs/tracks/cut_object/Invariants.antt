use Rattle.std.proofs.Common.{◌≡◌, ◌-◌, length}
use Rattle.com_draw_state.specs.Tracks.{cut_of_object}
use Rattle.com_draw_state.proofs.Mapped.{mapped}
use Rattle.com_draw_state.proofs.tracks.cut_object.Given as goal

abbrev pub invariant-tracks : goal.invariant-tracks
invariant-tracks l = l.tracks ≡ mapped (cut_of_object l.object l.start) l.number l.initial.tracks

abbrev pub decreases-tracks : goal.decreases-tracks
decreases-tracks l = length l.tracks - l.number
