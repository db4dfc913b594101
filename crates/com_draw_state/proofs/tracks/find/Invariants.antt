use Rattle.std.proofs.Common.{◌≡◌, ◌+◌, length}
use Rattle.com_draw_state.specs.Tracks.{track_of}
use Rattle.com_draw_state.proofs.tracks.find.Given as goal

abbrev pub invariant-tracks : goal.invariant-tracks
invariant-tracks l = record {
  found : track_of l.number l.object l.rest ≡ track_of 0 l.object l.tracks;
  counted : l.number + length l.rest ≡ length l.tracks;
}

abbrev pub decreases-tracks : goal.decreases-tracks
decreases-tracks l = length l.rest
