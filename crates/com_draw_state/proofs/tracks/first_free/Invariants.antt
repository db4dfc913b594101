use Rattle.std.proofs.Common.{◌≡◌, ◌+◌, length}
use Rattle.com_draw_state.specs.Tracks.{free_in}
use Rattle.com_draw_state.proofs.tracks.first_free.Given as goal

abbrev pub invariant-tracks : goal.invariant-tracks
invariant-tracks l = record {
  found : free_in l.number l.rest ≡ free_in 0 l.tracks;
  counted : l.number + length l.rest ≡ length l.tracks;
}

abbrev pub decreases-tracks : goal.decreases-tracks
decreases-tracks l = length l.rest
