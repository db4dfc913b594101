use Rattle.com_draw_state.specs.Tracks.{freed}
use Rattle.com_draw_state.proofs.Mapped.{mapped_all, mapped_next}
use Rattle.com_draw_state.proofs.tracks.free.Goals as goal

pub tracks-preserved : goal.tracks-preserved
tracks-preserved c = mapped_next (freed c.args.object) _ _ _ _ _ c.tracks.invariant c.tracks-test.true c.freed.ensures

pub returns : goal.returns
returns c = mapped_all (freed c.args.object) _ _ _ c.tracks.invariant c.tracks-test.false
