use Rattle.com_draw_state.specs.Tracks.{cut_of_apartment}
use Rattle.com_draw_state.proofs.Mapped.{mapped_all, mapped_next}
use Rattle.com_draw_state.proofs.tracks.cut_apartment.Goals as goal

pub tracks-preserved : goal.tracks-preserved
tracks-preserved c = mapped_next (cut_of_apartment c.args.apartment c.args.start) _ _ _ _ _ c.tracks.invariant c.tracks-test.true c.cut_of_apartment.ensures

pub returns : goal.returns
returns c = mapped_all (cut_of_apartment c.args.apartment c.args.start) _ _ _ c.tracks.invariant c.tracks-test.false
