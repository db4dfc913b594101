use Rattle.std.proofs.Common.{◌∙◌}
use Rattle.com_replay.proofs.Retraced.{goes_on, has_next, has_room, is_reached, is_told, starts}
use Rattle.com_replay.proofs.explained.retracing.stuck_after.Goals as goal

pub entries-init : goal.entries-init
entries-init g c = record {
  retraced = starts _ _ _ c.requires.first c.requires.lawful;
  same = c.requires.scenario;
  kinds = c.requires.row;
}

pub make_next-requires-clause-next : goal.make_next-requires-clause-next
make_next-requires-clause-next g c = has_next _ _ _ _ _ _ _ c.entries.invariant.same c.in-Some.ensures.cases.0 c.entries.invariant.retraced

pub make_next-requires-clause-room : goal.make_next-requires-clause-room
make_next-requires-clause-room g c = has_room _ _ _ _ _ _ _ c.entries.invariant.same c.in-Some.ensures.cases.0 c.requires.lawful c.entries.invariant.retraced

pub make_next-requires-clause-reached : goal.make_next-requires-clause-reached
make_next-requires-clause-reached g c = is_reached _ _ _ _ _ c.entries.invariant.same c.requires.lawful c.entries.invariant.retraced

pub entries-preserved : goal.entries-preserved
entries-preserved g c = record {
  retraced = goes_on _ _ _ _ _ _ _ _ _ c.entries.invariant.same c.requires.lawful c.in-Some.ensures.cases.0 c.in_ok-make_next.ensures.made c.entries.invariant.retraced;
  same = c.in_ok-make_next.ensures.scenario ∙ c.entries.invariant.same;
  kinds = c.in_ok-make_next.ensures.row;
}

pub standing-standing-requires : goal.standing-standing-requires
standing-standing-requires g c = is_reached _ _ _ _ _ c.entries.invariant.same c.requires.lawful c.entries.invariant.retraced

pub returns : goal.returns
returns g c = c.is_stuck.ensures ∙ is_told _ _ _ _ _ _ c.entries.invariant.same c.in_default.ensures.cases c.standing-standing.ensures c.entries.invariant.retraced
