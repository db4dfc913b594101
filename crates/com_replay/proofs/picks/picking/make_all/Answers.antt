use Rattle.std.proofs.Common.{◌∙◌, arith}
use Rattle.com_replay.proofs.Between.{goes_on, is_picked, is_reached, starts}
use Rattle.com_replay.proofs.picks.picking.make_all.Goals as goal

pub picks-init : goal.picks-init
picks-init g c = record {
  picking = starts _ _ _ _ c.requires.first c.new-entries.ensures.items;
  same = c.requires.scenario;
  kinds = c.requires.row;
}

pub make-requires-clause-reached : goal.make-requires-clause-reached
make-requires-clause-reached g c =
    is_reached _ _ _ _ _ _ c.picks.invariant.same c.requires.formed c.picks.invariant.picking

pub picks-preserved : goal.picks-preserved
picks-preserved g c = record {
  picking = goes_on _ _ _ _ _ _ _ _ _ c.picks.invariant.same c.requires.formed (omega arith)
      c.in_ok-made.ensures.made c.in_ok-keep.ensures c.picks.invariant.picking;
  same = c.in_ok-made.ensures.scenario ∙ c.picks.invariant.same;
  kinds = c.in_ok-made.ensures.row;
}

pub returns : goal.returns
returns g c = is_picked _ _ _ _ _ (omega arith) c.picks.invariant.picking
