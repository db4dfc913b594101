use Rattle.std.proofs.Common.{◌≡◌, true}
use Rattle.com_model.specs.Lists.{each_of, one_to}
use Rattle.com_view.specs.Standings.{is_quiet}
use Rattle.com_view.proofs.going_on.are_quiet.Given as goal

abbrev pub invariant-loop-before : goal.invariant-loop-before
invariant-loop-before l = each_of (is_quiet l.view) (one_to l.before) ≡ true
