use Rattle.std.proofs.Common.{sym, ◌∙◌}
use Rattle.std.proofs.lemmas.Result.{IfOk-weaker}
use Rattle.com_runtime.proofs.Limits.{not-some}
use Rattle.com_check.proofs.Again.{goes_on, has_room, is_agreed, is_reached, line_left, names_next, starts}
use Rattle.com_check.proofs.agreement.reading.read_by.Goals as goal

pub lines-init : goal.lines-init
lines-init g c = record {
  again = starts _ _ _ _ c.requires.text c.requires.first c.new-entries.ensures.items;
  same = c.requires.scenario;
  kinds = c.requires.row;
}

pub standing-standing-requires : goal.standing-standing-requires
standing-standing-requires g c = is_reached _ _ _ _ _ _ c.lines.invariant.same c.requires.formed c.lines.invariant.again

pub split_line-requires : goal.split_line-requires
split_line-requires g c =
    line_left _ _ _ _ _ c.lines.invariant.again (sym c.end_of.ensures ∙ not-some c.end_of.result c.in_default.not-Some)

pub make_named-requires-clause-names : goal.make_named-requires-clause-names
make_named-requires-clause-names g c =
    names_next _ _ _ _ _ _ _ _ c.lines.invariant.same c.requires.formed c.lines.invariant.again
    (sym c.end_of.ensures ∙ not-some c.end_of.result c.in_default.not-Some) c.split_line.ensures.lines

pub make_named-requires-clause-room : goal.make_named-requires-clause-room
make_named-requires-clause-room g c =
    has_room _ _ _ _ _ _ c.lines.invariant.same c.lines.invariant.again
    (sym c.end_of.ensures ∙ not-some c.end_of.result c.in_default.not-Some)

pub make_named-requires-clause-reached : goal.make_named-requires-clause-reached
make_named-requires-clause-reached g c = is_reached _ _ _ _ _ _ c.lines.invariant.same c.requires.formed c.lines.invariant.again

pub agreement-requires-clause-reached : goal.agreement-requires-clause-reached
agreement-requires-clause-reached g c = is_reached _ _ _ _ _ _ (λ i. c.args.scenario.now) c.requires.formed c.lines.invariant.again

pub returns-in-Some : goal.returns-in-Some
returns-in-Some g c =
    IfOk-weaker c.agreement.result _ _
    (λ a is. is_agreed _ _ _ _ _ _ a c.lines.invariant.again (sym c.end_of.ensures ∙ c.in-Some.is) is)
    c.agreement.ensures

pub lines-preserved : goal.lines-preserved
lines-preserved g c = record {
  again = goes_on _ _ _ _ _ _ _ _ _ _ _ c.lines.invariant.same c.requires.formed c.lines.invariant.again
      (sym c.end_of.ensures ∙ not-some c.end_of.result c.in_default.not-Some) c.split_line.ensures.lines c.in_ok-entry.ensures.made
      c.in_ok-push.ensures.items;
  same = c.in_ok-entry.ensures.scenario ∙ c.lines.invariant.same;
  kinds = c.in_ok-entry.ensures.row;
}
