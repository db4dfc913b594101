use Rattle.std.proofs.Common.{◌≡◌, ◌∙◌, [], true, false, ap, arith, rules}
use Rattle.std.proofs.lemmas.Grind.{common_steps}
use Rattle.std.proofs.lemmas.Result.{IfOk-weaker}
use Rattle.com_check.specs.declared.judged.Judged.TheVariants as judged
use Rattle.com_check.specs.Judging.{without_end}
use Rattle.com_check.proofs.Judging.{entry_agrees, first_sofar, judged_end, judged_other, judged_unmade, more_sofar, now_few, now_none, now_reached, sofar_last, sofar_reached, sofar_within, when_untried, when_written}
use Rattle.com_check.proofs.judge.judge_trace.Goals as goal

pub lines-init : goal.lines-init
lines-init g c = record {
  sofar = first_sofar _ _ _ _ c.requires.first c.new-judge.ensures;
  same = c.requires.scenario;
  kinds = c.requires.row;
}

pub try_named-requires-clause-reached : goal.try_named-requires-clause-reached
try_named-requires-clause-reached g c = sofar_reached _ _ _ _ _ c.requires.formed c.lines.invariant.sofar

pub try_named-requires-clause-few : goal.try_named-requires-clause-few
try_named-requires-clause-few g c = sofar_within _ _ _ _ _ c.lines.invariant.sofar

pub lines-smaller : goal.lines-smaller
lines-smaller g c = c.split_line.ensures.shorter

pub judge_end-requires-clause-reached : goal.judge_end-requires-clause-reached
judge_end-requires-clause-reached g c = sofar_reached _ _ _ _ _ c.requires.formed c.lines.invariant.sofar

pub judge_end-requires-clause-few : goal.judge_end-requires-clause-few
judge_end-requires-clause-few g c = sofar_within _ _ _ _ _ c.lines.invariant.sofar

pub judge_end-requires-clause-last : goal.judge_end-requires-clause-last
judge_end-requires-clause-last g c = sofar_last _ _ _ _ _ c.lines.invariant.sofar

pub judge_unmade-requires-clause-reached : goal.judge_unmade-requires-clause-reached
judge_unmade-requires-clause-reached g c =
    let untried = when_untried _ _ _ _ _ c.in_ok-lane.field-0 c.in_default.not-Some c.in_ok-lane.ensures.tried in
    now_reached _ _ _ untried.0 (sofar_reached _ _ _ _ _ c.requires.formed c.lines.invariant.sofar)

pub judge_unmade-requires-clause-few : goal.judge_unmade-requires-clause-few
judge_unmade-requires-clause-few g c =
    let untried = when_untried _ _ _ _ _ c.in_ok-lane.field-0 c.in_default.not-Some c.in_ok-lane.ensures.tried in
    now_few c.args.scenario.now _ _ untried.0 (sofar_within _ _ _ _ _ c.lines.invariant.sofar)

pub judge_unmade-requires-clause-none : goal.judge_unmade-requires-clause-none
judge_unmade-requires-clause-none g c =
    let untried = when_untried _ _ _ _ _ c.in_ok-lane.field-0 c.in_default.not-Some c.in_ok-lane.ensures.tried in
    now_none _ _ _ _ untried.0 untried.1

pub returns-in_default : goal.returns-in_default
returns-in_default g c =
    let untried = when_untried _ _ _ _ _ c.in_ok-lane.field-0 c.in_default.not-Some c.in_ok-lane.ensures.tried in
    IfOk-weaker c.judge_unmade.result _ _ (λ j over. judged_unmade _ _ _ _ _ _ _ _ j c.lines.invariant.sofar c.split_line.ensures.lines untried.0 over) c.judge_unmade.ensures

pub returns-then-not-agrees : goal.returns-then-not-agrees
returns-then-not-agrees g c =
    let written = when_written _ _ _ _ _ _ c.in_ok-lane.field-0 c.in-Some.is c.in_ok-lane.ensures.tried in
    let differs : c.agrees.result ≡ false = first_of (search rules, grind (arith, common_steps)) in
    let legal = c.without_end-legal.ensures ∙ ap without_end (c.as_slice.ensures ∙ c.agrees.ensures.line) in
    IfOk-weaker c.differs.result _ _
    (λ j is. judged_other _ _ _ _ _ _ _ _ _ _ _ _ _ _ j c.lines.invariant.sofar c.split_line.ensures.lines written differs c.agrees.ensures.agrees c.entries.ensures
    (is ∙ ap (λ line. judged.Differs c.entries.result c.split_line.result.0.now line) legal))
    c.differs.ensures

pub lines-preserved : goal.lines-preserved
lines-preserved g c =
    let written = when_written _ _ _ _ _ _ c.in_ok-lane.field-0 c.in-Some.is c.in_ok-lane.ensures.tried in
    let agrees : c.agrees.result ≡ true = first_of (search rules, grind (arith, common_steps)) in
    record {
      sofar = more_sofar _ _ _ _ _ _ _ _ _ c.requires.formed c.lines.invariant.sofar written.goes_on c.split_line.ensures.lines
          (entry_agrees _ _ _ _ _ _ _ _ _ _ c.in_ok-lane.ensures.last agrees written c.agrees.ensures.agrees);
      same = c.in_ok-lane.ensures.scenario;
      kinds = c.in_ok-lane.ensures.row;
    }

pub returns : goal.returns
returns g c =
    let none : c.lines.rest.now ≡ [] = first_of (search rules, grind (arith, common_steps)) in
    IfOk-weaker c.judge_end.result _ _ (λ j over. judged_end _ _ _ _ _ j c.lines.invariant.sofar none over) c.judge_end.ensures
