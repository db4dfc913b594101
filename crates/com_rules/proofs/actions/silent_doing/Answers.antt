use Rattle.std.proofs.Common.{sym, ap, subst, ◌∙◌}
use Rattle.com_calls.specs.declared.rows.Enclosed.TheVariants.{Nothing}
use Rattle.com_calls.specs.Enclosures.{HasAnswer}
use Rattle.com_model.specs.declared.deeds.Deed.{Deed}
use Rattle.com_model.specs.Calls.{issues}
use Rattle.com_view.specs.Seen.{sight_by}
use Rattle.com_rules.specs.Acts.{carried_by}
use Rattle.com_rules.proofs.Quiets.{quiet}
use Rattle.com_rules.proofs.actions.silent_doing.Goals as goal

pub returns-clause-issued : goal.returns-clause-issued
returns-clause-issued g c =
    let b = g.B.References.books c.args.books.now in
    let w = c.args.view.now in
    ap (λ (d : Deed). issues c.args.lane d) c.in_ok-deed.ensures
    ∙ (quiet w.scenario (sight_by w b) c.args.lane c.args.action.now c.requires.silent).issues_none

pub returns-clause-carried : goal.returns-clause-carried
returns-clause-carried g c =
    let b = g.B.References.books c.args.books.now in
    let w = c.args.view.now in
    c.new.ensures ∙ sym (ap (λ (d : Deed). carried_by w.scenario b c.args.action.now d) c.in_ok-deed.ensures
    ∙ (quiet w.scenario (sight_by w b) c.args.lane c.args.action.now c.requires.silent).carries_none b)

pub returns-clause-answer : goal.returns-clause-answer
returns-clause-answer g c =
    let b = g.B.References.books c.args.books.now in
    let w = c.args.view.now in
    subst (λ (d : Deed). HasAnswer d Nothing) (sym c.in_ok-deed.ensures)
    (quiet w.scenario (sight_by w b) c.args.lane c.args.action.now c.requires.silent).answers_none
