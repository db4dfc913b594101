use Rattle.std.proofs.Common.{ℤ, rules, sym, ap, ◌∙◌}
use Rattle.std.proofs.lemmas.Int.{to_z-of_z}
use Rattle.com_body.specs.declared.actions.Action.TheVariants as action
use Rattle.com_model.specs.Deeds.{deed_of}
use Rattle.com_view.specs.Seen.{sight_by}
use mir.Syntax.{w64}
use mir.Val.{SFits}
use Rattle.com_rules.proofs.alone.deed_on_object.Goals as goal

pub returns-in-Create-clause-deed : goal.returns-in-Create-clause-deed
returns-in-Create-clause-deed g c = rw c.in-Create.is (c.create_deed.ensures (g.R.References.books c.args.refs.now) c.in-Create.slot)

pub returns-in-Query-clause-deed : goal.returns-in-Query-clause-deed
returns-in-Query-clause-deed g c =
    rw c.in-Query.is (c.query_deed.ensures (g.R.References.books c.args.refs.now) c.in-Query.to c.is_connected-is_live.ensures)

pub returns-in-Register-clause-deed : goal.returns-in-Register-clause-deed
returns-in-Register-clause-deed g c =
    rw c.in-Register.is
    (c.register_deed.ensures (g.R.References.books c.args.refs.now) c.in-Register.to (sym c.cookies.ensures) c.is_connected-is_live-in-Register.ensures)

pub returns-in-Get-clause-deed : goal.returns-in-Get-clause-deed
returns-in-Get-clause-deed g c =
    let b = g.R.References.books c.args.refs.now in
    let w = c.args.view.now in
    let fits : SFits w64 c.in-Get.cookie = search rules in
    rw c.in-Get.is
    (c.get_deed.ensures b c.in-Get.slot (sym c.cookie-kept.ensures) (sym c.is_connected-is_live-in-Get.ensures)
    ∙ ap (λ (n : ℤ). deed_of w.scenario (sight_by w b) c.args.lane (action.Get c.in-Get.slot n)) (to_z-of_z w64 c.in-Get.cookie fits))
