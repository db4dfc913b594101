use Rattle.std.specs.Prelude.{All, Option}
use Rattle.std.proofs.Common.{◌≡◌, List, ap, sym, subst, ◌∙◌}
use Rattle.com_base.specs.declared.value.Value.{Value}
use Rattle.com_body.specs.declared.actions.Action.{Action}
use Rattle.com_body.specs.declared.actions.Action.TheVariants as action
use Rattle.com_exchange.specs.Messages.{CanTravel}
use Rattle.com_exchange.specs.Sent.{ResultCanTravel}
use Rattle.com_model.specs.Deeds.{deed_of}
use Rattle.com_view.specs.Seen.{sight_by}
use Rattle.com_rules.specs.Acts.{Issues, carried_by}
use Rattle.com_rules.specs.Fits.{FitsAction}
use Rattle.com_rules.proofs.actions.act.Goals as goal

pub returns-in_ok-made-in-Call-clause-deed : goal.returns-in_ok-made-in-Call-clause-deed
returns-in_ok-made-in-Call-clause-deed g c =
    let w = c.args.view.now in
    let v = sight_by w (g.B.References.books c.args.books.now) in
    let x = c.in-Call in
    rw c.in-Call.is (c.in_ok-made-in-Call.ensures.deed x.destination
    ∙ ap (λ (args : List Value). deed_of w.scenario v c.args.lane (action.Call x.target x.iface x.method args x.destination)) c.as_slice.ensures)

pub returns-in_ok-made-in-Call-clause-issued : goal.returns-in_ok-made-in-Call-clause-issued
returns-in_ok-made-in-Call-clause-issued g c =
    let w = c.args.view.now in
    let v = sight_by w (g.B.References.books c.args.books.now) in
    let x = c.in-Call in
    let m = c.in_ok-made-in-Call.made in
    rw c.in-Call.is
    (subst (λ (args : List Value). Issues w.scenario v c.args.lane (action.Call x.target x.iface x.method args x.destination) m.deed m.enclosed) c.as_slice.ensures
    (c.in_ok-made-in-Call.ensures.issued x.destination))

pub returns-in_ok-made-in-Call-clause-carried : goal.returns-in_ok-made-in-Call-clause-carried
returns-in_ok-made-in-Call-clause-carried g c =
    let w = c.args.view.now in
    let b = g.B.References.books c.args.books.now in
    let x = c.in-Call in
    let m = c.in_ok-made-in-Call.made in
    rw c.in-Call.is
    (subst (λ (args : List Value). m.carried ≡ carried_by w.scenario b (action.Call x.target x.iface x.method args x.destination) m.deed) c.as_slice.ensures
    (c.in_ok-made-in-Call.ensures.carried x.destination))

pub call-requires-clause-travel : goal.call-requires-clause-travel
call-requires-clause-travel g c =
    let args : All CanTravel c.in-Call.args = subst (λ (x : Action). FitsAction x) c.in-Call.is c.requires.fits in
    subst (λ (vs : List Value). All CanTravel vs) (sym c.as_slice.ensures) args

pub leave-requires-clause-travels : goal.leave-requires-clause-travels
leave-requires-clause-travels g c =
    let result : ResultCanTravel c.in-Leave.value = subst (λ (x : Action). FitsAction x) c.in-Leave.is c.requires.fits in
    subst (λ (v : Option Value). ResultCanTravel v) (sym c.as_ref.ensures.value) result
