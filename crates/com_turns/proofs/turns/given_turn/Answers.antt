-- The turn of a body whose step was computed before.
use Rattle.std.proofs.Common.{◌≡◌, Some, ap, refl, sym, ◌∙◌}
use Rattle.com_model.specs.declared.keeps.Opener.{Opener}
use Rattle.com_model.specs.declared.keeps.Opener.TheVariants.{Enters}
use Rattle.com_model.specs.Lists.{first}
use Rattle.com_state.specs.Parts.{openers_at}
use Rattle.com_view.specs.Seen.{Seen}
use Rattle.com_model.specs.Frames.{Body}
use Rattle.com_turns.proofs.Stepping.{body_steps, given_turn}
use Rattle.com_turns.proofs.turns.given_turn.Goals as goal

pub act-requires-clause-fits : goal.act-requires-clause-fits
act-requires-clause-fits g c =
    let x = c.in-Some-Enters in
    let top : Some (Enters x.call x.object x.field-0-2) ≡ first (openers_at c.args.view.now.lanes c.args.lane) =
    sym (ap (λ (o : Opener). Some o) x.field-0-is) ∙ sym x.is ∙ c.top.ensures ∙ ap (λ (w : Seen). first (openers_at w.lanes c.args.lane)) c.view.view_is in
    c.requires.acts (Body x.call x.object) c.args.outcome.now
    (body_steps c.args.view.now c.args.lane x.call x.object x.field-0-2 c.args.outcome.now (sym top) (c.requires.step x.call x.object x.field-0-2 (sym top))).step

pub returns : goal.returns
returns g c =
    let b = g.B.References.books c.args.books.now in
    let x = c.in-Some-Enters in
    let top : Some (Enters x.call x.object x.field-0-2) ≡ first (openers_at c.args.view.now.lanes c.args.lane) =
    sym (ap (λ (o : Opener). Some o) x.field-0-is) ∙ sym x.is ∙ c.top.ensures ∙ ap (λ (w : Seen). first (openers_at w.lanes c.args.lane)) c.view.view_is in
    record {
      turn = given_turn c.args.view.now b c.args.lane x.call x.object x.field-0-2 c.args.outcome.now _ top c.requires.step
          c.in_ok-doing.ensures.deed c.in_ok-doing.ensures.issued c.in_ok-doing.ensures.answer c.in_ok-doing.ensures.carried refl;
    }
