-- A lane can step by the parts where it can by the state that they are.
use Rattle.std.proofs.Common.{◌≡◌, ap, ◌∙◌}
use Rattle.std.specs.Arc.{arc_value}
use Rattle.com_refs_rows.specs.Books.{books_held}
use Rattle.com_runtime.specs.Standings.{can_step_in}
use Rattle.com_model.specs.declared.scenario.Scenario.{Scenario}
use Rattle.com_model.specs.Rules.{can_step}
use Rattle.com_view.specs.Seen.{Seen, sight_by}
use Rattle.com_core.specs.Seen.{CoreValue, kept_of}
use Rattle.com_core.specs.Stands.{seen_by}
use Rattle.com_core.proofs.Shown.{as_shown, whole_kept}
use Rattle.com_core.proofs.Readings.{can_step_read}
use Rattle.com_core.proofs.runtime.Core.can_step.Goals as goal

pub returns : goal.returns
returns c =
    let s = arc_value c.self.inside.scenario in
    let r = c.self.inside.running in
    let w : c.view.result ≡ seen_by s r.parts r.fallen.objects r.clock = c.view.ensures.value ∙ ap (λ (x : Scenario). seen_by x r.parts r.fallen.objects r.clock) c.deref.ensures in
    as_shown (λ s st. c.can_step.result ≡ can_step_in s st c.args.lane) s r _ (ap (λ (v : CoreValue). v.core) c.self.view_is)
    (can_step_read s r.parts (books_held r.ledger) r.fallen.objects r.clock c.args.lane c.can_step.result c.view.ensures.named
    (λ b. c.can_step.ensures b ∙ ap (λ (x : Seen). can_step x.scenario (sight_by x b) c.args.lane) w) (whole_kept (kept_of s r) c.self.invariant.4.whole).reached)
