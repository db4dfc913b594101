-- What a lane does next by the parts is what it does by the state that they are.
use Rattle.std.proofs.Common.{◌≡◌, ap, ◌∙◌, is_some}
use Rattle.std.specs.Arc.{arc_value}
use Rattle.com_refs_rows.specs.Books.{books_held}
use Rattle.com_runtime.specs.Jobs.{next_in}
use Rattle.com_model.specs.declared.scenario.Scenario.{Scenario}
use Rattle.com_model.specs.Rules.{ruled, top}
use Rattle.com_model.specs.Openers.{is_body}
use Rattle.com_view.specs.Nexts.{kind_of}
use Rattle.com_view.specs.Seen.{Seen, sight_by}
use Rattle.com_core.specs.Seen.{CoreValue, kept_of}
use Rattle.com_core.specs.Stands.{seen_by}
use Rattle.com_core.proofs.Shown.{as_shown, whole_kept}
use Rattle.com_core.proofs.Readings.{next_read}
use Rattle.com_core.proofs.runtime.Core.next.Goals as goal

pub returns : goal.returns
returns c =
    let s = arc_value c.self.inside.scenario in
    let r = c.self.inside.running in
    let l = c.args.lane in
    let w : c.view.result ≡ seen_by s r.parts r.fallen.objects r.clock = c.view.ensures.value ∙ ap (λ (x : Scenario). seen_by x r.parts r.fallen.objects r.clock) c.deref.ensures in
    as_shown (λ s st. c.next_of.result ≡ next_in s st l) s r _ (ap (λ (v : CoreValue). v.core) c.self.view_is)
    (c.next_of.ensures
    ∙ next_read s r.parts (books_held r.ledger) r.fallen.objects r.clock l c.next.result c.view.ensures.named
    (λ b. c.next.ensures b ∙ ap (λ (x : Seen). kind_of (is_body (top (sight_by x b) l)) (is_some (ruled x.scenario (sight_by x b) l)) ((sight_by x b).over l)) w) (whole_kept (kept_of s r) c.self.invariant.4.whole).reached)
