-- A job fits by the parts where it fits by the core's state.
use Rattle.std.proofs.Common.{subst, ap}
use Rattle.std.specs.Prelude.{◌↔◌, IsTrue}
use Rattle.std.specs.Arc.{arc_value}
use Rattle.com_model.specs.declared.scenario.Scenario.{Scenario}
use Rattle.com_model.specs.Lists.{first}
use Rattle.com_state.specs.Parts.{openers_at}
use Rattle.com_runtime.specs.Jobs.{Fits}
use Rattle.com_core.specs.Nexts.{FitsTop}
use Rattle.com_core.specs.Seen.{CoreValue}
use Rattle.com_core.specs.Stands.{seen_by}
use Rattle.com_core.proofs.Shown.{as_shown}
use Rattle.com_core.proofs.Worked.{fits_tops}
use Rattle.com_core.proofs.runtime.Core.fits.Goals as goal

pub returns : goal.returns
returns c =
    let s = arc_value c.self.inside.scenario in
    let r = c.self.inside.running in
    let l = c.args.lane in
    let job = c.args.job.now in
    let tops : IsTrue c.fits.result ↔ FitsTop (seen_by s r.parts r.fallen.objects r.clock) (first (openers_at r.parts.lanes l)) job =
    subst (λ (x : Scenario). IsTrue c.fits.result ↔ FitsTop (seen_by x r.parts r.fallen.objects r.clock) (first (openers_at r.parts.lanes l)) job) c.deref.ensures c.fits.ensures in
    as_shown (λ s st. IsTrue c.fits.result ↔ Fits s st l job) s r _ (ap (λ (v : CoreValue). v.core) c.self.view_is) (fits_tops s r l job c.fits.result tops)
