use Rattle.std.proofs.Common.{sym, ◌∙◌}
use Rattle.com_points.specs.SourceHeads.{Looks}
use Rattle.com_points.proofs.Missed.{no_looks, not_both}
use Rattle.com_points.proofs.sources.source_interface.Goals as goal

pub returns-clause-none : goal.returns-clause-none
returns-clause-none c =
    let f : Looks c.args.scenario.now.classes c.args.class c.in_ok-declared.declared.now c.in_ok-iface.iface c.in_ok-point.point.now → ⊥ =
    λ l. not_both c.looks_as_source.result (c.looks_as_source.ensures.1 l) c.if-looks_as_source.false in
    λ i p. no_looks c.args.scenario.now c.args.class i c.in_ok-iface.iface c.in_ok-declared.declared.now c.in_ok-point.point.now
    (sym c.in_ok-declared.ensures) (sym c.as_slice.ensures ∙ c.in_ok-iface.ensures.some) (sym c.in_ok-point.ensures) f p
