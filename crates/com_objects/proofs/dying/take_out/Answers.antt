use Rattle.std.proofs.Common.{ℕ, Option, rules, not, ◌==◌, ◌∙◌, ap, sym}
use Rattle.std.proofs.lemmas.Fn.{filter_same}
use Rattle.com_objects.specs.Settled.{without}
use Rattle.com_objects.proofs.Settling.{without_none}
use Rattle.com_objects.proofs.dying.take_out.Goals as goal

pub returns-in-Some-clause-items : goal.returns-in-Some-clause-items
returns-in-Some-clause-items c =
    let e = filter_same _ (λ (o : ℕ). not (o == c.in-Some.released)) _ (λ x b f' k. search rules) _ _ c.retain.ensures.filtered in
    e ∙ ap (λ (g : Option ℕ). without g c.args.objects.now.items) (sym c.in-Some.is)

pub returns-in-None-clause-items : goal.returns-in-None-clause-items
returns-in-None-clause-items c =
    without_none c.args.objects.now.items ∙ ap (λ (g : Option ℕ). without g c.args.objects.now.items) (sym c.in-None.is)
