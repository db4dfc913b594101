use Rattle.std.proofs.Common.{Option, ℕ, ap, ◌∙◌}
use Rattle.com_base.specs.declared.hresult.HResult.{HResult}
use Rattle.com_model.specs.Deeds.{registered, hold_refusal}
use Rattle.com_rules.proofs.Says.{says_all}
use Rattle.com_view.specs.Seen.{sight_by}
use Rattle.com_rules.proofs.deeds.references.register_deed.Goals as goal

pub returns : goal.returns
returns c = λ b to number says.
    let v = sight_by c.args.view.now b in
    c.register_deed.ensures v number
    ∙ ap (λ (x : Option HResult). registered v c.args.held x)
    (c.hold_refusal-refusal.ensures v (says_all b c.args.held c.args.is_connected says) ∙ ap (λ (h : Option ℕ). hold_refusal v h c.args.held) c.home.ensures)
