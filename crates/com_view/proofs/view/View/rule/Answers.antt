-- What is innermost in a lane says which of the rules can give it an entry.
use Rattle.std.proofs.Common.{◌≡◌, Bool, Option, None, ap, sym, ◌∙◌}
use Rattle.std.proofs.lemmas.Result.{IfOk-weaker}
use Rattle.com_model.specs.declared.deeds.Deed.{Deed}
use Rattle.com_model.specs.Lists.{first, or_else, where_true}
use Rattle.com_model.specs.Rules.{rule_script, ruled}
use Rattle.com_view.specs.Seen.{dying_seen, sight_by}
use Rattle.com_view.proofs.ByOpener.{none_dies, ruled_by_top}
use Rattle.com_view.proofs.view.View.rule.Goals as goal

pub returns : goal.returns
returns g c =
    let w = c.args.self.now in
    let b = g.R.References.books c.args.refs.now in
    let l = c.args.lane in
    let d = c.stir.new.deed in
    let none : first (dying_seen w l) ≡ None = sym c.dying.ensures ∙ none_dies c.dying.result c.in_default.not-Some in
    IfOk-weaker c.stir.result _
    (λ (made : Bool). or_else (where_true made d) (rule_script w.scenario (sight_by w b) l) ≡ ruled w.scenario (sight_by w b) l)
    (λ made h. ap (λ (x : Option Deed). or_else x (rule_script w.scenario (sight_by w b) l)) h ∙ ruled_by_top w b l none) c.stir.ensures
