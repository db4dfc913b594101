use Rattle.std.proofs.Common.{ℤ, rules, ap, ◌∙◌}
use Rattle.std.proofs.lemmas.Int.{to_z-of_z}
use Rattle.com_body.specs.declared.actions.Action.TheVariants as action
use Rattle.com_model.specs.Deeds.{deed_of}
use Rattle.com_view.specs.Seen.{sight_by}
use mir.Syntax.{w64}
use mir.Val.{SFits, of_z, to_z}
use Rattle.com_rules.proofs.alone.deed_on_lane.Goals as goal

pub returns-in-Uninit-clause-deed : goal.returns-in-Uninit-clause-deed
returns-in-Uninit-clause-deed c = λ b. rw c.in-Uninit.is (c.uninit_deed.ensures b)

pub returns-in-SetFilter-clause-deed : goal.returns-in-SetFilter-clause-deed
returns-in-SetFilter-clause-deed c = λ b. rw c.in-SetFilter.is (c.filter_deed.ensures b)

pub returns-in-Post-clause-deed : goal.returns-in-Post-clause-deed
returns-in-Post-clause-deed c = λ b.
    let w = c.args.view.now in
    let to : SFits w64 c.in-Post.to = search rules in
    let word : SFits w64 c.in-Post.word = search rules in
    rw c.in-Post.is (c.post_deed.ensures b c.args.lane
    ∙ ap (λ (n : ℤ). deed_of w.scenario (sight_by w b) c.args.lane (action.Post n (to_z w64 (of_z w64 c.in-Post.word)))) (to_z-of_z w64 c.in-Post.to to)
    ∙ ap (λ (n : ℤ). deed_of w.scenario (sight_by w b) c.args.lane (action.Post c.in-Post.to n)) (to_z-of_z w64 c.in-Post.word word))

pub returns-in-Quit-clause-deed : goal.returns-in-Quit-clause-deed
returns-in-Quit-clause-deed c = λ b.
    let w = c.args.view.now in
    let to : SFits w64 c.in-Quit.to = search rules in
    rw c.in-Quit.is (c.quit_deed.ensures b c.args.lane
    ∙ ap (λ (n : ℤ). deed_of w.scenario (sight_by w b) c.args.lane (action.Quit n)) (to_z-of_z w64 c.in-Quit.to to))
