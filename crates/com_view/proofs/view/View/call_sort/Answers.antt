use Rattle.std.proofs.Common.{◌≡◌, ℕ, List, reverse, ap, ◌∙◌}
use Rattle.com_model.specs.Calls.{cause_of}
use Rattle.com_model.specs.Openers.{open_calls}
use Rattle.com_state.specs.Parts.{issue_at, openers_at}
use Rattle.com_view.specs.Opened.{type_among}
use Rattle.com_view.specs.Seen.{Seen}
use Rattle.com_view.proofs.Causes.{type_reversed}
use Rattle.com_view.proofs.view.View.call_sort.Goals as goal

pub returns : goal.returns
returns c =
    let f : ℕ → ℕ = λ d. cause_of (issue_at c.args.self.now.calls.tables d) in
    let calls : List ℕ = open_calls (openers_at c.args.self.now.lanes c.args.lane) in
    let e : c.open_calls.result.now ≡ reverse calls =
    c.open_calls.ensures ∙ ap (λ (w : Seen). reverse (open_calls (openers_at w.lanes c.args.lane))) c.self.view_is in
    c.type_among.ensures
    ∙ ap (λ (xs : List ℕ). type_among f xs c.cause_of-cause.result) e
    ∙ ap (λ (k : ℕ). type_among f (reverse calls) k) c.cause_of-cause.ensures
    ∙ type_reversed f (cause_of (issue_at c.args.self.now.calls.tables c.args.call)) calls
