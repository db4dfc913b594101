use Rattle.std.proofs.Common.{◌≡◌, false, length, nat_le, sym, ap, ◌∙◌, arith}
use Rattle.std.proofs.lemmas.Bool.Decides.{nat_tests}
use Rattle.com_state.specs.Parts.{openers_at}
use Rattle.com_view.specs.Seen.{Seen}
use Rattle.com_view.proofs.Chosen.{turned_by}
use Rattle.com_view.proofs.view.View.admission.Goals as goal

pub returns-in-Some : goal.returns-in-Some
returns-in-Some c = λ b gone.
    let depth : c.depth.result ≡ length (openers_at c.args.self.now.lanes c.args.lane) =
    c.depth.ensures ∙ ap (λ (w : Seen). length (openers_at w.lanes c.args.lane)) c.self.view_is in
    let few : nat_le 256 (length (openers_at c.args.self.now.lanes c.args.lane)) ≡ false = grind (arith, nat_tests) in
    turned_by _ _ _ _ _ _ few (sym c.in-Some.ensures)
