use Rattle.std.proofs.Common.{◌≡◌, length, sym, ap, ◌∙◌, arith, subst}
use Rattle.std.proofs.lemmas.List.{length-map}
use Rattle.com_refs_rows.specs.Books.{Held}
use Rattle.com_refs_rows.specs.Entries.{most_left}
use Rattle.com_reference_moves.specs.Steps.{moving_of}
use Rattle.com_ledger.proofs.ledger.Ledger.most_left.Goals as goal

pub returns-clause-value : goal.returns-clause-value
returns-clause-value c =
    let many : length c.losses.result.now ≡ length c.args.moves.now.lost = sym (length-map c.losses.result.now moving_of) ∙ ap (λ l. length l) c.losses.ensures in
    subst (λ (h : Held). c.most_noted.result ≡ most_left h.calls c.args.objects.now.tables c.args.deed.now c.args.moves.now) c.self.view_is
    (omega (arith, many, c.most_noted.ensures.value, c.arguments_of-arguments.ensures))
