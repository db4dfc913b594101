use Rattle.std.proofs.Common.{Option, ℕ, ℤ, w64, ap, ◌∙◌}
use Rattle.std.proofs.lemmas.Int.{to_z-of_z}
use Rattle.com_refs_books.specs.Changes.{cookie}
use Rattle.com_model.specs.Deeds.{cookie_number, revoked}
use Rattle.com_view.specs.Seen.{sight_by}
use Rattle.com_rules.proofs.deeds.references.revoke_deed.Goals as goal

pub returns : goal.returns
returns c = λ b kept.
    let v = sight_by c.args.view.now b in
    let same = to_z-of_z w64 c.args.number c.ranges.number in
    c.revoke_deed.ensures v (ap (λ (z : ℤ). cookie b (cookie_number z)) same ∙ kept)
    ∙ ap (λ (z : ℤ). revoked v z c.home.result) same
    ∙ ap (λ (h : Option ℕ). revoked v c.args.number h) c.home.ensures
