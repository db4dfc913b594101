use Rattle.std.proofs.Common.{Option, ℕ, ℤ, w64, ap, ◌∙◌}
use Rattle.std.proofs.lemmas.Int.{to_z-of_z}
use Rattle.com_refs_books.specs.Changes.{cookie}
use Rattle.com_model.specs.Deeds.{cookie_number, got}
use Rattle.com_view.specs.Seen.{sight_by}
use Rattle.com_rules.proofs.deeds.references.get_deed.Goals as goal

pub returns : goal.returns
returns c = λ b slot kept live.
    let v = sight_by c.args.view.now b in
    let same = to_z-of_z w64 c.args.number c.ranges.number in
    c.get_deed.ensures v c.args.lane (ap (λ (z : ℤ). cookie b (cookie_number z)) same ∙ kept) (c.target-target.ensures b live)
    ∙ ap (λ (z : ℤ). got v c.args.lane z c.home-home.result) same
    ∙ ap (λ (h : Option ℕ). got v c.args.lane c.args.number h) c.home-home.ensures
