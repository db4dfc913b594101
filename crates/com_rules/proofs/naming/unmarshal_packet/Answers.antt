use Rattle.std.proofs.Common.{sym, ap, ◌∙◌}
use Rattle.com_model.specs.Deeds.{Named, unmarshalled}
use Rattle.com_view.specs.Seen.{sight_by}
use Rattle.com_rules.proofs.naming.unmarshal_packet.Goals as goal

pub returns : goal.returns
returns g c = λ slot.
    let b = g.B.References.books c.args.books.now in
    c.unmarshal_deed.ensures b (sym c.is_connected-is_live.ensures) (λ p e. c.row_of-kept.ensures p e)
    ∙ ap (λ (n : Named). unmarshalled (sight_by c.args.view.now b) c.args.lane n) c.packet_in-found.ensures
