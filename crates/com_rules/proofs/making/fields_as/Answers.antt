use Rattle.std.proofs.Common.{◌≡◌, sym, ap, ◌∙◌}
use Rattle.com_refs_books.specs.declared.keeps.Packet.{Packet}
use Rattle.com_model.specs.Deeds.{packet_fields}
use Rattle.com_state.specs.Parts.{named_at}
use Rattle.com_view.specs.Seen.{Seen, sight_by}
use Rattle.com_rules.proofs.making.fields_as.Goals as goal

pub returns : goal.returns
returns c = λ b.
    let w = c.args.view.now in
    let v = sight_by w b in
    let k = c.new_packet.result in
    let n = c.args.number in
    let owner : c.owner-owner.result ≡ named_at w.objects c.args.held.object =
    c.owner-owner.ensures ∙ ap (λ (x : Seen). named_at x.objects c.args.held.object) c.view.view_is in
    let named : named_at w.objects k.object ≡ c.owner-owner.result =
    ap (λ (p : Packet). named_at w.objects p.object) c.new_packet.ensures ∙ sym owner in
    c.packet_fields.ensures v named
    ∙ ap (λ (x : Seen). packet_fields x.scenario v k n) c.view.view_is
    ∙ ap (λ (p : Packet). packet_fields w.scenario v p n) c.new_packet.ensures
