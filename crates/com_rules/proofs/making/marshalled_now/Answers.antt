use Rattle.std.proofs.Common.{◌≡◌, ℕ, ◌+◌, length, Bool, Some, sym, ap, ◌∙◌}
use Rattle.com_base.specs.declared.standard.StdFields.{StdFields}
use Rattle.com_refs_books.specs.Changes.{new_packet}
use Rattle.com_refs_books.specs.declared.keeps.Packet.{Packet}
use Rattle.com_model.specs.declared.deeds.Deed.TheVariants as deed
use Rattle.com_model.specs.Answers.{S_OK}
use Rattle.com_model.specs.Deeds.{packet_fields}
use Rattle.com_model.specs.Lists.{number_or_zero}
use Rattle.com_view.specs.Seen.{sight_by, running_seen}
use Rattle.objref.specs.Grammar.{written_of}
use Rattle.com_rules.specs.Packets.{refs_made}
use Rattle.com_rules.proofs.Packing.{one_made}
use Rattle.com_rules.proofs.making.marshalled_now.Goals as goal

pub returns : goal.returns
returns g c =
    let b = g.B.References.books c.args.books.now in
    let w = c.args.view.now in
    let v = sight_by w b in
    let a = number_or_zero (running_seen w c.args.lane) in
    let o = c.args.held.object in
    let i = c.args.held.iface in
    let m = c.args.mode in
    let k : ℕ = refs_made m (v.owns o a) (b.proxy a o i) in
    let n : ℕ = length b.packets + 1 in
    let refs : c.refs_made-refs.result ≡ k =
    c.refs_made-refs.ensures ∙ ap (λ (t : Bool). refs_made m t c.public.result) c.owns-is_owned.ensures
    ∙ ap (λ (x : ℕ). refs_made m (v.owns o a) x) c.public.ensures in
    c.in_ok-deed.ensures
    ∙ ap (λ (f : StdFields). deed.Marshal (Some c.next_packet-number.result) m (Some c.args.held) c.refs_made-refs.result S_OK (Some (written_of f))) (c.fields_as-fields.ensures b)
    ∙ ap (λ (x : ℕ). deed.Marshal (Some x) m (Some c.args.held) c.refs_made-refs.result S_OK (Some (written_of (packet_fields w.scenario v (new_packet m o i c.refs_made-refs.result) x)))) c.next_packet-number.ensures
    ∙ ap (λ (x : ℕ). deed.Marshal (Some n) m (Some c.args.held) x S_OK (Some (written_of (packet_fields w.scenario v (new_packet m o i x) n)))) refs
    ∙ ap (λ (p : Packet). deed.Marshal (Some n) m (Some c.args.held) p.refs S_OK (Some (written_of (packet_fields w.scenario v p n)))) (sym (one_made v.owns b a o i m c.requires.live))
