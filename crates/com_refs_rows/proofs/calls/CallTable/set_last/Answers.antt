use Rattle.std.proofs.Common.{◌≡◌, ◌+◌, ◌++◌, List, [], ◌∷◌, length, sym, ap, subst, ◌∙◌, arith}
use Rattle.std.specs.Prelude.{slice_set}
use Rattle.com_refs_rows.specs.declared.calls.CallPackets.{CallPackets}
use Rattle.com_refs_rows.specs.Calls.{no_packets}
use Rattle.com_refs_rows.proofs.Packed.{last_set, pushed_length}
use Rattle.com_refs_rows.proofs.calls.CallTable.set_last.Goals as goal

pub returns : goal.returns
returns c = λ rows e.
    let row : CallPackets = record { first = c.args.first; count = c.args.count; result = 0 } in
    let items : c.self.inside.rows.items ≡ rows ++ no_packets ∷ [] = c.self.view_is ∙ e in
    let long : length c.self.inside.rows.items ≡ length rows + 1 = ap (λ (l : List CallPackets). length l) items ∙ pushed_length rows no_packets in
    subst (λ (l : List CallPackets). slice_set l c.in-Some.place row ≡ rows ++ row ∷ []) (sym items)
    (last_set rows no_packets row c.in-Some.place (omega (arith, long, c.len.ensures)))
