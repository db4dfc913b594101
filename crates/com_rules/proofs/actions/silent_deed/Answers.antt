use Rattle.std.proofs.lemmas.Result.{IfOk-weaker}
use Rattle.com_rules.proofs.actions.silent_deed.Goals as goal

pub returns-in-Marshal : goal.returns-in-Marshal
returns-in-Marshal g c =
    rw c.in-Marshal.is (IfOk-weaker c.marshalled_packet.result _ _ (λ made h. h c.in-Marshal.buffer) c.marshalled_packet.ensures)

pub returns-in-Unmarshal : goal.returns-in-Unmarshal
returns-in-Unmarshal g c = rw c.in-Unmarshal.is (c.unmarshal_packet.ensures c.in-Unmarshal.slot)
