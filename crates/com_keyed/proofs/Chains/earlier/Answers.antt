use Rattle.com_keyed.proofs.Linking.{latest_at}
use Rattle.com_keyed.proofs.Chains.earlier.Goals as goal

pub returns : goal.returns
returns c =
    let e = c.latest.ensures in
    let at = latest_at c.as_slice-keys.result.now _ c.args.index _ c.index_of.result c.index_of.ensures e.within e.keyed e.covers in
    rw (← c.self.view_is, ← c.as_slice-keys.ensures.value) at
