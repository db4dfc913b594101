use Rattle.std.proofs.Common.{arith, refl, length, ◌<◌, ◌≤◌, ◌≡◌, [], ◌∷◌, ◌++◌}
use Rattle.com_proxy.specs.Rows.{index_of, proxy_key_of}
use Rattle.com_proxy.proofs.Rows.{table_write, table_push}
use Rattle.com_proxy.proofs.Proxies.gain.Goals as goal

pub invariant_of-self : goal.invariant_of-self
invariant_of-self c =
    let rows = c.self.inside.rows in
    let inside : c.find-at.result < length rows.items = omega (arith, rows.ok.0) in
    table_write rows.items c.self.inside.proxies c.self.inside.objects c.find-at.result c.index_mut-row.result.now _ c.self.invariant inside c.index_mut-row.ensures.value refl refl refl

pub invariant_of-self-2 : goal.invariant_of-self-2
invariant_of-self-2 c =
    let rows = c.self.inside.rows in
    let at : c.find-at.result ≡ index_of rows.items c.args.apartment c.args.object c.args.iface = rw (← c.deref.ensures.value) c.find-at.ensures in
    let new : length rows.items ≤ index_of rows.items c.args.apartment c.args.object c.args.iface = omega (arith, rows.ok.0) in
    let by_proxy : c.append.new.self.keys ≡ c.self.inside.proxies.keys ++ proxy_key_of c.args.apartment c.args.object ∷ [] = cc in
    let by_object : c.append-2.new.self.keys ≡ c.self.inside.objects.keys ++ c.args.object ∷ [] = cc in
    rw (c.push_reserved.ensures.items, c.reserve-3.ensures.items) (table_push rows.items c.self.inside.proxies c.self.inside.objects c.append.new.self c.append-2.new.self _ c.self.invariant by_proxy by_object new)
