use Rattle.std.proofs.Common.{◌≡◌, ◌<◌, ◌^◌, ◌∙◌, sym, arith}
use Rattle.com_proxy.specs.Rows.{public_sum}
use Rattle.com_stub.specs.CounterRows.{sum_of}
use Rattle.com_refs.proofs.Reported.{live_normal, live_proxies, live_stub, live_sum}
use Rattle.com_refs.proofs.Refs.counts_of_connected.Goals as goal

pub returns-clause-packets : goal.returns-clause-packets
returns-clause-packets c =
    let t = c.self.inside.holders in
    let live = rw (← c.self.view_is) at c.requires.connected in
    rw (← c.self.view_is) (c.packet_references-packets.ensures ∙ sym (live_normal t c.args.object live))

pub returns-clause-stub : goal.returns-clause-stub
returns-clause-stub c =
    let t = c.self.inside.holders in
    let live = rw (← c.self.view_is) at c.requires.connected in
    let all : c.stub_references-stub.result ≡ sum_of t.counters c.args.object = rw live at c.stub_references-stub.ensures in
    rw (← c.self.view_is) (λ n m w. all ∙ sym (live_stub t c.args.object live n m c.stands.ensures.known c.stands.ensures.apart w c.stands.ensures.first))

pub returns-clause-proxies : goal.returns-clause-proxies
returns-clause-proxies c =
    let t = c.self.inside.holders in
    let o = c.args.object in
    let live = rw (← c.self.view_is) at c.requires.connected in
    let all : c.stub_references-stub.result ≡ sum_of t.counters o = rw live at c.stub_references-stub.ensures in
    rw (← c.self.view_is) (λ n m w.
    let sum = live_sum t o live n m c.stands.ensures.known c.stands.ensures.apart w c.stands.ensures.even c.stands.ensures.first in
    let fits : public_sum o t.proxies < 2 ^ 64 = omega (arith, sum, all) in
    c.proxy_references-proxies.ensures fits ∙ sym (live_proxies t o live n m c.stands.ensures.known c.stands.ensures.apart w c.stands.ensures.placed))

pub returns-clause-tables : goal.returns-clause-tables
returns-clause-tables c =
    let t = c.self.inside.holders in
    let o = c.args.object in
    let live = rw (← c.self.view_is) at c.requires.connected in
    let all : c.stub_references-stub.result ≡ sum_of t.counters o = rw live at c.stub_references-stub.ensures in
    rw (← c.self.view_is) (λ n m w.
    let sum = live_sum t o live n m c.stands.ensures.known c.stands.ensures.apart w c.stands.ensures.even c.stands.ensures.first in
    let fits : public_sum o t.proxies < 2 ^ 64 = omega (arith, sum, all) in
    let proxies = c.proxy_references-proxies.ensures fits in
    let normal = live_normal t o live in
    omega (arith, sum, all, proxies, normal, c.packet_references-packets.ensures, c.saturating_sub.ensures, c.saturating_sub-2.ensures))
