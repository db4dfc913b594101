-- What is counted of an object by the parts and the ledger is what the state counts.
use Rattle.std.proofs.Common.{◌≡◌, ap, subst, ◌∙◌}
use Rattle.std.specs.Arc.{arc_value}
use Rattle.com_runtime.specs.Reports.{counts_in}
use Rattle.com_refs_rows.specs.Books.{Held}
use Rattle.com_ledger.specs.Ties.{Ties}
use Rattle.com_ledger.proofs.Counted.{direct_counted, packets_counted, proxies_counted, stub_counted, tables_counted}
use Rattle.com_model.specs.State.{State}
use Rattle.com_state.specs.Parts.{ObjectTables, class_at, named_at}
use Rattle.com_core.specs.Seen.{CoreValue, core_of, core_state, kept_of}
use Rattle.com_core.specs.Shown.{held_shown}
use Rattle.com_core.specs.Stands.{IsReached}
use Rattle.com_core.proofs.Counted.{counts_read}
use Rattle.com_core.proofs.Shown.{as_shown, state_shown, ties_kept, whole_kept}
use Rattle.com_core.proofs.runtime.Core.counts_of.Goals as goal

pub returns : goal.returns
returns c =
    let s = arc_value c.self.inside.scenario in
    let r = c.self.inside.running in
    let st : State = core_state (kept_of s r) in
    let w : Held = r.ledger in
    let o = c.args.object in
    let n = c.counts-numbers in
    let h : IsReached s st = (whole_kept (kept_of s r) c.self.invariant.4.whole).reached in
    as_shown (λ s st. record { class = c.class.result; owner = c.owner.result; state = c.state.result; direct = n.result.direct; proxies = n.result.proxies; packets = n.result.packets; tables = n.result.tables; stub = n.result.stub } ≡ counts_in s st o)
    s r _ (ap (λ (v : CoreValue). v.core) c.self.view_is)
    (let kept : Ties s (core_state (core_of s r)) (held_shown w) = c.self.invariant.4.ties in
    let t : Ties s st w = ties_kept s st w (subst (λ (x : State). Ties s x (held_shown w)) (state_shown (kept_of s r)) kept) in
    counts_read s st w o c.class.result c.owner.result c.state.result n.result.direct n.result.proxies n.result.packets n.result.tables n.result.stub t
    (c.class.ensures ∙ ap (λ (x : ObjectTables). class_at x o) c.objects.ensures)
    (c.owner.ensures ∙ ap (λ (x : ObjectTables). named_at x o) c.objects-2.ensures)
    c.state.ensures
    (n.ensures.direct ∙ direct_counted s st w o t)
    (proxies_counted s st h.history w o n.result.proxies h.stands t n.ensures.proxies)
    (n.ensures.packets ∙ packets_counted s st w o t)
    (tables_counted s st w o n.result.tables t n.ensures.tables)
    (stub_counted s st h.history w o n.result.stub h.stands t n.ensures.stub))
