use Rattle.com_refs_rows.proofs.Fitting.{asked_offered}
use Rattle.com_refs_rows.proofs.Rowless.{no_some, gained_nil, query_none, query_other, query_failed}
use Rattle.com_refs_rows.proofs.entries.enter_query.Goals as goal

pub returns-in_default-clause-row : goal.returns-in_default-clause-row
returns-in_default-clause-row c = λ s x left b.
    gained_nil c.args.apartment _ c.args.refs.now c.args.brought.now.items (query_none s x left b c.args.apartment c.args.object c.args.iface c.args.hr (no_some c.args.object c.in_default.not-Some))

pub returns-in_default-iface-clause-row : goal.returns-in_default-iface-clause-row
returns-in_default-iface-clause-row c = λ s x left b.
    gained_nil c.args.apartment _ c.args.refs.now c.args.brought.now.items (query_other s x left b c.args.apartment c.args.object c.args.iface c.args.hr c.in_default-iface.not-Number)

pub returns-then-hr-ne0-clause-row : goal.returns-then-hr-ne0-clause-row
returns-then-hr-ne0-clause-row c = λ s x left b.
    gained_nil c.args.apartment _ c.args.refs.now c.args.brought.now.items (query_failed s x left b c.args.apartment c.args.object c.args.iface c.args.hr c.if-hr-ne0.true)

pub query-requires-clause-offered : goal.query-requires-clause-offered
query-requires-clause-offered c =
    asked_offered c.args.refs.now c.args.apartment c.args.object c.args.iface c.args.hr _ _ c.reference-held.result c.in-Some.is c.in-Number.is c.if-hr-ne0.false c.reference-held.ensures c.requires.asked
