use Rattle.std.proofs.Common.{ap}
use Rattle.std.specs.Prelude.{Option}
use Rattle.com_base.specs.declared.value.RefValue.{RefValue}
use Rattle.com_model.specs.declared.deeds.Deed.TheVariants as deed
use Rattle.com_model.specs.Books.{rows}
use Rattle.com_refs_rows.proofs.Rowless.{gained_nil}
use Rattle.com_refs_rows.proofs.entries.enter_get.Goals as goal

pub returns-in-None-clause-row : goal.returns-in-None-clause-row
returns-in-None-clause-row c = λ n hr s x left b.
    gained_nil c.args.apartment _ c.args.refs.now c.args.brought.now.items (ap (λ (h : Option RefValue). rows s x left b c.args.apartment (deed.Get c.args.cookie.now h n hr)) c.in-None.is)
