use Rattle.std.proofs.Common.{sym, ap, filter_map, length, None, is_some}
use Rattle.com_model.specs.declared.keeps.Phase.TheVariants.{Unposted}
use Rattle.com_model.specs.Lists.{least, one_to, from_one}
use Rattle.com_state.specs.Parts.{CallTables}
use Rattle.com_calls.specs.Waits.{wait_until}
use Rattle.com_calls.proofs.laws.ticks_are_waits.Goals as goal

pub returns : goal.returns
returns c = λ s st b e.
    ap (λ (t : CallTables). least (filter_map (λ k. wait_until st.clock (from_one t.phases k Unposted) (is_some (from_one t.endings k None))) (one_to (length t.issues)))) (sym e)
