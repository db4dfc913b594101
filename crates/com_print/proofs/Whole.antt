-- Each statement is read again.
use Rattle.std.proofs.Common.{List}
use Rattle.com_body.specs.declared.statements.Stmt.{Stmt}
use Rattle.com_body.specs.declared.statements.Stmt.TheVariants as stmts
use Rattle.com_text.specs.Words.{WordAt}
use Rattle.com_read_statements.specs.declared.keywords.Program.{Program}
use Rattle.com_read_statements.specs.declared.names.Names.{Names}
use Rattle.com_print.specs.Standing.{AreDeclared}
use Rattle.com_print.specs.Reads.{Reads}
use Rattle.com_print.proofs.Firsts.{Written}
use Rattle.com_print.proofs.Locals.{set_reads, add_reads, sub_reads, less_reads, same_reads, load_reads, store_reads, skip_reads, skip_zero_reads}
use Rattle.com_print.proofs.Objects.{create_reads, query_reads, copy_reads, release_reads, marshal_reads, unmarshal_reads, drop_reads, raw_reads, disconnect_reads}
use Rattle.com_print.proofs.Lanes.{register_reads, get_reads, revoke_reads, post_reads, quit_reads, leave_reads, init_reads, uninit_reads, set_filter_reads, pump_reads}
use Rattle.com_print.proofs.Calls.{call_reads}

pub statement_reads : (p : Program) (names : Names) (s : Stmt) (w : WordAt) (ws : List WordAt) → AreDeclared names → Written p names s w ws → Reads p names s w ws
statement_reads p names (stmts.Set to from) w ws are h = set_reads p names to from w ws are h
statement_reads p names (stmts.Add to from) w ws are h = add_reads p names to from w ws are h
statement_reads p names (stmts.Sub to from) w ws are h = sub_reads p names to from w ws are h
statement_reads p names (stmts.Less to left right) w ws are h = less_reads p names to left right w ws are h
statement_reads p names (stmts.Same to left right) w ws are h = same_reads p names to left right w ws are h
statement_reads p names (stmts.Load to cell) w ws are h = load_reads p names to cell w ws are h
statement_reads p names (stmts.Store cell from) w ws are h = store_reads p names cell from w ws are h
statement_reads p names (stmts.Skip count) w ws are h = skip_reads p names count w ws are h
statement_reads p names (stmts.SkipZero register count) w ws are h = skip_zero_reads p names register count w ws are h
statement_reads p names (stmts.Create slot class iface) w ws are h = create_reads p names slot class iface w ws are h
statement_reads p names (stmts.Query to from iface) w ws are h = query_reads p names to from iface w ws are h
statement_reads p names (stmts.Copy to from) w ws are h = copy_reads p names to from w ws are h
statement_reads p names (stmts.Release place) w ws are h = release_reads p names place w ws are h
statement_reads p names (stmts.Call slot iface method given to) w ws are h = call_reads p names slot iface method given to w ws are h
statement_reads p names (stmts.Marshal buffer slot mode) w ws are h = marshal_reads p names buffer slot mode w ws are h
statement_reads p names (stmts.Unmarshal slot buffer) w ws are h = unmarshal_reads p names slot buffer w ws are h
statement_reads p names (stmts.Drop buffer) w ws are h = drop_reads p names buffer w ws are h
statement_reads p names (stmts.Raw buffer bytes) w ws are h = raw_reads p names buffer bytes w ws are h
statement_reads p names (stmts.Register to slot) w ws are h = register_reads p names to slot w ws are h
statement_reads p names (stmts.Get slot cookie) w ws are h = get_reads p names slot cookie w ws are h
statement_reads p names (stmts.Revoke cookie) w ws are h = revoke_reads p names cookie w ws are h
statement_reads p names (stmts.Disconnect slot) w ws are h = disconnect_reads p names slot w ws are h
statement_reads p names (stmts.Post lane word) w ws are h = post_reads p names lane word w ws are h
statement_reads p names (stmts.Quit lane) w ws are h = quit_reads p names lane w ws are h
statement_reads p names (stmts.Leave answer given) w ws are h = leave_reads p names answer given w ws are h
statement_reads p names (stmts.Init mode) w ws are h = init_reads p names mode w ws are h
statement_reads p names stmts.Uninit w ws are h = uninit_reads p names w ws are h
statement_reads p names (stmts.SetFilter filter) w ws are h = set_filter_reads p names filter w ws are h
statement_reads p names (stmts.Pump bound) w ws are h = pump_reads p names bound w ws are h
