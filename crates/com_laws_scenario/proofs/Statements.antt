-- Every statement that is read fits its context.
use Rattle.std.proofs.Common.{◌≡◌, ℕ, ◌+◌, ◌≤◌, true, not, nat_lt, List, length, Option, Some, None, All, refl, ◌∙◌, arith}
use Rattle.std.specs.Prelude.{bytes_eq, codes}
use Rattle.std.proofs.lemmas.Bool.{ltb-false, not-true}
use Rattle.com_body.specs.declared.operands.Asked.{Asked}
use Rattle.com_body.specs.declared.operands.Asked.TheVariants as askeds
use Rattle.com_body.specs.declared.operands.Place.{Place}
use Rattle.com_body.specs.declared.operands.Place.TheVariants as places
use Rattle.com_body.specs.declared.statements.Stmt.TheVariants as stmts
use Rattle.com_text.specs.Words.{WordAt}
use Rattle.com_read_operands.specs.Reading.{word_at, end_at, number_at}
use Rattle.com_read_operands.specs.Literals.{are_pairs, unhexed}
use Rattle.com_read_operands.specs.Naming.{name_at, declared_at, asked_at}
use Rattle.com_read_operands.specs.Operands.{register_at, slot_at, cell_at, buffer_at, place_at, op_at, code_at, given_at, mode_at, marshal_mode_at}
use Rattle.com_read_statements.specs.declared.keywords.Program.{Program}
use Rattle.com_read_statements.specs.declared.keywords.LocalWord.{LocalWord}
use Rattle.com_read_statements.specs.declared.keywords.LocalWord.TheVariants as locals
use Rattle.com_read_statements.specs.declared.keywords.ObjectWord.{ObjectWord}
use Rattle.com_read_statements.specs.declared.keywords.ObjectWord.TheVariants as objects
use Rattle.com_read_statements.specs.declared.keywords.LaneWord.{LaneWord}
use Rattle.com_read_statements.specs.declared.keywords.LaneWord.TheVariants as lanes
use Rattle.com_read_statements.specs.declared.keywords.Keyword.{Keyword}
use Rattle.com_read_statements.specs.declared.keywords.Keyword.TheVariants as keywords
use Rattle.com_read_statements.specs.declared.names.Names.{Names}
use Rattle.com_read_statements.specs.Keywords.{has_cells, has_links, takes}
use Rattle.com_read_statements.specs.Statements.{local_of, as_raw, raw_at, object_of, filter_at, lane_of, stmt_of}
use Rattle.com_model.specs.declared.scenario.Scenario.{Scenario}
use Rattle.com_model.specs.Formed.{Context, IsClassNamed, IsInterfaceNamed, IsPlaceIn, IsFilterNamed}
use Rattle.com_laws_scenario.specs.Words.{IsWord}
use Rattle.com_laws_scenario.specs.Holds.{Holds}
use Rattle.com_laws_scenario.specs.Declared.{Declares, Fits}
use Rattle.com_laws_scenario.proofs.Holds.{done, fails, anything, bind, either}
use Rattle.com_laws_scenario.proofs.Fields.{IsAskedIn, IsLinkIn, word_formed, number_formed, declared_formed, asked_formed, register_formed, slot_formed, cell_formed, buffer_formed, place_formed, op_formed, code_formed, given_formed, unhexed_length}
use Rattle.com_laws_scenario.proofs.Calls.{call_formed}

-- ---- what is named

class_named : (s : Scenario) (x : Context) (p : Program) (names : Names) (a : Asked) → Declares s x p names → IsAskedIn 1 (length names.classes) a → IsClassNamed x a
class_named s x p names (askeds.Number n) d h = let e = d.classes in (h.0, omega (arith, h.1, e))
class_named s x p names (askeds.Guid g) d h = tt

interface_named : (s : Scenario) (x : Context) (p : Program) (names : Names) (a : Asked) → Declares s x p names → IsAskedIn 0 (length names.interfaces) a → IsInterfaceNamed s a
interface_named s x p names (askeds.Number n) d h = let e = d.interfaces in omega (arith, h.1, e)
interface_named s x p names (askeds.Guid g) d h = tt

place_named : (s : Scenario) (x : Context) (p : Program) (names : Names) (a : Place) → Declares s x p names → IsLinkIn (has_links p) a → IsPlaceIn x a
place_named s x p names (places.Slot n) d h = tt
place_named s x p names (places.Link n) d h = d.links ∙ h

filter_holds : (s : Scenario) (x : Context) (p : Program) (names : Names) (line : List WordAt) (k : ℕ) → Declares s x p names → Holds (IsFilterNamed s) (filter_at names.filters line k)
unfolding filter_at
filter_holds s x p names line k d = bind (name_at line k) _ (anything (name_at line k)) (λ w _. either (bytes_eq w.bytes (codes "none")) _ _
    (λ _. done None tt)
    (λ _. bind (declared_at names.filters line k) _ (declared_formed names.filters line k) (λ n h.
    let e = d.filters in done (Some (n + 1)) (omega arith, omega (arith, h, e)))))

-- ---- statements

local_holds : (s : Scenario) (x : Context) (p : Program) (names : Names) (k : LocalWord) (line : List WordAt) → Declares s x p names → All IsWord line → Holds (Fits s x) (local_of p k line)
unfolding local_of
local_holds s x p names locals.Set line d h =
    bind (register_at line 1) _ (register_formed line 1 h) (λ to a.
    bind (op_at line 2) _ (op_formed line 2 h) (λ from b.
    bind (end_at line 3) _ (anything (end_at line 3)) (λ _ _. done (stmts.Set to from) (record { in_range = (a, b.0); stated = b.1 }))))
local_holds s x p names locals.Add line d h =
    bind (register_at line 1) _ (register_formed line 1 h) (λ to a.
    bind (op_at line 2) _ (op_formed line 2 h) (λ from b.
    bind (end_at line 3) _ (anything (end_at line 3)) (λ _ _. done (stmts.Add to from) (record { in_range = (a, b.0); stated = b.1 }))))
local_holds s x p names locals.Sub line d h =
    bind (register_at line 1) _ (register_formed line 1 h) (λ to a.
    bind (op_at line 2) _ (op_formed line 2 h) (λ from b.
    bind (end_at line 3) _ (anything (end_at line 3)) (λ _ _. done (stmts.Sub to from) (record { in_range = (a, b.0); stated = b.1 }))))
local_holds s x p names locals.Less line d h =
    bind (register_at line 1) _ (register_formed line 1 h) (λ to a.
    bind (op_at line 2) _ (op_formed line 2 h) (λ left b.
    bind (op_at line 3) _ (op_formed line 3 h) (λ right c.
    bind (end_at line 4) _ (anything (end_at line 4)) (λ _ _. done (stmts.Less to left right) (record { in_range = (a, b.0, c.0); stated = (b.1, c.1) })))))
local_holds s x p names locals.Same line d h =
    bind (register_at line 1) _ (register_formed line 1 h) (λ to a.
    bind (slot_at line 2) _ (slot_formed line 2 h) (λ left b.
    bind (slot_at line 3) _ (slot_formed line 3 h) (λ right c.
    bind (end_at line 4) _ (anything (end_at line 4)) (λ _ _. done (stmts.Same to left right) (record { in_range = (a, b, c); stated = tt })))))
local_holds s x p names locals.Load line d h =
    bind (register_at line 1) _ (register_formed line 1 h) (λ to a.
    bind (cell_at (has_cells p) line 2) _ (cell_formed (has_cells p) line 2 h) (λ cell b.
    bind (end_at line 3) _ (anything (end_at line 3)) (λ _ _. done (stmts.Load to cell) (record { in_range = (a, b.0); stated = d.body ∙ b.1 }))))
local_holds s x p names locals.Store line d h =
    bind (cell_at (has_cells p) line 1) _ (cell_formed (has_cells p) line 1 h) (λ cell a.
    bind (op_at line 2) _ (op_formed line 2 h) (λ from b.
    bind (end_at line 3) _ (anything (end_at line 3)) (λ _ _. done (stmts.Store cell from) (record { in_range = (a.0, b.0); stated = (d.body ∙ a.1, b.1) }))))
local_holds s x p names locals.Skip line d h =
    bind (number_at 1 2000 line 1) _ (number_formed 1 2000 line 1) (λ n a.
    bind (end_at line 2) _ (anything (end_at line 2)) (λ _ _. done (stmts.Skip n) (record { in_range = tt; stated = a })))
local_holds s x p names locals.SkipZero line d h =
    bind (register_at line 1) _ (register_formed line 1 h) (λ r a.
    bind (number_at 1 2000 line 2) _ (number_formed 1 2000 line 2) (λ n b.
    bind (end_at line 3) _ (anything (end_at line 3)) (λ _ _. done (stmts.SkipZero r n) (record { in_range = a; stated = b }))))

abbrev IsRaw : List ℕ → Type 0
IsRaw bytes = (1 ≤ length bytes) × (length bytes ≤ 4096)

raw_by : (w : WordAt) (o : Option (List ℕ)) → ((b : List ℕ) → o ≡ Some b → IsRaw b) → Holds IsRaw (as_raw w o)
raw_by w None h = fails _
raw_by w (Some b) h = done b (h b refl)

raw_bytes : (digits b : List ℕ) → 1 ≤ length digits → length digits ≤ 8192 → unhexed digits ≡ Some b → IsRaw b
raw_bytes digits b low high e = let n = unhexed_length digits b e in (omega arith, omega arith)

raw_formed : (line : List WordAt) (k : ℕ) → All IsWord line → Holds IsRaw (raw_at line k)
unfolding raw_at
raw_formed line k h = bind (word_at line k) _ (word_formed line k h) (λ w is. either (not (are_pairs w.bytes)) _ _ (λ _. fails _)
    (λ _. either (nat_lt 8192 (length w.bytes)) _ _ (λ _. fails _)
    (λ e. raw_by w (unhexed w.bytes) (λ b f. raw_bytes w.bytes b is.some (ltb-false 8192 (length w.bytes) e) f))))

object_holds : (s : Scenario) (x : Context) (p : Program) (names : Names) (k : ObjectWord) (line : List WordAt) → Declares s x p names → All IsWord line → Holds (Fits s x) (object_of p names k line)
unfolding object_of
object_holds s x p names objects.Create line d h =
    bind (slot_at line 1) _ (slot_formed line 1 h) (λ slot a.
    bind (asked_at names.classes 1 line 2) _ (asked_formed names.classes 1 line 2) (λ class b.
    bind (asked_at names.interfaces 0 line 3) _ (asked_formed names.interfaces 0 line 3) (λ iface c.
    bind (end_at line 4) _ (anything (end_at line 4)) (λ _ _. done (stmts.Create slot class iface)
    (record { in_range = a; stated = (class_named s x p names class d b, interface_named s x p names iface d c) })))))
object_holds s x p names objects.Query line d h =
    bind (slot_at line 1) _ (slot_formed line 1 h) (λ to a.
    bind (slot_at line 2) _ (slot_formed line 2 h) (λ from b.
    bind (asked_at names.interfaces 0 line 3) _ (asked_formed names.interfaces 0 line 3) (λ iface c.
    bind (end_at line 4) _ (anything (end_at line 4)) (λ _ _. done (stmts.Query to from iface)
    (record { in_range = (a, b); stated = interface_named s x p names iface d c })))))
object_holds s x p names objects.Copy line d h =
    bind (place_at (has_links p) line 1) _ (place_formed (has_links p) line 1 h) (λ to a.
    bind (place_at (has_links p) line 2) _ (place_formed (has_links p) line 2 h) (λ from b.
    bind (end_at line 3) _ (anything (end_at line 3)) (λ _ _. done (stmts.Copy to from)
    (record { in_range = (a.0, b.0); stated = (place_named s x p names to d a.1, place_named s x p names from d b.1) }))))
object_holds s x p names objects.Release line d h =
    bind (place_at (has_links p) line 1) _ (place_formed (has_links p) line 1 h) (λ from a.
    bind (end_at line 2) _ (anything (end_at line 2)) (λ _ _. done (stmts.Release from)
    (record { in_range = a.0; stated = place_named s x p names from d a.1 })))
object_holds s x p names objects.Call line d h = call_formed s x p names line d h
object_holds s x p names objects.Marshal line d h =
    bind (buffer_at line 1) _ (buffer_formed line 1 h) (λ buffer a.
    bind (slot_at line 2) _ (slot_formed line 2 h) (λ slot b.
    bind (marshal_mode_at line 3) _ (anything (marshal_mode_at line 3)) (λ mode _.
    bind (end_at line 4) _ (anything (end_at line 4)) (λ _ _. done (stmts.Marshal buffer slot mode) (record { in_range = (a, b); stated = tt })))))
object_holds s x p names objects.Unmarshal line d h =
    bind (slot_at line 1) _ (slot_formed line 1 h) (λ slot a.
    bind (buffer_at line 2) _ (buffer_formed line 2 h) (λ buffer b.
    bind (end_at line 3) _ (anything (end_at line 3)) (λ _ _. done (stmts.Unmarshal slot buffer) (record { in_range = (a, b); stated = tt }))))
object_holds s x p names objects.Drop line d h =
    bind (buffer_at line 1) _ (buffer_formed line 1 h) (λ buffer a.
    bind (end_at line 2) _ (anything (end_at line 2)) (λ _ _. done (stmts.Drop buffer) (record { in_range = a; stated = tt })))
object_holds s x p names objects.Raw line d h =
    bind (buffer_at line 1) _ (buffer_formed line 1 h) (λ buffer a.
    bind (raw_at line 2) _ (raw_formed line 2 h) (λ bytes b.
    bind (end_at line 3) _ (anything (end_at line 3)) (λ _ _. done (stmts.Raw buffer bytes) (record { in_range = a; stated = b }))))
object_holds s x p names objects.Disconnect line d h =
    bind (slot_at line 1) _ (slot_formed line 1 h) (λ slot a.
    bind (end_at line 2) _ (anything (end_at line 2)) (λ _ _. done (stmts.Disconnect slot) (record { in_range = a; stated = tt })))

lane_holds : (s : Scenario) (x : Context) (p : Program) (names : Names) (k : LaneWord) (line : List WordAt) → Declares s x p names → All IsWord line → takes p (keywords.Lane k) ≡ true
    → Holds (Fits s x) (lane_of names k line)
unfolding lane_of
lane_holds s x p names lanes.Register line d h t =
    bind (register_at line 1) _ (register_formed line 1 h) (λ to a.
    bind (slot_at line 2) _ (slot_formed line 2 h) (λ slot b.
    bind (end_at line 3) _ (anything (end_at line 3)) (λ _ _. done (stmts.Register to slot) (record { in_range = (a, b); stated = tt }))))
lane_holds s x p names lanes.Get line d h t =
    bind (slot_at line 1) _ (slot_formed line 1 h) (λ slot a.
    bind (op_at line 2) _ (op_formed line 2 h) (λ cookie b.
    bind (end_at line 3) _ (anything (end_at line 3)) (λ _ _. done (stmts.Get slot cookie) (record { in_range = (a, b.0); stated = b.1 }))))
lane_holds s x p names lanes.Revoke line d h t =
    bind (op_at line 1) _ (op_formed line 1 h) (λ cookie a.
    bind (end_at line 2) _ (anything (end_at line 2)) (λ _ _. done (stmts.Revoke cookie) (record { in_range = a.0; stated = a.1 })))
lane_holds s x p names lanes.Post line d h t =
    bind (op_at line 1) _ (op_formed line 1 h) (λ lane a.
    bind (op_at line 2) _ (op_formed line 2 h) (λ word b.
    bind (end_at line 3) _ (anything (end_at line 3)) (λ _ _. done (stmts.Post lane word) (record { in_range = (a.0, b.0); stated = (a.1, b.1) }))))
lane_holds s x p names lanes.Quit line d h t =
    bind (op_at line 1) _ (op_formed line 1 h) (λ lane a.
    bind (end_at line 2) _ (anything (end_at line 2)) (λ _ _. done (stmts.Quit lane) (record { in_range = a.0; stated = a.1 })))
lane_holds s x p names lanes.Leave line d h t =
    bind (code_at line 1) _ (code_formed line 1 h) (λ answer a.
    bind (given_at line 2) _ (given_formed line 2 h) (λ given b.
    bind (end_at line 3) _ (anything (end_at line 3)) (λ _ _. done (stmts.Leave answer given) (record { in_range = (a, b.0); stated = (d.body ∙ t, b.1) }))))
lane_holds s x p names lanes.Init line d h t =
    bind (mode_at line 1) _ (anything (mode_at line 1)) (λ mode _.
    bind (end_at line 2) _ (anything (end_at line 2)) (λ _ _. done (stmts.Init mode) (record { in_range = tt; stated = d.body ∙ not-true (has_cells p) t })))
lane_holds s x p names lanes.Uninit line d h t =
    bind (end_at line 1) _ (anything (end_at line 1)) (λ _ _. done stmts.Uninit (record { in_range = tt; stated = d.body ∙ not-true (has_cells p) t }))
lane_holds s x p names lanes.SetFilter line d h t =
    bind (filter_at names.filters line 1) _ (filter_holds s x p names line 1 d) (λ filter a.
    bind (end_at line 2) _ (anything (end_at line 2)) (λ _ _. done (stmts.SetFilter filter) (record { in_range = tt; stated = (d.body ∙ not-true (has_cells p) t, a) })))
lane_holds s x p names lanes.Pump line d h t =
    bind (number_at 0 1000 line 1) _ (number_formed 0 1000 line 1) (λ n a.
    bind (end_at line 2) _ (anything (end_at line 2)) (λ _ _. done (stmts.Pump n) (record { in_range = tt; stated = (d.body ∙ not-true (has_cells p) t, a.1) })))

pub stmt_formed : (s : Scenario) (x : Context) (p : Program) (names : Names) (k : Keyword) (line : List WordAt) → Declares s x p names → All IsWord line → takes p k ≡ true
    → Holds (Fits s x) (stmt_of p names k line)
unfolding stmt_of
stmt_formed s x p names (keywords.Local w) line d h t = local_holds s x p names w line d h
stmt_formed s x p names (keywords.Object w) line d h t = object_holds s x p names w line d h
stmt_formed s x p names (keywords.Lane w) line d h t = lane_holds s x p names w line d h t
