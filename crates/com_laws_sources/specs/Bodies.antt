-- The bodies of an event source: `advise`, `unadvise` and `fire`.
--
-- A source keeps up to four sinks. Link 0 to 3 is a sink, and the cell of the same number is its cookie, 0
-- where there is none. Cell 4 is the cookie that was given last.
use Rattle.std.specs.Prelude.{ℕ, ◌+◌, ◌-◌, ◌*◌, pos, List, [], ◌∷◌, ◌++◌}
use Rattle.com_base.specs.declared.hresult.HResult.{HResult}
use Rattle.com_base.specs.declared.value.Value.TheVariants as value
use Rattle.com_body.specs.declared.statements.Stmt.{Stmt}
use Rattle.com_body.specs.declared.statements.Stmt.TheVariants as stmt
use Rattle.com_body.specs.declared.operands.Op.{Op}
use Rattle.com_body.specs.declared.operands.Op.TheVariants as op
use Rattle.com_body.specs.declared.operands.Place.TheVariants as place
use Rattle.com_body.specs.declared.operands.Arg.TheVariants as arg
use Rattle.com_body.specs.declared.operands.Code.TheVariants as code
use Rattle.com_body.specs.declared.operands.Given.{Given}
use Rattle.com_body.specs.declared.operands.Given.TheVariants as given
use Rattle.com_body.specs.declared.operands.Destination.TheVariants as destination
use Rattle.com_model.specs.Answers.{S_OK, E_POINTER}

-- ---- the HRESULTs, of which the runtime names the first two alone

-- S_OK: the source did what it was asked.
abbrev pub ok : HResult
ok = S_OK

-- E_POINTER: the sink that `advise` was given is null.
abbrev pub e_pointer : HResult
e_pointer = E_POINTER

-- CONNECT_E_NOCONNECTION: no sink has the cookie.
abbrev pub no_connection : HResult
no_connection = record { 0 = 0x80040200 }

-- CONNECT_E_ADVISELIMIT: there are four sinks.
abbrev pub advise_limit : HResult
advise_limit = record { 0 = 0x80040201 }

-- ---- words for statements

-- A whole number as an operand.
abbrev pub int : ℕ → Op
int n = op.Literal (value.Int (pos n))

-- A register as an operand, by its number.
abbrev pub register : ℕ → Op
register r = op.Register r

-- A statement that ends the body with this HRESULT, and with what is given as its result.
abbrev pub leave_with : HResult → Given → Stmt
leave_with hr g = stmt.Leave (code.Literal hr) g

-- A statement that ends the body with S_OK, and with the value of this register as its result.
abbrev pub leave_register : ℕ → Stmt
leave_register r = leave_with ok (given.Op (register r))

-- ---- advise

-- Takes the cell and the link with this number, if the cell is 0: the new cookie goes into the cell and into
-- cell 4, and the argument into the link.
abbrev pub take_place : ℕ → List Stmt
take_place i =
    stmt.Load 1 i ∷ stmt.SkipZero 1 1 ∷ stmt.Skip 4 ∷ stmt.Store i (register 2) ∷ stmt.Store 4 (register 2)
    ∷ stmt.Copy (place.Link i) (place.Slot 0) ∷ leave_register 2 ∷ []

-- Null is refused. The new cookie is one more than the last one. The first free place of the four is taken.
abbrev pub advise_body : List Stmt
advise_body =
    stmt.Same 1 0 7 ∷ stmt.SkipZero 1 1 ∷ leave_with e_pointer given.Nothing ∷ stmt.Load 2 4
    ∷ stmt.Add 2 (int 1)
    ∷ (take_place 0
    ++ (take_place 1
    ++ (take_place 2 ++ (take_place 3 ++ (leave_with advise_limit given.Nothing ∷ [])))))

-- ---- unadvise

-- Goes on at the moves from this number on, if the cell is the argument.
abbrev pub look_in : ℕ → List Stmt
look_in i = stmt.Set 1 (register 0) ∷ stmt.Load 2 i ∷ stmt.Sub 1 (register 2) ∷ stmt.SkipZero 1 (13 - i) ∷ []

-- Puts the next cookie and sink in the place of this one.
abbrev pub move_down : ℕ → List Stmt
move_down i =
    stmt.Load 3 (i + 1) ∷ stmt.Store i (register 3) ∷ stmt.Copy (place.Link i) (place.Link (i + 1)) ∷ []

-- A cookie is above 0. Where a cell has it, all behind it move one place down, and the last place is free.
abbrev pub unadvise_body : List Stmt
unadvise_body =
    stmt.Less 1 (int 0) (register 0) ∷ stmt.SkipZero 1 1 ∷ stmt.Skip 1
    ∷ leave_with no_connection given.Nothing
    ∷ (look_in 0 ++ (look_in 1 ++ (look_in 2 ++ (look_in 3 ++ (leave_with no_connection given.Nothing
    ∷ (move_down 0 ++ (move_down 1 ++ (move_down 2
    ++ (stmt.Store 3 (int 0) ∷ stmt.Release (place.Link 3) ∷ leave_with ok given.Nothing ∷ [])))))))))

-- ---- fire

-- Takes the sink of this place, if its cookie is above the one that was reached.
abbrev pub look_at : ℕ → List Stmt
look_at i =
    stmt.Load 1 i ∷ stmt.Less 2 (register 5) (register 1) ∷ stmt.SkipZero 2 2
    ∷ stmt.Copy (place.Slot 0) (place.Link i) ∷ stmt.Skip (16 - 5 * i) ∷ []

-- One event. Register 4 is the last cookie when the event began, register 5 the cookie that was reached, and
-- register 6 how many events were sent. Where no cookie is above the one that was reached, or the first such
-- cookie is above the last one, the body leaves with the number of events. Else the sink gets the event, by
-- `ICounter.add` with the argument of `fire`.
abbrev pub send_event : List Stmt
send_event =
    stmt.Less 2 (register 4) (register 1) ∷ stmt.SkipZero 2 1 ∷ leave_register 6 ∷ stmt.Set 5 (register 1)
    ∷ stmt.Add 6 (int 1)
    ∷ stmt.Call 0 1 0 (arg.Op (register 0) ∷ []) (destination.Register 7) ∷ []

-- One round: the first of the four places whose cookie is above the one that was reached. Where there is none, or
-- its cookie is above the last one, the body leaves with the number of events. Else its sink gets the event.
abbrev pub event_round : List Stmt
event_round = look_at 0 ++ (look_at 1 ++ (look_at 2 ++ (look_at 3 ++ (leave_register 6 ∷ send_event))))

-- The last cookie is kept; no cookie is reached yet, and no event is sent. Then come four rounds, as many as there
-- may be sinks, and the body leaves with the number of events.
abbrev pub fire_body : List Stmt
fire_body =
    stmt.Load 4 4 ∷ stmt.Set 5 (int 0) ∷ stmt.Set 6 (int 0)
    ∷ (event_round ++ (event_round ++ (event_round ++ (event_round ++ (leave_register 6 ∷ [])))))
