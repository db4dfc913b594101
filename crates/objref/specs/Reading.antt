-- Reading an OBJREF from its first byte on, with the first fault that is met.
use Rattle.std.specs.Prelude.{◌≡◌, ℕ, ◌+◌, ◌*◌, List, length, drop, Option, Some, None, Result, Ok, Err}
use Rattle.std.specs.Prelude.{nat_lt, ◌==◌, if◌then◌else◌}
use Rattle.std.specs.Int.{w16, w32, w64}
use Rattle.com_base.specs.declared.guid.Guid.{Guid}
use Rattle.com_base.specs.declared.standard.StdFields.{StdFields}
use Rattle.com_wire.specs.Fields.{number_at, guid_at}
use Rattle.com_wire.specs.Steps.{◌>>=◌}
use Rattle.objref.specs.declared.decoding.RefFault.{RefFault}
use Rattle.objref.specs.declared.decoding.TheConstants.RefFault.{SHORT, SIGNATURE, FLAGS, OFFSET, TRAILING}
use Rattle.objref.specs.declared.decoding.Strings.{Strings as Array}
use Rattle.objref.specs.Grammar.{Strings, Reference, standard, handler, custom}

-- What a function returned, seen by view, is what reading gives.
abbrev pub Gives : {X Y : Type 0} → (X → Y) → Result X RefFault → Result Y RefFault → Type 0
Gives view (Ok x) read = read ≡ Ok (view x)
Gives view (Err e) read = read ≡ Err e

-- What a reading answers that fails: the number of the fault, and its position in the bytes.
abbrev pub fault : ℕ → ℕ → RefFault
fault number at = record { number = number; at = at }

-- A field that is not whole is the fault SHORT, at the length of the bytes.
abbrev pub whole : {A : Type 0} → List ℕ → Option A → Result A RefFault
whole bytes None = Err (fault SHORT (length bytes))
whole bytes (Some x) = Ok x

-- An array that was read, without where it lies in memory.
abbrev pub strings_of : Array → Strings
strings_of a = record { entries = a.entries; security = a.security; values = a.values.now }

-- STDOBJREF at position 24, behind the IID.
unfoldable pub standard_at : List ℕ → Guid → Result (StdFields × ℕ) RefFault
standard_at bytes iid = do
  flags ← whole bytes (number_at w32 bytes 24)
  refs ← whole bytes (number_at w32 bytes 28)
  oxid ← whole bytes (number_at w64 bytes 32)
  oid ← whole bytes (number_at w64 bytes 40)
  ipid ← whole bytes (guid_at bytes 48)
  Ok (record { iid = iid; refs = refs; oxid = oxid; oid = oid; ipid = ipid }, flags)

-- DUALSTRINGARRAY from a position to the end. An offset above the count is the fault OFFSET, at the offset,
-- tested before the values are read; bytes behind the values are the fault TRAILING, at the first of them.
unfoldable pub strings_at : List ℕ → ℕ → Result Strings RefFault
strings_at bytes position = do
  entries ← whole bytes (number_at w16 bytes position)
  security ← whole bytes (number_at w16 bytes (position + 2))
  if nat_lt entries security then Err (fault OFFSET (position + 2)) else
      if nat_lt (length bytes) (position + 4 + 2 * entries) then Err (fault SHORT (length bytes)) else
      if nat_lt (position + 4 + 2 * entries) (length bytes)
      then Err (fault TRAILING (position + 4 + 2 * entries)) else
      Ok (record { entries = entries; security = security; values = drop (position + 4) bytes })

-- The case of standard marshalling: the IID, STDOBJREF, and the strings from position 64 to the end.
unfoldable pub standard_ref : List ℕ → Result Reference RefFault
standard_ref bytes = do
  iid ← whole bytes (guid_at bytes 8)
  body ← standard_at bytes iid
  s ← strings_at bytes 64
  Ok (standard body.0 body.1 s)

-- The case of a handler: its class stands behind STDOBJREF, and the strings from position 80 to the end.
unfoldable pub handler_ref : List ℕ → Result Reference RefFault
handler_ref bytes = do
  iid ← whole bytes (guid_at bytes 8)
  body ← standard_at bytes iid
  clsid ← whole bytes (guid_at bytes 64)
  s ← strings_at bytes 80
  Ok (handler body.0 body.1 clsid s)

-- The case of custom marshalling: the IID, the class, two numbers, and the object data from position 48 to the
-- end.
unfoldable pub custom_ref : List ℕ → Result Reference RefFault
custom_ref bytes = do
  iid ← whole bytes (guid_at bytes 8)
  clsid ← whole bytes (guid_at bytes 24)
  extension ← whole bytes (number_at w32 bytes 40)
  unread ← whole bytes (number_at w32 bytes 44)
  Ok (custom iid clsid extension unread (drop 48 bytes))

-- All of the bytes. Another signature is the fault SIGNATURE, at position 0, and flags of no case are the
-- fault FLAGS, at position 4.
unfoldable pub objref_of : List ℕ → Result Reference RefFault
objref_of bytes = do
  signature ← whole bytes (number_at w32 bytes 0)
  if signature == 0x574f454d then (do
    flags ← whole bytes (number_at w32 bytes 4)
    if flags == 1 then standard_ref bytes else
        if flags == 2 then handler_ref bytes else
        if flags == 4 then custom_ref bytes else
        Err (fault FLAGS 4))
      else Err (fault SIGNATURE 0)
