-- The headers of a request and of a reply: their fields, their bytes, and reading them from the front.
use Rattle.std.specs.Prelude.{ℕ, ◌^◌, ◌<◌, List, ◌++◌, length, Option, Some, None, Result, Ok, Err, ◌==◌}
use Rattle.std.specs.Prelude.{if◌then◌else◌}
use Rattle.std.specs.Int.{w16, w32}
use Rattle.com_base.specs.declared.guid.Guid.{Guid}
use Rattle.com_wire.specs.Fields.{number, guid, IsGuid, number_at, guid_at}
use Rattle.com_wire.specs.Steps.{◌>>=◌}
use Rattle.orpc.specs.declared.OrpcFault.{OrpcFault}
use Rattle.orpc.specs.declared.TheConstants.OrpcFault.{SHORT, VERSION, EXTENSION}

-- ---- ORPCTHIS

-- What may stand in the header of a request: the major version is 5 and there are no extensions, and all
-- else is free.
pub record This : Type 0 where
  pub minor : ℕ
  pub flags : ℕ
  pub reserved : ℕ
  pub cause : Guid

pub record IsThis (h : This) : Type 0 where
  pub minor : h.minor < 2 ^ 16
  pub flags : h.flags < 2 ^ 32
  pub reserved : h.reserved < 2 ^ 32
  pub cause : IsGuid h.cause

-- Its 32 bytes.
unfoldable pub this_text : This → List ℕ
this_text h =
    number w16 5
    ++ (number w16 h.minor
    ++ (number w32 h.flags ++ (number w32 h.reserved ++ (guid h.cause ++ number w32 0))))

-- What the writer puts there: version 5.7, and 0 for flags and the reserved number.
abbrev pub this_of : Guid → This
this_of cause = record { minor = 7; flags = 0; reserved = 0; cause = cause }

-- ---- ORPCTHAT

-- Its 8 bytes: the flags, and no extensions.
unfoldable pub that_text : ℕ → List ℕ
that_text flags = number w32 flags ++ number w32 0

-- ---- reading

abbrev pub fault : ℕ → ℕ → OrpcFault
fault number at = record { number = number; at = at }

-- A field that is not whole is the fault SHORT, at the length of the bytes.
abbrev pub whole : {A : Type 0} → List ℕ → Option A → Result A OrpcFault
whole bytes None = Err (fault SHORT (length bytes))
whole bytes (Some x) = Ok x

-- The causality of a request's header. Another major version than 5 is the fault VERSION, at position 0,
-- extensions are the fault EXTENSION, at their pointer, which is at position 28. Nobody looks at what stands
-- behind the header.
unfoldable pub request_of : List ℕ → Result Guid OrpcFault
request_of bytes = do
  major ← whole bytes (number_at w16 bytes 0)
  if major == 5 then (do
    minor ← whole bytes (number_at w16 bytes 2)
    flags ← whole bytes (number_at w32 bytes 4)
    reserved ← whole bytes (number_at w32 bytes 8)
    cause ← whole bytes (guid_at bytes 12)
    extensions ← whole bytes (number_at w32 bytes 28)
    if extensions == 0 then Ok cause else Err (fault EXTENSION 28))
      else Err (fault VERSION 0)

-- Whether a reply's header stands there. Extensions are the fault EXTENSION, at their pointer, at position 4.
unfoldable pub reply_of : List ℕ → Result (Unit {0}) OrpcFault
reply_of bytes = do
  flags ← whole bytes (number_at w32 bytes 0)
  extensions ← whole bytes (number_at w32 bytes 4)
  if extensions == 0 then Ok tt else Err (fault EXTENSION 4)
