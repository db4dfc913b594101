-- The HRESULTs that the runtime answers. Source: the documentation's table of COM error codes.
use Rattle.std.specs.Prelude.{ℕ, ◌^◌, Bool, ◌==◌, nat_le}
use Rattle.com_base.specs.declared.hresult.HResult.{HResult}

-- The HRESULT whose 32 bits are the number.
abbrev pub hresult : ℕ → HResult
hresult n = record { 0 = n }

-- Success: what was asked for was done.
abbrev pub S_OK : HResult
S_OK = hresult 0x00000000

-- Success that leaves home and filter as they are: Init in a home of that mode, SetFilter outside an STA.
abbrev pub S_FALSE : HResult
S_FALSE = hresult 0x00000001

-- Refuses an Unmarshal or a Drop of an OBJREF that is no standard one. A method without body leaves so.
abbrev pub E_NOTIMPL : HResult
E_NOTIMPL = hresult 0x80004001

-- Refuses a Create or a Query for an interface outside the class's set, and a call by another interface than
-- that of the reference.
abbrev pub E_NOINTERFACE : HResult
E_NOINTERFACE = hresult 0x80004002

-- Refuses a call, Query, Marshal, Register or Disconnect on null.
abbrev pub E_POINTER : HResult
E_POINTER = hresult 0x80004003

-- Refuses a Get or a Revoke of a number that is no cookie or a revoked one's, a Disconnect outside the
-- object's owner, and a Post or a Quit to a lane that is no thread's or is over.
abbrev pub E_INVALIDARG : HResult
E_INVALIDARG = hresult 0x80070057

-- Refuses a Create of a class that is not declared.
abbrev pub REGDB_E_CLASSNOTREG : HResult
REGDB_E_CLASSNOTREG = hresult 0x80040154

-- Refuses, in a lane without home, each action on objects, packets or cookies but Copy and Release.
abbrev pub CO_E_NOTINITIALIZED : HResult
CO_E_NOTINITIALIZED = hresult 0x800401f0

-- Refuses a Marshal, Register or Get of an object that is not connected, and an Unmarshal or a Drop of a
-- standard OBJREF that names no outstanding packet.
abbrev pub CO_E_OBJNOTCONNECTED : HResult
CO_E_OBJNOTCONNECTED = hresult 0x800401fd

-- Answers a call that a filter rejected, where the caller's lane has no filter, and one that the caller's filter gave
-- up by a Retry below 0.
abbrev pub RPC_E_CALL_REJECTED : HResult
RPC_E_CALL_REJECTED = hresult 0x80010001

-- Answers a call that the caller's filter cancelled when it was asked about a word.
abbrev pub RPC_E_CALL_CANCELED : HResult
RPC_E_CALL_CANCELED = hresult 0x80010002

-- Answers, at its Back, a call whose body left but whose result packet is no longer outstanding.
abbrev pub RPC_E_CLIENT_CANTUNMARSHAL_DATA : HResult
RPC_E_CLIENT_CANTUNMARSHAL_DATA = hresult 0x8001000c

-- Refuses, at its admission, a marshalled call of which an argument's packet is no longer outstanding.
abbrev pub RPC_E_SERVER_CANTUNMARSHAL_DATA : HResult
RPC_E_SERVER_CANTUNMARSHAL_DATA = hresult 0x8001000e

-- Refuses, at its admission, a call in a lane that has `OPENER_LIMIT` openers or more.
abbrev pub RPC_E_OUT_OF_RESOURCES : HResult
RPC_E_OUT_OF_RESOURCES = hresult 0x80010101

-- Refuses an Init in a lane whose home has the other mode.
abbrev pub RPC_E_CHANGED_MODE : HResult
RPC_E_CHANGED_MODE = hresult 0x80010106

-- Refuses a call of a method that the interface does not have.
abbrev pub RPC_E_INVALIDMETHOD : HResult
RPC_E_INVALIDMETHOD = hresult 0x80010107

-- Refuses a Query or a call on a proxy of an object that is not connected, and answers the calls that a
-- disconnection cuts.
abbrev pub RPC_E_DISCONNECTED : HResult
RPC_E_DISCONNECTED = hresult 0x80010108

-- Answers a call that a filter would have tried again later, where the caller's lane has no filter.
abbrev pub RPC_E_SERVERCALL_RETRYLATER : HResult
RPC_E_SERVERCALL_RETRYLATER = hresult 0x8001010a

-- Refuses an Unmarshal or a Drop of bytes that are no OBJREF.
abbrev pub RPC_E_INVALID_OBJREF : HResult
RPC_E_INVALID_OBJREF = hresult 0x8001011d

-- Bit 31 says that a call failed.
abbrev pub is_failure : HResult → Bool
is_failure hr = nat_le (2 ^ 31) hr.0

-- Whether an HRESULT is S_OK; no other success is.
abbrev pub is_S_OK : HResult → Bool
is_S_OK hr = hr.0 == 0
