-- HRESULTs: their parts and their names.
use Rattle.std.specs.Prelude.{ℕ, ◌/◌, ◌%◌, ◌==◌, List, Option, Some, None, if◌then◌else◌, codes, ◌^◌, [], ◌∷◌}
use Rattle.std.specs.Prelude.{slice_index}
use Rattle.hex.specs.Hex.{upper_digits}
use Rattle.std.specs.Str.{bytes_eq}
use Rattle.com_base.specs.declared.hresult.HResult.{HResult}

-- Bits 16 to 26, and bits 0 to 15.
abbrev pub facility_of : ℕ → ℕ
facility_of n = n / 2 ^ 16 % 2 ^ 11

abbrev pub code_of : ℕ → ℕ
code_of n = n % 2 ^ 16

-- Eight upper-case hexadecimal digits, the highest first.
abbrev pub eight_digits : ℕ → List ℕ
eight_digits n =
    slice_index upper_digits (n / 2 ^ 28 % 16) ∷ slice_index upper_digits (n / 2 ^ 24 % 16)
    ∷ slice_index upper_digits (n / 2 ^ 20 % 16) ∷ slice_index upper_digits (n / 2 ^ 16 % 16)
    ∷ slice_index upper_digits (n / 2 ^ 12 % 16) ∷ slice_index upper_digits (n / 2 ^ 8 % 16)
    ∷ slice_index upper_digits (n / 2 ^ 4 % 16) ∷ slice_index upper_digits (n % 16) ∷ []

-- The name that the table has for a value.
abbrev pub name_of : ℕ → Option (List ℕ)
name_of n =
    if n == 0x00000000 then Some (codes "S_OK")
    else if n == 0x00000001 then Some (codes "S_FALSE")
    else if n == 0x80004001 then Some (codes "E_NOTIMPL")
    else if n == 0x80004002 then Some (codes "E_NOINTERFACE")
    else if n == 0x80004003 then Some (codes "E_POINTER")
    else if n == 0x80004005 then Some (codes "E_FAIL")
    else if n == 0x8000ffff then Some (codes "E_UNEXPECTED")
    else if n == 0x80070057 then Some (codes "E_INVALIDARG")
    else if n == 0x80040154 then Some (codes "REGDB_E_CLASSNOTREG")
    else if n == 0x800401f0 then Some (codes "CO_E_NOTINITIALIZED")
    else if n == 0x800401fd then Some (codes "CO_E_OBJNOTCONNECTED")
    else if n == 0x80010001 then Some (codes "RPC_E_CALL_REJECTED")
    else if n == 0x80010002 then Some (codes "RPC_E_CALL_CANCELED")
    else if n == 0x8001000c then Some (codes "RPC_E_CLIENT_CANTUNMARSHAL_DATA")
    else if n == 0x8001000e then Some (codes "RPC_E_SERVER_CANTUNMARSHAL_DATA")
    else if n == 0x80010101 then Some (codes "RPC_E_OUT_OF_RESOURCES")
    else if n == 0x80010106 then Some (codes "RPC_E_CHANGED_MODE")
    else if n == 0x80010107 then Some (codes "RPC_E_INVALIDMETHOD")
    else if n == 0x80010108 then Some (codes "RPC_E_DISCONNECTED")
    else if n == 0x8001010a then Some (codes "RPC_E_SERVERCALL_RETRYLATER")
    else if n == 0x8001011d then Some (codes "RPC_E_INVALID_OBJREF")
    else if n == 0x80020003 then Some (codes "DISP_E_MEMBERNOTFOUND")
    else if n == 0x80020005 then Some (codes "DISP_E_TYPEMISMATCH")
    else if n == 0x80020006 then Some (codes "DISP_E_UNKNOWNNAME")
    else if n == 0x8002000e then Some (codes "DISP_E_BADPARAMCOUNT")
    else None

-- The value that the table has for a name.
abbrev pub hresult_named : List ℕ → Option HResult
hresult_named name =
    if bytes_eq name (codes "S_OK") then Some (record { 0 = 0x00000000 })
    else if bytes_eq name (codes "S_FALSE") then Some (record { 0 = 0x00000001 })
    else if bytes_eq name (codes "E_NOTIMPL") then Some (record { 0 = 0x80004001 })
    else if bytes_eq name (codes "E_NOINTERFACE") then Some (record { 0 = 0x80004002 })
    else if bytes_eq name (codes "E_POINTER") then Some (record { 0 = 0x80004003 })
    else if bytes_eq name (codes "E_FAIL") then Some (record { 0 = 0x80004005 })
    else if bytes_eq name (codes "E_UNEXPECTED") then Some (record { 0 = 0x8000ffff })
    else if bytes_eq name (codes "E_INVALIDARG") then Some (record { 0 = 0x80070057 })
    else if bytes_eq name (codes "REGDB_E_CLASSNOTREG") then Some (record { 0 = 0x80040154 })
    else if bytes_eq name (codes "CO_E_NOTINITIALIZED") then Some (record { 0 = 0x800401f0 })
    else if bytes_eq name (codes "CO_E_OBJNOTCONNECTED") then Some (record { 0 = 0x800401fd })
    else if bytes_eq name (codes "RPC_E_CALL_REJECTED") then Some (record { 0 = 0x80010001 })
    else if bytes_eq name (codes "RPC_E_CALL_CANCELED") then Some (record { 0 = 0x80010002 })
    else if bytes_eq name (codes "RPC_E_CLIENT_CANTUNMARSHAL_DATA") then Some (record { 0 = 0x8001000c })
    else if bytes_eq name (codes "RPC_E_SERVER_CANTUNMARSHAL_DATA") then Some (record { 0 = 0x8001000e })
    else if bytes_eq name (codes "RPC_E_OUT_OF_RESOURCES") then Some (record { 0 = 0x80010101 })
    else if bytes_eq name (codes "RPC_E_CHANGED_MODE") then Some (record { 0 = 0x80010106 })
    else if bytes_eq name (codes "RPC_E_INVALIDMETHOD") then Some (record { 0 = 0x80010107 })
    else if bytes_eq name (codes "RPC_E_DISCONNECTED") then Some (record { 0 = 0x80010108 })
    else if bytes_eq name (codes "RPC_E_SERVERCALL_RETRYLATER") then Some (record { 0 = 0x8001010a })
    else if bytes_eq name (codes "RPC_E_INVALID_OBJREF") then Some (record { 0 = 0x8001011d })
    else if bytes_eq name (codes "DISP_E_MEMBERNOTFOUND") then Some (record { 0 = 0x80020003 })
    else if bytes_eq name (codes "DISP_E_TYPEMISMATCH") then Some (record { 0 = 0x80020005 })
    else if bytes_eq name (codes "DISP_E_UNKNOWNNAME") then Some (record { 0 = 0x80020006 })
    else if bytes_eq name (codes "DISP_E_BADPARAMCOUNT") then Some (record { 0 = 0x8002000e })
    else None
