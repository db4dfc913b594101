-- HRESULTs: what is said of them.
use Rattle.std.specs.Prelude.{ℕ, ◌==◌, if◌then◌else◌, List, [], ◌++◌, Option, Some, None}
use Rattle.std.specs.Prelude.{unwrap_or, codes}
use Rattle.com_base.specs.declared.hresult.HResult.{HResult}
use Rattle.com_model.specs.Answers.{is_failure}
use Rattle.com_model.specs.Answers.{E_NOTIMPL, E_NOINTERFACE, E_POINTER, E_INVALIDARG, REGDB_E_CLASSNOTREG}
use Rattle.com_model.specs.Answers.{CO_E_NOTINITIALIZED, CO_E_OBJNOTCONNECTED, RPC_E_CALL_REJECTED}
use Rattle.com_model.specs.Answers.{RPC_E_CALL_CANCELED, RPC_E_CLIENT_CANTUNMARSHAL_DATA}
use Rattle.com_model.specs.Answers.{RPC_E_SERVER_CANTUNMARSHAL_DATA, RPC_E_OUT_OF_RESOURCES}
use Rattle.com_model.specs.Answers.{RPC_E_CHANGED_MODE, RPC_E_INVALIDMETHOD, RPC_E_DISCONNECTED}
use Rattle.com_model.specs.Answers.{RPC_E_SERVERCALL_RETRYLATER, RPC_E_INVALID_OBJREF}
use Rattle.com_model.specs.Text.{hresult_text}

-- What an HRESULT says, where the format has words for it.
abbrev pub gloss_of : ℕ → Option (List ℕ)
gloss_of n =
    if n == E_NOTIMPL.0 then Some (codes "it is not implemented")
    else if n == E_NOINTERFACE.0 then Some (codes "it has no such interface")
    else if n == E_POINTER.0 then Some (codes "there is no object")
    else if n == E_INVALIDARG.0 then Some (codes "there is no such thing")
    else if n == REGDB_E_CLASSNOTREG.0 then Some (codes "there is no such class")
    else if n == CO_E_NOTINITIALIZED.0 then Some (codes "the thread is in no apartment")
    else if n == CO_E_OBJNOTCONNECTED.0 then Some (codes "the object is cut off")
    else if n == RPC_E_CALL_REJECTED.0 then Some (codes "the call was rejected")
    else if n == RPC_E_CALL_CANCELED.0 then Some (codes "the call was cancelled")
    else if n == RPC_E_CLIENT_CANTUNMARSHAL_DATA.0 then Some (codes "a reference in the answer leads nowhere")
    else if n == RPC_E_SERVER_CANTUNMARSHAL_DATA.0 then Some (codes "a reference in the call leads nowhere")
    else if n == RPC_E_OUT_OF_RESOURCES.0 then Some (codes "too much is open there")
    else if n == RPC_E_CHANGED_MODE.0 then Some (codes "it is in an apartment of the other kind")
    else if n == RPC_E_INVALIDMETHOD.0 then Some (codes "there is no such method")
    else if n == RPC_E_DISCONNECTED.0 then Some (codes "the object is cut off")
    else if n == RPC_E_SERVERCALL_RETRYLATER.0 then Some (codes "the call was put off")
    else if n == RPC_E_INVALID_OBJREF.0 then Some (codes "the bytes are no reference")
    else None

-- These words, or the HRESULT as the entry's line has it.
abbrev pub gloss : (version : ℕ) → HResult → List ℕ
gloss version hr = unwrap_or (gloss_of hr.0) (hresult_text version hr)

-- Why something failed, behind a colon.
abbrev pub failure_text : (version : ℕ) → HResult → List ℕ
failure_text version hr = codes ": " ++ gloss version hr

-- Why something failed, where the HRESULT tells a failure; else nothing.
abbrev pub failure_if : (version : ℕ) → HResult → List ℕ
failure_if version hr = if is_failure hr then failure_text version hr else []

-- An HRESULT behind a colon, as the entry's line has it.
abbrev pub hresult_behind : (version : ℕ) → HResult → List ℕ
hresult_behind version hr = codes ": " ++ hresult_text version hr

-- The HRESULT as the entry's line has it, where it tells a failure; else nothing.
abbrev pub hresult_if : (version : ℕ) → HResult → List ℕ
hresult_if version hr = if is_failure hr then hresult_behind version hr else []
