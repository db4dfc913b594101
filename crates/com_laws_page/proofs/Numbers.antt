-- What stands for numbers, HRESULTs and names of numbers is closed.
use Rattle.std.proofs.Common.{Bool, List, None, Option, Some, arith, codes, cond, false, negsuc, pos, refl, suc, true, unwrap_or, ℕ, ℤ, ◌%◌, ◌/◌, ◌==◌, ◌^◌, ◌∷◌, ◌≡◌}
use Rattle.std.specs.Fmt.{signed_decimal}
use Rattle.std.specs.Prelude.{slice_index}
use Rattle.com_base.specs.HResults.{eight_digits, name_of}
use Rattle.com_base.specs.declared.hresult.HResult.{HResult}
use Rattle.com_draw_names.specs.Failures.{gloss, gloss_of}
use Rattle.com_draw_words.specs.Escapes.{are_plain}
use Rattle.com_laws_markup.proofs.Leading.{both, either, more, plain_at, said}
use Rattle.com_laws_markup.proofs.Words.{closed_decimal, closed_none}
use Rattle.com_laws_markup.specs.Closed.{IsClosed}
use Rattle.com_model.specs.Text.{hresult_text, named}
use Rattle.hex.specs.Hex.{upper_digits}

-- ---- numbers

pub closed_signed : (z : ℤ) → IsClosed (signed_decimal z)
closed_signed (pos n) = closed_decimal n
closed_signed (negsuc n) = more 45 refl (closed_decimal (suc n))

pub closed_named : {letters : List ℕ} → IsClosed letters → (n : Option ℕ) → IsClosed (named letters n)
closed_named letters None = said (codes "-") refl
closed_named letters (Some n) = both letters (closed_decimal n)

-- ---- HRESULTs

digit : (n : ℕ) {w : List ℕ} → IsClosed w → IsClosed (slice_index upper_digits (n % 16) ∷ w)
digit n h = more (slice_index upper_digits (n % 16)) (plain_at upper_digits (n % 16) refl (omega arith)) h

closed_digits : (n : ℕ) → IsClosed (eight_digits n)
closed_digits n =
    digit (n / 2 ^ 28) (digit (n / 2 ^ 24) (digit (n / 2 ^ 20) (digit (n / 2 ^ 16)
    (digit (n / 2 ^ 12) (digit (n / 2 ^ 8) (digit (n / 2 ^ 4) (digit n closed_none)))))))

-- words that there may be
abbrev AreClosed : Option (List ℕ) → Type 0
AreClosed None = Unit {0}
AreClosed (Some t) = are_plain t ≡ true

one : (b : Bool) (t : List ℕ) (o : Option (List ℕ)) → are_plain t ≡ true → AreClosed o → AreClosed (cond b (Some t) o)
one true t o p q = p
one false t o p q = q

or_else : (o : Option (List ℕ)) {w : List ℕ} → AreClosed o → IsClosed w → IsClosed (unwrap_or o w)
or_else None p h = h
or_else (Some t) p h = said t p

names_closed : (n : ℕ) → AreClosed (name_of n)
names_closed n =
    one (n == 0x00000000) (codes "S_OK") _ refl
    (one (n == 0x00000001) (codes "S_FALSE") _ refl
    (one (n == 0x80004001) (codes "E_NOTIMPL") _ refl
    (one (n == 0x80004002) (codes "E_NOINTERFACE") _ refl
    (one (n == 0x80004003) (codes "E_POINTER") _ refl
    (one (n == 0x80004005) (codes "E_FAIL") _ refl
    (one (n == 0x8000ffff) (codes "E_UNEXPECTED") _ refl
    (one (n == 0x80070057) (codes "E_INVALIDARG") _ refl
    (one (n == 0x80040154) (codes "REGDB_E_CLASSNOTREG") _ refl
    (one (n == 0x800401f0) (codes "CO_E_NOTINITIALIZED") _ refl
    (one (n == 0x800401fd) (codes "CO_E_OBJNOTCONNECTED") _ refl
    (one (n == 0x80010001) (codes "RPC_E_CALL_REJECTED") _ refl
    (one (n == 0x80010002) (codes "RPC_E_CALL_CANCELED") _ refl
    (one (n == 0x8001000c) (codes "RPC_E_CLIENT_CANTUNMARSHAL_DATA") _ refl
    (one (n == 0x8001000e) (codes "RPC_E_SERVER_CANTUNMARSHAL_DATA") _ refl
    (one (n == 0x80010101) (codes "RPC_E_OUT_OF_RESOURCES") _ refl
    (one (n == 0x80010106) (codes "RPC_E_CHANGED_MODE") _ refl
    (one (n == 0x80010107) (codes "RPC_E_INVALIDMETHOD") _ refl
    (one (n == 0x80010108) (codes "RPC_E_DISCONNECTED") _ refl
    (one (n == 0x8001010a) (codes "RPC_E_SERVERCALL_RETRYLATER") _ refl
    (one (n == 0x8001011d) (codes "RPC_E_INVALID_OBJREF") _ refl
    (one (n == 0x80020003) (codes "DISP_E_MEMBERNOTFOUND") _ refl
    (one (n == 0x80020005) (codes "DISP_E_TYPEMISMATCH") _ refl
    (one (n == 0x80020006) (codes "DISP_E_UNKNOWNNAME") _ refl
    (one (n == 0x8002000e) (codes "DISP_E_BADPARAMCOUNT") _ refl tt))))))))))))))))))))))))

glosses_closed : (n : ℕ) → AreClosed (gloss_of n)
glosses_closed n =
    one (n == 0x80004001) (codes "it is not implemented") _ refl
    (one (n == 0x80004002) (codes "it has no such interface") _ refl
    (one (n == 0x80004003) (codes "there is no object") _ refl
    (one (n == 0x80070057) (codes "there is no such thing") _ refl
    (one (n == 0x80040154) (codes "there is no such class") _ refl
    (one (n == 0x800401f0) (codes "the thread is in no apartment") _ refl
    (one (n == 0x800401fd) (codes "the object is cut off") _ refl
    (one (n == 0x80010001) (codes "the call was rejected") _ refl
    (one (n == 0x80010002) (codes "the call was cancelled") _ refl
    (one (n == 0x8001000c) (codes "a reference in the answer leads nowhere") _ refl
    (one (n == 0x8001000e) (codes "a reference in the call leads nowhere") _ refl
    (one (n == 0x80010101) (codes "too much is open there") _ refl
    (one (n == 0x80010106) (codes "it is in an apartment of the other kind") _ refl
    (one (n == 0x80010107) (codes "there is no such method") _ refl
    (one (n == 0x80010108) (codes "the object is cut off") _ refl
    (one (n == 0x8001010a) (codes "the call was put off") _ refl
    (one (n == 0x8001011d) (codes "the bytes are no reference") _ refl tt))))))))))))))))

pub closed_hresult : (version : ℕ) (hr : HResult) → IsClosed (hresult_text version hr)
closed_hresult version hr = either (version == 2) (closed_digits hr.0) (or_else (name_of hr.0) (names_closed hr.0) (closed_digits hr.0))

pub closed_gloss : (version : ℕ) (hr : HResult) → IsClosed (gloss version hr)
closed_gloss version hr = or_else (gloss_of hr.0) (glosses_closed hr.0) (closed_hresult version hr)
