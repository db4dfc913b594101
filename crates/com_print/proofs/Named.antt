-- Each name of the table of HRESULTs is a word that begins no number.
use Rattle.std.proofs.Common.{◌≡◌, ℕ, ◌≤◌, ◌==◌, List, Option, Some, None, Bool, true, false, not, ◌&&◌, nat_le, if◌then◌else◌, refl, sym, ap, ◌∙◌, arith, length, codes, unwrap_or, ◌∷◌}
use Rattle.std.specs.List.{list_all}
use Rattle.std.specs.Char.{is_ascii}
use Rattle.std.proofs.lemmas.Bool.Decides.{nat_tests}
use Rattle.com_base.specs.HResults.{name_of, eight_digits}
use Rattle.com_read_operands.specs.Operands.{begins_hex}
use Rattle.com_print.specs.Spelled.{is_word_byte}
use Rattle.com_print.specs.Words.{hresult_bytes}
use Rattle.com_print.proofs.Hexes.{both}

abbrev is_said : List ℕ → Bool
is_said bs = list_all is_ascii bs && list_all is_word_byte bs && nat_le 1 (length bs) && not (begins_hex bs)

abbrev are_said : Option (List ℕ) → Bool
are_said None = true
are_said (Some bs) = is_said bs

-- one row of the table, and the rows behind it
row_said : (b : Bool) (bs : List ℕ) (rest : Option (List ℕ)) → is_said bs ≡ true → are_said rest ≡ true → are_said (if b then Some bs else rest) ≡ true
row_said true bs rest here later = here
row_said false bs rest here later = later

table_said : (n : ℕ) → are_said (name_of n) ≡ true
table_said n =
    row_said (n == 0x00000000) (codes "S_OK") _ refl
    (row_said (n == 0x00000001) (codes "S_FALSE") _ refl
    (row_said (n == 0x80004001) (codes "E_NOTIMPL") _ refl
    (row_said (n == 0x80004002) (codes "E_NOINTERFACE") _ refl
    (row_said (n == 0x80004003) (codes "E_POINTER") _ refl
    (row_said (n == 0x80004005) (codes "E_FAIL") _ refl
    (row_said (n == 0x8000ffff) (codes "E_UNEXPECTED") _ refl
    (row_said (n == 0x80070057) (codes "E_INVALIDARG") _ refl
    (row_said (n == 0x80040154) (codes "REGDB_E_CLASSNOTREG") _ refl
    (row_said (n == 0x800401f0) (codes "CO_E_NOTINITIALIZED") _ refl
    (row_said (n == 0x800401fd) (codes "CO_E_OBJNOTCONNECTED") _ refl
    (row_said (n == 0x80010001) (codes "RPC_E_CALL_REJECTED") _ refl
    (row_said (n == 0x80010002) (codes "RPC_E_CALL_CANCELED") _ refl
    (row_said (n == 0x8001000c) (codes "RPC_E_CLIENT_CANTUNMARSHAL_DATA") _ refl
    (row_said (n == 0x8001000e) (codes "RPC_E_SERVER_CANTUNMARSHAL_DATA") _ refl
    (row_said (n == 0x80010101) (codes "RPC_E_OUT_OF_RESOURCES") _ refl
    (row_said (n == 0x80010106) (codes "RPC_E_CHANGED_MODE") _ refl
    (row_said (n == 0x80010107) (codes "RPC_E_INVALIDMETHOD") _ refl
    (row_said (n == 0x80010108) (codes "RPC_E_DISCONNECTED") _ refl
    (row_said (n == 0x8001010a) (codes "RPC_E_SERVERCALL_RETRYLATER") _ refl
    (row_said (n == 0x8001011d) (codes "RPC_E_INVALID_OBJREF") _ refl
    (row_said (n == 0x80020003) (codes "DISP_E_MEMBERNOTFOUND") _ refl
    (row_said (n == 0x80020005) (codes "DISP_E_TYPEMISMATCH") _ refl
    (row_said (n == 0x80020006) (codes "DISP_E_UNKNOWNNAME") _ refl
    (row_said (n == 0x8002000e) (codes "DISP_E_BADPARAMCOUNT") _ refl refl))))))))))))))))))))))))

-- what is known of a name of the table
pub record IsSaid (bs : List ℕ) : Type 0 where
  pub ascii : list_all is_ascii bs ≡ true
  pub word : list_all is_word_byte bs ≡ true
  pub long : 1 ≤ length bs
  pub no_number : begins_hex bs ≡ false

parts : (bs : List ℕ) → is_said bs ≡ true → IsSaid bs
parts bs h =
    let front = both (list_all is_ascii bs && list_all is_word_byte bs && nat_le 1 (length bs)) (not (begins_hex bs)) h in
    let words = both (list_all is_ascii bs && list_all is_word_byte bs) (nat_le 1 (length bs)) front.0 in
    let letters = both (list_all is_ascii bs) (list_all is_word_byte bs) words.0 in
    let long = words.1 in
    record { ascii = letters.0; word = letters.1; long = grind (arith, nat_tests, long); no_number = opposite (begins_hex bs) front.1 }
  where
    opposite : (b : Bool) → not b ≡ true → b ≡ false
    opposite true h = absurd cc
    opposite false h = refl

pub name_said : (n : ℕ) (bs : List ℕ) → name_of n ≡ Some bs → IsSaid bs
name_said n bs e = parts bs (ap are_said (sym e) ∙ table_said n)

-- an HRESULT that the table has no name for is written in digits
pub unnamed : (n : ℕ) → name_of n ≡ None → hresult_bytes n ≡ 48 ∷ 120 ∷ eight_digits n
unfolding hresult_bytes
unnamed n e = ap (λ (x : Option (List ℕ)). unwrap_or x (48 ∷ 120 ∷ eight_digits n)) e
