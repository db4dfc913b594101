-- The table of HRESULTs as a list of rows, in which each look-up finds what the other finds.
use Rattle.std.proofs.Common.{◌≡◌, ◌⊎◌, ℕ, Bool, true, false, cond, List, [], ◌∷◌, Option, Some, None, refl, sym, ap, subst, inl, inr}
use Rattle.std.specs.Prelude.{◌==◌, ◌↔◌, if◌then◌else◌, codes}
use Rattle.std.specs.Str.{bytes_eq}
use Rattle.std.proofs.lemmas.Bool.{eqb-true, eq-eqb}
use Rattle.std.proofs.lemmas.Slice.Eq.{bytes_eq-Decides}
use Rattle.com_base.specs.declared.hresult.HResult.{HResult}
use Rattle.com_base.specs.HResults.{name_of, hresult_named}

-- a value and its name
abbrev Row : Type 0
Row = ℕ × List ℕ

abbrev table : List Row
table =
    (0x00000000, codes "S_OK") ∷
    (0x00000001, codes "S_FALSE") ∷
    (0x80004001, codes "E_NOTIMPL") ∷
    (0x80004002, codes "E_NOINTERFACE") ∷
    (0x80004003, codes "E_POINTER") ∷
    (0x80004005, codes "E_FAIL") ∷
    (0x8000ffff, codes "E_UNEXPECTED") ∷
    (0x80070057, codes "E_INVALIDARG") ∷
    (0x80040154, codes "REGDB_E_CLASSNOTREG") ∷
    (0x800401f0, codes "CO_E_NOTINITIALIZED") ∷
    (0x800401fd, codes "CO_E_OBJNOTCONNECTED") ∷
    (0x80010001, codes "RPC_E_CALL_REJECTED") ∷
    (0x80010002, codes "RPC_E_CALL_CANCELED") ∷
    (0x8001000c, codes "RPC_E_CLIENT_CANTUNMARSHAL_DATA") ∷
    (0x8001000e, codes "RPC_E_SERVER_CANTUNMARSHAL_DATA") ∷
    (0x80010101, codes "RPC_E_OUT_OF_RESOURCES") ∷
    (0x80010106, codes "RPC_E_CHANGED_MODE") ∷
    (0x80010107, codes "RPC_E_INVALIDMETHOD") ∷
    (0x80010108, codes "RPC_E_DISCONNECTED") ∷
    (0x8001010a, codes "RPC_E_SERVERCALL_RETRYLATER") ∷
    (0x8001011d, codes "RPC_E_INVALID_OBJREF") ∷
    (0x80020003, codes "DISP_E_MEMBERNOTFOUND") ∷
    (0x80020005, codes "DISP_E_TYPEMISMATCH") ∷
    (0x80020006, codes "DISP_E_UNKNOWNNAME") ∷
    (0x8002000e, codes "DISP_E_BADPARAMCOUNT") ∷
    []

abbrev name_in : List Row → ℕ → Option (List ℕ)
name_in [] n = None
name_in (row ∷ rows) n = if n == row.0 then Some row.1 else name_in rows n

abbrev value_in : List Row → List ℕ → Option HResult
value_in [] name = None
value_in (row ∷ rows) name = if bytes_eq name row.1 then Some (record { 0 = row.0 }) else value_in rows name

-- no row has the value or the name of a later one
abbrev IsApart : List Row → Type 0
IsApart [] = Unit {0}
IsApart (row ∷ rows) = (name_in rows row.0 ≡ None) × (value_in rows row.1 ≡ None) × IsApart rows

table_is_apart : IsApart table
table_is_apart = (refl, refl, (refl, refl, (refl, refl, (refl, refl, (refl, refl, (refl, refl, (refl, refl, (refl, refl, (refl, refl, (refl, refl, (refl, refl, (refl, refl, (refl, refl, (refl, refl, (refl, refl, (refl, refl, (refl, refl, (refl, refl, (refl, refl, (refl, refl, (refl, refl, (refl, refl, (refl, refl, (refl, refl, (refl, refl, tt)))))))))))))))))))))))))

abbrev value_of : ℕ → HResult
value_of n = record { 0 = n }

-- a branch that was taken
chosen : {A : Type 0} (b : Bool) (x y z : A) → cond b x y ≡ z → ((b ≡ true) × (x ≡ z)) ⊎ ((b ≡ false) × (y ≡ z))
chosen true x y z e = inl (refl, e)
chosen false x y z e = inr (refl, e)

value_of_name : (rows : List Row) → IsApart rows → (h : HResult) (name : List ℕ) → name_in rows h.0 ≡ Some name → value_in rows name ≡ Some h
value_of_name [] apart h name e = absurd cc
value_of_name (row ∷ rows) apart h name e =
    elim (chosen (h.0 == row.0) (Some row.1) (name_in rows h.0) (Some name) e) [
      | inl here ↦
          let name_is : name ≡ row.1 = cc in
          let value_is : h.0 ≡ row.0 = eqb-true h.0 row.0 here.0 in
          rw ((bytes_eq-Decides name row.1).1 name_is) (ap (λ (n : ℕ). Some (value_of n)) (sym value_is))
      | inr later ↦
          let found = value_of_name rows apart.2 h name later.1 in
          elim (bytes_eq name row.1) as (λ b. (bytes_eq name row.1 ≡ b) → cond b (Some (value_of row.0)) (value_in rows name) ≡ Some h) [
            | true ↦ λ same.
                let again : value_in rows row.1 ≡ Some h = subst (λ (t : List ℕ). value_in rows t ≡ Some h) ((bytes_eq-Decides name row.1).0 same) found in
                let none = apart.1 in absurd cc
            | false ↦ λ other. found
          ] refl
    ]

name_of_value : (rows : List Row) → IsApart rows → (h : HResult) (name : List ℕ) → value_in rows name ≡ Some h → name_in rows h.0 ≡ Some name
name_of_value [] apart h name e = absurd cc
name_of_value (row ∷ rows) apart h name e =
    elim (chosen (bytes_eq name row.1) (Some (value_of row.0)) (value_in rows name) (Some h) e) [
      | inl here ↦
          let value_is : value_of row.0 ≡ h = cc in
          let name_is : name ≡ row.1 = (bytes_eq-Decides name row.1).0 here.0 in
          rw (eq-eqb h.0 row.0 (sym (ap (λ (v : HResult). v.0) value_is))) (ap (λ (t : List ℕ). Some t) (sym name_is))
      | inr later ↦
          let found = name_of_value rows apart.2 h name later.1 in
          elim (h.0 == row.0) as (λ b. ((h.0 == row.0) ≡ b) → cond b (Some row.1) (name_in rows h.0) ≡ Some name) [
            | true ↦ λ same.
                let again : name_in rows row.0 ≡ Some name = subst (λ (n : ℕ). name_in rows n ≡ Some name) (eqb-true h.0 row.0 same) found in
                let none = apart.0 in absurd cc
            | false ↦ λ other. found
          ] refl
    ]

pub names_inverse : (h : HResult) (name : List ℕ) → (name_of h.0 ≡ Some name) ↔ (hresult_named name ≡ Some h)
names_inverse h name = (value_of_name table table_is_apart h name, name_of_value table table_is_apart h name)
