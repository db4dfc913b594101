-- What an OBJREF is: the bytes of a marshalled reference, in its three cases.
use Rattle.std.specs.Prelude.{◌≡◌, ℕ, ◌*◌, ◌^◌, ◌<◌, ◌≤◌, List, [], ◌∷◌, ◌++◌, length}
use Rattle.std.specs.Int.{w16, w32, w64}
use Rattle.com_base.specs.declared.guid.Guid.{Guid}
use Rattle.com_base.specs.declared.standard.StdFields.{StdFields}
use Rattle.com_wire.specs.Fields.{number, guid, IsGuid}
use Rattle.objref.specs.declared.decoding.ObjRef.{ObjRef}
use Rattle.objref.specs.declared.decoding.ObjRef.TheVariants as objref

-- A DUALSTRINGARRAY: how many values of 16 bits it has, where the security bindings begin among them,
-- and the bytes of the values, which nobody reads here.
pub record Strings : Type 0 where
  pub entries : ℕ
  pub security : ℕ
  pub values : List ℕ

-- What an OBJREF says: by standard marshalling the fields, the flags of STDOBJREF and the strings; with
-- a handler its class too; by custom marshalling the IID, the class, the two numbers that are passed on
-- without a meaning, and the object data.
pub data Reference : Type 0 where
  standard : StdFields → ℕ → Strings → Reference
  handler : StdFields → ℕ → Guid → Strings → Reference
  custom : Guid → Guid → ℕ → ℕ → List ℕ → Reference

-- What a decoded OBJREF says, without where it lies in memory.
abbrev pub reference_of : ObjRef → Reference
reference_of (objref.Standard fields flags entries security strings) =
    standard fields flags (record { entries = entries; security = security; values = strings.now })
reference_of (objref.Handler fields flags clsid entries security strings) =
    handler fields flags clsid (record { entries = entries; security = security; values = strings.now })
reference_of (objref.Custom iid clsid extension unread payload) =
    custom iid clsid extension unread payload.now

-- The signature "MEOW", the flags that tell the case, and the IID.
unfoldable pub header : ℕ → Guid → List ℕ
header flags iid = number w32 0x574f454d ++ (number w32 flags ++ guid iid)

-- STDOBJREF.
unfoldable pub standard_body : ℕ → StdFields → List ℕ
standard_body flags fields =
    number w32 flags
    ++ (number w32 fields.refs ++ (number w64 fields.oxid ++ (number w64 fields.oid ++ guid fields.ipid)))

-- DUALSTRINGARRAY.
unfoldable pub strings : Strings → List ℕ
strings s = number w16 s.entries ++ (number w16 s.security ++ s.values)

-- The bytes of an OBJREF.
abbrev pub spelling : Reference → List ℕ
spelling (standard fields flags s) = header 1 fields.iid ++ (standard_body flags fields ++ strings s)
spelling (handler fields flags clsid s) =
    header 2 fields.iid ++ (standard_body flags fields ++ (guid clsid ++ strings s))
spelling (custom iid clsid extension unread payload) =
    header 4 iid ++ (guid clsid ++ (number w32 extension ++ (number w32 unread ++ payload)))

-- Fields within their widths.
pub record IsStdFields (f : StdFields) : Type 0 where
  pub iid : IsGuid f.iid
  pub refs : f.refs < 2 ^ 32
  pub oxid : f.oxid < 2 ^ 64
  pub oid : f.oid < 2 ^ 64
  pub ipid : IsGuid f.ipid

-- As many bytes as the values have, and the security bindings begin within them or at their end.
pub record IsStrings (s : Strings) : Type 0 where
  pub entries : s.entries < 2 ^ 16
  pub security : s.security ≤ s.entries
  pub values : length s.values ≡ 2 * s.entries

-- What an OBJREF can say.
abbrev pub IsReference : Reference → Type 0
IsReference (standard fields flags s) = IsStdFields fields × (flags < 2 ^ 32) × IsStrings s
IsReference (handler fields flags clsid s) =
    IsStdFields fields × (flags < 2 ^ 32) × IsGuid clsid × IsStrings s
IsReference (custom iid clsid extension unread payload) =
    IsGuid iid × IsGuid clsid × (extension < 2 ^ 32) × (unread < 2 ^ 32)

-- The grammar: these bytes are an OBJREF that says this.
pub record IsObjRef (bytes : List ℕ) (r : Reference) : Type 0 where
  pub says : IsReference r
  pub bytes_are : bytes ≡ spelling r

-- Not by custom marshalling, whose data has no end of its own.
abbrev pub HasEnd : Reference → Type 0
HasEnd (standard fields flags s) = Unit {0}
HasEnd (handler fields flags clsid s) = Unit {0}
HasEnd (custom iid clsid extension unread payload) = ⊥

-- What the writer says with these fields: no flags, and an array of two zero values, one for the end of
-- the string bindings and one for the end of the security bindings.
abbrev pub said_of : StdFields → Reference
said_of fields = standard fields 0 (record { entries = 2; security = 1; values = 0 ∷ 0 ∷ 0 ∷ 0 ∷ [] })

-- The 72 bytes of the writer.
abbrev pub written_of : StdFields → List ℕ
written_of fields = spelling (said_of fields)
