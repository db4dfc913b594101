-- The packets that an entry makes, before they are made.
use Rattle.std.specs.Prelude.{◌≡◌, ℕ, ◌+◌, Bool, true, if◌then◌else◌, List, [], ◌∷◌, slice_index_or}
use Rattle.com_base.specs.declared.standard.StdFields.{StdFields}
use Rattle.com_base.specs.declared.value.RefValue.{RefValue}
use Rattle.com_base.specs.declared.value.MarshalMode.{MarshalMode}
use Rattle.com_base.specs.declared.value.MarshalMode.TheVariants as marshal
use Rattle.com_refs_books.specs.Changes.{new_packet}
use Rattle.com_exchange.specs.declared.preview.Outgoing.{Outgoing}
use Rattle.com_exchange.specs.Previews.{refs_of}
use Rattle.com_model.specs.declared.scenario.Scenario.{Scenario}
use Rattle.com_model.specs.Deeds.{packet_fields}
use Rattle.com_model.specs.Sight.{Sight}

-- The object of each reference is connected.
abbrev pub AllConnected : (live : ℕ → Bool) → List RefValue → Type 0
AllConnected live [] = Unit {0}
AllConnected live (r ∷ rs) = (live r.object ≡ true) × AllConnected live rs

-- The public references of a new packet: 1 in a strong one, none in a weak one.
abbrev pub refs_made : MarshalMode → (owned : Bool) → (held : ℕ) → ℕ
refs_made marshal.Normal owned n = refs_of owned n
refs_made marshal.Strong owned n = 1
refs_made marshal.Weak owned n = 0

-- The fields of a reference's packet, where k packets of the call were made before it: none of what is not
-- connected.
abbrev pub field_of : Scenario → Sight → (made : ℕ) → (refs : List ℕ) → Outgoing → (k : ℕ) → List StdFields
field_of s v made refs x k =
    if x.is_connected
    then packet_fields s v (new_packet marshal.Normal x.object x.iface (slice_index_or refs k 0))
    (made + 1 + k) ∷ []
    else []

-- The fields of all, one packet number after the other.
abbrev pub fields_from : Scenario → Sight → (made : ℕ) → (refs : List ℕ) → List Outgoing → (k : ℕ)
    → List StdFields
fields_from s v made refs [] k = []
fields_from s v made refs (x ∷ xs) k =
    if x.is_connected
    then packet_fields s v (new_packet marshal.Normal x.object x.iface (slice_index_or refs k 0))
    (made + 1 + k) ∷ fields_from s v made refs xs (k + 1)
    else fields_from s v made refs xs k
