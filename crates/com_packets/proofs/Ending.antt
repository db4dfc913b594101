-- The entries once all packets of an object have ended.
use Rattle.std.proofs.Common.{◌≡◌, ℕ, ◌<◌, List, [], ◌∷◌, length, zero, suc, refl, sym, ◌∙◌, arith, inl, inr}
use Rattle.std.proofs.lemmas.Bool.{cases_eq}
use Rattle.std.proofs.lemmas.List.{length-map, ext_get_or}
use Rattle.std.specs.Prelude.{Option, None, Some, IfSome, slice_index}
use Rattle.com_packets.specs.declared.Packet.{Packet}
use Rattle.com_packets.specs.Written.{cut_entries, kept}
use Rattle.com_packets.specs.Table.{entry_at, IsTable}

pub cut_at : (entries : List (Option Packet)) (object index : ℕ) → entry_at (cut_entries object entries) index ≡ kept object (entry_at entries index)
cut_at [] object index = refl
cut_at (entry ∷ entries) object zero = refl
cut_at (entry ∷ entries) object (suc index) = cut_at entries object index

-- what is kept of an entry whose packet is of that object, or of another
kept_same : (entry : Option Packet) (object key : ℕ) → IfSome entry (λ packet. packet.object ≡ key) → key ≡ object → kept object entry ≡ None
kept_same None object key h same = refl
kept_same (Some packet) object key h same = grind (arith, h, same)

kept_other : (entry : Option Packet) (object key : ℕ) → IfSome entry (λ packet. packet.object ≡ key) → (key ≡ object → ⊥) → kept object entry ≡ entry
kept_other None object key h other = refl
kept_other (Some packet) object key h other = grind (arith, h, other)

pub cut_is : (now entries : List (Option Packet)) (keys : List ℕ) (object : ℕ) → length now ≡ length entries → length keys ≡ length entries
    → ((index : ℕ) → IfSome (entry_at entries index) (λ packet. packet.object ≡ slice_index keys index))
    → ((index : ℕ) → index < length keys → slice_index keys index ≡ object → entry_at now index ≡ None)
    → ((index : ℕ) → (slice_index keys index ≡ object → ⊥) → entry_at now index ≡ entry_at entries index) → now ≡ cut_entries object entries
cut_is now entries keys object len many keyed passed others =
    ext_get_or None now (cut_entries object entries) (len ∙ sym (length-map entries (kept object))) (λ index h.
    elim (cases_eq (slice_index keys index) object) [
      | inl same ↦ passed index (omega arith) same ∙ sym (cut_at entries object index ∙ kept_same (entry_at entries index) object (slice_index keys index) (keyed index) same)
      | inr other ↦ others index other ∙ sym (cut_at entries object index ∙ kept_other (entry_at entries index) object (slice_index keys index) (keyed index) other)
    ])

kept_keyed : (entry : Option Packet) (object key : ℕ) → IfSome entry (λ packet. packet.object ≡ key) → IfSome (kept object entry) (λ packet. packet.object ≡ key)
kept_keyed None object key h = tt
kept_keyed (Some packet) object key h = elim (cases_eq packet.object object) [
  | inl same ↦ grind (arith, h, same)
  | inr other ↦ grind (arith, h, other)
]

pub table_cut : (entries : List (Option Packet)) (keys : List ℕ) (limit object : ℕ) → IsTable entries keys limit → IsTable (cut_entries object entries) keys limit
table_cut entries keys limit object t = record {
  as_many = t.as_many ∙ sym (length-map entries (kept object));
  keyed = λ index. rw (cut_at entries object index) (kept_keyed (entry_at entries index) object (slice_index keys index) (t.keyed index));
  fits = rw (length-map entries (kept object)) t.fits;
  limited = t.limited;
}
