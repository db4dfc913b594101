-- GUIDs as texts.
use Rattle.std.proofs.Common.{◌≡◌, ℕ, List, length, refl, arith, Some, None, ◌∙◌, ◌∷◌, []}
use Rattle.std.specs.Option.{option_map}
use Rattle.std.proofs.lemmas.List.{length-append}
use Rattle.uuid.specs.Text.{parsed, parsed_braced, braced_text, hyphenated_text}
use Rattle.uuid.proofs.TextLemmas.{by_index_length}
use Rattle.com_base.specs.Guids.{guid_of_text, guid_of_reading_order}

pub parsed_at_38 : (text : List ℕ) → length text ≡ 38 → parsed text ≡ parsed_braced text
parsed_at_38 text len = rw len refl

pub no_guid : (text : List ℕ) → length text ≡ 38
    → (((u : List ℕ) × (parsed text ≡ Some u)) → ⊥) → None ≡ guid_of_text text
no_guid text len none =
    elim (parsed_braced text) as (λ r. (parsed_braced text ≡ r) → None ≡ option_map guid_of_reading_order r) [
      | None ↦ λ e. refl
      | Some u ↦ λ e. absurd (none (u, parsed_at_38 text len ∙ e))
    ] refl

pub braced_length : (letter : ℕ) (xs : List ℕ) → length (braced_text letter xs) ≡ 38
braced_length letter xs = omega (arith, length-append (hyphenated_text letter xs) (125 ∷ []), by_index_length {X = ℕ} 36)
