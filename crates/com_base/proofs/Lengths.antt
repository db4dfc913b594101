-- A list whose length is known is its elements.
use Rattle.std.proofs.Common.{◌≡◌, ℕ, List, [], ◌∷◌, ◌++◌, length, refl, ap, arith, slice_index}
use Rattle.std.specs.Int.{to_be_bytes, w16, w32}
use Rattle.uuid.specs.Parts.{swap_fields}
use Rattle.com_base.specs.declared.guid.Guid.{Guid}
use Rattle.com_base.specs.Guids.{wire_of, reading_order_of}

pub eight_elements : (xs : List ℕ) → length xs ≡ 8
    → slice_index xs 0 ∷ slice_index xs 1 ∷ slice_index xs 2 ∷ slice_index xs 3 ∷ slice_index xs 4 ∷ slice_index xs 5 ∷ slice_index xs 6 ∷ slice_index xs 7 ∷ [] ≡ xs
eight_elements (a ∷ b ∷ c ∷ d ∷ e ∷ f ∷ g ∷ h ∷ []) len = refl
eight_elements xs len = absurd (omega (arith, len))

-- The bytes on the wire with the first three fields turned round are those in the order of the text.
pub turned : (g : Guid) → length g.data4 ≡ 8 → swap_fields (wire_of g) ≡ reading_order_of g
turned g eight =
    ap (λ tail. to_be_bytes w32 g.data1 ++ to_be_bytes w16 g.data2 ++ to_be_bytes w16 g.data3 ++ tail) (eight_elements g.data4 eight)
