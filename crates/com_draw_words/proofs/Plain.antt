-- Texts whose bytes stand for themselves.
use Rattle.std.proofs.Common.{◌≡◌, ℕ, List, [], ◌∷◌, ◌++◌, true, refl, arith}
use Rattle.com_draw_words.specs.Escapes.{are_plain, escaped, escaped_byte, is_plain}

plain_byte : (b : ℕ) → is_plain b ≡ true → escaped_byte b ≡ b ∷ []
plain_byte b h = grind arith

-- such a text is not changed
pub plain_stays : (t : List ℕ) → are_plain t ≡ true → escaped t ≡ t
plain_stays [] h = refl
plain_stays (b ∷ t) h = grind (arith, plain_byte b, plain_stays t)
