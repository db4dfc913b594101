-- Texts that are appended one behind another.
use Rattle.std.proofs.Common.{◌≡◌, ℕ, List, ◌++◌, ap, ◌∙◌, append_assoc}

-- what two pieces make, each behind what was there before it
pub join : (a b c p q : List ℕ) → b ≡ a ++ p → c ≡ b ++ q → c ≡ a ++ (p ++ q)
join a b c p q h k = k ∙ ap (λ t. t ++ q) h ∙ append_assoc a p q
