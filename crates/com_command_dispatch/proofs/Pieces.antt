-- Texts in parts.
use Rattle.std.proofs.Common.{◌≡◌, ℕ, List, [], ◌∷◌, ◌++◌, ◌+◌, ap, ◌∙◌, append_assoc, append-nil}
use Rattle.com_dispatch.specs.declared.outcomes.Binding.{Binding}
use Rattle.com_command_dispatch.specs.Lines.{binding_text, bindings_on}

-- the line of one binding, and then the rest
pub bindings_in_two : (text longer : List ℕ) (number : ℕ) (b : Binding) (rest : List Binding) → longer ≡ text ++ binding_text number b
    → longer ++ bindings_on (number + 1) rest ≡ text ++ bindings_on number (b ∷ rest)
bindings_in_two text longer number b rest h =
    ap (λ t. t ++ bindings_on (number + 1) rest) h
    ∙ append_assoc text (binding_text number b) (bindings_on (number + 1) rest)

-- a word behind its space
pub behind_space : (text word : List ℕ) → text ++ (word ++ []) ≡ text ++ word
behind_space text word = ap (λ t. text ++ t) (append-nil word)
