-- The public references that the packets of one call will hold, before they are made.
use Rattle.std.specs.Prelude.{◌≡◌, ℕ, ◌-◌, ◌/◌, Bool, ◌==◌, ◌&&◌, not, nat_le, if◌then◌else◌, List, [], ◌∷◌}
use Rattle.std.specs.Prelude.{◌++◌}
use Rattle.com_base.specs.declared.limits.TheConstants.{PUBLIC_REFERENCES}
use Rattle.com_base.specs.declared.value.RefValue.{RefValue}
use Rattle.com_refs_books.specs.Changes.{Books}
use Rattle.com_refs_books.specs.declared.keeps.Packet.{Packet}
use Rattle.com_exchange.specs.declared.preview.Outgoing.{Outgoing}

-- A row says of its reference what the books say, in the apartment that marshals it.
pub record IsOutgoing (owns : ℕ → ℕ → Bool) (b : Books) (a : ℕ) (x : Outgoing) : Type 0 where
  pub held : b.proxy a x.object x.iface ≡ x.held
  pub owned : owns x.object a ≡ x.is_owned
  pub connected : b.live x.object ≡ x.is_connected

-- The reference that the row is of.
abbrev pub reference_of : Outgoing → RefValue
reference_of x = record { object = x.object; iface = x.iface }

-- The public references that a packet holds.
abbrev pub refs_in : Packet → ℕ
refs_in p = p.refs

-- A packet gets as many new references as a proxy is given at a time, or half of a proxy's, rounded down, where
-- that has at least 2.
abbrev pub refs_of : (owned : Bool) → (held : ℕ) → ℕ
refs_of owned n =
    if owned then PUBLIC_REFERENCES else if nat_le 2 n then n / 2 else PUBLIC_REFERENCES

abbrev pub halved : ℕ → ℕ
halved n = if nat_le 2 n then n - n / 2 else n

-- What is held for a reference x after a reference y was marshalled.
abbrev pub after_one : (y x : Outgoing) → (held : ℕ) → ℕ
after_one y x n =
    if y.is_connected && (not y.is_owned && (x.object == y.object && x.iface == y.iface)) then halved n else n

abbrev pub left_after : (earlier : List Outgoing) → (x : Outgoing) → (held : ℕ) → ℕ
left_after [] x n = n
left_after (y ∷ ys) x n = left_after ys x (after_one y x n)

-- What the packets of references hold, where others were marshalled before: none for what is not connected.
abbrev pub refs_if_connected : Outgoing → ℕ → List ℕ
refs_if_connected x n = if x.is_connected then refs_of x.is_owned n ∷ [] else []

abbrev pub previewed : (before : List Outgoing) → List Outgoing → List ℕ
previewed before [] = []
previewed before (x ∷ xs) =
    refs_if_connected x (left_after before x x.held) ++ previewed (before ++ x ∷ []) xs
