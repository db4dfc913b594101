-- A row of servants: one of each kind, in the order of the kinds.
use Rattle.std.specs.Prelude.{ℕ, ◌+◌, ◌-◌, ◌^◌, List, [], ◌∷◌, Option, None, Some, min}
use Rattle.std.specs.Prelude.{slice_index, slice_set}
use Rattle.com_body.specs.declared.frame.Native.{Native}
use Rattle.com_body.specs.declared.frame.Native.TheVariants as native

-- Where the servant of a kind stands in the row, from 0.
abbrev pub index_of : Native → ℕ
index_of native.Bodies = 0
index_of native.Counter = 1
index_of native.Relay = 2
index_of native.Latch = 3

-- The kinds of the servants, in the order of the row.
abbrev pub row : List Native
row = native.Bodies ∷ native.Counter ∷ native.Relay ∷ native.Latch ∷ []

-- One more, or the greatest number of 64 bits.
abbrev pub one_more : ℕ → ℕ
one_more n = min (n + 1) (2 ^ 64 - 1)

-- The servants' counts, after a step of the one of a kind.
abbrev pub one_served : Option Native → List ℕ → List ℕ
one_served None steps = steps
one_served (Some k) steps = slice_set steps (index_of k) (one_more (slice_index steps (index_of k)))
