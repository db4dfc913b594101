-- What an entry brings to the calls beside its deed.
use Rattle.std.specs.Prelude.{◌≡◌}
use Rattle.com_model.specs.declared.deeds.Deed.{Deed}
use Rattle.com_model.specs.declared.deeds.Deed.TheVariants as deed
use Rattle.com_calls.specs.declared.rows.Enclosed.{Enclosed}
use Rattle.com_calls.specs.declared.rows.Enclosed.TheVariants as enclosed

-- What goes with an Out.
abbrev pub IsIssuing : Enclosed → Type 0
IsIssuing (enclosed.Issued i) = Unit {0}
IsIssuing _ = ⊥

-- What goes with a Leave.
abbrev pub IsAnswer : Enclosed → Type 0
IsAnswer (enclosed.Answer a) = Unit {0}
IsAnswer _ = ⊥

-- A Leave comes with the answer that it says.
abbrev pub HasAnswer : Deed → Enclosed → Type 0
HasAnswer (deed.Leave c hr v bytes) (enclosed.Answer a) = a ≡ record { hr = hr; value = v }
HasAnswer (deed.Leave c hr v bytes) _ = ⊥
HasAnswer _ x = Unit {0}
