-- Books, and a history, that break the laws.
use Rattle.std.proofs.Common.{arith}
use Rattle.std.proofs.lemmas.Int.{ints}
use Rattle.std.specs.Prelude.{◌≡◌, refl, ◌≤◌, pos, negsuc, ◌≤ℤ◌, true, false, [], ◌∷◌}
use Rattle.com_refs_books.specs.Changes.{Drops, Join, Return, Split, Withdraw}
use Rattle.com_model.specs.Cases.{direct_call, direct_call_2}
use Rattle.com_model.specs.Rules.{legal}
use Rattle.com_model.specs.Safe.{EachEntry}
use Rattle.com_model.proofs.Cases.{whole-direct_call}
use Rattle.com_laws_amounts.specs.Amounts.{Covers, CoversRows, CoversReturns, NothingOverdrawn}
use Rattle.com_laws_amounts.specs.Integers.{Balances, NoneNegative}
use Rattle.com_laws_amounts.specs.Broken.{nobody_owns, no_places, packet_alone, proxy_alone, stub_alone, revoked_out_of_nothing, lost}

five-none : 5 ≤ 0 → ⊥
five-none h = absurd (omega arith)

pub stub-bites : Covers packet_alone (Return 1) → ⊥
stub-bites p = five-none (p.stub 1 1)

two-none : 2 ≤ 0 → ⊥
two-none h = absurd (omega arith)

pub proxy-bites : Covers stub_alone (Split 1 1 1 2) → ⊥
proxy-bites p = two-none (p.proxy 1 1 1)

pub packet-bites : Covers stub_alone (Join 1 1) → ⊥
packet-bites p = let no : false ≡ true = p.source in cc

pub cookie-bites : Covers stub_alone (Withdraw 1) → ⊥
cookie-bites p = let no : true ≡ false = p.source in cc

pub row-bites : CoversRows nobody_owns packet_alone (Drops 1 ∷ []) → ⊥
row-bites p = stub-bites p.0

pub returns-bite : CoversReturns 4 no_places proxy_alone → ⊥
returns-bite p = five-none (p 1 1)

pub legal-two : legal direct_call direct_call_2
legal-two = whole-direct_call.0.0.0.0.0.0.0.0.0

pub entry-bites : EachEntry (NothingOverdrawn direct_call) revoked_out_of_nothing → ⊥
entry-bites p = let no : true ≡ false = p.1.rows.0.source in cc

pub lost-below : lost.stub 1 1 ≡ negsuc 4
lost-below = refl

not-negative : pos 0 ≤ℤ negsuc 4 → ⊥
not-negative h = absurd (omega (arith, ints, h))

pub negative-bites : NoneNegative lost → ⊥
negative-bites p = not-negative (p.stub 1 1)

pub balance-bites : Balances 4 packet_alone lost → ⊥
balance-bites p = let no : negsuc 4 ≡ pos 5 = p 1 1 in cc
