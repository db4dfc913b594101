-- A history within its scenario's limit is short enough for cookies of 64 bits.
use Rattle.std.proofs.Common.{arith}
use Rattle.std.specs.Prelude.{ℕ, ◌≤◌, ◌<◌, ◌^◌, ◌==◌, true, false, cond, List, length}
use Rattle.com_model.specs.declared.deeds.Entry.{Entry}
use Rattle.com_model.specs.declared.scenario.Scenario.{Scenario}
use Rattle.com_model.specs.Ends.{limit}
use Rattle.com_model.specs.Formed.{Formed}
use Rattle.com_model.specs.Rules.{legal}
use Rattle.com_model.specs.Safe.{EachEntry}
use Rattle.com_laws_sources.specs.Deliveries.{AllGot, NonePassed, TakesNext}
use Rattle.com_laws_sources.specs.Histories.{Delivered}
use Rattle.com_laws_sources.proofs.Delivered.{legal-delivered, legal-cookies, legal-turns, legal-all}

limit-few : (s : Scenario) → limit s ≤ 1_000_000
limit-few s = elim (s.version == 2) as (λ b. cond b 1_000_000 200_000 ≤ 1_000_000) [ true ↦ omega arith | false ↦ omega arith ]

below : (n m : ℕ) → n ≤ m → m ≤ 1_000_000 → n < 2 ^ 63
below n m p q = omega (arith, p, q)

short : (s : Scenario) (h : List Entry) → length h ≤ limit s → length h < 2 ^ 63
short s h p = below (length h) (limit s) p (limit-few s)

pub within-delivered : (s : Scenario) (h : List Entry) → Formed s → legal s h → length h ≤ limit s → EachEntry (Delivered s) h
within-delivered s h f q b = legal-delivered s h f q (short s h b)

pub within-cookies : (s : Scenario) (h : List Entry) → Formed s → legal s h → length h ≤ limit s → EachEntry (TakesNext s) h
within-cookies s h f q b = legal-cookies s h f q (short s h b)

pub within-turns : (s : Scenario) (h : List Entry) → Formed s → legal s h → length h ≤ limit s → NonePassed s h
within-turns s h f q b = legal-turns s h f q (short s h b)

pub within-all : (s : Scenario) (h : List Entry) → Formed s → legal s h → length h ≤ limit s → EachEntry (AllGot s) h
within-all s h f q b = legal-all s h f q (short s h b)
