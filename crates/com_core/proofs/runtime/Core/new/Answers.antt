-- A new core is that of the first state.
use Rattle.std.proofs.Common.{◌≡◌, ◌+◌, ◌<◌, ◌≤◌, ◌^◌, arith, length, refl, subst}
use Rattle.std.specs.Prelude.{Option, Some, None, IfNone}
use Rattle.std.specs.Arc.{arc_value}
use Rattle.com_model.specs.declared.scenario.Scenario.{Scenario}
use Rattle.com_model.specs.Formed.{Formed}
use Rattle.com_model.specs.Tables.{lanes}
use Rattle.com_core.specs.Beginning.{BeginsParts}
use Rattle.com_core.specs.Seen.{IsFirst, core_of}
use Rattle.com_core.proofs.Kept.{first_kept}
use Rattle.com_core.proofs.Shown.{begins_shown, new_shown}
use Rattle.com_core.proofs.Tied.{new_core}
use Rattle.com_core.proofs.runtime.Core.new.Goals as goal

-- A formed scenario has few lanes.
if-none : {X : Type 0} (x : Option X) (P : Type 0) → IfNone x P → ((y : X) → x ≡ Some y → ⊥) → P
if-none None P p n = p
if-none (Some y) P p n = absurd (n y refl)

pub unreachable-requires : goal.unreachable-requires
unreachable-requires c =
    let s = arc_value c.args.scenario in
    let f : Formed s = c.requires.formed in
    let pool : s.pool ≤ 8 = f.pool.1 in
    let threads : length s.threads ≤ 16 = f.threads.1 in
    let count : lanes s ≡ length s.threads + 1 + s.pool = refl in
    let many : length s.threads < 2 ^ 28 → 2 ^ 32 ≤ lanes s =
    subst (λ (x : Scenario). length x.threads < 2 ^ 28 → 2 ^ 32 ≤ lanes x) c.deref.ensures (if-none c.lanes.result _ c.lanes.ensures.none c.in_default.not-Some) in
    let most : 2 ^ 32 ≤ lanes s = many (omega (arith, threads)) in
    omega (arith, most, count, pool, threads)

pub returns-clause-begins : goal.returns-clause-begins
returns-clause-begins c =
    let r = c.in_ok-running.running in
    begins_shown _ r.parts r.fallen.objects (subst (λ (x : Scenario). BeginsParts x r.parts r.fallen.objects) c.deref-2.ensures c.in_ok-running.ensures.stands)

pub returns-clause-held : goal.returns-clause-held
returns-clause-held c = new_shown c.in_ok-running.running.ledger c.in_ok-running.ensures.held

pub returns-clause-first : goal.returns-clause-first
returns-clause-first c =
    let s = arc_value c.args.scenario in
    let r = c.in_ok-running.running in
    let e = c.in_ok-running.ensures in
    let begins : BeginsParts s r.parts r.fallen.objects = subst (λ (x : Scenario). BeginsParts x r.parts r.fallen.objects) c.deref-2.ensures e.stands in
    new_core s (core_of s r) refl (begins_shown s r.parts r.fallen.objects begins) e.clock e.entered (new_shown r.ledger e.held) c.requires.formed

pub invariant_of-result : goal.invariant_of-result
invariant_of-result c =
    let s = arc_value c.args.scenario in
    let r = c.in_ok-running.running in
    let e = c.in_ok-running.ensures in
    let count : c.in-Some.count ≡ lanes s = subst (λ (x : Scenario). c.in-Some.count ≡ lanes x) c.deref.ensures c.in-Some.ensures.lanes in
    let more : length s.threads + 2 < 2 ^ 32 = subst (λ (x : Scenario). length x.threads + 2 < 2 ^ 32) c.deref.ensures c.in-Some.ensures.threads in
    let threads : length s.threads < 2 ^ 32 = omega (arith, more) in
    let begins : BeginsParts s r.parts r.fallen.objects = subst (λ (x : Scenario). BeginsParts x r.parts r.fallen.objects) c.deref-2.ensures e.stands in
    let first : IsFirst s (core_of s r) = new_core s (core_of s r) refl (begins_shown s r.parts r.fallen.objects begins) e.clock e.entered (new_shown r.ledger e.held) c.requires.formed in
    (e.sound, e.few, count, threads, first_kept s (core_of s r) refl first)
