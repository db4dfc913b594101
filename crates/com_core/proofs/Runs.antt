-- How many bodies of an object run, entries and apartments there were, after an entry.
use Rattle.std.proofs.Common.{◌≡◌, ℕ, zero, suc, ◌+◌, ◌≤◌, ◌<◌, ◌^◌, Bool, List, [], ◌∷◌, ◌++◌, All, Option, Some, None, Result, Ok, Err, OnOk, OnErr, arith, ap, sym, subst, length, slice_index_or}
use Rattle.std.proofs.lemmas.List.{length-append}
use Rattle.com_body.specs.declared.frame.Outcome.{Outcome}
use Rattle.com_model.specs.declared.deeds.Entry.{Entry}
use Rattle.com_model.specs.declared.scenario.Scenario.{Scenario}
use Rattle.com_model.specs.Apartments.{makes_sta, with_last}
use Rattle.com_model.specs.Ends.{limit}
use Rattle.com_model.specs.Frames.{Actor}
use Rattle.com_lanes.specs.First.{first_lanes}
use Rattle.com_laws_ranges.proofs.Standing.{limited}
use Rattle.com_state.specs.Parts.{LaneTables, lanes_after}
use Rattle.com_scene.specs.Kept.{HasSlots}
use Rattle.com_parts.specs.Fits.{Sent}
use Rattle.com_parts.specs.Tables.{PartTables}
use Rattle.com_ledger.specs.Most.{Most}
use Rattle.com_core.specs.declared.running.Running.{Running}
use Rattle.com_core.specs.Changes.{Becomes}
use Rattle.com_core.specs.Seen.{IsAsBefore}
use Rattle.com_core.specs.Sound.{Sound, Few}
use Rattle.com_core.proofs.Shown.{few_alike, sound_alike}

pub none_run : (n : ℕ) → Most n (0 ∷ [])
none_run n zero = omega arith
none_run n (suc o) = omega arith

pub few_run : (n : ℕ) (xs : List ℕ) → n < 1_000_000 → Most n xs → (o : ℕ) → slice_index_or xs o 0 + 1 < 2 ^ 32
few_run n xs p q o = let e : slice_index_or xs o 0 ≤ n = q o in omega (arith, p, e)

pub below_million : (s : Scenario) (n : ℕ) → n < limit s → n < 1_000_000
below_million s n h = let most : limit s ≤ 1000000 = limited s in omega (arith, most, h)

pub room_for_sta : (p : PartTables) → Few p → length p.lanes.stas + 4 ≤ 2 ^ 32
room_for_sta p w =
    let a : p.entries ≤ 1_000_000 = w.entries in
    let b : length p.lanes.stas ≤ p.entries = w.stas in
    omega (arith, a, b)

pub none_made : (p : PartTables) (n : ℕ) → p.lanes ≡ first_lanes n → p.entries ≡ 0 → Few p
none_made p n e z =
    let l : length p.lanes.stas ≡ 0 = ap (λ (t : LaneTables). length t.stas) e in
    record { entries = omega (arith, z); stas = omega (arith, z, l) }

last_more : (xs : List ℕ) (x : Option ℕ) → length (with_last xs x) ≤ length xs + 1
last_more xs None = omega arith
last_more xs (Some a) = let e : length (xs ++ a ∷ []) ≡ length xs + 1 = length-append xs (a ∷ []) in omega (arith, e)

pub few_later : (p q : PartTables) (e : Entry) → q.lanes ≡ lanes_after p.lanes e → q.entries ≡ p.entries + 1 → p.entries < 1_000_000 → Few p → Few q
few_later p q e l n room f =
    let a : length q.lanes.stas ≡ length (with_last p.lanes.stas (makes_sta e.deed)) = ap (λ (t : LaneTables). length t.stas) l in
    let b : length (with_last p.lanes.stas (makes_sta e.deed)) ≤ length p.lanes.stas + 1 = last_more p.lanes.stas (makes_sta e.deed) in
    let c : length p.lanes.stas ≤ p.entries = f.stas in
    record { entries = omega (arith, n, room); stas = omega (arith, a, b, c, n) }

pub sound_later : (p q : PartTables) (xs ws : List ℕ) → Sound p xs → All HasSlots q.scene.bodies → q.entries ≡ p.entries + 1 → ((n : ℕ) → Most n xs → Most (n + 1) ws) → Sound q ws
sound_later p q xs ws s a e h =
    record { bodies = a; runs = subst (λ (n : ℕ). Most n ws) (sym e) (h p.entries s.runs) }

-- ---- an entry that was made, or found no memory

pub few_made : {E F : Type 0} (x : Result E F) (r u : Running) (e : Entry) (a : Actor) (o : Option Outcome) (b : Actor) (f : Bool) (y : Option Sent)
    → OnOk x (Becomes r.parts u.parts e a o b f y r.clock) → OnErr x (IsAsBefore r u) → r.parts.entries < 1_000_000 → Few r.parts → Few u.parts
few_made (Ok z) r u e a o b f y m h room few = few_later r.parts u.parts e m.lanes m.entries room few
few_made (Err z) r u e a o b f y m h room few = few_alike r.parts u.parts h.parts few

pub sound_made : {E F : Type 0} (x : Result E F) (r u : Running) (e : Entry) (a : Actor) (o : Option Outcome) (b : Actor) (f : Bool) (y : Option Sent)
    → OnOk x (Becomes r.parts u.parts e a o b f y r.clock) → OnOk x (All HasSlots u.parts.scene.bodies)
    → OnOk x ((n : ℕ) → Most n r.entered.counts → Most (n + 1) u.entered.counts) → OnErr x (IsAsBefore r u)
    → Sound r.parts r.entered.counts → Sound u.parts u.entered.counts
sound_made (Ok z) r u e a o b f y m k n h s = sound_later r.parts u.parts r.entered.counts u.entered.counts s k m.entries n
sound_made (Err z) r u e a o b f y m k n h s = sound_alike r.parts u.parts r.entered.counts u.entered.counts h.parts h.entered s

pub entries_made : {E F : Type 0} (x : Result E F) (p q : PartTables) (e : Entry) (a : Actor) (o : Option Outcome) (b : Actor) (f : Bool) (y : Option Sent) (clock : ℕ)
    → OnOk x (Becomes p q e a o b f y clock) → OnOk x (q.entries ≡ p.entries + 1)
entries_made (Ok z) p q e a o b f y clock m = m.entries
entries_made (Err z) p q e a o b f y clock m = tt
