-- The laws of messages, entry by entry.
use Rattle.std.proofs.Common.{subst, sym, arith}
use Rattle.std.specs.Prelude.{◌≡◌, ℕ, ◌+◌, ◌^◌, ◌≤◌, Bool, true, false, ◌&&◌, List, [], ◌∷◌, length, Some, None}
use Rattle.com_base.specs.declared.standard.StdFields.{StdFields}
use Rattle.com_classes.specs.Lookups.{method_at}
use Rattle.com_model.specs.declared.deeds.Deed.{Deed}
use Rattle.com_model.specs.declared.deeds.Deed.TheVariants as deed
use Rattle.com_model.specs.declared.deeds.Entry.{Entry}
use Rattle.com_model.specs.declared.scenario.Scenario.{Scenario}
use Rattle.com_model.specs.Ends.{limit}
use Rattle.com_model.specs.Tables.{parameters}
use Rattle.com_model.specs.Calls.{issue, route_of, is_marshalled}
use Rattle.com_model.specs.Endings.{ending}
use Rattle.com_model.specs.Books.{books}
use Rattle.com_model.specs.Formed.{Formed}
use Rattle.com_model.specs.Issue.{sent}
use Rattle.com_model.specs.Sight.{sight}
use Rattle.com_model.specs.Deeds.{is_named}
use Rattle.com_model.specs.Rules.{legal}
use Rattle.com_model.specs.Safe.{EachEntry}
use Rattle.com_laws_safety.proofs.Caused.{legal-own}
use Rattle.com_laws_balance.proofs.Says.{Says, next-says}
use Rattle.com_print_scenario.specs.Ranges.{FitsTypes}
use Rattle.com_laws_messages.specs.Carried.{Sends, ReadsRequest, Reads}
use Rattle.com_laws_messages.proofs.Naming.{none-gone, told-apart}
use Rattle.com_laws_messages.proofs.Requests.{Stands, stands-read}
use Rattle.com_laws_messages.proofs.Calls.{few-packets, issued-stands, standing}
use Rattle.com_laws_messages.proofs.Backs.{sends-reply, reads-reply}
use Rattle.com_laws_messages.proofs.Fitting.{limit-low}

entry-sends : (s : Scenario) (h : List Entry) (l : ℕ) (d : Deed) → Formed s → FitsTypes s → legal s (record { lane = l; deed = d } ∷ h) → length h + 1 ≤ 1_000_000 → Sends s h l d
entry-sends s h l (deed.Out c o i m r k bytes) f t q n = λ y.
    let z : Stands s (record { lane = l; deed = deed.Out c o i m r k bytes } ∷ h) k (parameters (method_at s.classes i m)) bytes (sent s (record { lane = l; deed = deed.Out c o i m r k bytes } ∷ h) c) ((books s (record { lane = l; deed = deed.Out c o i m r k bytes } ∷ h)).arguments c) = issued-stands s h l c o i m r k bytes f t q n y in
    record { packets = z.packets; spelled = z.spelled; sendable = z.sendable; numbered = z.numbered }
entry-sends s h l (deed.Leave c hr v (Some bytes)) f t q n = sends-reply s h l c hr v bytes f t q n
entry-sends s h l (deed.Leave c hr v None) f t q n = tt
entry-sends s h l _ f t q n = tt

all-there : (m b : Bool) → m ≡ true → (m && b) ≡ false → b ≡ false
all-there true b p e = e
all-there false b p e = cc

entry-reads : (s : Scenario) (h : List Entry) (l : ℕ) (d : Deed) → Formed s → FitsTypes s → legal s (record { lane = l; deed = d } ∷ h) → length h + 1 ≤ 1_000_000 → Reads s h l d
entry-reads s h l (deed.Enter c o a t vs) f u q n = λ y.
    let own : (vs ≡ sent s h c) × (ending s h c ≡ None) = (legal-own s (record { lane = l; deed = deed.Enter c o a t vs } ∷ h) q).1 in
    let says : Says s (sight s h) l (deed.Enter c o a t vs) = next-says s h l (deed.Enter c o a t vs) q.1 in
    let room : length (books s h).packets + 5 ≤ 2 ^ 64 = few-packets s h f (omega (arith, n)) in
    subst (ReadsRequest s h c) (sym own.0)
    (stands-read s h c (standing s h c f u q.0 (omega (arith, n)) y) (omega (arith, room))
    (none-gone s h ((books s h).arguments c) (all-there (is_marshalled (route_of (issue h c))) _ y says.3)))
entry-reads s h l (deed.Back c hr v) f t q n = reads-reply s h l c hr v f t q n
entry-reads s h l _ f t q n = tt

pub legal-sends : (s : Scenario) (h : List Entry) → Formed s → FitsTypes s → legal s h → length h ≤ limit s → EachEntry (Sends s) h
legal-sends s [] f t q n = tt
legal-sends s (e ∷ h) f t q n = (legal-sends s h f t q.0 (omega (arith, n)), entry-sends s h e.lane e.deed f t q (let m : limit s ≤ 1_000_000 = limit-low s in omega (arith, n, m)))

pub legal-reads : (s : Scenario) (h : List Entry) → Formed s → FitsTypes s → legal s h → length h ≤ limit s → EachEntry (Reads s) h
legal-reads s [] f t q n = tt
legal-reads s (e ∷ h) f t q n = (legal-reads s h f t q.0 (omega (arith, n)), entry-reads s h e.lane e.deed f t q (let m : limit s ≤ 1_000_000 = limit-low s in omega (arith, n, m)))

pub packets-apart : (s : Scenario) (h : List Entry) (f : StdFields) (p q : ℕ) → Formed s → length h ≤ limit s → p ≤ length (books s h).packets → q ≤ length (books s h).packets → is_named s (sight s h) f p ≡ true → is_named s (sight s h) f q ≡ true → p ≡ q
packets-apart s h f p q x n a b y z =
    let m : limit s ≤ 1_000_000 = limit-low s in
    let room : length (books s h).packets + 5 ≤ 2 ^ 64 = few-packets s h x (omega (arith, n, m)) in
    told-apart s h f p q (omega (arith, room)) a b y z
