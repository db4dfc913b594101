-- The end of a page: what explains how a history ended, and what is drawn of it.
use Rattle.std.proofs.Common.{◌≡◌, ℕ, ◌≤◌, ◌<◌, List, [], ◌++◌, length, refl, ap, sym, subst, ◌∙◌, arith, Option, Some}
use Rattle.std.proofs.lemmas.Grind.{common_steps}
use Rattle.std.specs.Prelude.{◌^◌, ◌==◌, true, false, cond, is_some, nat_le, reverse, None}
use Rattle.com_check.specs.declared.agreement.traces.Agreed.{Agreed}
use Rattle.com_check.specs.Agreeing.{IsAgreed}
use Rattle.com_deliveries.specs.declared.Delivery.{Delivery}
use Rattle.com_deliveries.specs.Delivered.{AreDeliveries}
use Rattle.com_model.specs.declared.counts.Counts.{Counts}
use Rattle.com_model.specs.declared.counts.Ended.{Ended}
use Rattle.com_model.specs.declared.deeds.Entry.{Entry}
use Rattle.com_model.specs.declared.scenario.Scenario.{Scenario}
use Rattle.com_model.specs.Clock.{clock}
use Rattle.com_model.specs.Ends.{all_counts, ended_as, ended_by, limit, scheduled}
use Rattle.com_model.specs.Formed.{Formed}
use Rattle.com_model.specs.Rules.{legal}
use Rattle.com_model.specs.Sight.{sight}
use Rattle.com_replay.specs.Recorded.{IsRecorded}
use Rattle.com_waits.specs.Chains.{explanation_of}
use Rattle.com_waits.specs.declared.reasons.Waits.{Waits}
use Rattle.com_laws_safe.proofs.Schedule.{legal-end}
use Rattle.com_draw.specs.declared.beside.Beside.{Beside}
use Rattle.com_draw.specs.Ends.{end_text}
use Rattle.com_draw.specs.Entries.{drawn}
use Rattle.com_draw.specs.Pages.{page, written}
use Rattle.com_draw.specs.Pictures.{Picture}
use Rattle.com_command_draw.specs.declared.beginning.Begun.{Begun}
use Rattle.com_command_draw.specs.Begun.{IsBegun}
use Rattle.com_command_draw.specs.Pages.{page_of}

-- ---- what explains the end

-- What is answered for entries that are looked at.
abbrev pub Explains : Scenario → List Entry → Ended → Option Waits → Type 0
Explains s entries x w =
    legal s (reverse entries) → ended_as s (reverse entries) ≡ Some x → w ≡ explanation_of s (reverse entries)

pub explained_at : (s seen : Scenario) (entries slice : List Entry) (x : Ended) (w : Option Waits)
    → seen ≡ s → slice ≡ entries → IsRecorded s entries x → Explains seen slice x w → w ≡ explanation_of s (scheduled s)
explained_at s seen entries slice x w is_seen is_slice r explains =
    let own : Explains s entries x w =
    subst (λ (y : Scenario). Explains y entries x w) is_seen (subst (λ (es : List Entry). Explains seen es x w) is_slice explains) in
    own r.lawful r.ended_is ∙ ap (λ (h : List Entry). explanation_of s h) r.history

-- ---- the page that was begun

-- The page is what was written of the entries, and the end.
page_parts : (s : Scenario) (h : List Entry) (x : Beside) → page s h x ≡ written s h ++ end_text (drawn s h) x
page_parts s h x = refl

pub ended_page : (s : Scenario) (b : Begun) (w : Option Waits) (events : List Delivery) (text : List ℕ)
    → text ≡ b.text ++ end_text b.drawing (record { counts = b.counts; clock = b.clock; ended = b.ended; waits = w; events = events })
    → IsBegun s b → w ≡ explanation_of s (scheduled s) → text ≡ page_of s (scheduled s) b.ended events
unfolding page_of
ended_page s b w events text is begun explains =
    let h : List Entry = scheduled s in
    is
    ∙ ap (λ (t : List ℕ). t ++ end_text b.drawing (record { counts = b.counts; clock = b.clock; ended = b.ended; waits = w; events = events })) begun.text
    ∙ ap (λ (d : Picture). written s h ++ end_text d (record { counts = b.counts; clock = b.clock; ended = b.ended; waits = w; events = events })) begun.drawing
    ∙ ap (λ (c : List Counts). written s h ++ end_text (drawn s h) (record { counts = c; clock = b.clock; ended = b.ended; waits = w; events = events })) begun.counts
    ∙ ap (λ (t : ℕ). written s h ++ end_text (drawn s h) (record { counts = all_counts s h; clock = t; ended = b.ended; waits = w; events = events })) begun.clock
    ∙ ap (λ (y : Option Waits). written s h ++ end_text (drawn s h) (record { counts = all_counts s h; clock = clock h; ended = b.ended; waits = y; events = events })) explains
    ∙ sym (page_parts s h (record { counts = all_counts s h; clock = clock h; ended = b.ended; waits = explanation_of s h; events = events }))

-- ---- the page of an agreed trace

pub agreed_page : (s : Scenario) (a : Agreed) (slice seen : List Entry) (w : Option Waits) (events : List Delivery) (old text : List ℕ)
    → slice ≡ a.history → seen ≡ a.history → old ≡ [] → Explains s slice a.ended w → events ≡ []
    → text ≡ old ++ page s (reverse seen) (record { counts = a.counts; clock = a.clock; ended = a.ended; waits = w; events = events })
    → (trace : List ℕ) (is : IsAgreed s trace a) → text ≡ page_of s is.text.history a.ended []
unfolding page_of
agreed_page s a slice seen w events old text is_slice is_seen empty explains none writes trace is =
    let h : List Entry = is.text.history in
    let told : reverse slice ≡ h = ap (λ (es : List Entry). reverse es) is_slice ∙ is.history in
    let lawful : legal s (reverse slice) = subst (λ (y : List Entry). legal s y) (sym told) is.text.lawful in
    let ends : ended_as s (reverse slice) ≡ Some a.ended = ap (λ (y : List Entry). ended_as s y) told ∙ is.ended in
    let shown : reverse seen ≡ h = ap (λ (es : List Entry). reverse es) is_seen ∙ is.history in
    let waits : w ≡ explanation_of s h = explains lawful ends ∙ ap (λ (y : List Entry). explanation_of s y) told in
    writes
    ∙ ap (λ (t : List ℕ). t ++ page s (reverse seen) (record { counts = a.counts; clock = a.clock; ended = a.ended; waits = w; events = events })) empty
    ∙ ap (λ (y : List Entry). page s y (record { counts = a.counts; clock = a.clock; ended = a.ended; waits = w; events = events })) shown
    ∙ ap (λ (c : List Counts). page s h (record { counts = c; clock = a.clock; ended = a.ended; waits = w; events = events })) is.counts
    ∙ ap (λ (t : ℕ). page s h (record { counts = all_counts s h; clock = t; ended = a.ended; waits = w; events = events })) is.clock
    ∙ ap (λ (y : Option Waits). page s h (record { counts = all_counts s h; clock = clock h; ended = a.ended; waits = y; events = events })) waits
    ∙ ap (λ (ds : List Delivery). page s h (record { counts = all_counts s h; clock = clock h; ended = a.ended; waits = explanation_of s h; events = ds })) none

-- ---- the events of the one history

within : (s : Scenario) (h : List Entry) → is_some (ended_as s h) ≡ true → length h ≤ limit s
within s h e =
    elim (nat_le (length h) (limit s)) as (λ b. nat_le (length h) (limit s) ≡ b → is_some (cond b (ended_by s (sight s h) (length h)) None) ≡ true → length h ≤ limit s) [
      | true ↦ λ z p. grind (arith, common_steps, z)
      | false ↦ λ z p. cc
    ] refl e

limit_few : (s : Scenario) → limit s ≤ 1_000_000
limit_few s = elim (s.version == 2) as (λ b. cond b 1_000_000 200_000 ≤ 1_000_000) [ true ↦ omega arith | false ↦ omega arith ]

below : (n m : ℕ) → n ≤ m → m ≤ 1_000_000 → n < 2 ^ 63
below n m p q = omega (arith, p, q)

-- What is answered for entries that are looked at.
abbrev pub Delivers : Scenario → List Entry → List Delivery → Type 0
Delivers s entries events =
    Formed s → legal s (reverse entries) → length (reverse entries) < 2 ^ 63 → AreDeliveries s (reverse entries) events

-- The events of the entries that were kept are those of the one history.
pub delivered_at : (s seen : Scenario) (entries slice : List Entry) (events : List Delivery) → seen ≡ s → slice ≡ entries → Formed s
    → reverse entries ≡ scheduled s → Delivers seen slice events → AreDeliveries s (scheduled s) events
delivered_at s seen entries slice events is_seen is_slice f whole delivers =
    let own : Delivers s entries events =
    subst (λ (y : Scenario). Delivers y entries events) is_seen (subst (λ (es : List Entry). Delivers seen es events) is_slice delivers) in
    let small : length (scheduled s) < 2 ^ 63 = below (length (scheduled s)) (limit s) (within s (scheduled s) (legal-end s).1) (limit_few s) in
    subst (λ (h : List Entry). AreDeliveries s h events) whole
    (own f (subst (λ (h : List Entry). legal s h) (sym whole) (legal-end s).0)
    (subst (λ (h : List Entry). length h < 2 ^ 63) (sym whole) small))
