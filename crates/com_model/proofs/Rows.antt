-- A state that stands for a history stands for the longer one after a deed: the parts of objects and calls.
use Rattle.std.proofs.Common.{sym, ap, ap₂, ◌∙◌, eqb-true, arith}
use Rattle.std.proofs.lemmas.Bool.{false_from_ne_true}
use Rattle.std.specs.Prelude.{◌≡◌, refl, ℕ, suc, ◌+◌, ◌≤◌, Bool, true, false, cond, ◌||◌, ◌&&◌, ◌==◌, nat_lt, pos, negsuc, List, ◌∷◌, length, Option, Some, None, is_some, is_none}
use Rattle.com_model.specs.declared.deeds.Deed.{Deed}
use Rattle.com_model.specs.declared.deeds.Deed.TheVariants as deed
use Rattle.com_model.specs.declared.deeds.Entry.{Entry}
use Rattle.com_model.specs.declared.deeds.Route.TheVariants as route
use Rattle.com_model.specs.declared.scenario.Scenario.{Scenario}
use Rattle.com_refs_books.specs.Counting.{count_if}
use Rattle.com_model.specs.Lists.{from_one, is_number}
use Rattle.com_model.specs.Openers.{Opener, openers, running_call}
use Rattle.com_model.specs.Objects.{Making, makes, made_or, one_more, objects, finals}
use Rattle.com_model.specs.Calls.{Issue, issues, admits, leaves, returns, issue_or, admission_or, leaving_or, admitted, left, returned, calls}
use Rattle.com_model.specs.Clock.{clock, time_or}
use Rattle.com_model.specs.Waiting.{Unposted, Posts, Delays, post_effect, phase_after, phase, posted_last, postings}
use Rattle.com_model.specs.Rules.{legal}
use Rattle.com_model.specs.Sight.{Sight, sight}
use Rattle.com_model.specs.State.{State, LanesStand, ObjectsStand, CallsStand, grown}
use Rattle.com_model.proofs.Comes.{Comes, sort_of, next-comes}
use Rattle.com_model.proofs.Onces.{call_named, Names, InRange, names-all, named-in-range}
use Rattle.com_model.proofs.Stands.{member-last}
use Rattle.com_model.proofs.Tabled.{Outside, at_zero, above, length-grown, length-each, table-after, last-row}
use Rattle.com_model.proofs.Rowed.{after_rowed}

-- ---- a call that an entry names is none of the numbers outside

abbrev pub Apart : ℕ → ℕ → Type 0
Apart c k = ((k == c) ≡ false) × ((c == k) ≡ false)

no-match : (n c k : ℕ) → Outside n c → InRange n k → k ≡ c → ⊥
no-match n c k (at_zero z) r e = let p : 1 ≤ k = r.0 in omega (arith, z, p, e)
no-match n c k (above z) r e = let p : k ≤ n = r.1 in omega (arith, z, p, e)

pub apart-of : (n c k : ℕ) → Outside n c → InRange n k → Apart c k
apart-of n c k o r = (false_from_ne_true (k == c) (λ q. no-match n c k o r (eqb-true k c q)), false_from_ne_true (c == k) (λ q. no-match n c k o r (sym (eqb-true c k q))))

cond-off : {X : Type 0} (b : Bool) (x y : X) → b ≡ false → cond b x y ≡ y
cond-off b x y e = ap (λ (t : Bool). cond t x y) e

admission-none : (l : ℕ) (d : Deed) (c : ℕ) → Names (Apart c) (call_named d) → admission_or (admits l d) c None ≡ None
admission-none l (deed.Enter k o a t vs) c p = cond-off (k == c) (Some (record { call = k; lane = l; apartment = a })) None p.0
admission-none l _ c p = refl

leaving-none : (d : Deed) (c : ℕ) → Names (Apart c) (call_named d) → leaving_or (leaves d) c None ≡ None
leaving-none (deed.Leave k hr x bytes) c p = cond-off (k == c) (Some (record { call = k; hr = hr; value = x })) None p.0
leaving-none _ c p = refl

returned-none : (d : Deed) (c : ℕ) → Names (Apart c) (call_named d) → (is_number c (returns d) || false) ≡ false
returned-none (deed.Back k hr x) c p = ap (λ (b : Bool). b || false) p.1
returned-none _ c p = refl

retry-none : (b : Bool) (k n t c : ℕ) → (k == c) ≡ false → phase_after (cond b (Posts k) (Delays k n)) t c Unposted ≡ Unposted
retry-none true k n t c e = cond-off (k == c) _ Unposted e
retry-none false k n t c e = cond-off (k == c) _ Unposted e

phase-none : (d : Deed) (t c : ℕ) → Names (Apart c) (call_named d) → phase_after (post_effect d) t c Unposted ≡ Unposted
phase-none (deed.Out k o i m route.Post cause bytes) t c p = cond-off (k == c) _ Unposted p.0
phase-none (deed.Out k o i m route.Direct cause bytes) t c p = refl
phase-none (deed.Out k o i m route.Switch cause bytes) t c p = refl
phase-none (deed.Out k o i m route.Refused cause bytes) t c p = refl
phase-none (deed.Again k) t c p = cond-off (k == c) _ Unposted p.0
phase-none (deed.Verdict k y v) t c p = cond-off (k == c) _ Unposted p.0
phase-none (deed.Retry k (pos n)) t c p = retry-none (nat_lt n 100) k n t c p.0
phase-none (deed.Retry k (negsuc n)) t c p = cond-off (k == c) _ Unposted p.0
phase-none _ t c p = refl

-- ---- rows of a new call or object

issue-row : (l : ℕ) (d : Deed) (xs : List (Option Issue)) (c : ℕ) (s : Scenario) (v : Sight) (ps : List ℕ) (os : List Opener) → v.calls ≡ length xs → Comes s v ps os (sort_of d) → from_one (grown (is_some (issues l d)) (issues l d) xs) c None ≡ issue_or (issues l d) c (from_one xs c None)
issue-row l (deed.Out k o i m r cause bytes) xs c s v ps os n z = last-row xs c k _ None (z ∙ ap (λ (x : ℕ). x + 1) n)
issue-row l _ xs c s v ps os n z = refl

time-row : (l : ℕ) (d : Deed) (xs : List ℕ) (now c : ℕ) (s : Scenario) (v : Sight) (ps : List ℕ) (os : List Opener) → v.calls ≡ length xs → Comes s v ps os (sort_of d) → from_one (grown (is_some (issues l d)) now xs) c 0 ≡ time_or (issues l d) c now (from_one xs c 0)
time-row l (deed.Out k o i m r cause bytes) xs now c s v ps os n z = last-row xs c k now 0 (z ∙ ap (λ (x : ℕ). x + 1) n)
time-row l _ xs now c s v ps os n z = refl

making-row : (d : Deed) (xs : List (Option Making)) (o : ℕ) (s : Scenario) (v : Sight) (ps : List ℕ) (os : List Opener) → v.objects ≡ length xs → Comes s v ps os (sort_of d) → from_one (grown (is_some (makes d)) (makes d) xs) o None ≡ made_or (makes d) o (from_one xs o None)
making-row (deed.Made (Some k) (Some a) class iface hr) xs o s v ps os n z = last-row xs o k _ None (z ∙ ap (λ (x : ℕ). x + 1) n)
making-row (deed.Made (Some k) None class iface hr) xs o s v ps os n z = refl
making-row (deed.Made None a class iface hr) xs o s v ps os n z = refl
making-row _ xs o s v ps os n z = refl

one-more : (x : Option Making) (n : ℕ) → count_if (is_some x) + n ≡ one_more x n
one-more None n = omega arith
one-more (Some m) n = omega arith

-- ---- the parts

pub objects-after : (s : Scenario) (st : State) (h : List Entry) (l : ℕ) (d : Deed) → legal s (record { lane = l; deed = d } ∷ h) → ObjectsStand st h → ObjectsStand (after_rowed s st l d) (record { lane = l; deed = d } ∷ h)
objects-after s st h l d q p =
    record {
      number = length-grown (is_some (makes d)) (makes d) st.makings ∙ ap (λ (n : ℕ). count_if (is_some (makes d)) + n) p.number ∙ one-more (makes d) (objects h);
      makings = λ o. making-row d st.makings o s (sight s h) (postings h) (openers h l) (sym p.number) (next-comes s h l d q.1) ∙ ap (made_or (makes d) o) (p.makings o);
      finaled = λ o. member-last o st.finaled (finals d) ∙ ap (λ (b : Bool). is_number o (finals d) || b) (p.finaled o);
    }

pub calls-after : (s : Scenario) (st : State) (h : List Entry) (l : ℕ) (d : Deed) → legal s (record { lane = l; deed = d } ∷ h) → LanesStand s st h → st.clock ≡ clock h → CallsStand st h → CallsStand (after_rowed s st l d) (record { lane = l; deed = d } ∷ h)
calls-after s st h l d q stand time p =
    let e : Entry = record { lane = l; deed = d } in
    let b : Bool = is_some (issues l d) in
    let z : Comes s (sight s h) (postings h) (openers h l) (sort_of d) = next-comes s h l d q.1 in
    let r : (c : ℕ) → Outside (count_if b + calls h) c → Names (Apart c) (call_named d) = λ c o. names-all (InRange (calls (e ∷ h))) (Apart c) (λ k. apart-of (calls (e ∷ h)) c k o) (call_named d) (named-in-range s h e q) in
    record {
      number = length-grown b (issues l d) st.issues ∙ ap (λ (n : ℕ). count_if b + n) p.number;
      rows = (
        length-each _ 1 (grown b None st.admissions) ∙ length-grown b None st.admissions ∙ ap (λ (n : ℕ). count_if b + n) p.rows.0,
        length-each _ 1 (grown b None st.leavings) ∙ length-grown b None st.leavings ∙ ap (λ (n : ℕ). count_if b + n) p.rows.1,
        length-each _ 1 (grown b false st.returned) ∙ length-grown b false st.returned ∙ ap (λ (n : ℕ). count_if b + n) p.rows.2,
        length-each _ 1 (grown b Unposted st.phases) ∙ length-grown b Unposted st.phases ∙ ap (λ (n : ℕ). count_if b + n) p.rows.3,
        length-grown b st.clock st.times ∙ ap (λ (n : ℕ). count_if b + n) p.rows.4,
      );
      issues = λ c. issue-row l d st.issues c s (sight s h) (postings h) (openers h l) (sym p.number) z ∙ ap (issue_or (issues l d) c) (p.issues c);
      admissions = table-after (λ c x. admission_or (admits l d) c x) st.admissions b None (admitted h) (calls h) p.rows.0 p.admissions (λ c o. admission-none l d c (r c o));
      leavings = table-after (λ c x. leaving_or (leaves d) c x) st.leavings b None (left h) (calls h) p.rows.1 p.leavings (λ c o. leaving-none d c (r c o));
      returned = table-after (λ c x. is_number c (returns d) || x) st.returned b false (returned h) (calls h) p.rows.2 p.returned (λ c o. returned-none d c (r c o));
      phases = λ c. table-after (λ c x. phase_after (post_effect d) st.clock c x) st.phases b Unposted (phase h) (calls h) p.rows.3 p.phases (λ c o. phase-none d st.clock c (r c o)) c ∙ ap (λ (t : ℕ). phase_after (post_effect d) t c (phase h c)) time;
      times = λ c. time-row l d st.times st.clock c s (sight s h) (postings h) (openers h l) (sym p.rows.4) z ∙ ap₂ (λ (t x : ℕ). time_or (issues l d) c t x) time (p.times c);
      postings = ap (posted_last (post_effect d)) p.postings;
      causes = ap₂ (λ (os : List Opener) (n : ℕ). count_if (b && is_none (running_call os)) + n) (stand.openers l) p.causes;
    }

pub entries-after : (s : Scenario) (st : State) (h : List Entry) (l : ℕ) (d : Deed) → st.entries ≡ length h → (after_rowed s st l d).entries ≡ length (record { lane = l; deed = d } ∷ h)
entries-after s st h l d p = let e : st.entries + 1 ≡ suc (length h) = omega (arith, p) in e
