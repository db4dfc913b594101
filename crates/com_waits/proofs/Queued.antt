-- A posted call that stands on top of a lane of a stuck history stands in the inbox of its target's apartment.
use Rattle.std.proofs.Common.{subst, sym, ap, ◌∙◌, inl, eqb-true, arith}
use Rattle.std.proofs.lemmas.Grind.{common_steps}
use Rattle.std.specs.Prelude.{◌≡◌, refl, ℕ, zero, suc, ◌+◌, pos, negsuc, ◌≤◌, Bool, true, false, cond, not, ◌==◌, ◌&&◌, ◌||◌, nat_le, nat_lt, List, [], ◌∷◌, ◌++◌, Option, Some, None, filter, filter_map, is_none, is_some}
use Rattle.std.specs.List.{cons_option}
use Rattle.std.proofs.lemmas.Bool.{false_from_ne_true}
use Rattle.std.proofs.lemmas.List.Elements.{filter_map-append}
use Rattle.com_model.specs.declared.deeds.Deed.{Deed}
use Rattle.com_model.specs.declared.deeds.Deed.TheVariants as deed
use Rattle.com_model.specs.declared.deeds.Entry.{Entry}
use Rattle.com_model.specs.declared.deeds.Route.TheVariants as route
use Rattle.com_model.specs.declared.keeps.Admission.{Admission}
use Rattle.com_model.specs.declared.keeps.Ending.{Ending}
use Rattle.com_model.specs.declared.keeps.Ending.TheVariants.{ByRetry}
use Rattle.com_model.specs.declared.keeps.Issue.{Issue}
use Rattle.com_model.specs.declared.keeps.Opener.{Opener}
use Rattle.com_model.specs.declared.keeps.Opener.TheVariants.{Waits}
use Rattle.com_model.specs.declared.keeps.Phase.{Phase}
use Rattle.com_model.specs.declared.keeps.Phase.TheVariants.{Unposted, Queued, Judged, Delayed, GivenUp}
use Rattle.com_model.specs.declared.scenario.Scenario.{Scenario}
use Rattle.com_model.specs.Lists.{or_else, where_true, is_member, least, lesser, one_to}
use Rattle.com_model.specs.Openers.{openers}
use Rattle.com_model.specs.Objects.{named}
use Rattle.com_model.specs.Calls.{admitted, calls, issue, issue_or, issues, is_post, route_of, target}
use Rattle.com_model.specs.Clock.{clock}
use Rattle.com_model.specs.Endings.{can_be_cut, end_effect, ending, ends, filtered}
use Rattle.com_model.specs.Waiting.{PostEffect, Posts, Judges, Delays, GivesUp, PostsNone, inbox, is_queued, phase, phase_after, post_effect, posted_last, postings, waits_in}
use Rattle.com_model.specs.Formed.{Formed}
use Rattle.com_model.specs.Sight.{sight}
use Rattle.com_model.specs.Rules.{legal, posted_again, retried, time_of, time_waited}
use Rattle.com_laws_safety.proofs.Small.{and-both, and-left, cond-when, not-both, same-number}
use Rattle.com_laws_safety.proofs.Posted.{NewOut, next-new}
use Rattle.com_laws_balance.proofs.Counts.{Among}
use Rattle.com_laws_balance.proofs.Directs.{waits-issued}
use Rattle.com_waits.proofs.Stills.{NoRule, Still}
use Rattle.com_waits.proofs.Tops.{is-posted, not-answered, own-rule}

-- ---- a call of route post was posted

abbrev Posted : Phase → Type 0
Posted Unposted = ⊥
Posted Queued = Unit {0}
Posted (Judged v) = Unit {0}
Posted (Delayed t) = Unit {0}
Posted GivenUp = Unit {0}

keeps-posted : (x : PostEffect) (t c : ℕ) (p : Phase) → Posted p → Posted (phase_after x t c p)
keeps-posted (Posts d) t c p q = cond-when Posted (d == c) Queued p (λ _. tt) (λ _. q)
keeps-posted (Judges d v) t c p q = cond-when Posted (d == c) (Judged v) p (λ _. tt) (λ _. q)
keeps-posted (Delays d ms) t c p q = cond-when Posted (d == c) (Delayed (t + ms)) p (λ _. tt) (λ _. q)
keeps-posted (GivesUp d) t c p q = cond-when Posted (d == c) GivenUp p (λ _. tt) (λ _. q)
keeps-posted PostsNone t c p q = q

other-route : (b : Bool) (i : Issue) (x : Option Issue) (p : Phase) → is_post i.route ≡ false → (is_post (route_of x) ≡ true → Posted p) → is_post (route_of (cond b (Some i) x)) ≡ true → Posted p
other-route true i x p n f q = absurd (not-both (is_post i.route) q n)
other-route false i x p n f q = f q

by-post : (b : Bool) (i : Issue) (x : Option Issue) (p : Phase) → (is_post (route_of x) ≡ true → Posted p) → is_post (route_of (cond b (Some i) x)) ≡ true → Posted (cond b Queued p)
by-post true i x p f q = tt
by-post false i x p f q = f q

posted-step : (l c t : ℕ) (d : Deed) (x : Option Issue) (p : Phase) → (is_post (route_of x) ≡ true → Posted p) → is_post (route_of (issue_or (issues l d) c x)) ≡ true → Posted (phase_after (post_effect d) t c p)
posted-step l c t (deed.Out k o i m route.Post a bytes) x p f q = by-post (k == c) (record { call = k; lane = l; object = o; iface = i; method = m; route = route.Post; cause = a }) x p f q
posted-step l c t (deed.Out k o i m route.Direct a bytes) x p f q = other-route (k == c) (record { call = k; lane = l; object = o; iface = i; method = m; route = route.Direct; cause = a }) x p refl f q
posted-step l c t (deed.Out k o i m route.Switch a bytes) x p f q = other-route (k == c) (record { call = k; lane = l; object = o; iface = i; method = m; route = route.Switch; cause = a }) x p refl f q
posted-step l c t (deed.Out k o i m route.Refused a bytes) x p f q = other-route (k == c) (record { call = k; lane = l; object = o; iface = i; method = m; route = route.Refused; cause = a }) x p refl f q
posted-step l c t d x p f q = keeps-posted (post_effect d) t c p (f q)

posted-phase : (h : List Entry) (c : ℕ) → is_post (route_of (issue h c)) ≡ true → Posted (phase h c)
posted-phase [] c q = cc
posted-phase (e ∷ h) c q = posted-step e.lane c (clock h) e.deed (issue h c) (phase h c) (posted-phase h c) q

-- ---- a call that was given up has its answer

abbrev Fixed : Phase → Option Ending → Type 0
Fixed Unposted x = Unit {0}
Fixed Queued x = Unit {0}
Fixed (Judged v) x = Unit {0}
Fixed (Delayed t) x = Unit {0}
Fixed GivenUp x = is_some x ≡ true

some-later : (x y : Option Ending) → is_some x ≡ true → is_some (or_else x y) ≡ true
some-later None y e = cc
some-later (Some z) y e = refl

fixed-later : (p : Phase) (x y : Option Ending) → Fixed p x → Fixed p (or_else x y)
fixed-later Unposted x y q = tt
fixed-later Queued x y q = tt
fixed-later (Judged v) x y q = tt
fixed-later (Delayed t) x y q = tt
fixed-later GivenUp x y q = some-later x y q

fixed-cond : (b : Bool) (r p : Phase) (x : Option Ending) → Fixed r x → Fixed p x → Fixed (cond b r p) x
fixed-cond true r p x f q = f
fixed-cond false r p x f q = q

given-up : (b : Bool) (p : Phase) (x : Option Ending) → Fixed p x → Fixed (cond b GivenUp p) (or_else x (where_true b ByRetry))
given-up true p None q = refl
given-up true p (Some y) q = refl
given-up false p x q = fixed-later p x None q

retry-fixed : (b : Bool) (k c t ms : ℕ) (p : Phase) (x : Option Ending) → Fixed p x → Fixed (phase_after (cond b (Posts k) (Delays k ms)) t c p) x
retry-fixed true k c t ms p x q = fixed-cond (k == c) Queued p x tt q
retry-fixed false k c t ms p x q = fixed-cond (k == c) (Delayed (t + ms)) p x tt q

fixed-step : (f : ℕ → Bool) (d : Deed) (t c o a : ℕ) (cut : Bool) (p : Phase) (x : Option Ending) → Fixed p x → Fixed (phase_after (post_effect d) t c p) (or_else x (ends (end_effect f d) c o a cut))
fixed-step f (deed.Out k u i m route.Post z bytes) t c o a cut p x q = fixed-cond (k == c) Queued p (or_else x None) tt (fixed-later p x None q)
fixed-step f (deed.Again k) t c o a cut p x q = fixed-cond (k == c) Queued p (or_else x None) tt (fixed-later p x None q)
fixed-step f (deed.Retry k (negsuc n)) t c o a cut p x q = given-up (k == c) p x q
fixed-step f (deed.Retry k (pos n)) t c o a cut p x q = retry-fixed (nat_lt n 100) k c t n p (or_else x None) (fixed-later p x None q)
fixed-step f (deed.Verdict k r v) t c o a cut p x q = fixed-cond (k == c) (Judged v) p (or_else x (ends (end_effect f (deed.Verdict k r v)) c o a cut)) tt (fixed-later p x (ends (end_effect f (deed.Verdict k r v)) c o a cut) q)
fixed-step f d t c o a cut p x q = fixed-later p x (ends (end_effect f d) c o a cut) q

fixed-phase : (s : Scenario) (h : List Entry) (c : ℕ) → Fixed (phase h c) (ending s h c)
fixed-phase s [] c = tt
fixed-phase s (e ∷ h) c = fixed-step (filtered s h) e.deed (clock h) c (target h c) (named h (target h c)) (can_be_cut (issue h c) (admitted h c)) (phase h c) (ending s h c) (fixed-phase s h c)

-- ---- what is queued stands among the postings

or-first : (p q : Bool) → p ≡ true → (p || q) ≡ true
or-first true q e = refl
or-first false q e = cc

or-last : (p q : Bool) → q ≡ true → (p || q) ≡ true
or-last true q e = refl
or-last false q e = e

member-front : (c : ℕ) (xs ys : List ℕ) → is_member c xs ≡ true → is_member c (xs ++ ys) ≡ true
member-front c [] ys e = cc
member-front c (x ∷ xs) ys e =
    elim (c == x) as (λ b. (b || is_member c xs) ≡ true → (b || is_member c (xs ++ ys)) ≡ true) [
      | true ↦ λ z. refl
      | false ↦ λ z. member-front c xs ys z
    ] e

member-end : (c : ℕ) (xs : List ℕ) → is_member c (xs ++ c ∷ []) ≡ true
member-end c [] = or-first (c == c) false (same-number c)
member-end c (x ∷ xs) = or-last (c == x) (is_member c (xs ++ c ∷ [])) (member-end c xs)

-- A number that passes the test stays.
member-passes : (test : ℕ → Bool) (c : ℕ) (xs : List ℕ) → test c ≡ true → is_member c xs ≡ true → is_member c (filter test xs) ≡ true
member-passes test c [] t e = e
member-passes test c (x ∷ xs) t e =
    elim (c == x) as (λ b. (c == x) ≡ b → (b || is_member c xs) ≡ true → is_member c (cond (test x) (x ∷ filter test xs) (filter test xs)) ≡ true) [
      | true ↦ λ z y.
          let same : c ≡ x = eqb-true c x z in
          subst (λ (b : Bool). is_member c (cond b (x ∷ filter test xs) (filter test xs)) ≡ true) (sym (subst (λ (k : ℕ). test k ≡ true) same t)) (or-first (c == x) (is_member c (filter test xs)) z)
      | false ↦ λ z y. kept (test x) (member-passes test c xs t y)
    ] refl e
  where
    kept : (b : Bool) → is_member c (filter test xs) ≡ true → is_member c (cond b (x ∷ filter test xs) (filter test xs)) ≡ true
    kept true m = or-last (c == x) (is_member c (filter test xs)) m
    kept false m = m

queued-other : (b : Bool) (r p : Phase) (c : ℕ) (cs : List ℕ) → is_queued r ≡ false → (is_queued p ≡ true → is_member c cs ≡ true) → is_queued (cond b r p) ≡ true → is_member c cs ≡ true
queued-other true r p c cs n f q = absurd (not-both (is_queued r) q n)
queued-other false r p c cs n f q = f q

posts-member : (b : Bool) (d c : ℕ) (p : Phase) (cs : List ℕ) → (d == c) ≡ b → (is_queued p ≡ true → is_member c cs ≡ true) → is_queued (cond b Queued p) ≡ true → is_member c (filter (λ k. not (k == d)) cs ++ d ∷ []) ≡ true
posts-member true d c p cs z f q = subst (λ (k : ℕ). is_member k (filter (λ j. not (j == d)) cs ++ d ∷ []) ≡ true) (eqb-true d c z) (member-end d (filter (λ j. not (j == d)) cs))
posts-member false d c p cs z f q =
    let other : (c == d) ≡ false = false_from_ne_true (c == d) (λ y. not-both (d == c) (subst (λ (k : ℕ). (d == k) ≡ true) (sym (eqb-true c d y)) (same-number d)) z) in
    member-front c (filter (λ k. not (k == d)) cs) (d ∷ []) (member-passes (λ k. not (k == d)) c cs (ap not other) (f q))

queued-step : (x : PostEffect) (t c : ℕ) (p : Phase) (cs : List ℕ) → (is_queued p ≡ true → is_member c cs ≡ true) → is_queued (phase_after x t c p) ≡ true → is_member c (posted_last x cs) ≡ true
queued-step (Posts d) t c p cs f q = posts-member (d == c) d c p cs refl f q
queued-step (Judges d v) t c p cs f q = queued-other (d == c) (Judged v) p c cs refl f q
queued-step (Delays d ms) t c p cs f q = queued-other (d == c) (Delayed (t + ms)) p c cs refl f q
queued-step (GivesUp d) t c p cs f q = queued-other (d == c) GivenUp p c cs refl f q
queued-step PostsNone t c p cs f q = f q

queued-member : (h : List Entry) (c : ℕ) → is_queued (phase h c) ≡ true → is_member c (postings h) ≡ true
queued-member [] c q = cc
queued-member (e ∷ h) c q = queued-step (post_effect e.deed) (clock h) c (phase h c) (postings h) (queued-member h c) q

-- ---- no time is waited for

least-none : (xs : List ℕ) → least xs ≡ None → xs ≡ []
least-none [] e = refl
least-none (x ∷ xs) e = absurd (not-lesser (least xs) e)
  where
    not-lesser : (y : Option ℕ) → lesser x y ≡ None → ⊥
    not-lesser None e = cc
    not-lesser (Some z) e = cc

both-empty : (xs ys : List ℕ) → xs ++ ys ≡ [] → (xs ≡ []) × (ys ≡ [])
both-empty [] ys e = (refl, e)
both-empty (x ∷ xs) ys e = cc

no-option : (x : Option ℕ) → cons_option x [] ≡ [] → x ≡ None
no-option None e = refl
no-option (Some k) e = cc

none-mapped : (f : ℕ → Option ℕ) (y : ℕ) → filter_map f (y ∷ []) ≡ [] → f y ≡ None
none-mapped f y e = no-option (f y) e

none-timed : (f : ℕ → Option ℕ) (n c : ℕ) → filter_map f (one_to n) ≡ [] → 1 ≤ c → c ≤ n → f c ≡ None
none-timed f zero c e p q = absurd (omega (arith, p, q))
none-timed f (suc n) c e p q =
    let r : (filter_map f (one_to n) ≡ []) × (filter_map f (suc n ∷ []) ≡ []) = both-empty (filter_map f (one_to n)) (filter_map f (suc n ∷ [])) (sym (filter_map-append f (one_to n) (suc n ∷ [])) ∙ e) in
    elim (nat_le c n) as (λ t. nat_le c n ≡ t → f c ≡ None) [
      | true ↦ λ z. none-timed f n c r.0 p (grind (arith, common_steps, z))
      | false ↦ λ z. let same : c ≡ suc n = grind (arith, common_steps, z, q) in ap f same ∙ none-mapped f (suc n) r.1
    ] refl

-- Calls are numbered from 1.
zero-step : (l n : ℕ) (d : Deed) (x : Option Issue) → NewOut n d → x ≡ None → issue_or (issues l d) 0 x ≡ None
zero-step l n (deed.Out k o i m r a bytes) x p e =
    let z : (k == 0) ≡ false = false_from_ne_true (k == 0) (λ y. let w : k ≡ 0 = eqb-true k 0 y in omega (arith, w, p)) in
    ap (λ (b : Bool). cond b (Some (record { call = k; lane = l; object = o; iface = i; method = m; route = r; cause = a })) x) z ∙ e
zero-step l n _ x p e = e

none-zero : (s : Scenario) (h : List Entry) → legal s h → issue h 0 ≡ None
none-zero s [] p = refl
none-zero s (e ∷ h) p = zero-step e.lane (calls h) e.deed (issue h 0) (next-new s h e.lane e.deed p.1) (none-zero s h p.0)

posted-number : (s : Scenario) (h : List Entry) (c : ℕ) → legal s h → is_post (route_of (issue h c)) ≡ true → 1 ≤ c
posted-number s h zero p q = absurd (not-both (is_post (route_of (issue h 0))) q (ap (λ (x : Option Issue). is_post (route_of x)) (none-zero s h p)))
posted-number s h (suc c) p q = omega arith

-- ---- the phase of a call on top

where-nat : {X : Type 0} (b : Bool) (x : X) → where_true b x ≡ None → b ≡ false
where-nat true x e = cc
where-nat false x e = refl

late : (t n : ℕ) → nat_le t n ≡ false → nat_lt n t ≡ true
late t n e = grind (arith, common_steps, e)

pub is-queued : (s : Scenario) (h : List Entry) (l c : ℕ) (os : List Opener) → Formed s → legal s h → Still s h → openers h l ≡ Waits c ∷ os → NoRule s (sight s h) l → is_queued (phase h c) ≡ true
is-queued s h l c os f p t e r = by-phase (phase h c) refl
  where
    post : is_post (route_of (issue h c)) ≡ true
    post = is-posted s h l c os f p e r

    none : ending s h c ≡ None
    none = not-answered s h l c os e r

    none-time : time_of (sight s h) c ≡ None
    none-time =
        none-timed (time_of (sight s h)) (calls h) c (least-none (filter_map (time_of (sight s h)) (one_to (calls h))) t.clock) (posted-number s h c p post)
        (waits-issued s h l c p (subst (λ (ys : List Opener). Among (Waits c) ys) (sym e) (inl refl))).0

    by-phase : (x : Phase) → phase h c ≡ x → is_queued (phase h c) ≡ true
    by-phase Queued z = ap is_queued z
    by-phase Unposted z = absurd (subst Posted z (posted-phase h c post))
    by-phase GivenUp z = absurd (none-fixed (ending s h c) none (subst (λ (y : Phase). Fixed y (ending s h c)) z (fixed-phase s h c)))
      where
        none-fixed : (y : Option Ending) → y ≡ None → is_some y ≡ true → ⊥
        none-fixed None q w = cc
        none-fixed (Some k) q w = cc
    by-phase (Judged v) z = absurd (none-retried (subst (λ (y : Phase). retried s (sight s h) l c y ≡ None) z (own-rule (λ (k : ℕ). retried s (sight s h) l k ((sight s h).phase k)) (openers h l) c os e r.retry)))
      where
        none-retried : retried s (sight s h) l c (Judged v) ≡ None → ⊥
        none-retried q = cc
    by-phase (Delayed n) z =
        let past : nat_le n (clock h) ≡ false = where-nat (nat_le n (clock h)) (deed.Again c) (subst (λ (y : Phase). posted_again (sight s h) c y ≡ None) z (own-rule (λ (k : ℕ). posted_again (sight s h) k ((sight s h).phase k)) (openers h l) c os e r.again)) in
        let time : where_true (nat_lt (clock h) n) n ≡ None = subst (λ (y : Option Ending). time_waited (sight s h) (Delayed n) (is_some y) ≡ None) none (subst (λ (y : Phase). time_waited (sight s h) y (is_some (ending s h c)) ≡ None) z none-time) in
        absurd (not-both (nat_lt (clock h) n) (late n (clock h) past) (where-nat (nat_lt (clock h) n) n time))

none-admission : (x : Option Admission) → x ≡ None → is_none x ≡ true
none-admission None e = refl
none-admission (Some y) e = cc

none-ending : (x : Option Ending) → x ≡ None → is_none x ≡ true
none-ending None e = refl
none-ending (Some y) e = cc

-- It stands in the inbox of its target's apartment.
pub in-inbox : (s : Scenario) (h : List Entry) (l c : ℕ) (os : List Opener) → Formed s → legal s h → Still s h → openers h l ≡ Waits c ∷ os → NoRule s (sight s h) l → admitted h c ≡ None → is_member c (inbox s h (named h (target h c))) ≡ true
in-inbox s h l c os f p t e r n =
    let q : is_queued (phase h c) ≡ true = is-queued s h l c os f p t e r in
    member-passes (waits_in s h (named h (target h c))) c (postings h)
    (and-both (named h (target h c) == named h (target h c)) (is_queued (phase h c) && (is_none (admitted h c) && is_none (ending s h c))) (same-number (named h (target h c)))
    (and-both (is_queued (phase h c)) (is_none (admitted h c) && is_none (ending s h c)) q (and-both (is_none (admitted h c)) (is_none (ending s h c)) (none-admission (admitted h c) n) (none-ending (ending s h c) (not-answered s h l c os e r)))))
    (queued-member h c q)

-- What passes a filter passes the test.
passed-test : (test : ℕ → Bool) (c : ℕ) (xs : List ℕ) → is_member c (filter test xs) ≡ true → test c ≡ true
passed-test test c [] e = cc
passed-test test c (x ∷ xs) e =
    elim (test x) as (λ b. test x ≡ b → is_member c (cond b (x ∷ filter test xs) (filter test xs)) ≡ true → test c ≡ true) [
      | true ↦ λ z m. elim (c == x) as (λ b. (c == x) ≡ b → (b || is_member c (filter test xs)) ≡ true → test c ≡ true) [
        | true ↦ λ y k. subst (λ (j : ℕ). test j ≡ true) (sym (eqb-true c x y)) z
        | false ↦ λ y k. passed-test test c xs k
      ] refl m
      | false ↦ λ z m. passed-test test c xs m
    ] refl e

-- A member of an inbox is a call to the apartment.
pub inbox-names : (s : Scenario) (h : List Entry) (a c : ℕ) → is_member c (inbox s h a) ≡ true → (named h (target h c) == a) ≡ true
inbox-names s h a c m = and-left (named h (target h c) == a) _ (passed-test (waits_in s h a) c (postings h) m)
