-- A thread that has made its End has no home; and a call of route post is not one to the neutral apartment.
use Rattle.std.proofs.Common.{subst, sym, ap, ◌∙◌, ◌⊎◌, inl, inr, eqb-true, arith}
use Rattle.std.specs.Prelude.{◌≡◌, refl, ℕ, zero, suc, ◌+◌, ◌≤◌, Bool, true, false, not, cond, ◌==◌, ◌&&◌, ◌||◌, nat_le, length, List, [], ◌∷◌, Option, Some, None, option_map}
use Rattle.com_base.specs.declared.hresult.HResult.{HResult}
use Rattle.com_base.specs.declared.value.RefValue.{RefValue}
use Rattle.com_model.specs.declared.deeds.Deed.{Deed}
use Rattle.com_model.specs.declared.deeds.Deed.TheVariants as deed
use Rattle.com_model.specs.declared.deeds.Entry.{Entry}
use Rattle.com_model.specs.declared.deeds.Route.{Route}
use Rattle.com_model.specs.declared.deeds.Route.TheVariants as route
use Rattle.com_model.specs.declared.keeps.Issue.{Issue}
use Rattle.com_model.specs.declared.keeps.Opener.{Opener}
use Rattle.com_model.specs.declared.keeps.Opener.TheVariants.{Pumps, Waits, Enters}
use Rattle.com_model.specs.declared.keeps.Phase.{Phase}
use Rattle.com_model.specs.declared.keeps.Phase.TheVariants.{Unposted, Queued, Judged, Delayed, GivenUp}
use Rattle.com_model.specs.declared.keeps.Word.{Word}
use Rattle.com_model.specs.declared.scenario.Scenario.{Scenario}
use Rattle.com_model.specs.Answers.{S_OK, is_failure, RPC_E_OUT_OF_RESOURCES, RPC_E_SERVER_CANTUNMARSHAL_DATA}
use Rattle.com_model.specs.Lists.{first, is_number, number_or_zero, where_true}
use Rattle.com_model.specs.Tables.{LaneSort, Thread, Host, Pool, NoLane, lane_sort}
use Rattle.com_model.specs.Openers.{openers}
use Rattle.com_model.specs.Apartments.{HomeEffect, Initialises, Uninitialises, Remains, count_after, home_effect, init_count, is_end, neutral, over, next_sta, thread_home}
use Rattle.com_model.specs.Objects.{named}
use Rattle.com_model.specs.Calls.{calls, issue, issue_or, issues, is_post, object_of, route_for, route_of, target}
use Rattle.com_model.specs.Endings.{Answer}
use Rattle.com_model.specs.Formed.{Formed}
use Rattle.com_model.specs.Deeds.{owned_by, route_to, uninitialised}
use Rattle.com_model.specs.Sight.{Sight, sight}
use Rattle.com_model.specs.Waiting.{bound_reached, mark_of, not_asked}
use Rattle.com_model.specs.Rules.{admission, admits_next, answered, arguments_gone, asked_on, call_sort, due_of, enters_itself, is_handled_in, is_script_turn, legal, next, next_by, own_call, packet_left, posted_again, posted_to_sta, pumped, retried, rule_again, rule_answer, rule_bound, rule_final, rule_inbox, rule_own, rule_pending, rule_retry, rule_script, rule_word, ruled, scripted, stepped, takes_word, top, verdict_on}
use Rattle.com_model.specs.Safe.{maker, MadeOnTop}
use Rattle.com_model.proofs.Given.{Given, given-or, given-where, given-map, given-then, cond-of}
use Rattle.com_model.proofs.Kept.{legal-kept}
use Rattle.com_laws_safety.proofs.Small.{and-left, and-right, not-both}
use Rattle.com_laws_safety.proofs.Sources.{Source, by_body, by_script, by_end, by_final, by_own, by_answer, by_inbox, by_retry, by_again, by_rest, IsRest, next-source}
use Rattle.com_laws_safety.proofs.Acted.{ActionSort, action_sort, OfAction, deed-acted}
use Rattle.com_laws_safety.proofs.Facts.{IsRuled, admission-ruled, answered-ruled}
use Rattle.com_laws_safety.proofs.OnTop.{made-on-top}
use Rattle.com_laws_safety.proofs.Threads.{is_homes, source-thread}
use Rattle.com_laws_balance.proofs.Says.{Homed, Says, OutSays, next-says}
use Rattle.com_laws_balance.proofs.Tops.{issue-past}
use Rattle.com_laws_balance.proofs.Steps.{made-or-new}
use Rattle.com_laws_balance.proofs.Makings.{same-named}
use Rattle.com_laws_balance.proofs.Directs.{issue-stays}
use Rattle.com_waits.proofs.Homes.{HomeStep, remains, again, to_mta, makes_one, lowers, leaves, next-home, home-of-own, home-of-other}
use Rattle.com_waits.proofs.Lasting.{none-and-some, either-lane}

-- ---- where a thread has a home, its count is not 0

count-own : (h : List Entry) (e : Entry) (m : ℕ) (x : HomeEffect) → (e.lane == m) ≡ true → home_effect e.deed ≡ x → init_count (e ∷ h) m ≡ count_after x (init_count h m)
count-own h e m x z q = ap (λ (b : Bool). count_after (cond b (home_effect e.deed) Remains) (init_count h m)) z ∙ ap (λ (y : HomeEffect). count_after y (init_count h m)) q

count-other : (h : List Entry) (e : Entry) (m : ℕ) → (e.lane == m) ≡ false → init_count (e ∷ h) m ≡ init_count h m
count-other h e m z = ap (λ (b : Bool). count_after (cond b (home_effect e.deed) Remains) (init_count h m)) z

abbrev Counted : List Entry → ℕ → Type 0
Counted h l = (thread_home h l ≡ None) ⊎ (1 ≤ init_count h l)

counted-other : (h : List Entry) (e : Entry) (l : ℕ) → (e.lane == l) ≡ false → Counted h l → Counted (e ∷ h) l
counted-other h e l z (inl p) = inl (home-of-other h e l z ∙ p)
counted-other h e l z (inr p) = inr (subst (λ (n : ℕ). 1 ≤ n) (sym (count-other h e l z)) p)

raised : (b : Bool) (n : ℕ) → 1 ≤ n → 1 ≤ cond b n (n + 1)
raised true n p = p
raised false n p = omega (arith, p)

ok-raised : (hr : HResult) (n : ℕ) → hr ≡ S_OK → 1 ≤ cond (is_failure hr) n (n + 1)
ok-raised hr n e = subst (λ (x : HResult). 1 ≤ cond (is_failure x) n (n + 1)) (sym e) (omega arith)

counted-own : (h : List Entry) (e : Entry) (l : ℕ) → (e.lane == l) ≡ true → HomeStep h e.lane e.deed → Counted h l → Counted (e ∷ h) l
counted-own h e l y (remains z i k) (inl p) = inl (home-of-own h e l Remains y z ∙ p)
counted-own h e l y (remains z i k) (inr p) = inr (subst (λ (n : ℕ). 1 ≤ n) (sym (count-own h e l Remains y z)) p)
counted-own h e l y (again b hr z w i k) (inl p) = none-and-some b (thread_home h l) p (subst (λ (j : ℕ). thread_home h j ≡ Some b) (eqb-true e.lane l y) w)
counted-own h e l y (again b hr z w i k) (inr p) = inr (subst (λ (n : ℕ). 1 ≤ n) (sym (count-own h e l (Initialises b hr) y z)) (raised (is_failure hr) (init_count h l) p))
counted-own h e l y (to_mta hr z w o i k) c = inr (subst (λ (n : ℕ). 1 ≤ n) (sym (count-own h e l (Initialises 1 hr) y z)) (ok-raised hr (init_count h l) o))
counted-own h e l y (makes_one hr z w o i k) c = inr (subst (λ (n : ℕ). 1 ≤ n) (sym (count-own h e l (Initialises (next_sta h) hr) y z)) (ok-raised hr (init_count h l) o))
counted-own h e l y (lowers x j z w i k) c = inr (subst (λ (n : ℕ). 1 ≤ n) (sym (count-own h e l (Uninitialises x (suc j)) y z)) (omega arith))
counted-own h e l y (leaves x z w i k) c = inl (home-of-own h e l (Uninitialises x zero) y z)

legal-counted : (s : Scenario) (h : List Entry) (l : ℕ) → Formed s → legal s h → Counted h l
legal-counted s [] l f p = inl refl
legal-counted s (e ∷ h) l f p =
    let c : Counted h l = legal-counted s h l f p.0 in
    either-lane (Counted (e ∷ h) l) (e.lane == l) (λ y. counted-own h e l y (next-home s h e f p) c) (λ y. counted-other h e l y c)

-- ---- who is over makes no entry of its home

abbrev NotHome : Deed → Type 0
NotHome d = is_homes d ≡ true → ⊥

no-home : (d : Deed) → IsRuled d → NotHome d
no-home (deed.Init m a hr) p e = p
no-home (deed.Uninit a n) p e = p
no-home _ p e = not-both false e refl

retried-not : (s : Scenario) (v : Sight) (l c : ℕ) (x : Phase) → Given NotHome (retried s v l c x)
retried-not s v l c Unposted = tt
retried-not s v l c Queued = tt
retried-not s v l c (Judged y) = λ e. not-both false e refl
retried-not s v l c (Delayed t) = tt
retried-not s v l c GivenUp = tt

again-not : (v : Sight) (c : ℕ) (x : Phase) → Given NotHome (posted_again v c x)
again-not v c Unposted = tt
again-not v c Queued = tt
again-not v c (Judged y) = tt
again-not v c (Delayed t) = given-where NotHome (nat_le t v.clock) (deed.Again c) (λ e. not-both false e refl)
again-not v c GivenUp = tt

asked-not : (s : Scenario) (v : Sight) (l c : ℕ) (w : Option Word) → Given NotHome (asked_on s v l c w)
asked-not s v l c None = tt
asked-not s v l c (Some w) = given-where NotHome _ (deed.Pending c w.word _) (λ e. not-both false e refl)

takes-not : (w : Option Word) (q : Bool) → Given NotHome (takes_word w q)
takes-not (Some w) q = λ e. not-both false e refl
takes-not None q = given-where NotHome q deed.EndPump (λ e. not-both false e refl)

pumped-not : (v : Sight) (l : ℕ) (o : Option Opener) → Given NotHome (pumped v l o)
pumped-not v l None = tt
pumped-not v l (Some (Pumps n)) = takes-not (first (v.mail l).words) (v.quit l)
pumped-not v l (Some (Waits c)) = tt
pumped-not v l (Some (Enters c o a)) = tt

no-turn : (sort : LaneSort) (o : Option Opener) (over : Bool) → over ≡ true → is_script_turn sort o over ≡ false
no-turn Thread None over e = ap not e
no-turn Thread (Some o) over e = refl
no-turn Host o over e = refl
no-turn Pool o over e = refl
no-turn NoLane o over e = refl

none-given : (b : Bool) (d : Deed) → b ≡ false → Given NotHome (where_true b d)
none-given true d e = cc
none-given false d e = tt

ruled-not : (s : Scenario) (v : Sight) (l : ℕ) → v.over l ≡ true → Given NotHome (ruled s v l)
ruled-not s v l e =
    let P : Deed → Type 0 = NotHome in
    given-or P (rule_final v l) _ (given-map P (λ (o : ℕ). deed.Final o) (first (v.dying l)) (λ o z. not-both false z refl))
    (given-or P (rule_own s v l) _ (given-then P (λ (c : ℕ). where_true (enters_itself v c) (admission s v l c)) (own_call v l) (λ c. given-where P (enters_itself v c) (admission s v l c) (no-home (admission s v l c) (admission-ruled s v l c))))
    (given-or P (rule_answer v l) _ (given-then P _ (own_call v l) (λ c. given-map P _ (due_of v c) (λ x. no-home (answered v c x (packet_left v c)) (answered-ruled v c x (packet_left v c)))))
    (given-or P (rule_bound v l) _ (given-where P (bound_reached (v.openers l) (v.served l)) deed.EndPump (λ z. not-both false z refl))
    (given-or P (rule_inbox s v l) _ (given-map P (admission s v l) (admits_next v l (lane_sort s l)) (λ c. no-home (admission s v l c) (admission-ruled s v l c)))
    (given-or P (rule_retry s v l) _ (given-then P (λ (c : ℕ). retried s v l c (v.phase c)) (own_call v l) (λ c. retried-not s v l c (v.phase c)))
    (given-or P (rule_again v l) _ (given-then P (λ (c : ℕ). posted_again v c (v.phase c)) (own_call v l) (λ c. again-not v c (v.phase c)))
    (given-or P (rule_pending s v l) _ (given-then P (λ (c : ℕ). asked_on s v l c (not_asked (mark_of (v.mail l).marks c) (v.mail l).words)) (own_call v l) (λ c. asked-not s v l c (not_asked (mark_of (v.mail l).marks c) (v.mail l).words)))
    (given-or P (rule_word v l) (rule_script s v l) (pumped-not v l (top v l))
    (none-given (is_script_turn (lane_sort s l) (top v l) (v.over l)) (scripted s v l (v.act l)) (no-turn (lane_sort s l) (top v l) (v.over l) e))))))))))

bare-at : (os : List Opener) (d : Deed) → is_homes d ≡ true → MadeOnTop (maker d) os → os ≡ []
bare-at [] d e p = refl
bare-at (o ∷ os) (deed.Init m a hr) e p = absurd p
bare-at (o ∷ os) (deed.Uninit a n) e p = absurd p
bare-at (o ∷ os) _ e p = absurd (not-both false e refl)

next-over : (s : Scenario) (h : List Entry) (l : ℕ) (d : Deed) → Formed s → next s h l ≡ Some d → is_homes d ≡ true → over h l ≡ true → ⊥
next-over s h l d f q e z =
    let k : Source s (sight s h) l d = next-source s h l d q in
    let t : lane_sort s l ≡ Thread = source-thread s f h l d k e in
    let b : openers h l ≡ [] = bare-at (openers h l) d e (made-on-top s f h l d k) in
    let r : ruled s (sight s h) l ≡ Some d = subst (λ (os : List Opener). stepped s (sight s h) l (first os) ≡ Some d) b (subst (λ (x : LaneSort). next_by s (sight s h) x l ≡ Some d) t q) in
    subst (λ (x : Option Deed). Given NotHome x) r (ruled-not s (sight s h) l z) e

-- ---- End is made at count 0

abbrev NotEnd : Deed → Type 0
NotEnd d = is_end d ≡ true → ⊥

acted-not : (t : ActionSort) (d : Deed) → OfAction t d → NotEnd d
acted-not t deed.End p e = p
acted-not t _ p e = not-both false e refl

rest-not : (d : Deed) → IsRest d → NotEnd d
rest-not deed.End p e = p
rest-not _ p e = not-both false e refl

answered-not : (v : Sight) (c : ℕ) (x : Answer) (p : Option ℕ) → NotEnd (answered v c x p)
answered-not v c x (Some p) e = not-both false e refl
answered-not v c x None e = not-both false e refl

admission-not : (s : Scenario) (v : Sight) (l c : ℕ) → NotEnd (admission s v l c)
admission-not s v l c =
    cond-of NotEnd (nat_le 256 (length (v.openers l))) (deed.Refuse c RPC_E_OUT_OF_RESOURCES) _ (λ e. not-both false e refl)
    (cond-of NotEnd (posted_to_sta v c && not (is_handled_in s v l c)) (deed.Verdict c (call_sort v l c) (verdict_on s v l c)) _ (λ e. not-both false e refl)
    (cond-of NotEnd (arguments_gone v c) (deed.Refuse c RPC_E_SERVER_CANTUNMARSHAL_DATA) (deed.Enter c (object_of (v.issue c)) (v.owner (object_of (v.issue c)) l) (where_true (posted_to_sta v c) (call_sort v l c)) (v.unread c)) (λ e. not-both false e refl) (λ e. not-both false e refl)))

end-count : (s : Scenario) (v : Sight) (l : ℕ) (d : Deed) → Source s v l d → is_end d ≡ true → (v.count l == 0) ≡ true
end-count s v l d (by_body c o a os x q t e) z = absurd (acted-not (action_sort x) d (subst (OfAction (action_sort x)) e (deed-acted s v l x)) z)
end-count s v l d (by_script x q t u e) z = absurd (acted-not (action_sort x) d (subst (OfAction (action_sort x)) e (deed-acted s v l x)) z)
end-count s v l d (by_end q t e) z = by-test (v.count l == 0) (subst (λ (x : Deed). is_end x ≡ true) (sym e) z)
  where
    by-test : (b : Bool) → is_end (cond b deed.End (uninitialised v l)) ≡ true → b ≡ true
    by-test true z = refl
    by-test false z = cc
end-count s v l d (by_final o q e) z = absurd (not-both false (subst (λ (x : Deed). is_end x ≡ true) (sym e) z) refl)
end-count s v l d (by_own c q t e) z = absurd (admission-not s v l c (subst (λ (x : Deed). is_end x ≡ true) (sym e) z))
end-count s v l d (by_answer c x q t e) z = absurd (answered-not v c x (packet_left v c) (subst (λ (y : Deed). is_end y ≡ true) (sym e) z))
end-count s v l d (by_inbox c q t e) z = absurd (admission-not s v l c (subst (λ (x : Deed). is_end x ≡ true) (sym e) z))
end-count s v l d (by_retry c n x q e) z = absurd (not-both false (subst (λ (y : Deed). is_end y ≡ true) (sym e) z) refl)
end-count s v l d (by_again c t q e) z = absurd (not-both false (subst (λ (y : Deed). is_end y ≡ true) (sym e) z) refl)
end-count s v l d (by_rest q) z = absurd (rest-not d q z)

not-homes : (d : Deed) → is_homes d ≡ false → home_effect d ≡ Remains
not-homes (deed.Init m a hr) e = cc
not-homes (deed.Uninit a n) e = cc
not-homes _ e = refl

end-remains : (d : Deed) → is_end d ≡ true → home_effect d ≡ Remains
end-remains deed.End e = refl
end-remains (deed.Init m a hr) e = cc
end-remains (deed.Uninit a n) e = cc
end-remains _ e = refl

home-remains-at : (h : List Entry) (e : Entry) (l : ℕ) → home_effect e.deed ≡ Remains → thread_home (e ∷ h) l ≡ thread_home h l
home-remains-at h e l z = either-lane _ (e.lane == l) (λ y. home-of-own h e l Remains y z) (λ y. home-of-other h e l y)

none-counted : (h : List Entry) (l : ℕ) → (init_count h l == 0) ≡ true → Counted h l → thread_home h l ≡ None
none-counted h l z (inl p) = p
none-counted h l z (inr p) = let k : init_count h l ≡ 0 = eqb-true (init_count h l) 0 z in absurd (omega (arith, k, p))

over-step : (s : Scenario) (h : List Entry) (e : Entry) (l : ℕ) → Formed s → legal s (e ∷ h) → (over h l ≡ true → thread_home h l ≡ None) → over (e ∷ h) l ≡ true → thread_home (e ∷ h) l ≡ None
over-step s h e l f p ih z = by-over (over h l) refl z
  where
    by-over : (b : Bool) → over h l ≡ b → ((e.lane == l && is_end e.deed) || b) ≡ true → thread_home (e ∷ h) l ≡ None
    by-over true y z = by-homes (is_homes e.deed) refl
      where
        by-homes : (b : Bool) → is_homes e.deed ≡ b → thread_home (e ∷ h) l ≡ None
        by-homes false w = home-remains-at h e l (not-homes e.deed w) ∙ ih y
        by-homes true w = either-lane _ (e.lane == l) (λ k. absurd (next-over s h e.lane e.deed f p.1 w (subst (λ (j : ℕ). over h j ≡ true) (sym (eqb-true e.lane l k)) y))) (λ k. home-of-other h e l k ∙ ih y)
    by-over false y z =
        let own : (e.lane == l) ≡ true = and-left (e.lane == l) (is_end e.deed) (or-left-of (e.lane == l && is_end e.deed) z) in
        let end : is_end e.deed ≡ true = and-right (e.lane == l) (is_end e.deed) (or-left-of (e.lane == l && is_end e.deed) z) in
        let c : (init_count h e.lane == 0) ≡ true = end-count s (sight s h) e.lane e.deed (next-source s h e.lane e.deed p.1) end in
        home-remains-at h e l (end-remains e.deed end) ∙ none-counted h l (subst (λ (j : ℕ). (init_count h j == 0) ≡ true) (eqb-true e.lane l own) c) (legal-counted s h l f p.0)
      where
        or-left-of : (b : Bool) → (b || false) ≡ true → b ≡ true
        or-left-of true e = refl
        or-left-of false e = e

pub legal-over : (s : Scenario) (h : List Entry) (l : ℕ) → Formed s → legal s h → over h l ≡ true → thread_home h l ≡ None
legal-over s [] l f p z = cc
legal-over s (e ∷ h) l f p z = over-step s h e l f p (legal-over s h l f p.0) z

-- ---- a posted call is not one to the neutral apartment

route-post : (d : Bool) (a : ℕ) (x : Option ℕ) → is_post (route_for d a x) ≡ true → (a == neutral) ≡ false
route-post true a x e = cc
route-post false a x e = by-test (a == neutral) (is_number a x) e
  where
    by-test : (b n : Bool) → is_post (cond (b || n) route.Switch route.Post) ≡ true → b ≡ false
    by-test true n e = cc
    by-test false n e = refl

posted-held : (v : Sight) (l : ℕ) (held : Option RefValue) → is_post (route_to v l held) ≡ true → (v.named (number_or_zero (option_map (λ (x : RefValue). x.object) held)) == neutral) ≡ false
posted-held v l None e = cc
posted-held v l (Some x) e = route-post (owned_by v l x.object) (v.named x.object) (v.home l) e

posted-named : (s : Scenario) (v : Sight) (l i m : ℕ) (o : Option ℕ) (r : Route) (bytes : Option (List ℕ)) → OutSays s v l i m o r bytes → is_post r ≡ true → (v.named (number_or_zero o) == neutral) ≡ false
posted-named s v l i m o r bytes z e = by-homed z.homed
  where
    by-homed : (r ≡ route.Refused) ⊎ (Homed v l × (r ≡ route_to v l z.held)) → (v.named (number_or_zero o) == neutral) ≡ false
    by-homed (inl q) = absurd (not-both (is_post r) e (ap is_post q))
    by-homed (inr q) =
        ap (λ (x : Option ℕ). v.named (number_or_zero x) == neutral) z.object
        ∙ posted-held v l z.held (ap is_post (sym q.1) ∙ e)

no-post : (x : Option Issue) → x ≡ None → is_post (route_of x) ≡ true → ⊥
no-post None e p = cc
no-post (Some i) e p = cc

out-neutral : (s : Scenario) (h : List Entry) (l c : ℕ) (d : Deed) → Says s (sight s h) l d → issue h c ≡ None → is_post (route_of (issue_or (issues l d) c (issue h c))) ≡ true → (named (record { lane = l; deed = d } ∷ h) (object_of (issue_or (issues l d) c (issue h c))) == neutral) ≡ false
out-neutral s h l c (deed.Out k o i m r a bytes) z n p =
    elim (k == c) as (λ t. is_post (route_of (cond t (Some (record { call = k; lane = l; object = o; iface = i; method = m; route = r; cause = a })) (issue h c))) ≡ true → (named h (object_of (cond t (Some (record { call = k; lane = l; object = o; iface = i; method = m; route = r; cause = a })) (issue h c))) == neutral) ≡ false) [
      | true ↦ λ q. posted-named s (sight s h) l i m o r bytes z q
      | false ↦ λ q. absurd (no-post (issue h c) n q)
    ] p
out-neutral s h l c d z n p = absurd (no-post (issue h c) n (others d p))
  where
    others : (d : Deed) → is_post (route_of (issue h c)) ≡ true → is_post (route_of (issue h c)) ≡ true
    others d p = p

pub legal-neutral : (s : Scenario) (h : List Entry) (c : ℕ) → Formed s → legal s h → is_post (route_of (issue h c)) ≡ true → (named h (target h c) == neutral) ≡ false
legal-neutral s [] c f p q = cc
legal-neutral s (e ∷ h) c f p q =
    elim (made-or-new (calls h) c) as (λ _. (named (e ∷ h) (target (e ∷ h) c) == neutral) ≡ false) [
      | inl low ↦
          let same : issue (e ∷ h) c ≡ issue h c = issue-stays s h e c p low in
          ap (λ (x : Option Issue). named (e ∷ h) (object_of x) == neutral) same
          ∙ ap (λ (a : ℕ). a == neutral) (same-named s h e (target h c) f p ((legal-kept s h f p.0).targets c))
          ∙ legal-neutral s h c f p.0 (subst (λ (x : Option Issue). is_post (route_of x) ≡ true) same q)
      | inr past ↦ out-neutral s h e.lane c e.deed (next-says s h e.lane e.deed p.1) (issue-past s h c p.0 past) q
    ]
