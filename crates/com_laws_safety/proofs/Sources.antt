-- Which rule gives a lane's next deed, with what the rule looked at.
use Rattle.std.proofs.Common.{subst}
use Rattle.std.specs.Prelude.{◌≡◌, refl, ℕ, ℤ, Bool, true, false, cond, not, ◌==◌, ◌&&◌, nat_le, List, [], ◌∷◌, Option, Some, None, option_map, option_and_then}
use Rattle.com_body.specs.declared.actions.Action.{Action}
use Rattle.com_filter.specs.declared.Verdict.{Verdict}
use Rattle.com_model.specs.declared.deeds.Deed.{Deed}
use Rattle.com_model.specs.declared.deeds.Deed.TheVariants as deed
use Rattle.com_model.specs.declared.deeds.Entry.{Entry}
use Rattle.com_model.specs.declared.scenario.Scenario.{Scenario}
use Rattle.com_model.specs.Lists.{or_else, where_true, first}
use Rattle.com_model.specs.Tables.{LaneSort, Thread, Host, Pool, NoLane, lane_sort}
use Rattle.com_model.specs.declared.keeps.Opener.{Opener}
use Rattle.com_model.specs.declared.keeps.Opener.TheVariants.{Pumps, Waits, Enters}
use Rattle.com_model.specs.Calls.{is_post, route_of}
use Rattle.com_model.specs.Endings.{Answer}
use Rattle.com_model.specs.Waiting.{mark_of, not_asked, bound_reached}
use Rattle.com_model.specs.declared.keeps.Phase.{Phase}
use Rattle.com_model.specs.declared.keeps.Word.{Word}
use Rattle.com_model.specs.declared.keeps.Phase.TheVariants.{Unposted, Queued, Judged, Delayed, GivenUp}
use Rattle.com_model.specs.Deeds.{deed_of, in_sta}
use Rattle.com_model.specs.Sight.{Sight, sight}
use Rattle.com_model.specs.Rules.{top, waiting_call, enters_itself, admission, rule_final, rule_own, due_of, packet_left, answered, rule_answer, rule_bound, admits_next, rule_inbox, retried, rule_retry, posted_again, rule_again, asked_on, rule_pending, takes_word, pumped, rule_word, after_script, scripted, is_script_turn, rule_script, ruled, stepped, no_lane_can, tick_time, next_by, next}
use Rattle.com_model.proofs.Given.{Given, given-where}
use Rattle.com_model.proofs.Comes.{given-found}

-- The deeds that name no call to be admitted, answered or posted, and no object, and that no statement makes.
abbrev pub IsRest : Deed → Type 0
IsRest deed.EndPump = Unit {0}
IsRest (deed.Word w) = Unit {0}
IsRest (deed.Pending c w n) = Unit {0}
IsRest (deed.Tick t) = Unit {0}
IsRest _ = ⊥

pub data Source (s : Scenario) (v : Sight) (l : ℕ) (d : Deed) : Type 0 where
  by_body : (c o a : ℕ) (os : List Opener) (x : Action) → v.openers l ≡ Enters c o a ∷ os → v.act l ≡ Some x → deed_of s v l x ≡ d → Source s v l d
  by_script : (x : Action) → v.openers l ≡ [] → lane_sort s l ≡ Thread → v.act l ≡ Some x → deed_of s v l x ≡ d → Source s v l d
  by_end : v.openers l ≡ [] → lane_sort s l ≡ Thread → after_script v l ≡ d → Source s v l d
  by_final : (o : ℕ) → first (v.dying l) ≡ Some o → deed.Final o ≡ d → Source s v l d
  by_own : (c : ℕ) → first (v.openers l) ≡ Some (Waits c) → enters_itself v c ≡ true → admission s v l c ≡ d → Source s v l d
  by_answer : (c : ℕ) (x : Answer) → first (v.openers l) ≡ Some (Waits c) → due_of v c ≡ Some x → answered v c x (packet_left v c) ≡ d → Source s v l d
  by_inbox : (c : ℕ) → rule_answer v l ≡ None → admits_next v l (lane_sort s l) ≡ Some c → admission s v l c ≡ d → Source s v l d
  by_retry : (c : ℕ) (n : ℤ) (x : Verdict) → v.phase c ≡ Judged x → deed.Retry c n ≡ d → Source s v l d
  by_again : (c t : ℕ) → v.phase c ≡ Delayed t → deed.Again c ≡ d → Source s v l d
  by_rest : IsRest d → Source s v l d

-- ---- what is said of a choice of rules

given-either : (P : Deed → Type 0) (a b : Option Deed) → Given P a → (a ≡ None → Given P b) → Given P (or_else a b)
given-either P None b p q = q refl
given-either P (Some d) b p q = p

given-when : (P : Deed → Type 0) (b : Bool) (d : Deed) → (b ≡ true → P d) → Given P (where_true b d)
given-when P true d p = p refl
given-when P false d p = tt

own-found : (P : Deed → Type 0) (f : ℕ → Option Deed) (os : List Opener) → ((c : ℕ) → first os ≡ Some (Waits c) → Given P (f c)) → Given P (option_and_then f (waiting_call (first os)))
own-found P f [] p = tt
own-found P f (Waits c ∷ os) p = p c refl
own-found P f (Pumps n ∷ os) p = tt
own-found P f (Enters c o a ∷ os) p = tt

-- ---- the rules

final-source : (s : Scenario) (v : Sight) (l : ℕ) → Given (Source s v l) (rule_final v l)
final-source s v l = given-found (Source s v l) (λ o. deed.Final o) (first (v.dying l)) (λ o e. by_final o e refl)

own-source : (s : Scenario) (v : Sight) (l : ℕ) → Given (Source s v l) (rule_own s v l)
own-source s v l =
    own-found (Source s v l) (λ c. where_true (enters_itself v c) (admission s v l c)) (v.openers l)
    (λ c e. given-when (Source s v l) (enters_itself v c) (admission s v l c) (λ q. by_own c e q refl))

answer-source : (s : Scenario) (v : Sight) (l : ℕ) → Given (Source s v l) (rule_answer v l)
answer-source s v l =
    own-found (Source s v l) (λ c. option_map (λ x. answered v c x (packet_left v c)) (due_of v c)) (v.openers l)
    (λ c e. given-found (Source s v l) (λ x. answered v c x (packet_left v c)) (due_of v c) (λ x q. by_answer c x e q refl))

inbox-source : (s : Scenario) (v : Sight) (l : ℕ) → rule_answer v l ≡ None → Given (Source s v l) (rule_inbox s v l)
inbox-source s v l q = given-found (Source s v l) (admission s v l) (admits_next v l (lane_sort s l)) (λ c e. by_inbox c q e refl)

retried-source : (s : Scenario) (v : Sight) (l c : ℕ) (p : Phase) → v.phase c ≡ p → Given (Source s v l) (retried s v l c p)
retried-source s v l c Unposted q = tt
retried-source s v l c Queued q = tt
retried-source s v l c (Judged x) q = by_retry c _ x q refl
retried-source s v l c (Delayed t) q = tt
retried-source s v l c GivenUp q = tt

retry-source : (s : Scenario) (v : Sight) (l : ℕ) → Given (Source s v l) (rule_retry s v l)
retry-source s v l = own-found (Source s v l) (λ c. retried s v l c (v.phase c)) (v.openers l) (λ c e. retried-source s v l c (v.phase c) refl)

posted-source : (s : Scenario) (v : Sight) (l c : ℕ) (p : Phase) → v.phase c ≡ p → Given (Source s v l) (posted_again v c p)
posted-source s v l c Unposted q = tt
posted-source s v l c Queued q = tt
posted-source s v l c (Judged x) q = tt
posted-source s v l c (Delayed t) q = given-where (Source s v l) (nat_le t v.clock) (deed.Again c) (by_again c t q refl)
posted-source s v l c GivenUp q = tt

again-source : (s : Scenario) (v : Sight) (l : ℕ) → Given (Source s v l) (rule_again v l)
again-source s v l = own-found (Source s v l) (λ c. posted_again v c (v.phase c)) (v.openers l) (λ c e. posted-source s v l c (v.phase c) refl)

asked-source : (s : Scenario) (v : Sight) (l c : ℕ) (w : Option Word) → Given (Source s v l) (asked_on s v l c w)
asked-source s v l c None = tt
asked-source s v l c (Some w) = given-where (Source s v l) (in_sta (v.home l) && is_post (route_of (v.issue c))) (deed.Pending c w.word _) (by_rest tt)

pending-source : (s : Scenario) (v : Sight) (l : ℕ) → Given (Source s v l) (rule_pending s v l)
pending-source s v l =
    own-found (Source s v l) (λ c. asked_on s v l c (not_asked (mark_of (v.mail l).marks c) (v.mail l).words)) (v.openers l)
    (λ c e. asked-source s v l c (not_asked (mark_of (v.mail l).marks c) (v.mail l).words))

taken-source : (s : Scenario) (v : Sight) (l : ℕ) (w : Option Word) (q : Bool) → Given (Source s v l) (takes_word w q)
taken-source s v l (Some w) q = by_rest tt
taken-source s v l None q = given-where (Source s v l) q deed.EndPump (by_rest tt)

word-source : (s : Scenario) (v : Sight) (l : ℕ) (o : Option Opener) → Given (Source s v l) (pumped v l o)
word-source s v l None = tt
word-source s v l (Some (Pumps n)) = taken-source s v l (first (v.mail l).words) (v.quit l)
word-source s v l (Some (Waits c)) = tt
word-source s v l (Some (Enters c o a)) = tt

scripted-source : (s : Scenario) (v : Sight) (l : ℕ) (x : Option Action) → v.openers l ≡ [] → lane_sort s l ≡ Thread → v.act l ≡ x → Source s v l (scripted s v l x)
scripted-source s v l None e t q = by_end e t refl
scripted-source s v l (Some a) e t q = by_script a e t q refl

turn-source : (P : Deed → Type 0) (sort : LaneSort) (os : List Opener) (over : Bool) (d : Deed) → (os ≡ [] → sort ≡ Thread → P d) → Given P (where_true (is_script_turn sort (first os) over) d)
turn-source P Thread [] over d p = given-where P (not over) d (p refl refl)
turn-source P Thread (o ∷ os) over d p = tt
turn-source P Host os over d p = tt
turn-source P Pool os over d p = tt
turn-source P NoLane os over d p = tt

script-source : (s : Scenario) (v : Sight) (l : ℕ) → Given (Source s v l) (rule_script s v l)
script-source s v l = turn-source (Source s v l) (lane_sort s l) (v.openers l) (v.over l) (scripted s v l (v.act l)) (λ e t. scripted-source s v l (v.act l) e t refl)

ruled-source : (s : Scenario) (v : Sight) (l : ℕ) → Given (Source s v l) (ruled s v l)
ruled-source s v l =
    let P : Deed → Type 0 = Source s v l in
    given-either P (rule_final v l) _ (final-source s v l) (λ z0.
    given-either P (rule_own s v l) _ (own-source s v l) (λ z1.
    given-either P (rule_answer v l) _ (answer-source s v l) (λ z2.
    given-either P (rule_bound v l) _ (given-where P (bound_reached (v.openers l) (v.served l)) deed.EndPump (by_rest tt)) (λ z3.
    given-either P (rule_inbox s v l) _ (inbox-source s v l z2) (λ z4.
    given-either P (rule_retry s v l) _ (retry-source s v l) (λ z5.
    given-either P (rule_again v l) _ (again-source s v l) (λ z6.
    given-either P (rule_pending s v l) _ (pending-source s v l) (λ z7.
    given-either P (rule_word v l) (rule_script s v l) (word-source s v l (top v l)) (λ z8. script-source s v l)))))))))

stepped-source : (s : Scenario) (v : Sight) (l : ℕ) (os : List Opener) → v.openers l ≡ os → Given (Source s v l) (stepped s v l (first os))
stepped-source s v l [] e = ruled-source s v l
stepped-source s v l (Pumps n ∷ os) e = ruled-source s v l
stepped-source s v l (Waits c ∷ os) e = ruled-source s v l
stepped-source s v l (Enters c o a ∷ os) e = given-found (Source s v l) (deed_of s v l) (v.act l) (λ x q. by_body c o a os x e q refl)

ticks-source : (s : Scenario) (v : Sight) (l : ℕ) (b d : Bool) (t : Option ℕ) → Given (Source s v l) (cond b (cond d (option_map (λ n. deed.Tick n) t) None) None)
ticks-source s v l true true None = tt
ticks-source s v l true true (Some n) = by_rest tt
ticks-source s v l true false t = tt
ticks-source s v l false d t = tt

by-source : (s : Scenario) (v : Sight) (sort : LaneSort) (l : ℕ) → Given (Source s v l) (next_by s v sort l)
by-source s v Thread l = stepped-source s v l (v.openers l) refl
by-source s v Host l = stepped-source s v l (v.openers l) refl
by-source s v Pool l = stepped-source s v l (v.openers l) refl
by-source s v NoLane l = ticks-source s v l (l == 0) (no_lane_can s v) (tick_time v)

pub next-source : (s : Scenario) (h : List Entry) (l : ℕ) (d : Deed) → next s h l ≡ Some d → Source s (sight s h) l d
next-source s h l d e = subst (λ (x : Option Deed). Given (Source s (sight s h) l) x) e (by-source s (sight s h) (lane_sort s l) l)
