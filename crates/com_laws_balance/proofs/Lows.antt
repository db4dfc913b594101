-- In every legal history the apartments that lanes run in and that entries name are below the number of the next one.
use Rattle.std.proofs.Common.{subst, arith}
use Rattle.std.proofs.lemmas.List.Elements.{All-append, All-cons, All-nil, All-filter}
use Rattle.std.proofs.lemmas.Grind.{common_steps}
use Rattle.std.specs.Prelude.{◌≡◌, refl, ℕ, ℤ, zero, suc, ◌+◌, ◌≤◌, ◌<◌, Bool, true, false, cond, not, ◌==◌, ◌&&◌, nat_le, List, [], ◌∷◌, ◌++◌, length, Option, Some, None, is_some, All, Result, Ok, Err, option_map}
use Rattle.com_base.specs.declared.hresult.HResult.{HResult}
use Rattle.com_base.specs.declared.value.RefValue.{RefValue}
use Rattle.com_base.specs.declared.value.Value.{Value}
use Rattle.com_base.specs.declared.value.Mode.{Mode}
use Rattle.com_base.specs.declared.value.Mode.TheVariants as mode
use Rattle.com_base.specs.declared.value.MarshalMode.{MarshalMode}
use Rattle.com_base.specs.declared.value.MarshalMode.TheVariants as marshal
use Rattle.com_body.specs.declared.operands.Asked.{Asked}
use Rattle.com_body.specs.declared.actions.Action.{Action}
use Rattle.com_body.specs.declared.actions.Action.TheVariants as action
use Rattle.com_classes.specs.declared.classes.Class.{Class}
use Rattle.com_classes.specs.declared.classes.ThreadingModel.{ThreadingModel}
use Rattle.com_classes.specs.declared.classes.ThreadingModel.TheVariants as model
use Rattle.com_classes.specs.declared.factory.Creator.{Creator}
use Rattle.com_classes.specs.declared.factory.Placed.{Placed}
use Rattle.com_classes.specs.Activation.{apartment_of, owner_for, is_agile, placed_in}
use Rattle.com_classes.specs.Lookups.{class_at, class_has}
use Rattle.com_model.specs.declared.deeds.Deed.{Deed}
use Rattle.com_model.specs.declared.deeds.Deed.TheVariants as deed
use Rattle.com_model.specs.declared.deeds.Entry.{Entry}
use Rattle.com_model.specs.declared.scenario.Scenario.{Scenario}
use Rattle.com_model.specs.Answers.{S_OK, E_INVALIDARG, CO_E_OBJNOTCONNECTED, RPC_E_OUT_OF_RESOURCES, RPC_E_SERVER_CANTUNMARSHAL_DATA, is_S_OK}
use Rattle.com_model.specs.Lists.{or_else, where_true, first, number_or_zero, without_first}
use Rattle.com_refs_books.specs.Counting.{count_if}
use Rattle.com_model.specs.Tables.{class_number, interface_number, LaneSort, Thread, Host, Pool, NoLane, lane_sort}
use Rattle.com_model.specs.Openers.{Effect, Opens, Closes, Keeps, effect, effect_on, opened, openers, entered_apartment, running_call}
use Rattle.com_model.specs.declared.keeps.Opener.{Opener}
use Rattle.com_model.specs.declared.keeps.Opener.TheVariants.{Pumps, Waits, Enters}
use Rattle.com_model.specs.Apartments.{HomeEffect, Initialises, Uninitialises, Remains, home_effect, home_effect_on, home_after, thread_home, home_by_sort, home, running, makes_sta, with_last, stas, next_sta, ended, or_host}
use Rattle.com_model.specs.Objects.{makes, made_or, making, named, agile}
use Rattle.com_model.specs.declared.keeps.Making.{Making}
use Rattle.com_model.specs.Calls.{object_of}
use Rattle.com_model.specs.declared.keeps.Issue.{Issue}
use Rattle.com_model.specs.Frames.{reference}
use Rattle.com_model.specs.Endings.{Answer}
use Rattle.com_refs_books.specs.Changes.{cookie}
use Rattle.com_refs_books.specs.declared.keeps.Cookie.{Cookie}
use Rattle.com_model.specs.Waiting.{bound_reached, mark_of, not_asked}
use Rattle.com_model.specs.declared.keeps.Phase.{Phase}
use Rattle.com_model.specs.declared.keeps.Word.{Word}
use Rattle.com_model.specs.declared.keeps.Phase.TheVariants.{Unposted, Queued, Judged, Delayed, GivenUp}
use Rattle.com_model.specs.Issue.{call_refusal}
use Rattle.com_model.specs.Sight.{Sight, sight}
use Rattle.com_model.specs.Deeds.{deed_of, initialised, uninitialised, creator, placing, made_as, created_of, created, owned_by, hold_refusal, marshalled, registered, Named, NamesPacket, Refuses, named_by, gained_refs, unmarshalled, dropped, cookie_number, got_with, got, revoked, called, left_as, left_by}
use Rattle.com_model.specs.Rules.{posted_to_sta, call_sort, verdict_on, is_handled_in, arguments_gone, admission, rule_final, rule_own, enters_itself, own_call, due_of, packet_left, answered, rule_answer, rule_bound, admits_next, rule_inbox, retried, rule_retry, posted_again, rule_again, asked_on, rule_pending, takes_word, pumped, rule_word, scripted, is_script_turn, rule_script, ruled, stepped, top, tick_time, no_lane_can, next_by, next, legal}
use Rattle.com_model.proofs.Goods.{all-of}
use Rattle.com_model.proofs.Given.{Given, given-or, given-where, given-map, given-then}
use Rattle.com_model.proofs.Fines.{cond-is, GoodHome}

-- ---- what an entry names

-- What the rules look at: an apartment is below the number of the next STA.
record LowSight (v : Sight) : Type 0 where
  homes : (l : ℕ) → GoodHome v.next_sta (v.home l)
  running : (l : ℕ) → number_or_zero (v.running l) < v.next_sta
  main : v.main_sta < v.next_sta
  three : 3 ≤ v.next_sta
  owners : (o l : ℕ) → v.owner o l < v.next_sta

-- The apartments that a deed names, where the next STA has the number a.
abbrev pub LowBy : ℕ → Deed → Type 0
LowBy a (deed.Made (Some o) (Some b) k i hr) = b < a
LowBy a (deed.Enter c o b t vs) = b < a
LowBy a (deed.Init x b hr) = b < a + count_if (is_some (makes_sta (deed.Init x b hr)))
LowBy a (deed.Uninit home k) = GoodHome a home
LowBy a _ = Unit {0}

owner-low : (a : ℕ) (k : ThreadingModel) (x : Creator) → 3 ≤ a → x.running < a → x.home < a → x.main_sta < a → owner_for k x < a
owner-low a model.Nothing x t r h m = m
owner-low a model.Apartment x t r h m = cond-is (λ b. b < a) (nat_le 2 (apartment_of x)) (apartment_of x) 2 (cond-is (λ b. b < a) (x.running == 0) x.home x.running h r) (omega (arith, t))
owner-low a model.Free x t r h m = omega (arith, t)
owner-low a model.Both x t r h m = r
owner-low a model.Neutral x t r h m = omega (arith, t)
owner-low a model.Agile x t r h m = omega (arith, t)

abbrev LowPlaced : ℕ → Result Placed HResult → Type 0
LowPlaced a (Ok p) = p.owner < a
LowPlaced a (Err hr) = Unit {0}

placed-low : (a : ℕ) (k : Class) (c : ℕ) (i : Option ℕ) (x : Creator) → 3 ≤ a → x.running < a → x.home < a → x.main_sta < a → LowPlaced a (placed_in k c i x)
placed-low a k c None x t r h n = tt
placed-low a k c (Some i) x t r h n = cond-is (LowPlaced a) (class_has k i) (Ok (record { class = c; iface = i; owner = owner_for k.model x; agile = is_agile k.model })) (Err (record { 0 = 0x80004002 })) (owner-low a k.model x t r h n) tt

placing-low : (a : ℕ) (x : Creator) (c : ℕ) (i : Option ℕ) (k : Option Class) → 3 ≤ a → x.running < a → x.home < a → x.main_sta < a → LowPlaced a (placing x c i k)
placing-low a x c i None t r h n = tt
placing-low a x c i (Some k) t r h n = placed-low a k c i x t r h n

made-low : (s : Scenario) (v : Sight) (k i : Asked) (r : Result Placed HResult) → LowPlaced v.next_sta r → LowBy v.next_sta (made_as s v k i r)
made-low s v k i (Ok p) g = g
made-low s v k i (Err hr) g = tt

created_of-low : (s : Scenario) (v : Sight) (l a : ℕ) (k i : Asked) (c : Option ℕ) → LowSight v → a < v.next_sta → LowBy v.next_sta (created_of s v l a k i c (interface_number s i))
created_of-low s v l a k i None g h = tt
created_of-low s v l a k i (Some c) g h = made-low s v k i _ (placing-low v.next_sta (creator v l a) c (interface_number s i) (class_at s.classes c) g.three (g.running l) h g.main)

created-low : (s : Scenario) (v : Sight) (l : ℕ) (k i : Asked) (home : Option ℕ) → LowSight v → GoodHome v.next_sta home → LowBy v.next_sta (created s v l k i home)
created-low s v l k i None g h = tt
created-low s v l k i (Some a) g h = created_of-low s v l a k i (class_number s k) g h

called-low : (s : Scenario) (v : Sight) (l a : ℕ) (held : Option RefValue) (i x : ℕ) (args : List Value) (hr : Option HResult) → LowBy a (called s v l held i x args hr)
called-low s v l a held i x args (Some hr) = tt
called-low s v l a held i x args None = tt

marshalled-low : (s : Scenario) (v : Sight) (l a : ℕ) (x : MarshalMode) (held : Option RefValue) (hr : Option HResult) → LowBy a (marshalled s v l x held hr)
marshalled-low s v l a x held (Some hr) = tt
marshalled-low s v l a x None None = tt
marshalled-low s v l a x (Some r) None = tt

registered-low : (v : Sight) (a : ℕ) (held : Option RefValue) (hr : Option HResult) → LowBy a (registered v held hr)
registered-low v a held (Some hr) = tt
registered-low v a held None = tt

unmarshalled-low : (v : Sight) (l a : ℕ) (n : Named) → LowBy a (unmarshalled v l n)
unmarshalled-low v l a (NamesPacket p) = tt
unmarshalled-low v l a (Refuses hr) = tt

dropped-low : (a : ℕ) (n : Named) → LowBy a (dropped n)
dropped-low a (NamesPacket p) = tt
dropped-low a (Refuses hr) = tt

got-low : (v : Sight) (l a : ℕ) (x : ℤ) (home : Option ℕ) → LowBy a (got v l x home)
got-low v l a x None = tt
got-low v l a x (Some b) =
    let k : Cookie = cookie v.books (cookie_number x) in
    cond-is (LowBy a) k.is_revoked (deed.Get x None 0 E_INVALIDARG) (got_with v l x k) tt
    (cond-is (LowBy a) (v.books.live k.object) (deed.Get x (Some (reference k.object k.iface)) (gained_refs marshal.Strong (owned_by v l k.object) 0) S_OK) (deed.Get x None 0 CO_E_OBJNOTCONNECTED) tt tt)

revoked-low : (v : Sight) (a : ℕ) (x : ℤ) (home : Option ℕ) → LowBy a (revoked v x home)
revoked-low v a x None = tt
revoked-low v a x (Some b) = tt

left-low : (s : Scenario) (v : Sight) (l a c : ℕ) (i : Option Issue) (hr : HResult) (x : Option Value) → LowBy a (left_as s v l c i hr x)
left-low s v l a c None hr x = tt
left-low s v l a c (Some i) hr x = tt

left-by-low : (s : Scenario) (v : Sight) (l a : ℕ) (hr : HResult) (x : Option Value) (c : Option ℕ) → LowBy a (left_by s v l hr x c)
left-by-low s v l a hr x None = tt
left-by-low s v l a hr x (Some c) = left-low s v l a c (v.issue c) hr x

initialised-low : (v : Sight) (x : Mode) (home : Option ℕ) → LowSight v → GoodHome v.next_sta home → LowBy v.next_sta (initialised v x home)
initialised-low v mode.Sta None g h = omega arith
initialised-low v mode.Mta None g h = let t : 3 ≤ v.next_sta = g.three in omega (arith, t)
initialised-low v x (Some a) g h = omega (arith, h)

deed-low : (s : Scenario) (v : Sight) (l : ℕ) (a : Action) → LowSight v → LowBy v.next_sta (deed_of s v l a)
deed-low s v l (action.Create slot k i) g = created-low s v l k i (v.home l) g (g.homes l)
deed-low s v l (action.Query to held i) g = tt
deed-low s v l (action.Copy to held) g = tt
deed-low s v l (action.Release from held) g = tt
deed-low s v l (action.Call held i x args to) g = called-low s v l v.next_sta held i x args (call_refusal s (v.home l) (v.running l) v.owns v.books.live held i x)
deed-low s v l (action.Marshal b held x) g = marshalled-low s v l v.next_sta x held (hold_refusal v (v.home l) held)
deed-low s v l (action.Unmarshal slot b) g = unmarshalled-low v l v.next_sta (named_by s v (v.home l) (v.buffers b))
deed-low s v l (action.Drop b) g = dropped-low v.next_sta (named_by s v (v.home l) (v.buffers b))
deed-low s v l (action.Raw b bytes) g = tt
deed-low s v l (action.Register to held) g = registered-low v v.next_sta held (hold_refusal v (v.home l) held)
deed-low s v l (action.Get slot x) g = got-low v l v.next_sta x (v.home l)
deed-low s v l (action.Revoke x) g = revoked-low v v.next_sta x (v.home l)
deed-low s v l (action.Disconnect held) g = tt
deed-low s v l (action.Post m w) g = tt
deed-low s v l (action.Quit m) g = tt
deed-low s v l (action.Leave hr x) g = left-by-low s v l v.next_sta hr x (running_call (v.openers l))
deed-low s v l (action.Init x) g = initialised-low v x (v.home l) g (g.homes l)
deed-low s v l action.Uninit g = g.homes l
deed-low s v l (action.SetFilter f) g = tt
deed-low s v l (action.Pump k) g = tt

-- ---- the rules

admission-low : (s : Scenario) (v : Sight) (l c : ℕ) → LowSight v → LowBy v.next_sta (admission s v l c)
admission-low s v l c g =
    cond-is (LowBy v.next_sta) (nat_le 256 (length (v.openers l))) (deed.Refuse c RPC_E_OUT_OF_RESOURCES) _ tt
    (cond-is (LowBy v.next_sta) (posted_to_sta v c && not (is_handled_in s v l c)) (deed.Verdict c (call_sort v l c) (verdict_on s v l c)) _ tt
    (cond-is (LowBy v.next_sta) (arguments_gone v c) (deed.Refuse c RPC_E_SERVER_CANTUNMARSHAL_DATA) (deed.Enter c (object_of (v.issue c)) (v.owner (object_of (v.issue c)) l) (where_true (posted_to_sta v c) (call_sort v l c)) (v.unread c)) tt (g.owners (object_of (v.issue c)) l)))

answered-low : (v : Sight) (a c : ℕ) (x : Answer) (p : Option ℕ) → LowBy a (answered v c x p)
answered-low v a c x (Some p) = tt
answered-low v a c x None = tt

retried-low : (s : Scenario) (v : Sight) (l a c : ℕ) (p : Phase) → Given (LowBy a) (retried s v l c p)
retried-low s v l a c Unposted = tt
retried-low s v l a c Queued = tt
retried-low s v l a c (Judged x) = tt
retried-low s v l a c (Delayed t) = tt
retried-low s v l a c GivenUp = tt

again-low : (v : Sight) (a c : ℕ) (p : Phase) → Given (LowBy a) (posted_again v c p)
again-low v a c Unposted = tt
again-low v a c Queued = tt
again-low v a c (Judged x) = tt
again-low v a c (Delayed t) = given-where (LowBy a) (nat_le t v.clock) (deed.Again c) tt
again-low v a c GivenUp = tt

asked-low : (s : Scenario) (v : Sight) (l a c : ℕ) (w : Option Word) → Given (LowBy a) (asked_on s v l c w)
asked-low s v l a c None = tt
asked-low s v l a c (Some w) = given-where (LowBy a) _ (deed.Pending c w.word _) tt

taken-low : (a : ℕ) (w : Option Word) (q : Bool) → Given (LowBy a) (takes_word w q)
taken-low a (Some w) q = tt
taken-low a None q = given-where (LowBy a) q deed.EndPump tt

word-low : (v : Sight) (l a : ℕ) (o : Option Opener) → Given (LowBy a) (pumped v l o)
word-low v l a None = tt
word-low v l a (Some (Pumps n)) = taken-low a (first (v.mail l).words) (v.quit l)
word-low v l a (Some (Waits c)) = tt
word-low v l a (Some (Enters c o b)) = tt

scripted-low : (s : Scenario) (v : Sight) (l : ℕ) (x : Option Action) → LowSight v → LowBy v.next_sta (scripted s v l x)
scripted-low s v l None g = cond-is (LowBy v.next_sta) (v.count l == 0) deed.End (uninitialised v l) tt (g.homes l)
scripted-low s v l (Some a) g = deed-low s v l a g

ruled-low : (s : Scenario) (v : Sight) (l : ℕ) → LowSight v → Given (LowBy v.next_sta) (ruled s v l)
ruled-low s v l g =
    let P : Deed → Type 0 = LowBy v.next_sta in
    given-or P (rule_final v l) _ (given-map P (λ o. deed.Final o) (first (v.dying l)) (λ o. tt))
    (given-or P (rule_own s v l) _ (given-then P (λ c. where_true (enters_itself v c) (admission s v l c)) (own_call v l) (λ c. given-where P (enters_itself v c) (admission s v l c) (admission-low s v l c g)))
    (given-or P (rule_answer v l) _ (given-then P (λ c. option_map (λ x. answered v c x (packet_left v c)) (due_of v c)) (own_call v l) (λ c. given-map P (λ x. answered v c x (packet_left v c)) (due_of v c) (λ x. answered-low v v.next_sta c x (packet_left v c))))
    (given-or P (rule_bound v l) _ (given-where P (bound_reached (v.openers l) (v.served l)) deed.EndPump tt)
    (given-or P (rule_inbox s v l) _ (given-map P (admission s v l) (admits_next v l (lane_sort s l)) (λ c. admission-low s v l c g))
    (given-or P (rule_retry s v l) _ (given-then P (λ c. retried s v l c (v.phase c)) (own_call v l) (λ c. retried-low s v l v.next_sta c (v.phase c)))
    (given-or P (rule_again v l) _ (given-then P (λ c. posted_again v c (v.phase c)) (own_call v l) (λ c. again-low v v.next_sta c (v.phase c)))
    (given-or P (rule_pending s v l) _ (given-then P (λ c. asked_on s v l c (not_asked (mark_of (v.mail l).marks c) (v.mail l).words)) (own_call v l) (λ c. asked-low s v l v.next_sta c (not_asked (mark_of (v.mail l).marks c) (v.mail l).words)))
    (given-or P (rule_word v l) (rule_script s v l) (word-low v l v.next_sta (top v l))
    (given-where P (is_script_turn (lane_sort s l) (top v l) (v.over l)) (scripted s v l (v.act l)) (scripted-low s v l (v.act l) g))))))))))

stepped-low : (s : Scenario) (v : Sight) (l : ℕ) (o : Option Opener) → LowSight v → Given (LowBy v.next_sta) (stepped s v l o)
stepped-low s v l None g = ruled-low s v l g
stepped-low s v l (Some (Pumps n)) g = ruled-low s v l g
stepped-low s v l (Some (Waits c)) g = ruled-low s v l g
stepped-low s v l (Some (Enters c o a)) g = given-map (LowBy v.next_sta) (deed_of s v l) (v.act l) (λ x. deed-low s v l x g)

ticks-low : (a : ℕ) (b d : Bool) (t : Option ℕ) → Given (LowBy a) (cond b (cond d (option_map (λ n. deed.Tick n) t) None) None)
ticks-low a true true None = tt
ticks-low a true true (Some n) = tt
ticks-low a true false t = tt
ticks-low a false d t = tt

by-low : (s : Scenario) (v : Sight) (sort : LaneSort) (l : ℕ) → LowSight v → Given (LowBy v.next_sta) (next_by s v sort l)
by-low s v Thread l g = stepped-low s v l (top v l) g
by-low s v Host l g = stepped-low s v l (top v l) g
by-low s v Pool l g = stepped-low s v l (top v l) g
by-low s v NoLane l g = ticks-low v.next_sta (l == 0) (no_lane_can s v) (tick_time v)

-- ---- every legal history

abbrev LowOpeners : ℕ → List Opener → Type 0
LowOpeners a [] = Unit {0}
LowOpeners a (Enters c o b ∷ os) = (b < a) × LowOpeners a os
LowOpeners a (_ ∷ os) = LowOpeners a os

pub record Low (h : List Entry) : Type 0 where
  named : (o : ℕ) → named h o < next_sta h
  homes : (l : ℕ) → GoodHome (next_sta h) (thread_home h l)
  stas : All (λ a. a < next_sta h) (stas h)
  opens : (l : ℕ) → LowOpeners (next_sta h) (openers h l)

entered-low : (a : ℕ) (os : List Opener) → LowOpeners a os → GoodHome a (entered_apartment os)
entered-low a [] p = tt
entered-low a (Enters c o b ∷ os) p = p.0
entered-low a (Pumps k ∷ os) p = entered-low a os p
entered-low a (Waits k ∷ os) p = entered-low a os p

either-low : (a : ℕ) (x y : Option ℕ) → GoodHome a x → GoodHome a y → GoodHome a (or_else x y)
either-low a None y p q = q
either-low a (Some b) y p q = p

number-low : (a : ℕ) (x : Option ℕ) → 0 < a → GoodHome a x → number_or_zero x < a
number-low a None p q = p
number-low a (Some b) p q = q

sorted-low : (a : ℕ) (sort : LaneSort) (x : Option ℕ) → 3 ≤ a → GoodHome a x → GoodHome a (home_by_sort sort x)
sorted-low a Thread x p q = q
sorted-low a Host x p q = omega (arith, p)
sorted-low a Pool x p q = omega (arith, p)
sorted-low a NoLane x p q = tt

first-low : (a : ℕ) (xs : List ℕ) → All (λ b. b < a) xs → GoodHome a (first xs)
first-low a [] p = tt
first-low a (x ∷ xs) p = p 0 x (grind (arith, common_steps))

main-low : (a : ℕ) (x : Option ℕ) → 3 ≤ a → GoodHome a x → or_host x < a
main-low a None p q = omega (arith, p)
main-low a (Some b) p q = q

pub running-low : (s : Scenario) (h : List Entry) → Low h → (l : ℕ) → number_or_zero (running s h l) < next_sta h
running-low s h k l = number-low (next_sta h) (running s h l) (omega arith) (either-low (next_sta h) (entered_apartment (openers h l)) (home s h l) (entered-low (next_sta h) (openers h l) (k.opens l)) (sorted-low (next_sta h) (lane_sort s l) (thread_home h l) (omega arith) (k.homes l)))

sight-low : (s : Scenario) (h : List Entry) → Low h → LowSight (sight s h)
sight-low s h k = record {
  homes = λ l. sorted-low (next_sta h) (lane_sort s l) (thread_home h l) (omega arith) (k.homes l);
  running = running-low s h k;
  main = main-low (next_sta h) _ (omega arith) (first-low (next_sta h) _ (All-filter (λ a. not (ended h a)) (λ a. a < next_sta h) (stas h) k.stas));
  three = omega arith;
  owners = λ o l. cond-is (λ a. a < next_sta h) (agile s h o) (number_or_zero (running s h l)) (named h o) (running-low s h k l) (k.named o);
}

pub next-low : (s : Scenario) (h : List Entry) (l : ℕ) (d : Deed) → Low h → next s h l ≡ Some d → LowBy (next_sta h) d
next-low s h l d k e = subst (λ (x : Option Deed). Given (LowBy (next_sta h)) x) e (by-low s (sight s h) (lane_sort s l) l (sight-low s h k))

pub more-stas : (xs : List ℕ) (x : Option ℕ) → length xs + 3 ≤ length (with_last xs x) + 3
more-stas xs None = omega arith
more-stas xs (Some a) = grind (arith, common_steps)

more-home : (a b : ℕ) → a ≤ b → (x : Option ℕ) → GoodHome a x → GoodHome b x
more-home a b p None q = tt
more-home a b p (Some c) q = omega (arith, p, q)

more-openers : (a b : ℕ) → a ≤ b → (os : List Opener) → LowOpeners a os → LowOpeners b os
more-openers a b p [] g = tt
more-openers a b p (Enters c o x ∷ os) g = let e : x < a = g.0 in (omega (arith, e, p), more-openers a b p os g.1)
more-openers a b p (Pumps k ∷ os) g = more-openers a b p os g
more-openers a b p (Waits k ∷ os) g = more-openers a b p os g

abbrev LowEffect : ℕ → Effect → Type 0
LowEffect a (Opens (Enters c o b)) = b < a
LowEffect a _ = Unit {0}

rest-low : (a : ℕ) (os : List Opener) → LowOpeners a os → LowOpeners a (without_first os)
rest-low a [] p = tt
rest-low a (Enters c o b ∷ os) p = p.1
rest-low a (Pumps k ∷ os) p = p
rest-low a (Waits k ∷ os) p = p

opened-low : (a : ℕ) (e : Effect) (os : List Opener) → LowEffect a e → LowOpeners a os → LowOpeners a (opened e os)
opened-low a (Opens (Enters c o b)) os p q = (p, q)
opened-low a (Opens (Pumps k)) os p q = q
opened-low a (Opens (Waits k)) os p q = q
opened-low a (Closes x) os p q = rest-low a os q
opened-low a Keeps os p q = q

effect-low : (y a : ℕ) (d : Deed) → y ≤ a → LowBy y d → LowEffect a (effect d)
effect-low y a (deed.Enter x o b t vs) q f = omega (arith, q, f)
effect-low y a (deed.Pump x) q f = tt
effect-low y a (deed.Out x o j z r cause bytes) q f = tt
effect-low y a deed.EndPump q f = tt
effect-low y a (deed.Back x hr v) q f = tt
effect-low y a (deed.Leave x hr v bytes) q f = tt
effect-low y a _ q f = tt

abbrev apartment_in : Option Making → ℕ
apartment_in x = number_or_zero (option_map (λ (m : Making). m.apartment) x)

named-low : (y a o : ℕ) (d : Deed) (x : Option Making) → y ≤ a → LowBy y d → apartment_in x < y → apartment_in (made_or (makes d) o x) < a
named-low y a o (deed.Made (Some u) (Some b) c i hr) x p f q = cond-is (λ (t : Option Making). apartment_in t < a) (u == o) _ x (omega (arith, p, f)) (omega (arith, p, q))
named-low y a o (deed.Made (Some u) None c i hr) x p f q = omega (arith, p, q)
named-low y a o (deed.Made None b c i hr) x p f q = omega (arith, p, q)
named-low y a o _ x p f q = omega (arith, p, q)

abbrev LowHomeEffect : ℕ → HomeEffect → Type 0
LowHomeEffect a (Initialises b hr) = b < a
LowHomeEffect a (Uninitialises x n) = GoodHome a x
LowHomeEffect a Remains = Unit {0}

home-low : (a : ℕ) (e : HomeEffect) (x : Option ℕ) → LowHomeEffect a e → GoodHome a x → GoodHome a (home_after e x)
home-low a (Initialises b hr) x p q = p
home-low a (Uninitialises y zero) x p q = tt
home-low a (Uninitialises y (suc n)) x p q = p
home-low a Remains x p q = q

home-effect-low : (y : ℕ) (xs : List ℕ) (d : Deed) → y ≡ length xs + 3 → LowBy y d → LowHomeEffect (length (with_last xs (makes_sta d)) + 3) (home_effect d)
home-effect-low y xs (deed.Init x b hr) e f = init-low (makes_sta (deed.Init x b hr)) f
  where
    init-low : (t : Option ℕ) → b < y + count_if (is_some t) → b < length (with_last xs t) + 3
    init-low None g = omega (arith, e, g)
    init-low (Some c) g = grind (arith, common_steps, e, g)
home-effect-low y xs (deed.Uninit x n) e f = more-home y (length xs + 3) (omega (arith, e)) x f
home-effect-low y xs _ e f = tt

all-more : (a b : ℕ) (xs : List ℕ) → a ≤ b → All (λ x. x < a) xs → All (λ x. x < b) xs
all-more a b xs h p = all-of (λ x. x < a) (λ x. x < b) (λ x z. omega (arith, h, z)) xs p

stas-low : (y : ℕ) (xs : List ℕ) (d : Deed) → y ≡ length xs + 3 → LowBy y d → All (λ a. a < y) xs → All (λ a. a < length (with_last xs (makes_sta d)) + 3) (with_last xs (makes_sta d))
stas-low y xs (deed.Init mode.Sta b hr) e f p = by-test (is_S_OK hr) f
  where
    by-test : (t : Bool) → b < y + count_if (is_some (where_true t b)) → All (λ a. a < length (with_last xs (where_true t b)) + 3) (with_last xs (where_true t b))
    by-test true g = All-append (λ a. a < length (xs ++ b ∷ []) + 3) xs (b ∷ []) (all-more y (length (xs ++ b ∷ []) + 3) xs (grind (arith, common_steps, e)) p) (All-cons (λ a. a < length (xs ++ b ∷ []) + 3) b [] (grind (arith, common_steps, e, g)) (All-nil (λ a. a < length (xs ++ b ∷ []) + 3)))
    by-test false g = all-more y (length xs + 3) xs (omega (arith, e)) p
stas-low y xs (deed.Init mode.Mta b hr) e f p = all-more y (length xs + 3) xs (omega (arith, e)) p
stas-low y xs _ e f p = all-more y (length xs + 3) xs (omega (arith, e)) p

low-step : (s : Scenario) (h : List Entry) (e : Entry) → legal s (e ∷ h) → Low h → Low (e ∷ h)
low-step s h e q k =
    let d : Deed = e.deed in
    let f : LowBy (next_sta h) d = next-low s h e.lane d k q.1 in
    let a : next_sta h ≤ next_sta (e ∷ h) = more-stas (stas h) (makes_sta d) in
    record {
      named = λ o. named-low (next_sta h) (next_sta (e ∷ h)) o d (making h o) a f (k.named o);
      homes = λ l. home-low (next_sta (e ∷ h)) (home_effect_on l e) (thread_home h l) (cond-is (LowHomeEffect (next_sta (e ∷ h))) (e.lane == l) (home_effect d) Remains (home-effect-low (next_sta h) (stas h) d refl f) tt) (more-home (next_sta h) (next_sta (e ∷ h)) a (thread_home h l) (k.homes l));
      stas = stas-low (next_sta h) (stas h) d refl f k.stas;
      opens = λ l. opened-low (next_sta (e ∷ h)) (effect_on l e) (openers h l) (cond-is (LowEffect (next_sta (e ∷ h))) (e.lane == l) (effect d) Keeps (effect-low (next_sta h) (next_sta (e ∷ h)) d a f) tt) (more-openers (next_sta h) (next_sta (e ∷ h)) a (openers h l) (k.opens l));
    }

pub legal-low : (s : Scenario) (h : List Entry) → legal s h → Low h
legal-low s [] q = record { named = λ o. omega arith; homes = λ l. tt; stas = All-nil (λ a. a < 3); opens = λ l. tt }
legal-low s (e ∷ h) q = low-step s h e q (legal-low s h q.0)
