-- Every legal history of a formed scenario stays within the numbers that were given.
use Rattle.std.proofs.Common.{subst, arith}
use Rattle.std.proofs.lemmas.List.Elements.{All-append, All-cons, All-nil, All-filter}
use Rattle.std.proofs.lemmas.Grind.{common_steps}
use Rattle.std.specs.Prelude.{◌≡◌, refl, ℕ, zero, suc, ◌+◌, ◌≤◌, ◌<◌, negsuc, pos, Bool, true, false, cond, not, ◌==◌, ◌&&◌, nat_le, List, [], ◌∷◌, ◌++◌, length, take, Option, Some, None, is_some, All, option_map}
use Rattle.com_base.specs.declared.hresult.HResult.{HResult}
use Rattle.com_base.specs.declared.value.Value.{Value}
use Rattle.com_base.specs.declared.value.Mode.TheVariants as mode
use Rattle.com_body.specs.declared.operands.Asked.TheVariants as asked
use Rattle.com_body.specs.declared.actions.Action.{Action}
use Rattle.com_body.specs.declared.actions.Action.TheVariants as action
use Rattle.com_body.specs.declared.frame.Outcome.{Outcome}
use Rattle.com_classes.specs.declared.interfaces.Interface.{Interface}
use Rattle.com_classes.specs.BuiltIns.{built_in_interfaces}
use Rattle.com_filter.specs.declared.Verdict.{Verdict}
use Rattle.com_model.specs.declared.deeds.Deed.{Deed}
use Rattle.com_model.specs.declared.deeds.Deed.TheVariants as deed
use Rattle.com_model.specs.declared.deeds.Entry.{Entry}
use Rattle.com_model.specs.declared.deeds.Route.TheVariants as route
use Rattle.com_model.specs.declared.scenario.Scenario.{Scenario}
use Rattle.com_model.specs.Answers.{is_S_OK}
use Rattle.com_model.specs.Lists.{or_else, where_true, first, number_or_zero, without_first}
use Rattle.com_refs_books.specs.Counting.{count_if}
use Rattle.com_model.specs.Tables.{LaneSort, Thread, Host, Pool, NoLane, lane_sort}
use Rattle.com_model.specs.Openers.{Opener, Pumps, Waits, Enters, Effect, Opens, Closes, Keeps, effect, effect_on, opened, openers, entered_apartment}
use Rattle.com_model.specs.Apartments.{HomeEffect, Initialises, Uninitialises, Remains, home_effect, home_effect_on, home_after, thread_home, home_by_sort, home, running, makes_sta, ends_sta, with_last, stas, next_sta, ended, or_host, serves}
use Rattle.com_model.specs.Objects.{Making, makes, made_or, making, one_more, objects, named, class_of, agile, disconnects}
use Rattle.com_model.specs.Calls.{Issue, Admission, issues, issue_or, issue, calls, object_of, target, admitted}
use Rattle.com_model.specs.Frames.{scene, taken_in, outcome, action_of, unless_over, actor_in, reference, act}
use Rattle.com_model.specs.Endings.{Ending, ByVerdict, ByLeave, EndEffect, EndsCall, CutsObject, CutsSta, EndsNone, cuts_object, cuts_sta, end_effect, ends, filtered, can_be_cut, ending, is_leave}
use Rattle.com_model.specs.Places.{ground}
use Rattle.com_model.specs.Books.{books}
use Rattle.com_model.specs.Dying.{is_dying, fallen}
use Rattle.com_model.specs.Issue.{own_values, values_or, sent, unread_values}
use Rattle.com_model.specs.Sight.{Sight, sight}
use Rattle.com_model.specs.Rules.{legal}
use Rattle.com_model.specs.Formed.{Formed}
use Rattle.com_model.specs.State.{Bounded}
use Rattle.com_model.proofs.Comes.{first-filter}
use Rattle.com_model.proofs.Onces.{call_named, Names, InRange, named-in-range}
use Rattle.com_model.proofs.Goods.{GoodHeld, GoodValue, GoodAction, more-held, more-value, more-result, all-of, entered-good}
use Rattle.com_model.proofs.Fines.{cond-is, GoodPacket, GoodCookie, GoodEnding, GoodHome, GoodSight, FineBy, next-fine}
use Rattle.com_model.proofs.Scenes.{faces, GoodScene, GoodOpeners, GoodOut, more-scene, Issued, Brings, scene-good, outcome-good, actor-good, new-cells-good}
use Rattle.com_model.proofs.Holdings.{GoodBooks, GoodAct, NewWithin, more-books, values-good, closed-good}

pub record Kept (s : Scenario) (h : List Entry) : Type 0 where
  pub scene : GoodScene s (objects h) (calls h) (scene s h)
  pub books : GoodBooks s (objects h) (calls h) (next_sta h) (books s h)
  pub sent : (c : ℕ) → All (GoodValue (objects h) (faces s)) (sent s h c)
  pub endings : (c : ℕ) → GoodEnding (objects h) (faces s) (ending s h c)
  pub targets : (c : ℕ) → target h c ≤ objects h
  pub named : (o : ℕ) → named h o < next_sta h
  pub homes : (l : ℕ) → GoodHome (next_sta h) (thread_home h l)
  pub stas : All (λ a. a < next_sta h) (stas h)
  pub opens : (l : ℕ) → GoodOpeners (objects h) (calls h) (next_sta h) (openers h l)

-- ---- what the rules look at

declared-some : (xs : List Interface) → take 4 xs ≡ built_in_interfaces → 0 < length xs
declared-some [] e = cc
declared-some (x ∷ xs) e = grind (arith, common_steps)

entered-low : (n c a : ℕ) (os : List Opener) → GoodOpeners n c a os → GoodHome a (entered_apartment os)
entered-low n c a [] p = tt
entered-low n c a (Enters k o b ∷ os) p = p.0.2
entered-low n c a (Pumps k ∷ os) p = entered-low n c a os p
entered-low n c a (Waits k ∷ os) p = entered-low n c a os p

either-low : (a : ℕ) (x y : Option ℕ) → GoodHome a x → GoodHome a y → GoodHome a (or_else x y)
either-low a None y p q = q
either-low a (Some b) y p q = p

number-low : (a : ℕ) (x : Option ℕ) → 0 < a → GoodHome a x → number_or_zero x < a
number-low a None p q = p
number-low a (Some b) p q = q

sorted-low : (a : ℕ) (sort : LaneSort) (x : Option ℕ) → 3 ≤ a → GoodHome a x → GoodHome a (home_by_sort sort x)
sorted-low a Thread x p q = q
sorted-low a Host x p q = omega (arith, p)
sorted-low a Pool x p q = omega (arith, p)
sorted-low a NoLane x p q = tt

first-low : (a : ℕ) (xs : List ℕ) → All (λ b. b < a) xs → GoodHome a (first xs)
first-low a [] p = tt
first-low a (x ∷ xs) p = p 0 x (grind (arith, common_steps))

main-low : (a : ℕ) (x : Option ℕ) → 3 ≤ a → GoodHome a x → or_host x < a
main-low a None p q = omega (arith, p)
main-low a (Some b) p q = q

action-from : (n m : ℕ) (o : Option Outcome) (a : Action) → GoodOut n m o → action_of o ≡ Some a → GoodAction n m a
action-from n m None a p e = cc
action-from n m (Some r) a p e = subst (GoodAction n m) (same r.action a e) p.action
  where
    same : (x y : Action) → Some x ≡ Some y → x ≡ y
    same x y e = cc

and-first : (p q : Bool) → (p && q) ≡ true → p ≡ true
and-first true q e = refl
and-first false q e = cc

and-second : (p q : Bool) → (p && q) ≡ true → q ≡ true
and-second true q e = e
and-second false q e = cc

at-most : (o n : ℕ) → nat_le o n ≡ true → o ≤ n
at-most o n e = grind (arith, common_steps)

pub running-low : (s : Scenario) (h : List Entry) → Kept s h → (l : ℕ) → number_or_zero (running s h l) < next_sta h
running-low s h k l = number-low (next_sta h) (running s h l) (omega arith) (either-low (next_sta h) (entered_apartment (openers h l)) (home s h l) (entered-low (objects h) (calls h) (next_sta h) (openers h l) (k.opens l)) (sorted-low (next_sta h) (lane_sort s l) (thread_home h l) (omega arith) (k.homes l)))

unread-good : (P : Value → Type 0) (a : Option Admission) (x : Option Ending) (vs : List Value) → All P vs → All P (unread_values a x vs)
unread-good P None None vs p = p
unread-good P (Some a) x vs p = All-nil P
unread-good P None (Some x) vs p = All-nil P

pub sight-good : (s : Scenario) (h : List Entry) → Formed s → Kept s h → GoodSight s (sight s h)
sight-good s h f k = record {
  acts = λ l a e. action-from (objects h) (faces s) _ a (outcome-good s f (objects h) (calls h) (class_of h) (issue h) (scene s h) (unless_over (actor_in s h l) (outcome s (class_of h) (issue h) (scene s h) (actor_in s h l))) k.scene) e;
  homes = λ l. sorted-low (next_sta h) (lane_sort s l) (thread_home h l) (omega arith) (k.homes l);
  running = running-low s h k;
  main = main-low (next_sta h) _ (omega arith) (first-low (next_sta h) _ (All-filter (λ a. not (ended h a)) (λ a. a < next_sta h) (stas h) k.stas));
  three = omega arith;
  some = declared-some s.classes.interfaces f.interfaces.built;
  owners = λ o l. cond-is (λ a. a < next_sta h) (agile s h o) (number_or_zero (running s h l)) (named h o) (running-low s h k l) (k.named o);
  targets = k.targets;
  unread = λ c. unread-good (GoodValue (objects h) (faces s)) (admitted h c) (ending s h c) (sent s h c) (k.sent c);
  endings = k.endings;
  packets = k.books.packets;
  cookies = k.books.cookies;
  dying = λ l o e. at-most o (objects h) (and-second (nat_le 1 o) (nat_le o (objects h)) (and-first (nat_le 1 o && nat_le o (objects h)) _ (and-first (is_dying s h o) (serves s h l (named h o)) (first-filter (λ o. is_dying s h o && serves s h l (named h o)) (fallen s h) o e).0)));
}

pub act-good : (s : Scenario) (v : Sight) (l : ℕ) (x : Option Action) → GoodSight s v → v.act l ≡ x → GoodAct v.objects (faces s) x
act-good s v l None g e = tt
act-good s v l (Some a) g e = g.acts l a e

-- ---- what an entry brings

issued-in : (n : ℕ) (d : Deed) → Names (InRange n) (call_named d) → Issued n d
issued-in n (deed.Out c o i m r k bytes) p = p.1
issued-in n (deed.Enter c o a t vs) p = p.1
issued-in n (deed.Leave c hr v bytes) p = p.1
issued-in n _ p = tt

brings-in : (k n m y : ℕ) (d : Deed) → k ≤ n → FineBy k m y d → Brings n m d
brings-in k n m y (deed.Enter c o a t vs) p f = all-of (GoodValue k m) (GoodValue n m) (more-value k n m p) vs f.2
brings-in k n m y (deed.Back c hr v) p f = more-result k n m p v f
brings-in k n m y (deed.Final o) p f = omega (arith, p, f)
brings-in k n m y _ p f = tt

query-taken : (n m o i : ℕ) (hr : HResult) (t : Bool) → is_S_OK hr ≡ t → (is_S_OK hr ≡ true → (o ≤ n) × (i < m)) → GoodHeld n m (cond t (Some (reference o i)) None)
query-taken n m o i hr true e f = f e
query-taken n m o i hr false e f = tt

new-object : (k n o : ℕ) → o ≡ k + 1 → n ≡ k + 1 → o ≤ n
new-object k n o e f = omega (arith, e, f)

taken-good : (k n m y : ℕ) (d : Deed) → k ≤ n → NewWithin n d → FineBy k m y d → GoodHeld n m (taken_in d)
taken-good k n m y (deed.Made (Some o) (Some b) c (asked.Number i) hr) p w f = (w, f.2)
taken-good k n m y (deed.Made (Some o) (Some b) c (asked.Guid g) hr) p w f = tt
taken-good k n m y (deed.Made (Some o) None c i hr) p w f = absurd f
taken-good k n m y (deed.Made None b c i hr) p w f = tt
taken-good k n m y (deed.Query (Some o) (asked.Number i) hr) p w f = query-taken n m o i hr (is_S_OK hr) refl (λ e. let a : o ≤ k = (f e).0 in (omega (arith, a, p), (f e).1))
taken-good k n m y (deed.Query (Some o) (asked.Guid g) hr) p w f = tt
taken-good k n m y (deed.Query None i hr) p w f = tt
taken-good k n m y (deed.Unmarshal t held refs hr) p w f = more-held k n m p held f
taken-good k n m y (deed.Get t held refs hr) p w f = more-held k n m p held f
taken-good k n m y _ p w f = tt

made-within : (h : List Entry) (m y : ℕ) (d : Deed) → FineBy (objects h) m y d → NewWithin (one_more (makes d) (objects h)) d
made-within h m y (deed.Made (Some o) (Some b) k i hr) f = omega (arith, f.0)
made-within h m y (deed.Made (Some o) None k i hr) f = tt
made-within h m y (deed.Made None b k i hr) f = tt
made-within h m y _ f = tt

pub more-objects : (x : Option Making) (n : ℕ) → n ≤ one_more x n
more-objects None n = omega arith
more-objects (Some m) n = omega arith

more-stas : (xs : List ℕ) (x : Option ℕ) → length xs + 3 ≤ length (with_last xs x) + 3
more-stas xs None = omega arith
more-stas xs (Some a) = grind (arith, common_steps)

more-home : (a b : ℕ) → a ≤ b → (x : Option ℕ) → GoodHome a x → GoodHome b x
more-home a b p None q = tt
more-home a b p (Some c) q = omega (arith, p, q)

more-ending : (k n m : ℕ) → k ≤ n → (e : Option Ending) → GoodEnding k m e → GoodEnding n m e
more-ending k n m p None q = tt
more-ending k n m p (Some (ByLeave hr v)) q = more-result k n m p v q
more-ending k n m p (Some _) q = tt

more-openers : (n c a k d b : ℕ) → n ≤ k → c ≤ d → a ≤ b → (os : List Opener) → GoodOpeners n c a os → GoodOpeners k d b os
more-openers n c a k d b p q r [] g = tt
more-openers n c a k d b p q r (Enters x o y ∷ os) g = let e : x ≤ c = g.0.0 in let f : o ≤ n = g.0.1 in let i : y < a = g.0.2 in ((omega (arith, e, q), omega (arith, f, p), omega (arith, i, r)), more-openers n c a k d b p q r os g.1)
more-openers n c a k d b p q r (Pumps x ∷ os) g = more-openers n c a k d b p q r os g
more-openers n c a k d b p q r (Waits x ∷ os) g = more-openers n c a k d b p q r os g

abbrev GoodEffect : (n c a : ℕ) → Effect → Type 0
GoodEffect n c a (Opens (Enters k o b)) = (k ≤ c) × (o ≤ n) × (b < a)
GoodEffect n c a _ = Unit {0}

rest-good : (n c a : ℕ) (os : List Opener) → GoodOpeners n c a os → GoodOpeners n c a (without_first os)
rest-good n c a [] p = tt
rest-good n c a (Enters k o b ∷ os) p = p.1
rest-good n c a (Pumps k ∷ os) p = p
rest-good n c a (Waits k ∷ os) p = p

opened-good : (n c a : ℕ) (e : Effect) (os : List Opener) → GoodEffect n c a e → GoodOpeners n c a os → GoodOpeners n c a (opened e os)
opened-good n c a (Opens (Enters k o b)) os p q = (p, q)
opened-good n c a (Opens (Pumps k)) os p q = q
opened-good n c a (Opens (Waits k)) os p q = q
opened-good n c a (Closes x) os p q = rest-good n c a os q
opened-good n c a Keeps os p q = q

effect-good : (k n c y a m : ℕ) (d : Deed) → k ≤ n → y ≤ a → Issued c d → FineBy k m y d → GoodEffect n c a (effect d)
effect-good k n c y a m (deed.Enter x o b t vs) p q i f = let e : o ≤ k = f.0 in let g : b < y = f.1 in (i, omega (arith, p, e), omega (arith, q, g))
effect-good k n c y a m (deed.Pump x) p q i f = tt
effect-good k n c y a m (deed.Out x o j z r cause bytes) p q i f = tt
effect-good k n c y a m deed.EndPump p q i f = tt
effect-good k n c y a m (deed.Back x hr v) p q i f = tt
effect-good k n c y a m (deed.Leave x hr v bytes) p q i f = tt
effect-good k n c y a m _ p q i f = tt

-- ---- calls, endings, homes

target-good : (k n m y l c : ℕ) (d : Deed) (i : Option Issue) → k ≤ n → FineBy k m y d → object_of i ≤ k → object_of (issue_or (issues l d) c i) ≤ n
target-good k n m y l c (deed.Out x o j z r cause bytes) i p f q = cond-is (λ (t : Option Issue). object_of t ≤ n) (x == c) _ i (omega (arith, p, f)) (omega (arith, p, q))
target-good k n m y l c _ i p f q = omega (arith, p, q)

own-sent-good : (s : Scenario) (h : List Entry) (i : Issue) (n : ℕ) (b : Bool) (xs : List Value) → GoodAct (objects h) (faces s) (act s h i.lane) → objects h ≤ n → All (GoodValue n (faces s)) xs → All (GoodValue n (faces s)) (own_values s h i b xs)
own-sent-good s h i n true xs p q r = all-of (GoodValue (objects h) (faces s)) (GoodValue n (faces s)) (more-value (objects h) n (faces s) q) _ (values-good s (objects h) (books s h) _ (act s h i.lane) p)
own-sent-good s h i n false xs p q r = r

sent-after : (s : Scenario) (h : List Entry) (l n c : ℕ) (d : Deed) (xs : List Value) → GoodAct (objects h) (faces s) (act s h l) → objects h ≤ n → All (GoodValue n (faces s)) xs → All (GoodValue n (faces s)) (values_or s h (issues l d) c xs)
sent-after s h l n c (deed.Out x o j z r cause bytes) xs p q t = own-sent-good s h (record { call = x; lane = l; object = o; iface = j; method = z; route = r; cause = cause }) n (x == c) xs p q t
sent-after s h l n c _ xs p q t = t

where-good : (n m : ℕ) (b : Bool) (x : Ending) → GoodEnding n m (Some x) → GoodEnding n m (where_true b x)
where-good n m true x p = p
where-good n m false x p = tt

abbrev GoodEnd : (n m : ℕ) → EndEffect → Type 0
GoodEnd n m (EndsCall c x) = GoodEnding n m (Some x)
GoodEnd n m _ = Unit {0}

object-end : (n m : ℕ) (x : Option ℕ) → GoodEnd n m (cuts_object x)
object-end n m None = tt
object-end n m (Some o) = tt

sta-end : (n m : ℕ) (x : Option ℕ) → GoodEnd n m (cuts_sta x)
sta-end n m None = tt
sta-end n m (Some a) = tt

judged-end : (n m c : ℕ) (v : Verdict) (b : Bool) → GoodEnd n m (cond b EndsNone (EndsCall c (ByVerdict v)))
judged-end n m c v true = tt
judged-end n m c v false = tt

end-good : (k n m y : ℕ) (f : ℕ → Bool) (d : Deed) → k ≤ n → FineBy k m y d → GoodEnd n m (end_effect f d)
end-good k n m y f (deed.Leave c hr v bytes) p g = more-result k n m p v g
end-good k n m y f (deed.Out c o i x route.Refused cause bytes) p g = tt
end-good k n m y f (deed.Out c o i x route.Direct cause bytes) p g = tt
end-good k n m y f (deed.Out c o i x route.Switch cause bytes) p g = tt
end-good k n m y f (deed.Out c o i x route.Post cause bytes) p g = tt
end-good k n m y f (deed.Refuse c hr) p g = tt
end-good k n m y f (deed.Verdict c t v) p g = judged-end n m c v (f c)
end-good k n m y f (deed.Retry c (negsuc x)) p g = tt
end-good k n m y f (deed.Retry c (pos x)) p g = tt
end-good k n m y f (deed.Pending c w zero) p g = tt
end-good k n m y f (deed.Pending c w (suc x)) p g = tt
end-good k n m y f (deed.Disconnect o hr) p g = object-end n m (disconnects (deed.Disconnect o hr))
end-good k n m y f (deed.Uninit a x) p g = sta-end n m (ends_sta (deed.Uninit a x))
end-good k n m y f _ p g = tt

ends-good : (n m : ℕ) (x : EndEffect) (c o a : ℕ) (b : Bool) → GoodEnd n m x → GoodEnding n m (ends x c o a b)
ends-good n m (EndsCall d e) c o a b p = where-good n m (d == c) e p
ends-good n m (CutsObject q) c o a b p = where-good n m (b && q == o) _ tt
ends-good n m (CutsSta q) c o a b p = where-good n m (b && q == a) _ tt
ends-good n m EndsNone c o a b p = tt

ending-or : (n m : ℕ) (x y : Option Ending) → GoodEnding n m x → GoodEnding n m y → GoodEnding n m (or_else x y)
ending-or n m None y p q = q
ending-or n m (Some e) y p q = p

abbrev apartment_in : Option Making → ℕ
apartment_in x = number_or_zero (option_map (λ (m : Making). m.apartment) x)

named-good : (k m y a o : ℕ) (d : Deed) (x : Option Making) → y ≤ a → FineBy k m y d → apartment_in x < y → apartment_in (made_or (makes d) o x) < a
named-good k m y a o (deed.Made (Some u) (Some b) c i hr) x p f q = let g : b < y = f.1 in cond-is (λ (t : Option Making). apartment_in t < a) (u == o) _ x (omega (arith, p, g)) (omega (arith, p, q))
named-good k m y a o (deed.Made (Some u) None c i hr) x p f q = omega (arith, p, q)
named-good k m y a o (deed.Made None b c i hr) x p f q = omega (arith, p, q)
named-good k m y a o _ x p f q = omega (arith, p, q)

abbrev GoodHomeEffect : ℕ → HomeEffect → Type 0
GoodHomeEffect a (Initialises b hr) = b < a
GoodHomeEffect a (Uninitialises x n) = GoodHome a x
GoodHomeEffect a Remains = Unit {0}

home-good : (a : ℕ) (e : HomeEffect) (x : Option ℕ) → GoodHomeEffect a e → GoodHome a x → GoodHome a (home_after e x)
home-good a (Initialises b hr) x p q = p
home-good a (Uninitialises y zero) x p q = tt
home-good a (Uninitialises y (suc n)) x p q = p
home-good a Remains x p q = q

home-effect-good : (k m y : ℕ) (xs : List ℕ) (d : Deed) → y ≡ length xs + 3 → FineBy k m y d → GoodHomeEffect (length (with_last xs (makes_sta d)) + 3) (home_effect d)
home-effect-good k m y xs (deed.Init x b hr) e f = init-low (makes_sta (deed.Init x b hr)) f
  where
    init-low : (t : Option ℕ) → b < y + count_if (is_some t) → b < length (with_last xs t) + 3
    init-low None g = omega (arith, e, g)
    init-low (Some c) g = grind (arith, common_steps, e, g)
home-effect-good k m y xs (deed.Uninit x n) e f = more-home y (length xs + 3) (omega (arith, e)) x f
home-effect-good k m y xs _ e f = tt

stas-good : (k m y : ℕ) (xs : List ℕ) (d : Deed) → y ≡ length xs + 3 → FineBy k m y d → All (λ a. a < y) xs → All (λ a. a < length (with_last xs (makes_sta d)) + 3) (with_last xs (makes_sta d))
stas-good k m y xs (deed.Init mode.Sta b hr) e f p = by-test (is_S_OK hr) f
  where
    by-test : (t : Bool) → b < y + count_if (is_some (where_true t b)) → All (λ a. a < length (with_last xs (where_true t b)) + 3) (with_last xs (where_true t b))
    by-test true g = All-append (λ a. a < length (xs ++ b ∷ []) + 3) xs (b ∷ []) (all-of (λ a. a < y) (λ a. a < length (xs ++ b ∷ []) + 3) (λ a z. grind (arith, common_steps, e, z)) xs p) (All-cons (λ a. a < length (xs ++ b ∷ []) + 3) b [] (grind (arith, common_steps, e, g)) (All-nil (λ a. a < length (xs ++ b ∷ []) + 3)))
    by-test false g = all-of (λ a. a < y) (λ a. a < length xs + 3) (λ a z. omega (arith, e, z)) xs p
stas-good k m y xs (deed.Init mode.Mta b hr) e f p = all-of (λ a. a < y) (λ a. a < length xs + 3) (λ a z. omega (arith, e, z)) xs p
stas-good k m y xs _ e f p = all-of (λ a. a < y) (λ a. a < length xs + 3) (λ a z. omega (arith, e, z)) xs p

more-action : (n k m : ℕ) → n ≤ k → (x : Action) → GoodAction n m x → GoodAction k m x
more-action n k m h (action.Query to held i) p = more-held n k m h held p
more-action n k m h (action.Copy to held) p = more-held n k m h held p
more-action n k m h (action.Release from held) p = more-held n k m h held p
more-action n k m h (action.Call held i y args to) p = (more-held n k m h held p.0, all-of (GoodValue n m) (GoodValue k m) (more-value n k m h) args p.1)
more-action n k m h (action.Marshal b held y) p = (p.0, more-held n k m h held p.1)
more-action n k m h (action.Raw b bytes) p = p
more-action n k m h (action.Register to held) p = more-held n k m h held p
more-action n k m h (action.Disconnect held) p = more-held n k m h held p
more-action n k m h (action.Leave hr v) p = more-result n k m h v p
more-action n k m h _ p = tt

act-more : (n k m : ℕ) → n ≤ k → (x : Option Action) → GoodAct n m x → GoodAct k m x
act-more n k m h None p = tt
act-more n k m h (Some a) p = more-action n k m h a p

-- ---- one entry

kept-step : (s : Scenario) (h : List Entry) (e : Entry) → Formed s → legal s (e ∷ h) → Kept s h → Kept s (e ∷ h)
kept-step s h e f q k =
    let l : ℕ = e.lane in
    let d : Deed = e.deed in
    let g : GoodSight s (sight s h) = sight-good s h f k in
    let fine : FineBy (objects h) (faces s) (next_sta h) d = next-fine s h l d g q.1 in
    let n : objects h ≤ objects (e ∷ h) = more-objects (makes d) (objects h) in
    let c : calls h ≤ calls (e ∷ h) = omega arith in
    let a : next_sta h ≤ next_sta (e ∷ h) = more-stas (stas h) (makes_sta d) in
    let i : Issued (calls (e ∷ h)) d = issued-in (calls (e ∷ h)) d (named-in-range s h e q) in
    let w : NewWithin (objects (e ∷ h)) d = made-within h (faces s) (next_sta h) d fine in
    let after : (j : ℕ) → GoodOpeners (objects (e ∷ h)) (calls (e ∷ h)) (next_sta (e ∷ h)) (openers (e ∷ h) j) = λ j. opened-good (objects (e ∷ h)) (calls (e ∷ h)) (next_sta (e ∷ h)) (effect_on j e) (openers h j) (cond-is (GoodEffect (objects (e ∷ h)) (calls (e ∷ h)) (next_sta (e ∷ h))) (e.lane == j) (effect d) Keeps (effect-good (objects h) (objects (e ∷ h)) (calls (e ∷ h)) (next_sta h) (next_sta (e ∷ h)) (faces s) d n a i fine) tt) (more-openers (objects h) (calls h) (next_sta h) (objects (e ∷ h)) (calls (e ∷ h)) (next_sta (e ∷ h)) n c a (openers h j) (k.opens j)) in
    let x : GoodAct (objects h) (faces s) (act s h l) = act-good s (sight s h) l (act s h l) g refl in
    let run : number_or_zero (running s h l) < next_sta h = running-low s h k l in
    record {
      scene = scene-good s f (objects (e ∷ h)) (calls (e ∷ h)) (class_of h) (named h) (issue h) (actor_in s h l) (actor_in s (e ∷ h) l) l d (scene s h)
          (actor-good s (objects (e ∷ h)) (calls (e ∷ h)) (next_sta (e ∷ h)) l (lane_sort s l) (openers h l) refl (more-openers (objects h) (calls h) (next_sta h) (objects (e ∷ h)) (calls (e ∷ h)) (next_sta (e ∷ h)) n c a (openers h l) (k.opens l)))
          (actor-good s (objects (e ∷ h)) (calls (e ∷ h)) (next_sta (e ∷ h)) l (lane_sort s l) (openers (e ∷ h) l) refl (after l))
          (taken-good (objects h) (objects (e ∷ h)) (faces s) (next_sta h) d n w fine) i (brings-in (objects h) (objects (e ∷ h)) (faces s) (next_sta h) d n fine)
          (more-scene s (objects h) (calls h) (objects (e ∷ h)) (calls (e ∷ h)) (scene s h) n c k.scene);
      books = closed-good s (objects (e ∷ h)) (calls (e ∷ h)) (next_sta (e ∷ h)) (objects h) (next_sta h) (ground s (e ∷ h)) (scene s (e ∷ h)) (act s h l) (λ j. is_leave (ending s h j)) (number_or_zero (running s h l)) d (books s h) g.some n (omega (arith, run, a)) a (act-more (objects h) (objects (e ∷ h)) (faces s) n (act s h l) x) fine w i (more-books s (objects h) (calls h) (next_sta h) (objects (e ∷ h)) (calls (e ∷ h)) (next_sta (e ∷ h)) (books s h) n c a k.books);
      sent = λ j. sent-after s h l (objects (e ∷ h)) j d (sent s h j) x n (all-of (GoodValue (objects h) (faces s)) (GoodValue (objects (e ∷ h)) (faces s)) (more-value (objects h) (objects (e ∷ h)) (faces s) n) (sent s h j) (k.sent j));
      endings = λ j. ending-or (objects (e ∷ h)) (faces s) (ending s h j) _ (more-ending (objects h) (objects (e ∷ h)) (faces s) n (ending s h j) (k.endings j)) (ends-good (objects (e ∷ h)) (faces s) (end_effect (filtered s h) d) j (target h j) (named h (target h j)) (can_be_cut (issue h j) (admitted h j)) (end-good (objects h) (objects (e ∷ h)) (faces s) (next_sta h) (filtered s h) d n fine));
      targets = λ j. target-good (objects h) (objects (e ∷ h)) (faces s) (next_sta h) l j d (issue h j) n fine (k.targets j);
      named = λ o. named-good (objects h) (faces s) (next_sta h) (next_sta (e ∷ h)) o d (making h o) a fine (k.named o);
      homes = λ j. home-good (next_sta (e ∷ h)) (home_effect_on j e) (thread_home h j) (cond-is (GoodHomeEffect (next_sta (e ∷ h))) (e.lane == j) (home_effect d) Remains (home-effect-good (objects h) (faces s) (next_sta h) (stas h) d refl fine) tt) (more-home (next_sta h) (next_sta (e ∷ h)) a (thread_home h j) (k.homes j));
      stas = stas-good (objects h) (faces s) (next_sta h) (stas h) d refl fine k.stas;
      opens = after;
    }

kept-first : (s : Scenario) → Kept s []
kept-first s = record {
  scene = record {
    scripts = λ l. entered-good 0 (faces s) [] (All-nil (GoodValue 0 (faces s)));
    bodies = λ c. entered-good 0 (faces s) [] (All-nil (GoodValue 0 (faces s)));
    cells = λ o. new-cells-good 0 (faces s);
    no_script = λ l h. refl;
    no_body = λ c h. refl;
    no_cells = λ o h. refl;
    no_buffer = λ b h. refl;
    no_destination = λ c h. refl;
  };
  books = record {
    packets = All-nil (GoodPacket 0 (faces s));
    cookies = All-nil (GoodCookie 0 (faces s));
    stub_o = λ o i h. refl;
    stub_i = λ o i h. refl;
    proxy_a = λ x o i h. refl;
    proxy_o = λ x o i h. refl;
    proxy_i = λ x o i h. refl;
    live = λ o h. refl;
    arguments = λ c h. refl;
    result = λ c h. refl;
  };
  sent = λ c. All-nil (GoodValue 0 (faces s));
  endings = λ c. tt;
  targets = λ c. omega arith;
  named = λ o. omega arith;
  homes = λ l. tt;
  stas = All-nil (λ a. a < 3);
  opens = λ l. tt;
}

pub legal-kept : (s : Scenario) (h : List Entry) → Formed s → legal s h → Kept s h
legal-kept s [] f q = kept-first s
legal-kept s (e ∷ h) f q = kept-step s h e f q (legal-kept s h f q.0)

pub legal-bounded : (s : Scenario) (h : List Entry) → Formed s → legal s h → Bounded s h
legal-bounded s h f q =
    let k : Kept s h = legal-kept s h f q in
    record {
      scripts = k.scene.no_script;
      bodies = k.scene.no_body;
      cells = k.scene.no_cells;
      buffers = k.scene.no_buffer;
      destinations = k.scene.no_destination;
      stub_objects = k.books.stub_o;
      stub_interfaces = k.books.stub_i;
      proxy_apartments = k.books.proxy_a;
      proxy_objects = k.books.proxy_o;
      proxy_interfaces = k.books.proxy_i;
      live = k.books.live;
      arguments = k.books.arguments;
      result = k.books.result;
    }
