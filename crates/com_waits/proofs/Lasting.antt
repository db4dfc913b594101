-- Each STA that has not ended is the home of a thread that has not made its End; and what is connected is of an apartment that has
-- not ended.
use Rattle.std.proofs.Common.{subst, sym, ap, ◌∙◌, ◌⊎◌, inl, inr, eqb-true, arith}
use Rattle.std.proofs.lemmas.Grind.{common_steps}
use Rattle.std.specs.Prelude.{◌≡◌, refl, ℕ, suc, ◌+◌, ◌≤◌, ◌<◌, Bool, true, false, not, cond, ◌==◌, ◌&&◌, ◌||◌, nat_le, List, [], ◌∷◌, filter, Option, Some, None, Ok, Err}
use Rattle.com_base.specs.declared.hresult.HResult.{HResult}
use Rattle.com_body.specs.declared.operands.Asked.{Asked}
use Rattle.com_body.specs.declared.actions.Action.{Action}
use Rattle.com_body.specs.declared.actions.Action.TheVariants as action
use Rattle.com_refs_books.specs.Changes.{Books, entered_rows, held_outside}
use Rattle.com_classes.specs.declared.factory.Creator.{Creator}
use Rattle.com_classes.specs.declared.classes.Class.{Class}
use Rattle.com_classes.specs.declared.classes.ThreadingModel.{ThreadingModel}
use Rattle.com_classes.specs.declared.classes.ThreadingModel.TheVariants as model
use Rattle.com_classes.specs.Activation.{apartment_of, is_agile, owner_for}
use Rattle.com_classes.specs.Lookups.{class_at, class_has}
use Rattle.com_model.specs.declared.deeds.Deed.{Deed}
use Rattle.com_model.specs.declared.deeds.Deed.TheVariants as deed
use Rattle.com_model.specs.declared.deeds.Entry.{Entry}
use Rattle.com_model.specs.declared.keeps.Making.{Making}
use Rattle.com_model.specs.declared.keeps.Opener.{Opener}
use Rattle.com_model.specs.declared.keeps.Opener.TheVariants.{Pumps, Waits, Enters}
use Rattle.com_model.specs.declared.scenario.Scenario.{Scenario}
use Rattle.com_model.specs.Lists.{first, is_number, number_or_zero, or_else, where_true}
use Rattle.com_model.specs.Tables.{LaneSort, Thread, Host, Pool, NoLane, class_number, interface_number, lane_sort}
use Rattle.com_model.specs.Openers.{Opens, effect, effect_on, entered_apartment, openers}
use Rattle.com_model.specs.Apartments.{Initialises, Uninitialises, Remains, ended, ends_sta, home, home_by_sort, home_effect, host_sta, is_sta, main_sta, mta, neutral, next_sta, or_host, running, stas, thread_home}
use Rattle.com_model.specs.Objects.{agile, asked_number, disconnects, made_or, makes, making, named, owner}
use Rattle.com_model.specs.Calls.{issue, lane_of}
use Rattle.com_model.specs.Books.{books, kept, made_by, most, rows}
use Rattle.com_model.specs.Formed.{Formed}
use Rattle.com_model.specs.Deeds.{created, created_of, creator, deed_of, made_as, placing}
use Rattle.com_model.specs.Frames.{Scene, scene, act}
use Rattle.com_model.specs.Places.{Ground, all_places, ground}
use Rattle.com_model.specs.Endings.{ending, is_leave}
use Rattle.com_model.specs.Safe.{Either, InApartment}
use Rattle.com_model.specs.Sight.{Sight, sight}
use Rattle.com_model.specs.Rules.{legal, packet_left}
use Rattle.com_model.proofs.Given.{cond-of}
use Rattle.com_model.proofs.Comes.{first-filter}
use Rattle.com_laws_safety.proofs.Small.{neither, not-both, not-true, same-number}
use Rattle.com_laws_safety.proofs.Sources.{Source, by_body, by_script, by_end, by_final, by_own, by_answer, by_inbox, by_retry, by_again, by_rest, next-source}
use Rattle.com_laws_safety.proofs.Acted.{ActionSort, Making as MakingSort, action_sort, OfAction, deed-acted}
use Rattle.com_laws_safety.proofs.Facts.{IsRuled, admission-ruled, answered-ruled, rest-ruled}
use Rattle.com_laws_safety.proofs.Threads.{is_homes, source-thread}
use Rattle.com_laws_safety.proofs.Served.{named-of}
use Rattle.com_laws_safety.proofs.Ready.{legal-apartment}
use Rattle.com_laws_balance.proofs.Counts.{Among}
use Rattle.com_laws_balance.proofs.Homes.{among-any, home-remains}
use Rattle.com_laws_balance.proofs.Holds.{rows-live}
use Rattle.com_laws_balance.proofs.Bases.{home-stays}
use Rattle.com_laws_balance.proofs.Steps.{legal-base, opens-own}
use Rattle.com_waits.proofs.Homes.{HomesBy, HomeStep, remains, again, to_mta, makes_one, lowers, leaves, sta_of, legal-homes, next-home, home-of-own, home-of-other, none-made, one-made}

-- ---- an open body of an STA stands in a lane whose home it is

same-some : (x y : ℕ) → Some x ≡ Some y → x ≡ y
same-some x y e = cc

record EnteredIn (os : List Opener) (b : ℕ) : Type 0 where
  call : ℕ
  object : ℕ
  among : Among (Enters call object b) os

entered-in : (os : List Opener) (b : ℕ) → entered_apartment os ≡ Some b → EnteredIn os b
entered-in [] b e = cc
entered-in (Enters c o a ∷ os) b e = record { call = c; object = o; among = inl (ap (λ (y : ℕ). Enters c o y) (same-some a b e)) }
entered-in (Pumps n ∷ os) b e = let k : EnteredIn os b = entered-in os b e in record { call = k.call; object = k.object; among = inr k.among }
entered-in (Waits c ∷ os) b e = let k : EnteredIn os b = entered-in os b e in record { call = k.call; object = k.object; among = inr k.among }

not-sta : {A : Type 0} (a : ℕ) → is_sta a ≡ true → a ≡ 0 → A
not-sta a t e = let z : is_sta 0 ≡ true = subst (λ (x : ℕ). is_sta x ≡ true) e t in absurd (bad z)
  where
    bad : is_sta 0 ≡ true → ⊥
    bad z = cc

home-number : (x : Option ℕ) → is_sta (number_or_zero x) ≡ true → x ≡ Some (number_or_zero x)
home-number None t = cc
home-number (Some a) t = refl

abbrev InHome : Scenario → List Entry → ℕ → Type 0
InHome s h l = (c o a : ℕ) → Among (Enters c o a) (openers h l) → is_sta a ≡ true → home s h l ≡ Some a

-- The apartment in which a lane runs, where it is an STA, is its home.
running-home : (s : Scenario) (h : List Entry) (l : ℕ) → InHome s h l → is_sta (number_or_zero (running s h l)) ≡ true → home s h l ≡ Some (number_or_zero (running s h l))
running-home s h l f t = by-entered (entered_apartment (openers h l)) refl t
  where
    by-entered : (x : Option ℕ) → entered_apartment (openers h l) ≡ x → is_sta (number_or_zero (or_else x (home s h l))) ≡ true → home s h l ≡ Some (number_or_zero (or_else x (home s h l)))
    by-entered None e t = home-number (home s h l) t
    by-entered (Some b) e t = let k : EnteredIn (openers h l) b = entered-in (openers h l) b e in f k.call k.object b k.among t

by-agile : (P : Type 0) (b : Bool) → (b ≡ true → P) → (b ≡ false → P) → P
by-agile P true f g = f refl
by-agile P false f g = g refl

enter-home : (s : Scenario) (h : List Entry) (l c o a : ℕ) → InHome s h l → (a ≡ owner s h o l) × Either (agile s h o || named h o == neutral) (l ≡ lane_of (issue h c)) (home s h l ≡ Some (named h o)) → is_sta a ≡ true → home s h l ≡ Some a
enter-home s h l c o a f p t = by-agile _ (agile s h o) at-caller at-owner
  where
    at-caller : agile s h o ≡ true → home s h l ≡ Some a
    at-caller z =
        let e : a ≡ number_or_zero (running s h l) = p.0 ∙ ap (λ (b : Bool). cond b (number_or_zero (running s h l)) (named h o)) z in
        running-home s h l f (subst (λ (x : ℕ). is_sta x ≡ true) e t) ∙ ap (λ (x : ℕ). Some x) (sym e)

    at-owner : agile s h o ≡ false → home s h l ≡ Some a
    at-owner z =
        let e : a ≡ named h o = p.0 ∙ ap (λ (b : Bool). cond b (number_or_zero (running s h l)) (named h o)) z in
        by-either (named h o == neutral) refl (subst (λ (b : Bool). Either (b || named h o == neutral) (l ≡ lane_of (issue h c)) (home s h l ≡ Some (named h o))) z p.1) ∙ ap (λ (x : ℕ). Some x) (sym e)
      where
        by-either : (b : Bool) → (named h o == neutral) ≡ b → Either b (l ≡ lane_of (issue h c)) (home s h l ≡ Some (named h o)) → home s h l ≡ Some (named h o)
        by-either true y q = not-sta a t (p.0 ∙ ap (λ (b : Bool). cond b (number_or_zero (running s h l)) (named h o)) z ∙ eqb-true (named h o) neutral y)
        by-either false y q = q

same-enter : (c o a k u b : ℕ) → Opens (Enters k u b) ≡ Opens (Enters c o a) → (k ≡ c) × (u ≡ o) × (b ≡ a)
same-enter c o a k u b e = (cc, cc, cc)

new-home : (s : Scenario) (h : List Entry) (l c o a : ℕ) (d : Deed) → InHome s h l → InApartment s h l d → effect d ≡ Opens (Enters c o a) → is_sta a ≡ true → home s h l ≡ Some a
new-home s h l c o a (deed.Enter k u b t vs) f p e z =
    let q : (k ≡ c) × (u ≡ o) × (b ≡ a) = same-enter c o a k u b e in
    subst (λ (x : ℕ). home s h l ≡ Some x) q.2 (enter-home s h l k u b f p (subst (λ (x : ℕ). is_sta x ≡ true) (sym q.2) z))
new-home s h l c o a (deed.Pump n) f p e z = cc
new-home s h l c o a (deed.Out k u i m r x bytes) f p e z = cc
new-home s h l c o a deed.EndPump f p e z = cc
new-home s h l c o a (deed.Back k hr v) f p e z = cc
new-home s h l c o a (deed.Leave k hr v bytes) f p e z = cc
new-home s h l c o a _ f p e z = cc

opens-remains : (d : Deed) (o : Opener) → effect d ≡ Opens o → home_effect d ≡ Remains
opens-remains (deed.Init m a hr) o e = cc
opens-remains (deed.Uninit a n) o e = cc
opens-remains _ o e = refl

legal-in-home : (s : Scenario) (h : List Entry) (l : ℕ) → Formed s → legal s h → InHome s h l
legal-in-home s [] l f p = λ c o a m t. absurd m
legal-in-home s (e ∷ h) l f p = λ c o a m t. step c o a t (among-any (Enters c o a) (effect_on l e) (openers h l) m) (legal-in-home s h l f p.0) (legal-in-home s h e.lane f p.0)
  where
    step : (c o a : ℕ) → is_sta a ≡ true → Among (Enters c o a) (openers h l) ⊎ (effect_on l e ≡ Opens (Enters c o a)) → InHome s h l → InHome s h e.lane → home s (e ∷ h) l ≡ Some a
    step c o a t (inl m) i k = home-stays s h e f p (legal-base s h f p.0) l (Enters c o a) m ∙ i c o a m t
    step c o a t (inr m) i k =
        let z : (e.lane ≡ l) × (effect e.deed ≡ Opens (Enters c o a)) = opens-own l e (Enters c o a) m in
        subst (λ (j : ℕ). home s (e ∷ h) j ≡ Some a) z.0
        (home-remains s h e e.lane (opens-remains e.deed (Enters c o a) z.1)
        ∙ new-home s h e.lane c o a e.deed k (legal-apartment s (e ∷ h) f p).1 z.1 t)

-- ---- the apartments in which objects are made have not ended

low-or-sta : (P : ℕ → Type 0) (a : ℕ) → ((b : ℕ) → b ≤ 2 → P b) → (is_sta a ≡ true → P a) → P a
low-or-sta P a f g = by-test (nat_le a 2) refl
  where
    by-test : (b : Bool) → nat_le a 2 ≡ b → P a
    by-test true z = f a (grind (arith, common_steps, z))
    by-test false z = g (let k : 3 ≤ a = grind (arith, common_steps, z) in grind (arith, common_steps, k))

home-lasting : (s : Scenario) (h : List Entry) (l a : ℕ) → HomesBy (next_sta h) (ended h) (thread_home h) → home s h l ≡ Some a → ended h a ≡ false
home-lasting s h l a x e = by-sort (lane_sort s l) e
  where
    by-sort : (q : LaneSort) → home_by_sort q (thread_home h l) ≡ Some a → ended h a ≡ false
    by-sort Thread e = x.lasting l a e
    by-sort Host e = let k : 2 ≡ a = same-some host_sta a e in x.low a (omega (arith, k))
    by-sort Pool e = let k : 1 ≡ a = same-some mta a e in x.low a (omega (arith, k))
    by-sort NoLane e = cc

running-lasting : (s : Scenario) (h : List Entry) (l : ℕ) → Formed s → legal s h → ended h (number_or_zero (running s h l)) ≡ false
running-lasting s h l f p =
    let x : HomesBy (next_sta h) (ended h) (thread_home h) = legal-homes s h f p in
    low-or-sta (λ a. ended h a ≡ false) (number_or_zero (running s h l)) x.low
    (λ t. home-lasting s h l (number_or_zero (running s h l)) x (running-home s h l (legal-in-home s h l f p) t))

main-lasting : (s : Scenario) (h : List Entry) → Formed s → legal s h → ended h (main_sta h) ≡ false
main-lasting s h f p = by-first (first (filter (λ a. not (ended h a)) (stas h))) refl
  where
    by-first : (x : Option ℕ) → first (filter (λ a. not (ended h a)) (stas h)) ≡ x → ended h (or_host x) ≡ false
    by-first None e = (legal-homes s h f p).low host_sta (omega arith)
    by-first (Some a) e = not-true (ended h a) (first-filter (λ b. not (ended h b)) (stas h) a e).0

abbrev MadeIn : (ℕ → Type 0) → Deed → Type 0
MadeIn P (deed.Made (Some o) (Some a) k i hr) = P a
MadeIn P _ = Unit {0}

-- Good apartments for a new object.
record Grounds (P : ℕ → Type 0) (x : Creator) : Type 0 where
  low : (a : ℕ) → a ≤ 2 → P a
  running : P x.running
  home : P x.home
  main : P x.main_sta

cond-nat : (P : ℕ → Type 0) (b : Bool) (x y : ℕ) → P x → P y → P (cond b x y)
cond-nat P true x y p q = p
cond-nat P false x y p q = q

owner-good : (P : ℕ → Type 0) (x : Creator) (m : ThreadingModel) → Grounds P x → P (owner_for m x)
owner-good P x model.Nothing g = g.main
owner-good P x model.Apartment g = cond-nat P (nat_le 2 (apartment_of x)) (apartment_of x) 2 (cond-nat P (x.running == 0) x.home x.running g.home g.running) (g.low 2 (omega arith))
owner-good P x model.Free g = g.low 1 (omega arith)
owner-good P x model.Both g = g.running
owner-good P x model.Neutral g = g.low 0 (omega arith)
owner-good P x model.Agile g = g.low 0 (omega arith)

placed-good : (P : ℕ → Type 0) (s : Scenario) (v : Sight) (k i : Asked) (x : Creator) (c : ℕ) (j : Option ℕ) (t : Option Class) → Grounds P x → MadeIn P (made_as s v k i (placing x c j t))
placed-good P s v k i x c j None g = tt
placed-good P s v k i x c None (Some t) g = tt
placed-good P s v k i x c (Some j) (Some t) g = by-test (class_has t j)
  where
    by-test : (b : Bool) → MadeIn P (made_as s v k i (cond b (Ok (record { class = c; iface = j; owner = owner_for t.model x; agile = is_agile t.model })) (Err (record { 0 = 0x80004002 }))))
    by-test true = owner-good P x t.model g
    by-test false = tt

created-of-good : (P : ℕ → Type 0) (s : Scenario) (v : Sight) (l a : ℕ) (k i : Asked) (c j : Option ℕ) → Grounds P (creator v l a) → MadeIn P (created_of s v l a k i c j)
created-of-good P s v l a k i None j g = tt
created-of-good P s v l a k i (Some c) j g = placed-good P s v k i (creator v l a) c j (class_at s.classes c) g

created-good : (P : ℕ → Type 0) (s : Scenario) (v : Sight) (l : ℕ) (k i : Asked) (x : Option ℕ) → ((a : ℕ) → x ≡ Some a → Grounds P (creator v l a)) → MadeIn P (created s v l k i x)
created-good P s v l k i None g = tt
created-good P s v l k i (Some a) g = created-of-good P s v l a k i (class_number s k) (interface_number s i) (g a refl)

other-good : (P : ℕ → Type 0) (t : ActionSort) (d : Deed) → OfAction t d → (t ≡ MakingSort → ⊥) → MadeIn P d
other-good P t (deed.Made (Some o) (Some a) k i hr) p n = absurd (n p)
other-good P t (deed.Made (Some o) None k i hr) p n = tt
other-good P t (deed.Made None a k i hr) p n = tt
other-good P t _ p n = tt

action-good : (P : ℕ → Type 0) (s : Scenario) (v : Sight) (l : ℕ) (x : Action) → ((a : ℕ) → v.home l ≡ Some a → Grounds P (creator v l a)) → MadeIn P (deed_of s v l x)
action-good P s v l (action.Create slot k i) g = created-good P s v l k i (v.home l) g
action-good P s v l (action.Call held i m args to) g = other-good P _ (deed_of s v l (action.Call held i m args to)) (deed-acted s v l (action.Call held i m args to)) (λ z. cc)
action-good P s v l (action.Init m) g = other-good P _ (deed_of s v l (action.Init m)) (deed-acted s v l (action.Init m)) (λ z. cc)
action-good P s v l action.Uninit g = tt
action-good P s v l (action.SetFilter f) g = tt
action-good P s v l (action.Pump n) g = tt
action-good P s v l x g = other-good P (action_sort x) (deed_of s v l x) (deed-acted s v l x) (λ z. cc)

ruled-good : (P : ℕ → Type 0) (d : Deed) → IsRuled d → MadeIn P d
ruled-good P (deed.Made o a k i hr) p = absurd p
ruled-good P _ p = tt

source-good : (P : ℕ → Type 0) (s : Scenario) (v : Sight) (l : ℕ) (d : Deed) → ((a : ℕ) → v.home l ≡ Some a → Grounds P (creator v l a)) → Source s v l d → MadeIn P d
source-good P s v l d g (by_body c o a os x p q e) = subst (MadeIn P) e (action-good P s v l x g)
source-good P s v l d g (by_script x p t q e) = subst (MadeIn P) e (action-good P s v l x g)
source-good P s v l d g (by_end p t e) = subst (MadeIn P) e (cond-of (MadeIn P) (v.count l == 0) deed.End _ tt tt)
source-good P s v l d g (by_final o p e) = subst (MadeIn P) e tt
source-good P s v l d g (by_own c p q e) = ruled-good P d (subst IsRuled e (admission-ruled s v l c))
source-good P s v l d g (by_answer c x p q e) = ruled-good P d (subst IsRuled e (answered-ruled v c x (packet_left v c)))
source-good P s v l d g (by_inbox c p q e) = ruled-good P d (subst IsRuled e (admission-ruled s v l c))
source-good P s v l d g (by_retry c n x p e) = ruled-good P d (subst IsRuled e tt)
source-good P s v l d g (by_again c t p e) = ruled-good P d (subst IsRuled e tt)
source-good P s v l d g (by_rest p) = ruled-good P d (rest-ruled d p)

made-lasting : (s : Scenario) (h : List Entry) (l : ℕ) (d : Deed) → Formed s → legal s h → Source s (sight s h) l d → MadeIn (λ a. ended h a ≡ false) d
made-lasting s h l d f p z =
    let x : HomesBy (next_sta h) (ended h) (thread_home h) = legal-homes s h f p in
    source-good (λ a. ended h a ≡ false) s (sight s h) l d
    (λ a e. record { low = x.low; running = running-lasting s h l f p; home = home-lasting s h l a x e; main = main-lasting s h f p }) z

-- ---- what is connected is of an apartment that has not ended

kept-live : (before after : Books) (d : Deed) (o : ℕ) → (kept before d after).live o ≡ after.live o
kept-live x b (deed.Out c u j m r cause bytes) o = refl
kept-live x b (deed.Leave c hr v bytes) o = refl
kept-live x b _ o = refl

most-live : (s : Scenario) (g : Ground) (w : Scene) (x : Option Action) (left : ℕ → Bool) (z : ℕ) (d : Deed) (b : Books) (o : ℕ) → (most s g w x left z d b).live o ≡ b.live o
most-live s g w x left z d b o = kept-live b (entered_rows g.owns b (rows s x left b z d)) d o ∙ rows-live g.owns b (rows s x left b z d) o

live-parts : (m l d n z : Bool) → ((m || l) && (not d && (not n && not z))) ≡ true → ((m || l) ≡ true) × (n ≡ false)
live-parts true l false false false e = (refl, refl)
live-parts true l false true z e = cc
live-parts true l false false true e = cc
live-parts true l true n z e = cc
live-parts false true false false false e = (refl, refl)
live-parts false true false true z e = cc
live-parts false true false false true e = cc
live-parts false true true n z e = cc
live-parts false false d n z e = cc

made-named : (h : List Entry) (l o : ℕ) (d : Deed) → MadeIn (λ a. ended h a ≡ false) d → made_by (makes d) o ≡ true → ended h (named (record { lane = l; deed = d } ∷ h) o) ≡ false
made-named h l o (deed.Made (Some k) (Some a) c i hr) p e =
    subst (λ (b : Bool). ended h (named-of (cond b (Some (record { object = k; apartment = a; class = asked_number c })) (making h o))) ≡ false) (sym e) p
made-named h l o (deed.Made (Some k) None c i hr) p e = cc
made-named h l o (deed.Made None a c i hr) p e = cc
made-named h l o _ p e = cc

old-making : (x : Option Making) (o : ℕ) (y : Option Making) → made_by x o ≡ false → made_or x o y ≡ y
old-making None o y e = refl
old-making (Some m) o y e = ap (λ (b : Bool). cond b (Some m) y) e

or-no : (p q : Bool) → p ≡ false → q ≡ false → (p || q) ≡ false
or-no true q e f = cc
or-no false q e f = f

or-yes : (p q : Bool) → p ≡ false → (p || q) ≡ true → q ≡ true
or-yes true q e f = cc
or-yes false q e f = f

live-step : (s : Scenario) (h : List Entry) (e : Entry) (o : ℕ) → Formed s → legal s (e ∷ h) → ((books s h).live o ≡ true → ended h (named h o) ≡ false) → (books s (e ∷ h)).live o ≡ true → ended (e ∷ h) (named (e ∷ h) o) ≡ false
live-step s h e o f p ih z =
    let b : Books = most s (ground s (e ∷ h)) (scene s (e ∷ h)) (act s h e.lane) (λ c. is_leave (ending s h c)) (number_or_zero (running s h e.lane)) e.deed (books s h) in
    let q : ((made_by (makes e.deed) o || b.live o) ≡ true) × (is_number (named (e ∷ h) o) (ends_sta e.deed) ≡ false) =
    live-parts (made_by (makes e.deed) o) (b.live o) (is_number o (disconnects e.deed)) (is_number (named (e ∷ h) o) (ends_sta e.deed)) (all_places s (ground s (e ∷ h)) (scene s (e ∷ h)) o + held_outside b o == 0) z in
    let same : b.live o ≡ (books s h).live o = most-live s (ground s (e ∷ h)) (scene s (e ∷ h)) (act s h e.lane) (λ c. is_leave (ending s h c)) (number_or_zero (running s h e.lane)) e.deed (books s h) o in
    or-no (is_number (named (e ∷ h) o) (ends_sta e.deed)) (ended h (named (e ∷ h) o)) q.1 (by-made (b.live o) (made_by (makes e.deed) o) same refl q.0)
  where
    by-made : (x y : Bool) → x ≡ (books s h).live o → made_by (makes e.deed) o ≡ y → (y || x) ≡ true → ended h (named (e ∷ h) o) ≡ false
    by-made x true k y w = made-named h e.lane o e.deed (made-lasting s h e.lane e.deed f p.0 (next-source s h e.lane e.deed p.1)) y
    by-made x false k y w = ap (λ (m : Option Making). ended h (named-of m)) (old-making (makes e.deed) o (making h o) y) ∙ ih (sym k ∙ w)

pub live-lasting : (s : Scenario) (h : List Entry) (o : ℕ) → Formed s → legal s h → (books s h).live o ≡ true → ended h (named h o) ≡ false
live-lasting s [] o f p z = cc
live-lasting s (e ∷ h) o f p z = live-step s h e o f p (live-lasting s h o f p.0) z

-- ---- each STA that has not ended is a thread's home

pub record HomeOf (s : Scenario) (h : List Entry) (a : ℕ) : Type 0 where
  pub lane : ℕ
  pub thread : lane_sort s lane ≡ Thread
  pub is : thread_home h lane ≡ Some a

carried : (s : Scenario) (h : List Entry) (e : Entry) (a : ℕ) → ((m : ℕ) → thread_home h m ≡ Some a → thread_home (e ∷ h) m ≡ Some a) → HomeOf s h a → HomeOf s (e ∷ h) a
carried s h e a f k = record { lane = k.lane; thread = k.thread; is = f k.lane k.is }

pub none-and-some : {A : Type 0} (a : ℕ) (x : Option ℕ) → x ≡ None → x ≡ Some a → A
none-and-some a None e p = cc
none-and-some a (Some b) e p = cc

initialises : (d : Deed) (a : ℕ) (hr : HResult) → home_effect d ≡ Initialises a hr → is_homes d ≡ true
initialises (deed.Init m b x) a hr e = refl
initialises (deed.Uninit b n) a hr e = cc
initialises _ a hr e = cc

itself : (a : ℕ) → 3 ≤ a → is_number a (sta_of (Some a)) ≡ true
itself a p = by-test (is_sta a) (sta a p)
  where
    sta : (a : ℕ) → 3 ≤ a → is_sta a ≡ true
    sta a p = grind (arith, common_steps, p)

    by-test : (b : Bool) → b ≡ true → is_number a (where_true b a) ≡ true
    by-test true e = same-number a
    by-test false e = cc

pub either-lane : (P : Type 0) (b : Bool) → (b ≡ true → P) → (b ≡ false → P) → P
either-lane P true f g = f refl
either-lane P false f g = g refl

pub at-lane : (h : List Entry) (e : Entry) (m a : ℕ) → (e.lane == m) ≡ true → thread_home h m ≡ Some a → thread_home h e.lane ≡ Some a
at-lane h e m a y q = subst (λ (i : ℕ). thread_home h i ≡ Some a) (sym (eqb-true e.lane m y)) q

home-carried : (s : Scenario) (h : List Entry) (e : Entry) (a : ℕ) → 3 ≤ a → is_number a (ends_sta e.deed) ≡ false → HomeStep h e.lane e.deed → (m : ℕ) → thread_home h m ≡ Some a → thread_home (e ∷ h) m ≡ Some a
home-carried s h e a low n (remains z i k) m q = either-lane _ (e.lane == m) (λ y. home-of-own h e m Remains y z ∙ q) (λ y. home-of-other h e m y ∙ q)
home-carried s h e a low n (again b hr z w i k) m q =
    either-lane _ (e.lane == m) (λ y. home-of-own h e m (Initialises b hr) y z ∙ sym w ∙ at-lane h e m a y q) (λ y. home-of-other h e m y ∙ q)
home-carried s h e a low n (to_mta hr z w o i k) m q = either-lane _ (e.lane == m) (λ y. none-and-some a (thread_home h e.lane) w (at-lane h e m a y q)) (λ y. home-of-other h e m y ∙ q)
home-carried s h e a low n (makes_one hr z w o i k) m q = either-lane _ (e.lane == m) (λ y. none-and-some a (thread_home h e.lane) w (at-lane h e m a y q)) (λ y. home-of-other h e m y ∙ q)
home-carried s h e a low n (lowers x j z w i k) m q =
    either-lane _ (e.lane == m) (λ y. home-of-own h e m (Uninitialises x (suc j)) y z ∙ w ∙ at-lane h e m a y q) (λ y. home-of-other h e m y ∙ q)
home-carried s h e a low n (leaves x z w i k) m q =
    either-lane _ (e.lane == m)
    (λ y. absurd (not-both (is_number a (ends_sta e.deed)) (ap (λ (r : Option ℕ). is_number a r) (k ∙ ap sta_of (w ∙ at-lane h e m a y q)) ∙ itself a low) n))
    (λ y. home-of-other h e m y ∙ q)

sta-step : (s : Scenario) (h : List Entry) (e : Entry) (a : ℕ) → 3 ≤ a → a < next_sta (e ∷ h) → is_number a (ends_sta e.deed) ≡ false → (is_homes e.deed ≡ true → lane_sort s e.lane ≡ Thread) → (a < next_sta h → HomeOf s h a) → HomeStep h e.lane e.deed → HomeOf s (e ∷ h) a
sta-step s h e a low high n t ih (remains z i k) = carried s h e a (home-carried s h e a low n (remains z i k)) (ih (subst (λ (x : ℕ). a < x) (none-made h e i) high))
sta-step s h e a low high n t ih (again b hr z w i k) = carried s h e a (home-carried s h e a low n (again b hr z w i k)) (ih (subst (λ (x : ℕ). a < x) (none-made h e i) high))
sta-step s h e a low high n t ih (to_mta hr z w o i k) = carried s h e a (home-carried s h e a low n (to_mta hr z w o i k)) (ih (subst (λ (x : ℕ). a < x) (none-made h e i) high))
sta-step s h e a low high n t ih (lowers x j z w i k) = carried s h e a (home-carried s h e a low n (lowers x j z w i k)) (ih (subst (λ (y : ℕ). a < y) (none-made h e i) high))
sta-step s h e a low high n t ih (leaves x z w i k) = carried s h e a (home-carried s h e a low n (leaves x z w i k)) (ih (subst (λ (y : ℕ). a < y) (none-made h e i) high))
sta-step s h e a low high n t ih (makes_one hr z w o i k) = by-test (nat_le (a + 1) (next_sta h)) refl
  where
    below : nat_le (a + 1) (next_sta h) ≡ true → a < next_sta h
    below y = grind (arith, common_steps, y)

    newest : nat_le (a + 1) (next_sta h) ≡ false → next_sta h ≡ a
    newest y = let r : a < next_sta h + 1 = subst (λ (x : ℕ). a < x) (one-made h e (next_sta h) i) high in let v : next_sta h ≤ a = grind (arith, common_steps, y) in omega (arith, r, v)

    by-test : (b : Bool) → nat_le (a + 1) (next_sta h) ≡ b → HomeOf s (e ∷ h) a
    by-test true y = carried s h e a (home-carried s h e a low n (makes_one hr z w o i k)) (ih (below y))
    by-test false y = record {
      lane = e.lane;
      thread = t (initialises e.deed (next_sta h) hr z);
      is = home-of-own h e e.lane (Initialises (next_sta h) hr) (same-number e.lane) z ∙ ap (λ (x : ℕ). Some x) (newest y);
    }

pub sta-home : (s : Scenario) (h : List Entry) (a : ℕ) → Formed s → legal s h → 3 ≤ a → a < next_sta h → ended h a ≡ false → HomeOf s h a
sta-home s [] a f p low high n = absurd (omega (arith, low, high))
sta-home s (e ∷ h) a f p low high n =
    let q : (is_number a (ends_sta e.deed) ≡ false) × (ended h a ≡ false) = neither (is_number a (ends_sta e.deed)) (ended h a) n in
    sta-step s h e a low high q.0 (source-thread s f h e.lane e.deed (next-source s h e.lane e.deed p.1)) (λ k. sta-home s h a f p.0 low k q.1) (next-home s h e f p)
