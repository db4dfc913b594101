-- How many of each there are after so many entries.
use Rattle.std.proofs.Common.{ap, arith, subst, eqb-true}
use Rattle.std.proofs.lemmas.List.{length-append, length-set}
use Rattle.std.proofs.lemmas.List.Sums.{sum_by-cons}
use Rattle.std.specs.Prelude.{◌≡◌, refl, ℕ, zero, suc, ◌+◌, ◌-◌, ◌*◌, ◌≤◌, pos, Bool, true, false, cond, not, ◌&&◌, ◌==◌, nat_le, List, [], ◌∷◌, ◌++◌, length, map, sum_by, Option, Some, None, is_some, All, slice_get, option_and_then}
use Rattle.com_base.specs.declared.value.Kind.{Kind}
use Rattle.com_base.specs.declared.value.RefValue.{RefValue}
use Rattle.com_base.specs.declared.value.Value.{Value}
use Rattle.com_base.specs.declared.value.Value.TheVariants as value
use Rattle.com_base.specs.declared.value.MarshalMode.{MarshalMode}
use Rattle.com_base.specs.declared.value.MarshalMode.TheVariants as marshal
use Rattle.com_body.specs.declared.actions.Action.{Action}
use Rattle.com_body.specs.declared.actions.Action.TheVariants as action
use Rattle.com_body.specs.declared.operands.Asked.TheVariants as asked
use Rattle.com_refs_books.specs.Counting.{count_if}
use Rattle.com_refs_books.specs.declared.keeps.Packet.{Packet}
use Rattle.com_refs_books.specs.declared.keeps.Cookie.{Cookie}
use Rattle.com_refs_books.specs.Changes.{Books, packet, Change, ToProxy, ToPacket, Split, Join, Return, ToCookie, Withdraw, Same, changed, Row, Makes, Takes, Asks, Marshals, Unmarshals, Drops, Registers, Revokes, marshal_change, unmarshal_change, change, marshal_all, entered_rows, set_from_one}
use Rattle.com_classes.specs.declared.interfaces.Interface.{Interface}
use Rattle.com_classes.specs.declared.interfaces.Method.{Method}
use Rattle.com_classes.specs.Lookups.{method_at}
use Rattle.com_model.specs.declared.deeds.Deed.{Deed}
use Rattle.com_model.specs.declared.deeds.Deed.TheVariants as deed
use Rattle.com_model.specs.declared.deeds.Entry.{Entry}
use Rattle.com_model.specs.declared.keeps.Making.{Making}
use Rattle.com_model.specs.declared.keeps.Opener.{Opener}
use Rattle.com_model.specs.declared.keeps.Opener.TheVariants.{Pumps, Waits, Enters}
use Rattle.com_model.specs.declared.keeps.Word.{Word}
use Rattle.com_model.specs.declared.scenario.Scenario.{Scenario}
use Rattle.com_model.specs.Answers.{is_S_OK, is_failure}
use Rattle.com_model.specs.Lists.{without_first, number_or_zero}
use Rattle.com_model.specs.Tables.{parameters}
use Rattle.com_model.specs.Openers.{Effect, Opens, Closes, Keeps, EndsPump, Backs, Leaves, effect_on, opened, openers, left_on, served}
use Rattle.com_model.specs.Apartments.{Remains, home_effect, home_effect_on, count_after, init_count, makes_sta, with_last, stas, running}
use Rattle.com_model.specs.Objects.{makes, one_more, objects}
use Rattle.com_model.specs.Calls.{issues, calls, draws, causes}
use Rattle.com_model.specs.Values.{sent_values, carried, result_list}
use Rattle.com_model.specs.Frames.{Scene, scene, act}
use Rattle.com_model.specs.Endings.{ending, is_leave}
use Rattle.com_model.specs.Places.{Ground, ground}
use Rattle.com_model.specs.Books.{out_values, rows, reply_rows, back_rows, kept, most, closed, books}
use Rattle.com_model.specs.Waiting.{Mail, MailEffect, Brings, Takes as TakesWord, Asks as AsksAbout, Forgets, Leaves as LeavesMail, mark_of, not_asked, asked_about, mail_effect, mail_after, mail}
use Rattle.com_model.specs.Formed.{IsMethod, IsInterface, EachFrom, Formed}
use Rattle.com_model.specs.Sight.{sight}
use Rattle.com_model.specs.Rules.{next, legal}
use Rattle.com_model.proofs.Fines.{cond-is}
use Rattle.com_laws_balance.proofs.Carries.{all-head, all-tail}
use Rattle.com_laws_ranges.proofs.Homes.{HomesSay, homes-say}

-- ---- calls, objects, STAs, causalities

one-most : (b : Bool) → count_if b ≤ 1
one-most true = omega arith
one-most false = omega arith

pub calls-few : (h : List Entry) → calls h ≤ length h
calls-few [] = omega arith
calls-few (e ∷ h) = let p : calls h ≤ length h = calls-few h in let q : count_if (is_some (issues e.lane e.deed)) ≤ 1 = one-most (is_some (issues e.lane e.deed)) in omega (arith, p, q)

pub causes-few : (h : List Entry) → causes h ≤ length h
causes-few [] = omega arith
causes-few (e ∷ h) = let p : causes h ≤ length h = causes-few h in let q : count_if (draws h e) ≤ 1 = one-most (draws h e) in omega (arith, p, q)

one-made : (m : Option Making) (n : ℕ) → one_more m n ≤ n + 1
one-made None n = omega arith
one-made (Some m) n = omega arith

pub objects-few : (h : List Entry) → objects h ≤ length h
objects-few [] = omega arith
objects-few (e ∷ h) = let p : objects h ≤ length h = objects-few h in let q : one_more (makes e.deed) (objects h) ≤ objects h + 1 = one-made (makes e.deed) (objects h) in omega (arith, p, q)

last-more : (xs : List ℕ) (o : Option ℕ) → length (with_last xs o) ≤ length xs + 1
last-more xs None = omega arith
last-more xs (Some x) = let e : length (xs ++ x ∷ []) ≡ length xs + length (x ∷ []) = length-append xs (x ∷ []) in omega (arith, e)

pub stas-few : (h : List Entry) → length (stas h) ≤ length h
stas-few [] = omega arith
stas-few (e ∷ h) = let p : length (stas h) ≤ length h = stas-few h in let q : length (with_last (stas h) (makes_sta e.deed)) ≤ length (stas h) + 1 = last-more (stas h) (makes_sta e.deed) in omega (arith, p, q)

-- ---- a lane's openers, served bodies, initialisations and words

rest-less : (os : List Opener) → length (without_first os) ≤ length os
rest-less [] = omega arith
rest-less (o ∷ os) = omega arith

opened-more : (x : Effect) (os : List Opener) → length (opened x os) ≤ length os + 1
opened-more (Opens o) os = omega arith
opened-more (Closes k) os = let p : length (without_first os) ≤ length os = rest-less os in omega (arith, p)
opened-more Keeps os = omega arith

pub openers-few : (h : List Entry) (l : ℕ) → length (openers h l) ≤ length h
openers-few [] l = omega arith
openers-few (e ∷ h) l = let p : length (openers h l) ≤ length h = openers-few h l in let q : length (opened (effect_on l e) (openers h l)) ≤ length (openers h l) + 1 = opened-more (effect_on l e) (openers h l) in omega (arith, p, q)

left-more : (x : Effect) (os : List Opener) (n : ℕ) → left_on x os n ≤ n + 1
left-more (Opens (Pumps b)) os n = omega arith
left-more (Opens (Waits c)) os n = omega arith
left-more (Opens (Enters c o a)) os n = omega arith
left-more (Closes (Leaves c)) [] n = omega arith
left-more (Closes (Leaves c)) (Pumps b ∷ []) n = omega arith
left-more (Closes (Leaves c)) (Pumps b ∷ (o ∷ os)) n = omega arith
left-more (Closes (Leaves c)) (Waits k ∷ os) n = omega arith
left-more (Closes (Leaves c)) (Enters k o a ∷ os) n = omega arith
left-more (Closes (Backs c)) os n = omega arith
left-more (Closes EndsPump) os n = omega arith
left-more Keeps os n = omega arith

pub served-few : (h : List Entry) (l : ℕ) → served h l ≤ length h
served-few [] l = omega arith
served-few (e ∷ h) l = let p : served h l ≤ length h = served-few h l in let q : left_on (effect_on l e) (openers (e ∷ h) l) (served h l) ≤ served h l + 1 = left-more (effect_on l e) (openers (e ∷ h) l) (served h l) in omega (arith, p, q)

failed-more : (b : Bool) (n : ℕ) → cond b n (n + 1) ≤ n + 1
failed-more true n = omega arith
failed-more false n = omega arith

count-more : (s : Scenario) (h : List Entry) (l : ℕ) (d : Deed) → HomesSay s (sight s h) l d → count_after (home_effect d) (init_count h l) ≤ init_count h l + 1
count-more s h l (deed.Init m a hr) p = failed-more (is_failure hr) (init_count h l)
count-more s h l (deed.Uninit home k) p = let e : k ≡ init_count h l - 1 = p in omega (arith, e)
count-more s h l _ p = omega arith

count-on : (s : Scenario) (h : List Entry) (e : Entry) (l : ℕ) (t : Bool) → (e.lane == l) ≡ t → next s h e.lane ≡ Some e.deed → count_after (cond t (home_effect e.deed) Remains) (init_count h l) ≤ init_count h l + 1
count-on s h e l true z q = count-more s h l e.deed (subst (λ (k : ℕ). HomesSay s (sight s h) k e.deed) (eqb-true e.lane l z) (homes-say s h e.lane e.deed q))
count-on s h e l false z q = omega arith

pub counts-few : (s : Scenario) (h : List Entry) (l : ℕ) → legal s h → init_count h l ≤ length h
counts-few s [] l q = omega arith
counts-few s (e ∷ h) l q =
    let p : init_count h l ≤ length h = counts-few s h l q.0 in
    let r : count_after (home_effect_on l e) (init_count h l) ≤ init_count h l + 1 = count-on s h e l (e.lane == l) refl q.1 in
    omega (arith, p, r)

asked-more : (c n : ℕ) (w : Option Word) (m : Mail) → (asked_about c n w m).posted ≤ m.posted + 1
asked-more c n None m = omega arith
asked-more c n (Some w) m = omega arith

posted-more : (x : MailEffect) (m : Mail) → (mail_after x m).posted ≤ m.posted + 1
posted-more (Brings w) m = omega arith
posted-more TakesWord m = omega arith
posted-more (AsksAbout c n) m = asked-more c n (not_asked (mark_of m.marks c) m.words) m
posted-more (Forgets c) m = omega arith
posted-more LeavesMail m = omega arith

pub posted-few : (h : List Entry) (l : ℕ) → (mail h l).posted ≤ length h
posted-few [] l = omega arith
posted-few (e ∷ h) l =
    let p : (mail h l).posted ≤ length h = posted-few h l in
    let q : (mail_after (mail_effect l (e.lane == l) e.deed) (mail h l)).posted ≤ (mail h l).posted + 1 = posted-more (mail_effect l (e.lane == l) e.deed) (mail h l) in
    omega (arith, p, q)

-- ---- packets and cookies

record Adds (b c : Books) (p g : ℕ) : Type 0 where
  packets : length c.packets ≤ length b.packets + p
  cookies : length c.cookies ≤ length b.cookies + g

abbrev new_packets : Change → ℕ
new_packets (ToPacket m o i n) = 1
new_packets (Split a o i n) = 1
new_packets _ = 0

abbrev new_cookies : Change → ℕ
new_cookies (ToCookie o i n) = 1
new_cookies _ = 0

set-length : {X : Type 0} (xs : List X) (k : ℕ) (x : X) → length (set_from_one xs k x) ≡ length xs
set-length xs zero x = refl
set-length xs (suc k) x = length-set xs k x

as-many : (m n : ℕ) → m ≡ n → m ≤ n + 0
as-many m n e = omega (arith, e)

one-longer : {X : Type 0} (xs : List X) (x : X) → length (xs ++ x ∷ []) ≤ length xs + 1
one-longer xs x = let e : length (xs ++ x ∷ []) ≡ length xs + length (x ∷ []) = length-append xs (x ∷ []) in omega (arith, e)

changed-adds : (b : Books) (c : Change) → Adds b (changed b c) (new_packets c) (new_cookies c)
changed-adds b (ToProxy a o i n) = record { packets = omega arith; cookies = omega arith }
changed-adds b (ToPacket m o i n) = record { packets = one-longer b.packets _; cookies = omega arith }
changed-adds b (Split a o i n) = record { packets = one-longer b.packets _; cookies = omega arith }
changed-adds b (Join a p) = record { packets = as-many _ _ (set-length b.packets p _); cookies = omega arith }
changed-adds b (Return p) = record { packets = as-many _ _ (set-length b.packets p _); cookies = omega arith }
changed-adds b (ToCookie o i n) = record { packets = omega arith; cookies = one-longer b.cookies _ }
changed-adds b (Withdraw g) = record { packets = omega arith; cookies = as-many _ _ (set-length b.cookies g _) }
changed-adds b Same = record { packets = omega arith; cookies = omega arith }

abbrev row_packets : Row → ℕ
row_packets (Marshals a m o i) = 1
row_packets _ = 0

abbrev row_cookies : Row → ℕ
row_cookies (Registers o i) = 1
row_cookies _ = 0

abbrev Within : ℕ → ℕ → Change → Type 0
Within p g c = (new_packets c ≤ p) × (new_cookies c ≤ g)

either-within : (p g : ℕ) (b : Bool) (c d : Change) → Within p g c → Within p g d → Within p g (cond b c d)
either-within p g b c d x y = cond-is (Within p g) b c d x y

packet-within : (o i n : ℕ) (m : MarshalMode) → Within 1 0 (ToPacket m o i n)
packet-within o i n m = (omega arith, omega arith)

none-within : (p g : ℕ) (c : Change) → new_packets c ≡ 0 → new_cookies c ≡ 0 → Within p g c
none-within p g c e f = (omega (arith, e), omega (arith, f))

marshal-within : (m : MarshalMode) (owned : Bool) (n a o i : ℕ) → Within 1 0 (marshal_change m owned n a o i)
marshal-within marshal.Normal owned n a o i =
    either-within 1 0 owned _ _ (packet-within o i 5 marshal.Normal) (either-within 1 0 (nat_le 2 n) _ _ (omega arith, omega arith) (packet-within o i 5 marshal.Normal))
marshal-within marshal.Strong owned n a o i = packet-within o i 1 marshal.Strong
marshal-within marshal.Weak owned n a o i = packet-within o i 0 marshal.Weak

unmarshal-within : (m : MarshalMode) (owned : Bool) (a p o i : ℕ) → Within 0 0 (unmarshal_change m owned a p o i)
unmarshal-within marshal.Normal owned a p o i = either-within 0 0 owned (Return p) (Join a p) (none-within 0 0 (Return p) refl refl) (none-within 0 0 (Join a p) refl refl)
unmarshal-within marshal.Strong owned a p o i = either-within 0 0 owned Same (ToProxy a o i 5) (none-within 0 0 Same refl refl) (none-within 0 0 (ToProxy a o i 5) refl refl)
unmarshal-within marshal.Weak owned a p o i = either-within 0 0 owned Same (ToProxy a o i 5) (none-within 0 0 Same refl refl) (none-within 0 0 (ToProxy a o i 5) refl refl)

change-within : (owned : ℕ → ℕ → Bool) (b : Books) (r : Row) → Within (row_packets r) (row_cookies r) (change owned b r)
change-within owned b (Makes a o i) = either-within 0 0 (owned o a) Same (ToProxy a o i 5) (none-within 0 0 Same refl refl) (none-within 0 0 (ToProxy a o i 5) refl refl)
change-within owned b (Takes a o i) = either-within 0 0 (b.live o && not (owned o a)) (ToProxy a o i 5) Same (none-within 0 0 (ToProxy a o i 5) refl refl) (none-within 0 0 Same refl refl)
change-within owned b (Asks a o i) = either-within 0 0 (b.live o && (not (owned o a) && b.proxy a o i == 0)) (ToProxy a o i 5) Same (none-within 0 0 (ToProxy a o i 5) refl refl) (none-within 0 0 Same refl refl)
change-within owned b (Marshals a m o i) = either-within 1 0 (b.live o) _ Same (marshal-within m (owned o a) (b.proxy a o i) a o i) (none-within 1 0 Same refl refl)
change-within owned b (Unmarshals a p) =
    either-within 0 0 (packet b p).outstanding _ Same (unmarshal-within (packet b p).mode (owned (packet b p).object a) a p (packet b p).object (packet b p).iface) (none-within 0 0 Same refl refl)
change-within owned b (Drops p) = either-within 0 0 (packet b p).outstanding (Return p) Same (none-within 0 0 (Return p) refl refl) (none-within 0 0 Same refl refl)
change-within owned b (Registers o i) = either-within 0 1 (b.live o) (ToCookie o i 1) Same (omega arith, omega arith) (none-within 0 1 Same refl refl)
change-within owned b (Revokes g) = none-within 0 0 (Withdraw g) refl refl

row-adds : (owned : ℕ → ℕ → Bool) (b : Books) (r : Row) → Adds b (changed b (change owned b r)) (row_packets r) (row_cookies r)
row-adds owned b r =
    let k : Within (row_packets r) (row_cookies r) (change owned b r) = change-within owned b r in
    let p : new_packets (change owned b r) ≤ row_packets r = k.0 in
    let g : new_cookies (change owned b r) ≤ row_cookies r = k.1 in
    let z : Adds b (changed b (change owned b r)) (new_packets (change owned b r)) (new_cookies (change owned b r)) = changed-adds b (change owned b r) in
    let x : length (changed b (change owned b r)).packets ≤ length b.packets + new_packets (change owned b r) = z.packets in
    let y : length (changed b (change owned b r)).cookies ≤ length b.cookies + new_cookies (change owned b r) = z.cookies in
    record { packets = omega (arith, p, x); cookies = omega (arith, g, y) }

adds-both : (b c d : Books) (p q g k : ℕ) → Adds b c p g → Adds c d q k → Adds b d (p + q) (g + k)
adds-both b c d p q g k x y =
    let a : length c.packets ≤ length b.packets + p = x.packets in
    let e : length d.packets ≤ length c.packets + q = y.packets in
    let f : length c.cookies ≤ length b.cookies + g = x.cookies in
    let i : length d.cookies ≤ length c.cookies + k = y.cookies in
    record { packets = omega (arith, a, e); cookies = omega (arith, f, i) }

rows-add : (owned : ℕ → ℕ → Bool) (rs : List Row) (b : Books) → Adds b (entered_rows owned b rs) (sum_by row_packets rs) (sum_by row_cookies rs)
rows-add owned [] b = record { packets = omega arith; cookies = omega arith }
rows-add owned (r ∷ rs) b =
    let c : Books = changed b (change owned b r) in
    let z : Adds b (entered_rows owned c rs) (row_packets r + sum_by row_packets rs) (row_cookies r + sum_by row_cookies rs) = adds-both b c (entered_rows owned c rs) (row_packets r) (sum_by row_packets rs) (row_cookies r) (sum_by row_cookies rs) (row-adds owned b r) (rows-add owned rs c) in
    let e : sum_by row_packets (r ∷ rs) ≡ row_packets r + sum_by row_packets rs = sum_by-cons row_packets r rs in
    let f : sum_by row_cookies (r ∷ rs) ≡ row_cookies r + sum_by row_cookies rs = sum_by-cons row_cookies r rs in
    let x : length (entered_rows owned c rs).packets ≤ length b.packets + (row_packets r + sum_by row_packets rs) = z.packets in
    let y : length (entered_rows owned c rs).cookies ≤ length b.cookies + (row_cookies r + sum_by row_cookies rs) = z.cookies in
    record { packets = omega (arith, e, x); cookies = omega (arith, f, y) }

-- ---- the rows of an entry

sent-length : (m : Bool) (live : ℕ → Bool) (ks : List Kind) (vs : List Value) → length (sent_values m live ks vs) ≡ length ks
sent-length m live [] vs = refl
sent-length m live (k ∷ ks) [] = let e : length (sent_values m live ks []) ≡ length ks = sent-length m live ks [] in omega (arith, e)
sent-length m live (k ∷ ks) (v ∷ vs) = let e : length (sent_values m live ks vs) ≡ length ks = sent-length m live ks vs in omega (arith, e)

method-few : (n : ℕ) (ms : List Method) (m : ℕ) → All (IsMethod n) ms → length (parameters (slice_get ms m)) ≤ 4
method-few n [] m p = omega arith
method-few n (x ∷ xs) zero p = (all-head (IsMethod n) x xs p).2
method-few n (x ∷ xs) (suc m) p = method-few n xs m (all-tail (IsMethod n) x xs p)

each-few : (n : ℕ) (xs : List Interface) (i m : ℕ) → EachFrom IsInterface n xs → length (parameters (option_and_then (λ (k : Interface). slice_get k.methods m) (slice_get xs i))) ≤ 4
each-few n [] i m p = omega arith
each-few n (x ∷ xs) zero m p = method-few n x.methods m p.0.1
each-few n (x ∷ xs) (suc i) m p = each-few (n + 1) xs i m p.1

-- No method has more than four parameters.
pub parameters-few : (s : Scenario) → Formed s → (i m : ℕ) → length (parameters (method_at s.classes i m)) ≤ 4
parameters-few s f i m = each-few 0 s.classes.interfaces i m f.interfaces.each

pub out-few : (s : Scenario) → Formed s → (b : Books) (m : Bool) (x : Option Action) → length (out_values s b m x) ≤ 4
out-few s f b m (Some (action.Call held i k args to)) =
    let e : length (sent_values m b.live (parameters (method_at s.classes i k)) args) ≡ length (parameters (method_at s.classes i k)) = sent-length m b.live (parameters (method_at s.classes i k)) args in
    let p : length (parameters (method_at s.classes i k)) ≤ 4 = parameters-few s f i k in
    omega (arith, e, p)
out-few s f b m _ = omega arith

pub carried-few : (vs : List Value) → length (carried vs) ≤ length vs
carried-few [] = omega arith
carried-few (value.Ref (Some r) ∷ vs) = let e : length (carried vs) ≤ length vs = carried-few vs in omega (arith, e)
carried-few (value.Ref None ∷ vs) = let e : length (carried vs) ≤ length vs = carried-few vs in omega (arith, e)
carried-few (_ ∷ vs) = let e : length (carried vs) ≤ length vs = carried-few vs in omega (arith, e)

abbrev FewRows : List Row → Type 0
FewRows rs = (sum_by row_packets rs ≤ 4) × (sum_by row_cookies rs ≤ 1)

all-marshalled : (a : ℕ) (rs : List RefValue) → (sum_by row_packets (marshal_all a rs) ≡ length rs) × (sum_by row_cookies (marshal_all a rs) ≡ 0)
all-marshalled a [] = (refl, refl)
all-marshalled a (r ∷ rs) =
    let k : (sum_by row_packets (marshal_all a rs) ≡ length rs) × (sum_by row_cookies (marshal_all a rs) ≡ 0) = all-marshalled a rs in
    let p : sum_by row_packets (marshal_all a rs) ≡ length rs = k.0 in
    let g : sum_by row_cookies (marshal_all a rs) ≡ 0 = k.1 in
    let x : Row = Marshals a marshal.Normal r.object r.iface in
    let e : sum_by row_packets (x ∷ marshal_all a rs) ≡ 1 + sum_by row_packets (marshal_all a rs) = sum_by-cons row_packets x (marshal_all a rs) in
    let f : sum_by row_cookies (x ∷ marshal_all a rs) ≡ 0 + sum_by row_cookies (marshal_all a rs) = sum_by-cons row_cookies x (marshal_all a rs) in
    (omega (arith, p, e), omega (arith, g, f))

marshalled-few : (a : ℕ) (vs : List Value) → length vs ≤ 4 → FewRows (marshal_all a (carried vs))
marshalled-few a vs h =
    let k : length (carried vs) ≤ length vs = carried-few vs in
    let z : (sum_by row_packets (marshal_all a (carried vs)) ≡ length (carried vs)) × (sum_by row_cookies (marshal_all a (carried vs)) ≡ 0) = all-marshalled a (carried vs) in
    let p : sum_by row_packets (marshal_all a (carried vs)) ≡ length (carried vs) = z.0 in
    let g : sum_by row_cookies (marshal_all a (carried vs)) ≡ 0 = z.1 in
    (omega (arith, h, k, p), omega (arith, g))

all-unmarshalled : (y : ℕ) (ps : List ℕ) → (sum_by row_packets (map (λ p. Unmarshals y p) ps) ≡ 0) × (sum_by row_cookies (map (λ p. Unmarshals y p) ps) ≡ 0)
all-unmarshalled y [] = (refl, refl)
all-unmarshalled y (p ∷ ps) =
    let rs : List Row = map (λ p. Unmarshals y p) ps in
    let k : (sum_by row_packets rs ≡ 0) × (sum_by row_cookies rs ≡ 0) = all-unmarshalled y ps in
    let a : sum_by row_packets rs ≡ 0 = k.0 in
    let g : sum_by row_cookies rs ≡ 0 = k.1 in
    let e : sum_by row_packets (Unmarshals y p ∷ rs) ≡ 0 + sum_by row_packets rs = sum_by-cons row_packets (Unmarshals y p) rs in
    let f : sum_by row_cookies (Unmarshals y p ∷ rs) ≡ 0 + sum_by row_cookies rs = sum_by-cons row_cookies (Unmarshals y p) rs in
    (omega (arith, a, e), omega (arith, g, f))

no-rows : FewRows []
no-rows = (omega arith, omega arith)

one-row : (r : Row) → row_packets r ≤ 1 → row_cookies r ≤ 1 → FewRows (r ∷ [])
one-row r p g =
    let e : sum_by row_packets (r ∷ []) ≡ row_packets r + 0 = sum_by-cons row_packets r [] in
    let f : sum_by row_cookies (r ∷ []) ≡ row_cookies r + 0 = sum_by-cons row_cookies r [] in
    (omega (arith, p, e), omega (arith, g, f))

if-rows : (b : Bool) (xs ys : List Row) → FewRows xs → FewRows ys → FewRows (cond b xs ys)
if-rows b xs ys p q = cond-is FewRows b xs ys p q

pub result-few : (v : Option Value) → length (result_list v) ≤ 4
result-few None = omega arith
result-few (Some v) = omega arith

reply-few : (a : ℕ) (v : Option Value) (bytes : Option (List ℕ)) → FewRows (reply_rows a v bytes)
reply-few a v None = no-rows
reply-few a v (Some bytes) = marshalled-few a (result_list v) (result-few v)

back-few : (a : ℕ) (left : Bool) (p : Option ℕ) → FewRows (back_rows a left p)
back-few a left None = no-rows
back-few a left (Some p) = if-rows left (Unmarshals a p ∷ []) (Drops p ∷ []) (one-row (Unmarshals a p) (omega arith) (omega arith)) (one-row (Drops p) (omega arith) (omega arith))

rows-few : (s : Scenario) → Formed s → (x : Option Action) (left : ℕ → Bool) (b : Books) (a : ℕ) (d : Deed) → FewRows (rows s x left b a d)
rows-few s f x left b a (deed.Made (Some o) w k (asked.Number i) hr) = one-row (Makes a o i) (omega arith) (omega arith)
rows-few s f x left b a (deed.Query (Some o) (asked.Number i) hr) = if-rows (is_S_OK hr) (Asks a o i ∷ []) [] (one-row (Asks a o i) (omega arith) (omega arith)) no-rows
rows-few s f x left b a (deed.Marshal (Some p) m (Some r) refs hr bytes) = one-row (Marshals a m r.object r.iface) (omega arith) (omega arith)
rows-few s f x left b a (deed.Unmarshal (Some p) held refs hr) = one-row (Unmarshals a p) (omega arith) (omega arith)
rows-few s f x left b a (deed.DropPacket (Some p) hr) = one-row (Drops p) (omega arith) (omega arith)
rows-few s f x left b a (deed.Register (Some g) (Some r) hr) = one-row (Registers r.object r.iface) (omega arith) (omega arith)
rows-few s f x left b a (deed.Get g (Some r) refs hr) = one-row (Takes a r.object r.iface) (omega arith) (omega arith)
rows-few s f x left b a (deed.Revoke (pos g) hr) = if-rows (is_S_OK hr) (Revokes g ∷ []) [] (one-row (Revokes g) (omega arith) (omega arith)) no-rows
rows-few s f x left b a (deed.Out c o i m r k (Some bytes)) = marshalled-few a (out_values s b true x) (out-few s f b true x)
rows-few s f x left b a (deed.Enter c o y t vs) =
    let z : (sum_by row_packets (map (λ p. Unmarshals y p) (b.arguments c)) ≡ 0) × (sum_by row_cookies (map (λ p. Unmarshals y p) (b.arguments c)) ≡ 0) = all-unmarshalled y (b.arguments c) in
    let p : sum_by row_packets (map (λ p. Unmarshals y p) (b.arguments c)) ≡ 0 = z.0 in
    let g : sum_by row_cookies (map (λ p. Unmarshals y p) (b.arguments c)) ≡ 0 = z.1 in
    (omega (arith, p), omega (arith, g))
rows-few s f x left b a (deed.Leave c hr v bytes) = reply-few a v bytes
rows-few s f x left b a (deed.Back c hr v) = back-few a (left c) (b.result c)
rows-few s f x left b a _ = no-rows

kept-packets : (b : Books) (d : Deed) (c : Books) → ((kept b d c).packets ≡ c.packets) × ((kept b d c).cookies ≡ c.cookies)
kept-packets b (deed.Out c o i m r k bytes) x = (refl, refl)
kept-packets b (deed.Leave c hr v bytes) x = (refl, refl)
kept-packets b _ x = (refl, refl)

same-many : {X Y : Type 0} (f : X → Y) (xs : List X) → length (map f xs) ≡ length xs
same-many f [] = refl
same-many f (x ∷ xs) = let e : length (map f xs) ≡ length xs = same-many f xs in omega (arith, e)

books-add : (s : Scenario) (g : Ground) (w : Scene) (x : Option Action) (left : ℕ → Bool) (a : ℕ) (d : Deed) (b : Books) → Formed s → Adds b (closed s g w d (most s g w x left a d b)) 4 1
books-add s g w x left a d b f =
    let rs : List Row = rows s x left b a d in
    let c : Books = entered_rows g.owns b rs in
    let few : FewRows rs = rows-few s f x left b a d in
    let fp : sum_by row_packets rs ≤ 4 = few.0 in
    let fg : sum_by row_cookies rs ≤ 1 = few.1 in
    let z : Adds b c (sum_by row_packets rs) (sum_by row_cookies rs) = rows-add g.owns rs b in
    let zp : length c.packets ≤ length b.packets + sum_by row_packets rs = z.packets in
    let zg : length c.cookies ≤ length b.cookies + sum_by row_cookies rs = z.cookies in
    let kp : length (kept b d c).packets ≡ length c.packets = ap (λ (ps : List Packet). length ps) (kept-packets b d c).0 in
    let kg : length (kept b d c).cookies ≡ length c.cookies = ap (λ (gs : List Cookie). length gs) (kept-packets b d c).1 in
    let cp : length (closed s g w d (most s g w x left a d b)).packets ≡ length (kept b d c).packets = same-many _ (kept b d c).packets in
    let cg : length (closed s g w d (most s g w x left a d b)).cookies ≡ length (kept b d c).cookies = same-many _ (kept b d c).cookies in
    record { packets = omega (arith, fp, zp, kp, cp); cookies = omega (arith, fg, zg, kg, cg) }

-- How many packets and cookies the books have.
pub record FewBooks (b : Books) (n : ℕ) : Type 0 where
  pub packets : length b.packets ≤ 4 * n
  pub cookies : length b.cookies ≤ n

few-later : (b c : Books) (n : ℕ) → Adds b c 4 1 → FewBooks b n → FewBooks c (suc n)
few-later b c n x y =
    let xp : length c.packets ≤ length b.packets + 4 = x.packets in
    let xg : length c.cookies ≤ length b.cookies + 1 = x.cookies in
    let yp : length b.packets ≤ 4 * n = y.packets in
    let yg : length b.cookies ≤ n = y.cookies in
    record { packets = omega (arith, xp, yp); cookies = omega (arith, xg, yg) }

pub books-few : (s : Scenario) (h : List Entry) → Formed s → FewBooks (books s h) (length h)
books-few s [] f = record { packets = omega arith; cookies = omega arith }
books-few s (e ∷ h) f =
    few-later (books s h) _ (length h)
    (books-add s (ground s (e ∷ h)) (scene s (e ∷ h)) (act s h e.lane) (λ c. is_leave (ending s h c)) (number_or_zero (running s h e.lane)) e.deed (books s h) f)
    (books-few s h f)
