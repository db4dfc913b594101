-- The sinks of a source after a history, and what each call of `fire` has to do.
--
-- A sink is taken by the Leave of `advise` with S_OK, under the result as its cookie, and lost by the Leave
-- of `unadvise` with S_OK. For a call of `fire` the last cookie is how many sinks the source had taken before
-- the call was entered. The Outs of its body go, one after another, each to the first sink that the source
-- has before it, whose cookie is above that of the Out before it and at most the last one. Where there is
-- none the body leaves, with the number of its Outs as result.
use Rattle.std.specs.Prelude.{◌≡◌, ℕ, ◌+◌, ℤ, pos, Bool, true, false, ◌&&◌, ◌==◌, if◌then◌else◌, List, []}
use Rattle.std.specs.Prelude.{◌∷◌, ◌++◌, length, Option, Some, None}
use Rattle.com_base.specs.declared.hresult.HResult.{HResult}
use Rattle.com_base.specs.declared.value.RefValue.{RefValue}
use Rattle.com_base.specs.declared.value.Value.{Value}
use Rattle.com_base.specs.declared.value.Value.TheVariants as value
use Rattle.com_body.specs.Operands.{number_in}
use Rattle.com_model.specs.declared.deeds.Deed.{Deed}
use Rattle.com_model.specs.declared.deeds.Deed.TheVariants as deed
use Rattle.com_model.specs.declared.deeds.Entry.{Entry}
use Rattle.com_model.specs.declared.scenario.Scenario.{Scenario}
use Rattle.com_model.specs.Answers.{S_OK, is_S_OK}
use Rattle.com_model.specs.Lists.{first, is_number}
use Rattle.com_model.specs.Openers.{openers, top_call}
use Rattle.com_model.specs.Objects.{class_of}
use Rattle.com_model.specs.Calls.{issue}
use Rattle.com_model.specs.declared.keeps.Issue.{Issue}
use Rattle.com_model.specs.Deeds.{cookie_number, object_in}
use Rattle.com_laws_sources.specs.Sinks.{Sink, without, first_between}
use Rattle.com_laws_sources.specs.Sources.{IsSource, advise, unadvise, fire}

-- ---- calls

-- The values with which a call was entered.
abbrev pub enter_values : Deed → ℕ → List Value → List Value
enter_values (deed.Enter d o a t vs) c before = if d == c then vs else before
enter_values _ c before = before

-- The values with which a call was entered in a history, and none where it was not entered.
abbrev pub given_to : List Entry → ℕ → List Value
given_to [] c = []
given_to (e ∷ h) c = enter_values e.deed c (given_to h c)

-- The reference that stands first, which `advise` takes as a sink. None where it is null, or there is none.
abbrev pub first_reference : List Value → Option RefValue
first_reference (value.Ref held ∷ vs) = held
first_reference _ = None

-- The number of the first value, which `unadvise` takes as a cookie. It is 0 where there is none.
abbrev pub first_number : List Value → ℤ
first_number [] = pos 0
first_number (v ∷ vs) = number_in v

-- Whether a call was issued on a method of an object.
abbrev pub is_on : Option Issue → (object iface method : ℕ) → Bool
is_on None o i m = false
is_on (Some x) o i m = is_number o x.object && (x.iface == i && x.method == m)

-- ---- the sinks of an object with this interface of a source

-- What an entry does to the sinks of a source: it takes one more, or loses the one with this cookie, or neither.
pub data Change : Type 0 where
  Takes : Sink → Change
  Loses : ℤ → Change
  Stays : Change

-- The cookie that `advise` answers: the number of its result, 0 where there is none or it is below 0.
abbrev pub result_cookie : Option Value → ℕ
result_cookie None = 0
result_cookie (Some v) = cookie_number (number_in v)

-- What the Leave of a call does to the sinks. With S_OK, `advise` takes the sink it was given, under its result as
-- the cookie, and `unadvise` loses the one with the cookie it was given. Any other Leave leaves them as they are.
abbrev pub leaving : List Entry → (object iface call : ℕ) → (ok : Bool) → Option Value → Change
leaving h o i c false v = Stays
leaving h o i c true v =
    if is_on (issue h c) o i advise
    then Takes (record { cookie = result_cookie v; held = first_reference (given_to h c) })
    else if is_on (issue h c) o i unadvise then Loses (first_number (given_to h c))
    else Stays

-- What a deed does to the sinks of an object, by calls on this interface. Only a Leave changes them.
abbrev pub change : List Entry → (object iface : ℕ) → Deed → Change
change h o i (deed.Leave c hr v bytes) = leaving h o i c (is_S_OK hr) v
change h o i _ = Stays

-- The sinks after a change. A new one stands behind the others, and those that stay keep their order.
abbrev pub changed : Change → List Sink → List Sink
changed (Takes x) xs = xs ++ (x ∷ [])
changed (Loses n) xs = without n xs
changed Stays xs = xs

-- The sinks of an object after a history, by calls on this interface, in the order in which they were taken.
abbrev pub sinks : List Entry → (object iface : ℕ) → List Sink
sinks [] o i = []
sinks (e ∷ h) o i = changed (change h o i e.deed) (sinks h o i)

-- How many sinks were taken.
abbrev pub one_taken : Change → ℕ → ℕ
one_taken (Takes x) n = n + 1
one_taken _ n = n

-- How many sinks an object took in a history. Those that it has lost since count too.
abbrev pub taken : List Entry → (object iface : ℕ) → ℕ
taken [] o i = 0
taken (e ∷ h) o i = one_taken (change h o i e.deed) (taken h o i)

-- ---- a call of `fire`

-- The last cookie of the call: how many sinks were taken before its Enter.
abbrev pub at_enter : Deed → (call now before : ℕ) → ℕ
at_enter (deed.Enter d o a t vs) c now before = if d == c then now else before
at_enter _ c now before = before

-- The last cookie of a call of `fire`, by the history, and 0 where the call was not entered.
abbrev pub last : List Entry → (object iface call : ℕ) → ℕ
last [] o i c = 0
last (e ∷ h) o i c = at_enter e.deed c (taken h o i) (last h o i c)

-- The cookie of the last of these sinks, 0 where there is none.
abbrev pub reached : List Sink → ℕ
reached [] = 0
reached (x ∷ []) = x.cookie
reached (x ∷ xs) = reached xs

-- Whether an entry is an Out of the body of the call.
abbrev pub sends : List Entry → ℕ → ℕ → Deed → Bool
sends h l c (deed.Out d o i m r k bytes) = is_number c (top_call (first (openers h l)))
sends h l c _ = false

-- The sinks to which an event went, after one more entry: an Out of the body adds the next sink, if there is one.
abbrev pub with_next : Bool → Option Sink → List Sink → List Sink
with_next true (Some x) xs = xs ++ (x ∷ [])
with_next true None xs = xs
with_next false x xs = xs

-- The sinks to which the Outs of the call went, by the sentence above.
abbrev pub visited : List Entry → (object iface call : ℕ) → List Sink
visited [] o i c = []
visited (e ∷ h) o i c =
    with_next (sends h e.lane c e.deed)
    (first_between (reached (visited h o i c)) (last h o i c) (sinks h o i)) (visited h o i c)

-- The sink to which the call's next Out has to go.
abbrev pub next_sink : List Entry → (object iface call : ℕ) → Option Sink
next_sink h o i c = first_between (reached (visited h o i c)) (last h o i c) (sinks h o i)

-- What the sentence says of an entry that is made by the body of a call of `fire`.
abbrev pub GoesTo : Option Sink → (object : Option ℕ) → (iface method : ℕ) → Type 0
GoesTo None o i m = ⊥
GoesTo (Some x) o i m = (o ≡ object_in x.held) × (i ≡ 1) × (m ≡ 0)

abbrev pub IsOver : Option Sink → (events : ℕ) → HResult → Option Value → Type 0
IsOver (Some x) n hr v = ⊥
IsOver None n hr v = (hr ≡ S_OK) × (v ≡ Some (value.Int (pos n)))

abbrev pub Delivers : List Entry → (object iface call : ℕ) → Deed → Type 0
Delivers h o i c (deed.Out d x j m r k bytes) = GoesTo (next_sink h o i c) x j m
Delivers h o i c (deed.Leave d hr v bytes) = IsOver (next_sink h o i c) (length (visited h o i c)) hr v
Delivers h o i c _ = Unit {0}

-- The sentence, of an entry and what stood before it.
abbrev pub Delivered : Scenario → List Entry → ℕ → Deed → Type 0
Delivered s h l d =
    (o i c : ℕ) → IsSource s (class_of h o) i → is_on (issue h c) o i fire ≡ true
    → top_call (first (openers h l)) ≡ Some c
    → Delivers h o i c d
