-- The next entry of a lane is such as the ledger asks for, where the ledger is tied to the lane's state.
use Rattle.std.proofs.Common.{◌≡◌, ℕ, zero, suc, Bool, true, false, cond, ◌==◌, ◌||◌, ◌&&◌, ◌+◌, ◌-◌, ◌*◌, ◌<◌, ◌≤◌, ◌^◌, List, [], ◌∷◌, length, refl, sym, ap, subst, ◌∙◌, arith}
use Rattle.std.proofs.lemmas.Grind.{common_steps}
use Rattle.std.specs.Prelude.{Option, Some, None, All, slice_get}
use Rattle.com_base.specs.declared.hresult.HResult.{HResult}
use Rattle.com_base.specs.declared.value.RefValue.{RefValue}
use Rattle.com_base.specs.declared.value.Value.{Value}
use Rattle.com_base.specs.declared.value.Value.TheVariants as value
use Rattle.com_body.specs.declared.actions.Action.{Action}
use Rattle.com_body.specs.declared.frame.Native.{Native}
use Rattle.com_body.specs.declared.frame.Native.TheVariants as native
use Rattle.com_body.specs.declared.frame.Outcome.{Outcome}
use Rattle.com_body.specs.declared.operands.Asked.{Asked}
use Rattle.com_body.specs.declared.operands.Asked.TheVariants as asked
use Rattle.com_classes.specs.declared.classes.Class.{Class}
use Rattle.com_classes.specs.Lookups.{class_at, has_interface}
use Rattle.com_model.specs.declared.deeds.Deed.{Deed}
use Rattle.com_model.specs.declared.deeds.Deed.TheVariants as deed
use Rattle.com_model.specs.declared.deeds.Entry.{Entry}
use Rattle.com_model.specs.declared.deeds.Route.{Route}
use Rattle.com_model.specs.declared.keeps.Making.{Making}
use Rattle.com_model.specs.declared.scenario.Scenario.{Scenario}
use Rattle.com_model.specs.Answers.{is_S_OK}
use Rattle.com_model.specs.Apartments.{next_sta}
use Rattle.com_refs_books.specs.Changes.{Books}
use Rattle.com_model.specs.Books.{out_values}
use Rattle.com_model.specs.Calls.{calls}
use Rattle.com_model.specs.Ends.{limit}
use Rattle.com_model.specs.Formed.{EachFrom, Formed, IsClass, IsNative}
use Rattle.com_model.specs.Deeds.{owned_by}
use Rattle.com_model.specs.Frames.{Actor, Scene, reference, scene, taken_in}
use Rattle.com_model.specs.Lists.{number_or_zero}
use Rattle.com_model.specs.Objects.{asked_number, makes, objects}
use Rattle.com_model.specs.Rules.{legal}
use Rattle.com_model.specs.State.{State, books_in, class_in, issue_in, next_of, owns_in, running_in, scene_in, sight_of}
use Rattle.com_model.specs.Values.{carried, result_list}
use Rattle.com_model.proofs.Fines.{FineBy}
use Rattle.com_model.proofs.Onces.{InRange, Names, call_named, named-in-range}
use Rattle.com_model.proofs.Scenes.{faces}
use Rattle.com_model.proofs.Sights.{same-class, same-next, same-scene, same-sight}
use Rattle.com_laws_balance.proofs.Makings.{fine-next}
use Rattle.com_laws_ranges.proofs.Numbers.{out-few}
use Rattle.com_laws_ranges.proofs.Standing.{limited}
use Rattle.com_laws_safety.proofs.Posted.{NewOut, next-new}
use Rattle.com_laws_values.specs.Held.{HeldBy, HoldsDeclared, IsDeclared, NamesBy, ResultBy, ValueBy}
use Rattle.com_laws_values.proofs.Laws.{acts-held, entry-names, legal-holds}
use Rattle.com_laws_values.proofs.Packets.{ActBy, values-by}
use Rattle.com_laws_values.proofs.Scenes.{OutBy, SceneBy, more-scene, outcome-by}
use Rattle.com_laws_values.proofs.Walks.{all-head, all-tail, more-result, more-value}
use Rattle.com_model.proofs.Goods.{all-of}
use Rattle.com_reference_moves.specs.Tables.{ground_at}
use Rattle.com_parts.specs.Tables.{PartTables}
use Rattle.com_laws_places.specs.Moves.{Move as Moving}
use Rattle.com_state.specs.After.{acting_in, step_in}
use Rattle.com_scene.specs.Ranges.{FitsDeed}
use Rattle.com_refs_holders.specs.Tables.{Tables, offers, owns_of}
use Rattle.com_stub.specs.StubRows.{is_connected}
use Rattle.com_turns.specs.Turns.{carried_with}
use Rattle.com_refs_rows.specs.Books.{Held}
use Rattle.com_refs_rows.specs.Entries.{tally}
use Rattle.com_refs_rows.specs.Fits.{FitsBooks, FitsRow, IsAsked, IsHeld}
use Rattle.com_refs_rows.specs.Moving.{AllKnown}
use Rattle.com_refs_rows.specs.Owners.{offers_made}
use Rattle.com_ledger.specs.Ties.{Ties}
use Rattle.com_core.specs.Making.{Brings}
use Rattle.com_core.specs.Stands.{IsReached}
use Rattle.com_core.proofs.Bringing.{AllMoves, CarriesBy, each_moved, gained_by, gained_few}
use Rattle.com_core.proofs.Fitting.{Ruled, live_held}

-- ---- lists

or-first : (a b : Bool) → a ≡ true → (a || b) ≡ true
or-first a b e = ap (λ (x : Bool). x || b) e

or-second : (a b : Bool) → b ≡ true → (a || b) ≡ true
or-second true b e = refl
or-second false b e = e

abbrev Offered : Tables → RefValue → Type 0
Offered t r = offers t r.object r.iface ≡ true

abbrev AllRefs : (R : RefValue → Type 0) → List RefValue → Type 0
AllRefs R [] = Unit {0}
AllRefs R (r ∷ rs) = R r × AllRefs R rs

carried-by : (R : RefValue → Type 0) (vs : List Value) → All (ValueBy R) vs → AllRefs R (carried vs)
carried-by R [] p = tt
carried-by R (value.Ref (Some r) ∷ vs) p = (all-head (ValueBy R) (value.Ref (Some r)) vs p, carried-by R vs (all-tail (ValueBy R) (value.Ref (Some r)) vs p))
carried-by R (value.Ref None ∷ vs) p = carried-by R vs (all-tail (ValueBy R) (value.Ref None) vs p)
carried-by R (value.Int x ∷ vs) p = carried-by R vs (all-tail (ValueBy R) (value.Int x) vs p)
carried-by R (value.Bool x ∷ vs) p = carried-by R vs (all-tail (ValueBy R) (value.Bool x) vs p)
carried-by R (value.Text x ∷ vs) p = carried-by R vs (all-tail (ValueBy R) (value.Text x) vs p)
carried-by R (value.Bytes x ∷ vs) p = carried-by R vs (all-tail (ValueBy R) (value.Bytes x) vs p)
carried-by R (value.Guid x ∷ vs) p = carried-by R vs (all-tail (ValueBy R) (value.Guid x) vs p)

carried-few : (vs : List Value) → length (carried vs) ≤ length vs
carried-few [] = omega arith
carried-few (value.Ref (Some r) ∷ vs) = omega (arith, carried-few vs)
carried-few (value.Ref None ∷ vs) = omega (arith, carried-few vs)
carried-few (value.Int x ∷ vs) = omega (arith, carried-few vs)
carried-few (value.Bool x ∷ vs) = omega (arith, carried-few vs)
carried-few (value.Text x ∷ vs) = omega (arith, carried-few vs)
carried-few (value.Bytes x ∷ vs) = omega (arith, carried-few vs)
carried-few (value.Guid x ∷ vs) = omega (arith, carried-few vs)

known : (t : Tables) (rs : List RefValue) → AllRefs (Offered t) rs → AllKnown t rs
known t [] p k h = absurd (omega (arith, h))
known t (r ∷ rs) p zero h = p.0
known t (r ∷ rs) p (suc k) h = known t rs p.1 k (omega (arith, h))

result-carried : (R : RefValue → Type 0) (v : Option Value) → ResultBy R v → AllRefs R (carried (result_list v))
result-carried R None p = tt
result-carried R (Some (value.Ref (Some r))) p = (p, tt)
result-carried R (Some (value.Ref None)) p = tt
result-carried R (Some (value.Int x)) p = tt
result-carried R (Some (value.Bool x)) p = tt
result-carried R (Some (value.Text x)) p = tt
result-carried R (Some (value.Bytes x)) p = tt
result-carried R (Some (value.Guid x)) p = tt

result-few : (v : Option Value) → length (carried (result_list v)) ≤ 1
result-few None = omega arith
result-few (Some v) = carried-few (v ∷ [])

-- ---- classes

native-few : (n : Native) (c : Class) → IsNative n c → length c.interfaces ≤ 16
native-few native.Bodies c p = p.1
native-few native.Counter c p = subst (λ (xs : List ℕ). length xs ≤ 16) (sym p.0) (omega arith)
native-few native.Relay c p = subst (λ (xs : List ℕ). length xs ≤ 16) (sym p.0) (omega arith)
native-few native.Latch c p = subst (λ (xs : List ℕ). length xs ≤ 16) (sym p.0) (omega arith)

same-some : (x y : Class) → Some x ≡ Some y → x ≡ y
same-some x y e = cc

none-some : (y : Class) → None ≡ Some y → ⊥
none-some y e = cc

each-few : (s : Scenario) (n : ℕ) (xs : List Class) (j : ℕ) (c : Class) → EachFrom (IsClass s) n xs → slice_get xs j ≡ Some c → length c.interfaces ≤ 16
each-few s n [] j c p e = absurd (none-some c e)
each-few s n (x ∷ xs) zero c p e = subst (λ (y : Class). length y.interfaces ≤ 16) (same-some x c e) (native-few x.native x p.0.1)
each-few s n (x ∷ xs) (suc j) c p e = each-few s (n + 1) xs j c p.1 e

class-few : (s : Scenario) (k : ℕ) (c : Class) → Formed s → class_at s.classes k ≡ Some c → length c.interfaces ≤ 16
class-few s k c f e = elim (k == 0) as (λ b. cond b None (slice_get s.classes.classes (k - 1)) ≡ Some c → length c.interfaces ≤ 16) [
  | true ↦ λ q. absurd (none-some c q)
  | false ↦ λ q. each-few s 1 s.classes.classes (k - 1) c f.classes.each q
] e

-- ---- numbers

room-left : (n m k : ℕ) → n ≤ 32 * m → m < k → k ≤ 1000000 → n + 32 ≤ 2 ^ 28
room-left n m k p q f = omega (arith, p, q, f)

-- ---- the entry that is next in a state

module _ (s : Scenario) (st : State) (r : IsReached s st) (l : ℕ) (d : Deed) (w : Held) (n : next_of s st l ≡ Some d) (t : Ties s st w) where
  abbrev h : List Entry
  h = r.history

  lawful : legal s (record { lane = l; deed = d } ∷ h)
  lawful = (r.stands.lawful, sym (same-next s st h l r.stands) ∙ n)

  names : NamesBy s (IsDeclared s h) d
  names = entry-names s h (record { lane = l; deed = d }) r.formed lawful

  fine : FineBy (objects h) (faces s) (next_sta h) d
  fine = fine-next s h (record { lane = l; deed = d }) r.formed lawful

  -- what is declared is in the sets
  offered : (x : RefValue) → IsDeclared s h x → Offered w.tables x
  offered x p = t.offers x.object x.iface (subst (λ (c : ℕ). has_interface s.classes c x.iface ≡ true) (sym (λ i. same-class st h r.stands.objects i x.object)) p.1)

  held-offered : (x : Option RefValue) → HeldBy (IsDeclared s h) x → IsHeld w.tables x
  held-offered None p = tt
  held-offered (Some x) p = offered x p

  refs-offered : (rs : List RefValue) → AllRefs (IsDeclared s h) rs → AllRefs (Offered w.tables) rs
  refs-offered [] p = tt
  refs-offered (x ∷ rs) p = (offered x p.0, refs-offered rs p.1)

  declared : HoldsDeclared s h
  declared = legal-holds s h r.formed r.stands.lawful

  acted : ActBy (IsDeclared s h) ((sight_of s st).act l)
  acted = subst (λ (x : Option Action). ActBy (IsDeclared s h) x) (sym (λ i. (same-sight s st h r.stands i).act l)) (acts-held s h r.formed declared l)

  -- ---- its row

  making-fits : (o y : Option ℕ) (k i : Asked) (hr : HResult) → d ≡ deed.Made o y k i hr → Ruled s.classes w.tables.cookies w.tables.stubs (λ x. true) (deed.Made o y k i hr) → FitsRow s.classes [] 0 (tally w.tables w.calls) (deed.Made o y k i hr)
  making-fits None y k i hr e p = tt
  making-fits (Some o) None k i hr e p = absurd p
  making-fits (Some o) (Some y) (asked.Guid g) i hr e p = absurd p
  making-fits (Some o) (Some y) (asked.Number k) (asked.Guid g) hr e p = absurd p
  making-fits (Some o) (Some y) (asked.Number k) (asked.Number i) hr e p =
      let fit : FineBy (objects h) (faces s) (next_sta h) (deed.Made (Some o) (Some y) (asked.Number k) (asked.Number i) hr) = subst (λ (x : Deed). FineBy (objects h) (faces s) (next_sta h) x) e fine in
      let made : o ≡ objects h + 1 = fit.0 in
      record {
        next = omega (arith, made, t.objects.number, r.stands.objects.number);
        offered = p;
        small = λ c is. class-few s k c r.formed is;
      }

  asked-fits : (a : ℕ) (o : Option ℕ) (i : Asked) (hr : HResult) (b : Bool) → is_S_OK hr ≡ b → d ≡ deed.Query o i hr → (is_S_OK hr ≡ true → (x : ℕ) → o ≡ Some x → (owns_of w.tables.objects x a || is_connected w.tables.stubs x) ≡ true) → IsAsked w.tables a o i b
  asked-fits a None i hr b ok e p = tt
  asked-fits a (Some o) (asked.Guid g) hr b ok e p = tt
  asked-fits a (Some o) (asked.Number i) hr false ok e p = tt
  asked-fits a (Some o) (asked.Number i) hr true ok e p =
      let named : NamesBy s (IsDeclared s h) (deed.Query (Some o) (asked.Number i) hr) = subst (λ (x : Deed). NamesBy s (IsDeclared s h) x) e names in
      record { reached = p ok o refl; offered = offered (reference o i) (named ok) }

  out-fits : (c : ℕ) (o : Option ℕ) (i m : ℕ) (x : Route) (k : ℕ) (bytes : Option (List ℕ)) → d ≡ deed.Out c o i m x k bytes → c ≡ length w.calls + 1
  out-fits c o i m x k bytes e =
      let new : c ≡ calls h + 1 = subst (λ (y : Deed). NewOut (calls h) y) e (next-new s h l d lawful.1) in
      omega (arith, new, t.calls, r.stands.calls.number)

  left-fits : (c : ℕ) (hr : HResult) (v : Option Value) (bytes : Option (List ℕ)) → d ≡ deed.Leave c hr v bytes → (1 ≤ c) × (c ≤ length w.calls)
  left-fits c hr v bytes e =
      let named : Names (InRange (calls (record { lane = l; deed = d } ∷ h))) (call_named d) = named-in-range s h (record { lane = l; deed = d }) lawful in
      let here : InRange (calls (record { lane = l; deed = deed.Leave c hr v bytes } ∷ h)) c = subst (λ (y : Deed). Names (InRange (calls (record { lane = l; deed = y } ∷ h))) (call_named y)) e named in
      (here.0, omega (arith, here.1, t.calls, r.stands.calls.number))

  -- ---- what it carries

  refs-carried : (y : Deed) → d ≡ y → AllRefs (IsDeclared s h) (carried_with s (books_in st) ((sight_of s st).act l) y)
  refs-carried (deed.Out c o i m x k (Some bytes)) e = carried-by (IsDeclared s h) (out_values s (books_in st) true ((sight_of s st).act l)) (values-by s (IsDeclared s h) (books_in st) true ((sight_of s st).act l) acted)
  refs-carried (deed.Out c o i m x k None) e = tt
  refs-carried (deed.Leave c hr v (Some bytes)) e = result-carried (IsDeclared s h) v (subst (λ (x : Deed). NamesBy s (IsDeclared s h) x) e names)
  refs-carried (deed.Leave c hr v None) e = tt
  refs-carried _ e = tt

  abbrev carries : List RefValue
  carries = carried_with s (books_in st) ((sight_of s st).act l) d

  few-carried : (y : Deed) → length (carried_with s (books_in st) ((sight_of s st).act l) y) ≤ 4
  few-carried (deed.Out c o i m x k (Some bytes)) =
      omega (arith, carried-few (out_values s (books_in st) true ((sight_of s st).act l)), out-few s r.formed (books_in st) true ((sight_of s st).act l))
  few-carried (deed.Out c o i m x k None) = omega arith
  few-carried (deed.Leave c hr v (Some bytes)) = omega (arith, result-few v)
  few-carried (deed.Leave c hr v None) = omega arith
  few-carried _ = omega arith

  -- ---- the whole row

  row-fits : (rs : List RefValue) (a : ℕ) (f : ℕ → Bool) → ((x : ℕ) → f x ≡ true → (owns_of w.tables.objects x a || is_connected w.tables.stubs x) ≡ true) → AllKnown w.tables rs
      → (y : Deed) → d ≡ y → Ruled s.classes w.tables.cookies w.tables.stubs f y → FitsRow s.classes rs a (tally w.tables w.calls) y
  row-fits rs a f reach k (deed.Made o y c i hr) e p = making-fits o y c i hr e p
  row-fits rs a f reach k (deed.Query o i hr) e p = asked-fits a o i hr (is_S_OK hr) refl e (λ ok x is. reach x (p ok x is))
  row-fits rs a f reach k (deed.Marshal q m held refs hr bytes) e p = held-offered held (subst (λ (x : Deed). NamesBy s (IsDeclared s h) x) e names)
  row-fits rs a f reach k (deed.Register g held hr) e p = held-offered held (subst (λ (x : Deed). NamesBy s (IsDeclared s h) x) e names)
  row-fits rs a f reach k (deed.Get g held refs hr) e p = p
  row-fits rs a f reach k (deed.Out c o i m x j bytes) e p = record { next = out-fits c o i m x j bytes e; known = k }
  row-fits rs a f reach k (deed.Leave c hr v bytes) e p = record { some = (left-fits c hr v bytes e).0; issued = (left-fits c hr v bytes e).1; known = k }
  row-fits rs a f reach k _ e p = tt

  pub fits_next : (rs : List RefValue) (a : ℕ) → a ≡ number_or_zero (running_in s st l) → rs ≡ carried_with s (books_in st) ((sight_of s st).act l) d
      → Ruled s.classes w.tables.cookies w.tables.stubs (λ o. owned_by (sight_of s st) l o || (sight_of s st).books.live o) d → st.entries < limit s → FitsBooks s.classes rs a (tally w.tables w.calls) d
  fits_next rs a run is ruled few =
      let reach : (x : ℕ) → (owns_of w.tables.objects x a || is_connected w.tables.stubs x) ≡ (owns_in s st x (number_or_zero (running_in s st l)) || (books_in st).live x) =
      λ x i. (t.objects.owns x a ∙ ap (λ (c : ℕ). owns_in s st x c) run) i || (sym (live_held w x) ∙ ap (λ (b : Books). b.live x) t.books) i in
      let all : AllKnown w.tables rs = subst (λ (l : List RefValue). AllKnown w.tables l) (sym is) (known w.tables carries (refs-offered carries (refs-carried d refl))) in
      record {
        row = row-fits rs a (λ o. owned_by (sight_of s st) l o || (sight_of s st).books.live o) (λ x e. reach x ∙ e) all d refl ruled;
        few = subst (λ (l : List RefValue). length l ≤ 4) (sym is) (few-carried d);
        room = room-left w.tables.issued st.entries (limit s) t.issued few (limited s);
      }

  -- ---- what it brings to places

  abbrev Given : RefValue → Type 0
  Given x = (offers w.tables x.object x.iface || offers_made s.classes (makes d) x.object x.iface) ≡ true

  given : (x : RefValue) → IsDeclared s h x → Given x
  given x p = or-first (offers w.tables x.object x.iface) (offers_made s.classes (makes d) x.object x.iface) (offered x p)

  held-given : (x : Option RefValue) → HeldBy (IsDeclared s h) x → HeldBy Given x
  held-given None p = tt
  held-given (Some x) p = given x p

  own-number : (o : ℕ) (b : Bool) → b ≡ true → ((o == o) && b) ≡ true
  own-number o b e = grind (arith, common_steps, e)

  query-given : (o i : ℕ) (hr : HResult) (b : Bool) → is_S_OK hr ≡ b → (is_S_OK hr ≡ true → IsDeclared s h (reference o i)) → HeldBy Given (cond b (Some (reference o i)) None)
  query-given o i hr true e f = given (reference o i) (f e)
  query-given o i hr false e f = tt

  taken-given : (y : Deed) → d ≡ y → NamesBy s (IsDeclared s h) y → FineBy (objects h) (faces s) (next_sta h) y → HeldBy Given (taken_in y)
  taken-given (deed.Made (Some o) (Some b) k (asked.Number i) hr) e p f =
      subst (λ (m : Option Making). (offers w.tables o i || offers_made s.classes m o i) ≡ true) (sym (ap makes e))
      (or-second (offers w.tables o i) ((o == o) && has_interface s.classes (asked_number k) i) (own-number o (has_interface s.classes (asked_number k) i) p))
  taken-given (deed.Made (Some o) (Some b) k (asked.Guid g) hr) e p f = tt
  taken-given (deed.Made (Some o) None k i hr) e p f = absurd f
  taken-given (deed.Made None b k i hr) e p f = tt
  taken-given (deed.Query (Some o) (asked.Number i) hr) e p f = query-given o i hr (is_S_OK hr) refl p
  taken-given (deed.Query (Some o) (asked.Guid g) hr) e p f = tt
  taken-given (deed.Query None i hr) e p f = tt
  taken-given (deed.Unmarshal q held refs hr) e p f = held-given held p
  taken-given (deed.Get g held refs hr) e p f = held-given held p
  taken-given _ e p f = tt

  carries-given : (y : Deed) → NamesBy s (IsDeclared s h) y → CarriesBy Given y
  carries-given (deed.Enter c o a k vs) p = all-of (ValueBy (IsDeclared s h)) (ValueBy Given) (more-value (IsDeclared s h) Given given) vs p
  carries-given (deed.Leave c hr v bytes) p = more-result (IsDeclared s h) Given given v p
  carries-given (deed.Back c hr v) p = more-result (IsDeclared s h) Given given v p
  carries-given _ p = tt

  scene-given : SceneBy Given (scene_in st)
  scene-given =
      subst (λ (x : Scene). SceneBy Given x) (sym (same-scene (scene_in st) (scene s h) r.stands.scene))
      (more-scene (IsDeclared s h) Given given (scene s h) (record { scripts = declared.scripts; bodies = declared.bodies; links = declared.links }))

  pub brings_next : (p : PartTables) (a : Actor) (x : Option Outcome) → x ≡ step_in s st (record { lane = l; deed = d }) → FitsDeed d → Brings s p w (record { lane = l; deed = d }) a x
  brings_next p a x step fit =
      let e : Entry = record { lane = l; deed = d } in
      let out : OutBy Given x = subst (λ (y : Option Outcome). OutBy Given y) (sym step) (outcome-by s r.formed Given (class_in st) (issue_in st) (scene_in st) (acting_in s st e) scene-given) in
      record {
        known = λ home follows gained is k low.
            each_moved Given gained k (subst (λ (ms : List Moving). AllMoves Given ms) (sym is)
            (gained_by Given (ground_at home p.objects p.calls.tables) p.scene a x follows e out (taken-given d refl names fine) (carries-given d names))) low;
        few = λ home follows. gained_few (ground_at home p.objects p.calls.tables) p.scene a x follows e fit;
      }

-- The clock's entry brings nothing.
pub brings_tick : (s : Scenario) (p : PartTables) (w : Held) (l t : ℕ) (a : Actor) → Brings s p w (record { lane = l; deed = deed.Tick t }) a None
brings_tick s p w l t a =
    let e : Entry = record { lane = l; deed = deed.Tick t } in
    let Given : RefValue → Type 0 = λ x. (offers w.tables x.object x.iface || offers_made s.classes None x.object x.iface) ≡ true in
    record {
      known = λ home follows gained is k low.
          each_moved Given gained k (subst (λ (ms : List Moving). AllMoves Given ms) (sym is) (gained_by Given (ground_at home p.objects p.calls.tables) p.scene a None follows e tt tt tt)) low;
      few = λ home follows. gained_few (ground_at home p.objects p.calls.tables) p.scene a None follows e tt;
    }

pub fits_tick : (s : Scenario) (st : State) (w : Held) (t a : ℕ) → Ties s st w → st.entries < limit s → FitsBooks s.classes [] a (tally w.tables w.calls) (deed.Tick t)
fits_tick s st w t a ties few = record {
  row = tt;
  few = omega arith;
  room = room-left w.tables.issued st.entries (limit s) ties.issued few (limited s);
}
