-- What a still entry leaves as it was.
use Rattle.std.proofs.Common.{◌≡◌, ℕ, ◌+◌, ◌≤◌, ◌==◌, ◌||◌, Bool, true, false, not, ◌&&◌, cond, List, [], length, refl, sym, ap, subst, ◌∙◌, arith, eqb-true, filter}
use Rattle.std.proofs.lemmas.List.{append-nil}
use Rattle.std.specs.Prelude.{Option, Some, None, Result, Ok, Err, OnOk, is_some}
use Rattle.com_base.specs.declared.hresult.HResult.{HResult}
use Rattle.com_base.specs.declared.value.RefValue.{RefValue}
use Rattle.com_base.specs.declared.value.Value.{Value}
use Rattle.com_body.specs.declared.actions.Action.{Action}
use Rattle.com_body.specs.declared.actions.Action.TheVariants as action
use Rattle.com_body.specs.declared.frame.Outcome.{Outcome}
use Rattle.com_body.specs.declared.operands.Destination.{Destination}
use Rattle.com_body.specs.declared.operands.Destination.TheVariants as destination
use Rattle.com_ledger.specs.Bodies.{entered_after}
use Rattle.com_ledger.specs.Falling.{begins_by, other_object, placed_in}
use Rattle.com_ledger.specs.Most.{Most}
use Rattle.com_ledger.specs.Ties.{Notes}
use Rattle.com_ledger.specs.Quiet.{LeavesBooks, calls_passed}
use Rattle.com_ledger.proofs.Quiet.{back_leaves, out_leaves, quiet_leaves}
use Rattle.com_laws_places.specs.Moves.{Move as Moving, Moves, entered_where, moved, no_moves, result_moved, slots_where, together}
use Rattle.com_model.specs.declared.deeds.Deed.{Deed}
use Rattle.com_model.specs.declared.deeds.Deed.TheVariants as deed
use Rattle.com_model.specs.declared.deeds.Entry.{Entry}
use Rattle.com_model.specs.Apartments.{ends_sta}
use Rattle.com_model.specs.Calls.{is_direct, route_of}
use Rattle.com_model.specs.Frames.{Actor, value_reference}
use Rattle.com_model.specs.declared.keeps.Making.{Making}
use Rattle.com_model.specs.Objects.{finals, makes}
use Rattle.com_model.specs.Places.{Ground, left_value}
use Rattle.com_objects.specs.Settled.{DieBut, Falls, Rise, without}
use Rattle.com_objects.proofs.Settling.{settled, without_none}
use Rattle.com_reference_moves.specs.declared.moves.Move.{Move}
use Rattle.com_reference_moves.specs.declared.written.Written.{Written}
use Rattle.com_parts.specs.Fits.{is_calls_alone}
use Rattle.com_parts.specs.Tables.{PartTables}
use Rattle.com_reference_moves.specs.Steps.{acted_stepped, arrived_stepped, ended_stepped, given_moves, place_write, slots_stepped, step_moves}
use Rattle.com_reference_moves.specs.Tables.{ground_at}
use Rattle.com_refs.specs.Counts.{holders_of}
use Rattle.com_refs.specs.Totals.{Totals}
use Rattle.com_refs_holders.specs.Places.{Counts}
use Rattle.com_refs_holders.specs.Tables.{Tables, offers}
use Rattle.com_classes.specs.Tables.{Tables as ClassTables}
use Rattle.com_refs_rows.specs.Books.{Held}
use Rattle.com_refs_rows.specs.Fits.{most_given}
use Rattle.com_refs_rows.specs.Owners.{OffersMore}
use Rattle.com_refs_rows.specs.Calls.{call_at}
use Rattle.com_refs_rows.specs.Entries.{Applies, Around, tally}
use Rattle.com_refs_rows.proofs.Changing.{same_moves}
use Rattle.com_state.specs.Parts.{ObjectTables}
use Rattle.com_state.specs.SceneParts.{destination_at}
use Rattle.com_core.specs.Changes.{Settles, fresh_by}
use Rattle.com_core.specs.Making.{Booked}
use Rattle.com_core.specs.Quiet.{Still, comes_bare, has_result, is_alone, is_slot, is_still, left_held, moves_nothing, writes_by, writes_reference}

clash : false ≡ true → ⊥
clash e = cc

both-left : (a b : Bool) → a && b ≡ true → a ≡ true
both-left true b e = refl
both-left false b e = absurd (clash e)

both-right : (a b : Bool) → a && b ≡ true → b ≡ true
both-right true b e = e
both-right false b e = absurd (clash e)

off : (b : Bool) → not b ≡ true → b ≡ false
off true e = absurd (clash e)
off false e = refl

-- ---- a call that comes back without a reference

none-moved : (a : Option ℕ) (held : Option RefValue) → is_some held ≡ false → moved a held ≡ []
none-moved None held q = refl
none-moved (Some a) None q = refl
none-moved (Some a) (Some r) q = absurd (clash (sym q))

none-chosen : (b : Bool) (ms : List Moving) → ms ≡ [] → cond b ms [] ≡ []
none-chosen true ms e = e
none-chosen false ms e = refl

none-given : (a : Option ℕ) (xs : List (Option RefValue)) (to : Destination) (v : Option Value) → is_slot to ≡ false → given_moves a xs to v ≡ no_moves
none-given a xs (destination.Slot k) v q = absurd (clash (sym q))
none-given a xs _ v q = refl

zero-of : (n : ℕ) → not (not (n == 0)) ≡ true → n ≡ 0
zero-of n e = eqb-true n 0 (twice (n == 0) e)
  where
    twice : (b : Bool) → not (not b) ≡ true → b ≡ true
    twice true e = refl
    twice false e = absurd (clash e)

module _ (p : PartTables) (w : Held) (c : ℕ) (q : comes_bare p w c ≡ true) where
  abbrev to-slot : Bool
  to-slot = is_slot (destination_at p.scene c)

  abbrev first-two : Bool
  first-two = not to-slot && not (left_held p c)

  both : first-two ≡ true
  both = both-left first-two (not (has_result w c)) q

  no-slot : to-slot ≡ false
  no-slot = off to-slot (both-left (not to-slot) (not (left_held p c)) both)

  no-reference : left_held p c ≡ false
  no-reference = off (left_held p c) (both-right (not to-slot) (not (left_held p c)) both)

  no-packet : (call_at w.calls c).result ≡ 0
  no-packet = zero-of (call_at w.calls c).result (both-right first-two (not (has_result w c)) q)

  back-arrived : (home : Option ℕ) (a : Actor) (r : Option Outcome) (b : Actor) (l : ℕ) (hr : HResult) (v : Option Value)
      → arrived_stepped (ground_at home p.objects p.calls.tables) p.scene a r b l (deed.Back c hr v) ≡ no_moves
  back-arrived home a r b l hr v =
      let g : Ground = ground_at home p.objects p.calls.tables in
      let taken : result_moved g c (left_value (g.left c)) ≡ [] =
      none-chosen (is_direct (route_of (g.issue c)) && not (g.returned c)) (moved (entered_where (g.admitted c)) (value_reference (left_value (g.left c))))
      (none-moved (entered_where (g.admitted c)) (value_reference (left_value (g.left c))) no-reference) in
      let given : given_moves (slots_where g b) (slots_stepped p.scene a r (deed.Back c hr v) b) (destination_at p.scene c) v ≡ no_moves =
      none-given (slots_where g b) (slots_stepped p.scene a r (deed.Back c hr v) b) (destination_at p.scene c) v no-slot in
      λ i. together (record { lost = taken i; gained = [] }) (given i)

-- ---- the deeds

module _ (p : PartTables) (w : Held) where
  still-books : (g : Around) (d : Deed) → moves_nothing p w d ≡ true → LeavesBooks g d w.tables w.calls (calls_passed d w.calls)
  still-books g (deed.Raw b n) q = quiet_leaves g (deed.Raw b n) w.tables w.calls refl
  still-books g (deed.SetFilter f hr) q = quiet_leaves g (deed.SetFilter f hr) w.tables w.calls refl
  still-books g (deed.Post l x hr) q = quiet_leaves g (deed.Post l x hr) w.tables w.calls refl
  still-books g (deed.Quit l hr) q = quiet_leaves g (deed.Quit l hr) w.tables w.calls refl
  still-books g (deed.Pump n) q = quiet_leaves g (deed.Pump n) w.tables w.calls refl
  still-books g deed.EndPump q = quiet_leaves g deed.EndPump w.tables w.calls refl
  still-books g (deed.Word x) q = quiet_leaves g (deed.Word x) w.tables w.calls refl
  still-books g (deed.Verdict c t v) q = quiet_leaves g (deed.Verdict c t v) w.tables w.calls refl
  still-books g (deed.Refuse c hr) q = quiet_leaves g (deed.Refuse c hr) w.tables w.calls refl
  still-books g (deed.Retry c n) q = quiet_leaves g (deed.Retry c n) w.tables w.calls refl
  still-books g (deed.Again c) q = quiet_leaves g (deed.Again c) w.tables w.calls refl
  still-books g (deed.Pending c x n) q = quiet_leaves g (deed.Pending c x n) w.tables w.calls refl
  still-books g (deed.Tick t) q = quiet_leaves g (deed.Tick t) w.tables w.calls refl
  still-books g deed.End q = quiet_leaves g deed.End w.tables w.calls refl
  still-books g (deed.Out c o i m r k None) q = out_leaves g c o i m r k w.tables w.calls (zero-of (call_at w.calls c).count q)
  still-books g (deed.Out c o i m r k (Some bytes)) q = absurd (clash q)
  still-books g (deed.Back c hr v) q = back_leaves g c hr v w.tables w.calls (no-packet p w c q)
  still-books g _ q = absurd (clash q)

  still-bodies : (d : Deed) (a : Actor) (xs : List ℕ) → moves_nothing p w d ≡ true → entered_after d a xs ≡ xs
  still-bodies (deed.Made o k x i hr) a xs q = absurd (clash q)
  still-bodies (deed.Enter c o y k vs) a xs q = absurd (clash q)
  still-bodies (deed.Leave c hr v bytes) a xs q = absurd (clash q)
  still-bodies _ a xs q = refl

  still-finals : (d : Deed) → moves_nothing p w d ≡ true → finals d ≡ None
  still-finals (deed.Final o) q = absurd (clash q)
  still-finals _ q = refl

  still-other : (n : ℕ) (d : Deed) (a : Actor) → moves_nothing p w d ≡ true → other_object n d a ≡ None
  still-other n (deed.Made o k x i hr) a q = absurd (clash q)
  still-other n (deed.Leave c hr v bytes) a q = absurd (clash q)
  still-other n _ a q = refl

  still-arrived : (home : Option ℕ) (a : Actor) (r : Option Outcome) (b : Actor) (l : ℕ) (d : Deed) → moves_nothing p w d ≡ true
      → arrived_stepped (ground_at home p.objects p.calls.tables) p.scene a r b l d ≡ no_moves
  still-arrived home a r b l (deed.Leave c hr v bytes) q = absurd (clash q)
  still-arrived home a r b l (deed.Enter c o x k vs) q = absurd (clash q)
  still-arrived home a r b l (deed.Back c hr v) q = back-arrived p w c q home a r b l hr v
  still-arrived home a r b l (deed.Uninit h n) q = absurd (clash q)
  still-arrived home a r b l (deed.Final o) q = absurd (clash q)
  still-arrived home a r b l _ q = refl

  still-ends : (d : Deed) → moves_nothing p w d ≡ true → ends_sta d ≡ None
  still-ends (deed.Uninit h n) q = absurd (clash q)
  still-ends _ q = refl

-- ---- the step

unwritten : (x : Action) (d : Deed) → writes_reference x ≡ false → place_write x d ≡ None
unwritten (action.Create slot k i) d q = absurd (clash (sym q))
unwritten (action.Query to held i) d q = absurd (clash (sym q))
unwritten (action.Copy to held) d q = absurd (clash (sym q))
unwritten (action.Release from held) d q = absurd (clash (sym q))
unwritten (action.Unmarshal slot b) d q = absurd (clash (sym q))
unwritten (action.Get slot g) d q = absurd (clash (sym q))
unwritten _ d q = refl

still-acted : (g : Ground) (a : Actor) (r : Option Outcome) (d : Deed) → writes_by r ≡ false → acted_stepped g a r d ≡ no_moves
still-acted g a None d q = refl
still-acted g a (Some r) d q = ap (λ (x : Option Written). step_moves g a r x) (unwritten r.action d q)

-- ---- the entry

pub still_entry : (p : PartTables) (w : Held) (a : Actor) (r : Option Outcome) (b : Actor) (e : Entry) → is_still p w r e.deed ≡ true → Still p w a r b e
still_entry p w a r b e q =
    let deed-is : moves_nothing p w e.deed ≡ true = both-left (moves_nothing p w e.deed) (not (writes_by r)) q in
    let step-is : writes_by r ≡ false = off (writes_by r) (both-right (moves_nothing p w e.deed) (not (writes_by r)) q) in
    record {
      moves = λ home.
          let g : Ground = ground_at home p.objects p.calls.tables in
          let first : acted_stepped g a r e.deed ≡ no_moves = still-acted g a r e.deed step-is in
          let next : arrived_stepped g p.scene a r b e.lane e.deed ≡ no_moves = still-arrived p w home a r b e.lane e.deed deed-is in
          let last : ended_stepped g p.scene a r e.deed (ends_sta e.deed) ≡ no_moves = ap (λ (x : Option ℕ). ended_stepped g p.scene a r e.deed x) (still-ends p w e.deed deed-is) in
          λ i. together (first i) (together (next i) (last i));
      books = λ g. still-books p w g e.deed deed-is;
      bodies = λ xs. still-bodies p w e.deed a xs deed-is;
      other = λ n. still-other p w n e.deed a deed-is;
      finals_none = still-finals p w e.deed deed-is;
    }

-- ---- an entry that changes nothing but the calls

pub alone_none : (r : Option Outcome) (d : Deed) → is_alone r d ≡ true → r ≡ None
alone_none None d q = refl
alone_none (Some x) d q = absurd (clash q)

pub alone_deed : (r : Option Outcome) (d : Deed) → is_alone r d ≡ true → is_calls_alone d ≡ true
alone_deed None d q = q
alone_deed (Some x) d q = absurd (clash q)

pub alone_still : (p : PartTables) (w : Held) (d : Deed) → is_calls_alone d ≡ true → is_still p w None d ≡ true
alone_still p w (deed.Verdict c t v) q = refl
alone_still p w (deed.Refuse c hr) q = refl
alone_still p w (deed.Retry c n) q = refl
alone_still p w (deed.Again c) q = refl
alone_still p w (deed.Tick t) q = refl
alone_still p w _ q = absurd (clash q)

-- ---- the books

still-notes : (t u : Tables) (xs : List ℕ) → u ≡ t → Notes t u xs
still-notes t u xs e = record {
  all = λ o first some none. let same : holders_of u o ≡ holders_of t o = ap (λ (v : Tables). holders_of v o) e in absurd (omega (arith, some, none, same));
}

or-no : (b : Bool) → (b || false) ≡ true → b ≡ true
or-no true q = refl
or-no false q = q

offered-alike : (classes : ClassTables) (making : Option Making) (t u : Tables) → making ≡ None → u ≡ t → OffersMore classes making t u
offered-alike classes making t u none same =
    subst (λ (v : Tables). OffersMore classes making t v) (sym same)
    (subst (λ (x : Option Making). OffersMore classes x t t) (sym none) (λ o i q. or-no (offers t o i) q))

given-alike : (n : ℕ) → n ≤ n + most_given
given-alike n = omega arith

pub still_booked : (g : Around) (d : Deed) (w u : Held) (m : Moves) → m ≡ no_moves → makes d ≡ None → u.tables ≡ w.tables → u.touched ≡ []
    → Applies g d [] [] (tally w.tables w.calls) (tally u.tables u.calls)
    → ((n : ℕ) (places : ℕ → ℕ → ℕ) → Counts n places u.tables → Totals n places u.tables) → Booked g d m w u
still_booked g d w u m none makes_none same nothing applies totals = subst (λ (x : Moves). Booked g d x w u) (sym none) (record {
  applies = λ gained lost eg el.
      subst (λ (ms : List Move). Applies g d ms lost (tally w.tables w.calls) (tally u.tables u.calls)) (sym (same_moves gained [] eg))
      (subst (λ (ms : List Move). Applies g d [] ms (tally w.tables w.calls) (tally u.tables u.calls)) (sym (same_moves lost [] el)) applies);
  loses = λ gained lost eg el s x carries n places later low gs ls made counts both. still-notes w.tables u.tables u.touched same;
  offers = offered-alike g.classes (makes d) w.tables u.tables makes_none same;
  issued = subst (λ (v : Tables). v.issued ≤ w.tables.issued + most_given) (sym same) (given-alike w.tables.issued);
  rise = subst (λ (xs : List ℕ). Rise 0 xs (length u.tables.objects)) (sym nothing) (omega arith);
  totals = totals;
})

-- ---- the running bodies and the dying objects

pub still_most : (n : ℕ) (xs ys : List ℕ) → ys ≡ xs → Most n xs → Most (n + 1) ys
still_most n xs ys e most = subst (λ (zs : List ℕ). Most (n + 1) zs) (sym e) (λ o. omega (arith, most o))

pub still_settles : (o : ObjectTables) (holders : ℕ → ℕ) (entered fallen touched : List ℕ) (d : Deed) (a : Actor) (later : List ℕ)
    → other_object (length o.makings) d a ≡ None → finals d ≡ None → touched ≡ [] → later ≡ fallen → Settles o holders entered fallen touched d a later
still_settles o holders entered fallen touched d a later other gone nothing same = λ dying n die falls.
    let fresh : fresh_by o holders entered fallen touched d a ≡ [] = λ i. filter (begins_by o holders entered fallen) (placed_in (other i) (nothing i)) in
    same ∙ without_none fallen ∙ sym (append-nil (without None fallen))
    ∙ settled None fallen [] dying n (subst (λ (x : Option ℕ). DieBut dying x fallen) gone die) (subst (λ (xs : List ℕ). Falls dying n fallen xs) fresh falls)

-- ---- what was made

pub then_ok : {A E P Q : Type 0} (x : Result A E) → (P → Q) → OnOk x P → OnOk x Q
then_ok (Ok z) f p = f p
then_ok (Err z) f p = tt
