-- What the rules alone say of a deed that they give: a making names what it makes, a query that is answered reaches its object, and a
-- cookie gives what it stands for.
use Rattle.std.proofs.Common.{◌≡◌, ℕ, ℤ, zero, suc, Bool, true, false, cond, not, ◌==◌, ◌&&◌, ◌||◌, nat_le, List, length, refl, sym, ap, subst, ◌∙◌}
use Rattle.std.specs.Prelude.{Option, Some, None, option_map, Ok, Err}
use Rattle.com_base.specs.declared.hresult.HResult.{HResult}
use Rattle.com_base.specs.declared.value.RefValue.{RefValue}
use Rattle.com_base.specs.declared.value.Value.{Value}
use Rattle.com_base.specs.declared.value.Mode.{Mode}
use Rattle.com_base.specs.declared.value.MarshalMode.{MarshalMode}
use Rattle.com_base.specs.declared.value.MarshalMode.TheVariants as marshal
use Rattle.com_body.specs.declared.operands.Asked.{Asked}
use Rattle.com_body.specs.declared.operands.Asked.TheVariants as asked
use Rattle.com_body.specs.declared.actions.Action.{Action}
use Rattle.com_body.specs.declared.actions.Action.TheVariants as action
use Rattle.com_classes.specs.declared.classes.Class.{Class}
use Rattle.com_classes.specs.declared.factory.Creator.{Creator}
use Rattle.com_classes.specs.Lookups.{class_at, class_has, has_interface}
use Rattle.com_classes.specs.Tables.{Tables as ClassTables}
use Rattle.com_classes.specs.Activation.{owner_for, is_agile}
use Rattle.com_model.specs.declared.deeds.Deed.{Deed}
use Rattle.com_model.specs.declared.deeds.Deed.TheVariants as deed
use Rattle.com_model.specs.declared.keeps.Issue.{Issue}
use Rattle.com_model.specs.declared.keeps.Opener.{Opener}
use Rattle.com_model.specs.declared.keeps.Opener.TheVariants.{Pumps, Waits, Enters}
use Rattle.com_model.specs.declared.keeps.Phase.{Phase}
use Rattle.com_model.specs.declared.keeps.Phase.TheVariants.{Unposted, Queued, Judged, Delayed, GivenUp}
use Rattle.com_model.specs.declared.keeps.Word.{Word}
use Rattle.com_model.specs.declared.scenario.Scenario.{Scenario}
use Rattle.com_model.specs.Answers.{S_OK, is_S_OK, CO_E_OBJNOTCONNECTED, E_NOINTERFACE, RPC_E_DISCONNECTED, RPC_E_OUT_OF_RESOURCES, RPC_E_SERVER_CANTUNMARSHAL_DATA}
use Rattle.com_model.specs.Calls.{is_post, object_of, route_of}
use Rattle.com_model.specs.Deeds.{hold_refusal, named_by, deed_of, created, created_of, initialised, in_sta, marshalled, registered, Named, NamesPacket, Refuses, unmarshalled, dropped, got, got_by, cookie_number, gained_refs, owned_by, made_as, creator, placing, revoked, uninitialised, called, left_by, left_as, object_in, offers, queried, query_answer}
use Rattle.com_model.specs.Endings.{Answer}
use Rattle.com_model.specs.Frames.{reference}
use Rattle.com_model.specs.Issue.{call_refusal}
use Rattle.com_model.specs.Lists.{where_true, first}
use Rattle.com_model.specs.Openers.{running_call}
use Rattle.com_model.specs.Rules.{posted_to_sta, is_handled_in, call_sort, verdict_on, arguments_gone, enters_itself, packet_left, due_of, admits_next, own_call, stepped, ruled, lane_next, admission, rule_final, rule_own, rule_answer, rule_bound, rule_inbox, rule_retry, rule_again, rule_pending, rule_word, rule_script, answered, retried, posted_again, asked_on, pumped, takes_word, scripted, is_script_turn, top}
use Rattle.com_model.specs.Sight.{Sight}
use Rattle.com_model.specs.Tables.{class_number, interface_number, lane_sort}
use Rattle.com_model.specs.Waiting.{bound_reached, mark_of, not_asked}
use Rattle.com_model.proofs.Given.{Given, given-or, given-where, given-map, given-then, cond-of}
use Rattle.com_refs_books.specs.Changes.{cookie}
use Rattle.com_refs_books.specs.declared.keeps.Cookie.{Cookie}
use Rattle.com_refs_holders.proofs.Cookies.{cookie_hidden, cookie_shown}
use Rattle.com_refs_holders.specs.Tables.{books_of}
use Rattle.com_refs_rows.specs.Books.{Held, books_held}
use Rattle.com_refs_rows.specs.Fits.{IsGotten}
use Rattle.com_stub.specs.declared.StubRow.{StubRow}
use Rattle.com_slots.specs.Table.{held_in}
use Rattle.com_stub.specs.StubRows.{is_connected}

-- ---- what the rules alone say of a deed

-- A new object has an owner and a class, which are given by number, and the interface is one of the class.
abbrev IsNumbered : ClassTables → (object owner : Option ℕ) → (class iface : Asked) → Type 0
IsNumbered t (Some o) (Some w) (asked.Number k) (asked.Number i) = has_interface t k i ≡ true
IsNumbered t None w k i = Unit {0}
IsNumbered t (Some o) w k i = ⊥

abbrev pub Ruled : ClassTables → List (Option RefValue) → List StubRow → (reaches : ℕ → Bool) → Deed → Type 0
Ruled t cookies stubs f (deed.Made o w k i hr) = IsNumbered t o w k i
Ruled t cookies stubs f (deed.Query o i hr) = is_S_OK hr ≡ true → (x : ℕ) → o ≡ Some x → f x ≡ true
Ruled t cookies stubs f (deed.Get g held n hr) = IsGotten cookies stubs g held
Ruled t cookies stubs f _ = Unit {0}

-- ---- the books

cookie-held : (w : Held) (n : ℕ) → cookie (books_held w) n ≡ cookie (books_of w.tables) n
cookie-held w zero = refl
cookie-held w (suc k) = refl

pub live_held : (w : Held) (o : ℕ) → (books_held w).live o ≡ is_connected w.tables.stubs o
unfolding books_of
live_held w o = refl

module _ (s : Scenario) (v : Sight) (w : Held) (same : v.books ≡ books_held w) where
  abbrev Fits : (lane : ℕ) → Deed → Type 0
  Fits l d = Ruled s.classes w.tables.cookies w.tables.stubs (λ o. owned_by v l o || v.books.live o) d

  -- ---- a making

  placed-fits : (l : ℕ) (k i : Asked) (x : Creator) (c : ℕ) (j : Option ℕ) (kind : Option Class) → class_at s.classes c ≡ kind → Fits l (made_as s v k i (placing x c j kind))
  placed-fits l k i x c j None e = tt
  placed-fits l k i x c None (Some a) e = tt
  placed-fits l k i x c (Some n) (Some a) e = elim (class_has a n) as (λ b. class_has a n ≡ b → Fits l (made_as s v k i (cond b (Ok (record { class = c; iface = n; owner = owner_for a.model x; agile = is_agile a.model })) (Err (record { 0 = 0x80004002 }))))) [
    | true ↦ λ h. subst (λ (y : Option Class). elim y [ None ↦ false | Some z ↦ class_has z n ] ≡ true) (sym e) h
    | false ↦ λ h. tt
  ] refl

  created-of-fits : (l a : ℕ) (k i : Asked) (c j : Option ℕ) → Fits l (created_of s v l a k i c j)
  created-of-fits l a k i None j = tt
  created-of-fits l a k i (Some c) j = placed-fits l k i (creator v l a) c j (class_at s.classes c) refl

  created-fits : (l : ℕ) (k i : Asked) (a : Option ℕ) → Fits l (created s v l k i a)
  created-fits l k i None = tt
  created-fits l k i (Some a) = created-of-fits l a k i (class_number s k) (interface_number s i)

  -- ---- what a cookie gives

  same-cookie : (n : ℕ) → cookie v.books n ≡ cookie (books_of w.tables) n
  same-cookie n = ap (λ b. cookie b n) same ∙ cookie-held w n

  same-live : (o : ℕ) → v.books.live o ≡ is_connected w.tables.stubs o
  same-live o = ap (λ b. b.live o) same ∙ live_held w o

  given-fits : (l : ℕ) (g : ℤ) (r : RefValue) → held_in w.tables.cookies (cookie_number g) ≡ Some r
      → (b : Bool) → v.books.live r.object ≡ b → Fits l (cond b (deed.Get g (Some (reference r.object r.iface)) (gained_refs marshal.Strong (owned_by v l r.object) 0) S_OK) (deed.Get g None 0 CO_E_OBJNOTCONNECTED))
  given-fits l g r e true h = record { held_is = e; connected = sym (same-live r.object) ∙ h }
  given-fits l g r e false h = tt

  held-fits : (l : ℕ) (g : ℤ) (x : Option RefValue) → held_in w.tables.cookies (cookie_number g) ≡ x → Fits l (got_by v l g (cookie v.books (cookie_number g)))
  held-fits l g None e = subst (λ (k : Cookie). Fits l (got_by v l g k)) (sym (same-cookie (cookie_number g) ∙ cookie_hidden w.tables (cookie_number g) e)) tt
  held-fits l g (Some r) e = subst (λ (k : Cookie). Fits l (got_by v l g k)) (sym (same-cookie (cookie_number g) ∙ cookie_shown w.tables (cookie_number g) r e)) (given-fits l g r e (v.books.live r.object) refl)

  got-fits : (l : ℕ) (g : ℤ) (a : Option ℕ) → Fits l (got v l g a)
  got-fits l g None = tt
  got-fits l g (Some a) = held-fits l g (held_in w.tables.cookies (cookie_number g)) refl

  -- ---- the other actions

  initialised-fits : (l : ℕ) (m : Mode) (a : Option ℕ) → Fits l (initialised v m a)
  initialised-fits l m None = tt
  initialised-fits l m (Some a) = tt

  marshalled-fits : (l : ℕ) (m : MarshalMode) (held : Option RefValue) (hr : Option HResult) → Fits l (marshalled s v l m held hr)
  marshalled-fits l m held (Some hr) = tt
  marshalled-fits l m None None = tt
  marshalled-fits l m (Some r) None = tt

  registered-fits : (l : ℕ) (held : Option RefValue) (hr : Option HResult) → Fits l (registered v held hr)
  registered-fits l held (Some hr) = tt
  registered-fits l held None = tt

  unmarshalled-fits : (l : ℕ) (n : Named) → Fits l (unmarshalled v l n)
  unmarshalled-fits l (NamesPacket p) = tt
  unmarshalled-fits l (Refuses hr) = tt

  dropped-fits : (l : ℕ) (n : Named) → Fits l (dropped n)
  dropped-fits l (NamesPacket p) = tt
  dropped-fits l (Refuses hr) = tt

  revoked-fits : (l : ℕ) (g : ℤ) (a : Option ℕ) → Fits l (revoked v g a)
  revoked-fits l g None = tt
  revoked-fits l g (Some a) = tt

  reached-by : (owned live has : Bool) → is_S_OK (cond (not owned && not live) RPC_E_DISCONNECTED (cond has S_OK E_NOINTERFACE)) ≡ true → (owned || live) ≡ true
  reached-by true live has e = refl
  reached-by false true has e = refl
  reached-by false false has e = cc

  same-some : (x y : ℕ) → Some x ≡ Some y → x ≡ y
  same-some x y e = cc

  answer-fits : (l : ℕ) (home : Option ℕ) (held : Option RefValue) (i : Option ℕ) → is_S_OK (query_answer s v l home held i) ≡ true → (x : ℕ) → object_in held ≡ Some x → (owned_by v l x || v.books.live x) ≡ true
  answer-fits l None held i e x o = cc
  answer-fits l (Some a) None i e x o = cc
  answer-fits l (Some a) (Some r) i e x o =
      subst (λ (y : ℕ). (owned_by v l y || v.books.live y) ≡ true) (same-some r.object x o)
      (reached-by (owned_by v l r.object) (v.books.live r.object) (offers s (v.class r.object) i) e)

  queried-fits : (l : ℕ) (held : Option RefValue) (i : Asked) → Fits l (queried s v l held i)
  queried-fits l held i = answer-fits l (v.home l) held (interface_number s i)

  called-fits : (l : ℕ) (held : Option RefValue) (i m : ℕ) (args : List Value) (hr : Option HResult) → Fits l (called s v l held i m args hr)
  called-fits l held i m args (Some hr) = tt
  called-fits l held i m args None = tt

  left-as-fits : (l c : ℕ) (i : Option Issue) (hr : HResult) (x : Option Value) → Fits l (left_as s v l c i hr x)
  left-as-fits l c None hr x = tt
  left-as-fits l c (Some i) hr x = tt

  left-fits : (l : ℕ) (hr : HResult) (x : Option Value) (r : Option ℕ) → Fits l (left_by s v l hr x r)
  left-fits l hr x None = tt
  left-fits l hr x (Some c) = left-as-fits l c (v.issue c) hr x

  deed-fits : (l : ℕ) (a : Action) → Fits l (deed_of s v l a)
  deed-fits l (action.Create slot k i) = created-fits l k i (v.home l)
  deed-fits l (action.Query to held i) = queried-fits l held i
  deed-fits l (action.Copy to held) = tt
  deed-fits l (action.Release from held) = tt
  deed-fits l (action.Call held i m args to) = called-fits l held i m args (call_refusal s (v.home l) (v.running l) v.owns v.books.live held i m)
  deed-fits l (action.Marshal b held m) = marshalled-fits l m held (hold_refusal v (v.home l) held)
  deed-fits l (action.Unmarshal slot b) = unmarshalled-fits l (named_by s v (v.home l) (v.buffers b))
  deed-fits l (action.Drop b) = dropped-fits l (named_by s v (v.home l) (v.buffers b))
  deed-fits l (action.Raw b bytes) = tt
  deed-fits l (action.Register to held) = registered-fits l held (hold_refusal v (v.home l) held)
  deed-fits l (action.Get slot g) = got-fits l g (v.home l)
  deed-fits l (action.Revoke g) = revoked-fits l g (v.home l)
  deed-fits l (action.Disconnect held) = tt
  deed-fits l (action.Post m w) = tt
  deed-fits l (action.Quit m) = tt
  deed-fits l (action.Leave hr x) = left-fits l hr x (running_call (v.openers l))
  deed-fits l (action.Init m) = initialised-fits l m (v.home l)
  deed-fits l action.Uninit = tt
  deed-fits l (action.SetFilter f) = tt
  deed-fits l (action.Pump n) = tt

  -- ---- the rules

  admitted-fits : (l c : ℕ) → Fits l (admission s v l c)
  admitted-fits l c =
      cond-of (Fits l) (nat_le 256 (length (v.openers l))) (deed.Refuse c RPC_E_OUT_OF_RESOURCES) _ tt
      (cond-of (Fits l) (posted_to_sta v c && not (is_handled_in s v l c)) (deed.Verdict c (call_sort v l c) (verdict_on s v l c)) _ tt
      (cond-of (Fits l) (arguments_gone v c) (deed.Refuse c RPC_E_SERVER_CANTUNMARSHAL_DATA)
      (deed.Enter c (object_of (v.issue c)) (v.owner (object_of (v.issue c)) l) (where_true (posted_to_sta v c) (call_sort v l c)) (v.unread c)) tt tt))

  answered-fits : (l : ℕ) (c : ℕ) (x : Answer) (p : Option ℕ) → Fits l (answered v c x p)
  answered-fits l c x (Some p) = tt
  answered-fits l c x None = tt

  retried-fits : (l c : ℕ) (p : Phase) → Given (Fits l) (retried s v l c p)
  retried-fits l c Unposted = tt
  retried-fits l c Queued = tt
  retried-fits l c (Judged x) = tt
  retried-fits l c (Delayed t) = tt
  retried-fits l c GivenUp = tt

  again-fits : (l : ℕ) (c : ℕ) (p : Phase) → Given (Fits l) (posted_again v c p)
  again-fits l c Unposted = tt
  again-fits l c Queued = tt
  again-fits l c (Judged x) = tt
  again-fits l c (Delayed t) = given-where (Fits l) (nat_le t v.clock) (deed.Again c) tt
  again-fits l c GivenUp = tt

  asked-fits : (l c : ℕ) (x : Option Word) → Given (Fits l) (asked_on s v l c x)
  asked-fits l c None = tt
  asked-fits l c (Some x) = given-where (Fits l) (in_sta (v.home l) && is_post (route_of (v.issue c))) (deed.Pending c x.word _) tt

  taken-fits : (l : ℕ) (x : Option Word) (q : Bool) → Given (Fits l) (takes_word x q)
  taken-fits l (Some x) q = tt
  taken-fits l None q = given-where (Fits l) q deed.EndPump tt

  word-fits : (l : ℕ) (o : Option Opener) → Given (Fits l) (pumped v l o)
  word-fits l None = tt
  word-fits l (Some (Pumps n)) = taken-fits l (first (v.mail l).words) (v.quit l)
  word-fits l (Some (Waits c)) = tt
  word-fits l (Some (Enters c o a)) = tt

  scripted-fits : (l : ℕ) (x : Option Action) → Fits l (scripted s v l x)
  scripted-fits l None = cond-of (Fits l) (v.count l == 0) deed.End (uninitialised v l) tt tt
  scripted-fits l (Some a) = deed-fits l a

  ruled-fits : (l : ℕ) → Given (Fits l) (ruled s v l)
  ruled-fits l =
      given-or (Fits l) (rule_final v l) _ (given-map (Fits l) (λ o. deed.Final o) (first (v.dying l)) (λ o. tt))
      (given-or (Fits l) (rule_own s v l) _ (given-then (Fits l) (λ c. where_true (enters_itself v c) (admission s v l c)) (own_call v l) (λ c. given-where (Fits l) (enters_itself v c) (admission s v l c) (admitted-fits l c)))
      (given-or (Fits l) (rule_answer v l) _ (given-then (Fits l) (λ c. option_map (λ x. answered v c x (packet_left v c)) (due_of v c)) (own_call v l) (λ c. given-map (Fits l) (λ x. answered v c x (packet_left v c)) (due_of v c) (λ x. answered-fits l c x (packet_left v c))))
      (given-or (Fits l) (rule_bound v l) _ (given-where (Fits l) (bound_reached (v.openers l) (v.served l)) deed.EndPump tt)
      (given-or (Fits l) (rule_inbox s v l) _ (given-map (Fits l) (admission s v l) (admits_next v l (lane_sort s l)) (λ c. admitted-fits l c))
      (given-or (Fits l) (rule_retry s v l) _ (given-then (Fits l) (λ c. retried s v l c (v.phase c)) (own_call v l) (λ c. retried-fits l c (v.phase c)))
      (given-or (Fits l) (rule_again v l) _ (given-then (Fits l) (λ c. posted_again v c (v.phase c)) (own_call v l) (λ c. again-fits l c (v.phase c)))
      (given-or (Fits l) (rule_pending s v l) _ (given-then (Fits l) (λ c. asked_on s v l c (not_asked (mark_of (v.mail l).marks c) (v.mail l).words)) (own_call v l) (λ c. asked-fits l c (not_asked (mark_of (v.mail l).marks c) (v.mail l).words)))
      (given-or (Fits l) (rule_word v l) (rule_script s v l) (word-fits l (top v l))
      (given-where (Fits l) (is_script_turn (lane_sort s l) (top v l) (v.over l)) (scripted s v l (v.act l)) (scripted-fits l (v.act l)))))))))))

  stepped-fits : (l : ℕ) (o : Option Opener) → Given (Fits l) (stepped s v l o)
  stepped-fits l None = ruled-fits l
  stepped-fits l (Some (Pumps n)) = ruled-fits l
  stepped-fits l (Some (Waits c)) = ruled-fits l
  stepped-fits l (Some (Enters c o a)) = given-map (Fits l) (deed_of s v l) (v.act l) (λ x. deed-fits l x)

-- The next entry of a lane.
pub next_fits : (s : Scenario) (v : Sight) (w : Held) → v.books ≡ books_held w → (l : ℕ) (d : Deed) → lane_next s v l ≡ Some d → Ruled s.classes w.tables.cookies w.tables.stubs (λ o. owned_by v l o || v.books.live o) d
next_fits s v w same l d e =
    subst (λ (y : Option Deed). Given (λ (z : Deed). Ruled s.classes w.tables.cookies w.tables.stubs (λ o. owned_by v l o || v.books.live o) z) y) e
    (stepped-fits s v w same l (top v l))
