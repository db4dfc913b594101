-- A cookie that a legal entry revokes stands.
use Rattle.std.proofs.Common.{subst}
use Rattle.std.specs.Prelude.{◌≡◌, refl, ℕ, ℤ, pos, negsuc, Bool, true, false, cond, not, ◌==◌, ◌&&◌, nat_le, length, List, [], ◌∷◌, map, Option, Some, None, Result, Ok, Err}
use Rattle.com_base.specs.declared.hresult.HResult.{HResult}
use Rattle.com_base.specs.declared.value.RefValue.{RefValue}
use Rattle.com_base.specs.declared.value.Value.{Value}
use Rattle.com_base.specs.declared.value.Mode.{Mode}
use Rattle.com_base.specs.declared.value.MarshalMode.{MarshalMode}
use Rattle.com_base.specs.declared.value.MarshalMode.TheVariants as marshal
use Rattle.com_body.specs.declared.operands.Asked.{Asked}
use Rattle.com_body.specs.declared.operands.Asked.TheVariants as asked
use Rattle.com_body.specs.declared.actions.Action.{Action}
use Rattle.com_body.specs.declared.actions.Action.TheVariants as action
use Rattle.com_classes.specs.declared.factory.Placed.{Placed}
use Rattle.com_classes.specs.Lookups.{class_at}
use Rattle.com_model.specs.declared.deeds.Deed.{Deed}
use Rattle.com_model.specs.declared.deeds.Deed.TheVariants as deed
use Rattle.com_model.specs.declared.deeds.Entry.{Entry}
use Rattle.com_model.specs.declared.scenario.Scenario.{Scenario}
use Rattle.com_model.specs.Answers.{is_S_OK, S_OK, E_INVALIDARG, CO_E_OBJNOTCONNECTED, RPC_E_OUT_OF_RESOURCES, RPC_E_SERVER_CANTUNMARSHAL_DATA}
use Rattle.com_model.specs.Lists.{where_true}
use Rattle.com_model.specs.Tables.{class_number, interface_number}
use Rattle.com_model.specs.Openers.{running_call}
use Rattle.com_model.specs.Calls.{object_of}
use Rattle.com_model.specs.declared.keeps.Issue.{Issue}
use Rattle.com_model.specs.Values.{carried, result_list}
use Rattle.com_model.specs.Frames.{reference}
use Rattle.com_model.specs.Endings.{Answer}
use Rattle.com_refs_books.specs.Changes.{Books, cookie, Row, Asks, Unmarshals, Drops, Revokes, marshal_all}
use Rattle.com_refs_books.specs.declared.keeps.Cookie.{Cookie}
use Rattle.com_model.specs.Books.{books, out_values, rows, reply_rows, back_rows}
use Rattle.com_model.specs.Issue.{call_refusal}
use Rattle.com_model.specs.Sight.{Sight, sight}
use Rattle.com_model.specs.Deeds.{hold_refusal, named_by, deed_of, created, created_of, initialised, marshalled, registered, Named, NamesPacket, Refuses, unmarshalled, uninitialised, dropped, got, got_by, got_with, cookie_number, gained_refs, owned_by, made_as, creator, placing, revoked, called, left_by, left_as}
use Rattle.com_model.specs.Rules.{posted_to_sta, call_sort, verdict_on, is_handled_in, arguments_gone, admission, packet_left, answered}
use Rattle.com_model.proofs.Given.{cond-of}
use Rattle.com_model.proofs.Fines.{cond-is}
use Rattle.com_laws_safety.proofs.Sources.{IsRest, Source, by_body, by_script, by_end, by_final, by_own, by_answer, by_inbox, by_retry, by_again, by_rest}
use Rattle.com_laws_amounts.proofs.Enough.{RowHas}

-- The cookie of a Revoke with S_OK is not revoked.
abbrev pub StandsIf : Books → Deed → Type 0
StandsIf b (deed.Revoke (pos g) hr) = is_S_OK hr ≡ true → (cookie b g).is_revoked ≡ false
StandsIf b _ = Unit {0}

-- ---- the entry of an action

made-stands : (b : Books) (s : Scenario) (v : Sight) (k i : Asked) (r : Result Placed HResult) → StandsIf b (made_as s v k i r)
made-stands b s v k i (Ok p) = tt
made-stands b s v k i (Err hr) = tt

created_of-stands : (b : Books) (s : Scenario) (v : Sight) (l a : ℕ) (k i : Asked) (c j : Option ℕ) → StandsIf b (created_of s v l a k i c j)
created_of-stands b s v l a k i None j = tt
created_of-stands b s v l a k i (Some c) j = made-stands b s v k i (placing (creator v l a) c j (class_at s.classes c))

created-stands : (b : Books) (s : Scenario) (v : Sight) (l : ℕ) (k i : Asked) (a : Option ℕ) → StandsIf b (created s v l k i a)
created-stands b s v l k i None = tt
created-stands b s v l k i (Some a) = created_of-stands b s v l a k i (class_number s k) (interface_number s i)

initialised-stands : (b : Books) (v : Sight) (m : Mode) (a : Option ℕ) → StandsIf b (initialised v m a)
initialised-stands b v m None = tt
initialised-stands b v m (Some a) = tt

marshalled-stands : (b : Books) (s : Scenario) (v : Sight) (l : ℕ) (m : MarshalMode) (held : Option RefValue) (hr : Option HResult) → StandsIf b (marshalled s v l m held hr)
marshalled-stands b s v l m held (Some hr) = tt
marshalled-stands b s v l m None None = tt
marshalled-stands b s v l m (Some r) None = tt

registered-stands : (b : Books) (v : Sight) (held : Option RefValue) (hr : Option HResult) → StandsIf b (registered v held hr)
registered-stands b v held (Some hr) = tt
registered-stands b v held None = tt

unmarshalled-stands : (b : Books) (v : Sight) (l : ℕ) (n : Named) → StandsIf b (unmarshalled v l n)
unmarshalled-stands b v l (NamesPacket p) = tt
unmarshalled-stands b v l (Refuses hr) = tt

dropped-stands : (b : Books) (n : Named) → StandsIf b (dropped n)
dropped-stands b (NamesPacket p) = tt
dropped-stands b (Refuses hr) = tt

got_with-stands : (b : Books) (v : Sight) (l : ℕ) (g : ℤ) (k : Cookie) (t : Bool) → StandsIf b (cond t (deed.Get g (Some (reference k.object k.iface)) (gained_refs marshal.Strong (owned_by v l k.object) 0) S_OK) (deed.Get g None 0 CO_E_OBJNOTCONNECTED))
got_with-stands b v l g k true = tt
got_with-stands b v l g k false = tt

got_by-stands : (b : Books) (v : Sight) (l : ℕ) (g : ℤ) (k : Cookie) → StandsIf b (got_by v l g k)
got_by-stands b v l g k = cond-of (StandsIf b) k.is_revoked (deed.Get g None 0 E_INVALIDARG) (got_with v l g k) tt (got_with-stands b v l g k (v.books.live k.object))

got-stands : (b : Books) (v : Sight) (l : ℕ) (g : ℤ) (a : Option ℕ) → StandsIf b (got v l g a)
got-stands b v l g None = tt
got-stands b v l g (Some a) = got_by-stands b v l g (cookie v.books (cookie_number g))

if-ok : (r : Bool) → is_S_OK (cond r E_INVALIDARG S_OK) ≡ true → r ≡ false
if-ok true e = let no : false ≡ true = e in cc
if-ok false e = refl

revoked-stands : (v : Sight) (g : ℤ) (a : Option ℕ) → StandsIf v.books (revoked v g a)
revoked-stands v (pos g) None = λ e. let no : false ≡ true = e in cc
revoked-stands v (pos g) (Some a) = if-ok (cookie v.books g).is_revoked
revoked-stands v (negsuc g) None = tt
revoked-stands v (negsuc g) (Some a) = tt

called-stands : (b : Books) (s : Scenario) (v : Sight) (l : ℕ) (held : Option RefValue) (i m : ℕ) (args : List Value) (hr : Option HResult) → StandsIf b (called s v l held i m args hr)
called-stands b s v l held i m args (Some hr) = tt
called-stands b s v l held i m args None = tt

left-stands : (b : Books) (s : Scenario) (v : Sight) (l c : ℕ) (i : Option Issue) (hr : HResult) (x : Option Value) → StandsIf b (left_as s v l c i hr x)
left-stands b s v l c None hr x = tt
left-stands b s v l c (Some i) hr x = tt

left_by-stands : (b : Books) (s : Scenario) (v : Sight) (l : ℕ) (hr : HResult) (x : Option Value) (r : Option ℕ) → StandsIf b (left_by s v l hr x r)
left_by-stands b s v l hr x None = tt
left_by-stands b s v l hr x (Some c) = left-stands b s v l c (v.issue c) hr x

deed-stands : (s : Scenario) (v : Sight) (l : ℕ) (a : Action) → StandsIf v.books (deed_of s v l a)
deed-stands s v l (action.Create slot k i) = created-stands v.books s v l k i (v.home l)
deed-stands s v l (action.Query to held i) = tt
deed-stands s v l (action.Copy to held) = tt
deed-stands s v l (action.Release from held) = tt
deed-stands s v l (action.Call held i m args to) = called-stands v.books s v l held i m args (call_refusal s (v.home l) (v.running l) v.owns v.books.live held i m)
deed-stands s v l (action.Marshal b held m) = marshalled-stands v.books s v l m held (hold_refusal v (v.home l) held)
deed-stands s v l (action.Unmarshal slot b) = unmarshalled-stands v.books v l (named_by s v (v.home l) (v.buffers b))
deed-stands s v l (action.Drop b) = dropped-stands v.books (named_by s v (v.home l) (v.buffers b))
deed-stands s v l (action.Raw b bytes) = tt
deed-stands s v l (action.Register to held) = registered-stands v.books v held (hold_refusal v (v.home l) held)
deed-stands s v l (action.Get slot g) = got-stands v.books v l g (v.home l)
deed-stands s v l (action.Revoke g) = revoked-stands v g (v.home l)
deed-stands s v l (action.Disconnect held) = tt
deed-stands s v l (action.Post m w) = tt
deed-stands s v l (action.Quit m) = tt
deed-stands s v l (action.Leave hr x) = left_by-stands v.books s v l hr x (running_call (v.openers l))
deed-stands s v l (action.Init m) = initialised-stands v.books v m (v.home l)
deed-stands s v l action.Uninit = tt
deed-stands s v l (action.SetFilter f) = tt
deed-stands s v l (action.Pump n) = tt

-- ---- the entry of a rule

admission-stands : (b : Books) (s : Scenario) (v : Sight) (l c : ℕ) → StandsIf b (admission s v l c)
admission-stands b s v l c =
    cond-of (StandsIf b) (nat_le 256 (length (v.openers l))) (deed.Refuse c RPC_E_OUT_OF_RESOURCES) _ tt
    (cond-of (StandsIf b) (posted_to_sta v c && not (is_handled_in s v l c)) (deed.Verdict c (call_sort v l c) (verdict_on s v l c)) _ tt
    (cond-of (StandsIf b) (arguments_gone v c) (deed.Refuse c RPC_E_SERVER_CANTUNMARSHAL_DATA) (deed.Enter c (object_of (v.issue c)) (v.owner (object_of (v.issue c)) l) (where_true (posted_to_sta v c) (call_sort v l c)) (v.unread c)) tt tt))

answered-stands : (b : Books) (v : Sight) (c : ℕ) (x : Answer) (p : Option ℕ) → StandsIf b (answered v c x p)
answered-stands b v c x (Some p) = tt
answered-stands b v c x None = tt

rest-stands : (b : Books) (d : Deed) → IsRest d → StandsIf b d
rest-stands b (deed.Revoke g hr) p = absurd p
rest-stands b _ p = tt

pub stands : (s : Scenario) (h : List Entry) (l : ℕ) (d : Deed) → Source s (sight s h) l d → StandsIf (books s h) d
stands s h l d (by_body c o a os x p q e) = subst (StandsIf (books s h)) e (deed-stands s (sight s h) l x)
stands s h l d (by_script x p t q e) = subst (StandsIf (books s h)) e (deed-stands s (sight s h) l x)
stands s h l d (by_end p t e) = subst (StandsIf (books s h)) e (cond-of (StandsIf (books s h)) ((sight s h).count l == 0) deed.End (uninitialised (sight s h) l) tt tt)
stands s h l d (by_final o p e) = subst (StandsIf (books s h)) e tt
stands s h l d (by_own c p q e) = subst (StandsIf (books s h)) e (admission-stands (books s h) s (sight s h) l c)
stands s h l d (by_answer c x p q e) = subst (StandsIf (books s h)) e (answered-stands (books s h) (sight s h) c x (packet_left (sight s h) c))
stands s h l d (by_inbox c p q e) = subst (StandsIf (books s h)) e (admission-stands (books s h) s (sight s h) l c)
stands s h l d (by_retry c n x q e) = subst (StandsIf (books s h)) e tt
stands s h l d (by_again c t q e) = subst (StandsIf (books s h)) e tt
stands s h l d (by_rest p) = rest-stands (books s h) d p

-- ---- the rows of an entry

-- None of the rows revokes a cookie.
abbrev pub AllNever : List Row → Type 0
AllNever [] = Unit {0}
AllNever (r ∷ rs) = RowHas (λ g. ⊥) r × AllNever rs

-- The first of the rows revokes a cookie that stands, or none, and the others none.
abbrev pub StandAt : Books → List Row → Type 0
StandAt b [] = Unit {0}
StandAt b (r ∷ rs) = RowHas (λ g. (cookie b g).is_revoked ≡ false) r × AllNever rs

never-has : (W : ℕ → Type 0) (r : Row) → RowHas (λ g. ⊥) r → RowHas W r
never-has W (Revokes g) p = absurd p
never-has W _ p = tt

pub never-stands : (b : Books) (rs : List Row) → AllNever rs → StandAt b rs
never-stands b [] p = tt
never-stands b (r ∷ rs) p = (never-has (λ g. (cookie b g).is_revoked ≡ false) r p.0, p.1)

marshals-never : (a : ℕ) (rs : List RefValue) → AllNever (marshal_all a rs)
marshals-never a [] = tt
marshals-never a (r ∷ rs) = (tt, marshals-never a rs)

packets-never : (a : ℕ) (ps : List ℕ) → AllNever (map (λ p. Unmarshals a p) ps)
packets-never a [] = tt
packets-never a (p ∷ ps) = (tt, packets-never a ps)

reply-never : (a : ℕ) (v : Option Value) (bytes : Option (List ℕ)) → AllNever (reply_rows a v bytes)
reply-never a v None = tt
reply-never a v (Some bytes) = marshals-never a (carried (result_list v))

back-never : (a : ℕ) (t : Bool) (p : Option ℕ) → AllNever (back_rows a t p)
back-never a t None = tt
back-never a t (Some p) = cond-is AllNever t (Unmarshals a p ∷ []) (Drops p ∷ []) (tt, tt) (tt, tt)

revoke-stands : (b : Books) (g : ℕ) (t : Bool) → (t ≡ true → (cookie b g).is_revoked ≡ false) → StandAt b (cond t (Revokes g ∷ []) [])
revoke-stands b g true f = (f refl, tt)
revoke-stands b g false f = tt

pub rows-stand : (s : Scenario) (x : Option Action) (left : ℕ → Bool) (b : Books) (a : ℕ) (d : Deed) → StandsIf b d → StandAt b (rows s x left b a d)
rows-stand s x left b a (deed.Made (Some o) z c (asked.Number i) hr) f = (tt, tt)
rows-stand s x left b a (deed.Made (Some o) z c (asked.Guid g) hr) f = tt
rows-stand s x left b a (deed.Made None z c i hr) f = tt
rows-stand s x left b a (deed.Query (Some o) (asked.Number i) hr) f = cond-is (StandAt b) (is_S_OK hr) (Asks a o i ∷ []) [] (tt, tt) tt
rows-stand s x left b a (deed.Query (Some o) (asked.Guid g) hr) f = tt
rows-stand s x left b a (deed.Query None i hr) f = tt
rows-stand s x left b a (deed.Marshal (Some t) m (Some r) refs hr bytes) f = (tt, tt)
rows-stand s x left b a (deed.Marshal (Some t) m None refs hr bytes) f = tt
rows-stand s x left b a (deed.Marshal None m held refs hr bytes) f = tt
rows-stand s x left b a (deed.Unmarshal (Some t) held refs hr) f = (tt, tt)
rows-stand s x left b a (deed.Unmarshal None held refs hr) f = tt
rows-stand s x left b a (deed.DropPacket (Some t) hr) f = (tt, tt)
rows-stand s x left b a (deed.DropPacket None hr) f = tt
rows-stand s x left b a (deed.Register (Some t) (Some r) hr) f = (tt, tt)
rows-stand s x left b a (deed.Register (Some t) None hr) f = tt
rows-stand s x left b a (deed.Register None held hr) f = tt
rows-stand s x left b a (deed.Get t (Some r) refs hr) f = (tt, tt)
rows-stand s x left b a (deed.Get t None refs hr) f = tt
rows-stand s x left b a (deed.Revoke (pos t) hr) f = revoke-stands b t (is_S_OK hr) f
rows-stand s x left b a (deed.Revoke (negsuc t) hr) f = tt
rows-stand s x left b a (deed.Out c o i m r cause (Some bytes)) f = never-stands b _ (marshals-never a (carried (out_values s b true x)))
rows-stand s x left b a (deed.Out c o i m r cause None) f = tt
rows-stand s x left b a (deed.Enter c o z t vs) f = never-stands b _ (packets-never z (b.arguments c))
rows-stand s x left b a (deed.Leave c hr v bytes) f = never-stands b _ (reply-never a v bytes)
rows-stand s x left b a (deed.Back c hr v) f = never-stands b _ (back-never a (left c) (b.result c))
rows-stand s x left b a _ f = tt
