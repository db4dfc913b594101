-- What an entry does to packets and cookies: each outstanding packet and each cookie that was not revoked has a reference that
-- passes a test.
use Rattle.std.proofs.Common.{arith}
use Rattle.std.proofs.lemmas.List.Elements.{All-set, All-map, All-append, All-cons, All-nil, All-weaker}
use Rattle.std.specs.Prelude.{◌≡◌, ℕ, zero, suc, ◌/◌, ◌==◌, ◌&&◌, pos, negsuc, Bool, true, false, not, nat_le, List, [], ◌∷◌, ◌++◌, map, Option, Some, None, All}
use Rattle.com_base.specs.declared.hresult.HResult.{HResult}
use Rattle.com_base.specs.declared.value.RefValue.{RefValue}
use Rattle.com_base.specs.declared.value.Kind.{Kind}
use Rattle.com_base.specs.declared.value.Kind.TheVariants as kind
use Rattle.com_base.specs.declared.value.Value.{Value}
use Rattle.com_base.specs.declared.value.Value.TheVariants as value
use Rattle.com_base.specs.declared.value.MarshalMode.{MarshalMode}
use Rattle.com_base.specs.declared.value.MarshalMode.TheVariants as marshal
use Rattle.com_base.specs.Values.{as_kind, default_of, has_kind}
use Rattle.com_body.specs.declared.operands.Asked.TheVariants as asked
use Rattle.com_body.specs.declared.actions.Action.{Action}
use Rattle.com_body.specs.declared.actions.Action.TheVariants as action
use Rattle.com_model.specs.declared.deeds.Deed.{Deed}
use Rattle.com_model.specs.declared.deeds.Deed.TheVariants as deed
use Rattle.com_model.specs.declared.scenario.Scenario.{Scenario}
use Rattle.com_model.specs.Answers.{is_S_OK, is_failure}
use Rattle.com_model.specs.Values.{if_live, sent_value, sent_values, sent_result, given_or_default, carried, result_list}
use Rattle.com_model.specs.Frames.{Scene, reference}
use Rattle.com_model.specs.Places.{Ground}
use Rattle.com_refs_books.specs.declared.keeps.Packet.{Packet}
use Rattle.com_refs_books.specs.Changes.{Books, no_packet, no_cookie, packet, cookie, Change, ToProxy, ToPacket, Split, Join, Return, ToCookie, Withdraw, Same, set_from_one, changed, Row, Makes, Takes, Asks, Marshals, Unmarshals, Drops, Registers, Revokes, marshal_change, unmarshal_change, change, marshal_all, entered_rows, given_back, cut, cut_packet, cut_cookie}
use Rattle.com_model.specs.Books.{out_values, reply_rows, back_rows, rows, kept, most, closed}
use Rattle.com_model.proofs.Goods.{all-of, all-or}
use Rattle.com_model.proofs.Fines.{cond-is}
use Rattle.com_laws_values.specs.Held.{HeldBy, ValueBy, ResultBy, PacketBy, CookieBy, NamesBy}
use Rattle.com_laws_values.proofs.Walks.{ActionBy, all-head, all-tail}

pub record TablesBy (R : RefValue → Type 0) (b : Books) : Type 0 where
  pub packets : All (PacketBy R) b.packets
  pub cookies : All (CookieBy R) b.cookies

pub more-tables : (P Q : RefValue → Type 0) → ((r : RefValue) → P r → Q r) → (b : Books) → TablesBy P b → TablesBy Q b
more-tables P Q f b g = record {
  packets = all-of (PacketBy P) (PacketBy Q) (λ k p e. f (reference k.object k.iface) (p e)) b.packets g.packets;
  cookies = all-of (CookieBy P) (CookieBy Q) (λ k p e. f (reference k.object k.iface) (p e)) b.cookies g.cookies;
}

-- ---- values that travel

pub default-by : (R : RefValue → Type 0) (k : Kind) → ValueBy R (default_of k)
default-by R kind.Int = tt
default-by R kind.Bool = tt
default-by R kind.Text = (All-nil _, omega arith)
default-by R kind.Bytes = omega arith
default-by R kind.Guid = tt
default-by R (kind.Ref i) = tt

live-by : (R : RefValue → Type 0) (b : Bool) (live : ℕ → Bool) (v : Value) → ValueBy R v → ValueBy R (if_live b live v)
live-by R true live (value.Ref (Some r)) p = cond-is (HeldBy R) (live r.object) (Some r) None p tt
live-by R true live (value.Ref None) p = tt
live-by R true live (value.Int x) p = tt
live-by R true live (value.Bool x) p = tt
live-by R true live (value.Text x) p = p
live-by R true live (value.Bytes x) p = p
live-by R true live (value.Guid x) p = tt
live-by R false live v p = p

sent-by : (R : RefValue → Type 0) (b : Bool) (live : ℕ → Bool) (k : Kind) (v : Value) → ValueBy R v → ValueBy R (sent_value b live k v)
sent-by R b live k v p = live-by R b live (as_kind v k) (cond-is (ValueBy R) (has_kind v k) v (default_of k) p (default-by R k))

all-sent-by : (R : RefValue → Type 0) (b : Bool) (live : ℕ → Bool) (ks : List Kind) (vs : List Value) → All (ValueBy R) vs → All (ValueBy R) (sent_values b live ks vs)
all-sent-by R b live [] vs p = All-nil (ValueBy R)
all-sent-by R b live (k ∷ ks) [] p = All-cons (ValueBy R) (default_of k) _ (default-by R k) (all-sent-by R b live ks [] p)
all-sent-by R b live (k ∷ ks) (v ∷ vs) p = All-cons (ValueBy R) (sent_value b live k v) _ (sent-by R b live k v (all-head (ValueBy R) v vs p)) (all-sent-by R b live ks vs (all-tail (ValueBy R) v vs p))

given-or-by : (R : RefValue → Type 0) (k : Kind) (v : Option Value) → ResultBy R v → ValueBy R (given_or_default k v)
given-or-by R k None p = default-by R k
given-or-by R k (Some v) p = p

pub result-by : (R : RefValue → Type 0) (b : Bool) (live : ℕ → Bool) (hr : HResult) (k : Option Kind) (v : Option Value) → ResultBy R v → ResultBy R (sent_result b live hr k v)
result-by R b live hr None v p = tt
result-by R b live hr (Some k) v p = cond-is (ResultBy R) (is_failure hr) None (Some (sent_value b live k (given_or_default k v))) tt (sent-by R b live k (given_or_default k v) (given-or-by R k v p))

-- ---- one change

false-true : false ≡ true → ⊥
false-true e = cc

true-false : true ≡ false → ⊥
true-false e = cc

no-packet-by : (R : RefValue → Type 0) → PacketBy R no_packet
no-packet-by R e = absurd (false-true e)

no-cookie-by : (R : RefValue → Type 0) → CookieBy R no_cookie
no-cookie-by R e = absurd (true-false e)

pub packet-by : (R : RefValue → Type 0) (b : Books) (p : ℕ) → TablesBy R b → PacketBy R (packet b p)
packet-by R b zero g = no-packet-by R
packet-by R b (suc p) g = all-or (PacketBy R) b.packets p no_packet (no-packet-by R) g.packets

pub cookie-by : (R : RefValue → Type 0) (b : Books) (k : ℕ) → TablesBy R b → CookieBy R (cookie b k)
cookie-by R b zero g = no-cookie-by R
cookie-by R b (suc k) g = all-or (CookieBy R) b.cookies k no_cookie (no-cookie-by R) g.cookies

set-all : {X : Type 0} (P : X → Type 0) (xs : List X) (k : ℕ) (x : X) → P x → All P xs → All P (set_from_one xs k x)
set-all P xs zero x p q = q
set-all P xs (suc k) x p q = All-set P xs k x p q

last-all : {X : Type 0} (P : X → Type 0) (xs : List X) (x : X) → P x → All P xs → All P (xs ++ x ∷ [])
last-all P xs x p q = All-append P xs (x ∷ []) q (All-cons P x [] p (All-nil P))

abbrev ChangeBy : (R : RefValue → Type 0) → Change → Type 0
ChangeBy R (ToPacket y o i k) = R (reference o i)
ChangeBy R (Split x o i k) = R (reference o i)
ChangeBy R (ToCookie o i k) = R (reference o i)
ChangeBy R _ = Unit {0}

changed-by : (R : RefValue → Type 0) (b : Books) (x : Change) → ChangeBy R x → TablesBy R b → TablesBy R (changed b x)
changed-by R b (ToProxy y o i k) p g = record { packets = g.packets; cookies = g.cookies }
changed-by R b (ToPacket y o i k) p g = record { packets = last-all (PacketBy R) b.packets _ (λ e. p) g.packets; cookies = g.cookies }
changed-by R b (Split y o i k) p g = record { packets = last-all (PacketBy R) b.packets _ (λ e. p) g.packets; cookies = g.cookies }
changed-by R b (Join y k) p g = record { packets = set-all (PacketBy R) b.packets k no_packet (no-packet-by R) g.packets; cookies = g.cookies }
changed-by R b (Return k) p g = record { packets = set-all (PacketBy R) b.packets k no_packet (no-packet-by R) g.packets; cookies = g.cookies }
changed-by R b (ToCookie o i k) p g = record { packets = g.packets; cookies = last-all (CookieBy R) b.cookies _ (λ e. p) g.cookies }
changed-by R b (Withdraw k) p g = record { packets = g.packets; cookies = set-all (CookieBy R) b.cookies k no_cookie (no-cookie-by R) g.cookies }
changed-by R b Same p g = g

-- ---- rows

abbrev RowBy : (R : RefValue → Type 0) → Row → Type 0
RowBy R (Marshals x y o i) = R (reference o i)
RowBy R (Registers o i) = R (reference o i)
RowBy R _ = Unit {0}

marshal-by : (R : RefValue → Type 0) (y : MarshalMode) (w : Bool) (k x o i : ℕ) → R (reference o i) → ChangeBy R (marshal_change y w k x o i)
marshal-by R marshal.Normal w k x o i p = cond-is (ChangeBy R) w (ToPacket marshal.Normal o i 5) _ p (cond-is (ChangeBy R) (nat_le 2 k) (Split x o i (k / 2)) (ToPacket marshal.Normal o i 5) p p)
marshal-by R marshal.Strong w k x o i p = p
marshal-by R marshal.Weak w k x o i p = p

unmarshal-by : (R : RefValue → Type 0) (y : MarshalMode) (w : Bool) (x p o i : ℕ) → ChangeBy R (unmarshal_change y w x p o i)
unmarshal-by R marshal.Normal w x p o i = cond-is (ChangeBy R) w (Return p) (Join x p) tt tt
unmarshal-by R marshal.Strong w x p o i = cond-is (ChangeBy R) w Same (ToProxy x o i 5) tt tt
unmarshal-by R marshal.Weak w x p o i = cond-is (ChangeBy R) w Same (ToProxy x o i 5) tt tt

change-by : (R : RefValue → Type 0) (owned : ℕ → ℕ → Bool) (b : Books) (r : Row) → RowBy R r → ChangeBy R (change owned b r)
change-by R owned b (Makes x o i) p = cond-is (ChangeBy R) (owned o x) Same (ToProxy x o i 5) tt tt
change-by R owned b (Takes x o i) p = cond-is (ChangeBy R) (b.live o && not (owned o x)) (ToProxy x o i 5) Same tt tt
change-by R owned b (Asks x o i) p = cond-is (ChangeBy R) (b.live o && (not (owned o x) && b.proxy x o i == 0)) (ToProxy x o i 5) Same tt tt
change-by R owned b (Marshals x y o i) p = cond-is (ChangeBy R) (b.live o) (marshal_change y (owned o x) (b.proxy x o i) x o i) Same (marshal-by R y (owned o x) (b.proxy x o i) x o i p) tt
change-by R owned b (Unmarshals x p) q = cond-is (ChangeBy R) (packet b p).outstanding (unmarshal_change (packet b p).mode (owned (packet b p).object x) x p (packet b p).object (packet b p).iface) Same (unmarshal-by R (packet b p).mode (owned (packet b p).object x) x p (packet b p).object (packet b p).iface) tt
change-by R owned b (Drops p) q = cond-is (ChangeBy R) (packet b p).outstanding (Return p) Same tt tt
change-by R owned b (Registers o i) p = cond-is (ChangeBy R) (b.live o) (ToCookie o i 1) Same p tt
change-by R owned b (Revokes x) p = tt

abbrev RowsBy : (R : RefValue → Type 0) → List Row → Type 0
RowsBy R [] = Unit {0}
RowsBy R (r ∷ rs) = RowBy R r × RowsBy R rs

rows-entered : (R : RefValue → Type 0) (owned : ℕ → ℕ → Bool) (b : Books) (rs : List Row) → RowsBy R rs → TablesBy R b → TablesBy R (entered_rows owned b rs)
rows-entered R owned b [] p g = g
rows-entered R owned b (r ∷ rs) p g = rows-entered R owned (changed b (change owned b r)) rs p.1 (changed-by R b (change owned b r) (change-by R owned b r p.0) g)

carried-rows : (R : RefValue → Type 0) (x : ℕ) (vs : List Value) → All (ValueBy R) vs → RowsBy R (marshal_all x (carried vs))
carried-rows R x [] p = tt
carried-rows R x (v ∷ vs) p = by-value v (all-head (ValueBy R) v vs p) (carried-rows R x vs (all-tail (ValueBy R) v vs p))
  where
    by-value : (v : Value) → ValueBy R v → RowsBy R (marshal_all x (carried vs)) → RowsBy R (marshal_all x (carried (v ∷ vs)))
    by-value (value.Ref (Some r)) q t = (q, t)
    by-value (value.Ref None) q t = t
    by-value (value.Int y) q t = t
    by-value (value.Bool y) q t = t
    by-value (value.Text y) q t = t
    by-value (value.Bytes y) q t = t
    by-value (value.Guid y) q t = t

packet-rows : (R : RefValue → Type 0) (x : ℕ) (ps : List ℕ) → RowsBy R (map (λ p. Unmarshals x p) ps)
packet-rows R x [] = tt
packet-rows R x (p ∷ ps) = (tt, packet-rows R x ps)

list-by : (R : RefValue → Type 0) (v : Option Value) → ResultBy R v → All (ValueBy R) (result_list v)
list-by R None p = All-nil (ValueBy R)
list-by R (Some v) p = All-cons (ValueBy R) v [] p (All-nil (ValueBy R))

returned-rows : (R : RefValue → Type 0) (x : ℕ) (b : Bool) (p : Option ℕ) → RowsBy R (back_rows x b p)
returned-rows R x b None = tt
returned-rows R x b (Some p) = cond-is (RowsBy R) b (Unmarshals x p ∷ []) (Drops p ∷ []) (tt, tt) (tt, tt)

reply-by : (R : RefValue → Type 0) (x : ℕ) (v : Option Value) (bytes : Option (List ℕ)) → ResultBy R v → RowsBy R (reply_rows x v bytes)
reply-by R x v None p = tt
reply-by R x v (Some bytes) p = carried-rows R x (result_list v) (list-by R v p)

-- The action of a lane, if it has one.
abbrev pub ActBy : (R : RefValue → Type 0) → Option Action → Type 0
ActBy R None = Unit {0}
ActBy R (Some a) = ActionBy R a

pub values-by : (s : Scenario) (R : RefValue → Type 0) (b : Books) (m : Bool) (x : Option Action) → ActBy R x → All (ValueBy R) (out_values s b m x)
values-by s R b m (Some (action.Call held i y args to)) p = all-sent-by R m b.live _ args p.1
values-by s R b m None p = All-nil (ValueBy R)
values-by s R b m (Some _) p = All-nil (ValueBy R)

rows-by : (s : Scenario) (R : RefValue → Type 0) (x : Option Action) (left : ℕ → Bool) (b : Books) (w : ℕ) (d : Deed) → ActBy R x → NamesBy s R d → RowsBy R (rows s x left b w d)
rows-by s R x left b w (deed.Made (Some o) z c (asked.Number i) hr) u f = (tt, tt)
rows-by s R x left b w (deed.Made (Some o) z c (asked.Guid g) hr) u f = tt
rows-by s R x left b w (deed.Made None z c i hr) u f = tt
rows-by s R x left b w (deed.Query (Some o) (asked.Number i) hr) u f = cond-is (RowsBy R) (is_S_OK hr) (Asks w o i ∷ []) [] (tt, tt) tt
rows-by s R x left b w (deed.Query (Some o) (asked.Guid g) hr) u f = tt
rows-by s R x left b w (deed.Query None i hr) u f = tt
rows-by s R x left b w (deed.Marshal (Some t) z (Some r) refs hr bytes) u f = (f, tt)
rows-by s R x left b w (deed.Marshal (Some t) z None refs hr bytes) u f = tt
rows-by s R x left b w (deed.Marshal None z held refs hr bytes) u f = tt
rows-by s R x left b w (deed.Unmarshal (Some t) held refs hr) u f = (tt, tt)
rows-by s R x left b w (deed.Unmarshal None held refs hr) u f = tt
rows-by s R x left b w (deed.DropPacket (Some t) hr) u f = (tt, tt)
rows-by s R x left b w (deed.DropPacket None hr) u f = tt
rows-by s R x left b w (deed.Register (Some t) (Some r) hr) u f = (f, tt)
rows-by s R x left b w (deed.Register (Some t) None hr) u f = tt
rows-by s R x left b w (deed.Register None held hr) u f = tt
rows-by s R x left b w (deed.Get t (Some r) refs hr) u f = (tt, tt)
rows-by s R x left b w (deed.Get t None refs hr) u f = tt
rows-by s R x left b w (deed.Revoke (pos t) hr) u f = cond-is (RowsBy R) (is_S_OK hr) (Revokes t ∷ []) [] (tt, tt) tt
rows-by s R x left b w (deed.Revoke (negsuc t) hr) u f = tt
rows-by s R x left b w (deed.Out c o i z r cause (Some bytes)) u f = carried-rows R w (out_values s b true x) (values-by s R b true x u)
rows-by s R x left b w (deed.Out c o i z r cause None) u f = tt
rows-by s R x left b w (deed.Enter c o z t vs) u f = packet-rows R z (b.arguments c)
rows-by s R x left b w (deed.Leave c hr v bytes) u f = reply-by R w v bytes f
rows-by s R x left b w (deed.Back c hr v) u f = returned-rows R w (left c) (b.result c)
rows-by s R x left b w _ u f = tt

-- ---- the end of an entry

kept-by : (R : RefValue → Type 0) (before : Books) (d : Deed) (after : Books) → TablesBy R after → TablesBy R (kept before d after)
kept-by R x (deed.Out k o i y r cause bytes) b g = record { packets = g.packets; cookies = g.cookies }
kept-by R x (deed.Leave k hr v bytes) b g = record { packets = g.packets; cookies = g.cookies }
kept-by R x _ b g = g

given-by : (R : RefValue → Type 0) (k : ℕ) (f : ℕ → ℕ → ℕ) (b : Books) → TablesBy R b → TablesBy R (given_back k f b)
given-by R k f b g = record { packets = g.packets; cookies = g.cookies }

cut-one : (R : RefValue → Type 0) (live : ℕ → Bool) (p : Packet) → PacketBy R p → PacketBy R (cut_packet live p)
cut-one R live p g = cond-is (PacketBy R) (live p.object) p no_packet g (no-packet-by R)

cut-by : (R : RefValue → Type 0) (live : ℕ → Bool) (b : Books) → TablesBy R b → TablesBy R (cut live b)
cut-by R live b g = record {
  packets = All-map (PacketBy R) (cut_packet live) b.packets (All-weaker (PacketBy R) (λ q. PacketBy R (cut_packet live q)) (λ q x. cut-one R live q x) b.packets g.packets);
  cookies = All-map (CookieBy R) (cut_cookie live) b.cookies g.cookies;
}

pub closed-by : (s : Scenario) (R : RefValue → Type 0) (g : Ground) (w : Scene) (x : Option Action) (left : ℕ → Bool) (z : ℕ) (d : Deed) (b : Books) → ActBy R x → NamesBy s R d → TablesBy R b → TablesBy R (closed s g w d (most s g w x left z d b))
closed-by s R g w x left z d b u f t = cut-by R _ _ (given-by R _ _ _ (kept-by R b d _ (rows-entered R g.owns b _ (rows-by s R x left b z d u f) t)))
