-- The books of public references stay within the numbers that were given.
use Rattle.std.proofs.Common.{ap, ◌∙◌, eqb-true, arith}
use Rattle.std.proofs.lemmas.Bool.{false_from_ne_true}
use Rattle.std.proofs.lemmas.List.Elements.{All-set, All-map, All-append, All-cons, All-nil, All-weaker}
use Rattle.std.proofs.lemmas.Grind.{common_steps}
use Rattle.std.specs.Prelude.{◌≡◌, refl, ℕ, zero, suc, ◌+◌, ◌-◌, ◌/◌, ◌≤◌, ◌<◌, pos, negsuc, Bool, true, false, cond, not, ◌==◌, ◌&&◌, ◌||◌, nat_le, List, [], ◌∷◌, ◌++◌, map, Option, Some, None, All}
use Rattle.com_base.specs.declared.hresult.HResult.{HResult}
use Rattle.com_base.specs.declared.value.Value.{Value}
use Rattle.com_base.specs.declared.value.Value.TheVariants as value
use Rattle.com_base.specs.declared.value.MarshalMode.{MarshalMode}
use Rattle.com_base.specs.declared.value.MarshalMode.TheVariants as marshal
use Rattle.com_body.specs.declared.operands.Asked.TheVariants as asked
use Rattle.com_body.specs.declared.actions.Action.{Action}
use Rattle.com_body.specs.declared.actions.Action.TheVariants as action
use Rattle.com_model.specs.declared.deeds.Deed.{Deed}
use Rattle.com_model.specs.declared.deeds.Deed.TheVariants as deed
use Rattle.com_model.specs.declared.scenario.Scenario.{Scenario}
use Rattle.com_model.specs.Answers.{is_S_OK}
use Rattle.com_model.specs.Objects.{makes}
use Rattle.com_model.specs.Values.{carried, result_list}
use Rattle.com_model.specs.Frames.{Scene}
use Rattle.com_model.specs.Places.{Ground}
use Rattle.com_refs_books.specs.declared.keeps.Packet.{Packet}
use Rattle.com_refs_books.specs.Changes.{Books, packet, cookie, Change, ToProxy, ToPacket, Split, Join, Return, ToCookie, Withdraw, Same, at2, at3, set_from_one, changed, Row, Makes, Takes, Asks, Marshals, Unmarshals, Drops, Registers, Revokes, marshal_change, unmarshal_change, change, marshal_all, entered_rows, given_back, cut, cut_packet, no_packet}
use Rattle.com_model.specs.Books.{out_values, reply_rows, back_rows, rows, kept, made_by, live_after, most, closed}
use Rattle.com_model.proofs.Goods.{GoodValue, GoodResult, GoodAction, all-of, more-result}
use Rattle.com_model.proofs.Fines.{cond-is, GoodPacket, GoodCookie, FineBy, packet-good, cookie-good, all-sent-good}
use Rattle.com_model.proofs.Scenes.{faces, Issued, put-past}

-- n objects were made, c calls issued, and apartments are numbered below a.
pub record GoodBooks (s : Scenario) (n c a : ℕ) (b : Books) : Type 0 where
  pub packets : All (GoodPacket n (faces s)) b.packets
  pub cookies : All (GoodCookie n (faces s)) b.cookies
  pub stub_o : (o i : ℕ) → n + 1 ≤ o → b.stub o i ≡ 0
  pub stub_i : (o i : ℕ) → faces s ≤ i → b.stub o i ≡ 0
  pub proxy_a : (x o i : ℕ) → a ≤ x → b.proxy x o i ≡ 0
  pub proxy_o : (x o i : ℕ) → n + 1 ≤ o → b.proxy x o i ≡ 0
  pub proxy_i : (x o i : ℕ) → faces s ≤ i → b.proxy x o i ≡ 0
  pub live : (o : ℕ) → n + 1 ≤ o → b.live o ≡ false
  pub arguments : (k : ℕ) → c + 1 ≤ k → b.arguments k ≡ []
  pub result : (k : ℕ) → c + 1 ≤ k → b.result k ≡ None

more-pair : (n k m : ℕ) → n ≤ k → (x y : ℕ) → (x ≤ n) × (y < m) → (x ≤ k) × (y < m)
more-pair n k m h x y p = let a : x ≤ n = p.0 in (omega (arith, h, a), p.1)

pub more-books : (s : Scenario) (n c a k d e : ℕ) (b : Books) → n ≤ k → c ≤ d → a ≤ e → GoodBooks s n c a b → GoodBooks s k d e b
more-books s n c a k d e b p q r g = record {
  packets = all-of (GoodPacket n (faces s)) (GoodPacket k (faces s)) (λ x y. more-pair n k (faces s) p x.object x.iface y) b.packets g.packets;
  cookies = all-of (GoodCookie n (faces s)) (GoodCookie k (faces s)) (λ x y. more-pair n k (faces s) p x.object x.iface y) b.cookies g.cookies;
  stub_o = λ o i h. g.stub_o o i (omega (arith, p, h));
  stub_i = g.stub_i;
  proxy_a = λ x o i h. g.proxy_a x o i (omega (arith, r, h));
  proxy_o = λ x o i h. g.proxy_o x o i (omega (arith, p, h));
  proxy_i = g.proxy_i;
  live = λ o h. g.live o (omega (arith, p, h));
  arguments = λ j h. g.arguments j (omega (arith, q, h));
  result = λ j h. g.result j (omega (arith, q, h));
}

-- ---- changes at one number

off : (x y : ℕ) → (x ≡ y → ⊥) → (x == y) ≡ false
off x y f = false_from_ne_true (x == y) (λ t. f (eqb-true x y t))

and-off : (p : Bool) → (p && false) ≡ false
and-off true = refl
and-off false = refl

at2-left : (o i x : ℕ) (f : ℕ → ℕ → ℕ) (k j : ℕ) → (k ≡ o → ⊥) → f k j ≡ 0 → at2 o i x f k j ≡ 0
at2-left o i x f k j n e = ap (λ (b : Bool). cond (b && (j == i)) x (f k j)) (off k o n) ∙ e

at2-right : (o i x : ℕ) (f : ℕ → ℕ → ℕ) (k j : ℕ) → (j ≡ i → ⊥) → f k j ≡ 0 → at2 o i x f k j ≡ 0
at2-right o i x f k j n e = ap (λ (b : Bool). cond (k == o && b) x (f k j)) (off j i n) ∙ ap (λ (b : Bool). cond b x (f k j)) (and-off (k == o)) ∙ e

at3-first : (a o i x : ℕ) (f : ℕ → ℕ → ℕ → ℕ) (c k j : ℕ) → (c ≡ a → ⊥) → f c k j ≡ 0 → at3 a o i x f c k j ≡ 0
at3-first a o i x f c k j n e = ap (λ (b : Bool). cond (b && (k == o && j == i)) x (f c k j)) (off c a n) ∙ e

at3-second : (a o i x : ℕ) (f : ℕ → ℕ → ℕ → ℕ) (c k j : ℕ) → (k ≡ o → ⊥) → f c k j ≡ 0 → at3 a o i x f c k j ≡ 0
at3-second a o i x f c k j n e = ap (λ (b : Bool). cond (c == a && (b && (j == i))) x (f c k j)) (off k o n) ∙ ap (λ (b : Bool). cond b x (f c k j)) (and-off (c == a)) ∙ e

at3-third : (a o i x : ℕ) (f : ℕ → ℕ → ℕ → ℕ) (c k j : ℕ) → (j ≡ i → ⊥) → f c k j ≡ 0 → at3 a o i x f c k j ≡ 0
at3-third a o i x f c k j n e = ap (λ (b : Bool). cond (c == a && (k == o && b)) x (f c k j)) (off j i n) ∙ ap (λ (b : Bool). cond (c == a && b) x (f c k j)) (and-off (k == o)) ∙ ap (λ (b : Bool). cond b x (f c k j)) (and-off (c == a)) ∙ e

apart-o : (n k o : ℕ) → o ≤ n → n + 1 ≤ k → k ≡ o → ⊥
apart-o n k o p q e = omega (arith, p, q, e)

apart-i : (n k o : ℕ) → o < n → n ≤ k → k ≡ o → ⊥
apart-i n k o p q e = omega (arith, p, q, e)

set-all : {X : Type 0} (P : X → Type 0) (xs : List X) (k : ℕ) (x : X) → P x → All P xs → All P (set_from_one xs k x)
set-all P xs zero x p q = q
set-all P xs (suc k) x p q = All-set P xs k x p q

last-all : {X : Type 0} (P : X → Type 0) (xs : List X) (x : X) → P x → All P xs → All P (xs ++ x ∷ [])
last-all P xs x p q = All-append P xs (x ∷ []) q (All-cons P x [] p (All-nil P))

abbrev GoodChange : (n m a : ℕ) → Change → Type 0
GoodChange n m a (ToProxy x o i k) = (x < a) × (o ≤ n) × (i < m)
GoodChange n m a (ToPacket y o i k) = (o ≤ n) × (i < m)
GoodChange n m a (Split x o i k) = (x < a) × (o ≤ n) × (i < m)
GoodChange n m a (Join x p) = x < a
GoodChange n m a (ToCookie o i k) = (o ≤ n) × (i < m)
GoodChange n m a _ = Unit {0}

changed-good : (s : Scenario) (n c a : ℕ) (b : Books) (x : Change) → 0 < faces s → GoodChange n (faces s) a x → GoodBooks s n c a b → GoodBooks s n c a (changed b x)
changed-good s n c a b (ToProxy y o i k) h p g = record {
  packets = g.packets;
  cookies = g.cookies;
  stub_o = λ u v z. at2-left o i _ b.stub u v (apart-o n u o p.1 z) (g.stub_o u v z);
  stub_i = λ u v z. at2-right o i _ b.stub u v (apart-i (faces s) v i p.2 z) (g.stub_i u v z);
  proxy_a = λ w u v z. at3-first y o i _ b.proxy w u v (apart-i a w y p.0 z) (g.proxy_a w u v z);
  proxy_o = λ w u v z. at3-second y o i _ b.proxy w u v (apart-o n u o p.1 z) (g.proxy_o w u v z);
  proxy_i = λ w u v z. at3-third y o i _ b.proxy w u v (apart-i (faces s) v i p.2 z) (g.proxy_i w u v z);
  live = g.live;
  arguments = g.arguments;
  result = g.result;
}
changed-good s n c a b (ToPacket y o i k) h p g = record {
  packets = last-all (GoodPacket n (faces s)) b.packets _ (p.0, p.1) g.packets;
  cookies = g.cookies;
  stub_o = λ u v z. at2-left o i _ b.stub u v (apart-o n u o p.0 z) (g.stub_o u v z);
  stub_i = λ u v z. at2-right o i _ b.stub u v (apart-i (faces s) v i p.1 z) (g.stub_i u v z);
  proxy_a = g.proxy_a;
  proxy_o = g.proxy_o;
  proxy_i = g.proxy_i;
  live = g.live;
  arguments = g.arguments;
  result = g.result;
}
changed-good s n c a b (Split y o i k) h p g = record {
  packets = last-all (GoodPacket n (faces s)) b.packets _ (p.1, p.2) g.packets;
  cookies = g.cookies;
  stub_o = g.stub_o;
  stub_i = g.stub_i;
  proxy_a = λ w u v z. at3-first y o i _ b.proxy w u v (apart-i a w y p.0 z) (g.proxy_a w u v z);
  proxy_o = λ w u v z. at3-second y o i _ b.proxy w u v (apart-o n u o p.1 z) (g.proxy_o w u v z);
  proxy_i = λ w u v z. at3-third y o i _ b.proxy w u v (apart-i (faces s) v i p.2 z) (g.proxy_i w u v z);
  live = g.live;
  arguments = g.arguments;
  result = g.result;
}
changed-good s n c a b (Join y p) h q g =
    let k : GoodPacket n (faces s) (packet b p) = packet-good n (faces s) b p h g.packets in
    record {
      packets = set-all (GoodPacket n (faces s)) b.packets p _ (omega arith, h) g.packets;
      cookies = g.cookies;
      stub_o = g.stub_o;
      stub_i = g.stub_i;
      proxy_a = λ w u v z. at3-first y (packet b p).object (packet b p).iface _ b.proxy w u v (apart-i a w y q z) (g.proxy_a w u v z);
      proxy_o = λ w u v z. at3-second y (packet b p).object (packet b p).iface _ b.proxy w u v (apart-o n u _ k.0 z) (g.proxy_o w u v z);
      proxy_i = λ w u v z. at3-third y (packet b p).object (packet b p).iface _ b.proxy w u v (apart-i (faces s) v _ k.1 z) (g.proxy_i w u v z);
      live = g.live;
      arguments = g.arguments;
      result = g.result;
    }
changed-good s n c a b (Return p) h q g =
    let k : GoodPacket n (faces s) (packet b p) = packet-good n (faces s) b p h g.packets in
    record {
      packets = set-all (GoodPacket n (faces s)) b.packets p _ (omega arith, h) g.packets;
      cookies = g.cookies;
      stub_o = λ u v z. at2-left (packet b p).object (packet b p).iface _ b.stub u v (apart-o n u _ k.0 z) (g.stub_o u v z);
      stub_i = λ u v z. at2-right (packet b p).object (packet b p).iface _ b.stub u v (apart-i (faces s) v _ k.1 z) (g.stub_i u v z);
      proxy_a = g.proxy_a;
      proxy_o = g.proxy_o;
      proxy_i = g.proxy_i;
      live = g.live;
      arguments = g.arguments;
      result = g.result;
    }
changed-good s n c a b (ToCookie o i k) h p g = record {
  packets = g.packets;
  cookies = last-all (GoodCookie n (faces s)) b.cookies _ (p.0, p.1) g.cookies;
  stub_o = λ u v z. at2-left o i _ b.stub u v (apart-o n u o p.0 z) (g.stub_o u v z);
  stub_i = λ u v z. at2-right o i _ b.stub u v (apart-i (faces s) v i p.1 z) (g.stub_i u v z);
  proxy_a = g.proxy_a;
  proxy_o = g.proxy_o;
  proxy_i = g.proxy_i;
  live = g.live;
  arguments = g.arguments;
  result = g.result;
}
changed-good s n c a b (Withdraw x) h p g =
    let k : GoodCookie n (faces s) (cookie b x) = cookie-good n (faces s) b x h g.cookies in
    record {
      packets = g.packets;
      cookies = set-all (GoodCookie n (faces s)) b.cookies x _ (omega arith, h) g.cookies;
      stub_o = λ u v z. at2-left (cookie b x).object (cookie b x).iface _ b.stub u v (apart-o n u _ k.0 z) (g.stub_o u v z);
      stub_i = λ u v z. at2-right (cookie b x).object (cookie b x).iface _ b.stub u v (apart-i (faces s) v _ k.1 z) (g.stub_i u v z);
      proxy_a = g.proxy_a;
      proxy_o = g.proxy_o;
      proxy_i = g.proxy_i;
      live = g.live;
      arguments = g.arguments;
      result = g.result;
    }
changed-good s n c a b Same h p g = g

-- ---- rows

abbrev GoodRow : (n m a : ℕ) → Row → Type 0
GoodRow n m a (Makes x o i) = (x < a) × (o ≤ n) × (i < m)
GoodRow n m a (Takes x o i) = (x < a) × (o ≤ n) × (i < m)
GoodRow n m a (Asks x o i) = (x < a) × (o ≤ n) × (i < m)
GoodRow n m a (Marshals x y o i) = (x < a) × (o ≤ n) × (i < m)
GoodRow n m a (Unmarshals x p) = x < a
GoodRow n m a (Registers o i) = (o ≤ n) × (i < m)
GoodRow n m a _ = Unit {0}

marshal-good : (n m a : ℕ) (y : MarshalMode) (w : Bool) (k x o i : ℕ) → (x < a) × (o ≤ n) × (i < m) → GoodChange n m a (marshal_change y w k x o i)
marshal-good n m a marshal.Normal w k x o i p = cond-is (GoodChange n m a) w (ToPacket marshal.Normal o i 5) _ (p.1, p.2) (cond-is (GoodChange n m a) (nat_le 2 k) (Split x o i (k / 2)) (ToPacket marshal.Normal o i 5) p (p.1, p.2))
marshal-good n m a marshal.Strong w k x o i p = (p.1, p.2)
marshal-good n m a marshal.Weak w k x o i p = (p.1, p.2)

unmarshal-good : (n m a : ℕ) (y : MarshalMode) (w : Bool) (x p o i : ℕ) → x < a → (o ≤ n) × (i < m) → GoodChange n m a (unmarshal_change y w x p o i)
unmarshal-good n m a marshal.Normal w x p o i h q = cond-is (GoodChange n m a) w (Return p) (Join x p) tt h
unmarshal-good n m a marshal.Strong w x p o i h q = cond-is (GoodChange n m a) w Same (ToProxy x o i 5) tt (h, q.0, q.1)
unmarshal-good n m a marshal.Weak w x p o i h q = cond-is (GoodChange n m a) w Same (ToProxy x o i 5) tt (h, q.0, q.1)

change-good : (s : Scenario) (n c a : ℕ) (owned : ℕ → ℕ → Bool) (b : Books) (r : Row) → 0 < faces s → GoodRow n (faces s) a r → GoodBooks s n c a b → GoodChange n (faces s) a (change owned b r)
change-good s n c a owned b (Makes x o i) h p g = cond-is (GoodChange n (faces s) a) (owned o x) Same (ToProxy x o i 5) tt p
change-good s n c a owned b (Takes x o i) h p g = cond-is (GoodChange n (faces s) a) (b.live o && not (owned o x)) (ToProxy x o i 5) Same p tt
change-good s n c a owned b (Asks x o i) h p g = cond-is (GoodChange n (faces s) a) (b.live o && (not (owned o x) && b.proxy x o i == 0)) (ToProxy x o i 5) Same p tt
change-good s n c a owned b (Marshals x y o i) h p g = cond-is (GoodChange n (faces s) a) (b.live o) (marshal_change y (owned o x) (b.proxy x o i) x o i) Same (marshal-good n (faces s) a y (owned o x) (b.proxy x o i) x o i p) tt
change-good s n c a owned b (Unmarshals x p) h q g = cond-is (GoodChange n (faces s) a) (packet b p).outstanding (unmarshal_change (packet b p).mode (owned (packet b p).object x) x p (packet b p).object (packet b p).iface) Same (unmarshal-good n (faces s) a (packet b p).mode (owned (packet b p).object x) x p (packet b p).object (packet b p).iface q (packet-good n (faces s) b p h g.packets)) tt
change-good s n c a owned b (Drops p) h q g = cond-is (GoodChange n (faces s) a) (packet b p).outstanding (Return p) Same tt tt
change-good s n c a owned b (Registers o i) h p g = cond-is (GoodChange n (faces s) a) (b.live o) (ToCookie o i 1) Same p tt
change-good s n c a owned b (Revokes x) h p g = tt

abbrev GoodRows : (n m a : ℕ) → List Row → Type 0
GoodRows n m a [] = Unit {0}
GoodRows n m a (r ∷ rs) = GoodRow n m a r × GoodRows n m a rs

rows-entered : (s : Scenario) (n c a : ℕ) (owned : ℕ → ℕ → Bool) (b : Books) (rs : List Row) → 0 < faces s → GoodRows n (faces s) a rs → GoodBooks s n c a b → GoodBooks s n c a (entered_rows owned b rs)
rows-entered s n c a owned b [] h p g = g
rows-entered s n c a owned b (r ∷ rs) h p g = rows-entered s n c a owned (changed b (change owned b r)) rs h p.1 (changed-good s n c a b (change owned b r) h (change-good s n c a owned b r h p.0 g) g)

carried-rows : (n m a x : ℕ) (vs : List Value) → x < a → All (GoodValue n m) vs → GoodRows n m a (marshal_all x (carried vs))
carried-rows n m a x [] h p = tt
carried-rows n m a x (v ∷ vs) h p = by-value v (p 0 v (grind (arith, common_steps))) (carried-rows n m a x vs h (λ k d z. p (suc k) d (grind (arith, common_steps, z))))
  where
    by-value : (v : Value) → GoodValue n m v → GoodRows n m a (marshal_all x (carried vs)) → GoodRows n m a (marshal_all x (carried (v ∷ vs)))
    by-value (value.Ref (Some r)) q t = ((h, q.0, q.1), t)
    by-value (value.Ref None) q t = t
    by-value (value.Int y) q t = t
    by-value (value.Bool y) q t = t
    by-value (value.Text y) q t = t
    by-value (value.Bytes y) q t = t
    by-value (value.Guid y) q t = t

packet-rows : (n m a x : ℕ) (ps : List ℕ) → x < a → GoodRows n m a (map (λ p. Unmarshals x p) ps)
packet-rows n m a x [] h = tt
packet-rows n m a x (p ∷ ps) h = (h, packet-rows n m a x ps h)

query-rows : (n m a x o i : ℕ) (hr : HResult) (t : Bool) → is_S_OK hr ≡ t → x < a → (is_S_OK hr ≡ true → (o ≤ n) × (i < m)) → GoodRows n m a (cond t (Asks x o i ∷ []) [])
query-rows n m a x o i hr true e h f = ((h, (f e).0, (f e).1), tt)
query-rows n m a x o i hr false e h f = tt

list-good : (n m : ℕ) (v : Option Value) → GoodResult n m v → All (GoodValue n m) (result_list v)
list-good n m None p = All-nil (GoodValue n m)
list-good n m (Some v) p = All-cons (GoodValue n m) v [] p (All-nil (GoodValue n m))

returned-rows : (n m a x : ℕ) (b : Bool) (p : Option ℕ) → x < a → GoodRows n m a (back_rows x b p)
returned-rows n m a x b None h = tt
returned-rows n m a x b (Some p) h = cond-is (GoodRows n m a) b (Unmarshals x p ∷ []) (Drops p ∷ []) (h, tt) (tt, tt)

reply-good : (n m a x : ℕ) (v : Option Value) (bytes : Option (List ℕ)) → x < a → GoodResult n m v → GoodRows n m a (reply_rows x v bytes)
reply-good n m a x v None h p = tt
reply-good n m a x v (Some bytes) h p = carried-rows n m a x (result_list v) h (list-good n m v p)

-- The action of a lane, if it has one.
abbrev pub GoodAct : (n m : ℕ) → Option Action → Type 0
GoodAct n m None = Unit {0}
GoodAct n m (Some a) = GoodAction n m a

pub values-good : (s : Scenario) (n : ℕ) (b : Books) (m : Bool) (x : Option Action) → GoodAct n (faces s) x → All (GoodValue n (faces s)) (out_values s b m x)
values-good s n b m (Some (action.Call held i y args to)) p = all-sent-good n (faces s) m b.live _ args p.1
values-good s n b m None p = All-nil (GoodValue n (faces s))
values-good s n b m (Some _) p = All-nil (GoodValue n (faces s))

-- A new object is the last one made.
abbrev pub NewWithin : ℕ → Deed → Type 0
NewWithin n (deed.Made (Some o) (Some b) k i hr) = o ≤ n
NewWithin n _ = Unit {0}

-- What the entry names was there before it: k objects, and apartments below y.
rows-good : (s : Scenario) (n k y a : ℕ) (x : Option Action) (left : ℕ → Bool) (b : Books) (w : ℕ) (d : Deed) → k ≤ n → w < a → y ≤ a → GoodAct n (faces s) x → FineBy k (faces s) y d → NewWithin n d → GoodRows n (faces s) a (rows s x left b w d)
rows-good s n k y a x left b w (deed.Made (Some o) (Some z) c (asked.Number i) hr) p h q u f m = ((h, m, f.2), tt)
rows-good s n k y a x left b w (deed.Made (Some o) (Some z) c (asked.Guid g) hr) p h q u f m = tt
rows-good s n k y a x left b w (deed.Made (Some o) None c i hr) p h q u f m = absurd f
rows-good s n k y a x left b w (deed.Made None z c i hr) p h q u f m = tt
rows-good s n k y a x left b w (deed.Query (Some o) (asked.Number i) hr) p h q u f m = query-rows n (faces s) a w o i hr (is_S_OK hr) refl h (λ e. more-pair k n (faces s) p o i (f e))
rows-good s n k y a x left b w (deed.Query (Some o) (asked.Guid g) hr) p h q u f m = tt
rows-good s n k y a x left b w (deed.Query None i hr) p h q u f m = tt
rows-good s n k y a x left b w (deed.Marshal (Some t) z (Some r) refs hr bytes) p h q u f m = ((h, (more-pair k n (faces s) p r.object r.iface f).0, f.1), tt)
rows-good s n k y a x left b w (deed.Marshal (Some t) z None refs hr bytes) p h q u f m = tt
rows-good s n k y a x left b w (deed.Marshal None z held refs hr bytes) p h q u f m = tt
rows-good s n k y a x left b w (deed.Unmarshal (Some t) held refs hr) p h q u f m = (h, tt)
rows-good s n k y a x left b w (deed.Unmarshal None held refs hr) p h q u f m = tt
rows-good s n k y a x left b w (deed.DropPacket (Some t) hr) p h q u f m = (tt, tt)
rows-good s n k y a x left b w (deed.DropPacket None hr) p h q u f m = tt
rows-good s n k y a x left b w (deed.Register (Some t) (Some r) hr) p h q u f m = (more-pair k n (faces s) p r.object r.iface f, tt)
rows-good s n k y a x left b w (deed.Register (Some t) None hr) p h q u f m = tt
rows-good s n k y a x left b w (deed.Register None held hr) p h q u f m = tt
rows-good s n k y a x left b w (deed.Get t (Some r) refs hr) p h q u f m = ((h, (more-pair k n (faces s) p r.object r.iface f).0, f.1), tt)
rows-good s n k y a x left b w (deed.Get t None refs hr) p h q u f m = tt
rows-good s n k y a x left b w (deed.Revoke (pos t) hr) p h q u f m = cond-is (GoodRows n (faces s) a) (is_S_OK hr) (Revokes t ∷ []) [] (tt, tt) tt
rows-good s n k y a x left b w (deed.Revoke (negsuc t) hr) p h q u f m = tt
rows-good s n k y a x left b w (deed.Out c o i z r cause (Some bytes)) p h q u f m = carried-rows n (faces s) a w (out_values s b true x) h (values-good s n b true x u)
rows-good s n k y a x left b w (deed.Out c o i z r cause None) p h q u f m = tt
rows-good s n k y a x left b w (deed.Enter c o z t vs) p h q u f m = let e : z < y = f.1 in packet-rows n (faces s) a z (b.arguments c) (omega (arith, e, q))
rows-good s n k y a x left b w (deed.Leave c hr v bytes) p h q u f m = reply-good n (faces s) a w v bytes h (more-result k n (faces s) p v f)
rows-good s n k y a x left b w (deed.Back c hr v) p h q u f m = returned-rows n (faces s) a w (left c) (b.result c) h
rows-good s n k y a x left b w _ p h q u f m = tt

-- ---- the end of an entry

kept-good : (s : Scenario) (n c a : ℕ) (before : Books) (d : Deed) (after : Books) → Issued c d → GoodBooks s n c a after → GoodBooks s n c a (kept before d after)
kept-good s n c a x (deed.Out k o i y r cause bytes) b p g = record { packets = g.packets; cookies = g.cookies; stub_o = g.stub_o; stub_i = g.stub_i; proxy_a = g.proxy_a; proxy_o = g.proxy_o; proxy_i = g.proxy_i; live = g.live; arguments = put-past c k _ _ b.arguments p g.arguments; result = g.result }
kept-good s n c a x (deed.Leave k hr v bytes) b p g = record { packets = g.packets; cookies = g.cookies; stub_o = g.stub_o; stub_i = g.stub_i; proxy_a = g.proxy_a; proxy_o = g.proxy_o; proxy_i = g.proxy_i; live = g.live; arguments = g.arguments; result = put-past c k _ _ b.result p g.result }
kept-good s n c a x _ b p g = g

less-of : (x z : ℕ) → x ≡ 0 → x - z ≡ 0
less-of x z e = omega (arith, e)

none-given : (b : Bool) (x : ℕ) → x ≡ 0 → cond b 0 x ≡ 0
none-given true x e = refl
none-given false x e = e

none-cut : (b : Bool) (x : ℕ) → x ≡ 0 → cond b x 0 ≡ 0
none-cut true x e = e
none-cut false x e = refl

given-good : (s : Scenario) (n c a k : ℕ) (f : ℕ → ℕ → ℕ) (b : Books) → GoodBooks s n c a b → GoodBooks s n c a (given_back k f b)
given-good s n c a k f b g = record {
  packets = g.packets;
  cookies = g.cookies;
  stub_o = λ o i h. less-of (b.stub o i) _ (g.stub_o o i h);
  stub_i = λ o i h. less-of (b.stub o i) _ (g.stub_i o i h);
  proxy_a = λ x o i h. none-given (f x o == 0) (b.proxy x o i) (g.proxy_a x o i h);
  proxy_o = λ x o i h. none-given (f x o == 0) (b.proxy x o i) (g.proxy_o x o i h);
  proxy_i = λ x o i h. none-given (f x o == 0) (b.proxy x o i) (g.proxy_i x o i h);
  live = g.live;
  arguments = g.arguments;
  result = g.result;
}

cut-one : (n m : ℕ) (live : ℕ → Bool) (p : Packet) → 0 < m → GoodPacket n m p → GoodPacket n m (cut_packet live p)
cut-one n m live p h g = cond-is (GoodPacket n m) (live p.object) p no_packet g (omega arith, h)

cut-books : (s : Scenario) (n c a : ℕ) (live : ℕ → Bool) (b : Books) → 0 < faces s → ((o : ℕ) → n + 1 ≤ o → live o ≡ false) → GoodBooks s n c a b → GoodBooks s n c a (cut live b)
cut-books s n c a live b f p g = record {
  packets = All-map (GoodPacket n (faces s)) _ b.packets (All-weaker (GoodPacket n (faces s)) (λ q. GoodPacket n (faces s) (cut_packet live q)) (λ q x. cut-one n (faces s) live q f x) b.packets g.packets);
  cookies = All-map (GoodCookie n (faces s)) _ b.cookies g.cookies;
  stub_o = λ o i h. none-cut (live o) (b.stub o i) (g.stub_o o i h);
  stub_i = λ o i h. none-cut (live o) (b.stub o i) (g.stub_i o i h);
  proxy_a = λ x o i h. none-cut (live o) (b.proxy x o i) (g.proxy_a x o i h);
  proxy_o = λ x o i h. none-cut (live o) (b.proxy x o i) (g.proxy_o x o i h);
  proxy_i = λ x o i h. none-cut (live o) (b.proxy x o i) (g.proxy_i x o i h);
  live = p;
  arguments = g.arguments;
  result = g.result;
}

not-made-by : (n o : ℕ) (d : Deed) → NewWithin n d → n + 1 ≤ o → made_by (makes d) o ≡ false
not-made-by n o (deed.Made (Some k) (Some b) c i hr) p h = off k o (λ e. let z : k ≤ n = p in omega (arith, z, h, e))
not-made-by n o (deed.Made (Some k) None c i hr) p h = refl
not-made-by n o (deed.Made None b c i hr) p h = refl
not-made-by n o _ p h = refl

and-none : (p q : Bool) → p ≡ false → (p && q) ≡ false
and-none p q e = ap (λ (b : Bool). b && q) e

live-after-good : (n : ℕ) (d : Deed) (named holders : ℕ → ℕ) (live : ℕ → Bool) → NewWithin n d → ((o : ℕ) → n + 1 ≤ o → live o ≡ false) → (o : ℕ) → n + 1 ≤ o → live_after d named holders live o ≡ false
live-after-good n d named holders live p q o h =
    let x : (made_by (makes d) o || live o) ≡ false = ap (λ (b : Bool). b || live o) (not-made-by n o d p h) ∙ q o h in
    and-none (made_by (makes d) o || live o) _ x

pub closed-good : (s : Scenario) (n c a k y : ℕ) (g : Ground) (w : Scene) (x : Option Action) (left : ℕ → Bool) (z : ℕ) (d : Deed) (b : Books) → 0 < faces s → k ≤ n → z < a → y ≤ a → GoodAct n (faces s) x → FineBy k (faces s) y d → NewWithin n d → Issued c d → GoodBooks s n c a b → GoodBooks s n c a (closed s g w d (most s g w x left z d b))
closed-good s n c a k y g w x left z d b h p q r u f m j t =
    let v : GoodBooks s n c a (most s g w x left z d b) = given-good s n c a _ _ _ (kept-good s n c a b d _ j (rows-entered s n c a g.owns b _ h (rows-good s n k y a x left b z d p q r u f m) t)) in
    cut-books s n c a _ _ h (live-after-good n d g.named _ _ m v.live) v
