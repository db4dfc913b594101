-- In every legal history the books are even: each stub counts what proxies, packets and cookies hold.
use Rattle.std.proofs.Common.{arith}
use Rattle.std.specs.Prelude.{◌≡◌, refl, ℕ, ◌/◌, ◌≤◌, ◌<◌, pos, negsuc, Bool, true, false, cond, not, ◌==◌, ◌&&◌, nat_le, List, [], ◌∷◌, map, Option, Some, None}
use Rattle.com_base.specs.declared.value.RefValue.{RefValue}
use Rattle.com_base.specs.declared.value.Value.{Value}
use Rattle.com_base.specs.declared.value.MarshalMode.{MarshalMode}
use Rattle.com_base.specs.declared.value.MarshalMode.TheVariants as marshal
use Rattle.com_body.specs.declared.operands.Asked.TheVariants as asked
use Rattle.com_body.specs.declared.actions.Action.{Action}
use Rattle.com_model.specs.declared.deeds.Deed.{Deed}
use Rattle.com_model.specs.declared.deeds.Deed.TheVariants as deed
use Rattle.com_model.specs.declared.deeds.Entry.{Entry}
use Rattle.com_model.specs.declared.scenario.Scenario.{Scenario}
use Rattle.com_model.specs.Answers.{is_S_OK}
use Rattle.com_model.specs.Lists.{number_or_zero}
use Rattle.com_model.specs.Apartments.{running, makes_sta, stas, next_sta, apartments}
use Rattle.com_model.specs.Values.{carried, result_list}
use Rattle.com_model.specs.Frames.{Scene, scene, act}
use Rattle.com_model.specs.Endings.{ending, is_leave}
use Rattle.com_model.specs.Places.{Ground, ground}
use Rattle.com_refs_books.specs.Changes.{Books, packet, Change, ToProxy, ToPacket, Split, Join, Return, ToCookie, Same, changed, Row, Makes, Takes, Asks, Marshals, Unmarshals, Drops, Registers, Revokes, marshal_change, unmarshal_change, change, marshal_all, entered_rows}
use Rattle.com_model.specs.Books.{out_values, rows, reply_rows, back_rows, kept, most, closed, books}
use Rattle.com_model.specs.Rules.{legal}
use Rattle.com_model.specs.Safe.{EachPrefix, Balanced}
use Rattle.com_model.proofs.Fines.{cond-is}
use Rattle.com_refs_books.specs.Evens.{Even, Fits}
use Rattle.com_refs_books.proofs.Evens.{changed-even, given-back-even, cut-even, more-even}
use Rattle.com_laws_balance.proofs.Lows.{LowBy, Low, running-low, next-low, more-stas, legal-low}

-- ---- rows

-- The apartments of rows are below n.
abbrev Within : ℕ → Row → Type 0
Within n (Makes a o i) = a < n
Within n (Takes a o i) = a < n
Within n (Asks a o i) = a < n
Within n (Marshals a m o i) = a < n
Within n (Unmarshals a p) = a < n
Within n _ = Unit {0}

abbrev AllWithin : ℕ → List Row → Type 0
AllWithin n [] = Unit {0}
AllWithin n (r ∷ rs) = Within n r × AllWithin n rs

fits-if : (n : ℕ) (b : Books) (t : Bool) (c : Change) → (t ≡ true → Fits n b c) → Fits n b (cond t c Same)
fits-if n b true c f = f refl
fits-if n b false c f = tt

marshal-fits : (n : ℕ) (b : Books) (m : MarshalMode) (w : Bool) (a o i : ℕ) → a < n → Fits n b (marshal_change m w (b.proxy a o i) a o i)
marshal-fits n b marshal.Normal w a o i h = cond-is (Fits n b) w (ToPacket marshal.Normal o i 5) _ tt (cond-is (Fits n b) (nat_le 2 (b.proxy a o i)) (Split a o i (b.proxy a o i / 2)) (ToPacket marshal.Normal o i 5) (h, omega arith) tt)
marshal-fits n b marshal.Strong w a o i h = tt
marshal-fits n b marshal.Weak w a o i h = tt

unmarshal-fits : (n : ℕ) (b : Books) (m : MarshalMode) (w : Bool) (a p o i : ℕ) → a < n → (packet b p).outstanding ≡ true → Fits n b (unmarshal_change m w a p o i)
unmarshal-fits n b marshal.Normal w a p o i h q = cond-is (Fits n b) w (Return p) (Join a p) q (h, q)
unmarshal-fits n b marshal.Strong w a p o i h q = cond-is (Fits n b) w Same (ToProxy a o i 5) tt h
unmarshal-fits n b marshal.Weak w a p o i h q = cond-is (Fits n b) w Same (ToProxy a o i 5) tt h

change-fits : (n : ℕ) (owned : ℕ → ℕ → Bool) (b : Books) (r : Row) → Within n r → Fits n b (change owned b r)
change-fits n owned b (Makes a o i) h = cond-is (Fits n b) (owned o a) Same (ToProxy a o i 5) tt h
change-fits n owned b (Takes a o i) h = cond-is (Fits n b) (b.live o && not (owned o a)) (ToProxy a o i 5) Same h tt
change-fits n owned b (Asks a o i) h = cond-is (Fits n b) (b.live o && (not (owned o a) && b.proxy a o i == 0)) (ToProxy a o i 5) Same h tt
change-fits n owned b (Marshals a m o i) h = cond-is (Fits n b) (b.live o) (marshal_change m (owned o a) (b.proxy a o i) a o i) Same (marshal-fits n b m (owned o a) a o i h) tt
change-fits n owned b (Unmarshals a p) h = fits-if n b (packet b p).outstanding _ (λ q. unmarshal-fits n b (packet b p).mode (owned (packet b p).object a) a p (packet b p).object (packet b p).iface h q)
change-fits n owned b (Drops p) h = fits-if n b (packet b p).outstanding (Return p) (λ q. q)
change-fits n owned b (Registers o i) h = cond-is (Fits n b) (b.live o) (ToCookie o i 1) Same tt tt
change-fits n owned b (Revokes g) h = tt

rows-even : (n : ℕ) (owned : ℕ → ℕ → Bool) (b : Books) (rs : List Row) → AllWithin n rs → Even n b → Even n (entered_rows owned b rs)
rows-even n owned b [] p e = e
rows-even n owned b (r ∷ rs) p e = rows-even n owned (changed b (change owned b r)) rs p.1 (changed-even n b (change owned b r) (change-fits n owned b r p.0) e)

-- ---- the rows of an entry

marshals-within : (n a : ℕ) (rs : List RefValue) → a < n → AllWithin n (marshal_all a rs)
marshals-within n a [] h = tt
marshals-within n a (r ∷ rs) h = (h, marshals-within n a rs h)

packets-within : (n a : ℕ) (ps : List ℕ) → a < n → AllWithin n (map (λ p. Unmarshals a p) ps)
packets-within n a [] h = tt
packets-within n a (p ∷ ps) h = (h, packets-within n a ps h)

reply-within : (n a : ℕ) (v : Option Value) (bytes : Option (List ℕ)) → a < n → AllWithin n (reply_rows a v bytes)
reply-within n a v None h = tt
reply-within n a v (Some bytes) h = marshals-within n a (carried (result_list v)) h

back-within : (n a : ℕ) (t : Bool) (p : Option ℕ) → a < n → AllWithin n (back_rows a t p)
back-within n a t None h = tt
back-within n a t (Some p) h = cond-is (AllWithin n) t (Unmarshals a p ∷ []) (Drops p ∷ []) (h, tt) (tt, tt)

rows-within : (s : Scenario) (n y : ℕ) (x : Option Action) (left : ℕ → Bool) (b : Books) (a : ℕ) (d : Deed) → a < n → y ≤ n → LowBy y d → AllWithin n (rows s x left b a d)
rows-within s n y x left b a (deed.Made (Some o) z c (asked.Number i) hr) h q f = (h, tt)
rows-within s n y x left b a (deed.Made (Some o) z c (asked.Guid g) hr) h q f = tt
rows-within s n y x left b a (deed.Made None z c i hr) h q f = tt
rows-within s n y x left b a (deed.Query (Some o) (asked.Number i) hr) h q f = cond-is (AllWithin n) (is_S_OK hr) (Asks a o i ∷ []) [] (h, tt) tt
rows-within s n y x left b a (deed.Query (Some o) (asked.Guid g) hr) h q f = tt
rows-within s n y x left b a (deed.Query None i hr) h q f = tt
rows-within s n y x left b a (deed.Marshal (Some t) m (Some r) refs hr bytes) h q f = (h, tt)
rows-within s n y x left b a (deed.Marshal (Some t) m None refs hr bytes) h q f = tt
rows-within s n y x left b a (deed.Marshal None m held refs hr bytes) h q f = tt
rows-within s n y x left b a (deed.Unmarshal (Some t) held refs hr) h q f = (h, tt)
rows-within s n y x left b a (deed.Unmarshal None held refs hr) h q f = tt
rows-within s n y x left b a (deed.DropPacket (Some t) hr) h q f = (tt, tt)
rows-within s n y x left b a (deed.DropPacket None hr) h q f = tt
rows-within s n y x left b a (deed.Register (Some t) (Some r) hr) h q f = (tt, tt)
rows-within s n y x left b a (deed.Register (Some t) None hr) h q f = tt
rows-within s n y x left b a (deed.Register None held hr) h q f = tt
rows-within s n y x left b a (deed.Get t (Some r) refs hr) h q f = (h, tt)
rows-within s n y x left b a (deed.Get t None refs hr) h q f = tt
rows-within s n y x left b a (deed.Revoke (pos t) hr) h q f = cond-is (AllWithin n) (is_S_OK hr) (Revokes t ∷ []) [] (tt, tt) tt
rows-within s n y x left b a (deed.Revoke (negsuc t) hr) h q f = tt
rows-within s n y x left b a (deed.Out c o i m r cause (Some bytes)) h q f = marshals-within n a (carried (out_values s b true x)) h
rows-within s n y x left b a (deed.Out c o i m r cause None) h q f = tt
rows-within s n y x left b a (deed.Enter c o z t vs) h q f = packets-within n z (b.arguments c) (omega (arith, f, q))
rows-within s n y x left b a (deed.Leave c hr v bytes) h q f = reply-within n a v bytes h
rows-within s n y x left b a (deed.Back c hr v) h q f = back-within n a (left c) (b.result c) h
rows-within s n y x left b a _ h q f = tt

-- ---- one entry

kept-even : (n : ℕ) (before : Books) (d : Deed) (after : Books) → Even n after → Even n (kept before d after)
kept-even n x (deed.Out c o i m r cause bytes) b p = record { equal = p.equal; past = p.past }
kept-even n x (deed.Leave c hr v bytes) b p = record { equal = p.equal; past = p.past }
kept-even n x _ b p = p

closed-even : (s : Scenario) (y : ℕ) (g : Ground) (w : Scene) (x : Option Action) (left : ℕ → Bool) (a : ℕ) (d : Deed) (b : Books) → a < g.apartments → y ≤ g.apartments → LowBy y d → Even g.apartments b → Even g.apartments (closed s g w d (most s g w x left a d b))
closed-even s y g w x left a d b h q f e =
    cut-even g.apartments _ _ (given-back-even g.apartments _ _ (kept-even g.apartments b d _ (rows-even g.apartments g.owns b _ (rows-within s g.apartments y x left b a d h q f) e)))

legal-even : (s : Scenario) (h : List Entry) → legal s h → Even (apartments h) (books s h)
legal-even s [] q = record { equal = λ o i. refl; past = λ a o i h. refl }
legal-even s (e ∷ h) q =
    let k : Low h = legal-low s h q.0 in
    let m : next_sta h ≤ next_sta (e ∷ h) = more-stas (stas h) (makes_sta e.deed) in
    let r : number_or_zero (running s h e.lane) < next_sta h = running-low s h k e.lane in
    closed-even s (next_sta h) (ground s (e ∷ h)) (scene s (e ∷ h)) (act s h e.lane) (λ c. is_leave (ending s h c)) (number_or_zero (running s h e.lane)) e.deed (books s h)
    (omega (arith, r, m)) m (next-low s h e.lane e.deed k q.1) (more-even (next_sta h) (next_sta (e ∷ h)) (books s h) m (legal-even s h q.0))

pub legal-balanced : (s : Scenario) (h : List Entry) → legal s h → EachPrefix (Balanced s) h
legal-balanced s [] q = (legal-even s [] q).equal
legal-balanced s (e ∷ h) q = (legal-balanced s h q.0, (legal-even s (e ∷ h) q).equal)
