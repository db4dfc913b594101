-- A connected object's proxy place has a proxy: the end of an entry, once its rows brought a reference for each place.
use Rattle.std.proofs.Common.{subst, sym, ◌∙◌, eqb-true, arith}
use Rattle.std.proofs.lemmas.Bool.{and_parts, false_from_ne_true}
use Rattle.std.proofs.lemmas.Grind.{common_steps}
use Rattle.std.specs.Prelude.{◌≡◌, refl, ℕ, zero, suc, ◌≤◌, Bool, true, false, cond, ◌==◌, ◌&&◌, ◌||◌, map, List, [], ◌∷◌, Option, slice_index_or}
use Rattle.com_base.specs.declared.value.RefValue.{RefValue}
use Rattle.com_body.specs.declared.actions.Action.{Action}
use Rattle.com_model.specs.declared.deeds.Deed.{Deed}
use Rattle.com_model.specs.declared.deeds.Deed.TheVariants as deed
use Rattle.com_model.specs.declared.deeds.Entry.{Entry}
use Rattle.com_model.specs.declared.scenario.Scenario.{Scenario}
use Rattle.com_model.specs.Lists.{number_or_zero}
use Rattle.com_model.specs.Apartments.{running}
use Rattle.com_model.specs.Objects.{makes, owns}
use Rattle.com_model.specs.Frames.{Scene, scene, act}
use Rattle.com_model.specs.Endings.{ending, is_leave}
use Rattle.com_model.specs.Places.{Ground, ground, places, to_object, to_interface}
use Rattle.com_refs_books.specs.Changes.{Books, no_books, no_packet, packet, entered_rows, given_back, cut_packet, cut}
use Rattle.com_model.specs.Books.{rows, kept, made_by, most, closed, books}
use Rattle.com_refs_books.specs.declared.keeps.Packet.{Packet}
use Rattle.com_model.specs.Safe.{Secured}
use Rattle.com_laws_balance.proofs.Holds.{Filled, Full, rows-live, rows-full, cut-full}
use Rattle.com_laws_balance.proofs.Counts.{PlaceOf, Found, found-place, place-counts}

-- The books after an entry's rows.
abbrev pub after_rows : Scenario → List Entry → Entry → Books
after_rows s h e =
    entered_rows (owns s (e ∷ h)) (books s h)
    (rows s (act s h e.lane) (λ c. is_leave (ending s h c)) (books s h) (number_or_zero (running s h e.lane)) e.deed)

kept-proxy : (before after : Books) (d : Deed) (a o i : ℕ) → (kept before d after).proxy a o i ≡ after.proxy a o i
kept-proxy x b (deed.Out c u j m r cause bytes) a o i = refl
kept-proxy x b (deed.Leave c hr v bytes) a o i = refl
kept-proxy x b _ a o i = refl

remains : (t z : Bool) (x : ℕ) → t ≡ true → z ≡ false → 1 ≤ x → 1 ≤ cond t (cond z 0 x) 0
remains true true x p q r = cc
remains true false x p q r = r
remains false z x p q r = cc

one-not-zero : (n : ℕ) → 1 ≤ n → (n == 0) ≡ false
one-not-zero zero p = absurd (omega (arith, p))
one-not-zero (suc n) p = grind (arith, common_steps)

both-true : (p q : Bool) → p ≡ true → q ≡ true → (p && q) ≡ true
both-true true q e f = f
both-true false q e f = cc

same-number : (n : ℕ) → (n == n) ≡ true
same-number n = grind (arith, common_steps)

place-of-object : (s : Scenario) (g : Ground) (w : Scene) (a : ℕ) (r : RefValue) → PlaceOf s g w a r → (places s g w a r.object == 0) ≡ false
place-of-object s g w a r p = one-not-zero (places s g w a r.object) (place-counts s g w a (to_object r.object) r p (same-number r.object))

abbrev pub Backed : Scenario → List Entry → Entry → ℕ → RefValue → Type 0
Backed s h e a r = (books s (e ∷ h)).live r.object ≡ true → owns s (e ∷ h) r.object a ≡ false → 1 ≤ (after_rows s h e).proxy a r.object r.iface

closed-proxy : (s : Scenario) (g : Ground) (w : Scene) (x : Option Action) (left : ℕ → Bool) (z : ℕ) (d : Deed) (b : Books) (a o i : ℕ) → (closed s g w d (most s g w x left z d b)).live o ≡ true → (places s g w a o == 0) ≡ false → 1 ≤ (entered_rows g.owns b (rows s x left b z d)).proxy a o i → 1 ≤ (closed s g w d (most s g w x left z d b)).proxy a o i
closed-proxy s g w x left z d b a o i p q r =
    remains _ (places s g w a o == 0) _ p q (subst (λ (n : ℕ). 1 ≤ n) (sym (kept-proxy b (entered_rows g.owns b (rows s x left b z d)) d a o i)) r)

-- Where each place's reference is backed after the rows, it is so after the entry.
pub secured-step : (s : Scenario) (h : List Entry) (e : Entry) → ((a : ℕ) (r : RefValue) → PlaceOf s (ground s (e ∷ h)) (scene s (e ∷ h)) a r → Backed s h e a r) → Secured s (e ∷ h)
secured-step s h e f = λ a o i live other some.
    let p : Found s (ground s (e ∷ h)) (scene s (e ∷ h)) a (to_interface o i) = found-place s (ground s (e ∷ h)) (scene s (e ∷ h)) a (to_interface o i) some in
    let r : RefValue = p.reference in
    let q : ((r.object == o) ≡ true) × ((r.iface == i) ≡ true) = and_parts (r.object == o) (r.iface == i) p.passes in
    let u : r.object ≡ o = eqb-true r.object o q.0 in
    let v : r.iface ≡ i = eqb-true r.iface i q.1 in
    subst (λ (j : ℕ). 1 ≤ (books s (e ∷ h)).proxy a o j) v
    (subst (λ (y : ℕ). 1 ≤ (books s (e ∷ h)).proxy a y r.iface) u
    (closed-proxy s (ground s (e ∷ h)) (scene s (e ∷ h)) (act s h e.lane) (λ c. is_leave (ending s h c)) (number_or_zero (running s h e.lane)) e.deed (books s h) a r.object r.iface
    (subst (λ (y : ℕ). (books s (e ∷ h)).live y ≡ true) (sym u) live) (place-of-object s (ground s (e ∷ h)) (scene s (e ∷ h)) a r p.at)
    (f a r p.at (subst (λ (y : ℕ). (books s (e ∷ h)).live y ≡ true) (sym u) live) (subst (λ (y : ℕ). owns s (e ∷ h) y a ≡ false) (sym u) other))))

-- What stands at a place before an entry is backed.
pub place-backed : (s : Scenario) (h : List Entry) (a : ℕ) (r : RefValue) → Secured s h → PlaceOf s (ground s h) (scene s h) a r → (books s h).live r.object ≡ true → owns s h r.object a ≡ false → 1 ≤ (books s h).proxy a r.object r.iface
place-backed s h a r f p live other = f a r.object r.iface live other (place-counts s (ground s h) (scene s h) a (to_interface r.object r.iface) r p (both-true (r.object == r.object) (r.iface == r.iface) (same-number r.object) (same-number r.iface)))

-- ---- packets

same-full : (b c : Books) → ((p : ℕ) → packet b p ≡ packet c p) → Full c → Full b
same-full b c e f = record { each = λ p. subst Filled (sym (e p)) (f.each p) }

kept-packet : (before after : Books) (d : Deed) (p : ℕ) → packet (kept before d after) p ≡ packet after p
kept-packet x b (deed.Out c u j m r cause bytes) zero = refl
kept-packet x b (deed.Out c u j m r cause bytes) (suc p) = refl
kept-packet x b (deed.Leave c hr v bytes) zero = refl
kept-packet x b (deed.Leave c hr v bytes) (suc p) = refl
kept-packet x b _ p = refl

given-packet : (n : ℕ) (f : ℕ → ℕ → ℕ) (b : Books) (p : ℕ) → packet (given_back n f b) p ≡ packet b p
given-packet n f b zero = refl
given-packet n f b (suc p) = refl

most-full : (s : Scenario) (g : Ground) (w : Scene) (x : Option Action) (left : ℕ → Bool) (z : ℕ) (d : Deed) (b : Books) → Full b → Full (most s g w x left z d b)
most-full s g w x left z d b f =
    same-full (most s g w x left z d b) (entered_rows g.owns b (rows s x left b z d)) (λ p. given-packet g.apartments (places s g w) (kept b d (entered_rows g.owns b (rows s x left b z d))) p ∙ kept-packet b (entered_rows g.owns b (rows s x left b z d)) d p) (rows-full g.owns b (rows s x left b z d) f)

no-packets-full : Full no_books
no-packets-full = record { each = each }
  where
    each : (p : ℕ) → Filled (packet no_books p)
    each zero = λ e q. cc
    each (suc p) = λ e q. cc

-- In every history a normal packet that is outstanding has a reference.
pub books-full : (s : Scenario) (h : List Entry) → Full (books s h)
books-full s [] = no-packets-full
books-full s (e ∷ h) =
    cut-full (books s (e ∷ h)).live _ (most-full s (ground s (e ∷ h)) (scene s (e ∷ h)) (act s h e.lane) (λ c. is_leave (ending s h c)) (number_or_zero (running s h e.lane)) e.deed (books s h) (books-full s h))

one-live : (live : ℕ → Bool) (x : Packet) → (cut_packet live x).outstanding ≡ true → live (cut_packet live x).object ≡ true
one-live live x p = elim (live x.object) as (λ t. live x.object ≡ t → (cond t x no_packet).outstanding ≡ true → live (cond t x no_packet).object ≡ true) [ true ↦ λ e p. e | false ↦ λ e p. cc ] refl p

cut-live : (live : ℕ → Bool) (q : ℕ) (ps : List Packet) → (slice_index_or (map (cut_packet live) ps) q no_packet).outstanding ≡ true → live (slice_index_or (map (cut_packet live) ps) q no_packet).object ≡ true
cut-live live q [] p = cc
cut-live live zero (x ∷ ps) p = one-live live x p
cut-live live (suc q) (x ∷ ps) p = cut-live live q ps p

cut-books-live : (live : ℕ → Bool) (b : Books) (q : ℕ) → (packet (cut live b) q).outstanding ≡ true → live (packet (cut live b) q).object ≡ true
cut-books-live live b zero p = cc
cut-books-live live b (suc q) p = cut-live live q b.packets p

-- The object of an outstanding packet is connected.
pub outstanding-live : (s : Scenario) (h : List Entry) (q : ℕ) → (packet (books s h) q).outstanding ≡ true → (books s h).live (packet (books s h) q).object ≡ true
outstanding-live s [] zero p = cc
outstanding-live s [] (suc q) p = cc
outstanding-live s (e ∷ h) q p = cut-books-live (books s (e ∷ h)).live (most s (ground s (e ∷ h)) (scene s (e ∷ h)) (act s h e.lane) (λ c. is_leave (ending s h c)) (number_or_zero (running s h e.lane)) e.deed (books s h)) q p

-- ---- what was made before

off : (x y : ℕ) → (x ≡ y → ⊥) → (x == y) ≡ false
off x y f = false_from_ne_true (x == y) (λ t. f (eqb-true x y t))

live-part : (m l e : Bool) → m ≡ false → (m || l) && e ≡ true → l ≡ true
live-part m l e p q = grind (arith, common_steps, p, q)

kept-live : (before after : Books) (d : Deed) (o : ℕ) → (kept before d after).live o ≡ after.live o
kept-live x b (deed.Out c u j m r cause bytes) o = refl
kept-live x b (deed.Leave c hr v bytes) o = refl
kept-live x b _ o = refl

most-live : (s : Scenario) (g : Ground) (w : Scene) (x : Option Action) (left : ℕ → Bool) (z : ℕ) (d : Deed) (b : Books) (o : ℕ) → (most s g w x left z d b).live o ≡ b.live o
most-live s g w x left z d b o = kept-live b (entered_rows g.owns b (rows s x left b z d)) d o ∙ rows-live g.owns b (rows s x left b z d) o

-- An object that the deed does not make was connected before, if it is connected after.
pub was-live : (s : Scenario) (h : List Entry) (e : Entry) (o : ℕ) → made_by (makes e.deed) o ≡ false → (books s (e ∷ h)).live o ≡ true → (books s h).live o ≡ true
was-live s h e o p q = sym (most-live s (ground s (e ∷ h)) (scene s (e ∷ h)) (act s h e.lane) (λ c. is_leave (ending s h c)) (number_or_zero (running s h e.lane)) e.deed (books s h) o) ∙ live-part (made_by (makes e.deed) o) _ _ p q
