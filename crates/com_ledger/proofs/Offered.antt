-- References by interfaces in their objects' sets.
use Rattle.std.proofs.Common.{◌≡◌, ℕ, suc, Bool, true, false, cond, ◌||◌, ◌+◌, List, [], ◌∷◌, ◌++◌, length, get_or, refl, sym, ap, subst, ◌∙◌, arith}
use Rattle.std.specs.Prelude.{Option, Some, None}
use Rattle.com_base.specs.declared.hresult.HResult.{HResult}
use Rattle.com_base.specs.declared.value.RefValue.{RefValue}
use Rattle.com_body.specs.declared.operands.Asked.{Asked}
use Rattle.com_body.specs.declared.operands.Asked.TheVariants as asked
use Rattle.com_classes.specs.Tables.{Tables as ClassTables}
use Rattle.com_refs_holders.specs.Tables.{Tables, offers}
use Rattle.com_model.specs.declared.deeds.Deed.{Deed}
use Rattle.com_model.specs.declared.deeds.Deed.TheVariants as deed
use Rattle.com_model.specs.declared.keeps.Making.{Making}
use Rattle.com_model.specs.Answers.{is_S_OK}
use Rattle.com_model.specs.Objects.{makes}
use Rattle.com_reference_moves.specs.declared.moves.Move.{Move}
use Rattle.com_refs_rows.specs.declared.calls.CallPackets.{CallPackets}
use Rattle.com_refs_rows.specs.Entries.{AllGiven, tally}
use Rattle.com_refs_rows.specs.Fits.{FitsRow, IsAsked, IsHeld}
use Rattle.com_refs_rows.specs.Moving.{AllKnown, AllOffered, no_move}
use Rattle.com_refs_rows.specs.Owners.{OffersMore, offers_made}

len-both : (xs ys : List Move) → length (xs ++ ys) ≡ length xs + length ys
len-both [] ys = omega arith
len-both (x ∷ xs) ys = omega (arith, len-both xs ys)

behind : (xs ys : List Move) (k : ℕ) (d : Move) → get_or (xs ++ ys) (length xs + k) d ≡ get_or ys k d
behind [] ys k d = let e : 0 + k ≡ k = omega arith in ap (λ (n : ℕ). get_or ys n d) e
behind (x ∷ xs) ys k d =
    let e : length (x ∷ xs) + k ≡ suc (length xs + k) = omega arith in
    ap (λ (n : ℕ). get_or (x ∷ xs ++ ys) n d) e ∙ behind xs ys k d

pub offered_rest : (t : Tables) (xs ys zs : List Move) → xs ++ ys ≡ zs → AllOffered t zs → AllOffered t ys
offered_rest t xs ys zs e all k h =
    let at : get_or zs (length xs + k) no_move ≡ get_or ys k no_move = ap (λ (l : List Move). get_or l (length xs + k) no_move) (sym e) ∙ behind xs ys k no_move in
    let long : length zs ≡ length xs + length ys = ap (λ (l : List Move). length l) (sym e) ∙ len-both xs ys in
    subst (λ (m : Move). offers t m.reference.object m.reference.iface ≡ true) at (all (length xs + k) (omega (arith, h, long)))

-- ---- the interfaces of a made object

or_none : (b : Bool) → (b || false) ≡ true → b ≡ true
or_none true e = refl
or_none false e = e

-- What a deed that makes no object leaves.
pub more_later : (classes : ClassTables) (m : Option Making) (t u : Tables) → m ≡ None → ((x j : ℕ) → offers t x j ≡ true → offers u x j ≡ true) → OffersMore classes m t u
more_later classes m t u none kept o i e = kept o i (or_none (offers t o i) (sym (ap (λ (y : Option Making). offers t o i || offers_made classes y o i) none) ∙ e))

pub more_none : (classes : ClassTables) (m : Option Making) (t u : Tables) → m ≡ None → ((x j : ℕ) → offers u x j ≡ offers t x j) → OffersMore classes m t u
more_none classes m t u none same = more_later classes m t u none (λ x j e. same x j ∙ e)

pub unmade : (d : Deed) → ((o w : Option ℕ) (k i : Asked) (hr : HResult) → d ≡ deed.Made o w k i hr → ⊥) → makes d ≡ None
unmade (deed.Made o w k i hr) made = absurd (made o w k i hr refl)
unmade d made = refl

-- ---- what is carried

pub known_carried : (t : Tables) (b : Bool) (rs xs : List RefValue) → xs ≡ cond b rs [] → AllKnown t rs → AllKnown t xs
known_carried t true rs xs e known = subst (λ (l : List RefValue). AllKnown t l) (sym e) known
known_carried t false rs xs e known = subst (λ (l : List RefValue). AllKnown t l) (sym e) (λ k h. absurd (omega (arith, h)))

-- ---- where only memory was taken before

asked_room : (t : Tables) (n a : ℕ) (o : Option ℕ) (i : Asked) (b : Bool) → IsAsked t a o i b → IsAsked (record t { spare = n }) a o i b
asked_room t n a (Some o) (asked.Number i) true h = record { reached = h.reached; offered = h.offered }
asked_room t n a (Some o) (asked.Number i) false h = tt
asked_room t n a (Some o) (asked.Guid g) b h = tt
asked_room t n a None i b h = tt

held_room : (t : Tables) (n : ℕ) (held : Option RefValue) → IsHeld t held → IsHeld (record t { spare = n }) held
held_room t n None h = tt
held_room t n (Some r) h = h

fits_room : (k : ClassTables) (rs : List RefValue) (a n : ℕ) (t : Tables) (calls : List CallPackets) (d : Deed) → FitsRow k rs a (tally t calls) d → FitsRow k rs a (tally (record t { spare = n }) calls) d
fits_room k rs a n t calls (deed.Made o y c i hr) h = h
fits_room k rs a n t calls (deed.Query o i hr) h = asked_room t n a o i (is_S_OK hr) h
fits_room k rs a n t calls (deed.Marshal p m held refs hr bytes) h = held_room t n held h
fits_room k rs a n t calls (deed.Register g held hr) h = held_room t n held h
fits_room k rs a n t calls (deed.Get g held refs hr) h = h
fits_room k rs a n t calls (deed.Out c o i m r x bytes) h = record { next = h.next; known = h.known }
fits_room k rs a n t calls (deed.Leave c hr v bytes) h = record { some = h.some; issued = h.issued; known = h.known }
fits_room k rs a n t calls _ h = tt

pub fits_prepared : (k : ClassTables) (rs : List RefValue) (a b n : ℕ) (t u : Tables) (calls later : List CallPackets) (d : Deed) → u ≡ record t { spare = n } → later ≡ calls → b ≡ a
    → FitsRow k rs a (tally t calls) d → FitsRow k rs b (tally u later) d
fits_prepared k rs a b n t u calls later d e c same h =
    subst (λ (x : ℕ). FitsRow k rs x (tally u later) d) (sym same)
    (subst (λ (l : List CallPackets). FitsRow k rs a (tally u l) d) (sym c)
    (subst (λ (v : Tables). FitsRow k rs a (tally v calls) d) (sym e) (fits_room k rs a n t calls d h)))

pub given_prepared : (k : ClassTables) (n : ℕ) (t u : Tables) (d : Deed) (ms : List Move) → u ≡ record t { spare = n } → AllGiven k t d ms → AllGiven k u d ms
given_prepared k n t u d ms e h = subst (λ (v : Tables). AllGiven k v d ms) (sym e) h
