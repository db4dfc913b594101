-- What the parts are where a change was begun.
use Rattle.std.proofs.Common.{◌≡◌, ℕ, ◌<◌, ◌^◌, List, sym, subst, length}
use Rattle.std.specs.Prelude.{Result, Ok, Err, OnOk}
use Rattle.com_calls.specs.Kept.{Kept, with_room}
use Rattle.com_lanes.specs.Rooms.{LaneRows, HasSpace}
use Rattle.com_model.specs.declared.deeds.Deed.{Deed}
use Rattle.com_model.specs.Apartments.{ends_sta}
use Rattle.com_model.specs.Calls.{issues, object_of}
use Rattle.com_model.specs.Frames.{Actor as Acting}
use Rattle.com_objects.specs.Rooms.{ObjectRows, HasRowFor}
use Rattle.com_scene.specs.Kept.{NamesOwners}
use Rattle.com_scene.specs.Prepared.{IsPrepared}
use Rattle.com_scene.specs.Rooms.{SceneRows}
use Rattle.com_state.specs.Parts.{LaneTables, ObjectTables, named_at}
use Rattle.com_parts.specs.Begins.{IsBegun}
use Rattle.com_parts.specs.Fits.{Fits, HasPlace}
use Rattle.com_parts.specs.Tables.{PartTables, rooms_of}
use Rattle.com_parts.specs.Whole.{IsWhole}
use Rattle.com_parts.proofs.Wholes.{whole_roomy, same_homes}

pub whole_kept : (l l' : LaneTables) (o o' : ObjectTables) (b b' : Kept) (n r i : ℕ) → l' ≡ l → o' ≡ o → b' ≡ with_room b r i → IsWhole l o b n → IsWhole l' o' b' n
whole_kept l l' o o' b b' n r i p q e w = subst (λ (x : LaneTables). IsWhole x o' b' n) (sym p) (subst (λ (x : ObjectTables). IsWhole l x b' n) (sym q) (whole_roomy l o b b' n r i e w))

fits-roomy : (l : LaneTables) (o : ObjectTables) (b : Kept) (lane clock r i : ℕ) (d : Deed) → Fits l o b lane d clock → Fits l o (with_room b r i) lane d clock
fits-roomy l o b lane clock r i d f = record { stas = f.stas; back = f.back; made = f.made; called = f.called; aimed = f.aimed; time = f.time; deed = f.deed }

fits-kept : (l l' : LaneTables) (o o' : ObjectTables) (b b' : Kept) (lane clock r i : ℕ) (d : Deed) → l' ≡ l → o' ≡ o → b' ≡ with_room b r i → Fits l o b lane d clock → Fits l' o' b' lane d clock
fits-kept l l' o o' b b' lane clock r i d p q e f = subst (λ (x : LaneTables). Fits x o' b' lane d clock) (sym p) (subst (λ (x : ObjectTables). Fits l x b' lane d clock) (sym q) (subst (λ (x : Kept). Fits l o x lane d clock) (sym e) (fits-roomy l o b lane clock r i d f)))

abbrev pub parts_of : LaneRows → ObjectRows → Kept → SceneRows → ℕ → List ℕ → PartTables
parts_of k m b s n xs = record { lanes = k.tables; objects = m.tables; calls = b; scene = s.tables; entries = n; rooms = rooms_of k m s xs }

pub begun_is : (k k' : LaneRows) (m m' : ObjectRows) (b b' : Kept) (s : SceneRows) (xs : List ℕ) (n lane clock r i : ℕ) (acting after : Acting) (d : Deed)
    → k'.tables ≡ k.tables → m'.tables ≡ m.tables → b' ≡ with_room b r i
    → Fits k.tables m.tables b lane d clock → n < 2 ^ 28 → length b.apartments ≡ length b.tables.issues
    → HasSpace k' lane d → HasRowFor m' d → HasPlace d (named_at m.tables (object_of (issues lane d))) b' → IsPrepared acting after d s.room s.taken
    → NamesOwners (named_at m.tables) (ends_sta d) xs
    → IsBegun (parts_of k' m' b' s n xs) acting after lane d clock
begun_is k k' m m' b b' s xs n lane clock r i acting after d p q e fits few homes space row place ready owners = record {
  fits = fits-kept k.tables k'.tables m.tables m'.tables b b' lane clock r i d p q e fits;
  few = few;
  homes = same_homes b b' r i e homes;
  lanes = space;
  objects = row;
  place = subst (λ (o : ObjectTables). HasPlace d (named_at o (object_of (issues lane d))) b') (sym q) place;
  scene = ready;
  owners = subst (λ (o : ObjectTables). NamesOwners (named_at o) (ends_sta d) xs) (sym q) owners;
}

pub then_ok : {A E P Q : Type 0} (x : Result A E) → (P → Q) → OnOk x P → OnOk x Q
then_ok (Ok z) f p = f p
then_ok (Err z) f p = tt
