-- Who owns objects after an entry that may make one, and which interfaces are in their sets.
use Rattle.std.specs.Prelude.{◌≡◌, ℕ, Bool, true, false, ◌==◌, ◌&&◌, ◌||◌, if◌then◌else◌, length, Option, Some}
use Rattle.std.specs.Prelude.{None}
use Rattle.com_classes.specs.Lookups.{class_at, has_interface}
use Rattle.com_classes.specs.Tables.{Tables as ClassTables}
use Rattle.com_refs_holders.specs.Tables.{Tables, offers, owns_of}
use Rattle.com_model.specs.declared.keeps.Making.{Making}
use Rattle.com_model.specs.Objects.{one_more}
use Rattle.com_model.specs.Tables.{has_agile_model}

-- Whether an apartment owns an object, by the classes, where it is told whether the apartment owned it
-- before.
abbrev pub owns_by : ClassTables → Option Making → (object apartment : ℕ) → Bool → Bool
owns_by t None o a x = x
owns_by t (Some m) o a x =
    if m.object == o then has_agile_model (class_at t m.class) || a == m.apartment else x

-- There is one object more where one is made. That is owned as its making says, and every other as before.
pub record Grown (classes : ClassTables) (making : Option Making) (t u : Tables) : Type 0 where
  pub number : length u.objects ≡ one_more making (length t.objects)
  pub owns : (x c : ℕ) → owns_of u.objects x c ≡ owns_by classes making x c (owns_of t.objects x c)

-- There are as many objects, and each is owned as before.
abbrev pub AsOwned : Tables → Tables → Type 0
AsOwned t u =
    (length u.objects ≡ length t.objects) × ((x c : ℕ) → owns_of u.objects x c ≡ owns_of t.objects x c)

-- The interface is one of the class of the object that is made.
abbrev pub offers_made : ClassTables → Option Making → (object iface : ℕ) → Bool
offers_made t None o i = false
offers_made t (Some m) o i = m.object == o && has_interface t m.class i

-- Each interface that was in an object's set is in it, and so are those of the class of the object that is
-- made.
abbrev pub OffersMore : ClassTables → Option Making → Tables → Tables → Type 0
OffersMore classes making t u =
    (o i : ℕ) → (offers t o i || offers_made classes making o i) ≡ true → offers u o i ≡ true
