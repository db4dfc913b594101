-- What is known of a deed of which an entry is made, before its row is entered: the rules give no other.
use Rattle.std.specs.Prelude.{◌≡◌, ℕ, ℤ, ◌+◌, ◌≤◌, ◌^◌, Bool, true, ◌||◌, List, Option, Some, None, length}
use Rattle.com_base.specs.declared.limits.TheConstants.{LISTED_LIMIT, PARAMETER_LIMIT}
use Rattle.com_base.specs.declared.value.RefValue.{RefValue}
use Rattle.com_body.specs.declared.operands.Asked.{Asked}
use Rattle.com_body.specs.declared.operands.Asked.TheVariants as asked
use Rattle.com_classes.specs.declared.classes.Class.{Class}
use Rattle.com_classes.specs.Lookups.{class_at, has_interface}
use Rattle.com_classes.specs.Tables.{Tables as ClassTables}
use Rattle.com_model.specs.declared.deeds.Deed.{Deed}
use Rattle.com_model.specs.declared.deeds.Deed.TheVariants as deed
use Rattle.com_model.specs.Answers.{is_S_OK}
use Rattle.com_model.specs.Deeds.{cookie_number}
use Rattle.com_refs_holders.specs.declared.TheConstants.{MOST_ISSUED}
use Rattle.com_refs_holders.specs.Tables.{Tables, offers, owns_of}
use Rattle.com_refs_rows.specs.Entries.{Tally}
use Rattle.com_refs_rows.specs.Moving.{AllKnown}
use Rattle.com_slots.specs.Table.{held_in}
use Rattle.com_stub.specs.declared.StubRow.{StubRow}
use Rattle.com_stub.specs.StubRows.{is_connected}

-- An entry gives so many references at most, to packets, cookies and places.
abbrev pub most_given : ℕ
most_given = 32

-- An entry brings so many references at most to places, beside what its row brings there: one that an action writes,
-- and those of a call's values.
abbrev pub most_gained : ℕ
most_gained = 8

-- The object is the next one, by an interface of its class, which lists 16 at most.
pub record IsNextMade (t : ClassTables) (made object class iface : ℕ) : Type 0 where
  pub next : object ≡ made + 1
  pub offered : has_interface t class iface ≡ true
  pub small : (c : Class) → class_at t class ≡ Some c → length c.interfaces ≤ LISTED_LIMIT

-- A new object has an owner and a class, which are given by number, as the interface is.
abbrev pub IsMaking : ClassTables → (made : ℕ) → (object owner : Option ℕ) → (class iface : Asked) → Type 0
IsMaking t n (Some o) (Some w) (asked.Number k) (asked.Number i) = IsNextMade t n o k i
IsMaking t n None w k i = Unit {0}
IsMaking t n (Some o) w k i = ⊥

-- An object that an apartment reaches by its own place or by a connection, and that has the interface.
pub record IsOfferedTo (t : Tables) (apartment object iface : ℕ) : Type 0 where
  pub reached : (owns_of t.objects object apartment || is_connected t.stubs object) ≡ true
  pub offered : offers t object iface ≡ true

-- Of a query that is refused nothing is asked.
abbrev pub IsAsked : Tables → (apartment : ℕ) → (object : Option ℕ) → (iface : Asked) → (answered : Bool)
    → Type 0
IsAsked t a (Some o) (asked.Number i) true = IsOfferedTo t a o i
IsAsked t a _ _ _ = Unit {0}

-- Null, or a reference by an interface of its object's set.
abbrev pub IsHeld : Tables → Option RefValue → Type 0
IsHeld t None = Unit {0}
IsHeld t (Some held) = offers t held.object held.iface ≡ true

-- The cookie of this number stands for the reference, and its object is connected.
pub record IsKept (cookies : List (Option RefValue)) (stubs : List StubRow) (g : ℤ) (held : RefValue)
    : Type 0 where
  pub held_is : held_in cookies (cookie_number g) ≡ Some held
  pub connected : is_connected stubs held.object ≡ true

-- Of a cookie that gives no reference nothing is asked.
abbrev pub IsGotten : List (Option RefValue) → List StubRow → ℤ → Option RefValue → Type 0
IsGotten cookies stubs g None = Unit {0}
IsGotten cookies stubs g (Some held) = IsKept cookies stubs g held

-- A call that is issued is the next one, and what it carries is by interfaces of its objects' sets.
pub record IsIssued (w : Tally) (carried : List RefValue) (call : ℕ) : Type 0 where
  pub next : call ≡ length w.calls + 1
  pub known : AllKnown w.tables carried

-- A call that is left was issued, and what its reply carries is by interfaces of its objects' sets.
pub record IsLeft (w : Tally) (carried : List RefValue) (call : ℕ) : Type 0 where
  pub some : 1 ≤ call
  pub issued : call ≤ length w.calls
  pub known : AllKnown w.tables carried

-- What the row of a deed has to fit, with the classes, what it carries, and the apartment in which its lane
-- runs: the next object by the making of one, what is asked, marshalled and registered by the sets of
-- objects, what a cookie gives by the cookie, and the number of a call by those that were issued. Of every
-- other deed nothing is asked.
abbrev pub FitsRow : ClassTables → (carried : List RefValue) → (apartment : ℕ) → Tally → Deed → Type 0
FitsRow t rs a w (deed.Made o y k i hr) = IsMaking t (length w.tables.objects) o y k i
FitsRow t rs a w (deed.Query o i hr) = IsAsked w.tables a o i (is_S_OK hr)
FitsRow t rs a w (deed.Marshal p m held n hr bytes) = IsHeld w.tables held
FitsRow t rs a w (deed.Register g held hr) = IsHeld w.tables held
FitsRow t rs a w (deed.Get g held n hr) = IsGotten w.tables.cookies w.tables.stubs g held
FitsRow t rs a w (deed.Out c o i m r k bytes) = IsIssued w rs c
FitsRow t rs a w (deed.Leave c hr v bytes) = IsLeft w rs c
FitsRow t rs a w _ = Unit {0}

-- What an entry has to fit: its row fits, it carries 4 references at most, as many as a method has
-- parameters, and so many more can be counted.
pub record FitsBooks (t : ClassTables) (carried : List RefValue) (apartment : ℕ) (w : Tally) (d : Deed)
    : Type 0 where
  pub row : FitsRow t carried apartment w d
  pub few : length carried ≤ PARAMETER_LIMIT
  pub room : w.tables.issued + most_given ≤ MOST_ISSUED
