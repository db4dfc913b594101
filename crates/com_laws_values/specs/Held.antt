-- What places, calls, packets and cookies hold: references by interfaces of their objects' classes, and short
-- texts of characters.
use Rattle.std.specs.Prelude.{◌≡◌, ℕ, ◌≤◌, true, false, List, length, Option, Some, None, All}
use Rattle.com_base.specs.declared.limits.TheConstants.{LITERAL_LIMIT}
use Rattle.com_base.specs.declared.value.RefValue.{RefValue}
use Rattle.com_base.specs.declared.value.Value.{Value}
use Rattle.com_base.specs.declared.value.Value.TheVariants as value
use Rattle.com_body.specs.declared.operands.Asked.TheVariants as asked
use Rattle.com_body.specs.Frames.{FrameView}
use Rattle.com_classes.specs.Lookups.{has_interface}
use Rattle.com_refs_books.specs.declared.keeps.Packet.{Packet}
use Rattle.com_refs_books.specs.declared.keeps.Cookie.{Cookie}
use Rattle.com_model.specs.declared.deeds.Deed.{Deed}
use Rattle.com_model.specs.declared.deeds.Deed.TheVariants as deed
use Rattle.com_model.specs.declared.deeds.Entry.{Entry}
use Rattle.com_model.specs.declared.scenario.Scenario.{Scenario}
use Rattle.com_model.specs.Answers.{is_S_OK}
use Rattle.com_model.specs.Objects.{asked_number, objects, class_of}
use Rattle.com_model.specs.Frames.{scene, reference}
use Rattle.com_model.specs.Endings.{ending}
use Rattle.com_model.specs.declared.keeps.Ending.{Ending}
use Rattle.com_model.specs.declared.keeps.Ending.TheVariants.{ByLeave}
use Rattle.com_model.specs.Books.{books}
use Rattle.com_model.specs.Issue.{sent}
use Rattle.com_model.specs.Formed.{is_text_byte}

-- A reference to an object that was made, by IUnknown or an interface of its class's list.
abbrev pub IsDeclared : Scenario → List Entry → RefValue → Type 0
IsDeclared s h r = (r.object ≤ objects h) × (has_interface s.classes (class_of h r.object) r.iface ≡ true)

-- A text of characters and tabs, without quotation mark.
abbrev pub IsCharacters : List ℕ → Type 0
IsCharacters t = All (λ c. is_text_byte c ≡ true) t

-- Null, or a reference of which R holds.
abbrev pub HeldBy : (RefValue → Type 0) → Option RefValue → Type 0
HeldBy R None = Unit {0}
HeldBy R (Some r) = R r

-- A value of which R holds where it is a reference, and whose text is one of characters. Texts and bytes have
-- at most as many bytes as a literal.
abbrev pub ValueBy : (RefValue → Type 0) → Value → Type 0
ValueBy R (value.Ref held) = HeldBy R held
ValueBy R (value.Text t) = IsCharacters t × (length t ≤ LITERAL_LIMIT)
ValueBy R (value.Bytes t) = length t ≤ LITERAL_LIMIT
ValueBy R _ = Unit {0}

-- A value of which this holds, or none.
abbrev pub ResultBy : (RefValue → Type 0) → Option Value → Type 0
ResultBy R None = Unit {0}
ResultBy R (Some v) = ValueBy R v

-- A frame with nothing else in its registers and slots.
pub record FrameBy (R : RefValue → Type 0) (f : FrameView) : Type 0 where
  pub registers : All (ValueBy R) f.registers
  pub slots : All (HeldBy R) f.slots

-- The reference of a packet that is outstanding, and of a cookie that was not revoked.
abbrev pub PacketBy : (RefValue → Type 0) → Packet → Type 0
PacketBy R k = k.outstanding ≡ true → R (reference k.object k.iface)

abbrev pub CookieBy : (RefValue → Type 0) → Cookie → Type 0
CookieBy R k = k.is_revoked ≡ false → R (reference k.object k.iface)

-- The value of an answer that is a Leave.
abbrev pub EndingBy : (RefValue → Type 0) → Option Ending → Type 0
EndingBy R (Some (ByLeave hr v)) = ResultBy R v
EndingBy R _ = Unit {0}

-- All that is held after a history, by R: in scripts, bodies and links; what calls sent, and what they are
-- answered; packets and cookies.
pub record HoldsBy (R : RefValue → Type 0) (s : Scenario) (h : List Entry) : Type 0 where
  pub scripts : (l : ℕ) → FrameBy R ((scene s h).scripts l)
  pub bodies : (c : ℕ) → FrameBy R ((scene s h).bodies c)
  pub links : (o : ℕ) → All (HeldBy R) ((scene s h).cells o).links
  pub sent : (c : ℕ) → All (ValueBy R) (sent s h c)
  pub answers : (c : ℕ) → EndingBy R (ending s h c)
  pub packets : All (PacketBy R) (books s h).packets
  pub cookies : All (CookieBy R) (books s h).cookies

-- Each reference names an object that was made, by an interface that its class has; each text is one of
-- characters.
abbrev pub HoldsDeclared : Scenario → List Entry → Type 0
HoldsDeclared s h = HoldsBy (IsDeclared s h) s h

-- What an entry names and carries: references of which R holds, and texts of characters. A new object's
-- class has the interface of its first reference.
abbrev pub NamesBy : Scenario → (RefValue → Type 0) → Deed → Type 0
NamesBy s R (deed.Made (Some o) (Some a) k (asked.Number i) hr) =
    has_interface s.classes (asked_number k) i ≡ true
NamesBy s R (deed.Query (Some o) (asked.Number i) hr) = is_S_OK hr ≡ true → R (reference o i)
NamesBy s R (deed.Copy held) = HeldBy R held
NamesBy s R (deed.Release held) = HeldBy R held
NamesBy s R (deed.Marshal p m held refs hr bytes) = HeldBy R held
NamesBy s R (deed.Unmarshal p held refs hr) = HeldBy R held
NamesBy s R (deed.Register g held hr) = HeldBy R held
NamesBy s R (deed.Get g held refs hr) = HeldBy R held
NamesBy s R (deed.Enter c o a t vs) = All (ValueBy R) vs
NamesBy s R (deed.Leave c hr v bytes) = ResultBy R v
NamesBy s R (deed.Back c hr v) = ResultBy R v
NamesBy s R _ = Unit {0}

abbrev pub NamesDeclared : Scenario → List Entry → ℕ → Deed → Type 0
NamesDeclared s h l d = NamesBy s (IsDeclared s h) d
