-- The laws of faults, of every reader of texts; and readers that they refuse.
use Rattle.std.specs.Prelude.{◌≡◌, ℕ, ◌+◌, List, ◌++◌, Option, Some, None, Result, Ok, Err, length, nat_lt, if◌then◌else◌}
use Rattle.com_model.specs.declared.scenario.Scenario.{Scenario}
use Rattle.com_text.specs.Tokens.{first_stray}
use Rattle.com_read_operands.specs.declared.faults.Fault.{Fault}
use Rattle.com_read_operands.specs.declared.faults.TheConstants.Fault.{CHARACTER, LIMIT, UNEXPECTED}
use Rattle.com_scenario.specs.Scenarios.{reading}
use Rattle.com_laws_faults.specs.Prefixes.{end_of, EndsBetween, CutsNoWord, EndsEarly}
use Rattle.com_laws_faults.specs.Places.{IsBefore, IsApart, StandsIn}

abbrev pub Reader : Type 0
Reader = List ℕ → Result Scenario Fault

-- A text that is at fault, and not because it ends too early, and some bytes that follow: no word is cut
-- between them, and the fault is none of those that more text may mend.
pub record IsDecided (read : Reader) (text rest : List ℕ) (f : Fault) : Type 0 where
  pub whole : CutsNoWord text rest
  pub fault : read text ≡ Err f
  pub not_early : EndsEarly text f → ⊥

-- Such a fault is that of every text which begins so.
abbrev pub Stays : Reader → Type 0
Stays read = (text rest : List ℕ) (f : Fault) → IsDecided read text rest f → read (text ++ rest) ≡ Err f

-- No scenario begins so.
abbrev pub IsHopeless : Reader → Type 0
IsHopeless read = (text rest : List ℕ) (f : Fault) (s : Scenario) → IsDecided read text rest f → read (text ++ rest) ≡ Ok s → ⊥

-- Where two beginnings of one text are at fault so, they have one fault.
abbrev pub IsOne : Reader → Type 0
IsOne read = (one other rest more : List ℕ) (f g : Fault) → IsDecided read one rest f → IsDecided read other more g → one ++ rest ≡ other ++ more → f ≡ g

-- The fault of a text that stands in a beginning of it is that of the beginning, with nothing behind.
abbrev pub IsKnown : Reader → Type 0
IsKnown read = (text rest : List ℕ) (f : Fault) → IsApart text rest → StandsIn text f → read (text ++ rest) ≡ Err f → read text ≡ Err f

-- Every text that begins so has this fault.
abbrev pub IsShared : Reader → Type 0
IsShared read = (text one other : List ℕ) (f : Fault) → IsApart text one → IsApart text other → StandsIn text f → read (text ++ one) ≡ Err f → read (text ++ other) ≡ Err f

-- And no scenario begins so.
abbrev pub IsBarred : Reader → Type 0
IsBarred read = (text one other : List ℕ) (f : Fault) (s : Scenario) → IsApart text one → IsApart text other → StandsIn text f → read (text ++ one) ≡ Err f → read (text ++ other) ≡ Ok s → ⊥

-- ---- what the laws do not say

-- A fault that more text cannot mend stays whatever follows, also where the end of its text cuts a word.
abbrev pub StaysCut : Reader → Type 0
StaysCut read = (text rest : List ℕ) (f : Fault) → read text ≡ Err f → (EndsEarly text f → ⊥) → read (text ++ rest) ≡ Err f

-- Where a beginning of a text ends between words, and the fault of the text stands before that end, it is that of the
-- beginning: asked of all faults, also of those of skips, which `IsKnown` leaves out.
abbrev pub IsKnownAll : Reader → Type 0
IsKnownAll read = (text rest : List ℕ) (f : Fault) → EndsBetween text → IsBefore (end_of text).line (end_of text).column f → read (text ++ rest) ≡ Err f → read text ≡ Err f

-- Where no word is cut, a fault stays whatever follows, also one which says that its text ends too early.
abbrev pub StaysEarly : Reader → Type 0
StaysEarly read = (text rest : List ℕ) (f : Fault) → CutsNoWord text rest → read text ≡ Err f → read (text ++ rest) ≡ Err f

-- ---- wrong readers

-- It says where it stopped, and not where the fault stands.
abbrev pub at_the_end : Reader
at_the_end text = Err (record { number = UNEXPECTED; line = (end_of text).line; column = (end_of text).column })

abbrev pub by_stray : List ℕ → Option ℕ → Result Scenario Fault
by_stray text None = reading text
by_stray text (Some at) = Err (record { number = CHARACTER; line = 1; column = at + 1 })

-- It blames the second byte for what comes later.
abbrev pub blames : Reader
blames text = if nat_lt 8 (length text) then Err (record { number = UNEXPECTED; line = 1; column = 2 }) else reading text

-- It judges all bytes of a text before its words.
abbrev pub bytes_first : Reader
bytes_first text = by_stray text (first_stray text)

-- It judges a text's length before its words. So the fault `0 0 12` of a text that is too long is none of
-- `reading`, and stands outside of the laws.
abbrev pub length_first : Reader
length_first text = if nat_lt 8 (length text) then Err (record { number = LIMIT; line = 0; column = 0 }) else reading text
