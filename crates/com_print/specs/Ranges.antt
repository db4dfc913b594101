-- What the numbers and literals of a statement keep.
use Rattle.std.specs.Prelude.{◌≡◌, ℕ, ◌+◌, ◌^◌, ◌≤◌, ◌<◌, ℤ, pos, negsuc, Bool, true, false, List, [], ◌∷◌}
use Rattle.std.specs.Prelude.{length, All}
use Rattle.std.specs.Str.{bytes_eq}
use Rattle.com_base.specs.declared.limits.TheConstants.{LITERAL_LIMIT}
use Rattle.com_base.specs.declared.guid.Guid.{Guid}
use Rattle.com_base.specs.declared.value.Value.{Value}
use Rattle.com_base.specs.declared.value.Value.TheVariants as values
use Rattle.com_body.specs.declared.operands.Asked.{Asked}
use Rattle.com_body.specs.declared.operands.Asked.TheVariants as askeds
use Rattle.com_body.specs.declared.operands.Op.{Op}
use Rattle.com_body.specs.declared.operands.Op.TheVariants as ops
use Rattle.com_body.specs.declared.operands.Place.{Place}
use Rattle.com_body.specs.declared.operands.Place.TheVariants as places
use Rattle.com_body.specs.declared.operands.Arg.{Arg}
use Rattle.com_body.specs.declared.operands.Arg.TheVariants as args
use Rattle.com_body.specs.declared.operands.Code.{Code}
use Rattle.com_body.specs.declared.operands.Code.TheVariants as answers
use Rattle.com_body.specs.declared.operands.Given.{Given}
use Rattle.com_body.specs.declared.operands.Given.TheVariants as gifts
use Rattle.com_body.specs.declared.statements.Stmt.{Stmt}
use Rattle.com_body.specs.declared.statements.Stmt.TheVariants as stmts
use Rattle.com_read_operands.specs.Naming.{is_name}
use Rattle.com_print.specs.Spelled.{is_text_byte}

-- ---- the ranges that the types give

-- each number of a list is a byte
abbrev pub AreBytes : List ℕ → Type 0
AreBytes bytes = All (λ b. b < 256) bytes

-- a GUID's fields have their widths: 32 bits, 16 bits, 16 bits and eight bytes
pub record IsGuid (g : Guid) : Type 0 where
  pub data1 : g.data1 < 2 ^ 32
  pub data2 : g.data2 < 2 ^ 16
  pub data3 : g.data3 < 2 ^ 16
  pub eight : length g.data4 ≡ 8
  pub data4 : AreBytes g.data4

-- a whole number of 64 bits
abbrev pub IsWhole : ℤ → Type 0
IsWhole (pos n) = n < 2 ^ 63
IsWhole (negsuc n) = n < 2 ^ 63

-- a whole number has 64 bits, bytes are bytes, a GUID's fields have their widths; of other values nothing is asked
abbrev pub FitsValue : Value → Type 0
FitsValue (values.Int number) = IsWhole number
FitsValue (values.Bytes bytes) = AreBytes bytes
FitsValue (values.Guid guid) = IsGuid guid
FitsValue _ = Unit {0}

-- the value of a literal fits its type; of a register nothing is asked
abbrev pub FitsOp : Op → Type 0
FitsOp (ops.Register n) = Unit {0}
FitsOp (ops.Literal value) = FitsValue value

-- a literal that is an argument fits its type; of a register, a slot and null nothing is asked
abbrev pub FitsArg : Arg → Type 0
FitsArg (args.Op op) = FitsOp op
FitsArg _ = Unit {0}

abbrev pub FitsAsked : Asked → Type 0
FitsAsked (askeds.Number n) = Unit {0}
FitsAsked (askeds.Guid guid) = IsGuid guid

-- a literal HRESULT has 32 bits; of a register nothing is asked
abbrev pub FitsCode : Code → Type 0
FitsCode (answers.Literal answer) = answer.0 < 2 ^ 32
FitsCode (answers.Register n) = Unit {0}

-- a literal that a body gives fits its type; of a register, a slot and no result nothing is asked
abbrev pub FitsGiven : Given → Type 0
FitsGiven (gifts.Op op) = FitsOp op
FitsGiven _ = Unit {0}

-- Each number of a statement is one that its type has.
abbrev pub Fits : Stmt → Type 0
Fits (stmts.Set to from) = FitsOp from
Fits (stmts.Add to from) = FitsOp from
Fits (stmts.Sub to from) = FitsOp from
Fits (stmts.Less to left right) = FitsOp left × FitsOp right
Fits (stmts.Store cell from) = FitsOp from
Fits (stmts.Create slot class iface) = FitsAsked class × FitsAsked iface
Fits (stmts.Query to from iface) = FitsAsked iface
Fits (stmts.Call slot iface method given to) = (method < 2 ^ 16) × All FitsArg given
Fits (stmts.Raw buffer bytes) = AreBytes bytes
Fits (stmts.Get slot cookie) = FitsOp cookie
Fits (stmts.Revoke cookie) = FitsOp cookie
Fits (stmts.Post lane word) = FitsOp lane × FitsOp word
Fits (stmts.Quit lane) = FitsOp lane
Fits (stmts.Leave answer given) = FitsCode answer × FitsGiven given
Fits _ = Unit {0}

-- ---- literals

-- No statement has a reference as a literal.
abbrev pub IsLiteral : Value → Type 0
IsLiteral (values.Text text) = All (λ b. is_text_byte b ≡ true) text × (length text ≤ LITERAL_LIMIT)
IsLiteral (values.Bytes bytes) = length bytes ≤ LITERAL_LIMIT
IsLiteral (values.Ref held) = ⊥
IsLiteral _ = Unit {0}

-- a register, or a value that has a literal
abbrev pub TakesOp : Op → Type 0
TakesOp (ops.Register n) = Unit {0}
TakesOp (ops.Literal value) = IsLiteral value

-- what a body may give: nothing, a slot, a register, or a value that has a literal
abbrev pub TakesGiven : Given → Type 0
TakesGiven (gifts.Op op) = TakesOp op
TakesGiven _ = Unit {0}

-- a slot, or where links are allowed a link
abbrev pub TakesPlace : Bool → Place → Type 0
TakesPlace links (places.Slot n) = Unit {0}
TakesPlace links (places.Link n) = links ≡ true

-- ---- names

-- no two names are the same
abbrev pub Distinct : List (List ℕ) → Type 0
Distinct [] = Unit {0}
Distinct (n ∷ ns) = All (λ m. bytes_eq n m ≡ false) ns × Distinct ns

-- names that are read as their own indices
pub record AreNames (names : List (List ℕ)) : Type 0 where
  pub each : All (λ n. is_name n ≡ true) names
  pub distinct : Distinct names
  pub few : length names ≤ 2 ^ 16

-- one of the names, which count from a number, or a GUID
abbrev pub IsNamed : List (List ℕ) → ℕ → Asked → Type 0
IsNamed names low (askeds.Number n) = (low ≤ n) × (n < length names + low)
IsNamed names low (askeds.Guid guid) = Unit {0}
