-- Operands as words.
use Rattle.std.specs.Prelude.{ℕ, ◌-◌, List, [], ◌∷◌, true, false, codes, decimal}
use Rattle.std.specs.Prelude.{slice_index_or, unwrap_or}
use Rattle.std.specs.Fmt.{signed_decimal}
use Rattle.hex.specs.Hex.{encode_lower}
use Rattle.com_base.specs.Guids.{text_of}
use Rattle.com_base.specs.HResults.{eight_digits, name_of}
use Rattle.com_base.specs.declared.value.Value.{Value}
use Rattle.com_base.specs.declared.value.Value.TheVariants as values
use Rattle.com_base.specs.declared.value.Mode.{Mode}
use Rattle.com_base.specs.declared.value.Mode.TheVariants as modes
use Rattle.com_base.specs.declared.value.MarshalMode.{MarshalMode}
use Rattle.com_base.specs.declared.value.MarshalMode.TheVariants as packets
use Rattle.com_body.specs.declared.operands.Asked.{Asked}
use Rattle.com_body.specs.declared.operands.Asked.TheVariants as askeds
use Rattle.com_body.specs.declared.operands.Op.{Op}
use Rattle.com_body.specs.declared.operands.Op.TheVariants as ops
use Rattle.com_body.specs.declared.operands.Place.{Place}
use Rattle.com_body.specs.declared.operands.Place.TheVariants as places
use Rattle.com_body.specs.declared.operands.Arg.{Arg}
use Rattle.com_body.specs.declared.operands.Arg.TheVariants as args
use Rattle.com_body.specs.declared.operands.Code.{Code}
use Rattle.com_body.specs.declared.operands.Code.TheVariants as answers
use Rattle.com_body.specs.declared.operands.Given.{Given}
use Rattle.com_body.specs.declared.operands.Given.TheVariants as gifts
use Rattle.com_body.specs.declared.operands.Destination.{Destination}
use Rattle.com_body.specs.declared.operands.Destination.TheVariants as destinations
use Rattle.com_print.specs.Spelled.{Spelled, plain, text_word, bytes_word}

abbrev pub register_word : ℕ → Spelled
register_word n = plain (114 ∷ decimal n)

-- a slot: `s` and its number
abbrev pub slot_word : ℕ → Spelled
slot_word n = plain (115 ∷ decimal n)

abbrev pub cell_word : ℕ → Spelled
cell_word n = plain (99 ∷ decimal n)

abbrev pub link_word : ℕ → Spelled
link_word n = plain (107 ∷ decimal n)

abbrev pub buffer_word : ℕ → Spelled
buffer_word n = plain (112 ∷ decimal n)

abbrev pub place_word : Place → Spelled
place_word (places.Slot n) = slot_word n
place_word (places.Link n) = link_word n

-- No statement has a reference as a literal.
abbrev pub value_word : Value → Spelled
value_word (values.Int number) = plain (signed_decimal number)
value_word (values.Bool true) = plain (codes "true")
value_word (values.Bool false) = plain (codes "false")
value_word (values.Text text) = text_word text
value_word (values.Bytes bytes) = bytes_word (encode_lower bytes)
value_word (values.Guid guid) = plain (text_of guid)
value_word (values.Ref held) = plain (codes "null")

abbrev pub op_word : Op → Spelled
op_word (ops.Register n) = register_word n
op_word (ops.Literal value) = value_word value

abbrev pub arg_word : Arg → Spelled
arg_word (args.Op op) = op_word op
arg_word (args.Slot n) = slot_word n
arg_word args.Null = plain (codes "null")

-- an HRESULT by its name, or in digits where the table has none for it
unfoldable pub hresult_bytes : ℕ → List ℕ
hresult_bytes n = unwrap_or (name_of n) (48 ∷ 120 ∷ eight_digits n)

-- an HRESULT, or a register
abbrev pub code_word : Code → Spelled
code_word (answers.Literal answer) = plain (hresult_bytes answer.0)
code_word (answers.Register n) = register_word n

abbrev pub given_words : Given → List Spelled
given_words gifts.Nothing = []
given_words (gifts.Op op) = op_word op ∷ []
given_words (gifts.Slot n) = slot_word n ∷ []

abbrev pub destination_words : Destination → List Spelled
destination_words destinations.Nowhere = []
destination_words (destinations.Register n) = plain (codes "->") ∷ register_word n ∷ []
destination_words (destinations.Slot n) = plain (codes "->") ∷ slot_word n ∷ []

-- the mode of an `init`, which is `sta` or `mta`
abbrev pub mode_word : Mode → Spelled
mode_word modes.Sta = plain (codes "sta")
mode_word modes.Mta = plain (codes "mta")

abbrev pub marshal_mode_word : MarshalMode → Spelled
marshal_mode_word packets.Normal = plain (codes "normal")
marshal_mode_word packets.Strong = plain (codes "strong")
marshal_mode_word packets.Weak = plain (codes "weak")

-- ---- what is declared

-- the name with a number, and nothing where there is none
abbrev pub name_at : List (List ℕ) → ℕ → List ℕ
name_at names n = slice_index_or names n []

-- a class or an interface by its name, where the names count from a number, or as a GUID
abbrev pub asked_word : List (List ℕ) → ℕ → Asked → Spelled
asked_word names low (askeds.Number n) = plain (name_at names (n - low))
asked_word names low (askeds.Guid guid) = plain (text_of guid)
