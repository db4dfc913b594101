-- What stands for apartments, objects, classes, interfaces and methods.
use Rattle.std.specs.Prelude.{ℕ, ◌^◌, ◌==◌, nat_lt, if◌then◌else◌, List, [], Option, Some, None, codes}
use Rattle.com_base.specs.Guids.{text_of}
use Rattle.com_body.specs.declared.operands.Asked.{Asked}
use Rattle.com_body.specs.declared.operands.Asked.TheVariants as asked
use Rattle.com_classes.specs.declared.classes.Class.{Class}
use Rattle.com_classes.specs.declared.interfaces.Interface.{Interface}
use Rattle.com_classes.specs.declared.interfaces.Method.{Method}
use Rattle.com_classes.specs.Lookups.{class_at, interface_at, method_at}
use Rattle.com_classes.specs.Tables.{Tables}
use Rattle.com_draw_words.specs.Escapes.{escaped, word_and_number}
use Rattle.com_draw_names.specs.declared.contexts.Caller.{Caller}

-- ---- apartments and objects

-- An apartment by its sort and its number.
abbrev pub place_text : ℕ → List ℕ
place_text a =
    if a == 0 then codes "NTA a0"
    else if a == 1 then codes "MTA a1"
    else if a == 2 then codes "host STA a2"
    else word_and_number (codes "STA a") a

-- An apartment, or a dash where there is none.
abbrev pub place_at : Option ℕ → List ℕ
place_at None = codes "-"
place_at (Some a) = place_text a

-- An object, or that it is null.
abbrev pub object_text : Option ℕ → List ℕ
object_text None = codes "null"
object_text (Some o) = word_and_number (codes "o") o

-- ---- classes, interfaces and methods: by their names, and a GUID by itself

abbrev pub class_name : Option Class → List ℕ
class_name None = []
class_name (Some k) = k.name

-- A class by its name, or by the CLSID that it is asked for by; nothing for a number that no class has.
abbrev pub class_words : Tables → Asked → List ℕ
class_words t (asked.Number c) = class_name (class_at t c)
class_words t (asked.Guid g) = text_of g

abbrev pub interface_name : Option Interface → List ℕ
interface_name None = []
interface_name (Some i) = i.name

-- An interface's number has 16 bits.
abbrev pub interface_words : Tables → Asked → List ℕ
interface_words t (asked.Number i) = if nat_lt i (2 ^ 16) then interface_name (interface_at t i) else []
interface_words t (asked.Guid g) = text_of g

-- A method by its name, or by its number where the interface has no such method.
abbrev pub method_or : ℕ → Option Method → List ℕ
method_or m None = word_and_number (codes "#") m
method_or m (Some k) = k.name

-- A method by its name, or by `#` and its number where the interface has no such method.
abbrev pub method_words : Tables → (iface method : ℕ) → List ℕ
method_words t i m = method_or m (method_at t i m)

-- A method by its name, escaped, or by `#` and its number where there is no such method.
abbrev pub shown_method_or : ℕ → Option Method → List ℕ
shown_method_or m None = word_and_number (codes "#") m
shown_method_or m (Some k) = escaped k.name

-- A method by its escaped name, or by its number.
abbrev pub shown_method : Tables → (iface method : ℕ) → List ℕ
shown_method t i m = shown_method_or m (method_at t i m)

-- The method that a caller called, by its name as it is; nothing where nobody waits for the call.
abbrev pub called_words : Tables → Option Caller → List ℕ
called_words t None = []
called_words t (Some k) = method_words t k.iface k.method

-- The method that a caller called, escaped; nothing where nobody waits for the call.
abbrev pub shown_called : Tables → Option Caller → List ℕ
shown_called t None = []
shown_called t (Some k) = shown_method t k.iface k.method
