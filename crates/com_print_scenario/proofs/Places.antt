-- The words of declarations are read as what they were written for.
use Rattle.std.proofs.Common.{◌≡◌, ℕ, List, map, Some, is_some, Bool, true, false, if◌then◌else◌, refl, ap, ◌∙◌, slice_get, codes, Result, Ok, Err, bytes_eq}
use Rattle.com_base.specs.declared.guid.Guid.{Guid}
use Rattle.com_base.specs.Guids.{text_of as text_of_guid}
use Rattle.com_body.specs.declared.frame.Native.{Native}
use Rattle.com_body.specs.declared.frame.Native.TheVariants as natives
use Rattle.com_classes.specs.declared.classes.ThreadingModel.{ThreadingModel}
use Rattle.com_classes.specs.declared.classes.ThreadingModel.TheVariants as models
use Rattle.com_text.specs.declared.word.Sort.{Sort}
use Rattle.com_text.specs.declared.word.Sort.TheVariants as sorts
use Rattle.com_text.specs.Words.{WordAt}
use Rattle.com_read_operands.specs.declared.faults.Fault.{Fault}
use Rattle.com_read_operands.specs.Reading.{◌>>=◌, fault_at, word_at, first_at, opened, opening}
use Rattle.com_read_operands.specs.Literals.{guid_of, guid_at, as_guid}
use Rattle.com_read_operands.specs.Naming.{is_name, position_of}
use Rattle.com_read_lines.specs.Tables.{has_guid}
use Rattle.com_read_lines.specs.Methods.{type_word_of}
use Rattle.com_read_lines.specs.Declaring.{free_guid_at, free_name_at, interface_name_at, filter_name_at, model_at, native_at, relay_of}
use Rattle.com_print.specs.Spelled.{Spelled, plain, spelled_of}
use Rattle.com_print.specs.Ranges.{IsGuid}
use Rattle.com_print.proofs.Hexes.{guid_again}
use Rattle.com_print.proofs.Names.{name_word}
use Rattle.com_print.proofs.Places.{at, StandsAt, stands, IsGood, word_bytes}
use Rattle.com_print_scenario.specs.Printed.{model_word}

-- what stands at a place of a line that was written
pub at_of : (line : List WordAt) (l : List Spelled) (k : ℕ) → map spelled_of line ≡ l → at line k ≡ slice_get l k
at_of line l k e = ap (λ (x : List Spelled). slice_get x k) e

opening_good : (w : WordAt) (s : Sort) → IsGood s → opening w s ≡ Ok w
opening_good w sorts.Plain g = refl
opening_good w sorts.Text g = refl
opening_good w sorts.Bytes g = refl
opening_good w sorts.Unclosed g = absurd g
opening_good w (sorts.Stray c) g = absurd g
opening_good w (sorts.Remark c) g = absurd g

pub first_word : (line : List WordAt) (s : Spelled) (h : StandsAt line 0 s) → IsGood s.sort → first_at line ≡ Ok h.word
unfolding first_at
first_word line s h g = ap (opened line) h.there ∙ ap (opening h.word) h.sort ∙ opening_good h.word s.sort g

pub guid_at_again : (line : List WordAt) (k : ℕ) (g : Guid) → at line k ≡ Some (plain (text_of_guid g)) → IsGuid g → guid_at line k ≡ Ok g
unfolding guid_at
guid_at_again line k g h fits =
    let s = stands line k (plain (text_of_guid g)) h in
    word_bytes (λ w bs. as_guid w (guid_of bs)) line k (text_of_guid g) s ∙ ap (as_guid s.word) (guid_again g fits)

pub free_guid_again : (guids : List Guid) (line : List WordAt) (k : ℕ) (g : Guid) → at line k ≡ Some (plain (text_of_guid g)) → IsGuid g
    → has_guid guids g ≡ false → free_guid_at guids line k ≡ Ok g
unfolding free_guid_at
free_guid_again guids line k g h fits free =
    ap (λ (r : Result Guid Fault). r >>= λ x. if has_guid guids x then (word_at line k >>= λ w. Err (fault_at 9 w)) else Ok x) (guid_at_again line k g h fits)
    ∙ ap (λ (b : Bool). if b then (word_at line k >>= λ w. Err (fault_at 9 w)) else Ok g) free

pub free_name_again : (names : List (List ℕ)) (line : List WordAt) (k : ℕ) (bs : List ℕ) (h : StandsAt line k (plain bs)) → is_name bs ≡ true
    → is_some (position_of names bs) ≡ false → free_name_at names line k ≡ Ok h.word
unfolding free_name_at
free_name_again names line k bs h is free =
    ap (λ (r : Result WordAt Fault). r >>= λ w. if is_some (position_of names w.bytes) then Err (fault_at 9 w) else Ok w) (name_word line k bs h is)
    ∙ ap (λ (x : List ℕ). if is_some (position_of names x) then Err (fault_at 9 h.word) else Ok h.word) h.bytes
    ∙ ap (λ (b : Bool). if b then Err (fault_at 9 h.word) else Ok h.word) free

pub interface_name_again : (names : List (List ℕ)) (line : List WordAt) (bs : List ℕ) (h : StandsAt line 1 (plain bs)) → is_name bs ≡ true
    → is_some (type_word_of bs) ≡ false → is_some (position_of names bs) ≡ false → interface_name_at names line ≡ Ok h.word
unfolding interface_name_at
interface_name_again names line bs h is no_type free =
    ap (λ (r : Result WordAt Fault). r >>= λ w. if is_some (type_word_of w.bytes) then Err (fault_at 3 w) else free_name_at names line 1) (name_word line 1 bs h is)
    ∙ ap (λ (x : List ℕ). if is_some (type_word_of x) then Err (fault_at 3 h.word) else free_name_at names line 1) h.bytes
    ∙ ap (λ (b : Bool). if b then Err (fault_at 3 h.word) else free_name_at names line 1) no_type
    ∙ free_name_again names line 1 bs h is free

pub filter_name_again : (names : List (List ℕ)) (line : List WordAt) (bs : List ℕ) (h : StandsAt line 1 (plain bs)) → is_name bs ≡ true
    → bytes_eq bs (codes "none") ≡ false → is_some (position_of names bs) ≡ false → filter_name_at names line ≡ Ok h.word
unfolding filter_name_at
filter_name_again names line bs h is no_none free =
    ap (λ (r : Result WordAt Fault). r >>= λ w. if bytes_eq w.bytes (codes "none") then Err (fault_at 3 w) else free_name_at names line 1) (name_word line 1 bs h is)
    ∙ ap (λ (x : List ℕ). if bytes_eq x (codes "none") then Err (fault_at 3 h.word) else free_name_at names line 1) h.bytes
    ∙ ap (λ (b : Bool). if b then Err (fault_at 3 h.word) else free_name_at names line 1) no_none
    ∙ free_name_again names line 1 bs h is free

abbrev model_by : WordAt → List ℕ → Result ThreadingModel Fault
model_by w bs =
    if bytes_eq bs (codes "none") then Ok models.Nothing
    else (if bytes_eq bs (codes "Apartment") then Ok models.Apartment
    else (if bytes_eq bs (codes "Free") then Ok models.Free
    else (if bytes_eq bs (codes "Both") then Ok models.Both
    else (if bytes_eq bs (codes "Neutral") then Ok models.Neutral
    else (if bytes_eq bs (codes "Agile") then Ok models.Agile
    else Err (fault_at 3 w))))))

pub model_again : (line : List WordAt) (k : ℕ) (m : ThreadingModel) → at line k ≡ Some (model_word m) → model_at line k ≡ Ok m
unfolding model_at
model_again line k models.Nothing h = word_bytes model_by line k (codes "none") (stands line k _ h)
model_again line k models.Apartment h = word_bytes model_by line k (codes "Apartment") (stands line k _ h)
model_again line k models.Free h = word_bytes model_by line k (codes "Free") (stands line k _ h)
model_again line k models.Both h = word_bytes model_by line k (codes "Both") (stands line k _ h)
model_again line k models.Neutral h = word_bytes model_by line k (codes "Neutral") (stands line k _ h)
model_again line k models.Agile h = word_bytes model_by line k (codes "Agile") (stands line k _ h)

abbrev native_by : ThreadingModel → WordAt → List ℕ → Result Native Fault
native_by model w bs =
    if bytes_eq bs (codes "counter") then Ok natives.Counter
    else (if bytes_eq bs (codes "relay") then relay_of w model
    else (if bytes_eq bs (codes "latch") then Ok natives.Latch
    else Err (fault_at 3 w)))

pub counter_again : (model : ThreadingModel) (line : List WordAt) (k : ℕ) → at line k ≡ Some (plain (codes "counter")) → native_at model line k ≡ Ok natives.Counter
unfolding native_at
counter_again model line k h = word_bytes (native_by model) line k (codes "counter") (stands line k _ h)

pub latch_again : (model : ThreadingModel) (line : List WordAt) (k : ℕ) → at line k ≡ Some (plain (codes "latch")) → native_at model line k ≡ Ok natives.Latch
unfolding native_at
latch_again model line k h = word_bytes (native_by model) line k (codes "latch") (stands line k _ h)

pub relay_again : (model : ThreadingModel) (line : List WordAt) (k : ℕ) → at line k ≡ Some (plain (codes "relay"))
    → ((w : WordAt) → relay_of w model ≡ Ok natives.Relay) → native_at model line k ≡ Ok natives.Relay
unfolding native_at
relay_again model line k h good =
    let s = stands line k (plain (codes "relay")) h in
    word_bytes (native_by model) line k (codes "relay") s ∙ good s.word
