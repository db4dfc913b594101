-- The rules of the style sheets that hold numbers: the widths, and the events.
use Rattle.std.specs.Prelude.{ℕ, List, ◌++◌, codes}
use Rattle.com_draw_words.specs.Escapes.{word_and_number}

-- Two properties: where a lane begins, and how wide it is.
abbrev pub edges_text : (start : List ℕ) → ℕ → (between : List ℕ) → ℕ → List ℕ
edges_text start x between w = word_and_number start x ++ word_and_number between w ++ codes "px}"

-- Where a lane begins and how wide it is, in pixels: for what stands in it, and for the arrows that end in it.
abbrev pub lane_widths_text : (lane from width : ℕ) → List ℕ
lane_widths_text l x w =
    word_and_number (codes ".l") l ++ edges_text (codes "{--a:") x (codes "px;--w:") w
    ++ word_and_number (codes ".m") l ++ edges_text (codes "{--b:") x (codes "px;--v:") w

-- The width of all lanes, in pixels.
abbrev pub main_width_text : ℕ → List ℕ
main_width_text z = word_and_number (codes "main{--z:") z ++ codes "px}"

-- The size of the printed page by its width, in pixels.
abbrev pub page_size_text : ℕ → List ℕ
page_size_text y = word_and_number (codes "@page{size:") y ++ codes "px 1240px;margin:24px}"

-- The rule that marks the label of an event's call.
abbrev pub event_style_text : ℕ → List ℕ
event_style_text c = word_and_number (codes "#c") c ++ codes "::before{content:\"event: \"}"
