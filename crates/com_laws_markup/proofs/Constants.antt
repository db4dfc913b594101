-- What the reader makes of the constant texts of the page.
use Rattle.std.proofs.Common.{ℕ, Bool, true, List, [], ◌∷◌, refl}
use Rattle.std.specs.Prelude.{codes}
use Rattle.com_draw_words.specs.Ends.{body_text, colours_text, head_text, shapes_text, tail_text}
use Rattle.com_draw_words.specs.declared.constants.TheConstants.{ARROW_STYLE, BODY_BACK, BODY_FRONT, BOX_STYLE}
use Rattle.com_draw_words.specs.declared.constants.TheConstants.{COLOURS, ENTRY_STYLE, HEAD_FRONT, KEY_OF_BOXES}
use Rattle.com_draw_words.specs.declared.constants.TheConstants.{KEY_OF_COLOURS, KEY_OF_MARKS, PAGE_STYLE}
use Rattle.com_draw_words.specs.declared.constants.TheConstants.{PRINT_STYLE}
use Rattle.com_laws_markup.specs.Closed.{IsStyle}
use Rattle.com_laws_markup.specs.Markup.{Before, Content, Over, Raw}
use Rattle.com_laws_markup.proofs.Leading.{Leads, onward, styled}

-- the elements round a style sheet of the head, and those round the key
abbrev pub in_sheet : List (List ℕ)
in_sheet = codes "style" ∷ codes "head" ∷ codes "html" ∷ []

abbrev pub in_body : List (List ℕ)
in_body = codes "body" ∷ codes "html" ∷ []

-- ---- the head

front : (s : Bool) → Leads s (Before []) HEAD_FRONT.now (Raw in_sheet [])
front s = record { reads = refl }

colours : IsStyle COLOURS.now
colours = record { stays = λ s o e. refl }

page_style : IsStyle PAGE_STYLE.now
page_style = record { stays = λ s o e. refl }

entry_style : IsStyle ENTRY_STYLE.now
entry_style = record { stays = λ s o e. refl }

box_style : IsStyle BOX_STYLE.now
box_style = record { stays = λ s o e. refl }

arrow_style : IsStyle ARROW_STYLE.now
arrow_style = record { stays = λ s o e. refl }

-- its end, and the start of the sheet with the first widths
print_style : (s : Bool) → Leads s (Raw in_sheet []) PRINT_STYLE.now (Raw in_sheet [])
print_style s = record { reads = refl }

colours_lead : {s : Bool} → Leads s (Before []) colours_text (Raw in_sheet [])
colours_lead {s = s} = onward (onward (front s) (styled colours)) (styled page_style)

shapes_lead : {s : Bool} → Leads s (Raw in_sheet []) shapes_text (Raw in_sheet [])
shapes_lead {s = s} =
    onward (onward (onward (styled entry_style) (styled box_style)) (styled arrow_style)) (print_style s)

pub head_leads : {s : Bool} → Leads s (Before []) head_text (Raw in_sheet [])
head_leads = onward colours_lead shapes_lead

-- ---- the body

body_front : (s : Bool) → Leads s (Raw in_sheet []) BODY_FRONT.now (Content in_body [])
body_front s = record { reads = refl }

key_of_boxes : (s : Bool) → Leads s (Content in_body []) KEY_OF_BOXES.now (Content (codes "div" ∷ in_body) [])
key_of_boxes s = record { reads = refl }

key_of_marks : (s : Bool) → Leads s (Content (codes "div" ∷ in_body) []) KEY_OF_MARKS.now (Content (codes "div" ∷ in_body) [])
key_of_marks s = record { reads = refl }

key_of_colours : (s : Bool) → Leads s (Content (codes "div" ∷ in_body) []) KEY_OF_COLOURS.now (Content in_body [])
key_of_colours s = record { reads = refl }

body_back : (s : Bool) → Leads s (Content in_body []) BODY_BACK.now (Content (codes "div" ∷ codes "main" ∷ in_body) [])
body_back s = record { reads = refl }

pub body_leads : {s : Bool} → Leads s (Raw in_sheet []) body_text (Content (codes "div" ∷ codes "main" ∷ in_body) [])
body_leads {s = s} =
    onward (onward (onward (onward (body_front s) (key_of_boxes s)) (key_of_marks s)) (key_of_colours s)) (body_back s)

-- ---- the tail, with the page's only script

pub tail_leads : (e : List (List ℕ)) → Leads true (Content in_body e) tail_text (Over e)
tail_leads e = record { reads = refl }
