-- What the reader makes of the names of lanes, of columns, of the gap, and of the rules of the style sheets.
use Rattle.std.proofs.Common.{◌≡◌, ℕ, Bool, true, false, List, ◌∷◌, refl}
use Rattle.std.specs.Prelude.{codes}
use Rattle.com_draw_words.specs.declared.sections.LaneKind.{LaneKind}
use Rattle.com_draw_words.specs.declared.sections.LaneKind.TheVariants as kind
use Rattle.com_draw_words.specs.Rows.{gap_text, reason_front_text}
use Rattle.com_draw_words.specs.Sections.{column_text, lane_hue, lane_name_text, lane_words, objects_name_text}
use Rattle.com_draw_words.specs.Widths.{edges_text, event_style_text, lane_widths_text, main_width_text, page_size_text}
use Rattle.com_laws_markup.specs.Closed.{IsClosed, IsStyle}
use Rattle.com_laws_markup.specs.Markup.{Content, Raw, read}
use Rattle.com_laws_markup.proofs.Leading.{Leads, closed_as, in_class, in_content, lead, onward, style_both, style_numbered}

-- ---- lanes

words_of_lane : (s : Bool) (n : List ℕ) (o e : List (List ℕ)) (k : LaneKind)
    → Leads s (Content (codes "b" ∷ codes "u" ∷ n ∷ o) e) (lane_words k) (Content (n ∷ o) e)
words_of_lane s n o e kind.Thread = lead (codes "</b> thread</u>")
words_of_lane s n o e kind.Host = lead (codes "</b> host STA a2</u>")
words_of_lane s n o e kind.Pool = lead (codes "</b> pool of MTA a1</u>")

pub closed_lane_name : (l : ℕ) (k : LaneKind) → IsClosed (lane_name_text l k)
closed_lane_name l k =
    closed_as (λ s n o e. onward (onward (onward (onward (lead (codes "<u class=\"l")) (in_class l))
    (onward (lead (codes " k")) (in_class (lane_hue k))))
    (onward (lead (codes "\"><b>L")) (in_content l))) (words_of_lane s n o e k))

-- the name of the objects' lane ends the names
pub objects_name : {s : Bool} {n : List ℕ} {o e : List (List ℕ)} (l : ℕ)
    → Leads s (Content (codes "div" ∷ n ∷ o) e) (objects_name_text l) (Content (n ∷ o) e)
objects_name l =
    onward (onward (lead (codes "<u class=\"l")) (in_class l)) (lead (codes " k9\">objects</u></div>\n"))

pub closed_column : (l : ℕ) → IsClosed (column_text l)
closed_column l =
    closed_as (λ s n o e. onward (onward (lead (codes "<i class=\"col l")) (in_class l)) (lead (codes "\"></i>")))

-- ---- rows

pub closed_gap : (n : ℕ) → IsClosed (gap_text n)
closed_gap k =
    closed_as (λ s n o e. onward (onward (lead (codes "<p class=\"gap\"><b></b><span>")) (in_content k))
    (lead (codes " more entries are not drawn; below is how they end</span></p>\n")))

-- behind the front of a reason's row its story begins
pub reason_front : {s : Bool} {n : List ℕ} {o e : List (List ℕ)} (bad : Bool)
    → Leads s (Content (n ∷ o) e) (reason_front_text bad) (Content (codes "span" ∷ codes "p" ∷ n ∷ o) e)
reason_front true = lead (codes "<p class=\"bad\"><b></b><span>")
reason_front false = lead (codes "<p><b></b><span>")

-- ---- style sheets

-- a constant text of a style sheet
rule : (w : List ℕ) → ((s : Bool) (o e : List (List ℕ)) → read s (Raw o e) w ≡ Raw o e) → IsStyle w
rule w h = record { stays = h }

style_edges : {start between : List ℕ} → IsStyle start → IsStyle between → (x w : ℕ) → IsStyle (edges_text start x between w)
style_edges h g x w =
    style_both (style_both (style_numbered h x) (style_numbered g w)) (rule (codes "px}") (λ s o e. refl))

pub style_lane : (l x w : ℕ) → IsStyle (lane_widths_text l x w)
style_lane l x w =
    style_both (style_both (style_both (style_numbered (rule (codes ".l") (λ s o e. refl)) l)
    (style_edges (rule (codes "{--a:") (λ s o e. refl)) (rule (codes "px;--w:") (λ s o e. refl)) x w))
    (style_numbered (rule (codes ".m") (λ s o e. refl)) l))
    (style_edges (rule (codes "{--b:") (λ s o e. refl)) (rule (codes "px;--v:") (λ s o e. refl)) x w)

pub style_main : (z : ℕ) → IsStyle (main_width_text z)
style_main z = style_both (style_numbered (rule (codes "main{--z:") (λ s o e. refl)) z) (rule (codes "px}") (λ s o e. refl))

pub style_page : (y : ℕ) → IsStyle (page_size_text y)
style_page y =
    style_both (style_numbered (rule (codes "@page{size:") (λ s o e. refl)) y)
    (rule (codes "px 1240px;margin:24px}") (λ s o e. refl))

pub style_event : (c : ℕ) → IsStyle (event_style_text c)
style_event c =
    style_both (style_numbered (rule (codes "#c") (λ s o e. refl)) c)
    (rule (codes "::before{content:\"event: \"}") (λ s o e. refl))
