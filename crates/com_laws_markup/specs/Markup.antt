-- Well-formed markup: what a reader of bytes takes. A page is its document's type, and behind it one element
-- with all others in it. The reader keeps the names of the open elements, the innermost first, and the values
-- of the attribute `data-entry` that it met, the newest first.
use Rattle.std.specs.Prelude.{ℕ, Bool, true, false, not, ◌&&◌, ◌||◌, ◌==◌, nat_le, if◌then◌else◌}
use Rattle.std.specs.Prelude.{List, [], ◌∷◌, reverse, codes}
use Rattle.std.specs.List.{list_any}
use Rattle.std.specs.Str.{bytes_eq}

-- ---- names

abbrev pub is_in : List (List ℕ) → List ℕ → Bool
is_in names w = list_any (λ n. bytes_eq n w) names

-- The elements of the page, but its script.
abbrev pub elements : List (List ℕ)
elements =
    codes "i" ∷ codes "b" ∷ codes "u" ∷ codes "s" ∷ codes "p" ∷ codes "a" ∷ codes "span" ∷ codes "div"
    ∷ codes "section" ∷ codes "html" ∷ codes "head" ∷ codes "meta" ∷ codes "title" ∷ codes "style"
    ∷ codes "body" ∷ codes "main" ∷ codes "footer" ∷ codes "svg" ∷ codes "h1" ∷ codes "ul" ∷ codes "li"
    ∷ codes "strong" ∷ codes "details" ∷ codes "summary" ∷ codes "pre" ∷ codes "br" ∷ []

-- Whether an element may stand in the page; where scripts may not, that of a script is none.
abbrev pub is_element : (scripts : Bool) → List ℕ → Bool
is_element scripts n = is_in elements n || (scripts && bytes_eq n (codes "script"))

-- Elements without content, and elements whose content is no markup.
abbrev pub is_void : List ℕ → Bool
is_void n = is_in (codes "meta" ∷ codes "br" ∷ []) n

abbrev pub is_raw : List ℕ → Bool
is_raw n = is_in (codes "style" ∷ codes "script" ∷ []) n

-- The attributes of the page: none of them runs anything.
abbrev pub is_attribute : List ℕ → Bool
is_attribute a =
    is_in (codes "class" ∷ codes "style" ∷ codes "id" ∷ codes "title" ∷ codes "href" ∷ codes "data-entry"
    ∷ codes "data-call" ∷ codes "aria-hidden" ∷ codes "aria-label" ∷ codes "xmlns" ∷ codes "lang"
    ∷ codes "charset" ∷ codes "name" ∷ codes "content" ∷ []) a

abbrev pub is_entry : List ℕ → Bool
is_entry a = bytes_eq a (codes "data-entry")

abbrev pub is_link : List ℕ → Bool
is_link a = bytes_eq a (codes "href")

-- The five escapes.
abbrev pub is_escape : List ℕ → Bool
is_escape w = is_in (codes "amp" ∷ codes "lt" ∷ codes "gt" ∷ codes "quot" ∷ codes "#9" ∷ []) w

-- ---- bytes

abbrev pub is_letter : ℕ → Bool
is_letter x = nat_le 97 x && nat_le x 122

abbrev pub is_digit : ℕ → Bool
is_digit x = nat_le 48 x && nat_le x 57

abbrev pub is_printed : ℕ → Bool
is_printed x = nat_le 32 x && nat_le x 126

-- Whether text may stand here: outside of all elements there is none but line ends.
abbrev pub is_inside : List (List ℕ) → Bool
is_inside [] = false
is_inside (n ∷ names) = true

-- Whether a byte may stand in an element as text.
abbrev pub is_text : List (List ℕ) → ℕ → Bool
is_text [] x = x == 10
is_text (n ∷ names) x = x == 10 || (is_printed x && not (x == 34) && not (x == 62))

-- Whether a byte may stand in the value of an attribute. A link leads to a place of the page.
abbrev pub is_first : List ℕ → Bool
is_first [] = true
is_first (x ∷ v) = false

abbrev pub is_value : (attribute value : List ℕ) → ℕ → Bool
is_value a v x = is_printed x && not (x == 60) && not (x == 62) && (not (is_link a && is_first v) || x == 35)

-- The first line of a page.
abbrev pub document_type : List ℕ
document_type = codes "<!DOCTYPE html>"

-- ---- the reader

-- Where a reader is. The words that it reads have their newest byte first.
pub data Reader : Type 0 where
  Before : (word : List ℕ) → Reader
  Content : (names entries : List (List ℕ)) → Reader
  Escape : (names entries : List (List ℕ)) → (word : List ℕ) → Reader
  Less : (names entries : List (List ℕ)) → Reader
  Start : (names entries : List (List ℕ)) → (word : List ℕ) → Reader
  Gap : (names entries : List (List ℕ)) → (name : List ℕ) → (given : List (List ℕ)) → Reader
  Key : (names entries : List (List ℕ)) → (name : List ℕ) → (given : List (List ℕ)) → (word : List ℕ) → Reader
  Equals :
      (names entries : List (List ℕ)) → (name : List ℕ) → (given : List (List ℕ))
      → (attribute : List ℕ) → Reader
  Value :
      (names entries : List (List ℕ)) → (name : List ℕ) → (given : List (List ℕ))
      → (attribute value : List ℕ) → Reader
  ValueEscape :
      (names entries : List (List ℕ)) → (name : List ℕ) → (given : List (List ℕ))
      → (attribute value word : List ℕ) → Reader
  Quoted : (names entries : List (List ℕ)) → (name : List ℕ) → (given : List (List ℕ)) → Reader
  Slash : (names entries : List (List ℕ)) → (name : List ℕ) → Reader
  End : (names entries : List (List ℕ)) → (word : List ℕ) → Reader
  Raw : (names entries : List (List ℕ)) → Reader
  RawLess : (names entries : List (List ℕ)) → Reader
  Over : (entries : List (List ℕ)) → Reader
  Refused : Reader

-- An element begins.
abbrev pub entered : (names entries : List (List ℕ)) → List ℕ → Reader
entered o e n = if is_void n then Refused else if is_raw n then Raw (n ∷ o) e else Content (n ∷ o) e

-- Behind an element: in the one around it, and where there is none the page is over.
abbrev pub behind : (names entries : List (List ℕ)) → Reader
behind [] e = Over e
behind (n ∷ o) e = Content (n ∷ o) e

-- An element ends: the innermost that is open.
abbrev pub closed : List ℕ → (names entries : List (List ℕ)) → Reader
closed n [] e = Refused
closed n (m ∷ o) e = if bytes_eq n m then behind o e else Refused

-- Behind the name or an attribute of a start tag.
abbrev pub in_tag : (names entries : List (List ℕ)) → List ℕ → List (List ℕ) → ℕ → Reader
in_tag o e n given x =
    if x == 32 then Gap o e n given
    else if x == 62 then entered o e n
    else if x == 47 then Slash o e n
    else Refused

-- The value of an attribute ends.
abbrev pub noted : (attribute value : List ℕ) → List (List ℕ) → List (List ℕ)
noted a v e = if is_entry a then reverse v ∷ e else e

abbrev pub kept : (attribute : List ℕ) → ℕ → List ℕ → List ℕ
kept a x v = if is_entry a || is_link a then x ∷ v else v

-- What the reader is after one byte more.
abbrev pub step : (scripts : Bool) → Reader → ℕ → Reader
step s (Before w) x =
    if x == 10 then (if bytes_eq (reverse w) document_type then Content [] [] else Refused)
    else Before (x ∷ w)
step s (Content o e) x =
    if x == 60 then Less o e
    else if x == 38 && is_inside o then Escape o e []
    else if is_text o x then Content o e
    else Refused
step s (Escape o e w) x =
    if x == 59 then (if is_escape (reverse w) then Content o e else Refused) else Escape o e (x ∷ w)
step s (Less o e) x =
    if x == 47 then End o e [] else if is_letter x then Start o e (x ∷ []) else Refused
step s (Start o e w) x =
    if is_letter x || is_digit x then Start o e (x ∷ w)
    else if is_element s (reverse w) then in_tag o e (reverse w) [] x
    else Refused
step s (Gap o e n given) x = if is_letter x then Key o e n given (x ∷ []) else Refused
step s (Key o e n given w) x =
    if is_letter x || x == 45 then Key o e n given (x ∷ w)
    else if x == 61 && is_attribute (reverse w) && not (is_in given (reverse w))
    then Equals o e n given (reverse w)
    else Refused
step s (Equals o e n given a) x = if x == 34 then Value o e n given a [] else Refused
step s (Value o e n given a v) x =
    if x == 34 then Quoted o (noted a v e) n (a ∷ given)
    else if x == 38 then (if is_link a then Refused else ValueEscape o e n given a v [])
    else if is_value a v x then Value o e n given a (kept a x v)
    else Refused
step s (ValueEscape o e n given a v w) x =
    if x == 59 then (if is_escape (reverse w) then Value o e n given a v else Refused)
    else ValueEscape o e n given a v (x ∷ w)
step s (Quoted o e n given) x = in_tag o e n given x
step s (Slash o e n) x = if x == 62 && is_void n then behind o e else Refused
step s (End o e w) x =
    if x == 62 then closed (reverse w) o e
    else if is_letter x || is_digit x then End o e (x ∷ w)
    else Refused
step s (Raw o e) x =
    if x == 60 then RawLess o e
    else if x == 10 || (is_printed x && not (x == 38)) then Raw o e
    else Refused
step s (RawLess o e) x = if x == 47 then End o e [] else Refused
step s (Over e) x = if x == 10 then Over e else Refused
step s Refused x = Refused

-- What the reader is behind a text.
abbrev pub read : (scripts : Bool) → Reader → List ℕ → Reader
read s m [] = m
read s m (x ∷ t) = read s (step s m x) t
