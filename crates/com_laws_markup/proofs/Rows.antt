-- What the reader makes of the rows of entries.
use Rattle.std.proofs.Common.{◌≡◌, ℕ, Bool, List, [], ◌∷◌, ◌++◌, Option, Some, None, refl, ap, ◌∙◌}
use Rattle.std.specs.Prelude.{codes, decimal, reverse}
use Rattle.com_draw_words.specs.Escapes.{escaped, word_and_number}
use Rattle.com_draw_words.specs.Rows.{entry_call, entry_front_text, entry_ident, entry_number, entry_title, mark_text, row_end_text, row_middle_text}
use Rattle.com_draw_words.specs.declared.rows.Mark.{Mark}
use Rattle.com_draw_words.specs.declared.rows.Mark.TheVariants as mark
use Rattle.com_laws_markup.specs.Closed.{IsClosed}
use Rattle.com_laws_markup.specs.Markup.{Content, Quoted, Value, read}
use Rattle.com_laws_markup.proofs.Passing.{escaped_in_title, go, number_in_content, number_in_value, number_of_entry, onto, read_number}

ident_of_entry : (s : Bool) (n : List ℕ) (o e : List (List ℕ)) (k : ℕ)
    → read s (Content (n ∷ o) e) (entry_ident k) ≡ Quoted (n ∷ o) (reverse (onto (decimal k) []) ∷ e) (codes "p") (codes "data-entry" ∷ codes "id" ∷ [])
ident_of_entry s n o e k = go s (Content (n ∷ o) e) (Value (n ∷ o) e (codes "p") (codes "id" ∷ []) (codes "data-entry") (onto (decimal k) [])) (Quoted (n ∷ o) (reverse (onto (decimal k) []) ∷ e) (codes "p") (codes "data-entry" ∷ codes "id" ∷ [])) ((((codes "<p id=\"e") ++ decimal k) ++ codes "\" data-entry=\"") ++ decimal k) (codes "\"") (go s (Content (n ∷ o) e) (Value (n ∷ o) e (codes "p") (codes "id" ∷ []) (codes "data-entry") []) (Value (n ∷ o) e (codes "p") (codes "id" ∷ []) (codes "data-entry") (onto (decimal k) [])) (((codes "<p id=\"e") ++ decimal k) ++ codes "\" data-entry=\"") (decimal k) (go s (Content (n ∷ o) e) (Value (n ∷ o) e (codes "p") [] (codes "id") []) (Value (n ∷ o) e (codes "p") (codes "id" ∷ []) (codes "data-entry") []) ((codes "<p id=\"e") ++ decimal k) (codes "\" data-entry=\"") (go s (Content (n ∷ o) e) (Value (n ∷ o) e (codes "p") [] (codes "id") []) (Value (n ∷ o) e (codes "p") [] (codes "id") []) (codes "<p id=\"e") (decimal k) refl (number_in_value s (n ∷ o) e (codes "p") [] (codes "id") [] refl refl k)) refl) (number_of_entry s (n ∷ o) e (codes "p") (codes "id" ∷ []) k)) refl

number_of_row : (s : Bool) (n : List ℕ) (o e : List (List ℕ)) (k : ℕ)
    → read s (Content (codes "p" ∷ n ∷ o) (reverse (onto (decimal k) []) ∷ e)) (entry_number k) ≡ Content (codes "span" ∷ codes "p" ∷ n ∷ o) (reverse (onto (decimal k) []) ∷ e)
number_of_row s n o e k = go s (Content (codes "p" ∷ n ∷ o) (reverse (onto (decimal k) []) ∷ e)) (Content (codes "b" ∷ codes "p" ∷ n ∷ o) (reverse (onto (decimal k) []) ∷ e)) (Content (codes "span" ∷ codes "p" ∷ n ∷ o) (reverse (onto (decimal k) []) ∷ e)) ((codes "<b>") ++ decimal k) (codes "</b><span>") (go s (Content (codes "p" ∷ n ∷ o) (reverse (onto (decimal k) []) ∷ e)) (Content (codes "b" ∷ codes "p" ∷ n ∷ o) (reverse (onto (decimal k) []) ∷ e)) (Content (codes "b" ∷ codes "p" ∷ n ∷ o) (reverse (onto (decimal k) []) ∷ e)) (codes "<b>") (decimal k) refl (number_in_content s (codes "b") (codes "p" ∷ n ∷ o) (reverse (onto (decimal k) []) ∷ e) k)) refl

front_noted : (s : Bool) (n : List ℕ) (o e : List (List ℕ)) (k : ℕ) (call : Option ℕ) (m : Mark) (title : List ℕ)
    → read s (Content (n ∷ o) e) (entry_front_text k call m title) ≡ Content (codes "span" ∷ codes "p" ∷ n ∷ o) (reverse (onto (decimal k) []) ∷ e)
front_noted s n o e k None mark.Plain title = go s (Content (n ∷ o) e) (Content (codes "p" ∷ n ∷ o) (reverse (onto (decimal k) []) ∷ e)) (Content (codes "span" ∷ codes "p" ∷ n ∷ o) (reverse (onto (decimal k) []) ∷ e)) ((((entry_ident k) ++ entry_call None) ++ mark_text mark.Plain) ++ entry_title title) (entry_number k) (go s (Content (n ∷ o) e) (Quoted (n ∷ o) (reverse (onto (decimal k) []) ∷ e) (codes "p") (codes "data-entry" ∷ codes "id" ∷ [])) (Content (codes "p" ∷ n ∷ o) (reverse (onto (decimal k) []) ∷ e)) (((entry_ident k) ++ entry_call None) ++ mark_text mark.Plain) (entry_title title) (go s (Content (n ∷ o) e) (Quoted (n ∷ o) (reverse (onto (decimal k) []) ∷ e) (codes "p") (codes "data-entry" ∷ codes "id" ∷ [])) (Quoted (n ∷ o) (reverse (onto (decimal k) []) ∷ e) (codes "p") (codes "data-entry" ∷ codes "id" ∷ [])) ((entry_ident k) ++ entry_call None) (mark_text mark.Plain) (go s (Content (n ∷ o) e) (Quoted (n ∷ o) (reverse (onto (decimal k) []) ∷ e) (codes "p") (codes "data-entry" ∷ codes "id" ∷ [])) (Quoted (n ∷ o) (reverse (onto (decimal k) []) ∷ e) (codes "p") (codes "data-entry" ∷ codes "id" ∷ [])) (entry_ident k) (entry_call None) (ident_of_entry s n o e k) refl) refl) (go s (Quoted (n ∷ o) (reverse (onto (decimal k) []) ∷ e) (codes "p") (codes "data-entry" ∷ codes "id" ∷ [])) (Value (n ∷ o) (reverse (onto (decimal k) []) ∷ e) (codes "p") (codes "data-entry" ∷ codes "id" ∷ []) (codes "title") []) (Content (codes "p" ∷ n ∷ o) (reverse (onto (decimal k) []) ∷ e)) ((codes " title=\"") ++ escaped title) (codes "\">") (go s (Quoted (n ∷ o) (reverse (onto (decimal k) []) ∷ e) (codes "p") (codes "data-entry" ∷ codes "id" ∷ [])) (Value (n ∷ o) (reverse (onto (decimal k) []) ∷ e) (codes "p") (codes "data-entry" ∷ codes "id" ∷ []) (codes "title") []) (Value (n ∷ o) (reverse (onto (decimal k) []) ∷ e) (codes "p") (codes "data-entry" ∷ codes "id" ∷ []) (codes "title") []) (codes " title=\"") (escaped title) refl (escaped_in_title s (n ∷ o) (reverse (onto (decimal k) []) ∷ e) (codes "p") (codes "data-entry" ∷ codes "id" ∷ []) [] title)) refl)) (number_of_row s n o e k)
front_noted s n o e k None mark.Bad title = go s (Content (n ∷ o) e) (Content (codes "p" ∷ n ∷ o) (reverse (onto (decimal k) []) ∷ e)) (Content (codes "span" ∷ codes "p" ∷ n ∷ o) (reverse (onto (decimal k) []) ∷ e)) ((((entry_ident k) ++ entry_call None) ++ mark_text mark.Bad) ++ entry_title title) (entry_number k) (go s (Content (n ∷ o) e) (Quoted (n ∷ o) (reverse (onto (decimal k) []) ∷ e) (codes "p") (codes "class" ∷ codes "data-entry" ∷ codes "id" ∷ [])) (Content (codes "p" ∷ n ∷ o) (reverse (onto (decimal k) []) ∷ e)) (((entry_ident k) ++ entry_call None) ++ mark_text mark.Bad) (entry_title title) (go s (Content (n ∷ o) e) (Quoted (n ∷ o) (reverse (onto (decimal k) []) ∷ e) (codes "p") (codes "data-entry" ∷ codes "id" ∷ [])) (Quoted (n ∷ o) (reverse (onto (decimal k) []) ∷ e) (codes "p") (codes "class" ∷ codes "data-entry" ∷ codes "id" ∷ [])) ((entry_ident k) ++ entry_call None) (mark_text mark.Bad) (go s (Content (n ∷ o) e) (Quoted (n ∷ o) (reverse (onto (decimal k) []) ∷ e) (codes "p") (codes "data-entry" ∷ codes "id" ∷ [])) (Quoted (n ∷ o) (reverse (onto (decimal k) []) ∷ e) (codes "p") (codes "data-entry" ∷ codes "id" ∷ [])) (entry_ident k) (entry_call None) (ident_of_entry s n o e k) refl) refl) (go s (Quoted (n ∷ o) (reverse (onto (decimal k) []) ∷ e) (codes "p") (codes "class" ∷ codes "data-entry" ∷ codes "id" ∷ [])) (Value (n ∷ o) (reverse (onto (decimal k) []) ∷ e) (codes "p") (codes "class" ∷ codes "data-entry" ∷ codes "id" ∷ []) (codes "title") []) (Content (codes "p" ∷ n ∷ o) (reverse (onto (decimal k) []) ∷ e)) ((codes " title=\"") ++ escaped title) (codes "\">") (go s (Quoted (n ∷ o) (reverse (onto (decimal k) []) ∷ e) (codes "p") (codes "class" ∷ codes "data-entry" ∷ codes "id" ∷ [])) (Value (n ∷ o) (reverse (onto (decimal k) []) ∷ e) (codes "p") (codes "class" ∷ codes "data-entry" ∷ codes "id" ∷ []) (codes "title") []) (Value (n ∷ o) (reverse (onto (decimal k) []) ∷ e) (codes "p") (codes "class" ∷ codes "data-entry" ∷ codes "id" ∷ []) (codes "title") []) (codes " title=\"") (escaped title) refl (escaped_in_title s (n ∷ o) (reverse (onto (decimal k) []) ∷ e) (codes "p") (codes "class" ∷ codes "data-entry" ∷ codes "id" ∷ []) [] title)) refl)) (number_of_row s n o e k)
front_noted s n o e k None mark.Tick title = go s (Content (n ∷ o) e) (Content (codes "p" ∷ n ∷ o) (reverse (onto (decimal k) []) ∷ e)) (Content (codes "span" ∷ codes "p" ∷ n ∷ o) (reverse (onto (decimal k) []) ∷ e)) ((((entry_ident k) ++ entry_call None) ++ mark_text mark.Tick) ++ entry_title title) (entry_number k) (go s (Content (n ∷ o) e) (Quoted (n ∷ o) (reverse (onto (decimal k) []) ∷ e) (codes "p") (codes "class" ∷ codes "data-entry" ∷ codes "id" ∷ [])) (Content (codes "p" ∷ n ∷ o) (reverse (onto (decimal k) []) ∷ e)) (((entry_ident k) ++ entry_call None) ++ mark_text mark.Tick) (entry_title title) (go s (Content (n ∷ o) e) (Quoted (n ∷ o) (reverse (onto (decimal k) []) ∷ e) (codes "p") (codes "data-entry" ∷ codes "id" ∷ [])) (Quoted (n ∷ o) (reverse (onto (decimal k) []) ∷ e) (codes "p") (codes "class" ∷ codes "data-entry" ∷ codes "id" ∷ [])) ((entry_ident k) ++ entry_call None) (mark_text mark.Tick) (go s (Content (n ∷ o) e) (Quoted (n ∷ o) (reverse (onto (decimal k) []) ∷ e) (codes "p") (codes "data-entry" ∷ codes "id" ∷ [])) (Quoted (n ∷ o) (reverse (onto (decimal k) []) ∷ e) (codes "p") (codes "data-entry" ∷ codes "id" ∷ [])) (entry_ident k) (entry_call None) (ident_of_entry s n o e k) refl) refl) (go s (Quoted (n ∷ o) (reverse (onto (decimal k) []) ∷ e) (codes "p") (codes "class" ∷ codes "data-entry" ∷ codes "id" ∷ [])) (Value (n ∷ o) (reverse (onto (decimal k) []) ∷ e) (codes "p") (codes "class" ∷ codes "data-entry" ∷ codes "id" ∷ []) (codes "title") []) (Content (codes "p" ∷ n ∷ o) (reverse (onto (decimal k) []) ∷ e)) ((codes " title=\"") ++ escaped title) (codes "\">") (go s (Quoted (n ∷ o) (reverse (onto (decimal k) []) ∷ e) (codes "p") (codes "class" ∷ codes "data-entry" ∷ codes "id" ∷ [])) (Value (n ∷ o) (reverse (onto (decimal k) []) ∷ e) (codes "p") (codes "class" ∷ codes "data-entry" ∷ codes "id" ∷ []) (codes "title") []) (Value (n ∷ o) (reverse (onto (decimal k) []) ∷ e) (codes "p") (codes "class" ∷ codes "data-entry" ∷ codes "id" ∷ []) (codes "title") []) (codes " title=\"") (escaped title) refl (escaped_in_title s (n ∷ o) (reverse (onto (decimal k) []) ∷ e) (codes "p") (codes "class" ∷ codes "data-entry" ∷ codes "id" ∷ []) [] title)) refl)) (number_of_row s n o e k)
front_noted s n o e k (Some c) mark.Plain title = go s (Content (n ∷ o) e) (Content (codes "p" ∷ n ∷ o) (reverse (onto (decimal k) []) ∷ e)) (Content (codes "span" ∷ codes "p" ∷ n ∷ o) (reverse (onto (decimal k) []) ∷ e)) ((((entry_ident k) ++ entry_call (Some c)) ++ mark_text mark.Plain) ++ entry_title title) (entry_number k) (go s (Content (n ∷ o) e) (Quoted (n ∷ o) (reverse (onto (decimal k) []) ∷ e) (codes "p") (codes "data-call" ∷ codes "data-entry" ∷ codes "id" ∷ [])) (Content (codes "p" ∷ n ∷ o) (reverse (onto (decimal k) []) ∷ e)) (((entry_ident k) ++ entry_call (Some c)) ++ mark_text mark.Plain) (entry_title title) (go s (Content (n ∷ o) e) (Quoted (n ∷ o) (reverse (onto (decimal k) []) ∷ e) (codes "p") (codes "data-call" ∷ codes "data-entry" ∷ codes "id" ∷ [])) (Quoted (n ∷ o) (reverse (onto (decimal k) []) ∷ e) (codes "p") (codes "data-call" ∷ codes "data-entry" ∷ codes "id" ∷ [])) ((entry_ident k) ++ entry_call (Some c)) (mark_text mark.Plain) (go s (Content (n ∷ o) e) (Quoted (n ∷ o) (reverse (onto (decimal k) []) ∷ e) (codes "p") (codes "data-entry" ∷ codes "id" ∷ [])) (Quoted (n ∷ o) (reverse (onto (decimal k) []) ∷ e) (codes "p") (codes "data-call" ∷ codes "data-entry" ∷ codes "id" ∷ [])) (entry_ident k) (entry_call (Some c)) (ident_of_entry s n o e k) (go s (Quoted (n ∷ o) (reverse (onto (decimal k) []) ∷ e) (codes "p") (codes "data-entry" ∷ codes "id" ∷ [])) (Value (n ∷ o) (reverse (onto (decimal k) []) ∷ e) (codes "p") (codes "data-entry" ∷ codes "id" ∷ []) (codes "data-call") []) (Quoted (n ∷ o) (reverse (onto (decimal k) []) ∷ e) (codes "p") (codes "data-call" ∷ codes "data-entry" ∷ codes "id" ∷ [])) (word_and_number (codes " data-call=\"c") c) (codes "\"") (go s (Quoted (n ∷ o) (reverse (onto (decimal k) []) ∷ e) (codes "p") (codes "data-entry" ∷ codes "id" ∷ [])) (Value (n ∷ o) (reverse (onto (decimal k) []) ∷ e) (codes "p") (codes "data-entry" ∷ codes "id" ∷ []) (codes "data-call") []) (Value (n ∷ o) (reverse (onto (decimal k) []) ∷ e) (codes "p") (codes "data-entry" ∷ codes "id" ∷ []) (codes "data-call") []) (codes " data-call=\"c") (decimal c) refl (number_in_value s (n ∷ o) (reverse (onto (decimal k) []) ∷ e) (codes "p") (codes "data-entry" ∷ codes "id" ∷ []) (codes "data-call") [] refl refl c)) refl)) refl) (go s (Quoted (n ∷ o) (reverse (onto (decimal k) []) ∷ e) (codes "p") (codes "data-call" ∷ codes "data-entry" ∷ codes "id" ∷ [])) (Value (n ∷ o) (reverse (onto (decimal k) []) ∷ e) (codes "p") (codes "data-call" ∷ codes "data-entry" ∷ codes "id" ∷ []) (codes "title") []) (Content (codes "p" ∷ n ∷ o) (reverse (onto (decimal k) []) ∷ e)) ((codes " title=\"") ++ escaped title) (codes "\">") (go s (Quoted (n ∷ o) (reverse (onto (decimal k) []) ∷ e) (codes "p") (codes "data-call" ∷ codes "data-entry" ∷ codes "id" ∷ [])) (Value (n ∷ o) (reverse (onto (decimal k) []) ∷ e) (codes "p") (codes "data-call" ∷ codes "data-entry" ∷ codes "id" ∷ []) (codes "title") []) (Value (n ∷ o) (reverse (onto (decimal k) []) ∷ e) (codes "p") (codes "data-call" ∷ codes "data-entry" ∷ codes "id" ∷ []) (codes "title") []) (codes " title=\"") (escaped title) refl (escaped_in_title s (n ∷ o) (reverse (onto (decimal k) []) ∷ e) (codes "p") (codes "data-call" ∷ codes "data-entry" ∷ codes "id" ∷ []) [] title)) refl)) (number_of_row s n o e k)
front_noted s n o e k (Some c) mark.Bad title = go s (Content (n ∷ o) e) (Content (codes "p" ∷ n ∷ o) (reverse (onto (decimal k) []) ∷ e)) (Content (codes "span" ∷ codes "p" ∷ n ∷ o) (reverse (onto (decimal k) []) ∷ e)) ((((entry_ident k) ++ entry_call (Some c)) ++ mark_text mark.Bad) ++ entry_title title) (entry_number k) (go s (Content (n ∷ o) e) (Quoted (n ∷ o) (reverse (onto (decimal k) []) ∷ e) (codes "p") (codes "class" ∷ codes "data-call" ∷ codes "data-entry" ∷ codes "id" ∷ [])) (Content (codes "p" ∷ n ∷ o) (reverse (onto (decimal k) []) ∷ e)) (((entry_ident k) ++ entry_call (Some c)) ++ mark_text mark.Bad) (entry_title title) (go s (Content (n ∷ o) e) (Quoted (n ∷ o) (reverse (onto (decimal k) []) ∷ e) (codes "p") (codes "data-call" ∷ codes "data-entry" ∷ codes "id" ∷ [])) (Quoted (n ∷ o) (reverse (onto (decimal k) []) ∷ e) (codes "p") (codes "class" ∷ codes "data-call" ∷ codes "data-entry" ∷ codes "id" ∷ [])) ((entry_ident k) ++ entry_call (Some c)) (mark_text mark.Bad) (go s (Content (n ∷ o) e) (Quoted (n ∷ o) (reverse (onto (decimal k) []) ∷ e) (codes "p") (codes "data-entry" ∷ codes "id" ∷ [])) (Quoted (n ∷ o) (reverse (onto (decimal k) []) ∷ e) (codes "p") (codes "data-call" ∷ codes "data-entry" ∷ codes "id" ∷ [])) (entry_ident k) (entry_call (Some c)) (ident_of_entry s n o e k) (go s (Quoted (n ∷ o) (reverse (onto (decimal k) []) ∷ e) (codes "p") (codes "data-entry" ∷ codes "id" ∷ [])) (Value (n ∷ o) (reverse (onto (decimal k) []) ∷ e) (codes "p") (codes "data-entry" ∷ codes "id" ∷ []) (codes "data-call") []) (Quoted (n ∷ o) (reverse (onto (decimal k) []) ∷ e) (codes "p") (codes "data-call" ∷ codes "data-entry" ∷ codes "id" ∷ [])) (word_and_number (codes " data-call=\"c") c) (codes "\"") (go s (Quoted (n ∷ o) (reverse (onto (decimal k) []) ∷ e) (codes "p") (codes "data-entry" ∷ codes "id" ∷ [])) (Value (n ∷ o) (reverse (onto (decimal k) []) ∷ e) (codes "p") (codes "data-entry" ∷ codes "id" ∷ []) (codes "data-call") []) (Value (n ∷ o) (reverse (onto (decimal k) []) ∷ e) (codes "p") (codes "data-entry" ∷ codes "id" ∷ []) (codes "data-call") []) (codes " data-call=\"c") (decimal c) refl (number_in_value s (n ∷ o) (reverse (onto (decimal k) []) ∷ e) (codes "p") (codes "data-entry" ∷ codes "id" ∷ []) (codes "data-call") [] refl refl c)) refl)) refl) (go s (Quoted (n ∷ o) (reverse (onto (decimal k) []) ∷ e) (codes "p") (codes "class" ∷ codes "data-call" ∷ codes "data-entry" ∷ codes "id" ∷ [])) (Value (n ∷ o) (reverse (onto (decimal k) []) ∷ e) (codes "p") (codes "class" ∷ codes "data-call" ∷ codes "data-entry" ∷ codes "id" ∷ []) (codes "title") []) (Content (codes "p" ∷ n ∷ o) (reverse (onto (decimal k) []) ∷ e)) ((codes " title=\"") ++ escaped title) (codes "\">") (go s (Quoted (n ∷ o) (reverse (onto (decimal k) []) ∷ e) (codes "p") (codes "class" ∷ codes "data-call" ∷ codes "data-entry" ∷ codes "id" ∷ [])) (Value (n ∷ o) (reverse (onto (decimal k) []) ∷ e) (codes "p") (codes "class" ∷ codes "data-call" ∷ codes "data-entry" ∷ codes "id" ∷ []) (codes "title") []) (Value (n ∷ o) (reverse (onto (decimal k) []) ∷ e) (codes "p") (codes "class" ∷ codes "data-call" ∷ codes "data-entry" ∷ codes "id" ∷ []) (codes "title") []) (codes " title=\"") (escaped title) refl (escaped_in_title s (n ∷ o) (reverse (onto (decimal k) []) ∷ e) (codes "p") (codes "class" ∷ codes "data-call" ∷ codes "data-entry" ∷ codes "id" ∷ []) [] title)) refl)) (number_of_row s n o e k)
front_noted s n o e k (Some c) mark.Tick title = go s (Content (n ∷ o) e) (Content (codes "p" ∷ n ∷ o) (reverse (onto (decimal k) []) ∷ e)) (Content (codes "span" ∷ codes "p" ∷ n ∷ o) (reverse (onto (decimal k) []) ∷ e)) ((((entry_ident k) ++ entry_call (Some c)) ++ mark_text mark.Tick) ++ entry_title title) (entry_number k) (go s (Content (n ∷ o) e) (Quoted (n ∷ o) (reverse (onto (decimal k) []) ∷ e) (codes "p") (codes "class" ∷ codes "data-call" ∷ codes "data-entry" ∷ codes "id" ∷ [])) (Content (codes "p" ∷ n ∷ o) (reverse (onto (decimal k) []) ∷ e)) (((entry_ident k) ++ entry_call (Some c)) ++ mark_text mark.Tick) (entry_title title) (go s (Content (n ∷ o) e) (Quoted (n ∷ o) (reverse (onto (decimal k) []) ∷ e) (codes "p") (codes "data-call" ∷ codes "data-entry" ∷ codes "id" ∷ [])) (Quoted (n ∷ o) (reverse (onto (decimal k) []) ∷ e) (codes "p") (codes "class" ∷ codes "data-call" ∷ codes "data-entry" ∷ codes "id" ∷ [])) ((entry_ident k) ++ entry_call (Some c)) (mark_text mark.Tick) (go s (Content (n ∷ o) e) (Quoted (n ∷ o) (reverse (onto (decimal k) []) ∷ e) (codes "p") (codes "data-entry" ∷ codes "id" ∷ [])) (Quoted (n ∷ o) (reverse (onto (decimal k) []) ∷ e) (codes "p") (codes "data-call" ∷ codes "data-entry" ∷ codes "id" ∷ [])) (entry_ident k) (entry_call (Some c)) (ident_of_entry s n o e k) (go s (Quoted (n ∷ o) (reverse (onto (decimal k) []) ∷ e) (codes "p") (codes "data-entry" ∷ codes "id" ∷ [])) (Value (n ∷ o) (reverse (onto (decimal k) []) ∷ e) (codes "p") (codes "data-entry" ∷ codes "id" ∷ []) (codes "data-call") []) (Quoted (n ∷ o) (reverse (onto (decimal k) []) ∷ e) (codes "p") (codes "data-call" ∷ codes "data-entry" ∷ codes "id" ∷ [])) (word_and_number (codes " data-call=\"c") c) (codes "\"") (go s (Quoted (n ∷ o) (reverse (onto (decimal k) []) ∷ e) (codes "p") (codes "data-entry" ∷ codes "id" ∷ [])) (Value (n ∷ o) (reverse (onto (decimal k) []) ∷ e) (codes "p") (codes "data-entry" ∷ codes "id" ∷ []) (codes "data-call") []) (Value (n ∷ o) (reverse (onto (decimal k) []) ∷ e) (codes "p") (codes "data-entry" ∷ codes "id" ∷ []) (codes "data-call") []) (codes " data-call=\"c") (decimal c) refl (number_in_value s (n ∷ o) (reverse (onto (decimal k) []) ∷ e) (codes "p") (codes "data-entry" ∷ codes "id" ∷ []) (codes "data-call") [] refl refl c)) refl)) refl) (go s (Quoted (n ∷ o) (reverse (onto (decimal k) []) ∷ e) (codes "p") (codes "class" ∷ codes "data-call" ∷ codes "data-entry" ∷ codes "id" ∷ [])) (Value (n ∷ o) (reverse (onto (decimal k) []) ∷ e) (codes "p") (codes "class" ∷ codes "data-call" ∷ codes "data-entry" ∷ codes "id" ∷ []) (codes "title") []) (Content (codes "p" ∷ n ∷ o) (reverse (onto (decimal k) []) ∷ e)) ((codes " title=\"") ++ escaped title) (codes "\">") (go s (Quoted (n ∷ o) (reverse (onto (decimal k) []) ∷ e) (codes "p") (codes "class" ∷ codes "data-call" ∷ codes "data-entry" ∷ codes "id" ∷ [])) (Value (n ∷ o) (reverse (onto (decimal k) []) ∷ e) (codes "p") (codes "class" ∷ codes "data-call" ∷ codes "data-entry" ∷ codes "id" ∷ []) (codes "title") []) (Value (n ∷ o) (reverse (onto (decimal k) []) ∷ e) (codes "p") (codes "class" ∷ codes "data-call" ∷ codes "data-entry" ∷ codes "id" ∷ []) (codes "title") []) (codes " title=\"") (escaped title) refl (escaped_in_title s (n ∷ o) (reverse (onto (decimal k) []) ∷ e) (codes "p") (codes "class" ∷ codes "data-call" ∷ codes "data-entry" ∷ codes "id" ∷ []) [] title)) refl)) (number_of_row s n o e k)

-- behind the front of an entry's row its story begins, and its number was noted
pub front_of_entry : (s : Bool) (n : List ℕ) (o e : List (List ℕ)) (k : ℕ) (call : Option ℕ) (m : Mark) (title : List ℕ)
    → read s (Content (n ∷ o) e) (entry_front_text k call m title) ≡ Content (codes "span" ∷ codes "p" ∷ n ∷ o) (decimal k ∷ e)
front_of_entry s n o e k call m title =
    front_noted s n o e k call m title
    ∙ ap (λ (w : List ℕ). Content (codes "span" ∷ codes "p" ∷ n ∷ o) (w ∷ e)) (read_number (decimal k))

-- a row whose story and marks are closed holds its entry
pub row_of_entry : (s : Bool) (n : List ℕ) (o e : List (List ℕ)) (k : ℕ) (call : Option ℕ) (m : Mark)
    (title story marks : List ℕ) → IsClosed story → IsClosed marks
    → read s (Content (n ∷ o) e) (entry_front_text k call m title ++ story ++ row_middle_text ++ marks ++ row_end_text) ≡ Content (n ∷ o) (decimal k ∷ e)
row_of_entry s n o e k call m title story marks h g = go s (Content (n ∷ o) e) (Content (codes "i" ∷ codes "p" ∷ n ∷ o) (decimal k ∷ e)) (Content (n ∷ o) (decimal k ∷ e)) ((((entry_front_text k call m title) ++ story) ++ row_middle_text) ++ marks) (row_end_text) (go s (Content (n ∷ o) e) (Content (codes "i" ∷ codes "p" ∷ n ∷ o) (decimal k ∷ e)) (Content (codes "i" ∷ codes "p" ∷ n ∷ o) (decimal k ∷ e)) (((entry_front_text k call m title) ++ story) ++ row_middle_text) (marks) (go s (Content (n ∷ o) e) (Content (codes "span" ∷ codes "p" ∷ n ∷ o) (decimal k ∷ e)) (Content (codes "i" ∷ codes "p" ∷ n ∷ o) (decimal k ∷ e)) ((entry_front_text k call m title) ++ story) (row_middle_text) (go s (Content (n ∷ o) e) (Content (codes "span" ∷ codes "p" ∷ n ∷ o) (decimal k ∷ e)) (Content (codes "span" ∷ codes "p" ∷ n ∷ o) (decimal k ∷ e)) (entry_front_text k call m title) (story) (front_of_entry s n o e k call m title) (h.stays s (codes "span") (codes "p" ∷ n ∷ o) (decimal k ∷ e))) refl) (g.stays s (codes "i") (codes "p" ∷ n ∷ o) (decimal k ∷ e))) refl
