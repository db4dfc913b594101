-- Texts behind which the reader of an element's content, or of a style sheet, is where it was.
use Rattle.std.specs.Prelude.{◌≡◌, ℕ, Bool, List, ◌∷◌}
use Rattle.com_laws_markup.specs.Markup.{Content, Raw, read}

-- Such a text, in whatever element it stands, and whether or not scripts may stand there.
pub record IsClosed (w : List ℕ) : Type 0 where
  pub stays :
      (s : Bool) (n : List ℕ) (o e : List (List ℕ)) → read s (Content (n ∷ o) e) w ≡ Content (n ∷ o) e

-- Such a text of a style sheet, which does not end it.
pub record IsStyle (w : List ℕ) : Type 0 where
  pub stays : (s : Bool) (o e : List (List ℕ)) → read s (Raw o e) w ≡ Raw o e
