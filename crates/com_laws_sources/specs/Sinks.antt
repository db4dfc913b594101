-- The sinks of a source, and which of them gets an event next.
--
-- Each sink that a source has taken stands under a cookie. The cookies are given out in rising order from 1,
-- so the list of sinks, in the order in which they were taken, is also in the order of their cookies.
use Rattle.std.specs.Prelude.{ℕ, ℤ, pos, Bool, true, false, ◌&&◌, nat_lt, nat_le, List, [], ◌∷◌, Option, Some}
use Rattle.std.specs.Prelude.{None, if◌then◌else◌}
use Rattle.std.specs.Int.{w64, int_wrapping_sub}
use Rattle.std.specs.Ordering.{int_eq}
use Rattle.com_base.specs.declared.value.RefValue.{RefValue}

-- One sink of a source: its cookie, and the reference that the source keeps of it.
pub record Sink : Type 0 where
  pub cookie : ℕ
  pub held : Option RefValue

-- Whether a number is a cookie, as numbers of 64 bits. In their range it is equality.
abbrev pub is_cookie : ℤ → ℕ → Bool
is_cookie n cookie = int_eq (int_wrapping_sub w64 n (pos cookie)) (pos 0)

-- The sinks without the one that has the cookie.
abbrev pub without : ℤ → List Sink → List Sink
without n [] = []
without n (x ∷ xs) = if is_cookie n x.cookie then xs else x ∷ without n xs

abbrev pub has_cookie : ℤ → List Sink → Bool
has_cookie n [] = false
has_cookie n (x ∷ xs) = if is_cookie n x.cookie then true else has_cookie n xs

-- The first sink whose cookie is above the one that was reached.
abbrev pub above : ℕ → List Sink → Option Sink
above reached [] = None
above reached (x ∷ xs) = if nat_lt reached x.cookie then Some x else above reached xs

-- The first sink whose cookie is above the one that was reached and at most the last one.
abbrev pub first_between : (reached last : ℕ) → List Sink → Option Sink
first_between reached last [] = None
first_between reached last (x ∷ xs) =
    if nat_lt reached x.cookie && nat_le x.cookie last then Some x else first_between reached last xs
