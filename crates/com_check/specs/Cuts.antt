-- How an input of a scenario's text, the line `trace` and a trace is cut.
use Rattle.std.specs.Prelude.{◌≤◌, ℕ, ◌+◌, List, [], ◌∷◌, Bool, false, ◌&&◌, if◌then◌else◌, codes, ⊤}
use Rattle.std.specs.Str.{bytes_eq}
use Rattle.com_text.specs.Words.{WordAt, LineAt, is_over}
use Rattle.com_check.specs.declared.cut.Cut.{Cut}
use Rattle.com_check.specs.declared.cut.Cut.TheVariants as cuts

-- Whether the only word of a line is `trace`.
abbrev pub says_trace : List WordAt → Bool
says_trace [] = false
says_trace (w ∷ ws) = bytes_eq w.bytes (codes "trace") && is_over ws

-- Where the trace begins behind a line: behind its end, if it has one.
abbrev pub behind : LineAt → ℕ
behind l = if l.last then l.at else l.at + 1

-- How lines are cut of which the first begins at this index: at the first line `trace`.
abbrev pub cut_of : ℕ → List LineAt → Cut
cut_of start [] = cuts.Missing 0 0
cut_of start (l ∷ ls) =
    if says_trace l.words then cuts.At start (behind l)
    else (if l.last then cuts.Missing l.line l.column else cut_of (l.at + 1) ls)

-- Both parts lie within so many bytes.
abbrev pub IsWithin : ℕ → Cut → Type 0
IsWithin count (cuts.At until from) = (until ≤ count) × (from ≤ count)
IsWithin count (cuts.Missing line column) = ⊤
