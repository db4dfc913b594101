-- What the words ask for.
use Rattle.std.specs.Prelude.{ℕ, List, [], ◌∷◌, if◌then◌else◌, codes}
use Rattle.std.specs.Str.{bytes_eq}
use Rattle.com_command_draw.specs.declared.requests.Request.{Request}
use Rattle.com_command_draw.specs.declared.requests.Request.TheVariants as request

-- What one word asks for.
abbrev pub of_word : List ℕ → Request
of_word word =
    if bytes_eq word (codes "replay") then request.Replay
    else if bytes_eq word (codes "points") then request.Points
    else if bytes_eq word (codes "trace") then request.Trace
    else request.Usage

-- What all words behind the program's name ask for.
abbrev pub request_of : List (List ℕ) → Request
request_of [] = request.Usage
request_of (word ∷ []) = of_word word
request_of (word ∷ other ∷ words) = request.Usage
