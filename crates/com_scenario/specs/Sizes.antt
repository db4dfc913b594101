-- How long a text may be.
use Rattle.std.specs.Prelude.{ℕ, List, [], ◌∷◌, Bool, true, false, Option, Some, None, nat_lt}
use Rattle.std.specs.Prelude.{if◌then◌else◌, length, codes}
use Rattle.std.specs.Str.{bytes_eq}
use Rattle.com_base.specs.declared.limits.TheConstants.{TEXT_1_LIMIT, TEXT_2_LIMIT}
use Rattle.com_text.specs.Words.{WordAt, LineAt, is_over, is_remark}
use Rattle.com_text.specs.Scanning.{lines_of}
use Rattle.com_scenario.specs.declared.sizes.SecondVersion.{SecondVersion}

-- Where the first word is `2`, and whether it is the last one.
abbrev pub second_word : List WordAt → Option SecondVersion
second_word [] = None
second_word (w ∷ ws) =
    if is_remark w.sort then None
    else if bytes_eq w.bytes (codes "2")
    then Some (record { line = w.line; column = w.column; ends = is_over ws })
    else None

-- Where a line's first words are `scenario` and `2`, as they stand; nothing for a line without words.
abbrev pub says_version_2 : List WordAt → Option (Option SecondVersion)
says_version_2 [] = None
says_version_2 (w ∷ ws) =
    if is_remark w.sort then None
    else Some (if bytes_eq w.bytes (codes "scenario") then second_word ws else None)

abbrev pub or_later : Option (Option SecondVersion) → Option SecondVersion → Option SecondVersion
or_later None later = later
or_later (Some answer) later = answer

-- Where the first line with words begins so.
abbrev pub second_version : List LineAt → Option SecondVersion
second_version [] = None
second_version (l ∷ ls) = or_later (says_version_2 l.words) (second_version ls)

-- Whether a text begins with `scenario 2`, and no more words stand in that line.
abbrev pub ends_so : Option SecondVersion → Bool
ends_so None = false
ends_so (Some header) = header.ends

-- Whether the words of the first line with words are these two.
abbrev pub begins_version_2 : List LineAt → Bool
begins_version_2 ls = ends_so (second_version ls)

-- The longest text of version 2, and of every other, in bytes.
abbrev pub longest_of : Bool → ℕ
longest_of true = TEXT_2_LIMIT
longest_of false = TEXT_1_LIMIT

-- Whether a text is longer than its first line with words allows.
unfoldable pub is_too_long : List ℕ → Bool
is_too_long text = nat_lt (longest_of (begins_version_2 (lines_of text))) (length text)
