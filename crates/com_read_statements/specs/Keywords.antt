-- The words that begin statements, and where these may stand.
use Rattle.std.specs.Prelude.{ℕ, List, Option, Some, None, Bool, true, false, not, if◌then◌else◌, codes}
use Rattle.std.specs.Str.{bytes_eq}
use Rattle.com_read_statements.specs.declared.keywords.Program.{Program}
use Rattle.com_read_statements.specs.declared.keywords.Program.TheVariants as programs
use Rattle.com_read_statements.specs.declared.keywords.LocalWord.{LocalWord}
use Rattle.com_read_statements.specs.declared.keywords.LocalWord.TheVariants as locals
use Rattle.com_read_statements.specs.declared.keywords.ObjectWord.{ObjectWord}
use Rattle.com_read_statements.specs.declared.keywords.ObjectWord.TheVariants as objects
use Rattle.com_read_statements.specs.declared.keywords.LaneWord.{LaneWord}
use Rattle.com_read_statements.specs.declared.keywords.LaneWord.TheVariants as lanes
use Rattle.com_read_statements.specs.declared.keywords.Keyword.{Keyword}
use Rattle.com_read_statements.specs.declared.keywords.Keyword.TheVariants as keywords

-- bodies have cells, and are left by `leave`
abbrev pub has_cells : Program → Bool
has_cells programs.Script = false
has_cells programs.Body = true
has_cells programs.AgileBody = true

-- bodies of classes that are not agile have links
abbrev pub has_links : Program → Bool
has_links programs.Script = false
has_links programs.Body = true
has_links programs.AgileBody = false

abbrev pub local_word_of : List ℕ → Option LocalWord
local_word_of bytes =
    if bytes_eq bytes (codes "set") then Some locals.Set
    else (if bytes_eq bytes (codes "add") then Some locals.Add
    else (if bytes_eq bytes (codes "sub") then Some locals.Sub
    else (if bytes_eq bytes (codes "less") then Some locals.Less
    else (if bytes_eq bytes (codes "same") then Some locals.Same
    else (if bytes_eq bytes (codes "load") then Some locals.Load
    else (if bytes_eq bytes (codes "store") then Some locals.Store
    else (if bytes_eq bytes (codes "skip") then Some locals.Skip
    else (if bytes_eq bytes (codes "skipz") then Some locals.SkipZero
    else None))))))))

abbrev pub object_word_of : List ℕ → Option ObjectWord
object_word_of bytes =
    if bytes_eq bytes (codes "create") then Some objects.Create
    else (if bytes_eq bytes (codes "query") then Some objects.Query
    else (if bytes_eq bytes (codes "copy") then Some objects.Copy
    else (if bytes_eq bytes (codes "release") then Some objects.Release
    else (if bytes_eq bytes (codes "call") then Some objects.Call
    else (if bytes_eq bytes (codes "marshal") then Some objects.Marshal
    else (if bytes_eq bytes (codes "unmarshal") then Some objects.Unmarshal
    else (if bytes_eq bytes (codes "drop") then Some objects.Drop
    else (if bytes_eq bytes (codes "raw") then Some objects.Raw
    else (if bytes_eq bytes (codes "disconnect") then Some objects.Disconnect
    else None)))))))))

abbrev pub lane_word_of : List ℕ → Option LaneWord
lane_word_of bytes =
    if bytes_eq bytes (codes "register") then Some lanes.Register
    else (if bytes_eq bytes (codes "get") then Some lanes.Get
    else (if bytes_eq bytes (codes "revoke") then Some lanes.Revoke
    else (if bytes_eq bytes (codes "post") then Some lanes.Post
    else (if bytes_eq bytes (codes "quit") then Some lanes.Quit
    else (if bytes_eq bytes (codes "leave") then Some lanes.Leave
    else (if bytes_eq bytes (codes "init") then Some lanes.Init
    else (if bytes_eq bytes (codes "uninit") then Some lanes.Uninit
    else (if bytes_eq bytes (codes "setfilter") then Some lanes.SetFilter
    else (if bytes_eq bytes (codes "pump") then Some lanes.Pump
    else None)))))))))

abbrev pub of_lane : Option LaneWord → Option Keyword
of_lane None = None
of_lane (Some w) = Some (keywords.Lane w)

abbrev pub of_local : List ℕ → Option LocalWord → Option Keyword
of_local bytes None = of_lane (lane_word_of bytes)
of_local bytes (Some w) = Some (keywords.Local w)

abbrev pub of_object : List ℕ → Option ObjectWord → Option Keyword
of_object bytes None = of_local bytes (local_word_of bytes)
of_object bytes (Some w) = Some (keywords.Object w)

-- the statement that a word begins
unfoldable pub keyword_of : List ℕ → Option Keyword
keyword_of bytes = of_object bytes (object_word_of bytes)

-- whether a statement may stand in a script or a body
abbrev pub takes : Program → Keyword → Bool
takes p (keywords.Lane lanes.Leave) = has_cells p
takes p (keywords.Lane lanes.Init) = not (has_cells p)
takes p (keywords.Lane lanes.Uninit) = not (has_cells p)
takes p (keywords.Lane lanes.SetFilter) = not (has_cells p)
takes p (keywords.Lane lanes.Pump) = not (has_cells p)
takes p _ = true
