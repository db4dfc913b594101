-- What stands before the first row: the styles with the first widths, and the names of the lanes.
use Rattle.std.specs.Prelude.{ℕ, zero, suc, ◌+◌, ◌-◌, ◌*◌, List, [], ◌++◌}
use Rattle.com_model.specs.declared.scenario.Scenario.{Scenario}
use Rattle.com_model.specs.Tables.{lanes, threads}
use Rattle.com_draw_words.specs.declared.limits.TheConstants.{FULL}
use Rattle.com_draw_words.specs.declared.sections.LaneKind.{LaneKind}
use Rattle.com_draw_words.specs.declared.sections.LaneKind.TheVariants as lane
use Rattle.com_draw_words.specs.Ends.{body_text, head_text}
use Rattle.com_draw_words.specs.Sections.{lane_name_text, objects_name_text}
use Rattle.com_draw_words.specs.Widths.{lane_widths_text, main_width_text}

-- The first width is the same for all lanes. Of so many lanes the first has this number.
abbrev pub first_widths : (lane count : ℕ) → List ℕ
first_widths l zero = []
first_widths l (suc n) = lane_widths_text l ((l - 1) * FULL) FULL ++ first_widths (l + 1) n

-- The names of so many lanes of a kind, of which the first has this number.
abbrev pub names_of : LaneKind → (lane count : ℕ) → List ℕ
names_of k l zero = []
names_of k l (suc n) = lane_name_text l k ++ names_of k (l + 1) n

-- The width of each lane and of the objects' lane, for a number of these, and that of all.
unfoldable pub front_widths : (count : ℕ) → List ℕ
front_widths m = first_widths 1 m ++ main_width_text (m * FULL)

-- The head of the page, with the first widths of so many columns, up to where the names of the lanes begin.
unfoldable pub front_styles : (count : ℕ) → List ℕ
front_styles m = head_text ++ front_widths m ++ body_text

-- The names of the threads' lanes, of the host's, of the pool's, and of the objects.
unfoldable pub lane_names : (threads pool : ℕ) → List ℕ
lane_names t p =
    names_of lane.Thread 1 t ++ lane_name_text (t + 1) lane.Host ++ names_of lane.Pool (t + 2) p

-- The names of all columns: those of so many threads, of the host, of so many pool lanes, and of the objects.
unfoldable pub front_names : (threads pool : ℕ) → List ℕ
front_names t p = lane_names t p ++ objects_name_text (t + 1 + p + 1)

-- What stands before the first row of a scenario's page.
unfoldable pub front : Scenario → List ℕ
front s = front_styles (threads s + 1 + s.pool + 1) ++ front_names (threads s) s.pool
