-- How an entry looks: whether it is bad, its call, its mark, and the classes of its label.
use Rattle.std.specs.Prelude.{ℕ, ℤ, pos, ◌==◌, int_lt, not, Bool, true, false, if◌then◌else◌, Option, Some}
use Rattle.std.specs.Prelude.{None}
use Rattle.com_base.specs.declared.hresult.HResult.{HResult}
use Rattle.com_draw_words.specs.Boxes.{hue_of}
use Rattle.com_draw_words.specs.declared.labels.LabelClass.{LabelClass}
use Rattle.com_draw_words.specs.declared.labels.LabelClass.TheVariants as class
use Rattle.com_draw_words.specs.declared.labels.Look.{Look}
use Rattle.com_draw_words.specs.declared.rows.Mark.{Mark}
use Rattle.com_draw_words.specs.declared.rows.Mark.TheVariants as mark
use Rattle.com_model.specs.declared.deeds.Deed.{Deed}
use Rattle.com_model.specs.declared.deeds.Deed.TheVariants as deed
use Rattle.com_model.specs.declared.deeds.Route.{Route}
use Rattle.com_model.specs.declared.deeds.Route.TheVariants as route
use Rattle.com_model.specs.Answers.{is_failure}

abbrev pub is_refused : Route → Bool
is_refused route.Refused = true
is_refused _ = false

-- Whether what an entry says is bad.
abbrev pub is_bad : Deed → Bool
is_bad (deed.Init m home hr) = is_failure hr
is_bad (deed.Made object apartment class iface hr) = is_failure hr
is_bad (deed.Query object iface hr) = is_failure hr
is_bad (deed.Marshal packet m held refs hr bytes) = is_failure hr
is_bad (deed.Unmarshal packet held refs hr) = is_failure hr
is_bad (deed.DropPacket packet hr) = is_failure hr
is_bad (deed.Register cookie held hr) = is_failure hr
is_bad (deed.Get cookie held refs hr) = is_failure hr
is_bad (deed.Revoke cookie hr) = is_failure hr
is_bad (deed.SetFilter filter hr) = not (hr.0 == 0)
is_bad (deed.Post to word hr) = is_failure hr
is_bad (deed.Quit to hr) = is_failure hr
is_bad (deed.Out call object iface method r cause bytes) = is_refused r
is_bad (deed.Verdict call call_type v) = true
is_bad (deed.Refuse call hr) = true
is_bad (deed.Leave call hr v bytes) = is_failure hr
is_bad (deed.Retry call answer) = int_lt answer (pos 0)
is_bad (deed.Back call hr v) = is_failure hr
is_bad (deed.Pending call word answer) = answer == 0
is_bad (deed.Disconnect object hr) = is_failure hr
is_bad _ = false

-- The call of an entry, in the kinds that have one.
abbrev pub call_of : Deed → Option ℕ
call_of (deed.Out call object iface method r cause bytes) = Some call
call_of (deed.Verdict call call_type v) = Some call
call_of (deed.Refuse call hr) = Some call
call_of (deed.Enter call object apartment call_type values) = Some call
call_of (deed.Leave call hr v bytes) = Some call
call_of (deed.Retry call answer) = Some call
call_of (deed.Again call) = Some call
call_of (deed.Back call hr v) = Some call
call_of (deed.Pending call word answer) = Some call
call_of _ = None

-- Whether an entry has a label: all but the moves of the clock.
abbrev pub has_label : Deed → Bool
has_label (deed.Tick clock) = false
has_label _ = true

-- By what an entry is marked.
abbrev pub mark_of : Deed → Mark
mark_of d = if has_label d then (if is_bad d then mark.Bad else mark.Plain) else mark.Tick

-- What a label is about.
abbrev pub new_class : Option ℕ → HResult → LabelClass
new_class None hr = class.Plain
new_class (Some a) hr = if is_failure hr then class.Plain else class.New (hue_of a)

abbrev pub label_class : Deed → LabelClass
label_class (deed.Made object apartment asked iface hr) = new_class apartment hr
label_class deed.End = class.Over
label_class _ = class.Plain

-- The call by which a label is found: that of an Out.
abbrev pub label_ident : Deed → Option ℕ
label_ident (deed.Out call object iface method r cause bytes) = Some call
label_ident _ = None

-- How the label of an entry looks: its class, whether it is bad, and the call by which it is found.
abbrev pub look : Deed → Look
look d = record { class = label_class d; is_bad = is_bad d; ident = label_ident d }
