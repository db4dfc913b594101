-- What a call comes back with, and how it is kept.
use Rattle.std.specs.Prelude.{◌≡◌, Option, Some, None, Result, Ok, Err}
use Rattle.com_base.specs.declared.hresult.HResult.{HResult}
use Rattle.com_base.specs.declared.value.Kind.{Kind}
use Rattle.com_base.specs.declared.value.Value.{Value}
use Rattle.com_model.specs.Answers.{S_OK}
use Rattle.com_model.specs.Frames.{value_reference}
use Rattle.com_model.specs.Values.{result_list}
use Rattle.com_exchange.specs.declared.answer.Answered.{Answered}
use Rattle.com_exchange.specs.declared.answer.Form.{Form}
use Rattle.com_exchange.specs.declared.answer.Form.TheVariants as form
use Rattle.com_exchange.specs.declared.receiving.RequestError.{RequestError}
use Rattle.com_exchange.specs.declared.replies.Reply.{Reply}
use Rattle.com_exchange.specs.Messages.{TravelAs}
use Rattle.com_exchange.specs.Replies.{kinds_before, reply_in}

-- The HRESULT and the value that were read, and S_OK without a value where there is a fault.
abbrev pub answer_read : Result Reply RequestError → Answered
answer_read (Err f) = record { hr = S_OK; value = None }
answer_read (Ok r) = record { hr = r.hr; value = r.value }

-- There is no fault.
abbrev pub IsReply : Result Reply RequestError → Type 0
IsReply (Err f) = ⊥
IsReply (Ok r) = Unit {0}

-- What an answer says: what it has, or what is read in its bytes.
abbrev pub answer_of : Form → Answered
answer_of (form.Value hr v) = record { hr = hr; value = v }
answer_of (form.Reply w) = answer_read (reply_in w.kind w.bytes)
answer_of (form.Reference w r) = answer_read (reply_in w.kind w.bytes)

-- The bytes of an answer can be read, and the reference beside them is the one that is read.
abbrev pub IsReadable : Form → Type 0
IsReadable (form.Value hr v) = Unit {0}
IsReadable (form.Reply w) =
    IsReply (reply_in w.kind w.bytes) × (value_reference (answer_read (reply_in w.kind w.bytes)).value ≡ None)
IsReadable (form.Reference w r) =
    IsReply (reply_in w.kind w.bytes) × (value_reference (answer_read (reply_in w.kind w.bytes)).value ≡ Some r)

-- A result of the kind that a method declares, which can travel: none where the method has none or the call failed.
abbrev pub TravelsAs : Option Kind → HResult → Option Value → Type 0
TravelsAs kind hr value = TravelAs (kinds_before kind hr) (result_list value)
