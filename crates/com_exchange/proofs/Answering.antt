-- What an answer keeps can be read.
use Rattle.std.specs.List.{AllByRecursion}
use Rattle.std.specs.Prelude.{map}
use Rattle.std.proofs.Common.{◌≡◌, ◌+◌, ◌*◌, ◌^◌, ◌<◌, ◌≤◌, List, length, Option, Some, None, Result, Ok, Err, refl, arith}
use Rattle.com_base.specs.declared.hresult.HResult.{HResult}
use Rattle.com_base.specs.declared.standard.StdFields.{StdFields}
use Rattle.com_base.specs.declared.value.Kind.{Kind}
use Rattle.com_base.specs.declared.value.Value.{Value}
use Rattle.com_base.specs.declared.value.Value.TheVariants as value
use Rattle.ndr_args.specs.Written.{IsInRange}
use Rattle.com_model.specs.Lists.{first}
use Rattle.com_model.specs.Values.{carried, reply_bytes, result_list, wires}
use Rattle.com_exchange.specs.declared.receiving.RequestError.{RequestError}
use Rattle.com_exchange.specs.declared.replies.Reply.{Reply}
use Rattle.com_exchange.specs.Answers.{IsReply, TravelsAs}
use Rattle.com_exchange.specs.Received.{packet_in_fields, reference_in_fields}
use Rattle.com_exchange.specs.Replies.{kinds_before, reply_in}
use Rattle.com_exchange.proofs.Ranging.{can_send}
use Rattle.com_exchange.proofs.Rereading.{reply-again}

pub no_fault : (read : Result Reply RequestError) → IsReply read → ((reply : Reply) → read ≡ Ok reply → ⊥) → ⊥
no_fault (Ok reply) is none = none reply refl
no_fault (Err f) is none = is

few-wires : (v : Option Value) (fs : List StdFields) → 0x20000 + 4 * length (wires (result_list v) fs) ≤ 2 ^ 32
few-wires None fs = omega arith
few-wires (Some (value.Int n)) fs = omega arith
few-wires (Some (value.Bool b)) fs = omega arith
few-wires (Some (value.Text t)) fs = omega arith
few-wires (Some (value.Bytes t)) fs = omega arith
few-wires (Some (value.Guid g)) fs = omega arith
few-wires (Some (value.Ref None)) fs = omega arith
few-wires (Some (value.Ref (Some r))) fs = omega arith

-- What was written of an answer is read again.
pub answer_again : (hr : HResult) (kind : Option Kind) (v : Option Value) (fs : List StdFields) → hr.0 < 2 ^ 32 → TravelsAs kind hr v
    → map reference_in_fields fs ≡ carried (result_list v) → AllByRecursion IsInRange (wires (result_list v) fs)
    → reply_in kind (reply_bytes hr v fs) ≡ Ok (record { hr = hr; value = v; packet = first (map packet_in_fields fs) })
answer_again hr kind v fs short travels named in_range =
    reply-again kind hr v fs short (can_send (kinds_before kind hr) (result_list v) fs travels) in_range (few-wires v fs) named
