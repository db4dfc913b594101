-- What is read in a reply. A failed call has no result, and the HRESULT stands last: so it is read first.
use Rattle.std.specs.Prelude.{◌≡◌, ℕ, ◌+◌, ◌-◌, List, [], ◌∷◌, ◌++◌, drop, length, Option, Some, None, Result}
use Rattle.std.specs.Prelude.{Ok, Err, nat_lt, if◌then◌else◌}
use Rattle.std.specs.Global.{Vec}
use Rattle.com_base.specs.declared.hresult.HResult.{HResult}
use Rattle.com_base.specs.declared.value.Kind.{Kind}
use Rattle.com_wire.specs.Steps.{◌>>=◌}
use Rattle.orpc.specs.declared.OrpcFault.{OrpcFault}
use Rattle.orpc.specs.Headers.{reply_of}
use Rattle.ndr_args.specs.declared.wire.Wire.{Wire}
use Rattle.ndr_args.specs.declared.wire.ArgFault.{ArgFault}
use Rattle.ndr_args.specs.declared.wire.TheConstants.ArgFault.{TRAILING}
use Rattle.ndr_args.specs.Grammar.{gap, zeros, IsArgs}
use Rattle.ndr_args.specs.Reading.{fault, short, u32_field, zeros_at, args_at}
use Rattle.com_model.specs.Answers.{hresult, is_failure}
use Rattle.com_model.specs.Lists.{first}
use Rattle.com_exchange.specs.declared.receiving.RequestError.{RequestError}
use Rattle.com_exchange.specs.declared.receiving.RequestError.TheVariants as error
use Rattle.com_exchange.specs.declared.replies.Reply.{Reply}
use Rattle.com_exchange.specs.declared.replies.ReplyError.{ReplyError}
use Rattle.com_exchange.specs.declared.replies.ReplyError.TheVariants as unread
use Rattle.com_exchange.specs.Received.{values_in, packets_in}

-- The HRESULT is the last four bytes.
unfoldable pub answer_at_end : List ℕ → Result HResult ArgFault
answer_at_end bytes = do
  n ← u32_field bytes (length bytes - 4)
  Ok (hresult n.0)

-- What stands before it: the result, where the method has one and the call did not fail.
abbrev pub kinds_before : Option Kind → HResult → List Kind
kinds_before None hr = []
kinds_before (Some k) hr = if is_failure hr then [] else k ∷ []

-- Values of these kinds, padding to a multiple of four, and four bytes. Where fewer are left than four a field is
-- not whole, and where more are left that is the fault TRAILING, behind the padding.
abbrev pub ends_with_four : List ℕ → (end : ℕ) → List Wire → Result (List Wire) ArgFault
ends_with_four bytes end ws =
    if nat_lt (length bytes) (end + 4) then Err (short bytes)
    else if nat_lt (end + 4) (length bytes) then Err (fault TRAILING end)
    else Ok ws

unfoldable pub result_at : List Kind → List ℕ → Result (List Wire) ArgFault
result_at kinds bytes = do
  all ← args_at kinds bytes 0
  end ← zeros_at bytes (gap all.1 4) all.1
  ends_with_four bytes end all.0

-- A reply, or its first fault: that of the header, of the HRESULT, of the result.
abbrev pub with_result : HResult → Result (List Wire) ArgFault → Result Reply RequestError
with_result hr (Err f) = Err (error.Arguments f)
with_result hr (Ok ws) =
    Ok (record { hr = hr; value = first (values_in ws); packet = first (packets_in ws) })

abbrev pub with_answer : Option Kind → List ℕ → Result HResult ArgFault → Result Reply RequestError
with_answer kind rest (Err f) = Err (error.Arguments f)
with_answer kind rest (Ok hr) = with_result hr (result_at (kinds_before kind hr) rest)

abbrev pub with_header : Option Kind → List ℕ → Result (Unit {0}) OrpcFault → Result Reply RequestError
with_header kind rest (Err f) = Err (error.Header f)
with_header kind rest (Ok u) = with_answer kind rest (answer_at_end rest)

abbrev pub reply_in : Option Kind → List ℕ → Result Reply RequestError
reply_in kind bytes = with_header kind (drop 8 bytes) (reply_of bytes)

-- ---- what a reader answers

-- An HRESULT is what reading gives; none, where reading gives a fault.
abbrev pub SaysAnswer : Option HResult → Result HResult ArgFault → Type 0
SaysAnswer (Some hr) read = read ≡ Ok hr
SaysAnswer None read = (hr : HResult) → read ≡ Ok hr → ⊥

-- The front of a reply spells values of these kinds, and has padding to a multiple of four behind them.
pub record IsResult (kinds : List Kind) (front : List ℕ) (ws : List Wire) : Type 0 where
  pub text : List ℕ
  pub spelled : IsArgs kinds 0 ws text
  pub padded : front ≡ text ++ zeros (gap (length text) 4)

-- These values were read, or memory ran out.
abbrev pub Finds : Result (Vec Wire) ReplyError → List Wire → Type 0
Finds (Ok found) ws = found.items ≡ ws
Finds (Err unread.Memory) ws = Unit {0}
Finds (Err unread.NoReply) ws = ⊥

-- A reply is what reading gives, and no reply a fault. Else memory ran out.
abbrev pub TellsReply : Result Reply ReplyError → Result Reply RequestError → Type 0
TellsReply (Ok reply) read = read ≡ Ok reply
TellsReply (Err unread.Memory) read = Unit {0}
TellsReply (Err unread.NoReply) read = (reply : Reply) → read ≡ Ok reply → ⊥
