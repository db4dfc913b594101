-- A reply is read again as what was written, and what is read of one is spelled so.
use Rattle.std.specs.List.{AllByRecursion}
use Rattle.std.specs.Int.{w32}
use Rattle.std.specs.Prelude.{if◌then◌else◌, map, nat_lt}
use Rattle.std.proofs.Common.{◌≡◌, ℕ, zero, suc, ◌+◌, ◌-◌, ◌*◌, ◌^◌, ◌<◌, ◌≤◌, Bool, true, false, cond, ltb, List, [], ◌∷◌, ◌++◌, length, drop, take, Option, Some, None, Result, Ok, Err, refl, sym, ap, subst, ◌∙◌, append_assoc, append-nil, length-append, arith}
use Rattle.std.proofs.lemmas.Bool.{le-ltb, ltb-false}
use Rattle.std.proofs.lemmas.List.{length-drop, length-replicate, take-append-drop}
use Rattle.std.proofs.Math.Seq.{take-append_seam}
use Rattle.com_base.specs.declared.hresult.HResult.{HResult}
use Rattle.com_base.specs.declared.standard.StdFields.{StdFields}
use Rattle.com_base.specs.declared.value.Kind.{Kind}
use Rattle.com_base.specs.declared.value.Value.{Value}
use Rattle.com_wire.specs.Fields.{IsBytes, number}
use Rattle.com_wire.specs.Steps.{◌>>=◌}
use Rattle.com_wire.proofs.Chosen.{bind_ok, guard_ok, ok_is}
use Rattle.com_wire.proofs.Fields.{Stands-then, wide32, length-number}
use Rattle.orpc.specs.declared.OrpcFault.{OrpcFault}
use Rattle.orpc.specs.Headers.{that_text, reply_of}
use Rattle.orpc.proofs.Spelled.{reply_again, length-that}
use Rattle.ndr_args.specs.declared.wire.Wire.{Wire}
use Rattle.ndr_args.specs.declared.wire.ArgFault.{ArgFault}
use Rattle.ndr_args.specs.Grammar.{gap, zeros, IsArgs}
use Rattle.ndr_args.specs.Reading.{fault, short, args_at, args_of, zeros_at}
use Rattle.ndr_args.specs.Written.{CanSendAll, IsInRange, written_args}
use Rattle.ndr_args.proofs.Spelled.{stands_end, zeros_again, zeros_take, u32_again}
use Rattle.ndr_args.proofs.Streams.{args_again, args_take, args_written}
use Rattle.com_model.specs.Lists.{first}
use Rattle.com_model.specs.Answers.{is_failure}
use Rattle.com_model.specs.Values.{carried, wires, result_list, with_answer, reply_bytes}
use Rattle.com_exchange.specs.declared.receiving.RequestError.{RequestError}
use Rattle.com_exchange.specs.declared.replies.Reply.{Reply}
use Rattle.com_exchange.specs.declared.replies.ReplyError.{ReplyError}
use Rattle.com_exchange.specs.declared.replies.ReplyError.TheVariants as unread
use Rattle.com_exchange.specs.Received.{reference_in_fields, packet_in_fields, packets_in}
use Rattle.com_exchange.specs.Replies.{Finds, IsResult, TellsReply, answer_at_end, ends_with_four, kinds_before, result_at, with_result, with_answer as said, with_header, reply_in}
use Rattle.com_exchange.proofs.Receivings.{values_back, packets_back, behind}

front-dropped : (a b : List ℕ) → drop (length a) (a ++ b) ≡ b
front-dropped a b = behind a b (length a) refl

-- ---- what is spelled so is read

pub result-found : (kinds : List Kind) (ws : List Wire) (text four : List ℕ) → length four ≡ 4 → IsArgs kinds 0 ws text
    → result_at kinds (text ++ (zeros (gap (length text) 4) ++ four)) ≡ Ok ws
unfolding result_at
result-found kinds ws text four wide is =
    let pad : List ℕ = zeros (gap (length text) 4) in
    let bytes : List ℕ = text ++ (pad ++ four) in
    let all : args_at kinds bytes 0 ≡ Ok (ws, 0 + length text) = args_again kinds ws bytes 0 text (pad ++ four) is refl in
    let at : drop (0 + length text) bytes ≡ pad ++ four = ap (λ (k : ℕ). drop k bytes) (omega arith) ∙ front-dropped text (pad ++ four) in
    let end : zeros_at bytes (gap (0 + length text) 4) (0 + length text) ≡ Ok (0 + length text + gap (0 + length text) 4) = zeros_again bytes (gap (0 + length text) 4) (0 + length text) four (at ∙ ap (λ (k : ℕ). zeros (gap k 4) ++ four) (omega arith)) in
    let long : length bytes ≡ 0 + length text + gap (0 + length text) 4 + 4 = omega (arith, length-append text (pad ++ four), length-append pad four, length-replicate {A = ℕ} (gap (length text) 4) 0, wide) in
    let low : nat_lt (length bytes) (0 + length text + gap (0 + length text) 4 + 4) ≡ false = le-ltb _ _ (omega (arith, long)) in
    let high : nat_lt (0 + length text + gap (0 + length text) 4 + 4) (length bytes) ≡ false = le-ltb _ _ (omega (arith, long)) in
    rw (all, end, low, high) refl

pub result-again : (kinds : List Kind) (ws : List Wire) (hr : HResult) → CanSendAll kinds ws → AllByRecursion IsInRange ws → 0x20000 + 4 * length ws ≤ 2 ^ 32 → result_at kinds (with_answer hr (written_args ws)) ≡ Ok ws
result-again kinds ws hr can fits few =
    result-found kinds ws (written_args ws) (number w32 hr.0) (length-number w32 (2 ^ 32) wide32 hr.0) (args_written kinds ws 0 0x20000 can fits (omega arith) few)

answer-again : (front : List ℕ) (hr : HResult) → hr.0 < 2 ^ 32 → answer_at_end (front ++ number w32 hr.0) ≡ Ok hr
unfolding answer_at_end
answer-again front hr short =
    let n : List ℕ = number w32 hr.0 in
    let long : length (front ++ n) ≡ length front + 4 = length-append front n ∙ ap (λ (k : ℕ). length front + k) (length-number w32 (2 ^ 32) wide32 hr.0) in
    let at : length (front ++ n) - 4 ≡ length front = omega (arith, long) in
    let here : drop (length (front ++ n) - 4) (front ++ n) ≡ n ++ [] = ap (λ (k : ℕ). drop k (front ++ n)) at ∙ front-dropped front n ∙ sym (append-nil n) in
    rw ((u32_again (front ++ n) (length (front ++ n) - 4) hr.0 [] short here).0) refl

pub answer-behind : (ws : List Wire) (hr : HResult) → hr.0 < 2 ^ 32 → answer_at_end (with_answer hr (written_args ws)) ≡ Ok hr
answer-behind ws hr short =
    let text : List ℕ = written_args ws in
    subst (λ (bytes : List ℕ). answer_at_end bytes ≡ Ok hr) (append_assoc text (zeros (gap (length text) 4)) (number w32 hr.0)) (answer-again (text ++ zeros (gap (length text) 4)) hr short)

-- What was written is read as the HRESULT, the value and the packet.
pub reply-again : (kind : Option Kind) (hr : HResult) (v : Option Value) (fs : List StdFields) → hr.0 < 2 ^ 32 → CanSendAll (kinds_before kind hr) (wires (result_list v) fs) → AllByRecursion IsInRange (wires (result_list v) fs) → 0x20000 + 4 * length (wires (result_list v) fs) ≤ 2 ^ 32 → map reference_in_fields fs ≡ carried (result_list v)
    → reply_in kind (reply_bytes hr v fs) ≡ Ok (record { hr = hr; value = v; packet = first (map packet_in_fields fs) })
reply-again kind hr v fs short can fits few named =
    let ws : List Wire = wires (result_list v) fs in
    let rest : List ℕ = with_answer hr (written_args ws) in
    let header : reply_of (that_text 0 ++ rest) ≡ Ok tt = reply_again (that_text 0 ++ rest) 0 rest (omega arith) refl in
    let body : drop 8 (that_text 0 ++ rest) ≡ rest = behind (that_text 0) rest 8 length-that in
    let answer : answer_at_end rest ≡ Ok hr = answer-behind ws hr short in
    let result : result_at (kinds_before kind hr) rest ≡ Ok ws = result-again (kinds_before kind hr) ws hr can fits few in
    let says : List Value → List ℕ → Result Reply RequestError = λ xs ps. Ok (record { hr = hr; value = first xs; packet = first ps }) in
    let last : Option Value → Result Reply RequestError = λ x. Ok (record { hr = hr; value = x; packet = first (map packet_in_fields fs) }) in
    ap (λ (r : Result (Unit {0}) OrpcFault). with_header kind (drop 8 (that_text 0 ++ rest)) r) header
    ∙ ap (λ (bytes : List ℕ). said kind bytes (answer_at_end bytes)) body
    ∙ ap (λ (r : Result HResult ArgFault). said kind rest r) answer
    ∙ ap (λ (r : Result (List Wire) ArgFault). with_result hr r) result
    ∙ ap (λ (xs : List Value). says xs (packets_in ws)) (values_back (result_list v) fs named)
    ∙ ap (λ (ps : List ℕ). says (result_list v) ps) (packets_back (result_list v) fs named)
    ∙ ap last (one v)
  where
    one : (v : Option Value) → first (result_list v) ≡ v
    one None = refl
    one (Some x) = refl

-- ---- what is read is spelled so

pub result-taken : (kinds : List Kind) (bytes : List ℕ) (ws : List Wire) → IsBytes bytes → result_at kinds bytes ≡ Ok ws → IsResult kinds (take (length bytes - 4) bytes) ws
unfolding result_at
result-taken kinds bytes ws fits e =
    let a = bind_ok (args_at kinds bytes 0) (λ all. zeros_at bytes (gap all.1 4) all.1 >>= λ end. ends_with_four bytes end all.0) ws e in
    let b = bind_ok (zeros_at bytes (gap a.0.1 4) a.0.1) (λ end. ends_with_four bytes end a.0.0) ws a.2 in
    let f = guard_ok (ltb (length bytes) (b.0 + 4)) (short bytes) (cond (ltb (b.0 + 4) (length bytes)) (Err (fault 6 b.0)) (Ok a.0.0)) ws b.2 in
    let g = guard_ok (ltb (b.0 + 4) (length bytes)) (fault 6 b.0) (Ok a.0.0) ws f.1 in
    let least : b.0 + 4 ≤ length bytes = ltb-false _ _ f.0 in
    let most : length bytes ≤ b.0 + 4 = ltb-false _ _ g.0 in
    let t = args_take kinds bytes 0 a.0 fits (omega arith) a.1 in
    let z = zeros_take bytes (gap a.0.1 4) a.0.1 b.0 t.2.within b.1 in
    let pad : List ℕ = zeros (gap a.0.1 4) in
    let end : a.0.1 ≡ 0 + length t.0 = stands_end bytes t.0 0 a.0.1 t.2 (omega arith) in
    let same : a.0.1 ≡ length t.0 = omega (arith, end) in
    let whole : bytes ≡ (t.0 ++ pad) ++ drop b.0 bytes = (Stands-then bytes 0 a.0.1 b.0 t.0 pad t.2 z.0).parts in
    let long : length (t.0 ++ pad) ≡ length bytes - 4 = omega (arith, least, most, ap length whole, length-append (t.0 ++ pad) (drop b.0 bytes), length-drop b.0 bytes) in
    let front : take (length bytes - 4) bytes ≡ t.0 ++ pad =
    ap (λ (k : ℕ). take k bytes) (sym long) ∙ ap (λ (l : List ℕ). take (length (t.0 ++ pad)) l) whole ∙ take-append_seam (t.0 ++ pad) (drop b.0 bytes) in
    record {
      text = t.0;
      spelled = subst (λ (vs : List Wire). IsArgs kinds 0 vs t.0) (ok_is {F = ArgFault} a.0.0 ws g.1) t.1;
      padded = front ∙ ap (λ (k : ℕ). t.0 ++ zeros (gap k 4)) same;
    }

-- Behind a result of a reply stand four bytes.
pub result-read : (kinds : List Kind) (bytes : List ℕ) (ws : List Wire) → 4 ≤ length bytes → IsResult kinds (take (length bytes - 4) bytes) ws → result_at kinds bytes ≡ Ok ws
result-read kinds bytes ws long r =
    let n : ℕ = length bytes - 4 in
    let pad : List ℕ = zeros (gap (length r.text) 4) in
    let four : length (drop n bytes) ≡ 4 = omega (arith, length-drop n bytes, long) in
    let whole : r.text ++ (pad ++ drop n bytes) ≡ bytes =
    sym (append_assoc r.text pad (drop n bytes)) ∙ ap (λ (l : List ℕ). l ++ drop n bytes) (sym r.padded) ∙ take-append-drop n bytes in
    subst (λ (l : List ℕ). result_at kinds l ≡ Ok ws) whole (result-found kinds ws r.text (drop n bytes) four r.spelled)

-- ---- how many values

args-count : (ks : List Kind) (position : ℕ) (ws : List Wire) (text : List ℕ) → IsArgs ks position ws text → length ks ≡ length ws
args-count [] position [] text is = refl
args-count [] position (w ∷ ws) text is = absurd is
args-count (k ∷ ks) position [] text is = absurd is
args-count (k ∷ ks) position (w ∷ ws) text is =
    ap suc (args-count ks _ ws is.1 is.4)

kinds-few : (kind : Option Kind) (hr : HResult) → length (kinds_before kind hr) ≤ 1
kinds-few None hr = omega arith
kinds-few (Some k) hr = by-test (is_failure hr)
  where
    by-test : (t : Bool) → length (if t then [] else k ∷ []) ≤ 1
    by-test true = omega arith
    by-test false = omega arith

pub result_few : (kind : Option Kind) (hr : HResult) (front : List ℕ) (ws : List Wire) → IsResult (kinds_before kind hr) front ws → length ws ≤ 1
result_few kind hr front ws r = omega (arith, args-count (kinds_before kind hr) 0 ws r.text r.spelled, kinds-few kind hr)

pub zeros_taken : (count : ℕ) → count < 4 → take count (zeros 4) ≡ zeros count
zeros_taken zero h = refl
zeros_taken (suc zero) h = refl
zeros_taken (suc (suc zero)) h = refl
zeros_taken (suc (suc (suc zero))) h = refl
zeros_taken (suc (suc (suc (suc n)))) h = absurd (omega (arith, h))

-- ---- what the reader of the arguments answers

pub some-is : {X : Type 0} (o : Option X) (x y : X) → o ≡ Some x → o ≡ Some y → x ≡ y
some-is o x y e f = cc

pub none-is : {X : Type 0} (o : Option X) (x : X) → o ≡ None → o ≡ Some x → ⊥
none-is o x e f = cc

-- Of values with padding behind them the reader of the arguments says where they end, if there is any padding.
reads-padded : (kinds : List Kind) (front : List ℕ) (ws : List Wire) (r : IsResult kinds front ws)
    → args_of kinds front ≡ (if nat_lt (length r.text) (length front) then Err (fault 6 (length r.text)) else Ok ws)
unfolding args_of
reads-padded kinds front ws r =
    let all : args_at kinds front 0 ≡ Ok (ws, 0 + length r.text) = args_again kinds ws front 0 r.text (zeros (gap (length r.text) 4)) r.spelled r.padded in
    let start : 0 + length r.text ≡ length r.text = omega arith in
    rw (all, start) refl

fault-of : (t : Bool) (f g : ArgFault) (ws : List Wire) → (if t then Err g else Ok ws) ≡ Err f → f ≡ g
fault-of true f g ws e = cc
fault-of false f g ws e = absurd (cc)

values-of : (t : Bool) (g : ArgFault) (ws xs : List Wire) → (if t then Err g else Ok ws) ≡ Ok xs → xs ≡ ws
values-of true g ws xs e = absurd (cc)
values-of false g ws xs e = cc

pub fault-is : (kinds : List Kind) (front : List ℕ) (ws : List Wire) (f : ArgFault) (r : IsResult kinds front ws) → args_of kinds front ≡ Err f
    → f ≡ fault 6 (length r.text)
fault-is kinds front ws f r e = fault-of (nat_lt (length r.text) (length front)) f (fault 6 (length r.text)) ws (sym (reads-padded kinds front ws r) ∙ e)

pub values-are : (kinds : List Kind) (front : List ℕ) (ws xs : List Wire) → IsResult kinds front ws → args_of kinds front ≡ Ok xs → xs ≡ ws
values-are kinds front ws xs r e = values-of (nat_lt (length r.text) (length front)) (fault 6 (length r.text)) ws xs (sym (reads-padded kinds front ws r) ∙ e)

pub text-within : (kinds : List Kind) (front : List ℕ) (ws : List Wire) (r : IsResult kinds front ws) → length r.text ≤ length front
text-within kinds front ws r = omega (arith, ap length r.padded, length-append r.text (zeros (gap (length r.text) 4)))

-- ---- what stands behind the header

was-read : (hr : HResult) (reply : Reply) (read : Result (List Wire) ArgFault) → with_result hr read ≡ Ok reply → (ws : List Wire) × (read ≡ Ok ws)
was-read hr reply (Ok ws) e = (ws, refl)
was-read hr reply (Err f) e = absurd (cc)

pub body-read : (kind : Option Kind) (hr : HResult) (rest front : List ℕ) (ws : List Wire) → answer_at_end rest ≡ Ok hr → 4 ≤ length rest
    → front ≡ take (length rest - 4) rest → IsResult (kinds_before kind hr) front ws → said kind rest (answer_at_end rest) ≡ with_result hr (Ok ws)
body-read kind hr rest front ws answer long front-is r =
    ap (λ (x : Result HResult ArgFault). said kind rest x) answer
    ∙ ap (λ (x : Result (List Wire) ArgFault). with_result hr x)
    (result-read (kinds_before kind hr) rest ws long (subst (λ (l : List ℕ). IsResult (kinds_before kind hr) l ws) front-is r))

pub body-unread : (kind : Option Kind) (hr : HResult) (rest front : List ℕ) (e : ReplyError) → IsBytes rest → answer_at_end rest ≡ Ok hr
    → front ≡ take (length rest - 4) rest → ((ws : List Wire) → IsResult (kinds_before kind hr) front ws → Finds (Err e) ws)
    → TellsReply (Err e) (said kind rest (answer_at_end rest))
body-unread kind hr rest front unread.Memory fits answer front-is only = tt
body-unread kind hr rest front unread.NoReply fits answer front-is only = λ reply is.
    let read = was-read hr reply (result_at (kinds_before kind hr) rest) (sym (ap (λ (x : Result HResult ArgFault). said kind rest x) answer) ∙ is) in
    only read.0 (subst (λ (l : List ℕ). IsResult (kinds_before kind hr) l read.0) (sym front-is) (result-taken (kinds_before kind hr) rest read.0 fits read.1))
