use Rattle.std.proofs.Common.{◌≡◌, length, Some, Err, subst}
use Rattle.ndr_args.specs.declared.wire.ArgError.{ArgError}
use Rattle.ndr_args.specs.Reading.{Fails, args_of}
use Rattle.com_exchange.proofs.Rereading.{fault-is, none-is, some-is, text-within, values-are}
use Rattle.com_exchange.proofs.replies.read_result.Goals as goal

pub returns-then-is_padding-clause-only : goal.returns-then-is_padding-clause-only
returns-then-is_padding-clause-only c = λ ws r. values-are c.args.kinds.now c.args.front.now ws c.in-Ok.wires.items r c.in-Ok.ensures.exact

pub returns-in-Some-clause-only : goal.returns-in-Some-clause-only
returns-in-Some-clause-only c = λ ws r.
    let x = c.in-Err-Fault in
    let exact : args_of c.args.kinds.now c.args.front.now ≡ Err x.fault =
    subst (λ (e : ArgError). Fails e (args_of c.args.kinds.now c.args.front.now)) x.field-0-is x.ensures.exact in
    let end : c.end_before.result ≡ Some (length r.text) =
    c.end_before.ensures.left (length r.text) (fault-is c.args.kinds.now c.args.front.now ws x.fault r exact) (text-within c.args.kinds.now c.args.front.now ws r) in
    c.result_until.ensures.only ws r (some-is c.end_before.result (length r.text) c.in-Some.end end c.in-Some.is)

pub returns-in-None-clause-only : goal.returns-in-None-clause-only
returns-in-None-clause-only c = λ ws r.
    let x = c.in-Err-Fault in
    let exact : args_of c.args.kinds.now c.args.front.now ≡ Err x.fault =
    subst (λ (e : ArgError). Fails e (args_of c.args.kinds.now c.args.front.now)) x.field-0-is x.ensures.exact in
    let end : c.end_before.result ≡ Some (length r.text) =
    c.end_before.ensures.left (length r.text) (fault-is c.args.kinds.now c.args.front.now ws x.fault r exact) (text-within c.args.kinds.now c.args.front.now ws r) in
    none-is c.end_before.result (length r.text) c.in-None.is end
