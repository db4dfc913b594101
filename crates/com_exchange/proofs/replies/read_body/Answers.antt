use Rattle.std.proofs.Common.{sym, ap, ◌∙◌, Ok, arith}
use Rattle.com_exchange.specs.declared.replies.Reply.{Reply}
use Rattle.com_exchange.proofs.Rereading.{body-read, body-unread}
use Rattle.com_exchange.proofs.replies.read_body.Goals as goal

pub returns-in-Ok : goal.returns-in-Ok
returns-in-Ok c =
    body-read c.args.kind c.in-Some.hr c.args.rest.now c.split_at.result.0.now c.in-Ok.wires.items c.in-Some.ensures.says c.in-Some.ensures.room
    c.split_at.ensures.front c.in-Ok.ensures.found
    ∙ ap (λ (reply : Reply). Ok reply) (sym c.reply_of.ensures)

pub returns-in-Err : goal.returns-in-Err
returns-in-Err c =
    body-unread c.args.kind c.in-Some.hr c.args.rest.now c.split_at.result.0.now c.in-Err.error (λ i. omega (arith, c.type_inv.rest i)) c.in-Some.ensures.says
    c.split_at.ensures.front c.in-Err.ensures.only
