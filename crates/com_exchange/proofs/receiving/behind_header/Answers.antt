use Rattle.std.proofs.Common.{◌<◌, length, arith}
use Rattle.com_exchange.proofs.Receivings.{nothing_behind}
use Rattle.com_exchange.proofs.receiving.behind_header.Goals as goal

pub returns-then-bytes-lt-HEADER : goal.returns-then-bytes-lt-HEADER
returns-then-bytes-lt-HEADER c =
    let short : length c.args.bytes.now < 32 = omega arith in
    nothing_behind c.args.bytes.now 32 short
