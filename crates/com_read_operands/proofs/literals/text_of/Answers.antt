use Rattle.std.proofs.Common.{◌≡◌, true, rules}
use Rattle.std.specs.List.{list_all}
use Rattle.std.specs.Char.{is_ascii}
use Rattle.com_read_operands.proofs.Ascii.{ascii_text}
use Rattle.com_read_operands.proofs.literals.text_of.Goals as goal

pub returns-in-Err : goal.returns-in-Err
returns-in-Err c =
    let h : list_all is_ascii c.args.bytes.now ≡ true = search rules in
    absurd (c.in-Err.ensures.cases.0 (ascii_text c.args.bytes.now h))
