use Rattle.std.proofs.Common.{rules, arith, ap, ◌≡◌, ◌∙◌, ◌+◌, ◌-◌, List}
use Rattle.std.specs.Prelude.{◌≢◌, drop, slice_index}
use Rattle.com_text.specs.declared.scan.Class.TheVariants as classes
use Rattle.com_text.specs.declared.scan.Within.TheVariants as within
use Rattle.com_text.specs.Words.{WordAt}
use Rattle.com_text.specs.Scanning.{class_of, lines_from}
use Rattle.com_text.specs.Runs.{between}
use Rattle.com_text.proofs.Pieces.{odd_next}
use Rattle.com_text.proofs.line.take_odd.Goals as goal

pub returns-then-eq-2 : goal.returns-then-eq-2
returns-then-eq-2 c =
    let text = c.args.text.now in
    let i = c.loop-i.i in
    let s = c.loop-i.s in
    let t = c.after-s.result in
    let k = c.loop-i.invariant in
    let new = c.give.new.out.items in
    let class = c.class_of-class.ensures ∙ ap (λ n. class_of (slice_index text i) n) c.byte_at.ensures in
    let inner : c.class_of-class.result ≢ classes.LineEnd = search rules in
    let nothing : t.within ≡ within.Nothing = search rules in (
      omega arith,
      omega arith,
      odd_next text c.args.at i s t c.class_of-class.result c.loop-i.words.items new _ (omega arith) (omega arith) class inner k.column k.lines c.in_ok-give.ensures c.after-s.ensures.seen c.after-s.ensures.line c.after-s.ensures.column (c.after-s.ensures.fresh nothing) nothing
          ∙ ap (λ n. lines_from (between n (((i + 1) + 1) - c.args.at) (i + 1)) new (drop (i + 1) text)) k.line,
    )
