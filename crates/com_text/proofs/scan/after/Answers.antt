use Rattle.std.proofs.Common.{◌∙◌, arith, refl}
use Rattle.std.specs.Prelude.{slice_index}
use Rattle.com_text.specs.Scanning.{seen}
use Rattle.com_text.proofs.Scans.{range_more, keeps}
use Rattle.com_text.proofs.Keeps.{kept_on}
use Rattle.com_text.proofs.scan.after.Goals as goal

pub returns-in_default : goal.returns-in_default
returns-in_default c = record {
  seen =
      let from = c.requires.kept.from in
      let r = range_more c.args.text.now c.args.s.now.from c.args.at from c.requires.at in
      let k = keeps (seen c.args.text.now c.args.at c.args.s.now) (slice_index c.args.text.now c.args.at) c.args.class (λ e. c.in_default.not-Nothing (c.turn.ensures ∙ e)) in
      cc (r, k, c.turn.ensures, c.stray_after.ensures);
  kept = kept_on c.args.text.now c.args.at c.args.s.now _ c.args.class c.requires.kept c.requires.at c.requires.class c.requires.inner refl refl refl c.stray_after.ensures;
  line = omega arith;
  column = omega arith;
  fresh = λ e. absurd (c.in_default.not-Nothing e);
}
