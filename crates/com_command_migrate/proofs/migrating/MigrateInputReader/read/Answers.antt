use Rattle.std.specs.Prelude.{◌≡◌, false}
use Rattle.std.proofs.Common.{◌∙◌, arith, rules, sym}
use Rattle.std.proofs.lemmas.Grind.{common_steps}
use Rattle.com_scenario.specs.Sizes.{is_too_long}
use Rattle.com_commands.proofs.Asking.{reads_input}
use Rattle.com_command_migrate.specs.Inputs.{moving_of}
use Rattle.com_command_migrate.proofs.Short.{short_trace}
use Rattle.com_command_migrate.proofs.Reading.{is_formed}
use Rattle.com_command_migrate.proofs.migrating.MigrateInputReader.read.Goals as goal

pub returns-in-Ok-clause-value : goal.returns-in-Ok-clause-value
returns-in-Ok-clause-value c =
    let short : is_too_long c.args.text ≡ false = first_of (search rules, grind (arith, common_steps)) in
    let value : c.in_ok-moving.field-0 ≡ moving_of c.args.text = first_of (search rules, grind (arith, common_steps)) in
    reads_input is_too_long moving_of c.args.text c.in-Ok.moving short (sym value ∙ c.in-Ok.is)

pub returns-in-Ok-clause-sound : goal.returns-in-Ok-clause-sound
returns-in-Ok-clause-sound c =
    let short : is_too_long c.args.text ≡ false = first_of (search rules, grind (arith, common_steps)) in
    let value : c.in_ok-moving.field-0 ≡ moving_of c.args.text = first_of (search rules, grind (arith, common_steps)) in
    record {
      formed = is_formed c.in_ok-moving.field-0 c.in-Ok.moving c.in-Ok.is c.in_ok-moving.ensures.sound;
      short = short_trace c.args.text c.in-Ok.moving short (sym value ∙ c.in-Ok.is);
    }
