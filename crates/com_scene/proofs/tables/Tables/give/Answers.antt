-- A body and a script are given what the writes say.
use Rattle.std.proofs.Common.{◌∙◌}
use Rattle.com_scene.specs.Seen.{seen}
use Rattle.com_scene.proofs.GiveLemmas.{given_to_body, given_to_script}
use Rattle.com_scene.proofs.tables.Tables.give.Goals as goal

pub returns-in-Body : goal.returns-in-Body
returns-in-Body c =
    c.give_body.ensures ∙ given_to_body c.args.after c.in-Body.call c.in-Body.object (seen c.args.self.now) c.args.hr c.args.to c.args.value c.in-Body.is

pub returns-in-Script : goal.returns-in-Script
returns-in-Script c =
    c.give_script.ensures ∙ given_to_script c.args.after c.in-Script.lane (seen c.args.self.now) c.args.hr c.args.to c.args.value c.in-Script.is
