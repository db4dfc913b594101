-- A step keeps how many slots a frame has.
use Rattle.std.proofs.Common.{ap, ◌∙◌, length}
use Rattle.com_body.specs.declared.frame.Job.{Job}
use Rattle.com_classes.specs.Tables.{Tables}
use Rattle.com_classes.specs.Lookups.{body_of}
use Rattle.com_servant.specs.Steps.{job_step}
use Rattle.com_scene.specs.Kept.{HasSlots}
use Rattle.com_turns.proofs.BodyLemmas.{step_slots}

pub job_whole : (t : Tables) (job : Job) → HasSlots job.frame → HasSlots (job_step t job).frame
job_whole t job h = ap (λ (xs : _). length xs) (step_slots (body_of t job.class job.iface job.method) job.frame job.cells) ∙ h
