-- What a servant computes for a job.
use Rattle.std.specs.Prelude.{◌≡◌, ℕ, Option, Some}
use Rattle.std.specs.Option.{option_map}
use Rattle.com_body.specs.declared.frame.Native.{Native}
use Rattle.com_body.specs.declared.frame.Job.{Job}
use Rattle.com_body.specs.declared.frame.Outcome.{Outcome}
use Rattle.com_body.specs.BodySteps.{body_step}
use Rattle.com_classes.specs.Tables.{Tables}
use Rattle.com_classes.specs.Lookups.{class_at, body_of}

-- The kind of servant that steps the bodies of a class.
abbrev pub native_at : Tables → ℕ → Option Native
native_at t class = option_map (λ k. k.native) (class_at t class)

-- A job is of its class where its kind is that of the class.
abbrev pub IsOfItsClass : Tables → Job → Type 0
IsOfItsClass t job = native_at t job.class ≡ Some job.kind

-- The body step of a job, on the body that its class gives for the method.
abbrev pub job_step : Tables → Job → Outcome
job_step t job = body_step (body_of t job.class job.iface job.method) job.frame job.cells
