-- A job that fits is stale where the object's cells are others than its own; else its step is that of the body.
use Rattle.std.proofs.Common.{◌≡◌, sym, ◌∙◌}
use Rattle.std.specs.Prelude.{true, false}
use Rattle.com_runtime.specs.Jobs.{kept_in}
use Rattle.com_core.specs.Seen.{kept_of, core_state}
use Rattle.com_core.proofs.Whole.{body_whole}
use Rattle.com_core.proofs.Worked.{body_read, given_step, given_whole, kept_same, unlike}
use Rattle.com_core.proofs.running.Running.commit.Goals as goal

pub returns-then-not-same_cells-clause-refused : goal.returns-then-not-same_cells-clause-refused
returns-then-not-same_cells-clause-refused c =
    let s = c.args.scenario.now in
    let r = c.args.self.now in
    let k : c.cells_of-kept.result ≡ kept_in (core_state (kept_of s r)) c.args.lane = c.cells_of-kept.ensures ∙ kept_same s r c.args.lane in
    let n : c.same_cells.result ≡ false = cc (c.if-not-same_cells.true) in
    (k, λ e. unlike c.same_cells.result c.same_cells.ensures n (e ∙ sym k))

pub returns-in-Ok-clause-fresh : goal.returns-in-Ok-clause-fresh
returns-in-Ok-clause-fresh c =
    let y : c.same_cells.result ≡ true = cc (c.if-not-same_cells.false) in
    c.same_cells.ensures.0 y ∙ c.cells_of-kept.ensures ∙ kept_same c.args.scenario.now c.args.self.now c.args.lane

pub returns-in-Err-clause-refused : goal.returns-in-Err-clause-refused
returns-in-Err-clause-refused c =
    let y : c.same_cells.result ≡ true = cc (c.if-not-same_cells.false) in
    c.same_cells.ensures.0 y ∙ c.cells_of-kept.ensures ∙ kept_same c.args.scenario.now c.args.self.now c.args.lane

pub take-requires-clause-body : goal.take-requires-clause-body
take-requires-clause-body c = body_read c.args.scenario.now c.args.self.now c.args.lane c.requires.fits.body

pub take-requires-clause-step : goal.take-requires-clause-step
take-requires-clause-step c =
    let s = c.args.scenario.now in
    let r = c.args.self.now in
    let l = c.args.lane in
    let y : c.same_cells.result ≡ true = cc (c.if-not-same_cells.false) in
    let fresh : c.args.job.cells ≡ kept_in (core_state (kept_of s r)) l = c.same_cells.ensures.0 y ∙ c.cells_of-kept.ensures ∙ kept_same s r l in
    given_step s r l c.args.job c.args.outcome c.requires.fits fresh c.requires.outcome

pub take-requires-clause-whole : goal.take-requires-clause-whole
take-requires-clause-whole c =
    let s = c.args.scenario.now in
    let r = c.args.self.now in
    let l = c.args.lane in
    let y : c.same_cells.result ≡ true = cc (c.if-not-same_cells.false) in
    let fresh : c.args.job.cells ≡ kept_in (core_state (kept_of s r)) l = c.same_cells.ensures.0 y ∙ c.cells_of-kept.ensures ∙ kept_same s r l in
    given_whole s r l c.args.job c.args.outcome (body_whole r.parts.scene c.requires.sound.bodies) c.requires.fits fresh c.requires.outcome
