-- A turn of the loop hands on a part of what is gathered.
use Rattle.std.proofs.Common.{◌≡◌, ℕ, List, ap, arith, drop, length, subst, take, ◌∙◌}
use Rattle.std.proofs.lemmas.List.{length-drop}
use Rattle.com_io.specs.Told.{Gains}
use Rattle.com_pieces.proofs.Gathering.{handed_more}
use Rattle.com_pieces.proofs.kept.hand_on.Goals as goal

pub pieces-preserved : goal.pieces-preserved
pieces-preserved g c =
    let xs = c.split_at.result.0.now in
    let rest : c.split_at-in-pieces.result.1.now ≡ drop c.pieces.at xs = c.split_at-in-pieces.ensures.back in
    record {
      within = let w = c.in_ok-count.ensures.within in let n = ap length rest in let k = length-drop c.pieces.at xs in let h = c.pieces.invariant.within in omega (arith, w, n, k, h);
      same = handed_more _ _ xs c.pieces.at c.in_ok-count.count
          (subst (λ (r : List ℕ). Gains (g.K.Sink.held c.pieces.sink) (g.K.Sink.held c.write.new.self) (take c.in_ok-count.count r)) rest c.in_ok-count.ensures.taken)
          ∙ c.pieces.invariant.same;
      counts = let k = c.in_ok-count.ensures.counts in let h = c.pieces.invariant.counts in omega (arith, k, h);
    }
