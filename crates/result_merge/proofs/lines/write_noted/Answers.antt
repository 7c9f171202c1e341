-- One piece more was taken and noted.
use Rattle.std.proofs.Common.{ℕ, List, ◌≡◌, ◌≤◌, ◌+◌, ◌-◌, ◌++◌, ◌∙◌, length, take, drop, ap, arith, length-drop, length-take}
use Rattle.output_text.proofs.Gaining.{one_piece_more}
use Rattle.result_merge.proofs.Writing.{noted_more}
use Rattle.result_merge.proofs.lines.write_noted.Goals as goal

same : (w n : ℕ) → w + n - w ≡ n
same w n = omega arith

pub pieces-preserved : goal.pieces-preserved
pieces-preserved g c =
    let within : c.pieces.written + c.in-Ok.count ≤ length c.args.text.now = (omega (arith, c.in-Ok.ensures.within, length-take (length c.args.text.now - c.pieces.written) (drop c.pieces.written c.args.text.now), length-drop c.pieces.written c.args.text.now)) in
    record {
      within = within;
      stays = record { told = c.in-Ok.ensures.stays.told ∙ c.pieces.invariant.stays.told; label = c.in-Ok.ensures.stays.label ∙ c.pieces.invariant.stays.label };
      faults = c.in-Ok.ensures.faults ∙ c.pieces.invariant.faults;
      noted =
          c.and_all.ensures
          ∙ ap (λ (k : ℕ). c.pieces.gained.items ++ take k (drop c.pieces.written c.args.text.now)) (same c.pieces.written c.in-Ok.count)
          ∙ ap (λ (xs : List ℕ). xs ++ take c.in-Ok.count (drop c.pieces.written c.args.text.now)) c.pieces.invariant.noted
          ∙ noted_more c.args.gained.now.items c.args.text.now c.pieces.written c.in-Ok.count;
      taken = λ told. one_piece_more _ _ _ c.args.text.now c.pieces.written c.in-Ok.count (c.pieces.invariant.taken told) (c.in-Ok.ensures.appended (rw c.pieces.invariant.stays.told told));
    }
