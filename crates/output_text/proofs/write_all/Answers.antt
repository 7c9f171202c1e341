use Rattle.std.proofs.Common.{◌∙◌, ◌-◌, length, arith, drop, length-drop, length-take}
use Rattle.output_text.proofs.Gaining.{gains_front, one_piece_more}
use Rattle.output_text.proofs.write_all.Goals as goal

pub returns-in_err-written-clause-prefix : goal.returns-in_err-written-clause-prefix
returns-in_err-written-clause-prefix g c told =
    gains_front _ _ c.args.text.now c.pieces.written
    (c.in_err-written.ensures.failed (rw c.pieces.invariant.stays.told told) ∙ c.pieces.invariant.taken told)

pub pieces-preserved : goal.pieces-preserved
pieces-preserved g c = record {
  within = omega (arith, c.in_ok-written.ensures.within, length-take (length c.args.text.now - c.pieces.written) (drop c.pieces.written c.args.text.now), length-drop c.pieces.written c.args.text.now);
  stays = record { told = c.in_ok-written.ensures.stays.told ∙ c.pieces.invariant.stays.told; label = c.in_ok-written.ensures.stays.label ∙ c.pieces.invariant.stays.label };
  faults = c.in_ok-written.ensures.faults ∙ c.pieces.invariant.faults;
  taken = λ told. one_piece_more _ _ _ c.args.text.now c.pieces.written c.in_ok-written.field-0 (c.pieces.invariant.taken told) (c.in_ok-written.ensures.appended (rw c.pieces.invariant.stays.told told));
}
