use Rattle.std.proofs.Common.{◌≡◌, ◌≤◌, ◌∙◌, ◌++◌, ◌-◌, sym, ap, arith, take, drop, length, append_assoc, length-take, length-drop}
use borrow.Rule.Slice.PartMut.{same_len_mid}
use Rattle.job_inputs.proofs.Filling.{one_read_more}
use Rattle.job_inputs.proofs.job_file.fill.Goals as goal

pub returns-in_err-n-clause-most : goal.returns-in_err-n-clause-most
returns-in_err-n-clause-most g c told = (
  take c.pieces.len c.pieces.buffer,
  c.pieces.invariant.taken told ∙ ap (λ xs. take c.pieces.len c.pieces.buffer ++ xs) (sym (c.in_err-n.ensures.failed (rw c.pieces.invariant.stays.told told))),
  omega (arith, c.pieces.invariant.within, length-take c.pieces.len c.pieces.buffer),
)

pub pieces-preserved : goal.pieces-preserved
pieces-preserved g c =
    let len = c.pieces.len in
    let old = c.pieces.buffer in
    let piece = c.read.new.buf in
    let n = c.in_ok-n.n in
    let offered : length piece ≡ length old - len = omega (arith, c.read.auto.buf, length-take (length old - len) (drop len old), length-drop len old) in
    let fits : n ≤ length old - len = omega (arith, c.in_ok-n.ensures.within, length-take (length old - len) (drop len old), length-drop len old) in
    record {
      within = omega (arith, fits, c.pieces.invariant.long, c.pieces-test.true);
      long = same_len_mid len (length old - len) old piece (omega (arith, c.read.auto.buf)) ∙ c.pieces.invariant.long;
      stays = record {
        told = c.in_ok-n.ensures.stays.told ∙ c.pieces.invariant.stays.told;
        whole = λ told. c.in_ok-n.ensures.stays.whole (rw c.pieces.invariant.stays.told told) ∙ c.pieces.invariant.stays.whole told;
      };
      faults = c.in_ok-n.ensures.faults ∙ c.pieces.invariant.faults;
      taken = λ told.
          let left = (g.S.Source.seen c.read.new.self).left in
          c.pieces.invariant.taken told ∙ ap (λ xs. take len old ++ xs) (c.in_ok-n.ensures.moved (rw c.pieces.invariant.stays.told told))
          ∙ sym (append_assoc (take len old) (take n piece) left)
          ∙ ap (λ xs. xs ++ left) (sym (one_read_more old piece len (length old - len) n (omega (arith, c.pieces-test.true)) (omega (arith, offered, fits))));
    }
