-- An end is sure of the bytes that it has seen: those are taken first.
use Rattle.std.proofs.Common.{rules, arith}
use Rattle.byte_rings.proofs.Known.{known_or_taken}
use Rattle.byte_rings.proofs.receiving.RingRxNamedRx.receive.Goals as goal

pub returns-clause-steps : goal.returns-clause-steps
returns-clause-steps c =
    let known = c.pop_partial_slice-count.ensures.known in
    let sure = known_or_taken _ known.0 _ c.pop_partial_slice-count.new.slice c.pop_partial_slice-count.result known.1 in
    record {
      told = search rules;
      within = omega arith;
      bytes = λ _. search rules;
      faults = search rules;
      heard = search rules;
      silent = search rules;
      unasked = λ e. c.heard-self.ensures.unasked (omega arith) (omega arith);
      none_sure = λ none asked. omega arith;
      sure = sure;
    }
