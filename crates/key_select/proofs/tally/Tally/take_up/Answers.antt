use Rattle.std.proofs.Common.{◌≡◌, ◌∷◌, [], None, Some, false, true, sym, ap, ◌∙◌, arith}
use Rattle.pcap_reader.specs.Lent.{captured}
use Rattle.summary_spec.specs.Job.{declared_of}
use Rattle.key_select.specs.Sum.{sum_at}
use Rattle.key_select.specs.Fates.{Unmatched, Late, Accepted, summaries_of}
use Rattle.key_select.proofs.Tallying.{tallies_more, time_here, fate_here}
use Rattle.key_select.proofs.tally.Tally.take_up.Goals as goal

pub returns-in_default-clause-tallies : goal.returns-in_default-clause-tallies
returns-in_default-clause-tallies c capture taken h =
    let job = declared_of c.args.job.now in
    let r = captured c.args.r.now in
    let time = c.moved-time.result in
    let here = time_here job capture c.args.self.now taken r time h c.moved-time.ensures.value in
    let none : sum_at job c.args.self.now.capture time r ≡ None = sym c.select_at-found.ensures ∙ c.in_default.is in
    tallies_more job capture c.args.self.now _ taken r time Unmatched h here
    (fate_here job capture c.args.self.now taken r time None c.is_late-late.result h here none (sym c.is_late-late.ensures))
    record {
      capture = c.pass.ensures.0;
      records = c.pass.ensures.1;
      unmatched = omega (arith, c.pass.ensures.2);
      late = omega (arith, c.pass.ensures.3);
      accepted = omega (arith, c.pass.ensures.4);
      newest = c.pass.ensures.5;
      offset = c.pass.ensures.6;
      skew = c.pass.ensures.7;
    }

pub returns-in_default-clause-accepted : goal.returns-in_default-clause-accepted
returns-in_default-clause-accepted c capture taken h =
    let job = declared_of c.args.job.now in
    let r = captured c.args.r.now in
    let time = c.moved-time.result in
    let here = time_here job capture c.args.self.now taken r time h c.moved-time.ensures.value in
    let none : sum_at job c.args.self.now.capture time r ≡ None = sym c.select_at-found.ensures ∙ c.in_default.is in
    ap (λ fate. summaries_of (fate ∷ []))
    (fate_here job capture c.args.self.now taken r time None c.is_late-late.result h here none (sym c.is_late-late.ensures))

pub returns-then-late-clause-tallies : goal.returns-then-late-clause-tallies
returns-then-late-clause-tallies c capture taken h =
    let job = declared_of c.args.job.now in
    let r = captured c.args.r.now in
    let time = c.moved-time.result in
    let here = time_here job capture c.args.self.now taken r time h c.moved-time.ensures.value in
    let one : sum_at job c.args.self.now.capture time r ≡ Some c.in-Some.summary = sym c.select_at-found.ensures ∙ c.in-Some.is in
    tallies_more job capture c.args.self.now _ taken r time Late h here
    (fate_here job capture c.args.self.now taken r time (Some c.in-Some.summary) true h here one (sym c.is_late-late.ensures ∙ c.if-late.true))
    record {
      capture = c.pass.ensures.0;
      records = c.pass.ensures.1;
      unmatched = omega (arith, c.pass.ensures.2);
      late = omega (arith, c.pass.ensures.3);
      accepted = omega (arith, c.pass.ensures.4);
      newest = c.pass.ensures.5;
      offset = c.pass.ensures.6;
      skew = c.pass.ensures.7;
    }

pub returns-then-late-clause-accepted : goal.returns-then-late-clause-accepted
returns-then-late-clause-accepted c capture taken h =
    let job = declared_of c.args.job.now in
    let r = captured c.args.r.now in
    let time = c.moved-time.result in
    let here = time_here job capture c.args.self.now taken r time h c.moved-time.ensures.value in
    let one : sum_at job c.args.self.now.capture time r ≡ Some c.in-Some.summary = sym c.select_at-found.ensures ∙ c.in-Some.is in
    ap (λ fate. summaries_of (fate ∷ []))
    (fate_here job capture c.args.self.now taken r time (Some c.in-Some.summary) true h here one (sym c.is_late-late.ensures ∙ c.if-late.true))

pub returns-clause-tallies : goal.returns-clause-tallies
returns-clause-tallies c capture taken h =
    let job = declared_of c.args.job.now in
    let r = captured c.args.r.now in
    let time = c.moved-time.result in
    let here = time_here job capture c.args.self.now taken r time h c.moved-time.ensures.value in
    let one : sum_at job c.args.self.now.capture time r ≡ Some c.in-Some.summary = sym c.select_at-found.ensures ∙ c.in-Some.is in
    tallies_more job capture c.args.self.now _ taken r time (Accepted c.in-Some.summary) h here
    (fate_here job capture c.args.self.now taken r time (Some c.in-Some.summary) false h here one (sym c.is_late-late.ensures ∙ c.if-late.false))
    record {
      capture = c.pass.ensures.0;
      records = c.pass.ensures.1;
      unmatched = omega (arith, c.pass.ensures.2);
      late = omega (arith, c.pass.ensures.3);
      accepted = omega (arith, c.pass.ensures.4);
      newest = c.pass.ensures.5;
      offset = c.pass.ensures.6;
      skew = c.pass.ensures.7;
    }

pub returns-clause-accepted : goal.returns-clause-accepted
returns-clause-accepted c capture taken h =
    let job = declared_of c.args.job.now in
    let r = captured c.args.r.now in
    let time = c.moved-time.result in
    let here = time_here job capture c.args.self.now taken r time h c.moved-time.ensures.value in
    let one : sum_at job c.args.self.now.capture time r ≡ Some c.in-Some.summary = sym c.select_at-found.ensures ∙ c.in-Some.is in
    ap (λ fate. summaries_of (fate ∷ []))
    (fate_here job capture c.args.self.now taken r time (Some c.in-Some.summary) false h here one (sym c.is_late-late.ensures ∙ c.if-late.false))
