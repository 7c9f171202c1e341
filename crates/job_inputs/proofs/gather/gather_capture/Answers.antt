use Rattle.std.proofs.Common.{ℕ, List, Option, [], sym, ap, subst, ◌∙◌}
use Rattle.std.proofs.lemmas.List.{append-nil}
use Rattle.input_files.specs.Reading.{HasRead}
use Rattle.key_select.specs.Fates.{counts_of}
use Rattle.key_select.specs.Wanted.{wanted_of, good_of}
use Rattle.summary_spec.specs.Job.{declared_of}
use Rattle.job_inputs.specs.Gathering.{Collects, IsReadWhole}
use Rattle.job_inputs.proofs.gather.gather_capture.Goals as goal

pub gather_records-requires-clause-unread : goal.gather_records-requires-clause-unread
gather_records-requires-clause-unread g c =
    let job = declared_of c.args.job.now in
    let seen = g.S.Source.seen c.args.source.now in
    let P : ℕ → Type 0 = λ capture. HasRead (wanted_of job capture) c.in-Ok.reading seen [] [] in
    let W : Option ℕ → Type 0 = λ wanted. HasRead wanted c.in-Ok.reading seen [] [] in
    subst P (sym c.new-tally.ensures.capture) (subst W c.wanted_of.ensures (c.in-Ok.ensures.none seen c.requires.fresh))

pub gather_records-requires-clause-untaken : goal.gather_records-requires-clause-untaken
gather_records-requires-clause-untaken g c =
    let job = declared_of c.args.job.now in
    let P : ℕ → Type 0 = λ capture. Collects job capture c.new-tally.result c.args.accepted.now.items c.args.accepted.now.items [] in
    subst P (sym c.new-tally.ensures.capture) record { tallies = c.new-tally.ensures.tallies; accepted = sym (append-nil c.args.accepted.now.items) }

pub returns-in-Ok-finish-clause-ends : goal.returns-in-Ok-finish-clause-ends
returns-in-Ok-finish-clause-ends g c =
    let seen = g.S.Source.seen in
    let P : ℕ → Type 0 = λ capture. IsReadWhole (declared_of c.args.job.now) capture (seen c.args.source.now) (seen c.gather_records.new.source)
    c.gather_records.new.reading c.gather_records.new.tally c.args.accepted.now.items c.gather_records.new.accepted.items in
    let read = subst P c.new-tally.ensures.capture c.in_ok-gather_records.ensures.ends in
    let job = declared_of c.args.job.now in
    let records = (good_of job c.args.capture read.given).records in
    let whole = c.in-Ok-finish.ensures.whole (wanted_of job c.args.capture) (g.S.Source.seen c.gather_records.new.source) read.given records read.read in
    record {
      faults = read.faults;
      given = read.given;
      all = record {
        sound = whole.0;
        accepted = read.collects.accepted;
        counts = c.counts.ensures job c.args.capture records read.collects.tallies
            ∙ ap (counts_of job c.args.capture records) whole.2;
      };
      whole = read.whole;
    }

pub returns-clause-ends : goal.returns-clause-ends
returns-clause-ends g c =
    let seen = g.S.Source.seen in
    let job = declared_of c.args.job.now in
    let P : ℕ → Type 0 = λ capture. IsReadWhole job capture (seen c.args.source.now) (seen c.gather_records.new.source)
    c.gather_records.new.reading c.gather_records.new.tally c.args.accepted.now.items c.gather_records.new.accepted.items in
    let read = subst P c.new-tally.ensures.capture c.in_ok-gather_records.ensures.ends in
    let short = c.in-Err.ensures.short (wanted_of job c.args.capture) (seen c.gather_records.new.source) read.given (good_of job c.args.capture read.given).records read.read in
    (read.faults, λ told. ap (λ (file : List ℕ). (good_of job c.args.capture file).bad) (read.whole told) ∙ short.0)
