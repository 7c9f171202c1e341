use Rattle.std.proofs.Common.{ℕ, List, Option, ◌∙◌, ◌++◌, sym, subst}
use Rattle.input_files.specs.Reading.{Reading}
use Rattle.key_select.specs.Wanted.{wanted_of}
use Rattle.key_select.specs.Tally.{capture_of}
use Rattle.pcap_reader.specs.Captured.{Captured}
use Rattle.pcap_reader.specs.Reader.{IsWaiting}
use Rattle.summary_spec.specs.Job.{declared_of}
use Rattle.job_inputs.specs.Gathering.{Collects}
use Rattle.job_inputs.proofs.Records.{stays_twice, more_read, end_read, end_whole, bad_read}
use Rattle.job_inputs.proofs.gather.gather_records.Goals as goal

pub records-smaller : goal.records-smaller
records-smaller g c =
    let more = (rw c.in-Ok-More.field-0-is at c.in-Ok-More.ensures.ends).1 in
    let gives = (rw (c.in-Ok-None.is, c.in-Ok-None.field-0-is) at c.next.follows.holds-at-none).0 in
    more.less c.records.reading gives.fed

pub records-preserved : goal.records-preserved
records-preserved g c =
    let inv = c.records.invariant in
    let wanted : Option ℕ = wanted_of (declared_of c.args.job.now) (capture_of c.args.tally.now) in
    let t = inv.taken in
    let read = rw c.in-Ok-More.field-0-is at c.in-Ok-More.ensures.ends in
    let more = read.1 in
    let gives = (rw (c.in-Ok-None.is, c.in-Ok-None.field-0-is) at c.next.follows.holds-at-none).0 in
    record {
      stays = stays_twice _ _ _ inv.stays c.read.ensures.stays;
      faults = read.0 ∙ inv.faults;
      taken = (t.0 ++ more.piece, t.1, more_read wanted c.records.reading _ _ _ _ t.0 t.1 gives more t.2, t.3);
      given = inv.given ∙ sym (more.given ∙ gives.given);
      capture = inv.capture;
    }

pub returns-in-Ok-End-clause-ends : goal.returns-in-Ok-End-clause-ends
returns-in-Ok-End-clause-ends g c =
    let inv = c.records.invariant in
    let job = declared_of c.args.job.now in
    let capture : ℕ = capture_of c.args.tally.now in
    let wanted : Option ℕ = wanted_of job capture in
    let t = inv.taken in
    let read = rw c.in-Ok-End.field-0-is at c.in-Ok-End.ensures.ends in
    let gives = (rw (c.in-Ok-None.is, c.in-Ok-None.field-0-is) at c.next.follows.holds-at-none).0 in
    let C : List Captured → Type 0 = λ rs. Collects job capture c.records.tally c.args.accepted.now.items c.records.accepted.items rs in
    let W : Reading → Type 0 = λ r. IsWaiting r.reader in
    record {
      faults = read.0 ∙ inv.faults;
      waiting = subst W (sym read.1.same) gives.waiting;
      given = t.0;
      read = end_read wanted c.records.reading _ _ _ _ t.0 t.1 gives read.1 t.2;
      collects = subst C (sym (gives.all wanted t.0 t.1 t.2.stands)) t.3;
      whole = end_whole wanted c.records.reading _ _ _ _ _ t.0 t.1 gives read.1 t.2 inv.stays;
    }

pub returns-in-Err-clause-ends : goal.returns-in-Err-clause-ends
returns-in-Err-clause-ends g c =
    let inv = c.records.invariant in
    let wanted : Option ℕ = wanted_of (declared_of c.args.job.now) (capture_of c.args.tally.now) in
    let t = inv.taken in
    let gives = (rw c.in-Err.is at c.next.follows.holds-at-none).0 in
    (inv.faults, λ told. bad_read wanted c.records.reading _ c.in-Err.bad _ _ t.0 t.1 gives t.2 inv.stays told)
