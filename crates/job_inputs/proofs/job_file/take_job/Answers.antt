use Rattle.std.proofs.Common.{◌≡◌, ◌∙◌, ◌+◌, Ok, Err, arith, ap, length, take}
use Rattle.std.proofs.lemmas.List.{take_at}
use Rattle.summary_spec.specs.Job.{declared_of}
use Rattle.summary_spec.specs.Reads.{most_bytes}
use Rattle.job_inputs.proofs.Filling.{reads_whole, taken_in_room}
use Rattle.job_inputs.proofs.job_file.take_job.Goals as goal

pub returns-in-Ok-read-clause-ends : goal.returns-in-Ok-read-clause-ends
returns-in-Ok-read-clause-ends g c = record {
  faults = c.in-Ok-fill.ensures.faults;
  said = (take c.in-Ok-fill.len c.deref.result.now, c.in-Ok-read.ensures);
  declares = λ told.
      let long : length c.fill.new.buffer ≡ c.in-Ok.buffer.len = omega (arith, c.in-Ok.ensures.len, c.as_mut_slice.ensures.len, c.fill.auto.buffer) in
      let same : c.deref.result.now ≡ c.fill.new.buffer = c.deref.ensures.value ∙ take_at c.fill.new.buffer _ c.in-Ok.buffer.len long in
      let room : length c.as_mut_slice.result.now ≡ most_bytes + 1 = omega (arith, c.in-Ok.ensures.len, c.as_mut_slice.ensures.len) in
      reads_whole (length c.as_mut_slice.result.now) (take c.in-Ok-fill.len c.deref.result.now) (g.S.Source.seen c.args.source.now).whole (Ok (declared_of c.in-Ok-read.job)) room
      (ap (take c.in-Ok-fill.len) same ∙ c.in-Ok-fill.ensures.front told) c.in-Ok-read.ensures;
}

pub returns-in-Err-Bad-clause-ends : goal.returns-in-Err-Bad-clause-ends
returns-in-Err-Bad-clause-ends g c = (
  c.in-Ok-fill.ensures.faults,
  λ told.
      let long : length c.fill.new.buffer ≡ c.in-Ok.buffer.len = omega (arith, c.in-Ok.ensures.len, c.as_mut_slice.ensures.len, c.fill.auto.buffer) in
      let same : c.deref.result.now ≡ c.fill.new.buffer = c.deref.ensures.value ∙ take_at c.fill.new.buffer _ c.in-Ok.buffer.len long in
      let room : length c.as_mut_slice.result.now ≡ most_bytes + 1 = omega (arith, c.in-Ok.ensures.len, c.as_mut_slice.ensures.len) in
      reads_whole (length c.as_mut_slice.result.now) (take c.in-Ok-fill.len c.deref.result.now) (g.S.Source.seen c.args.source.now).whole (Err c.in-Err-Bad.fault) room
      (ap (take c.in-Ok-fill.len) same ∙ c.in-Ok-fill.ensures.front told) (rw c.in-Err-Bad.field-0-is at c.in-Err-Bad.ensures),
)

pub returns-in_default-fill-clause-most : goal.returns-in_default-fill-clause-most
returns-in_default-fill-clause-most g c =
    taken_in_room (length c.as_mut_slice.result.now) 1048577 (g.S.Source.seen c.args.source.now) (g.S.Source.seen c.fill.new.source)
    (omega (arith, c.in-Ok.ensures.len, c.as_mut_slice.ensures.len)) c.fill.ensures.most

pub returns-in-Ok-read-clause-most : goal.returns-in-Ok-read-clause-most
returns-in-Ok-read-clause-most g c =
    taken_in_room (length c.as_mut_slice.result.now) 1048577 (g.S.Source.seen c.args.source.now) (g.S.Source.seen c.fill.new.source)
    (omega (arith, c.in-Ok.ensures.len, c.as_mut_slice.ensures.len)) c.fill.ensures.most

pub returns-in-Err-Bad-clause-most : goal.returns-in-Err-Bad-clause-most
returns-in-Err-Bad-clause-most g c =
    taken_in_room (length c.as_mut_slice.result.now) 1048577 (g.S.Source.seen c.args.source.now) (g.S.Source.seen c.fill.new.source)
    (omega (arith, c.in-Ok.ensures.len, c.as_mut_slice.ensures.len)) c.fill.ensures.most

pub returns-clause-most : goal.returns-clause-most
returns-clause-most g c =
    taken_in_room (length c.as_mut_slice.result.now) 1048577 (g.S.Source.seen c.args.source.now) (g.S.Source.seen c.fill.new.source)
    (omega (arith, c.in-Ok.ensures.len, c.as_mut_slice.ensures.len)) c.fill.ensures.most

pub returns-clause-ends : goal.returns-clause-ends
returns-clause-ends g c = c.in-Ok-fill.ensures.faults
