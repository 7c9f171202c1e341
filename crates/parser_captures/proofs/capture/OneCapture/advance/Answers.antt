use Rattle.std.proofs.Common.{ℕ, List, refl, ap, sym, subst, ◌∙◌, ◌++◌, arith, inl}
use Rattle.key_select.specs.Tally.{capture_of}
use Rattle.key_select.specs.Wanted.{wanted_of}
use Rattle.pcap_reader.specs.Lent.{captured}
use Rattle.summary_spec.specs.Job.{declared_of}
use Rattle.parser_captures.specs.Captures.{reading_of}
use Rattle.parser_captures.proofs.Starting.{from_reader}
use Rattle.parser_captures.proofs.Taking.{record_taken, stays_as, untold}
use Rattle.parser_captures.specs.declared.capture.OneCapture.{OneCapture}
use Rattle.parser_captures.proofs.capture.OneCapture.advance.Goals as goal

pub returns-in-Ok-Some-clause-ends : goal.returns-in-Ok-Some-clause-ends
returns-in-Ok-Some-clause-ends g c =
    let job = declared_of c.args.job.now in
    let old = c.args.self.now in
    let h = c.requires.stands in
    let gives = rw (c.in-Ok-Some.is, c.in-Ok-Some.field-0-is) at c.next.follows.holds-at-none in (
      refl,
      record_taken job old _ (captured c.in-Ok-Some.r) c.take_up.result h gives.0 gives.1
          (c.take_up.ensures.tallies (capture_of old.tally) (reading_of job old).records h.tallies)
          (c.take_up.ensures.accepted (capture_of old.tally) (reading_of job old).records h.tallies)
          c.take_up.ensures.capture c.take_up.ensures.records refl refl refl (rw c.in-Ok-Some.field-0-is at c.in-Ok-Some.ensures.lawful),
    )

pub returns-in-Err-clause-ends : goal.returns-in-Err-clause-ends
returns-in-Err-clause-ends g c =
    let job = declared_of c.args.job.now in
    let old = c.args.self.now in
    let h = c.requires.stands in
    let own : ℕ = capture_of old.tally in
    let gives = rw c.in-Err.is at c.next.follows.holds-at-none in
    let rs = (reading_of job old).records in (
      refl,
      stays_as job old _ h refl refl refl gives.1 gives.0.held (gives.0.stands (wanted_of job own) old.bytes.items rs h.stands),
      inl (λ more. gives.0.bad (wanted_of job own) old.bytes.items rs h.stands more),
      c.requires.left,
      λ ended. untold _ (sym c.requires.going ∙ ended),
    )

pub returns-in-Ok-None-clause-ends : goal.returns-in-Ok-None-clause-ends
returns-in-Ok-None-clause-ends g c =
    let job = declared_of c.args.job.now in
    let old = c.args.self.now in
    let h = c.requires.stands in
    let own : ℕ = capture_of old.tally in
    let gives = rw (c.in-Ok-None.is, c.in-Ok-None.field-0-is) at c.next.follows.holds-at-none in
    let rs = (reading_of job old).records in
    let mid : OneCapture = record old { reading = c.next.follows.lender-at-none } in
    let stays = stays_as job old mid h refl refl refl gives.1 gives.0.held (gives.0.stands (wanted_of job own) old.bytes.items rs h.stands) in
    from_reader job old c.read_on.new.self c.next.follows.lender-at-none _ _ c.read_on.result (c.read_on.ensures.ends job stays.stands)
