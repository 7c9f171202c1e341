use Rattle.std.proofs.Common.{ℕ, List, refl, ap, ◌∙◌}
use Rattle.input_files.specs.Reading.{HasRead}
use Rattle.key_select.specs.Fates.{counts_of}
use Rattle.key_select.specs.Tally.{capture_of, records_taken}
use Rattle.key_select.specs.Wanted.{wanted_of}
use Rattle.pcap_reader.proofs.Giving.{waiting_has_all}
use Rattle.pcap_reader.specs.Captured.{Captured}
use Rattle.parser_captures.specs.Captures.{first_records}
use Rattle.parser_captures.proofs.Taking.{silent, untold}
use Rattle.parser_captures.proofs.capture.OneCapture.finish.Goals as goal

pub returns-in-Ok-clause-ends : goal.returns-in-Ok-clause-ends
returns-in-Ok-clause-ends c job h =
    let own : ℕ = capture_of c.args.self.now.tally in
    let bytes : List ℕ = c.args.self.now.bytes.items in
    let rs : List Captured = first_records job own bytes (records_taken c.args.self.now.tally) in
    let read : HasRead (wanted_of job own) c.args.self.now.reading silent bytes rs = record { stands = h.stands; front = λ told. untold _ told } in
    let whole = c.in-Ok.ensures.whole (wanted_of job own) silent bytes rs read in
    let all = waiting_has_all (wanted_of job own) c.args.self.now.reading.reader bytes rs c.requires.waiting h.stands in (
      record { ended = refl; sound = whole.0; records = all.0 },
      c.counts.ensures job own rs h.tallies ∙ ap (counts_of job own rs) whole.2,
    )

pub returns-in-Err-clause-ends : goal.returns-in-Err-clause-ends
returns-in-Err-clause-ends c job h =
    let own : ℕ = capture_of c.args.self.now.tally in
    let bytes : List ℕ = c.args.self.now.bytes.items in
    let rs : List Captured = first_records job own bytes (records_taken c.args.self.now.tally) in
    (c.in-Err.ensures.short (wanted_of job own) silent bytes rs (record { stands = h.stands; front = λ told. untold _ told })).0
