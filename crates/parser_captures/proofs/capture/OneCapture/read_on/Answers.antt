use Rattle.std.proofs.Common.{ℕ, List, refl, ap, sym, subst, ◌∙◌, ◌++◌, arith}
use Rattle.input_files.specs.Reading.{Reading, HasRead}
use Rattle.key_select.specs.Tally.{capture_of}
use Rattle.key_select.specs.Wanted.{wanted_of}
use Rattle.pcap_reader.specs.Reader.{bytes_held}
use Rattle.parser_captures.specs.Captures.{reading_of}
use Rattle.parser_captures.proofs.Taking.{more_read, stays_as}
use Rattle.parser_captures.proofs.capture.OneCapture.read_on.Goals as goal

pub returns-in-Ok-More-clause-ends : goal.returns-in-Ok-More-clause-ends
returns-in-Ok-More-clause-ends g c job h =
    let read = rw c.in-Ok-More.field-0-is at c.in-Ok-More.ensures.ends in
    (read.0, more_read job c.args.self.now _ _ _ (read.1).0 h c.requires.left c.requires.fed c.requires.short (read.1).1 refl refl refl)

pub returns-in-Err-Unread-clause-ends : goal.returns-in-Err-Unread-clause-ends
returns-in-Err-Unread-clause-ends g c job h =
    let own : ℕ = capture_of c.args.self.now.tally in
    let stop = rw c.in-Err-Unread.field-0-is at c.in-Err-Unread.ensures.ends in
    let rs = (reading_of job c.args.self.now).records in
    let bytes : List ℕ = c.args.self.now.bytes.items in
    let read = stop.2 (wanted_of job own) bytes rs (record { stands = h.stands; front = c.requires.left }) in (
      stop.1,
      stays_as job c.args.self.now _ h refl c.in-Err-Unread.ensures.unnoted refl (ap (λ (r : Reading). r.piece) stop.0)
          (omega (arith, ap (λ (r : Reading). bytes_held r.reader) stop.0)) read.stands,
      refl,
      λ told. read.front told ∙ ap (λ (xs : List ℕ). xs ++ (g.S.Source.seen c.read_noted.new.source).left) (sym c.in-Err-Unread.ensures.unnoted),
    )
