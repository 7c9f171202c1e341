use Rattle.pcapng_reader.specs.Reader.{IsAlong, bytes_left}
use Rattle.pcapng_reader.proofs.reader.NgReader.advance.Given as goal

abbrev pub invariant-blocks-2 : goal.invariant-blocks-2
invariant-blocks-2 l = IsAlong l.initial.self l.self

abbrev pub decreases-blocks-2 : goal.decreases-blocks-2
decreases-blocks-2 l = bytes_left l.self
