use Rattle.std.proofs.Common.{◌≡◌}
use Rattle.pcapng_reader.specs.Reader.{bytes_fed, bytes_left}
use Rattle.pcapng_reader.proofs.tests.drain.Given as goal

abbrev pub invariant-loop-record : goal.invariant-loop-record
invariant-loop-record l = bytes_fed l.reader ≡ bytes_fed l.initial.reader

abbrev pub decreases-loop-record : goal.decreases-loop-record
decreases-loop-record l = bytes_left l.reader
