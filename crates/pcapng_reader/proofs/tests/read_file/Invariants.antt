use Rattle.std.proofs.Common.{◌≡◌, ◌-◌, ◌≤◌, length}
use Rattle.pcapng_reader.specs.Reader.{bytes_fed, IsWaiting}
use Rattle.pcapng_reader.proofs.tests.read_file.Given as goal

abbrev pub invariant-loop-at : goal.invariant-loop-at
invariant-loop-at l = record {
  fed : bytes_fed l.reader ≡ l.at;
  within : l.at ≤ length l.bytes;
  waiting : IsWaiting l.reader;
}

abbrev pub decreases-loop-at : goal.decreases-loop-at
decreases-loop-at l = length l.bytes - l.at
