-- Each piece that is read leaves less to do.
use Rattle.std.proofs.Common.{ℕ, ◌≡◌, ◌<◌, ◌+◌, ◌^◌, arith}
use Rattle.pcap_reader.proofs.Giving.{left_fed}
use Rattle.input_files.specs.Reading.{Reading, bytes_read, work_left}

pub less_left : (first old new : Reading) (n : ℕ) → bytes_read new ≡ bytes_read old + n → 0 < n → bytes_read new < 2 ^ 62
    → bytes_read old ≡ bytes_read first → work_left new < work_left first
less_left first old new n more some few same = omega (arith, more, some, few, same, left_fed new.reader, left_fed first.reader)
