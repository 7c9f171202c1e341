use Rattle.std.proofs.Common.{◌-◌, ◌≤◌, List, [], length, drop, Some}
use Rattle.pcap_reader.specs.Captured.{Captured}
use Rattle.pcap_reader.specs.LibpcapReader.{StandsFor}
use Rattle.pcap_reader.proofs.check.check_file.Given as goal

-- a reader would stand here for all bytes and the records so far
abbrev pub invariant-loop-len : goal.invariant-loop-len
invariant-loop-len l = record {
  within : l.at ≤ length l.bytes;
  stands : (given : List Captured)
      × StandsFor (record { format = Some l.format; count = l.records; place = l.at; rest = drop l.at l.bytes; spent = [] }) l.bytes given;
}

abbrev pub decreases-loop-len : goal.decreases-loop-len
decreases-loop-len l = length l.bytes - l.at
