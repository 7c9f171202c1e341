use Rattle.pcap_reader.specs.Reader.{bytes_left}
use Rattle.pcap_reader.specs.Lent.{IsAlong}
use Rattle.pcap_reader.proofs.reader.PcapReader.advance.Given as goal

abbrev pub invariant-packets : goal.invariant-packets
invariant-packets l = IsAlong l.initial.self l.self

abbrev pub decreases-packets : goal.decreases-packets
decreases-packets l = bytes_left l.self
