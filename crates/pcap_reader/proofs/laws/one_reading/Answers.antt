use Rattle.pcap_reader.proofs.Readings as law
use Rattle.pcap_reader.proofs.laws.one_reading.Goals as goal

pub returns-clause-reading : goal.returns-clause-reading
returns-clause-reading c = law.has_reading

pub returns-clause-only : goal.returns-clause-only
returns-clause-only c = law.one_reading
