use Rattle.pcap_reader.proofs.Giving.{stands_first, waiting_has_all}
use Rattle.pcap_reader.proofs.laws.given_are_first.Goals as goal

pub returns-clause-first : goal.returns-clause-first
returns-clause-first c = stands_first

pub returns-clause-all : goal.returns-clause-all
returns-clause-all c = waiting_has_all
