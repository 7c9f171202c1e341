use Rattle.pcap_reader.proofs.Numbers.{good_few, good_numbered}
use Rattle.pcap_reader.proofs.laws.numbered.Goals as goal

pub returns-clause-numbers : goal.returns-clause-numbers
returns-clause-numbers c = good_numbered

pub returns-clause-few : goal.returns-clause-few
returns-clause-few c = good_few
