use Rattle.std.proofs.Common.{sym, subst}
use Rattle.pcap_reader.specs.declared.file.FileReader.{FileReader}
use Rattle.pcap_reader.specs.declared.file.FileReader.TheVariants.{Libpcap, Ng}
use Rattle.pcap_reader.specs.Files.{Finds}
use Rattle.pcap_reader.proofs.Filing.{libpcap_finds, ng_finds}
use Rattle.pcap_reader.proofs.file.FileReader.find.Goals as goal

pub returns-in-Libpcap : goal.returns-in-Libpcap
returns-in-Libpcap c =
    let P : FileReader → Type 0 = λ f. Finds f c.find.result (Libpcap c.find.new.self) in
    subst P (sym c.in-Libpcap.is) (libpcap_finds c.in-Libpcap.reader c.find.new.self c.find.result c.find.ensures)

pub returns-in-Ng : goal.returns-in-Ng
returns-in-Ng c =
    let P : FileReader → Type 0 = λ f. Finds f c.advance.result (Ng c.advance.new.self) in
    subst P (sym c.in-Ng.is) (ng_finds c.in-Ng.reader c.advance.new.self c.advance.result c.advance.ensures)
