use Rattle.std.proofs.Common.{◌∙◌, ◌++◌, ℕ, List, sym, subst}
use Rattle.pcapng_reader.specs.Packet.{Packet}
use Rattle.pcapng_reader.specs.Reader as ng
use Rattle.pcap_reader.specs.declared.file.FileReader.{FileReader}
use Rattle.pcap_reader.specs.Captured.{Captured}
use Rattle.pcap_reader.specs.LibpcapReader as libpcap
use Rattle.pcap_reader.specs.Files.{Holds, HoldsLibpcap, HoldsNg}
use Rattle.pcap_reader.proofs.Filing.{not_turned, feeds_ng, where_ok}
use Rattle.pcap_reader.proofs.file.FileReader.feed.Goals as goal

pub returns-else-turns-clause-holds : goal.returns-else-turns-clause-holds
returns-else-turns-clause-holds c =
    let old : libpcap.Reader = c.in-Libpcap.reader in
    let new : libpcap.Reader = c.feed.new.self in
    let piece : List ℕ = c.args.piece.now in
    where_ok c.feed.result
    ((fed : List ℕ) (records : List Captured) → libpcap.StandsFor old fed records → libpcap.StandsFor new (fed ++ piece) records)
    ((fed : List ℕ) (all : List Packet) → Holds c.args.self.now fed all → HoldsLibpcap new (fed ++ piece) all)
    (λ feeds fed all h.
    let H : FileReader → Type 0 = λ f. Holds f fed all in
    not_turned old new piece (sym c.turns.ensures.value ∙ c.if-turns.false) c.turns.ensures.unread feeds fed all (subst H c.in-Libpcap.is h))
    c.feed.ensures.stands

pub returns-in-Ng-clause-holds : goal.returns-in-Ng-clause-holds
returns-in-Ng-clause-holds c =
    let old : ng.Reader = c.in-Ng.reader in
    let new : ng.Reader = c.feed-in-Ng.new.self in
    let piece : List ℕ = c.args.piece.now in
    where_ok c.feed-in-Ng.result
    ((fed : List ℕ) (all : List Packet) → ng.StandsFor old fed all → ng.StandsFor new (fed ++ piece) all)
    ((fed : List ℕ) (all : List Packet) → Holds c.args.self.now fed all → HoldsNg new (fed ++ piece) all)
    (λ feeds fed all h.
    let H : FileReader → Type 0 = λ f. Holds f fed all in
    feeds_ng old new piece feeds fed all (subst H c.in-Ng.is h))
    c.feed-in-Ng.ensures.stands
