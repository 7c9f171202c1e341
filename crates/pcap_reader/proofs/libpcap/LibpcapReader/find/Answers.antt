use Rattle.std.proofs.Common.{◌≡◌, ◌∙◌, sym, ap, ℕ, List, length, take, drop, ◌-◌, arith}
use Rattle.std.proofs.lemmas.List.{take_all}
use Rattle.pcapng_reader.specs.Packet.{Packet}
use Rattle.pcap_reader.specs.Captured.{Captured, as_packet}
use Rattle.pcap_reader.specs.LibpcapReader.{Reader}
use Rattle.pcap_reader.specs.LibpcapSteps.{found_bytes}
use Rattle.pcap_reader.specs.Lent.{captured}
use Rattle.pcap_reader.specs.declared.format.Format.{Format}
use Rattle.pcap_reader.specs.declared.record.FoundRecord.{FoundRecord}
use Rattle.pcap_reader.specs.Records.{shown}
use Rattle.pcap_reader.proofs.Fronts.{length_last, length-shown, shown_number}
use Rattle.pcap_reader.proofs.libpcap.LibpcapReader.find.Goals as goal

-- the packet of a record, whose bytes are those behind its header
abbrev packet_in : Captured → List ℕ → Packet
packet_in r slice = record { number = r.number; interface = 0; time = r.time; link = r.link; orig = r.orig; bytes = take (length r.bytes) (drop 16 slice) }

is_shown : (f : Format) (n : ℕ) (slice : List ℕ) → packet_in (shown f n slice) slice ≡ as_packet (shown f n slice)
unfolding shown
is_shown f n slice =
    ap (λ (xs : List ℕ). record { number = n; interface = 0; time = (shown f n slice).time; link = f.link; orig = (shown f n slice).orig; bytes = xs })
    (take_all (length (drop 16 slice)) (drop 16 slice) (omega arith))

pub returns : goal.returns
returns c =
    let found : FoundRecord = c.in-Some.found in
    let old : Reader = c.args.self.now in
    let mid : Reader = c.advance.new.self in
    let is_found = rw c.in-Some.is at c.in_ok-found.ensures in
    let slice : List ℕ = c.last_spent-slice.result.now in
    let r : Captured = captured c.read_record-record.result in
    let value : r ≡ shown found.format found.number slice = c.read_record-record.ensures.value in
    let is_slice : slice ≡ found_bytes found mid = c.last_spent-slice.ensures ∙ ap (found_bytes found) c.self.view_is in
    let long : length slice ≡ found.len = ap length is_slice ∙ length_last mid.spent found.len is_found.there in
    let size : length r.bytes ≡ length slice - 16 = ap (λ (q : Captured). length q.bytes) value ∙ length-shown found.format found.number slice in
    record {
      shown_as = shown found.format found.number (found_bytes found mid);
      next = is_found.next;
      is = ap (packet_in r) (sym is_slice)
          ∙ ap (λ (q : Captured). packet_in q slice) value
          ∙ is_shown found.format found.number slice
          ∙ ap (λ (xs : List ℕ). as_packet (shown found.format found.number xs)) is_slice;
      there = is_found.there;
      within = omega (arith, size, long, is_found.least);
      few = omega (arith, size, long, is_found.most);
      time = omega (arith, c.read_record-record.ensures.time);
      number = omega (arith, is_found.number, is_found.next.number, shown_number found.format found.number (found_bytes found mid));
    }
