-- What a capture file of a sample holds, when it is read.
use Rattle.std.proofs.Common.{◌≡◌, ◌≤◌, ℕ, zero, suc, ◌+◌, ◌-◌, ◌/◌, ◌%◌, ◌&&◌, Bool, true, false, List, [], ◌∷◌, ◌++◌, length, take, drop, flat_map, All, None, Ok, nat_lt, refl, sym, ap, ◌∙◌, arith}
use Rattle.std.proofs.lemmas.List.{drop_all, take_all}
use Rattle.std.proofs.lemmas.List.Elements.{All-head, All-tail}
use Rattle.pcap_reader.specs.Captured.{Captured}
use Rattle.pcap_reader.specs.Format.{header_of}
use Rattle.pcap_reader.specs.Good.{Good, good, is_pcapng, records_of}
use Rattle.pcap_reader.specs.Libpcap.{file_format, libpcap_records, libpcap_rest, libpcap_bad, libpcap_cut, records_under, rest_under, bad_under}
use Rattle.pcap_reader.specs.Records.{most_records, record_length, begins_record, first_record, shown, whole_records, behind_records, record_fault}
use Rattle.pcap_reader.proofs.Formats.{packets_other, bad_other, cut_other}
use Rattle.pcap_reader.proofs.Numbers.{libpcap_numbered}
use Rattle.pcap_reader.proofs.Packets.{all_records}
use Rattle.pcap_reader.proofs.Runs.{whole_more, whole_end, behind_more, behind_end}
use Rattle.capture_bytes.specs.Number.{number}
use Rattle.trace_gen.specs.declared.sighting.Sighting.{Sighting}
use Rattle.trace_gen.specs.Captures.{file_header, record_of}
use Rattle.trace_gen.specs.Numbers.{little}
use Rattle.trace_gen.specs.Packets.{packet_of}
use Rattle.trace_gen.specs.ReadBack.{record_seen, records_seen}
use Rattle.trace_gen.proofs.Lengths.{packet_short}
use Rattle.trace_gen.proofs.Slices.{nanoseconds, slice, whole_length, whole_begins, whole_shown}
use Rattle.trace_gen.proofs.Times.{IsSoon}

-- ---- one record

as_slice : (s : Sighting) → record_of s ≡ slice (s.time / 1000000000) (s.time % 1000000000) (length (packet_of s)) (length (packet_of s)) (packet_of s)
unfolding record_of
as_slice s = refl

record_long : (s : Sighting) → record_length nanoseconds (record_of s) ≡ length (record_of s)
record_long s =
    ap (record_length nanoseconds) (as_slice s)
    ∙ whole_length (s.time / 1000000000) (s.time % 1000000000) (length (packet_of s)) (packet_of s) (packet_short s)
    ∙ ap length (sym (as_slice s))

record_begins : (s : Sighting) → begins_record nanoseconds (record_of s) ≡ true
record_begins s =
    ap (begins_record nanoseconds) (as_slice s)
    ∙ whole_begins (s.time / 1000000000) (s.time % 1000000000) (length (packet_of s)) (packet_of s) (packet_short s)

record_first : (n : ℕ) (s : Sighting) → IsSoon s → first_record nanoseconds n (record_of s) ≡ record_seen n s
record_first n s soon =
    ap (shown nanoseconds n) (ap (λ k. take k (record_of s)) (record_long s) ∙ take_all (length (record_of s)) (record_of s) (omega arith) ∙ as_slice s)
    ∙ whole_shown n s.time (packet_of s) soon (packet_short s)

nothing_behind : (s : Sighting) → drop (record_length nanoseconds (record_of s)) (record_of s) ≡ []
nothing_behind s = drop_all (record_length nanoseconds (record_of s)) (record_of s) (omega (arith, record_long s))

-- ---- all records

empty_begins : begins_record nanoseconds [] ≡ false
unfolding begins_record number
empty_begins = refl

all_whole : (ss : List Sighting) (most n : ℕ) → length ss ≤ most → All IsSoon ss → whole_records nanoseconds most n (flat_map record_of ss) ≡ records_seen n ss
all_whole [] most n few soon = whole_end nanoseconds most n [] (λ some. empty_begins)
all_whole (s ∷ ss) zero n few soon = absurd (omega (arith, few))
all_whole (s ∷ ss) (suc most) n few soon =
    let next : n + 1 ≡ suc n = omega arith in
    whole_more nanoseconds (suc most) most n (record_of s) (flat_map record_of ss) (record_begins s) refl
    ∙ ap (λ r. r ∷ whole_records nanoseconds most (n + 1) (drop (record_length nanoseconds (record_of s)) (record_of s) ++ flat_map record_of ss)) (record_first n s (All-head IsSoon s ss soon))
    ∙ ap (λ t. record_seen n s ∷ whole_records nanoseconds most (n + 1) (t ++ flat_map record_of ss)) (nothing_behind s)
    ∙ ap (λ m. record_seen n s ∷ whole_records nanoseconds most m (flat_map record_of ss)) next
    ∙ ap (λ rs. record_seen n s ∷ rs) (all_whole ss most (suc n) (omega (arith, few)) (All-tail IsSoon s ss soon))

all_behind : (ss : List Sighting) (most : ℕ) → length ss ≤ most → behind_records nanoseconds most (flat_map record_of ss) ≡ []
all_behind [] most few = behind_end nanoseconds most [] (λ some. empty_begins)
all_behind (s ∷ ss) zero few = absurd (omega (arith, few))
all_behind (s ∷ ss) (suc most) few =
    behind_more nanoseconds (suc most) most (record_of s) (flat_map record_of ss) (record_begins s) refl
    ∙ ap (λ t. behind_records nanoseconds most (t ++ flat_map record_of ss)) (nothing_behind s)
    ∙ all_behind ss most (omega (arith, few))

-- ---- the file

header_taken : (xs : List ℕ) → take 24 (file_header ++ xs) ≡ file_header
unfolding file_header little
header_taken xs = refl

header_dropped : (xs : List ℕ) → drop 24 (file_header ++ xs) ≡ xs
unfolding file_header little
header_dropped xs = refl

header_read : header_of file_header ≡ Ok nanoseconds
unfolding file_header little header_of number
header_read = refl

format_is : (xs : List ℕ) → file_format (file_header ++ xs) ≡ Ok nanoseconds
format_is xs = ap header_of (header_taken xs) ∙ header_read

and_false : (b : Bool) → (b && false) ≡ false
and_false true = refl
and_false false = refl

other : (xs : List ℕ) → is_pcapng (file_header ++ xs) ≡ false
unfolding is_pcapng file_header little
other xs = and_false _

records_are : (ss : List Sighting) → length ss ≤ most_records → All IsSoon ss → libpcap_records (file_header ++ flat_map record_of ss) ≡ records_seen 0 ss
unfolding libpcap_records
records_are ss few soon =
    ap (λ f. records_under f (file_header ++ flat_map record_of ss)) (format_is (flat_map record_of ss))
    ∙ ap (λ t. whole_records nanoseconds most_records 0 t) (header_dropped (flat_map record_of ss))
    ∙ all_whole ss most_records 0 few soon

rest_is : (ss : List Sighting) → length ss ≤ most_records → libpcap_rest (file_header ++ flat_map record_of ss) ≡ []
unfolding libpcap_rest
rest_is ss few =
    ap (λ f. rest_under f (file_header ++ flat_map record_of ss)) (format_is (flat_map record_of ss))
    ∙ ap (λ t. behind_records nanoseconds most_records t) (header_dropped (flat_map record_of ss))
    ∙ all_behind ss most_records few

no_fault_by : (test : Bool) (count at : ℕ) → nat_lt count most_records ≡ test → record_fault nanoseconds count at [] ≡ None
unfolding record_fault
no_fault_by true count at e = rw e refl
no_fault_by false count at e = rw e refl

no_fault : (count at : ℕ) → record_fault nanoseconds count at [] ≡ None
no_fault count at = no_fault_by (nat_lt count most_records) count at refl

bad_is : (ss : List Sighting) → length ss ≤ most_records → libpcap_bad (file_header ++ flat_map record_of ss) ≡ None
unfolding libpcap_bad
bad_is ss few =
    let bytes = file_header ++ flat_map record_of ss in
    ap (λ f. bad_under f bytes) (format_is (flat_map record_of ss))
    ∙ ap (λ rest. record_fault nanoseconds (length (libpcap_records bytes)) (length bytes - length rest) rest) (rest_is ss few)
    ∙ no_fault (length (libpcap_records bytes)) (length bytes - 0)

cut_is : (ss : List Sighting) → length ss ≤ most_records → libpcap_cut (file_header ++ flat_map record_of ss) ≡ false
unfolding libpcap_cut
cut_is ss few = rw (bad_is ss few, rest_is ss few) refl

good_same : (records : List Captured) (g : Good) → g.records ≡ records → g.bad ≡ None → g.cut ≡ false → g ≡ record { records = records; bad = None; cut = false }
good_same records g e b c = λ i. record { records = e i; bad = b i; cut = c i }

pub reads_back : (ss : List Sighting) → length ss ≤ most_records → All IsSoon ss
    → good None (file_header ++ flat_map record_of ss) ≡ record { records = records_seen 0 ss; bad = None; cut = false }
reads_back ss few soon =
    let bytes = file_header ++ flat_map record_of ss in
    let not_ng : is_pcapng bytes ≡ false = other (flat_map record_of ss) in
    good_same (records_seen 0 ss) (good None bytes)
    (ap (records_of None) (packets_other bytes not_ng) ∙ all_records (libpcap_records bytes) (libpcap_numbered bytes) ∙ records_are ss few soon)
    (bad_other bytes not_ng ∙ bad_is ss few)
    (cut_other bytes not_ng ∙ cut_is ss few)
