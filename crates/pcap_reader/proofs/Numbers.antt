-- The numbers of a file's records, and how many there are at most.
use Rattle.std.proofs.Common.{ℕ, zero, suc, List, [], ◌∷◌, ◌≡◌, ◌≤◌, Bool, true, false, cond, length, map, refl, arith, ap, ◌∙◌, inl, inr, length-append, Option, Some, None, Result, Ok, Err, drop}
use Rattle.ds_base.specs.declared.capture.Bad.{Bad}
use Rattle.pcap_reader.specs.declared.format.Format.{Format}
use Rattle.pcap_reader.specs.Captured.{Captured, as_packet}
use Rattle.pcap_reader.specs.Records.{most_records, begins_record, first_record, record_length, whole_records}
use Rattle.pcap_reader.specs.Libpcap.{file_format, libpcap_records, records_under}
use Rattle.pcap_reader.specs.Numbering.{NumberedFrom}
use Rattle.pcap_reader.specs.Good.{is_pcapng, file_packets, wanted_packets, records_of, good}
use Rattle.pcap_reader.proofs.Fronts.{shown_number}
use Rattle.pcap_reader.proofs.Formats.{packets_other, packets_ng}
use Rattle.pcap_reader.proofs.Packets.{are_numbered, records_few, all_records}
use Rattle.pcapng_reader.specs.Packet.{Packet}
use Rattle.pcapng_reader.specs.State.{State, Block, start}
use Rattle.pcapng_reader.specs.Steps.{step}
use Rattle.pcapng_reader.specs.Good.{Walk, walk_by, walk, whole_walk, most_blocks, ng_packets}
use Rattle.std.specs.Prelude.{option_to_list}
use Rattle.std.proofs.lemmas.Bool.{cases_Bool}

-- one record more in front
numbered_more : (b : Bool) (n : ℕ) (r : Captured) (rs : List Captured) → r.number ≡ n → NumberedFrom (suc n) rs → NumberedFrom n (cond b (r ∷ rs) [])
numbered_more true n r rs e h = (e, h)
numbered_more false n r rs e h = tt

whole_numbered : (f : Format) (most n : ℕ) (bytes : List ℕ) → NumberedFrom n (whole_records f most n bytes)
unfolding whole_records
whole_numbered f zero n bytes = tt
whole_numbered f (suc most) n bytes =
    numbered_more (begins_record f bytes) n (first_record f n bytes) _ (shown_number f n _) (whole_numbered f most (suc n) (drop (record_length f bytes) bytes))

under_numbered : (format : Result Format Bad) (bytes : List ℕ) → NumberedFrom 0 (records_under format bytes)
under_numbered (Ok f) bytes = whole_numbered f most_records 0 (drop 24 bytes)
under_numbered (Err b) bytes = tt

-- the records of a file are numbered from 0 on
pub libpcap_numbered : (bytes : List ℕ) → NumberedFrom 0 (libpcap_records bytes)
unfolding libpcap_records
libpcap_numbered bytes = under_numbered (file_format bytes) bytes

-- ---- how many

few_more : (b : Bool) (most : ℕ) (r : Captured) (rs : List Captured) → length rs ≤ most → length (cond b (r ∷ rs) []) ≤ suc most
few_more true most r rs h = omega (arith, h)
few_more false most r rs h = omega arith

whole_few : (f : Format) (most n : ℕ) (bytes : List ℕ) → length (whole_records f most n bytes) ≤ most
unfolding whole_records
whole_few f zero n bytes = omega arith
whole_few f (suc most) n bytes =
    few_more (begins_record f bytes) most (first_record f n bytes) _ (whole_few f most (suc n) (drop (record_length f bytes) bytes))

under_few : (format : Result Format Bad) (bytes : List ℕ) → length (records_under format bytes) ≤ most_records
under_few (Ok f) bytes = whole_few f most_records 0 (drop 24 bytes)
under_few (Err b) bytes = omega arith

-- a file has at most 2^40 records
pub libpcap_few : (bytes : List ℕ) → length (libpcap_records bytes) ≤ most_records
unfolding libpcap_records
libpcap_few bytes = under_few (file_format bytes) bytes

-- ---- of both formats

one_packet : (o : Option Packet) → length (option_to_list o) ≤ 1
one_packet None = omega arith
one_packet (Some p) = omega arith

by_step : (r : Result (Option Block) Bad) (bytes : List ℕ) (further : Block → Walk) (most : ℕ) → ((block : Block) → length (further block).packets ≤ most)
    → length (walk_by r bytes further).packets ≤ suc most
by_step (Err bad) bytes further most h = omega arith
by_step (Ok None) bytes further most h = omega arith
by_step (Ok (Some block)) bytes further most h =
    omega (arith, length-append (option_to_list block.packet) (further block).packets, one_packet block.packet, h block)

walk_few : (most : ℕ) (state : State) (bytes : List ℕ) → length (walk most state bytes).packets ≤ most
unfolding walk
walk_few zero state bytes = omega arith
walk_few (suc most) state bytes =
    by_step (step state bytes) bytes (λ block. walk most block.after (drop block.len bytes)) most (λ block. walk_few most block.after (drop block.len bytes))

-- a file has at most 2^36 packets where it is of pcapng
ng_few : (bytes : List ℕ) → length (ng_packets bytes) ≤ most_blocks
unfolding whole_walk
ng_few bytes = walk_few most_blocks start bytes

length-packets : (rs : List Captured) → length (map as_packet rs) ≡ length rs
length-packets [] = refl
length-packets (r ∷ rs) = ap suc (length-packets rs)

packets_few : (bytes : List ℕ) → length (file_packets bytes) ≤ most_records
packets_few bytes =
    elim (cases_Bool (is_pcapng bytes)) [
      | inl ng ↦ omega (arith, ap length (packets_ng bytes ng), ng_few bytes)
      | inr other ↦ omega (arith, ap length (packets_other bytes other), length-packets (libpcap_records bytes), libpcap_few bytes)
    ]

-- the records of a file that are wanted are numbered from 0 on
pub good_numbered : (wanted : Option ℕ) (bytes : List ℕ) → NumberedFrom 0 (good wanted bytes).records
good_numbered wanted bytes = are_numbered 0 (wanted_packets wanted (file_packets bytes))

-- there are at most 2^40
pub good_few : (wanted : Option ℕ) (bytes : List ℕ) → length (good wanted bytes).records ≤ most_records
good_few wanted bytes = omega (arith, records_few wanted (file_packets bytes), packets_few bytes)

-- all records of a libpcap file
pub all_of_libpcap : (bytes : List ℕ) → is_pcapng bytes ≡ false → (good None bytes).records ≡ libpcap_records bytes
all_of_libpcap bytes other = ap (records_of None) (packets_other bytes other) ∙ all_records (libpcap_records bytes) (libpcap_numbered bytes)
