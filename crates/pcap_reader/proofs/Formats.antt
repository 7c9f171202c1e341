-- Which format a file is of, and what it holds by its format.
use Rattle.std.proofs.Common.{◌≡◌, ◌≤◌, ◌<◌, ℕ, List, ◌++◌, length, Bool, true, false, Option, Some, None, Result, Ok, Err, refl, sym, ap, ◌∙◌, arith, length-append, cond, map, slice_index, inl, inr}
use Rattle.std.specs.Prelude.{nat_le, nat_lt}
use Rattle.std.proofs.lemmas.Bool.{cases_lt}
use Rattle.std.proofs.lemmas.Bool.Decides.{nat_tests}
use Rattle.std.proofs.lemmas.List.{get_or_append_left, take_all}
use Rattle.ds_base.specs.declared.capture.Bad.{Bad}
use Rattle.capture_bytes.specs.declared.endian.Endian.{Endian}
use Rattle.capture_bytes.specs.declared.endian.Endian.TheVariants.{Big}
use Rattle.pcapng_reader.specs.Good.{ng_packets, ng_bad, ng_cut}
use Rattle.pcap_reader.specs.declared.format.Precision.{Precision}
use Rattle.pcap_reader.specs.declared.format.Format.{Format}
use Rattle.pcap_reader.specs.Captured.{as_packet}
use Rattle.pcap_reader.specs.Format.{header_of, format_by_magic, magic_of, word, short_header}
use Rattle.pcap_reader.specs.Libpcap.{file_format, libpcap_records, libpcap_bad, libpcap_cut}
use Rattle.pcap_reader.specs.Good.{is_pcapng, file_packets, file_bad, file_cut}
use Rattle.pcap_reader.proofs.Fronts.{header_of_short, header_of_long}
use Rattle.pcap_reader.proofs.Standing.{bad_of_fault}

-- ---- the first four bytes

pub section_stays : (xs ys : List ℕ) → 4 ≤ length xs → is_pcapng (xs ++ ys) ≡ is_pcapng xs
unfolding is_pcapng
section_stays xs ys long =
    let here : nat_le 4 (length xs) ≡ true = grind (arith, nat_tests) in
    let more : nat_le 4 (length (xs ++ ys)) ≡ true = grind (arith, nat_tests, length-append xs ys) in
    let at : (i : ℕ) → i < length xs → slice_index (xs ++ ys) i ≡ slice_index xs i = λ i h. get_or_append_left xs ys 0 i h in
    rw (here, more, at 0 (omega (arith, long)), at 1 (omega (arith, long)), at 2 (omega (arith, long)), at 3 (omega (arith, long))) refl

pub section_long : (xs : List ℕ) → is_pcapng xs ≡ true → 4 ≤ length xs
unfolding is_pcapng
section_long xs h = grind (arith, nat_tests)

pub short_is_other : (xs : List ℕ) → length xs < 4 → is_pcapng xs ≡ false
unfolding is_pcapng
short_is_other xs few =
    let test : nat_le 4 (length xs) ≡ false = grind (arith, nat_tests) in
    rw test refl

-- ---- what a file of each format holds

pub packets_other : (bytes : List ℕ) → is_pcapng bytes ≡ false → file_packets bytes ≡ map as_packet (libpcap_records bytes)
unfolding file_packets
packets_other bytes h = ap (λ (b : Bool). cond b (ng_packets bytes) (map as_packet (libpcap_records bytes))) h

pub packets_ng : (bytes : List ℕ) → is_pcapng bytes ≡ true → file_packets bytes ≡ ng_packets bytes
unfolding file_packets
packets_ng bytes h = ap (λ (b : Bool). cond b (ng_packets bytes) (map as_packet (libpcap_records bytes))) h

pub bad_other : (bytes : List ℕ) → is_pcapng bytes ≡ false → file_bad bytes ≡ libpcap_bad bytes
unfolding file_bad
bad_other bytes h = ap (λ (b : Bool). cond b (ng_bad bytes) (libpcap_bad bytes)) h

pub bad_ng : (bytes : List ℕ) → is_pcapng bytes ≡ true → file_bad bytes ≡ ng_bad bytes
unfolding file_bad
bad_ng bytes h = ap (λ (b : Bool). cond b (ng_bad bytes) (libpcap_bad bytes)) h

pub cut_other : (bytes : List ℕ) → is_pcapng bytes ≡ false → file_cut bytes ≡ libpcap_cut bytes
unfolding file_cut
cut_other bytes h = ap (λ (b : Bool). cond b (ng_cut bytes) (libpcap_cut bytes)) h

pub cut_ng : (bytes : List ℕ) → is_pcapng bytes ≡ true → file_cut bytes ≡ ng_cut bytes
unfolding file_cut
cut_ng bytes h = ap (λ (b : Bool). cond b (ng_cut bytes) (libpcap_cut bytes)) h

-- ---- a file that is too short for the header of libpcap

magic_short : (o : Option (Endian × Precision)) (header : List ℕ) (f : Format) → length header < 24 → format_by_magic o header ≡ Ok f → ⊥
magic_short None header f few e = cc
magic_short (Some magic) header f few e =
    let test : nat_lt (length header) 24 ≡ true = grind (arith, nat_tests) in
    let fault : format_by_magic (Some magic) header ≡ Err (short_header header) = rw test refl in
    cc

ok_or_err : (r : Result Format Bad) (f : Format) (b : Bad) → r ≡ Ok f → r ≡ Err b → ⊥
ok_or_err r f b e h = cc

pub format_long : (bytes : List ℕ) (f : Format) → file_format bytes ≡ Ok f → 24 ≤ length bytes
format_long bytes f e =
    elim (cases_lt (length bytes) 24) [
      | inl few ↦
          let whole : header_of bytes ≡ Ok f = ap header_of (sym (take_all 24 bytes (omega (arith, few)))) ∙ e in
          elim (cases_lt (length bytes) 4) [
            | inl tiny ↦ absurd (ok_or_err (header_of bytes) f (short_header bytes) whole (header_of_short bytes tiny))
            | inr four ↦ absurd (magic_short (magic_of (word Big bytes 0)) bytes f few (sym (header_of_long bytes four) ∙ whole))
          ]
      | inr long ↦ long
    ]

pub short_bad : (bytes : List ℕ) → length bytes < 4 → libpcap_bad bytes ≡ Some (short_header bytes)
short_bad bytes few =
    bad_of_fault (short_header bytes) bytes (ap header_of (take_all 24 bytes (omega (arith, few))) ∙ header_of_short bytes few)
