-- What a whole libpcap file holds (libpcap file format 2.4): the whole records that stand before its first
-- malformed place or its end, that place, and whether it ends inside a record.
use Rattle.std.specs.Prelude.{ℕ, ◌-◌, List, [], Bool, length, take, drop, Option, Some, Result, Ok, Err, is_none, nat_lt, ◌&&◌}
use Rattle.ds_base.specs.declared.capture.Bad.{Bad}
use Rattle.pcap_reader.specs.declared.format.Format.{Format}
use Rattle.pcap_reader.specs.Captured.{Captured}
use Rattle.pcap_reader.specs.Format.{header_of}
use Rattle.pcap_reader.specs.Records.{most_records, whole_records, behind_records, record_fault}

-- the format of the file, or the malformed place in its header
abbrev pub file_format : List ℕ → Result Format Bad
file_format bytes = header_of (take 24 bytes)

abbrev pub records_under : Result Format Bad → List ℕ → List Captured
records_under (Ok format) bytes = whole_records format most_records 0 (drop 24 bytes)
records_under (Err bad) bytes = []

-- the whole records
unfoldable pub libpcap_records : List ℕ → List Captured
libpcap_records bytes = records_under (file_format bytes) bytes

abbrev pub rest_under : Result Format Bad → List ℕ → List ℕ
rest_under (Ok format) bytes = behind_records format most_records (drop 24 bytes)
rest_under (Err bad) bytes = bytes

-- what stands after the whole records
unfoldable pub libpcap_rest : List ℕ → List ℕ
libpcap_rest bytes = rest_under (file_format bytes) bytes

abbrev pub bad_under : Result Format Bad → List ℕ → Option Bad
bad_under (Ok format) bytes =
    record_fault format (length (libpcap_records bytes)) (length bytes - length (libpcap_rest bytes)) (libpcap_rest bytes)
bad_under (Err bad) bytes = Some bad

-- the first malformed place
unfoldable pub libpcap_bad : List ℕ → Option Bad
libpcap_bad bytes = bad_under (file_format bytes) bytes

-- whether the file ends inside a record, and is not malformed
unfoldable pub libpcap_cut : List ℕ → Bool
libpcap_cut bytes = is_none (libpcap_bad bytes) && nat_lt 0 (length (libpcap_rest bytes))
