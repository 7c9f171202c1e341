-- One record of a capture file, as it is read.
use Rattle.std.proofs.Common.{◌≡◌, ◌≤◌, ◌<◌, ℕ, ◌+◌, ◌*◌, ◌/◌, ◌%◌, ◌^◌, List, [], ◌++◌, length, drop, true, refl, sym, ap, ◌∙◌, arith}
use Rattle.std.proofs.Math.Nat.{div-add-mod'}
use Rattle.std.proofs.lemmas.Nat.{mod_below}
use Rattle.byteorder.specs.Numbers.{little_number-reads_back}
use Rattle.capture_bytes.specs.declared.endian.Endian.TheVariants.{Little}
use Rattle.capture_bytes.specs.Number.{number}
use Rattle.pcap_reader.specs.declared.format.Format.{Format}
use Rattle.pcap_reader.specs.declared.format.Precision.TheVariants.{Nanos}
use Rattle.pcap_reader.specs.Captured.{Captured}
use Rattle.pcap_reader.specs.Format.{word}
use Rattle.pcap_reader.specs.Records.{record_length, begins_record, shown}
use Rattle.pcap_reader.proofs.Fronts.{fits_begins}
use Rattle.trace_gen.specs.Numbers.{little}

-- the format of the files
abbrev pub nanoseconds : Format
nanoseconds = record { endian = Little; precision = Nanos; link = 1 }

-- four numbers of four bytes, and bytes behind them
abbrev pub slice : (a b c d : ℕ) → List ℕ → List ℕ
slice a b c d bytes = little 4 a ++ little 4 b ++ little 4 c ++ little 4 d ++ bytes

long : (a b c d : ℕ) (bytes : List ℕ) → length (slice a b c d bytes) ≡ 16 + length bytes
unfolding little
long a b c d bytes = omega arith

behind : (a b c d : ℕ) (bytes : List ℕ) → drop 16 (slice a b c d bytes) ≡ bytes
unfolding little
behind a b c d bytes = refl

first : (a b c d : ℕ) (bytes : List ℕ) → a < 2 ^ 32 → word Little (slice a b c d bytes) 0 ≡ a
unfolding little number
first a b c d bytes small = little_number-reads_back 4 a [] (omega (arith, small))

second : (a b c d : ℕ) (bytes : List ℕ) → b < 2 ^ 32 → word Little (slice a b c d bytes) 4 ≡ b
unfolding little number
second a b c d bytes small = little_number-reads_back 4 b [] (omega (arith, small))

third : (a b c d : ℕ) (bytes : List ℕ) → c < 2 ^ 32 → word Little (slice a b c d bytes) 8 ≡ c
unfolding little number
third a b c d bytes small = little_number-reads_back 4 c [] (omega (arith, small))

fourth : (a b c d : ℕ) (bytes : List ℕ) → d < 2 ^ 32 → word Little (slice a b c d bytes) 12 ≡ d
unfolding little number
fourth a b c d bytes small = little_number-reads_back 4 d [] (omega (arith, small))

-- a record that is not too long stands whole
pub whole_length : (a b d : ℕ) (bytes : List ℕ) → length bytes ≤ 262144
    → record_length nanoseconds (slice a b (length bytes) d bytes) ≡ length (slice a b (length bytes) d bytes)
whole_length a b d bytes few =
    ap (λ n. 16 + n) (third a b (length bytes) d bytes (omega (arith, few))) ∙ sym (long a b (length bytes) d bytes)

pub whole_begins : (a b d : ℕ) (bytes : List ℕ) → length bytes ≤ 262144 → begins_record nanoseconds (slice a b (length bytes) d bytes) ≡ true
whole_begins a b d bytes few =
    let is = third a b (length bytes) d bytes (omega (arith, few)) in
    fits_begins nanoseconds (slice a b (length bytes) d bytes) (record {
      header = omega (arith, long a b (length bytes) d bytes);
      lawful = omega (arith, is, few);
      whole = omega (arith, whole_length a b d bytes few);
    })

-- and shows what was written
shown_same : (n link time orig : ℕ) (bytes : List ℕ) (t o : ℕ) (b : List ℕ) → t ≡ time → o ≡ orig → b ≡ bytes
    → ◌≡◌ {A = Captured} (record { number = n; time = t; link = link; orig = o; bytes = b }) (record { number = n; time = time; link = link; orig = orig; bytes = bytes })
shown_same n link time orig bytes t o b time_is orig_is bytes_are =
    λ i. record { number = n; time = time_is i; link = link; orig = orig_is i; bytes = bytes_are i }

pub whole_shown : (n time : ℕ) (bytes : List ℕ) → time < 2 ^ 35 → length bytes ≤ 262144
    → shown nanoseconds n (slice (time / 1000000000) (time % 1000000000) (length bytes) (length bytes) bytes)
    ≡ record { number = n; time = time; link = 1; orig = length bytes; bytes = bytes }
unfolding shown
whole_shown n time bytes soon few =
    let seconds = time / 1000000000 in
    let rest = time % 1000000000 in
    let split : seconds * 1000000000 + rest ≡ time = div-add-mod' time 1000000000 in
    let below : rest < 1000000000 = mod_below time 1000000000 (omega arith) in
    let one = first seconds rest (length bytes) (length bytes) bytes (omega (arith, split, soon)) in
    let two = second seconds rest (length bytes) (length bytes) bytes (omega (arith, below)) in
    shown_same n 1 time (length bytes) bytes _ _ _
    (omega (arith, one, two, split))
    (fourth seconds rest (length bytes) (length bytes) bytes (omega (arith, few)))
    (behind seconds rest (length bytes) (length bytes) bytes)
