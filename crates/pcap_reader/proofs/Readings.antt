-- The whole records are the one reading of the bytes.
use Rattle.std.proofs.Common.{◌≡◌, ◌≤◌, ℕ, zero, suc, List, [], ◌∷◌, ◌++◌, length, take, drop, Bool, true, false, refl, sym, ap, subst, ◌∙◌, arith, append_assoc}
use Rattle.std.proofs.lemmas.List.{take_at, drop_at, length-take-le, take-append-drop}
use Rattle.pcap_reader.specs.declared.format.Format.{Format}
use Rattle.pcap_reader.specs.Captured.{Captured}
use Rattle.pcap_reader.specs.Records.{most_records, record_length, begins_record, first_record, whole_records, behind_records}
use Rattle.pcap_reader.specs.Reading.{IsRecord, all_shown, joined, IsReading, OneReading, HasReading}
use Rattle.pcap_reader.proofs.Numbers.{all_of_libpcap}
use Rattle.pcap_reader.proofs.Fronts.{Fits, begins_fits, fits_begins, begins_append, length_stays}
use Rattle.pcap_reader.proofs.Runs.{whole_step, whole_stop, whole_none, behind_step, behind_stop, behind_none}
use Rattle.pcap_reader.proofs.Standing.{records_of_format, rest_of_format}

-- a record begins the bytes that it stands at the front of
record_begins : (f : Format) (slice behind : List ℕ) → IsRecord f slice → begins_record f (slice ++ behind) ≡ true
record_begins f slice behind r = begins_append f slice behind (fits_begins f slice (record {
  header = r.header;
  lawful = r.lawful;
  whole = omega (arith, r.whole);
}))

-- the slice at the front of bytes that begin with a record is one
front_is_record : (f : Format) (bytes : List ℕ) → begins_record f bytes ≡ true → IsRecord f (take (record_length f bytes) bytes)
front_is_record f bytes h =
    let p : Fits f bytes = begins_fits f bytes h in
    let len : ℕ = record_length f bytes in
    let front : List ℕ = take len bytes in
    let long : length front ≡ len = length-take-le len bytes p.whole in
    let header : 16 ≤ length front = omega (arith, long) in
    let same : record_length f front ≡ record_length f bytes =
    sym (length_stays f front (drop len bytes) header) ∙ ap (record_length f) (take-append-drop len bytes) in
    record {
      header = header;
      whole = long ∙ sym same;
      lawful = omega (arith, same, p.lawful);
    }

record Read (f : Format) (most number : ℕ) (bytes : List ℕ) : Type 0 where
  slices : List (List ℕ)
  rest : List ℕ
  reading : IsReading f most bytes slices rest
  records : whole_records f most number bytes ≡ all_shown f number slices
  behind : behind_records f most bytes ≡ rest

-- bytes that no record begins
read_none : (f : Format) (most number : ℕ) (bytes : List ℕ) → begins_record f bytes ≡ false → Read f (suc most) number bytes
read_none f most number bytes h = record {
  slices = [];
  rest = bytes;
  reading = record {
    bytes_are = refl;
    each = tt;
    few = omega arith;
    last = λ some slice behind r e.
        let yes : begins_record f bytes ≡ true = ap (begins_record f) e ∙ record_begins f slice behind r in cc;
  };
  records = whole_stop f most number bytes h;
  behind = behind_stop f most bytes h;
}

read_more : (f : Format) (most number : ℕ) (bytes : List ℕ) → begins_record f bytes ≡ true
    → Read f most (suc number) (drop (record_length f bytes) bytes) → Read f (suc most) number bytes
read_more f most number bytes h more =
    let len : ℕ = record_length f bytes in
    let front : List ℕ = take len bytes in
    record {
      slices = front ∷ more.slices;
      rest = more.rest;
      reading = record {
        bytes_are = sym (take-append-drop len bytes) ∙ ap (λ (xs : List ℕ). front ++ xs) more.reading.bytes_are
            ∙ sym (append_assoc front (joined more.slices) more.rest);
        each = (front_is_record f bytes h, more.reading.each);
        few = omega (arith, more.reading.few);
        last = λ some. more.reading.last (omega (arith, some));
      };
      records = whole_step f most number bytes h ∙ ap (λ (rs : List Captured). first_record f number bytes ∷ rs) more.records;
      behind = behind_step f most bytes h ∙ more.behind;
    }

read_by : (f : Format) (most number : ℕ) (bytes : List ℕ) (b : Bool) → begins_record f bytes ≡ b
    → Read f most (suc number) (drop (record_length f bytes) bytes) → Read f (suc most) number bytes
read_by f most number bytes true h more = read_more f most number bytes h more
read_by f most number bytes false h more = read_none f most number bytes h

read : (f : Format) (most number : ℕ) (bytes : List ℕ) → Read f most number bytes
read f zero number bytes = record {
  slices = [];
  rest = bytes;
  reading = record {
    bytes_are = refl;
    each = tt;
    few = omega arith;
    last = λ some. absurd (omega (arith, some));
  };
  records = whole_none f number bytes;
  behind = behind_none f bytes;
}
read f (suc most) number bytes =
    read_by f most number bytes (begins_record f bytes) refl (read f most (suc number) (drop (record_length f bytes) bytes))

pub has_reading : HasReading
has_reading f bytes other h =
    let r : Read f most_records 0 (drop 24 bytes) = read f most_records 0 (drop 24 bytes) in
    record {
      slices = r.slices;
      rest = r.rest;
      reading = r.reading;
      records = all_of_libpcap bytes other ∙ records_of_format f bytes h ∙ r.records;
      behind = rest_of_format f bytes h ∙ r.behind;
    }

-- two records at the front of the same bytes are one
same_front : (f : Format) (s t xs ys : List ℕ) → IsRecord f s → IsRecord f t → s ++ xs ≡ t ++ ys → (s ≡ t) × (xs ≡ ys)
same_front f s t xs ys r q e =
    let long : length s ≡ length t =
    r.whole ∙ sym (length_stays f s xs r.header) ∙ ap (record_length f) e ∙ length_stays f t ys q.header ∙ sym q.whole in (
      sym (take_at s xs (length s) refl) ∙ ap (take (length s)) e ∙ take_at t ys (length s) (sym long),
      sym (drop_at s xs (length s) refl) ∙ ap (drop (length s)) e ∙ drop_at t ys (length s) (sym long),
    )

-- the reading without its first record
behind_first : (f : Format) (most : ℕ) (slice : List ℕ) (slices : List (List ℕ)) (rest bytes : List ℕ)
    → IsReading f (suc most) bytes (slice ∷ slices) rest → IsReading f most (joined slices ++ rest) slices rest
behind_first f most slice slices rest bytes r = record {
  bytes_are = refl;
  each = r.each.1;
  few = omega (arith, r.few);
  last = λ some. r.last (omega (arith, some));
}

split : (f : Format) (most : ℕ) (slice : List ℕ) (slices : List (List ℕ)) (rest bytes : List ℕ)
    → IsReading f most bytes (slice ∷ slices) rest → bytes ≡ slice ++ (joined slices ++ rest)
split f most slice slices rest bytes r = r.bytes_are ∙ append_assoc slice (joined slices) rest

pub one_reading : OneReading
one_reading f most bytes [] [] x y r q = (refl, sym r.bytes_are ∙ q.bytes_are)
one_reading f most bytes [] (t ∷ ts) x y r q =
    absurd (r.last (omega (arith, q.few)) t (joined ts ++ y) (q.each.0) (sym r.bytes_are ∙ split f most t ts y bytes q))
one_reading f most bytes (s ∷ ss) [] x y r q =
    absurd (q.last (omega (arith, r.few)) s (joined ss ++ x) (r.each.0) (sym q.bytes_are ∙ split f most s ss x bytes r))
one_reading f zero bytes (s ∷ ss) (t ∷ ts) x y r q = absurd (omega (arith, r.few))
one_reading f (suc most) bytes (s ∷ ss) (t ∷ ts) x y r q =
    let e = same_front f s t (joined ss ++ x) (joined ts ++ y) (r.each.0) (q.each.0)
    (sym (split f (suc most) s ss x bytes r) ∙ split f (suc most) t ts y bytes q) in
    let B : List ℕ → Type 0 = λ xs. IsReading f most xs ts y in
    let more = one_reading f most (joined ss ++ x) ss ts x y (behind_first f most s ss x bytes r)
    (subst B (sym (e.1)) (behind_first f most t ts y bytes q)) in
    (ap (λ (u : List ℕ). u ∷ ss) (e.0) ∙ ap (λ (us : List (List ℕ)). t ∷ us) (more.0), more.1)
