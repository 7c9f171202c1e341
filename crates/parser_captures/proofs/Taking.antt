-- A capture that reads on: its reader, its tally and what it has read go together.
use Rattle.std.proofs.Common.{ℕ, List, [], ◌∷◌, ◌++◌, ◌≡◌, ◌≤◌, ◌<◌, ◌+◌, Option, Some, None, true, false, refl, sym, ap, subst, ◌∙◌, arith, length, take}
use Rattle.std.proofs.lemmas.List.{append-nil, take-append-le, take_all}
use Rattle.std.proofs.Common.{Bool, length-append}
use Rattle.std.specs.Prelude.{IsTrue, IfSome, option_to_list, ◌^◌}
use Rattle.ds_base.specs.declared.summary.Summary.{Summary}
use Rattle.input_files.specs.Reading.{ReadsMore}
use Rattle.key_select.specs.Fates.{accepted_after}
use Rattle.key_select.specs.Late.{greatest_time}
use Rattle.key_select.specs.Tally.{newest_after}
use Rattle.key_select.specs.Times.{record_time}
use Rattle.key_select.specs.declared.tally.Tally.{Tally}
use Rattle.key_select.proofs.Tallying.{greatest_time-append}
use Rattle.pcap_reader.specs.Files.{most_held as most_of}
use Rattle.pcap_reader.specs.Lent as lent
use Rattle.pcap_reader.specs.Lent.{GivesNext}
use Rattle.pcap_reader.specs.Reader.{bytes_fed, most_waiting}
use Rattle.pcap_reader.specs.declared.file.FileReader.{FileReader}
use Rattle.pcap_reader.specs.declared.file.FileReader.TheVariants.{Libpcap, Ng}
use Rattle.run_law.specs.Nodes.{Reading}
use Rattle.ds_base.specs.Outside.{SourceSeen}
use Rattle.input_files.specs.Reading.{HasRead}
use Rattle.key_select.specs.Tally.{Tallies, capture_of, records_taken}
use Rattle.key_select.specs.Wanted.{wanted_of, good_of}
use Rattle.pcap_reader.proofs.Giving.{stands_first, waiting_has_all}
use Rattle.pcap_reader.specs.Captured.{Captured}
use Rattle.pcap_reader.specs.Good.{good}
use Rattle.pcap_reader.specs.Lent.{AreFirst}
use Rattle.pcap_reader.specs.Reader.{Reader, StandsFor, IsWaiting, bytes_held}
use Rattle.round_law.specs.Measure.{capture_bytes, piece_bytes}
use Rattle.summary_spec.specs.Declaration.{Declared}
use Rattle.parser_captures.specs.Captures.{CaptureStands, ReadsPiece, TakesRecord, StaysAs, IsLeft, reading_of, first_records, most_held}
use Rattle.parser_captures.specs.declared.capture.OneCapture.{OneCapture}

-- the records given are the first of the bytes fed
pub firsts : (wanted : Option ℕ) (reader : Reader) (fed : List ℕ) (given : List Captured) (n : ℕ) → StandsFor wanted reader fed given → n ≡ length given
    → take n (good wanted fed).records ≡ given
firsts wanted reader fed given n s e =
    let first = stands_first wanted reader fed given s [] in
    let joined : (good wanted fed).records ≡ given ++ first.0 = ap (λ (bytes : List ℕ). (good wanted bytes).records) (sym (append-nil fed)) ∙ first.1 in
    ap (λ (k : ℕ). take k (good wanted fed).records) e
    ∙ ap (take (length given)) joined
    ∙ take-append-le (length given) given first.0 (omega arith)
    ∙ take_all (length given) given (omega arith)

-- whatever bytes follow
pub first_of : (job : Declared) (c : OneCapture) → CaptureStands job c → AreFirst (wanted_of job (capture_of c.tally)) c.bytes.items (reading_of job c).records
first_of job c h = stands_first (wanted_of job (capture_of c.tally)) c.reading.reader c.bytes.items (reading_of job c).records h.stands

-- a capture stands, and these records were taken up
pub record IsAs (job : Declared) (c : OneCapture) (given : List Captured) : Type 0 where
  pub stands : CaptureStands job c
  pub records : (reading_of job c).records ≡ given

pub stands_as : (job : Declared) (c : OneCapture) (capture : ℕ) (given : List Captured) → capture_of c.tally ≡ capture
    → StandsFor (wanted_of job capture) c.reading.reader c.bytes.items given → Tallies job capture c.tally given
    → c.behind ≤ records_taken c.tally → c.reading.piece ≡ 4096 → length c.bytes.items ≤ capture_bytes + piece_bytes
    → bytes_held c.reading.reader ≤ most_held → IsAs job c given
stands_as job c capture given e stands tallies behind asks read held =
    let own : ℕ = capture_of c.tally in
    let s : StandsFor (wanted_of job own) c.reading.reader c.bytes.items given =
    subst (λ (k : ℕ). StandsFor (wanted_of job k) c.reading.reader c.bytes.items given) (sym e) stands in
    let t : Tallies job own c.tally given = subst (λ (k : ℕ). Tallies job k c.tally given) (sym e) tallies in
    let f : (reading_of job c).records ≡ given = firsts (wanted_of job own) c.reading.reader c.bytes.items given (records_taken c.tally) s t.records in
    record {
      stands = record {
        stands = subst (λ (rs : List Captured). StandsFor (wanted_of job own) c.reading.reader c.bytes.items rs) (sym f) s;
        tallies = subst (λ (rs : List Captured). Tallies job own c.tally rs) (sym f) t;
        behind = behind;
        asks = asks;
        read = read;
        held = held;
      };
      records = f;
    }

-- ---- a step

pub same_reading : (a b : List ℕ) (e : Bool) (rs ss : List Captured) → a ≡ b → rs ≡ ss
    → Path Reading (record { bytes = a; ended = e; records = rs }) (record { bytes = b; ended = e; records = ss })
same_reading a b e rs ss p q =
    ap (λ (xs : List ℕ). record { bytes = xs; ended = e; records = rs }) p ∙ ap (λ (xs : List Captured). record { bytes = b; ended = e; records = xs }) q

few_bytes : (n p most : ℕ) → n < 2 ^ 61 → p ≤ 4096 → most ≡ n + p → most ≤ capture_bytes + piece_bytes
unfolding capture_bytes piece_bytes
few_bytes n p most a b e = omega (arith, a, b, e)

few_waiting : (file : FileReader) → most_of file ≤ 16777215
few_waiting (Libpcap reader) = omega arith
few_waiting (Ng reader) = omega arith

few_held : (held before p : ℕ) (reader : Reader) → held ≤ before + p → before ≤ most_waiting reader → p ≤ 4096 → held ≤ most_held
unfolding most_held
few_held held before p reader a b e = omega (arith, a, b, e, few_waiting reader.file)

-- a piece more was read
pub more_read : (job : Declared) (old new : OneCapture) (before after : SourceSeen) (more : ReadsMore old.reading new.reading before after) → CaptureStands job old
    → IsLeft old.bytes.items before → bytes_fed old.reading.reader < 2 ^ 61 → bytes_held old.reading.reader ≤ most_waiting old.reading.reader
    → new.bytes.items ≡ old.bytes.items ++ more.piece → new.tally ≡ old.tally → new.behind ≡ old.behind → new.ended ≡ old.ended
    → ReadsPiece job old new before after
more_read job old new before after more h left fed short noted tally behind ended =
    let own : ℕ = capture_of old.tally in
    let w : Option ℕ = wanted_of job own in
    let rs : List Captured = (reading_of job old).records in
    let n = more.reads w old.bytes.items rs (record { stands = h.stands; front = left }) in
    let T : Tally → Type 0 = λ t. Tallies job own t rs in
    let size : length new.bytes.items ≡ length old.bytes.items + length more.piece = ap length noted ∙ length-append old.bytes.items more.piece in
    let few : length more.piece ≤ 4096 = omega (arith, more.most, h.asks) in
    let is : IsAs job new rs =
    stands_as job new own rs (ap capture_of tally) (subst (λ (xs : List ℕ). StandsFor w new.reading.reader xs rs) (sym noted) n.stands) (subst T (sym tally) h.tallies)
    (omega (arith, h.behind, behind, ap records_taken tally)) (more.asks ∙ h.asks)
    (few_bytes (length old.bytes.items) (length more.piece) (length new.bytes.items) (omega (arith, fed, h.stands.fed_length)) few size)
    (few_held (bytes_held new.reading.reader) (bytes_held old.reading.reader) (length more.piece) old.reading.reader more.held short few) in
    record {
      stands = is.stands;
      piece = more.piece;
      some = more.some;
      reading =
          ap (λ (e : Bool). record { bytes = new.bytes.items; ended = e; records = (reading_of job new).records }) ended
          ∙ same_reading new.bytes.items (old.bytes.items ++ more.piece) old.ended (reading_of job new).records rs noted is.records;
      behind = behind;
      left = λ told. n.front told ∙ ap (λ (xs : List ℕ). xs ++ after.left) (sym noted);
    }

-- the reader goes on in some way, and all else is as it was
pub stays_as : (job : Declared) (old new : OneCapture) → CaptureStands job old → new.tally ≡ old.tally → new.bytes.items ≡ old.bytes.items → new.behind ≡ old.behind
    → new.reading.piece ≡ old.reading.piece → bytes_held new.reading.reader ≤ bytes_held old.reading.reader
    → StandsFor (wanted_of job (capture_of old.tally)) new.reading.reader old.bytes.items (reading_of job old).records
    → StaysAs job old new
stays_as job old new h tally bytes behind asks held s =
    let own : ℕ = capture_of old.tally in
    let w : Option ℕ = wanted_of job own in
    let rs : List Captured = (reading_of job old).records in
    let T : Tally → Type 0 = λ t. Tallies job own t rs in
    record {
      stands = (stands_as job new own rs (ap capture_of tally) (subst (λ (xs : List ℕ). StandsFor w new.reading.reader xs rs) (sym bytes) s) (subst T (sym tally) h.tallies)
          (omega (arith, h.behind, behind, ap records_taken tally)) (asks ∙ h.asks) (omega (arith, h.read, ap length bytes)) (omega (arith, h.held, held))).stands;
      bytes = bytes;
      records = ap records_taken tally;
      behind = behind;
    }

-- the time of the last record that a tally took up is early
early_of : (time : ℕ) (newest after : Option ℕ) → after ≡ newest_after time newest → IfSome after (λ n. n < 2 ^ 63) → time < 2 ^ 63
early_of time None after e h = let k : IfSome (newest_after time None) (λ n. n < 2 ^ 63) = subst (λ (o : Option ℕ). IfSome o (λ n. n < 2 ^ 63)) e h in k
early_of time (Some m) after e h = let k : IfSome (newest_after time (Some m)) (λ n. n < 2 ^ 63) = subst (λ (o : Option ℕ). IfSome o (λ n. n < 2 ^ 63)) e h in omega (arith, k)

-- a record more was taken up
pub record_taken : (job : Declared) (old new : OneCapture) (r : Captured) (found : Option Summary) → CaptureStands job old → GivesNext old.reading.reader r new.reading.reader
    → new.reading.piece ≡ old.reading.piece → Tallies job (capture_of old.tally) new.tally ((reading_of job old).records ++ r ∷ [])
    → option_to_list found ≡ accepted_after job (capture_of old.tally) (reading_of job old).records (r ∷ [])
    → capture_of new.tally ≡ capture_of old.tally → records_taken new.tally ≡ records_taken old.tally + 1
    → new.bytes.items ≡ old.bytes.items → new.behind ≡ old.behind + 1 → new.ended ≡ old.ended → lent.IsLawful r → TakesRecord job old new found
record_taken job old new r found h gives asks tallies accepted capture records bytes behind ended lawful =
    let own : ℕ = capture_of old.tally in
    let w : Option ℕ = wanted_of job own in
    let rs : List Captured = (reading_of job old).records in
    let is : IsAs job new (rs ++ r ∷ []) =
    stands_as job new own (rs ++ r ∷ []) capture
    (subst (λ (xs : List ℕ). StandsFor w new.reading.reader xs (rs ++ r ∷ [])) (sym bytes) (gives.stands w old.bytes.items rs h.stands)) tallies
    (omega (arith, h.behind, behind, records)) (asks ∙ h.asks) (omega (arith, h.read, ap length bytes)) (omega (arith, h.held, gives.held)) in
    record {
      stands = is.stands;
      taken = r;
      reading =
          ap (λ (e : Bool). record { bytes = new.bytes.items; ended = e; records = (reading_of job new).records }) ended
          ∙ same_reading new.bytes.items old.bytes.items old.ended (reading_of job new).records (rs ++ r ∷ []) bytes is.records;
      accepted = accepted;
      lawful = lawful;
      early = early_of (record_time job own r) (greatest_time job own rs) new.tally.newest (tallies.newest ∙ greatest_time-append job own rs r) new.tally.early;
      behind = behind;
    }

abbrev IsFalsehood : Bool → Type 0
IsFalsehood true = ⊥
IsFalsehood false = Unit {0}

pub untold : (A : Type 0) → false ≡ true → A
untold A e = absurd (subst IsFalsehood e tt)

-- a source that tells nothing
abbrev pub silent : SourceSeen
silent = record { told = false; whole = []; left = []; faults = 0 }
