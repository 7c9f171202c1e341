-- How the reader of a file of either format goes on.
use Rattle.std.proofs.Common.{◌≡◌, ◌≤◌, ◌<◌, ℕ, ◌-◌, ◌^◌, List, [], ◌∷◌, ◌++◌, length, map, Bool, true, false, Option, Some, None, Result, Ok, Err, OnOk, MatchOption, refl, sym, ap, subst, ◌∙◌, arith, inl, inr, length-append}
use Rattle.std.specs.Prelude.{nat_lt, ◌&&◌}
use Rattle.std.proofs.lemmas.Bool.{cases_lt}
use Rattle.std.proofs.lemmas.Bool.Decides.{nat_tests}
use Rattle.std.proofs.lemmas.List.{append-nil, nil_from_length, map-append}
use Rattle.ds_base.specs.declared.capture.Bad.{Bad}
use Rattle.ds_base.specs.declared.memory.OutOfMemory.{OutOfMemory}
use Rattle.pcapng_reader.specs.declared.packet.InBlock.{InBlock}
use Rattle.pcapng_reader.specs.Packet.{Packet}
use Rattle.pcapng_reader.specs.Packets.{packet_of}
use Rattle.pcapng_reader.specs.Good.{Walk, most_blocks, walk}
use Rattle.pcapng_reader.specs.Reader as ng
use Rattle.pcapng_reader.proofs.Standing as ngs
use Rattle.pcap_reader.specs.declared.file.FileReader.{FileReader}
use Rattle.pcap_reader.specs.declared.file.FileReader.TheVariants.{Libpcap, Ng}
use Rattle.pcap_reader.specs.declared.format.Format.{Format}
use Rattle.pcap_reader.specs.Captured.{Captured, as_packet, block_behind}
use Rattle.pcap_reader.specs.Format.{is_short_header}
use Rattle.pcap_reader.specs.Libpcap.{libpcap_bad}
use Rattle.pcap_reader.specs.Good.{is_pcapng, file_packets, file_bad}
use Rattle.pcap_reader.specs.LibpcapReader as libpcap
use Rattle.pcap_reader.specs.LibpcapSteps.{GivesNone, GivesBad, IsRecordFound, FindsRecord}
use Rattle.pcap_reader.specs.Files.{Holds, HoldsLibpcap, HoldsNg, Waits, turns, AreFirstOf, IsInBlock, FindsNone, FindsBad, Finds}
use Rattle.pcap_reader.proofs.Standing.{stands_first, waiting_has_all, at_unopened}
use Rattle.pcap_reader.proofs.Formats.{section_stays, section_long, packets_other, packets_ng, bad_other, bad_ng, format_long, short_bad}

-- ---- a piece more

-- nothing was read
abbrev pub IsUnread : libpcap.Reader → Type 0
IsUnread reader = (reader.format ≡ None) × (reader.place ≡ 0) × (reader.count ≡ 0)

both_true : (p q : Bool) → p && q ≡ true → (p ≡ true) × (q ≡ true)
both_true true true h = (refl, refl)
both_true true false h = cc
both_true false q h = cc

differ : (p : Bool) → p ≡ true → p ≡ false → ⊥
differ p h e = cc

second_false : (p q : Bool) → p && q ≡ false → p ≡ true → q ≡ false
second_false true q h e = h
second_false false q h e = cc

no_records : (reader : libpcap.Reader) (fed : List ℕ) (records : List Captured) → reader.count ≡ 0 → libpcap.StandsFor reader fed records → records ≡ []
no_records reader fed records none s = nil_from_length records (s.given_length ∙ none)

pub turned : (old : libpcap.Reader) (new : ng.Reader) (piece : List ℕ) → turns old piece ≡ true → (libpcap.bytes_fed old < 4 → IsUnread old)
    → ng.StandsFor new (old.rest ++ piece) [] → (fed : List ℕ) (all : List Packet) → HoldsLibpcap old fed all → HoldsNg new (fed ++ piece) all
turned old new piece t unread s fed all h =
    let tests = both_true (nat_lt (libpcap.bytes_fed old) 4) (is_pcapng (old.rest ++ piece)) t in
    let few : libpcap.bytes_fed old < 4 = let test = tests.0 in grind (arith, nat_tests) in
    let u : IsUnread old = unread few in
    let rest : old.rest ≡ fed = (at_unopened old fed h.records (u.0) h.stands).rest in
    let none : [] ≡ all = sym (h.all_are ∙ ap (map as_packet) (no_records old fed h.records (u.2) h.stands)) in
    let S : List ℕ → List Packet → Type 0 = λ xs ps. ng.StandsFor new (xs ++ piece) ps in
    record {
      stands = subst (λ (ps : List Packet). S fed ps) none (subst (λ (xs : List ℕ). S xs []) rest s);
      pcapng = ap (λ (xs : List ℕ). is_pcapng (xs ++ piece)) (sym rest) ∙ tests.1;
    }

pub not_turned : (old new : libpcap.Reader) (piece : List ℕ) → turns old piece ≡ false → (libpcap.bytes_fed old < 4 → IsUnread old)
    → ((fed : List ℕ) (records : List Captured) → libpcap.StandsFor old fed records → libpcap.StandsFor new (fed ++ piece) records)
    → (fed : List ℕ) (all : List Packet) → HoldsLibpcap old fed all → HoldsLibpcap new (fed ++ piece) all
not_turned old new piece t unread feeds fed all h = record {
  records = h.records;
  stands = feeds fed h.records h.stands;
  all_are = h.all_are;
  other = elim (cases_lt (length fed) 4) [
    | inl few ↦
        let fewer : libpcap.bytes_fed old < 4 = omega (arith, few, h.stands.fed_length) in
        let test : nat_lt (libpcap.bytes_fed old) 4 ≡ true = grind (arith, nat_tests) in
        let rest : old.rest ≡ fed = (at_unopened old fed h.records ((unread fewer).0) h.stands).rest in
        ap (λ (xs : List ℕ). is_pcapng (xs ++ piece)) (sym rest) ∙ second_false (nat_lt (libpcap.bytes_fed old) 4) (is_pcapng (old.rest ++ piece)) t test
    | inr long ↦ section_stays fed piece long ∙ h.other
  ];
}

pub feeds_ng : (old new : ng.Reader) (piece : List ℕ)
    → ((fed : List ℕ) (all : List Packet) → ng.StandsFor old fed all → ng.StandsFor new (fed ++ piece) all)
    → (fed : List ℕ) (all : List Packet) → HoldsNg old fed all → HoldsNg new (fed ++ piece) all
feeds_ng old new piece feeds fed all h = record {
  stands = feeds fed all h.stands;
  pcapng = section_stays fed piece (section_long fed h.pcapng) ∙ h.pcapng;
}

-- ---- the packets that were given are the first

none_at : (o : Option Format) (reader : libpcap.Reader) (fed : List ℕ) (records : List Captured) → length fed < 4 → length records ≡ reader.count
    → libpcap.IsAt o reader fed records → records ≡ []
none_at None reader fed records few n at = nil_from_length records (n ∙ at.count)
none_at (Some f) reader fed records few n at =
    let long : 24 ≤ length (fed ++ []) = format_long (fed ++ []) f (at.header []) in
    absurd (omega (arith, few, long, length-append fed []))

none_yet : (reader : libpcap.Reader) (fed : List ℕ) (all : List Packet) → length fed < 4 → HoldsLibpcap reader fed all → all ≡ []
none_yet reader fed all few h =
    h.all_are ∙ ap (map as_packet) (none_at reader.format reader fed h.records few h.stands.given_length h.stands.position)

first_libpcap : (reader : libpcap.Reader) (fed : List ℕ) (all : List Packet) → HoldsLibpcap reader fed all → AreFirstOf fed all
first_libpcap reader fed all h more =
    let first = stands_first reader fed h.records h.stands in
    elim (cases_lt (length fed) 4) [
      | inl few ↦ (file_packets (fed ++ more), ap (λ (ps : List Packet). ps ++ file_packets (fed ++ more)) (sym (none_yet reader fed all few h)))
      | inr long ↦
          let later : List Captured = (first more).0 in (
            map as_packet later,
            packets_other (fed ++ more) (section_stays fed more long ∙ h.other)
                ∙ ap (map as_packet) ((first more).1)
                ∙ map-append as_packet h.records later
                ∙ ap (λ (ps : List Packet). ps ++ map as_packet later) (sym h.all_are),
          )
    ]

first_ng : (reader : ng.Reader) (fed : List ℕ) (all : List Packet) → HoldsNg reader fed all → AreFirstOf fed all
first_ng reader fed all h more = (
  (walk (most_blocks - reader.blocks) reader.state (reader.rest ++ more)).packets,
  packets_ng (fed ++ more) (section_stays fed more (section_long fed h.pcapng) ∙ h.pcapng)
      ∙ ap (λ (w : Walk). w.packets) (h.stands.walked more),
)

pub first_of : (file : FileReader) (fed : List ℕ) (all : List Packet) → Holds file fed all → AreFirstOf fed all
first_of (Libpcap reader) fed all h = first_libpcap reader fed all h
first_of (Ng reader) fed all h = first_ng reader fed all h

-- ---- where the reader waits, they are all

all_libpcap : (reader : libpcap.Reader) (fed : List ℕ) (all : List Packet) → libpcap.IsWaiting reader → HoldsLibpcap reader fed all → file_packets fed ≡ all
all_libpcap reader fed all w h =
    packets_other fed h.other ∙ ap (map as_packet) ((waiting_has_all reader fed h.records w h.stands).0) ∙ sym h.all_are

all_ng : (reader : ng.Reader) (fed : List ℕ) (all : List Packet) → ng.IsWaiting reader → HoldsNg reader fed all → file_packets fed ≡ all
all_ng reader fed all w h = packets_ng fed h.pcapng ∙ ap (λ (walk : Walk). walk.packets) (ngs.whole_end reader fed all w h.stands)

pub all_of : (file : FileReader) (fed : List ℕ) (all : List Packet) → Waits file → Holds file fed all → file_packets fed ≡ all
all_of (Libpcap reader) fed all w h = all_libpcap reader fed all w h
all_of (Ng reader) fed all w h = all_ng reader fed all w h

abbrev pub IsSound : Option Bad → Type 0
IsSound o = MatchOption o (Unit {0}) (λ b. is_short_header b.what ≡ true)

pub sound_of : (file : FileReader) (fed : List ℕ) (all : List Packet) → Waits file → Holds file fed all → IsSound (file_bad fed)
sound_of (Libpcap reader) fed all w h = subst IsSound (sym (bad_other fed h.other)) ((waiting_has_all reader fed h.records w h.stands).1)
sound_of (Ng reader) fed all w h = subst IsSound (sym (bad_ng fed h.pcapng ∙ ngs.end_bad reader fed all w h.stands)) (ngs.short_or_none fed)

-- ---- a step

pub finds_record : (old new : libpcap.Reader) (found : InBlock) → IsRecordFound old found new → IsInBlock (Libpcap old) found (Libpcap new)
finds_record old new found f =
    let p : Packet = packet_of found.packet (block_behind found.len new.spent) in
    record {
      next = record {
        stands = λ fed all h. record {
          records = h.records ++ f.shown_as ∷ [];
          stands = f.next.stands fed h.records h.stands;
          all_are = ap (λ (ps : List Packet). ps ++ p ∷ []) h.all_are
              ∙ ap (λ (q : Packet). map as_packet h.records ++ q ∷ []) f.is
              ∙ sym (map-append as_packet h.records (f.shown_as ∷ []));
          other = h.other;
        };
        given = f.next.given;
        fed = f.next.fed;
        left = f.next.left;
        held = f.next.held;
      };
      there = f.there;
      within = f.within;
      few = f.few;
      time = f.time;
      number = f.number;
    }

pub finds_packet : (old new : ng.Reader) (found : InBlock) → ng.IsFound old found new → IsInBlock (Ng old) found (Ng new)
finds_packet old new found f = record {
  next = record {
    stands = λ fed all h. record { stands = f.next.stands fed all h.stands; pcapng = h.pcapng };
    given = f.next.given;
    fed = f.next.fed;
    left = f.next.left;
    held = f.next.held;
  };
  there = f.there;
  within = f.within.there;
  few = f.within.few;
  time = f.within.time;
  number = f.number;
}

pub none_libpcap : (old new : libpcap.Reader) → GivesNone old new → libpcap.bytes_fed new < 2 ^ 61 → FindsNone (Libpcap old) (Libpcap new)
none_libpcap old new g bounded = record {
  stands = λ fed all h. record { records = h.records; stands = g.stands fed h.records h.stands; all_are = h.all_are; other = h.other };
  all = λ fed all h. packets_other fed h.other ∙ ap (map as_packet) (g.all fed h.records h.stands) ∙ sym h.all_are;
  bad = λ fed all h. subst IsSound (sym (bad_other fed h.other)) (g.bad fed h.records h.stands);
  waiting = g.waiting;
  given = g.given;
  fed = g.fed;
  held = g.held;
  short = g.short;
  bounded = bounded;
}

pub none_ng : (old new : ng.Reader) → ng.GivesNone old new → ng.bytes_fed new < 2 ^ 61 → FindsNone (Ng old) (Ng new)
none_ng old new g bounded = record {
  stands = λ fed all h. record { stands = g.stands fed all h.stands; pcapng = h.pcapng };
  all = λ fed all h. packets_ng fed h.pcapng ∙ g.all fed all h.stands;
  bad = λ fed all h. subst IsSound (sym (bad_ng fed h.pcapng)) (g.bad fed all h.stands);
  waiting = g.waiting;
  given = g.given;
  fed = g.fed;
  held = g.kept;
  short = g.held;
  bounded = bounded;
}

-- a fault that is no short header is not found in fewer than four bytes
fault_is_long : (bytes : List ℕ) (b : Bad) → libpcap_bad bytes ≡ Some b → is_short_header b.what ≡ false → 4 ≤ length bytes
fault_is_long bytes b e long =
    elim (cases_lt (length bytes) 4) [
      | inl few ↦
          let short : is_short_header b.what ≡ true = subst IsSound (sym (short_bad bytes few) ∙ e) refl in
          absurd (differ (is_short_header b.what) short long)
      | inr many ↦ many
    ]

pub bad_libpcap : (old new : libpcap.Reader) (b : Bad) → GivesBad old b new → FindsBad (Libpcap old) b (Libpcap new)
bad_libpcap old new b g =
    let stays : (fed : List ℕ) (all : List Packet) (more : List ℕ) → HoldsLibpcap old fed all → is_pcapng (fed ++ more) ≡ false = λ fed all more h.
    section_stays fed more (fault_is_long fed b (ap libpcap_bad (sym (append-nil fed)) ∙ g.bad fed h.records h.stands []) g.long) ∙ h.other in
    record {
      stands = λ fed all h. record { records = h.records; stands = g.stands fed h.records h.stands; all_are = h.all_are; other = h.other };
      all = λ fed all h more. packets_other (fed ++ more) (stays fed all more h)
          ∙ ap (map as_packet) (g.all fed h.records h.stands more) ∙ sym h.all_are;
      bad = λ fed all h more. bad_other (fed ++ more) (stays fed all more h) ∙ g.bad fed h.records h.stands more;
      long = g.long;
      given = g.given;
      fed = g.fed;
      held = g.held;
    }

pub bad_of_ng : (old new : ng.Reader) (b : Bad) → ng.GivesBad old b new → FindsBad (Ng old) b (Ng new)
bad_of_ng old new b g =
    let stays : (fed : List ℕ) (all : List Packet) (more : List ℕ) → HoldsNg old fed all → is_pcapng (fed ++ more) ≡ true = λ fed all more h.
    section_stays fed more (section_long fed h.pcapng) ∙ h.pcapng in
    record {
      stands = λ fed all h. record { stands = g.stands fed all h.stands; pcapng = h.pcapng };
      all = λ fed all h more. packets_ng (fed ++ more) (stays fed all more h) ∙ g.all fed all h.stands more;
      bad = λ fed all h more. bad_ng (fed ++ more) (stays fed all more h) ∙ g.bad fed all h.stands more;
      long = g.long;
      given = g.given;
      fed = g.fed;
      held = g.held;
    }

-- ---- what the calls answer

pub libpcap_finds : (old new : libpcap.Reader) (answer : Result (Option InBlock) Bad) → FindsRecord old answer new → Finds (Libpcap old) answer (Libpcap new)
libpcap_finds old new (Ok None) h = none_libpcap old new h.0 h.1
libpcap_finds old new (Ok (Some found)) h = finds_record old new found h
libpcap_finds old new (Err b) h = bad_libpcap old new b h

pub ng_finds : (old new : ng.Reader) (answer : Result (Option InBlock) Bad) → ng.Advances old answer new → Finds (Ng old) answer (Ng new)
ng_finds old new (Ok None) h = none_ng old new h.0 h.1
ng_finds old new (Ok (Some found)) h = finds_packet old new found h
ng_finds old new (Err b) h = bad_of_ng old new b h

pub where_ok : (r : Result (Unit {0}) OutOfMemory) (P Q : Type 0) → (P → Q) → OnOk r P → OnOk r Q
where_ok (Ok u) P Q f h = f h
where_ok (Err e) P Q f h = tt
