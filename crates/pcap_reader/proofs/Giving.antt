-- How a reader goes on to stand for what was fed and given.
use Rattle.std.proofs.Common.{◌≡◌, ◌≤◌, ◌<◌, ℕ, ◌+◌, List, [], ◌∷◌, ◌++◌, length, true, false, Option, refl, sym, ap, subst, ◌∙◌, arith}
use Rattle.std.proofs.lemmas.List.{length_push}
use Rattle.ds_base.specs.declared.capture.Bad.{Bad}
use Rattle.pcapng_reader.specs.declared.packet.InBlock.{InBlock}
use Rattle.pcapng_reader.specs.Packet.{Packet}
use Rattle.pcapng_reader.specs.Packets.{packet_of}
use Rattle.pcap_reader.specs.Captured.{Captured, as_record, block_behind}
use Rattle.pcap_reader.specs.Good.{is_wanted, wanted_packets, numbered, records_of}
use Rattle.pcap_reader.specs.Files.{packets_given, fed_to, left_in, spent_in, IsInBlock, FindsNone, FindsBad}
use Rattle.pcap_reader.specs.declared.file.FileReader.{FileReader}
use Rattle.pcap_reader.specs.declared.file.FileReader.TheVariants.{Libpcap, Ng}
use Rattle.pcap_reader.specs.Reader.{Reader, StandsFor, bytes_fed, bytes_left}
use Rattle.pcap_reader.specs.Lent.{GivesNext, GivesNone, GivesBad, IsAlong, IsFound}
use Rattle.pcap_reader.specs.Laws.{GivenAreFirst, WaitingHasAll}
use Rattle.pcap_reader.proofs.Packets.{records_append, one_wanted, one_other}
use Rattle.pcap_reader.proofs.Filing.{first_of, all_of, sound_of}

-- the records that a reader has given are the first of the file, whatever bytes follow
pub stands_first : GivenAreFirst
stands_first wanted reader fed given s more =
    let first = first_of reader.file fed s.packets s.holds more in
    let later : List Packet = first.0 in (
      numbered (length (records_of wanted s.packets)) (wanted_packets wanted later),
      ap (records_of wanted) first.1 ∙ records_append wanted s.packets later
          ∙ ap (λ (rs : List Captured). rs ++ numbered (length (records_of wanted s.packets)) (wanted_packets wanted later)) (sym s.given_are),
    )

-- ---- a packet that is wanted

pub gives_next : (old new : Reader) (found : InBlock) → new.wanted ≡ old.wanted → new.given ≡ old.given + 1 → old.given ≤ packets_given old.file
    → is_wanted old.wanted found.packet.interface ≡ true → IsInBlock old.file found new.file → IsFound old found new
gives_next old new found same count few w f =
    let p : Packet = packet_of found.packet (block_behind found.len (spent_in new.file)) in
    let r : Captured = as_record old.given p in
    let stands : (wanted : Option ℕ) (fed : List ℕ) (given : List Captured) → StandsFor wanted old fed given → StandsFor wanted new fed (given ++ r ∷ []) =
    λ wanted fed given s.
    let is : is_wanted wanted found.packet.interface ≡ true = ap (λ (o : Option ℕ). is_wanted o found.packet.interface) (sym s.wants) ∙ w in
    let number : length (records_of wanted s.packets) ≡ old.given = ap length (sym s.given_are) ∙ s.given_length in
    record {
      wants = same ∙ s.wants;
      fed_length = s.fed_length ∙ sym f.next.fed;
      given_length = length_push given r ∙ ap (λ (n : ℕ). n + 1) s.given_length ∙ sym count;
      packets = s.packets ++ p ∷ [];
      holds = f.next.stands fed s.packets s.holds;
      given_are = ap (λ (gs : List Captured). gs ++ r ∷ []) s.given_are
          ∙ ap (λ (n : ℕ). records_of wanted s.packets ++ as_record n p ∷ []) (sym number)
          ∙ sym (one_wanted wanted s.packets p is);
    } in
    record {
      next = record {
        stands = stands;
        first = λ wanted fed given s. stands_first wanted new fed (given ++ r ∷ []) (stands wanted fed given s);
        number = refl;
        given = count;
        fed = f.next.fed;
        left = f.next.left;
        held = f.next.held;
      };
      there = f.there;
      within = f.within;
      few = f.few;
      time = f.time;
      number = omega (arith, few, f.number);
    }

-- ---- one of another interface

pub passes_over : (old new : Reader) (found : InBlock) → new.wanted ≡ old.wanted → new.given ≡ old.given
    → is_wanted old.wanted found.packet.interface ≡ false → IsInBlock old.file found new.file → IsAlong old new × (bytes_left new < bytes_left old)
passes_over old new found same count w f =
    let p : Packet = packet_of found.packet (block_behind found.len (spent_in new.file)) in (
      record {
        stands = λ wanted fed given s.
            let isnt : is_wanted wanted found.packet.interface ≡ false = ap (λ (o : Option ℕ). is_wanted o found.packet.interface) (sym s.wants) ∙ w in
            record {
              wants = same ∙ s.wants;
              fed_length = s.fed_length ∙ sym f.next.fed;
              given_length = s.given_length ∙ sym count;
              packets = s.packets ++ p ∷ [];
              holds = f.next.stands fed s.packets s.holds;
              given_are = s.given_are ∙ sym (one_other wanted s.packets p isnt);
            };
        given = count;
        fed = f.next.fed;
        left = omega (arith, f.next.left);
        held = f.next.held;
      },
      f.next.left,
    )

-- ---- no further packet

pub gives_none : (old new : Reader) → new.wanted ≡ old.wanted → new.given ≡ old.given → FindsNone old.file new.file → GivesNone old new
gives_none old new same count f =
    let stands : (wanted : Option ℕ) (fed : List ℕ) (given : List Captured) → StandsFor wanted old fed given → StandsFor wanted new fed given =
    λ wanted fed given s. record {
      wants = same ∙ s.wants;
      fed_length = s.fed_length ∙ sym f.fed;
      given_length = s.given_length ∙ sym count;
      packets = s.packets;
      holds = f.stands fed s.packets s.holds;
      given_are = s.given_are;
    } in
    record {
      stands = stands;
      all = λ wanted fed given s. ap (records_of wanted) (f.all fed s.packets s.holds) ∙ sym s.given_are;
      first = λ wanted fed given s. stands_first wanted old fed given s;
      bad = λ wanted fed given s. f.bad fed s.packets s.holds;
      waiting = record { waits = f.waiting };
      given = count;
      fed = f.fed;
      held = f.held;
      short = f.short;
    }

-- ---- what is malformed

pub gives_bad : (old new : Reader) (b : Bad) → new.wanted ≡ old.wanted → new.given ≡ old.given → FindsBad old.file b new.file → GivesBad old b new
gives_bad old new b same count f = record {
  stands = λ wanted fed given s. record {
    wants = same ∙ s.wants;
    fed_length = s.fed_length ∙ sym f.fed;
    given_length = s.given_length ∙ sym count;
    packets = s.packets;
    holds = f.stands fed s.packets s.holds;
    given_are = s.given_are;
  };
  all = λ wanted fed given s more. ap (records_of wanted) (f.all fed s.packets s.holds more) ∙ sym s.given_are;
  bad = λ wanted fed given s more. f.bad fed s.packets s.holds more;
  long = f.long;
  given = count;
  fed = f.fed;
  held = f.held;
}

-- ---- the same after packets were passed over

pub along_none : (reader : Reader) → IsAlong reader reader
along_none reader = record {
  stands = λ wanted fed given s. s;
  given = refl;
  fed = refl;
  left = omega arith;
  held = omega arith;
}

pub along_more : (old mid new : Reader) → IsAlong old mid → IsAlong mid new → IsAlong old new
along_more old mid new a b = record {
  stands = λ wanted fed given s. b.stands wanted fed given (a.stands wanted fed given s);
  given = b.given ∙ a.given;
  fed = b.fed ∙ a.fed;
  left = omega (arith, a.left, b.left);
  held = omega (arith, a.held, b.held);
}

pub found_after : (old mid new : Reader) (found : InBlock) → IsAlong old mid → IsFound mid found new → IsFound old found new
found_after old mid new found a f =
    let p : Packet = packet_of found.packet (block_behind found.len (spent_in new.file)) in
    let N : ℕ → Type 0 = λ n. GivesNext old (as_record n p) new in
    record {
      next = subst N a.given (record {
        stands = λ wanted fed given s. f.next.stands wanted fed given (a.stands wanted fed given s);
        first = λ wanted fed given s. f.next.first wanted fed given (a.stands wanted fed given s);
        number = a.given;
        given = f.next.given ∙ ap (λ (n : ℕ). n + 1) a.given;
        fed = f.next.fed ∙ a.fed;
        left = omega (arith, f.next.left, a.left);
        held = omega (arith, f.next.held, a.held);
      });
      there = f.there;
      within = f.within;
      few = f.few;
      time = f.time;
      number = omega (arith, f.number, a.given);
    }

pub none_after : (old mid new : Reader) → IsAlong old mid → GivesNone mid new → GivesNone old new
none_after old mid new a g = record {
  stands = λ wanted fed given s. g.stands wanted fed given (a.stands wanted fed given s);
  all = λ wanted fed given s. g.all wanted fed given (a.stands wanted fed given s);
  first = λ wanted fed given s. g.first wanted fed given (a.stands wanted fed given s);
  bad = λ wanted fed given s. g.bad wanted fed given (a.stands wanted fed given s);
  waiting = g.waiting;
  given = g.given ∙ a.given;
  fed = g.fed ∙ a.fed;
  held = omega (arith, g.held, a.held);
  short = g.short;
}

pub bad_after : (old mid new : Reader) (b : Bad) → IsAlong old mid → GivesBad mid b new → GivesBad old b new
bad_after old mid new b a g = record {
  stands = λ wanted fed given s. g.stands wanted fed given (a.stands wanted fed given s);
  all = λ wanted fed given s. g.all wanted fed given (a.stands wanted fed given s);
  bad = λ wanted fed given s. g.bad wanted fed given (a.stands wanted fed given s);
  long = g.long;
  given = g.given ∙ a.given;
  fed = g.fed ∙ a.fed;
  held = omega (arith, g.held, a.held);
}

-- ---- laws

pub waiting_has_all : WaitingHasAll
waiting_has_all wanted reader fed given w s =
    (ap (records_of wanted) (all_of reader.file fed s.packets w.waits s.holds) ∙ sym s.given_are, sound_of reader.file fed s.packets w.waits s.holds)

-- what was not yet read was fed
left_in_file : (file : FileReader) → left_in file ≤ fed_to file
left_in_file (Libpcap reader) = omega arith
left_in_file (Ng reader) = omega arith

pub left_fed : (reader : Reader) → bytes_left reader ≤ bytes_fed reader
left_fed reader = left_in_file reader.file
