-- The records of a capture, while its source is read.
use Rattle.std.proofs.Common.{ℕ, List, ◌++◌, ◌≡◌, ◌∙◌, Option, Some, sym, ap, subst}
use Rattle.std.specs.Prelude.{IsTrue}
use Rattle.ds_base.specs.Outside.{SourceSeen, SourceStays}
use Rattle.ds_base.specs.declared.capture.Bad.{Bad}
use Rattle.input_files.specs.Reading.{Reading, HasRead, ReadsMore, ReadsEnd}
use Rattle.pcap_reader.specs.Captured.{Captured}
use Rattle.pcap_reader.specs.Good.{good}
use Rattle.pcap_reader.specs.Lent.{GivesNone, GivesBad}
use Rattle.pcap_reader.specs.Reader.{Reader}

-- a source that went on twice
pub stays_twice : (first mid last : SourceSeen) → SourceStays first mid → SourceStays mid last → SourceStays first last
stays_twice first mid last a b = record {
  told = b.told ∙ a.told;
  whole = λ told. b.whole (subst IsTrue (sym a.told) told) ∙ a.whole told;
}

-- nothing further was given, and a piece more was read
pub more_read : (wanted : Option ℕ) (reading : Reading) (mid new : Reading) (before after : SourceSeen) (bytes : List ℕ) (given : List Captured)
    → GivesNone reading.reader mid.reader → (more : ReadsMore mid new before after) → HasRead wanted reading before bytes given
    → HasRead wanted new after (bytes ++ more.piece) given
more_read wanted reading mid new before after bytes given g more h =
    more.reads wanted bytes given (record { stands = g.stands wanted bytes given h.stands; front = h.front })

-- nothing further was given, and the source is at its end
pub end_read : (wanted : Option ℕ) (reading : Reading) (mid new : Reading) (before after : SourceSeen) (bytes : List ℕ) (given : List Captured)
    → GivesNone reading.reader mid.reader → ReadsEnd mid new before after → HasRead wanted reading before bytes given
    → HasRead wanted new after bytes (good wanted bytes).records
end_read wanted reading mid new before after bytes given g end h =
    let R : List Captured → Type 0 = λ rs. HasRead wanted new after bytes rs in
    subst R (sym (g.all wanted bytes given h.stands))
    (end.reads wanted bytes given (record { stands = g.stands wanted bytes given h.stands; front = h.front }))

pub end_whole : (wanted : Option ℕ) (reading : Reading) (mid new : Reading) (first before after : SourceSeen) (bytes : List ℕ) (given : List Captured)
    → GivesNone reading.reader mid.reader → ReadsEnd mid new before after → HasRead wanted reading before bytes given → SourceStays first before
    → IsTrue first.told → first.whole ≡ bytes
end_whole wanted reading mid new first before after bytes given g end h stays told =
    sym (stays.whole told)
    ∙ end.whole wanted bytes given (record { stands = g.stands wanted bytes given h.stands; front = h.front }) (subst IsTrue (sym stays.told) told)

-- the first malformed place of what was read is that of the whole file
pub bad_read : (wanted : Option ℕ) (reading : Reading) (new : Reader) (b : Bad) (first before : SourceSeen) (bytes : List ℕ) (given : List Captured)
    → GivesBad reading.reader b new → HasRead wanted reading before bytes given → SourceStays first before
    → IsTrue first.told → (good wanted first.whole).bad ≡ Some b
bad_read wanted reading new b first before bytes given g h stays told =
    ap (λ (file : List ℕ). (good wanted file).bad) (sym (stays.whole told) ∙ h.front (subst IsTrue (sym stays.told) told))
    ∙ g.bad wanted bytes given h.stands before.left
