use Rattle.std.proofs.Common.{ℕ, List, ◌≡◌, Option, Some, None, length, true, sym, ap, subst}
use Rattle.ds_base.specs.Outside.{SourceSeen}
use Rattle.ds_base.specs.declared.capture.Bad.{Bad}
use Rattle.ds_base.specs.declared.capture.Tail.{Tail}
use Rattle.pcap_reader.specs.Captured.{Captured}
use Rattle.pcap_reader.specs.Format.{is_short_header}
use Rattle.pcap_reader.specs.Good.{good}
use Rattle.pcap_reader.specs.Reader.{Reader, StandsFor}
use Rattle.input_files.specs.Reading.{Reading, HasRead}
use Rattle.input_files.proofs.More.{whole_of, short_of}
use Rattle.input_files.proofs.reading.CaptureReading.finish.Goals as goal

-- what is said of a file at its end
abbrev IsTail : (wanted : Option ℕ) → (bytes : List ℕ) → Tail → Type 0
IsTail wanted bytes t = ((good wanted bytes).bad ≡ None) × (t.records ≡ length (good wanted bytes).records) × (t.cut ≡ (good wanted bytes).cut)

abbrev IsShort : (wanted : Option ℕ) → (bytes : List ℕ) → Bad → Type 0
IsShort wanted bytes b = ((good wanted bytes).bad ≡ Some b) × (is_short_header b.what ≡ true)

pub returns-clause-whole : goal.returns-clause-whole
returns-clause-whole c =
    let now : Reader = c.self.inside.reader in
    let same : c.args.self.now.reader ≡ now = ap (λ (r : Reading). r.reader) (sym c.self.view_is) in
    whole_of c.finish.result (λ t. (wanted : Option ℕ) (fed : List ℕ) (given : List Captured) → StandsFor wanted now fed given → IsTail wanted fed t)
    (λ t. (wanted : Option ℕ) (source : SourceSeen) (bytes : List ℕ) (given : List Captured) → HasRead wanted c.args.self.now source bytes given → IsTail wanted bytes t)
    (λ t e wanted source bytes given h. e wanted bytes given (subst (λ (r : Reader). StandsFor wanted r bytes given) same h.stands))
    c.finish.ensures.whole

pub returns-clause-short : goal.returns-clause-short
returns-clause-short c =
    let now : Reader = c.self.inside.reader in
    let same : c.args.self.now.reader ≡ now = ap (λ (r : Reading). r.reader) (sym c.self.view_is) in
    short_of c.finish.result (λ b. (wanted : Option ℕ) (fed : List ℕ) (given : List Captured) → StandsFor wanted now fed given → IsShort wanted fed b)
    (λ b. (wanted : Option ℕ) (source : SourceSeen) (bytes : List ℕ) (given : List Captured) → HasRead wanted c.args.self.now source bytes given → IsShort wanted bytes b)
    (λ b e wanted source bytes given h. e wanted bytes given (subst (λ (r : Reader). StandsFor wanted r bytes given) same h.stands))
    c.finish.ensures.short
