-- What was printed of the lines of a capture.
use Rattle.std.proofs.Common.{ℕ, List, [], ◌∷◌, ◌++◌, ◌≡◌, ◌∙◌, Bool, Option, None, sym, ap, subst}
use Rattle.std.specs.Prelude.{IsTrue}
use Rattle.std.specs.List.{flat_map}
use Rattle.std.proofs.lemmas.Grind.{flat_map-append}
use Rattle.ds_base.specs.Gain.{GainsPrefix}
use Rattle.ds_base.specs.declared.capture.Bad.{Bad}
use Rattle.ds_base.specs.Outside.{SinkSeen, SinkStays}
use Rattle.pcap_reader.specs.Captured.{Captured}
use Rattle.pcap_reader.specs.Good.{good}
use Rattle.stack_lines.specs.declared.line.Asking.{Asking}
use Rattle.stack_lines.specs.Stacks.{last_line, last_line_of}
use Rattle.stack_lines.specs.Printing.{lines_by, report_by, HasPrinted, HasBegun}
use Rattle.stack_lines.proofs.Printed.{gains_front_of_rest, gains_longer, flat_map-more}

-- a write of what waits leaves a front of the text
pub begun_by_write : (start text piece waiting : List ℕ) (before after : SinkSeen) → SinkStays before after
    → piece ≡ waiting → (IsTrue before.told → GainsPrefix before.written after.written piece)
    → HasPrinted start before waiting text → HasBegun start after text
begun_by_write start text piece waiting before after stays is wrote h told =
    let telling = rw stays.told at told in
    gains_front_of_rest start before.written text waiting after.written (h telling) (rw is at wrote telling)

-- a front of the lines of the first records is one of the lines of all
pub begun_of_first : (lines : Captured → List ℕ) (start written : List ℕ) (given whole : List Captured)
    → (later : List Captured) × (whole ≡ given ++ later) → GainsPrefix start written (flat_map lines given)
    → GainsPrefix start written (flat_map lines whole)
begun_of_first lines start written given whole first begun =
    let P : List ℕ → Type 0 = λ text. GainsPrefix start written text in
    subst P (sym (ap (flat_map lines) first.1 ∙ flat_map-append lines given first.0))
    (gains_longer start written (flat_map lines given) (flat_map lines first.0) begun)

-- the same with the line of the last of the first records apart
pub begun_with_line : (lines : Captured → List ℕ) (start written line : List ℕ) (given : List Captured) (r : Captured) (whole : List Captured)
    → line ≡ lines r → (later : List Captured) × (whole ≡ (given ++ r ∷ []) ++ later)
    → GainsPrefix start written (flat_map lines given ++ line) → GainsPrefix start written (flat_map lines whole)
begun_with_line lines start written line given r whole is first begun =
    let P : List ℕ → Type 0 = λ text. GainsPrefix start written text in
    begun_of_first lines start written (given ++ r ∷ []) whole first
    (subst P (ap (λ xs. flat_map lines given ++ xs) is ∙ sym (flat_map-more lines given r)) begun)

-- the same of a whole file, of which these are the bytes
pub begun_of_whole : (asking : Asking) (start written bytes whole : List ℕ) → whole ≡ bytes
    → GainsPrefix start written (lines_by asking (good None bytes).records) → GainsPrefix start written (lines_by asking (good None whole).records)
begun_of_whole asking start written bytes whole is begun =
    let P : List ℕ → Type 0 = λ file. GainsPrefix start written (lines_by asking (good None file).records) in
    subst P (sym is) begun

-- a front of the lines is one of the report
pub begun_report : (asking : Asking) (start written bytes : List ℕ) → GainsPrefix start written (lines_by asking (good None bytes).records)
    → GainsPrefix start written (report_by asking bytes)
begun_report asking start written bytes begun =
    gains_longer start written (lines_by asking (good None bytes).records) (last_line_of (good None bytes).bad (good None bytes).cut) begun

-- the lines and the last one are the report of a file that is not malformed
pub whole_report : (asking : Asking) (bytes : List ℕ) (cut : Bool) → (good None bytes).bad ≡ None → cut ≡ (good None bytes).cut
    → lines_by asking (good None bytes).records ++ last_line cut ≡ report_by asking bytes
whole_report asking bytes cut sound is =
    ap (λ (c : Bool). lines_by asking (good None bytes).records ++ last_line c) is
    ∙ ap (λ (o : Option Bad). lines_by asking (good None bytes).records ++ last_line_of o (good None bytes).cut) (sym sound)
