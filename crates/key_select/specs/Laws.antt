-- What is true of the accepted summaries of a capture, whatever its records are.
use Rattle.std.specs.Prelude.{ℕ, ◌≡◌, ◌≤◌, List, ◌++◌}
use Rattle.std.specs.List.{AllByRecursion}
use Rattle.ds_base.specs.declared.summary.Summary.{Summary}
use Rattle.pcap_reader.specs.Captured.{Captured}
use Rattle.summary_spec.specs.Declaration.{Declared}
use Rattle.key_select.specs.Fates.{accepted_after, accepted_of}
use Rattle.key_select.specs.Late.{mark_of}

-- What is accepted of two parts is what is accepted of the first, and then of the second after it.
abbrev pub AcceptedInParts : Type 0
AcceptedInParts = (job : Declared) (capture : ℕ) (taken later : List Captured)
    → accepted_of job capture (taken ++ later) ≡ accepted_of job capture taken ++ accepted_after job capture taken later

-- the summary is of the capture, and its time is no earlier than the mark
abbrev pub IsFromMark : (capture mark : ℕ) → Summary → Type 0
IsFromMark capture mark s = (s.at.capture ≡ capture) × (mark ≤ s.at.time)

-- Each summary that is accepted later is of the capture, and has a time of at least the greatest time of
-- the records before less the skew.
abbrev pub LaterAreFromMark : Type 0
LaterAreFromMark = (job : Declared) (capture : ℕ) (taken later : List Captured)
    → AllByRecursion (IsFromMark capture (mark_of job capture taken)) (accepted_after job capture taken later)
