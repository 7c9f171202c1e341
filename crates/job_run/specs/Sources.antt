-- The sources of the captures of a run.
use Rattle.std.specs.Prelude.{ℕ, ◌≡◌, ◌<◌, IsTrue, List, All, length, map, slice_index_or}
use Rattle.ds_base.specs.Outside.{SourceSeen, SourceStays}

-- each of them tells
abbrev pub AllTell : List SourceSeen → Type 0
AllTell sources = All (λ (s : SourceSeen). IsTrue s.told) sources

-- the files that they tell, in the order of the captures
abbrev pub files_of : List SourceSeen → List (List ℕ)
files_of sources = map (λ (s : SourceSeen). s.whole) sources

-- they are as many, and each goes on telling of the same bytes
pub record SourcesStay (before after : List SourceSeen) : Type 0 where
  pub as_many : length after ≡ length before
  pub each : (c : ℕ) (d : SourceSeen) → c < length before → SourceStays (slice_index_or before c d) (slice_index_or after c d)

-- no read of any of them has failed
abbrev pub AreQuiet : List SourceSeen → Type 0
AreQuiet sources = All (λ (s : SourceSeen). s.faults ≡ 0) sources
