-- What the promise of a parser asks of a step, and that the step keeps it.
use Rattle.std.specs.Prelude.{ℕ, ◌≡◌, ◌≢◌, ◌<◌, ◌≤◌, ◌+◌, ◌++◌, ◌∷◌, [], Bool, true, false, List, Option, Some, None, option_to_list, length}
use Rattle.std.specs.List.{AllByRecursion}
use Rattle.ds_base.specs.declared.summary.Summary.{Summary}
use Rattle.key_select.specs.Fates.{accepted_after}
use Rattle.key_select.specs.Wanted.{wanted_of}
use Rattle.node_frames.specs.declared.frame.Frame.{Frame}
use Rattle.node_frames.specs.declared.frame.Frame.TheVariants.{Item}
use Rattle.pcap_reader.specs.Captured.{Captured}
use Rattle.pcap_reader.specs.Lent.{AreFirst}
use Rattle.run_law.specs.Links.{MayFollow, ItemRule}
use Rattle.run_law.specs.Nodes.{Reading, ParserKeeps, ParserMarks}
use Rattle.run_law.specs.Shapes.{Shape, IsCaptureOf, is_of_shard}
use Rattle.summary_spec.specs.Declaration.{Declared}
use Rattle.parser_captures.specs.Puts.{frames_for}

-- the Item may stand behind what was put for its grouper
abbrev pub MayBePut : Declared → Shape → (p : ℕ) → (items : ℕ → List Frame) → Option Summary → Type 0
MayBePut job shape p items None = Unit {0}
MayBePut job shape p items (Some s) = (g : ℕ) → g < shape.groupers → is_of_shard g shape.groupers s.key ≡ true → MayFollow (ItemRule job shape p g) (items g) (Item s)

-- One capture goes on: more was read of it, some records more were taken up, and what was found was put.
pub record GoesOn (job : Declared) (shape : Shape) (p : ℕ) (read now : ℕ → Reading) (items : ℕ → List Frame) (put : ℕ → List Frame) (c : ℕ) (more : List Captured) (found : Option Summary) : Type 0 where
  pub own : IsCaptureOf (length job.captures) shape p c
  pub going : (read c).ended ≡ false
  pub records : (now c).records ≡ (read c).records ++ more
  pub others : (d : ℕ) → d ≢ c → now d ≡ read d
  pub first : AreFirst (wanted_of job c) (now c).bytes (now c).records
  pub accepted : option_to_list found ≡ accepted_after job c (read c).records more
  pub own_found : AllByRecursion (λ (s : Summary). s.at.capture ≡ c) (option_to_list found)
  pub may : MayBePut job shape p items found
  pub frames : (g : ℕ) → g < shape.groupers → put g ≡ items g ++ frames_for shape.groupers g found

-- a step with a capture that goes on keeps what a parser promises
abbrev pub GoingKeeps : Type 0
GoingKeeps = (job : Declared) (shape : Shape) (p : ℕ) (read now : ℕ → Reading) (items put : ℕ → List Frame) (counts : List Frame)
    (c : ℕ) (more : List Captured) (found : Option Summary)
    → ParserKeeps job shape p read items counts → GoesOn job shape p read now items put c more found → ParserKeeps job shape p now put counts

-- and what it promises of its marks, where no more than 32 records were taken up since the last one
abbrev pub GoingMarks : Type 0
GoingMarks = (job : Declared) (shape : Shape) (p : ℕ) (behind after : ℕ → ℕ) (read now : ℕ → Reading) (items put : ℕ → List Frame)
    (c : ℕ) (more : List Captured) (found : Option Summary)
    → ParserMarks job shape p behind read items → GoesOn job shape p read now items put c more found
    → after c ≡ behind c + length more → ((d : ℕ) → d ≢ c → after d ≡ behind d) → after c ≤ 32 → ParserMarks job shape p after now put
