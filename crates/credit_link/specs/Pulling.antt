-- What a pull answers.
use Rattle.std.specs.Prelude.{ℕ, ◌≡◌, ◌≢◌, ◌⊎◌, Bool, false, IsTrue, List, length, Option, Some, None, Result, Ok, Err}
use Rattle.sha2.specs.Sha256.{sha256}
use Rattle.node_frames.specs.declared.frame.Frame.{Frame}
use Rattle.node_frames.specs.declared.wire.Wire.{Wire}
use Rattle.node_frames.specs.declared.wire.Wire.TheVariants.{Plain, Sealed}
use Rattle.node_frames.specs.declared.wire.Seal.{Seal}
use Rattle.node_frames.specs.Table.{Spells}
use Rattle.credit_link.specs.declared.link_bad.LinkBad.{LinkBad}
use Rattle.credit_link.specs.declared.link_bad.LinkBad.TheVariants as Bad
use Rattle.credit_link.specs.Frames.{capped, IsCounted, bytes_of_all}
use Rattle.credit_link.specs.Ahead.{IsPart, IsUnlawful, HasWhole, payload_ahead}
use Rattle.credit_link.specs.Receiving.{ReceiverSeen, GivesFrame}

-- the end of the link stands there again
abbrev pub RepeatsEnd : (finished : Bool) → Wire → Type 0
RepeatsEnd finished (Plain frame) = ⊥
RepeatsEnd finished (Sealed seal) = IsTrue finished

-- the length word is unlawful; or the payload spells no frame, or the end of the link once more
abbrev pub IsFrameBad : (finished : Bool) (box : List ℕ) (len : ℕ) → Type 0
IsFrameBad finished box len = IsUnlawful box len ⊎ (HasWhole box len × ((wire : Wire) → Spells wire (payload_ahead box len) → RepeatsEnd finished wire))

-- the link's end tells of other frames than came before it
pub record IsSealBad (given : List Frame) (finished : Bool) (box : List ℕ) (told found : Seal) : Type 0 where
  pub len : ℕ
  pub whole : HasWhole box len
  pub spells : Spells (Sealed told) (payload_ahead box len)
  pub first : finished ≡ false
  pub found_is : IsCounted given → found ≡ record { frames = length given; digest = record { bytes = sha256 (bytes_of_all given) } }
  pub differs : IsCounted given → told ≢ found

-- a fault stands next, at the offset behind all frames given
abbrev pub MeetsBad : (given : List Frame) (finished : Bool) (box : List ℕ) → LinkBad → Type 0
MeetsBad given finished box bad =
    ((len : ℕ) × (bad ≡ Bad.Frame (capped (length (bytes_of_all given))) len) × IsFrameBad finished box len)
    ⊎ ((told : Seal) × (found : Seal) × (bad ≡ Bad.Seal (capped (length (bytes_of_all given))) told found) × IsSealBad given finished box told found)

-- what a pull answers: the next frame; nothing, where no further whole frame and no fault stands next; or the
-- first fault, which was kept or which stands next
abbrev pub PullAnswers : (before after : ReceiverSeen) → Result (Option Frame) LinkBad → Type 0
PullAnswers before after (Ok (Some frame)) = GivesFrame before after frame
PullAnswers before after (Ok None) = IsPart before.box × (after ≡ before)
PullAnswers before after (Err bad) =
    ((before.fault ≡ Some bad) × (after ≡ before)) ⊎ (MeetsBad before.given before.finished before.box bad × (after ≡ record before { fault = Some bad }))
