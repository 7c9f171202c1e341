-- What one step of a parser does.
use Rattle.std.specs.Prelude.{ℕ, ◌≡◌, ◌<◌, ◌+◌, ◌∷◌, ◌++◌, [], true, false, if◌then◌else◌, Some, None, length}
use Rattle.credit_link.specs.declared.turn.NodeFault.{NodeFault}
use Rattle.node_frames.specs.declared.frame.Frame.TheVariants.{Finish}
use Rattle.shuffle_poll.specs.Shuffles.{ShuffleSeen}
use Rattle.node_lanes.specs.Ends.{put_on}
use Rattle.net_law.specs.Parsers.{ParserGoes, ParserMeets, HasReadAll}
use Rattle.parser_steps.specs.Seen.{StepsSeen, seen_of, bytes_read, records_read, captures_ended}
use Rattle.parser_steps.specs.Holds.{ParserHolds}
use Rattle.parser_steps.specs.declared.step.Stepped.{Stepped}
use Rattle.parser_steps.specs.declared.step.Stepped.TheVariants.{Took, Read, CaptureEnded, Ended}

-- so many records, bytes and captures' ends more, of a parser that has not put the end
pub record StepsOn (before after : StepsSeen) (records ends : ℕ) : Type 0 where
  pub records_more : records_read after ≡ records_read before + records
  pub ends_more : captures_ended after ≡ captures_ended before + ends
  pub going : (before.finished ≡ false) × (after.finished ≡ false)

-- Every capture has ended, and nothing is read any more; the end was put on each link, where it was not put before.
pub record StepsEnd (before after : StepsSeen) (outs outs' : ShuffleSeen) : Type 0 where
  pub all : HasReadAll (seen_of after outs' None)
  pub same : after ≡ record before { finished = true }
  pub put : (k : ℕ) → k < length outs.links → put_on outs' k ≡ put_on outs k ++ (if before.finished then [] else Finish ∷ [])
  pub still : before.finished ≡ true → outs' ≡ outs

-- what a step did, by its answer
abbrev pub StepsBy : (before after : StepsSeen) → (outs outs' : ShuffleSeen) → Stepped → Type 0
StepsBy before after outs outs' Took = StepsOn before after 1 0 × (bytes_read after ≡ bytes_read before)
StepsBy before after outs outs' Read = StepsOn before after 0 0 × (bytes_read before < bytes_read after)
StepsBy before after outs outs' CaptureEnded = StepsOn before after 0 1 × (bytes_read after ≡ bytes_read before)
StepsBy before after outs outs' Ended = StepsEnd before after outs outs'

-- a step that was done, whole
pub record StepsWell (before after : StepsSeen) (outs outs' : ShuffleSeen) (stepped : Stepped) : Type 0 where
  pub holds : ParserHolds after outs' None
  pub goes : ParserGoes (seen_of before outs None) (seen_of after outs' None)
  pub links : outs'.links ≡ outs.links
  pub steps : StepsBy before after outs outs' stepped

-- a step that met a fault
pub record StepsBadly (before after : StepsSeen) (outs outs' : ShuffleSeen) (bad : NodeFault) : Type 0 where
  pub holds : ParserHolds after outs' (Some bad)
  pub goes : ParserGoes (seen_of before outs None) (seen_of after outs' (Some bad))
  pub unput : outs' ≡ outs
  pub causes : ParserMeets (seen_of before outs None) (seen_of after outs' (Some bad)) bad
