-- What the passes of a turn do to a parser: each is a step with its captures and a poll of its links behind that.
use Rattle.std.specs.Prelude.{ℕ, ◌≡◌, ◌≤◌, ◌<◌, ◌+◌, ◌⊎◌, Bool, true, false, IsTrue, if◌then◌else◌, length}
use Rattle.std.specs.List.{sum_by}
use Rattle.credit_link.specs.Frames.{has_finish}
use Rattle.credit_link.specs.declared.turn.NodeFault.{NodeFault}
use Rattle.shuffle_poll.specs.Shuffles.{ShuffleSeen}
use Rattle.round_law.specs.Rows.{moved}
use Rattle.run_law.specs.Nodes.{Reading}
use Rattle.node_lanes.specs.Ends.{put_on, OutsStand, OutsAreQuiet, OutsGo}
use Rattle.node_lanes.specs.Passes.{OutsRest, OutsPass, OutsNoLess, OutsAreCalm}
use Rattle.node_lanes.specs.Resting.{NoneHeld}
use Rattle.parser_steps.specs.declared.step.Stepped.{Stepped}
use Rattle.parser_steps.specs.declared.step.Stepped.TheVariants.{Took, Read, CaptureEnded, Ended}
use Rattle.net_law.specs.Parsers.{ParserSeen, ParserGoes, ParserMeets, SomeWaits, HasReadAll, parser_view, parser_tells}

-- ---- a poll

-- what every poll keeps, also one that meets a fault
pub record PollKeeps (before after : ShuffleSeen) : Type 0 where
  pub stand : (number : ℕ) → OutsStand number before → OutsStand number after
  pub goes : OutsGo before after
  pub put : (k : ℕ) → put_on after k ≡ put_on before k

-- A poll without a fault. Where something was taken up before it and no frame waits, it may be left out.
pub record Polls (took did : Bool) (before after : ShuffleSeen) : Type 0 where
  pub quiet : OutsAreQuiet after
  pub calm : OutsAreCalm before after
  pub no_less : OutsNoLess before after
  pub more : did ≡ true → OutsPass true before after
  pub still : did ≡ false → took ≡ false → OutsRest before after

-- ---- what was read

-- the bytes read and the records taken up
abbrev pub taken_in : ParserSeen → ℕ
taken_in s = (parser_view s).read + (parser_view s).records

-- how many of its captures were read to their ends
abbrev pub ended_in : ParserSeen → ℕ
ended_in s = sum_by (λ (r : Reading). if r.ended then 1 else 0) s.reads

-- nothing was read, and no record taken up
pub record SameTaken (before after : ParserSeen) : Type 0 where
  pub read : (parser_view after).read ≡ (parser_view before).read
  pub records : (parser_view after).records ≡ (parser_view before).records

-- all captures were read to their ends, and the end was put for each link
pub record HasEnded (s : ParserSeen) : Type 0 where
  pub read : HasReadAll s
  pub put : (k : ℕ) → k < length s.outs.links → IsTrue (has_finish (put_on s.outs k))

-- whether a step has read or taken up something, and whether it found that all captures have ended
abbrev pub is_taken : Stepped → Bool
is_taken Took = true
is_taken Read = true
is_taken CaptureEnded = false
is_taken Ended = false

abbrev pub is_ended : Stepped → Bool
is_ended Took = false
is_ended Read = false
is_ended CaptureEnded = false
is_ended Ended = true

-- what a step does, by both
pub record StepTakes (took over : Bool) (before after : ParserSeen) : Type 0 where
  pub taken : took ≡ true → taken_in before < taken_in after
  pub same : took ≡ false → SameTaken before after
  pub ended : over ≡ true → HasEnded after
  pub counts : over ≡ false → taken_in before + ended_in before + 1 ≤ taken_in after + ended_in after

-- ---- one pass, and many

-- it went on, and no pipe failed
pub record GoesCalm (before after : ParserSeen) : Type 0 where
  pub goes : ParserGoes before after
  pub calm : OutsAreCalm before.outs after.outs
  pub no_less : parser_tells before → moved (parser_view before) ≤ moved (parser_view after)

-- no further step can be made now, since a frame waits or all has ended; or none waits
abbrev pub RestsBy : Bool → ParserSeen → Type 0
RestsBy true s = SomeWaits s.outs ⊎ HasEnded s
RestsBy false s = NoneHeld s.outs

-- nothing moved in a poll behind the last frame that was put
pub record PollsStill (before after : ShuffleSeen) : Type 0 where
  pub put : ShuffleSeen
  pub links : put.links ≡ before.links
  pub still : OutsRest put after

-- by whether something moved
abbrev pub PassTells : (did : Bool) (before after : ParserSeen) → Type 0
PassTells true before after = parser_tells before → moved (parser_view before) < moved (parser_view after)
PassTells false before after = SameTaken before after × PollsStill before.outs after.outs

pub record OnePass (did rests : Bool) (before after : ParserSeen) : Type 0 where
  pub goes : GoesCalm before after
  pub tells : PassTells did before after
  pub rests_by : RestsBy rests after
  pub counts : rests ≡ false → taken_in before + ended_in before + 1 ≤ taken_in after + ended_in after

-- from the beginning of the turn on
abbrev pub AllTell : (did : Bool) (before after : ParserSeen) → Type 0
AllTell true before after = parser_tells before → moved (parser_view before) < moved (parser_view after)
AllTell false before after = SameTaken before after × OutsRest before.outs after.outs

pub record ManyPasses (did rests : Bool) (count : ℕ) (before after : ParserSeen) : Type 0 where
  pub goes : GoesCalm before after
  pub tells : AllTell did before after
  pub rests_by : RestsBy rests after
  pub counts : rests ≡ false → taken_in before + ended_in before + count ≤ taken_in after + ended_in after

-- All passes of a turn: where nothing moved, a frame waits or all has ended; and where no frame waits and some capture
-- goes on, at least 960 bytes were read and records taken up.
pub record HasPassed (did : Bool) (before after : ParserSeen) : Type 0 where
  pub goes : GoesCalm before after
  pub tells : AllTell did before after
  pub rests : did ≡ false → SomeWaits after.outs ⊎ HasEnded after
  pub works : NoneHeld after.outs → ¬ HasReadAll after → taken_in before + 960 ≤ taken_in after

-- it went on until it met a fault
pub record MeetsFault (before after : ParserSeen) (bad : NodeFault) : Type 0 where
  pub goes : ParserGoes before after
  pub meets : ParserMeets before after bad
