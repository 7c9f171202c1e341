-- A grouper's work: its job, its place, its links, what came on each link in, and what it keeps between frames.
use Rattle.std.specs.Prelude.{ℕ, ◌≡◌, ◌<◌, ◌≤◌, ◌+◌, ◌*◌, false, List, Option, length, map, sum_by, slice_index_or}
use Rattle.node_frames.specs.declared.frame.Frame.{Frame}
use Rattle.credit_link.specs.Ahead.{IsPart}
use Rattle.credit_link.specs.Ends.{RxSeen}
use Rattle.credit_link.specs.Frames.{has_finish}
use Rattle.credit_link.specs.declared.turn.NodeFault.{NodeFault}
use Rattle.shuffle_poll.specs.Shuffles.{ShuffleSeen}
use Rattle.summary_spec.specs.Declaration.{Declared}
use Rattle.run_law.specs.Shapes.{Shape}
use Rattle.node_lanes.specs.Ends.{put_on, puts_with, InsStand, InsAreQuiet, OutsStand, OutsAreQuiet}
use Rattle.grouper_state.specs.States.{state_is}
use Rattle.grouper_state.specs.declared.state.GrouperState.{GrouperState}
use Rattle.net_law.specs.Groupers.{GrouperSeen}

pub record WorkSeen : Type 0 where
  pub job : Declared
  pub me : ℕ
  pub groupers : ℕ
  pub processors : ℕ
  pub credits : ℕ
  pub ins : List RxSeen
  pub orders : List (List Frame)
  pub outs : ShuffleSeen
  pub state : GrouperState

-- the grouper that does it, with the fault that it met
abbrev pub grouper_of : WorkSeen → Option NodeFault → GrouperSeen
grouper_of w fault = record { job = w.job; me = w.me; groupers = w.groupers; credits = w.credits; ins = w.ins; outs = w.outs; fault = fault }

-- the pipeline that it is part of
abbrev pub shape_with : (parsers groupers processors : ℕ) → Shape
shape_with parsers groupers processors = record { parsers = parsers; groupers = groupers; processors = processors }

abbrev pub shape_in : WorkSeen → Shape
shape_in w = shape_with (length w.ins) w.groupers (length w.outs.links)

-- the frames taken on each link in
abbrev pub taken_off : List RxSeen → List (List Frame)
taken_off ins = map (λ (r : RxSeen). r.given) ins

-- the frames put for each link out
abbrev pub puts_of : ShuffleSeen → List (List Frame)
puts_of outs = puts_with outs.links outs.queues

-- What is true as long as it met no fault: each frame taken may stand where it stands, was noted as such, was taken up in
-- the state, and was granted.
pub record IsSound (w : WorkSeen) : Type 0 where
  pub place : (w.me < w.groupers) × (w.groupers ≤ 16)
  pub processors : w.processors ≡ length w.outs.links
  pub ins_few : (1 ≤ length w.ins) × (length w.ins ≤ 16)
  pub outs_few : (1 ≤ length w.outs.links) × (length w.outs.links ≤ 16)
  pub ins : InsStand w.credits w.ins
  pub outs : OutsStand w.credits w.outs
  pub quiet : InsAreQuiet w.ins × OutsAreQuiet w.outs
  pub orders : w.orders ≡ taken_off w.ins
  pub state : state_is w.job (shape_in w) w.me (taken_off w.ins) (puts_of w.outs) w.state

-- few frames were put on each link: two for each one taken, and the end
abbrev pub PutsFew : WorkSeen → Type 0
PutsFew w = (k : ℕ) → k < length w.outs.links → length (put_on w.outs k) ≤ 2 * sum_by length (taken_off w.ins) + 1

-- of the first links in, each that goes on has no whole frame in its box
abbrev pub AreEmpty : (count : ℕ) → List RxSeen → Type 0
AreEmpty count ins = (j : ℕ) (d : RxSeen) → j < count → has_finish (slice_index_or ins j d).given ≡ false → IsPart (slice_index_or ins j d).box
