-- A query processor's work: its job, its links, what came on each link in, and what it keeps between frames.
use Rattle.std.specs.Prelude.{ℕ, ◌≡◌, ◌<◌, ◌≤◌, ◌+◌, ◌*◌, true, false, List, Option, None, length, map, sum_by, slice_index_or}
use Rattle.node_frames.specs.declared.frame.Frame.{Frame}
use Rattle.credit_link.specs.Ahead.{IsPart}
use Rattle.credit_link.specs.Ends.{RxSeen}
use Rattle.credit_link.specs.Frames.{has_finish}
use Rattle.credit_link.specs.declared.turn.NodeFault.{NodeFault}
use Rattle.shuffle_poll.specs.Shuffles.{ShuffleSeen}
use Rattle.summary_spec.specs.Declaration.{Declared}
use Rattle.summary_spec.specs.Lawful.{IsLawful}
use Rattle.run_law.specs.Nodes.{least_of_links}
use Rattle.node_lanes.specs.Ends.{put_on, InsStand, InsAreQuiet, OutsStand, OutsAreQuiet}
use Rattle.query_state.specs.States.{state_is, taken_on, is_mark_due}
use Rattle.query_state.specs.declared.state.QueryState.{QueryState}
use Rattle.net_law.specs.Processors.{ProcessorSeen}

pub record WorkSeen : Type 0 where
  pub job : Declared
  pub credits : ℕ
  pub ins : List RxSeen
  pub orders : List (List Frame)
  pub outs : ShuffleSeen
  pub state : QueryState

-- the processor that does it, with the fault that it met
abbrev pub processor_of : WorkSeen → Option NodeFault → ProcessorSeen
processor_of w fault = record { job = w.job; credits = w.credits; ins = w.ins; outs = w.outs; fault = fault }

-- the frames taken on each link in
abbrev pub taken_off : List RxSeen → List (List Frame)
taken_off ins = map (λ (r : RxSeen). r.given) ins

-- the frames put for the merge
abbrev pub put_by : ShuffleSeen → List Frame
put_by outs = put_on outs 0

-- What is true as long as it met no fault: each frame taken may stand where it stands, was noted as such, was answered
-- where a group is whole with it, and was granted.
pub record IsSound (w : WorkSeen) : Type 0 where
  pub job_is : IsLawful w.job
  pub ins_few : (1 ≤ length w.ins) × (length w.ins ≤ 16)
  pub one_out : length w.outs.links ≡ 1
  pub ins : InsStand w.credits w.ins
  pub outs : OutsStand w.credits w.outs
  pub quiet : InsAreQuiet w.ins × OutsAreQuiet w.outs
  pub orders : w.orders ≡ taken_off w.ins
  pub state : state_is w.job (taken_off w.ins) (put_by w.outs) w.state

-- few frames were put: two for each one taken, and those of the profile and the end
abbrev pub PutsFew : WorkSeen → Type 0
PutsFew w = length (put_by w.outs) ≤ 2 * sum_by length (taken_off w.ins) + 4097

-- no frame is due: no mark, and once all links in have ended the end was put
pub record IsNothingDue (w : WorkSeen) : Type 0 where
  pub mark : is_mark_due (least_of_links (length (taken_off w.ins)) (taken_on (taken_off w.ins))) w.state.mark ≡ false
  pub over : least_of_links (length (taken_off w.ins)) (taken_on (taken_off w.ins)) ≡ None → w.state.finished ≡ true

-- of the first links in, each that goes on has no whole frame in its box
abbrev pub AreEmpty : (count : ℕ) → List RxSeen → Type 0
AreEmpty count ins = (j : ℕ) (d : RxSeen) → j < count → has_finish (slice_index_or ins j d).given ≡ false → IsPart (slice_index_or ins j d).box
