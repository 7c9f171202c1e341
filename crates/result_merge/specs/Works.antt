-- The work of the merge: its job, its links, what came on each link, what it keeps between frames, and its sink.
use Rattle.std.specs.Prelude.{ℕ, ◌≡◌, ◌<◌, ◌≤◌, ◌+◌, ◌-◌, ◌&&◌, Bool, true, false, List, [], ◌∷◌, ◌++◌, Option, Some, None, length, map, slice_index_or, slice_set}
use Rattle.ds_base.specs.Outside.{SinkSeen}
use Rattle.node_frames.specs.declared.frame.Frame.{Frame}
use Rattle.credit_link.specs.Ends.{RxSeen}
use Rattle.credit_link.specs.Frames.{has_finish}
use Rattle.credit_link.specs.declared.turn.NodeFault.{NodeFault}
use Rattle.summary_spec.specs.Declaration.{Declared}
use Rattle.summary_spec.specs.Lawful.{IsLawful}
use Rattle.run_law.specs.Nodes.{MergeKeeps, HasWrittenDue}
use Rattle.run_law.specs.Shapes.{Shape}
use Rattle.node_lanes.specs.Ends.{InsStand, InsAreQuiet}
use Rattle.merge_state.specs.States.{state_is}
use Rattle.merge_state.specs.declared.state.MergeState.{MergeState}
use Rattle.net_law.specs.Merges.{MergeSeen, TakesLawful}

-- Its job, how many parsers there are, and the credits of its links; its links in; the frames noted of each parser and of
-- each processor; what it keeps of these between frames; and its sink, the name of the reference to it, and the text that
-- the sink has taken since the start.
pub record WorkSeen : Type 0 where
  pub job : Declared
  pub parsers : ℕ
  pub credits : ℕ
  pub ins : List RxSeen
  pub counts : List (List Frame)
  pub answers : List (List Frame)
  pub state : MergeState
  pub sink : SinkSeen
  pub lent : ℕ
  pub gained : List ℕ

-- ---- what came

-- the frames taken on each link in
abbrev pub taken_off : List RxSeen → List (List Frame)
taken_off ins = map (λ (r : RxSeen). r.given) ins

-- the frames noted of each link in, first one a parser and then one a processor
abbrev pub noted : WorkSeen → List (List Frame)
noted w = w.counts ++ w.answers

-- of these lists the one of link j, and the lists with one frame more there
abbrev pub taken_on : List (List Frame) → ℕ → List Frame
taken_on taken j = slice_index_or taken j []

abbrev pub taken_more : List (List Frame) → ℕ → Frame → List (List Frame)
taken_more taken j frame = slice_set taken j (taken_on taken j ++ frame ∷ [])

-- the shape of a pipeline with so many parsers, links to the merge, and groupers
abbrev pub shape_by : (parsers links groupers : ℕ) → Shape
shape_by parsers links groupers = record { parsers = parsers; groupers = groupers; processors = links - parsers }

-- the state stands for these frames of the parsers and of the processors, and for the text that was pushed
abbrev pub state_holds : Declared → (parsers : ℕ) → (counts answers : List (List Frame)) → (pushed : List ℕ) → MergeState → Type 0
state_holds job parsers counts answers pushed d =
    state_is job (record { parsers = parsers; groupers = 0; processors = length answers }) (taken_on counts) (taken_on answers) pushed d

-- the text is a front of what may be written of the frames taken
abbrev pub keeps_over : Declared → (parsers : ℕ) → (taken : List (List Frame)) → (written : List ℕ) → Type 0
keeps_over job parsers taken written =
    (groupers : ℕ) → MergeKeeps job (shape_by parsers (length taken) groupers) (taken_on taken) (λ q. taken_on taken (parsers + q)) [] written

-- it is all of that
abbrev pub rests_over : Declared → (parsers : ℕ) → (taken : List (List Frame)) → (written : List ℕ) → Type 0
rests_over job parsers taken written =
    (groupers : ℕ) → HasWrittenDue job (shape_by parsers (length taken) groupers) (taken_on taken) (λ q. taken_on taken (parsers + q)) [] written

-- ---- the merge that does it

-- Finish came on each link
abbrev pub have_ended : List (List Frame) → Bool
have_ended [] = true
have_ended (frames ∷ others) = has_finish frames && have_ended others

-- All text is written once each link has ended, since what is due is written by each turn that meets no fault; after a
-- fault nothing says so.
abbrev pub wrote_all_by : Option NodeFault → List RxSeen → Bool
wrote_all_by None ins = have_ended (taken_off ins)
wrote_all_by (Some bad) ins = false

abbrev pub merge_of : WorkSeen → Option NodeFault → MergeSeen
merge_of w fault = record {
  job = w.job;
  parsers = w.parsers;
  credits = w.credits;
  ins = w.ins;
  sink = w.sink;
  gained = w.gained;
  wrote_all = wrote_all_by fault w.ins;
  fault = fault;
}

-- What is true as long as it met no fault: each frame taken may stand where it stands, was noted as such, was taken up, and
-- was granted; and what was written is a front of what may be.
pub record IsSound (w : WorkSeen) : Type 0 where
  pub job_is : IsLawful w.job
  pub parsers : (1 ≤ w.parsers) × (w.parsers ≤ 16)
  pub processors : (w.parsers < length w.ins) × (length w.ins ≤ w.parsers + 16)
  pub ins : InsStand w.credits w.ins
  pub quiet : InsAreQuiet w.ins
  pub lawful : TakesLawful (merge_of w None)
  pub apart : length w.counts ≡ w.parsers
  pub orders : noted w ≡ taken_off w.ins
  pub state : state_holds w.job w.parsers w.counts w.answers w.gained w.state
  pub keeps : keeps_over w.job w.parsers (taken_off w.ins) w.gained
