-- What a parser puts on its links.
use Rattle.std.specs.Prelude.{ℕ, ◌≡◌, ◌<◌, Bool, true, false, List, [], ◌∷◌, Option, Some, None, length, slice_index_or}
use Rattle.credit_link.specs.Ends.{TxSeen}
use Rattle.credit_link.specs.Frames.{has_finish}
use Rattle.ds_base.specs.declared.summary.Summary.{Summary}
use Rattle.node_frames.specs.declared.frame.Frame.{Frame}
use Rattle.node_frames.specs.declared.frame.Frame.TheVariants.{Item}
use Rattle.run_law.specs.Shapes.{is_of_shard}
use Rattle.shuffle_poll.specs.Lanes.{put_on}
use Rattle.shuffle_poll.specs.Shuffles.{ShuffleSeen, lane_of}

-- no frame waits
abbrev pub IsEmpty : ShuffleSeen → Type 0
IsEmpty outs = (k : ℕ) → slice_index_or outs.queues k [] ≡ []

-- the end was put on no link
abbrev pub IsUnfinished : ShuffleSeen → Type 0
IsUnfinished outs = (k : ℕ) (d : TxSeen) → k < length outs.links → has_finish (put_on (lane_of outs k d)) ≡ false

abbrev pub frames_by : Bool → Summary → List Frame
frames_by true s = Item s ∷ []
frames_by false s = []

-- the frames for link k of which the first n lead to groupers: the Item of the summary, where that is of the shard
abbrev pub frames_for : (n k : ℕ) → Option Summary → List Frame
frames_for n k None = []
frames_for n k (Some s) = frames_by (is_of_shard k n s.key) s
