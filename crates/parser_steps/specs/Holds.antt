-- What is true of a parser and its links between steps.
use Rattle.std.specs.Prelude.{ℕ, ◌≡◌, ◌<◌, ◌≤◌, ◌+◌, true, Option, None, length, slice_index_or}
use Rattle.credit_link.specs.Frames.{has_finish}
use Rattle.credit_link.specs.declared.turn.NodeFault.{NodeFault}
use Rattle.shuffle_poll.specs.Shuffles.{ShuffleSeen}
use Rattle.run_law.specs.Links.{HasEnded, HasRow}
use Rattle.node_lanes.specs.Ends.{put_on}
use Rattle.net_law.specs.Parsers.{ParserSeen, ParserStands, IsOwn, HasReadAll, groupers_of, read_of}
use Rattle.parser_steps.specs.Seen.{StepsSeen, seen_of, most_put}

-- the end of a capture was put for each grouper, and its row for the merge
pub record IsTold (s : ParserSeen) (capture : ℕ) : Type 0 where
  pub ends : (g : ℕ) → g < groupers_of s → HasEnded capture (put_on s.outs g)
  pub row : HasRow capture (put_on s.outs (groupers_of s))

-- What the promises of a pipeline ask of a parser, and besides: there is a link for each grouper and one for the merge; at
-- most 31 records of a capture wait for its next mark; few frames were put; while no fault was met, each capture that has
-- ended was told; and the end was put on each link exactly where the parser has finished, after all captures had ended.
pub record ParserHolds (steps : StepsSeen) (outs : ShuffleSeen) (fault : Option NodeFault) : Type 0 where
  pub stands : ParserStands (seen_of steps outs fault)
  pub links : length outs.links ≡ steps.groupers + 1
  pub near : (i : ℕ) → slice_index_or steps.behind i 0 < 32
  pub few : (k : ℕ) → k < length outs.links → length (put_on outs k) ≤ most_put steps
  pub told : fault ≡ None → (c : ℕ) → IsOwn (seen_of steps outs fault) c → (read_of (seen_of steps outs fault) c).ended ≡ true → IsTold (seen_of steps outs fault) c
  pub ending : (k : ℕ) → k < length outs.links → has_finish (put_on outs k) ≡ steps.finished
  pub all : steps.finished ≡ true → HasReadAll (seen_of steps outs fault)
