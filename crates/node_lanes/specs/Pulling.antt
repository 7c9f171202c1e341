-- What a node takes off one of its links in.
use Rattle.std.specs.Prelude.{ℕ, ◌≡◌, ◌<◌, ◌+◌, List, [], ◌∷◌, ◌++◌, Option, Some, None, Result, Ok, Err, length, slice_index_or, slice_set}
use Rattle.node_frames.specs.declared.frame.Frame.{Frame}
use Rattle.credit_link.specs.declared.link_bad.LinkBad.{LinkBad}
use Rattle.credit_link.specs.declared.turn.NodeFault.{NodeFault}
use Rattle.credit_link.specs.declared.turn.NodeFault.TheVariants.{Link}
use Rattle.credit_link.specs.Frames.{capped, bytes_of_all}
use Rattle.credit_link.specs.Ahead.{IsPart}
use Rattle.credit_link.specs.Ends.{RxSeen}
use Rattle.credit_link.specs.Pulling.{MeetsBad}

-- link j alone was changed
pub record ChangesLink (before after : List RxSeen) (j : ℕ) : Type 0 where
  pub long : length after ≡ length before
  pub set : (d : RxSeen) → after ≡ slice_set before j (slice_index_or after j d)

-- a frame was taken off the front of the box
pub record TakesFrame (before after : RxSeen) (frame : Frame) : Type 0 where
  pub given : after.given ≡ before.given ++ frame ∷ []
  pub ungranted : after.ungranted ≡ capped (before.ungranted + 1)
  pub last : after.last ≡ capped (length (bytes_of_all before.given))
  pub shorter : length after.box < length before.box
  pub rest : after ≡ record before { given = after.given; box = after.box; ungranted = after.ungranted; last = after.last; finished = after.finished }

-- no frame was taken, and the link keeps why
pub record RefusesFrame (j : ℕ) (before after : RxSeen) (fault : NodeFault) : Type 0 where
  pub bad : LinkBad
  pub named : fault ≡ Link j bad
  pub rest : after ≡ record before { fault = Some bad }
  pub meets : before.fault ≡ None → MeetsBad after.given after.finished after.box bad

-- a pull of link j: the next frame; none, where no whole frame is in the box; or a fault
abbrev pub PullsAt : (j : ℕ) (before after : RxSeen) → Result (Option Frame) NodeFault → Type 0
PullsAt j before after (Ok (Some frame)) = TakesFrame before after frame
PullsAt j before after (Ok None) = IsPart before.box × (after ≡ before)
PullsAt j before after (Err fault) = RefusesFrame j before after fault
