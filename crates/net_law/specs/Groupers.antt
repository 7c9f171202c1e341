-- What contracts see of a grouper, what is true of it between turns, and what a turn does.
use Rattle.std.specs.Prelude.{ℕ, ◌≡◌, ◌<◌, ◌≤◌, ◌+◌, ◌-◌, ◌⊎◌, true, List, [], ◌++◌, All, Option, Some, None, length, slice_index_or}
use Rattle.node_frames.specs.declared.frame.Frame.{Frame}
use Rattle.credit_link.specs.Ends.{TxSeen, RxSeen}
use Rattle.credit_link.specs.declared.turn.NodeFault.{NodeFault}
use Rattle.credit_link.specs.declared.turn.NodeFault.TheVariants.{Malformed, Read, Write, Link, OutOfMemory}
use Rattle.shuffle_poll.specs.Shuffles.{ShuffleSeen}
use Rattle.summary_spec.specs.Declaration.{Declared}
use Rattle.summary_spec.specs.Lawful.{IsLawful}
use Rattle.round_law.specs.Waits.{Node}
use Rattle.round_law.specs.Rows.{OffersFew}
use Rattle.run_law.specs.Links.{AreLawfulItems, ItemRule, MayFollow}
use Rattle.run_law.specs.Nodes.{GrouperKeeps, GrouperSendsAll}
use Rattle.run_law.specs.Shapes.{Shape, IsShape}
use Rattle.node_lanes.specs.Ends.{given_on, put_on, senders_of, receivers_of, EndsTell, InsStand, InsAreQuiet, InsGo, OutsStand, OutsAreQuiet, OutsAreBlocked, OutsGo}
use Rattle.node_lanes.specs.Faults.{TxMeets, RxMeets}

-- A grouper: its job, its number among so many groupers, the credits of its links; its links in, one a parser; its links
-- out, one a processor; and the fault that it answers again.
pub record GrouperSeen : Type 0 where
  pub job : Declared
  pub me : ℕ
  pub groupers : ℕ
  pub credits : ℕ
  pub ins : List RxSeen
  pub outs : ShuffleSeen
  pub fault : Option NodeFault

abbrev pub shape_of : GrouperSeen → Shape
shape_of s = record { parsers = length s.ins; groupers = s.groupers; processors = length s.outs.links }

abbrev pub grouper_view : GrouperSeen → Node
grouper_view s = record { read = 0; records = 0; wrote = 0; wrote_all = true; ins = receivers_of s.ins; outs = senders_of s.outs }

abbrev pub grouper_tells : GrouperSeen → Type 0
grouper_tells s = EndsTell s.ins s.outs.links

-- what came is lawful on each link
abbrev pub TakesLawful : GrouperSeen → Type 0
TakesLawful s = (p : ℕ) → p < length s.ins → AreLawfulItems s.job (shape_of s) p s.me (given_on s.ins p)

pub record GrouperStands (s : GrouperSeen) : Type 0 where
  pub job_is : IsLawful s.job
  pub place : (s.me < s.groupers) × (s.groupers ≤ 16)
  pub ins_few : (1 ≤ length s.ins) × (length s.ins ≤ 16)
  pub outs_few : (1 ≤ length s.outs.links) × (length s.outs.links ≤ 16)
  pub ins : InsStand s.credits s.ins
  pub outs : OutsStand s.credits s.outs
  pub keeps : TakesLawful s → GrouperKeeps s.job (shape_of s) s.me (given_on s.ins) (put_on s.outs)
  pub lawful : s.fault ≡ None → TakesLawful s
  pub offers_few : OffersFew (grouper_view s)
  pub quiet : s.fault ≡ None → InsAreQuiet s.ins × OutsAreQuiet s.outs

pub record GrouperGoes (before after : GrouperSeen) : Type 0 where
  pub same : (after.job ≡ before.job) × (after.me ≡ before.me) × (after.groupers ≡ before.groupers) × (after.credits ≡ before.credits)
  pub ins : InsGo before.ins after.ins
  pub outs : OutsGo before.outs after.outs
  pub kept : (bad : NodeFault) → before.fault ≡ Some bad → after.fault ≡ Some bad

-- why a turn gave a fault for the first time: links in are counted first, and links out behind them
abbrev pub GrouperMeets : (before after : GrouperSeen) → NodeFault → Type 0
GrouperMeets before after (Link link bad) =
    ((link < length before.ins) × ((d : RxSeen) → RxMeets (MayFollow (ItemRule before.job (shape_of before) link before.me))
    (slice_index_or before.ins link d) (slice_index_or after.ins link d) bad))
    ⊎ ((k : ℕ) × (link ≡ length before.ins + k) × (k < length before.outs.links)
    × ((d : TxSeen) → TxMeets (slice_index_or before.outs.links k d) (slice_index_or after.outs.links k d) bad))
GrouperMeets before after OutOfMemory = Unit {0}
GrouperMeets before after _ = ⊥

-- after an idle turn: no frame waits on a link that is ready for one, and where none waits nothing is held back
pub record GrouperRests (s : GrouperSeen) : Type 0 where
  pub blocked : OutsAreBlocked s.outs
  pub sends : All (λ (queue : List Frame). queue ≡ []) s.outs.queues → GrouperSendsAll s.job (shape_of s) s.me (given_on s.ins) (put_on s.outs)
