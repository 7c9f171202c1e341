-- What contracts see of a query processor, what is true of it between turns, and what a turn does.
use Rattle.std.specs.Prelude.{ℕ, ◌≡◌, ◌<◌, ◌≤◌, ◌+◌, ◌⊎◌, true, List, [], ◌++◌, All, Option, Some, None, length, slice_index_or}
use Rattle.node_frames.specs.declared.frame.Frame.{Frame}
use Rattle.credit_link.specs.Ends.{TxSeen, RxSeen}
use Rattle.credit_link.specs.declared.turn.NodeFault.{NodeFault}
use Rattle.credit_link.specs.declared.turn.NodeFault.TheVariants.{Malformed, Read, Write, Link, OutOfMemory}
use Rattle.shuffle_poll.specs.Shuffles.{ShuffleSeen}
use Rattle.summary_spec.specs.Declaration.{Declared}
use Rattle.summary_spec.specs.Lawful.{IsLawful}
use Rattle.round_law.specs.Waits.{Node}
use Rattle.round_law.specs.Rows.{OffersFew}
use Rattle.run_law.specs.Links.{AreLawfulGroups, GroupRule, MayFollow}
use Rattle.run_law.specs.Nodes.{ProcessorKeeps, ProcessorSendsAll}
use Rattle.run_law.specs.Shapes.{Shape}
use Rattle.node_lanes.specs.Ends.{given_on, put_on, senders_of, receivers_of, EndsTell, InsStand, InsAreQuiet, InsGo, OutsStand, OutsAreQuiet, OutsAreBlocked, OutsGo}
use Rattle.node_lanes.specs.Faults.{TxMeets, RxMeets}

-- A query processor: its job, the credits of its links; its links in, one a grouper; its one link out, to the merge; and
-- the fault that it answers again.
pub record ProcessorSeen : Type 0 where
  pub job : Declared
  pub credits : ℕ
  pub ins : List RxSeen
  pub outs : ShuffleSeen
  pub fault : Option NodeFault

-- the shape as far as a processor knows it, and with any numbers of parsers and processors
abbrev pub shape_with : ProcessorSeen → (parsers processors : ℕ) → Shape
shape_with s parsers processors = record { parsers = parsers; groupers = length s.ins; processors = processors }

abbrev pub processor_view : ProcessorSeen → Node
processor_view s = record { read = 0; records = 0; wrote = 0; wrote_all = true; ins = receivers_of s.ins; outs = senders_of s.outs }

abbrev pub processor_tells : ProcessorSeen → Type 0
processor_tells s = EndsTell s.ins s.outs.links

-- what came is lawful on each link
abbrev pub TakesLawful : ProcessorSeen → Type 0
TakesLawful s = (g : ℕ) → g < length s.ins → AreLawfulGroups s.job (given_on s.ins g)

pub record ProcessorStands (s : ProcessorSeen) : Type 0 where
  pub job_is : IsLawful s.job
  pub ins_few : (1 ≤ length s.ins) × (length s.ins ≤ 16)
  pub one_out : length s.outs.links ≡ 1
  pub ins : InsStand s.credits s.ins
  pub outs : OutsStand s.credits s.outs
  pub keeps : TakesLawful s → (parsers processors : ℕ) → ProcessorKeeps s.job (shape_with s parsers processors) (given_on s.ins) (put_on s.outs 0)
  pub lawful : s.fault ≡ None → TakesLawful s
  pub offers_few : OffersFew (processor_view s)
  pub quiet : s.fault ≡ None → InsAreQuiet s.ins × OutsAreQuiet s.outs

pub record ProcessorGoes (before after : ProcessorSeen) : Type 0 where
  pub same : (after.job ≡ before.job) × (after.credits ≡ before.credits)
  pub ins : InsGo before.ins after.ins
  pub outs : OutsGo before.outs after.outs
  pub kept : (bad : NodeFault) → before.fault ≡ Some bad → after.fault ≡ Some bad

-- why a turn gave a fault for the first time: links in are counted first, and the link out behind them
abbrev pub ProcessorMeets : (before after : ProcessorSeen) → NodeFault → Type 0
ProcessorMeets before after (Link link bad) =
    ((link < length before.ins) × ((d : RxSeen) → RxMeets (MayFollow (GroupRule before.job)) (slice_index_or before.ins link d) (slice_index_or after.ins link d) bad))
    ⊎ ((link ≡ length before.ins) × ((d : TxSeen) → TxMeets (slice_index_or before.outs.links 0 d) (slice_index_or after.outs.links 0 d) bad))
ProcessorMeets before after OutOfMemory = Unit {0}
ProcessorMeets before after _ = ⊥

-- after an idle turn: no frame waits on a link that is ready for one, and where none waits nothing is held back
pub record ProcessorRests (s : ProcessorSeen) : Type 0 where
  pub blocked : OutsAreBlocked s.outs
  pub sends : All (λ (queue : List Frame). queue ≡ []) s.outs.queues
      → (parsers processors : ℕ) → ProcessorSendsAll s.job (shape_with s parsers processors) (given_on s.ins) (put_on s.outs 0)
