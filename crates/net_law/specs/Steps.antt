-- How a pipeline goes on, by a turn of one node and a look at its links in, and by many.
use Rattle.std.specs.Prelude.{ℕ, ◌≡◌, ◌<◌, ◌+◌, ◌⊎◌, List, length}
use Rattle.byte_rings.specs.Rings.{Looks, IsOnRing}
use Rattle.credit_link.specs.Ends.{TxSeen, RxSeen}
use Rattle.shuffle_poll.specs.Shuffles.{ShuffleSeen}
use Rattle.round_law.specs.Links.{ring_bytes}
use Rattle.net_law.specs.Parsers.{ParserSeen, ParserStands, ParserGoes}
use Rattle.net_law.specs.Groupers.{GrouperSeen, GrouperStands, GrouperGoes}
use Rattle.net_law.specs.Processors.{ProcessorSeen, ProcessorStands, ProcessorGoes}
use Rattle.net_law.specs.Merges.{MergeSeen, MergeStands, MergeGoes}
use Rattle.net_law.specs.Ends.{tx_at, rx_at}
use Rattle.net_law.specs.Nets.{Net, NetStands, parser_at, grouper_at, processor_at}

-- ---- a look

-- an end was shown its rings, or left alone
pub record TxLooked (before after : TxSeen) : Type 0 where
  pub same : after ≡ record before { forth = after.forth; back = after.back }
  pub forth : Looks before.forth after.forth
  pub back : Looks before.back after.back

pub record RxLooked (before after : RxSeen) : Type 0 where
  pub same : after ≡ record before { forth = after.forth; back = after.back }
  pub forth : Looks before.forth after.forth
  pub back : Looks before.back after.back

pub record InsLooked (before after : List RxSeen) : Type 0 where
  pub as_many : length after ≡ length before
  pub each : (j : ℕ) → RxLooked (rx_at before j) (rx_at after j)

pub record OutsLooked (before after : ShuffleSeen) : Type 0 where
  pub as_many : length after.links ≡ length before.links
  pub queues : after.queues ≡ before.queues
  pub each : (k : ℕ) → TxLooked (tx_at before.links k) (tx_at after.links k)

-- some ends of a node were shown their rings
pub record ParserLooked (before after : ParserSeen) : Type 0 where
  pub same : after ≡ record before { outs = after.outs }
  pub outs : OutsLooked before.outs after.outs
  pub stands : ParserStands after

pub record GrouperLooked (before after : GrouperSeen) : Type 0 where
  pub same : after ≡ record before { ins = after.ins; outs = after.outs }
  pub ins : InsLooked before.ins after.ins
  pub outs : OutsLooked before.outs after.outs
  pub stands : GrouperStands after

pub record ProcessorLooked (before after : ProcessorSeen) : Type 0 where
  pub same : after ≡ record before { ins = after.ins; outs = after.outs }
  pub ins : InsLooked before.ins after.ins
  pub outs : OutsLooked before.outs after.outs
  pub stands : ProcessorStands after

pub record MergeLooked (before after : MergeSeen) : Type 0 where
  pub same : after ≡ record before { ins = after.ins }
  pub ins : InsLooked before.ins after.ins
  pub stands : MergeStands after

-- the two ends of a link are sure of all that lies in its rings, none of which has failed
pub record AreLooked (number : ℕ) (tx : TxSeen) (rx : RxSeen) : Type 0 where
  pub bytes : IsOnRing ring_bytes tx.forth rx.forth
  pub credits : IsOnRing number rx.back tx.back
  pub calm : (tx.forth.faults ≡ 0) × (tx.back.faults ≡ 0) × (rx.forth.faults ≡ 0) × (rx.back.faults ≡ 0)

-- ---- steps of all nodes

-- no frame was taken on the link, or its ends were looked at
abbrev pub IsSeenTo : (number : ℕ) (tx : TxSeen) (before after : RxSeen) → Type 0
IsSeenTo number tx before after = (after.given ≡ before.given) ⊎ AreLooked number tx after

pub record NetGoes (before after : Net) : Type 0 where
  pub same : (after.job ≡ before.job) × (after.shape ≡ before.shape) × (after.credits ≡ before.credits)
  pub counts : (length after.parsers ≡ length before.parsers) × (length after.groupers ≡ length before.groupers) × (length after.processors ≡ length before.processors)
  pub parsers : (p : ℕ) → p < before.shape.parsers → ParserGoes (parser_at before p) (parser_at after p) × ParserStands (parser_at after p)
  pub groupers : (g : ℕ) → g < before.shape.groupers → GrouperGoes (grouper_at before g) (grouper_at after g) × GrouperStands (grouper_at after g)
  pub processors : (q : ℕ) → q < before.shape.processors → ProcessorGoes (processor_at before q) (processor_at after q) × ProcessorStands (processor_at after q)
  pub merge : MergeGoes before.merge after.merge × MergeStands after.merge
  pub to_grouper : (p g : ℕ) → p < before.shape.parsers → g < before.shape.groupers
      → IsSeenTo before.credits (tx_at (parser_at after p).outs.links g) (rx_at (grouper_at before g).ins p) (rx_at (grouper_at after g).ins p)
  pub to_merge : (p : ℕ) → p < before.shape.parsers
      → IsSeenTo before.credits (tx_at (parser_at after p).outs.links before.shape.groupers) (rx_at before.merge.ins p) (rx_at after.merge.ins p)
  pub to_processor : (g q : ℕ) → g < before.shape.groupers → q < before.shape.processors
      → IsSeenTo before.credits (tx_at (grouper_at after g).outs.links q) (rx_at (processor_at before q).ins g) (rx_at (processor_at after q).ins g)
  pub from_processor : (q : ℕ) → q < before.shape.processors
      → IsSeenTo before.credits (tx_at (processor_at after q).outs.links 0) (rx_at before.merge.ins (before.shape.parsers + q)) (rx_at after.merge.ins (before.shape.parsers + q))

-- the pipeline stands after steps of any nodes
abbrev pub NetGoesOn : Type 0
NetGoesOn = (before after : Net) → NetStands before → NetGoes before after → NetStands after
