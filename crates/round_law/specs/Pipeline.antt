-- The pipeline: parsers, groupers, processors and one merge, with any numbers of each.
use Rattle.std.specs.Prelude.{ℕ, ◌≡◌, ◌+◌, ◌<◌, Bool, true, false, List, [], length, replicate, slice_index_or}
use Rattle.round_law.specs.Links.{Sender, Receiver, AreJoined, ComesThrough, new_sender, new_receiver}
use Rattle.round_law.specs.Waits.{Node, in_at, out_at}
use Rattle.round_law.specs.Rows.{IsOrderly, HasSoundEnds}

-- its nodes, in the order of their numbers
pub record Net : Type 0 where
  pub parsers : List Node
  pub groupers : List Node
  pub processors : List Node
  pub merge : Node

pub data Place : Type 0 where
  Parser : ℕ → Place
  Grouper : ℕ → Place
  Processor : ℕ → Place
  Merge : Place

abbrev pub no_node : Node
no_node = record { read = 0; records = 0; wrote = 0; wrote_all = true; ins = []; outs = [] }

abbrev pub parser_at : Net → ℕ → Node
parser_at net p = slice_index_or net.parsers p no_node

abbrev pub grouper_at : Net → ℕ → Node
grouper_at net g = slice_index_or net.groupers g no_node

abbrev pub processor_at : Net → ℕ → Node
processor_at net q = slice_index_or net.processors q no_node

abbrev pub node_of : Net → Place → Node
node_of net (Parser p) = parser_at net p
node_of net (Grouper g) = grouper_at net g
node_of net (Processor q) = processor_at net q
node_of net Merge = net.merge

abbrev pub IsIn : Net → Place → Type 0
IsIn net (Parser p) = p < length net.parsers
IsIn net (Grouper g) = g < length net.groupers
IsIn net (Processor q) = q < length net.processors
IsIn net Merge = Unit {0}

-- the same numbers of nodes
pub record IsAlike (before after : Net) : Type 0 where
  pub parsers : length after.parsers ≡ length before.parsers
  pub groupers : length after.groupers ≡ length before.groupers
  pub processors : length after.processors ≡ length before.processors

-- a parser's links lead to the groupers and then to the merge, a grouper's to the processors, a processor's to the
-- merge; a grouper's links in come from the parsers, a processor's from the groupers, and the merge's from the parsers
-- and then from the processors
pub record IsShaped (net : Net) : Type 0 where
  pub parser_ins : (p : ℕ) → p < length net.parsers → length (parser_at net p).ins ≡ 0
  pub parser_outs : (p : ℕ) → p < length net.parsers → length (parser_at net p).outs ≡ length net.groupers + 1
  pub grouper_ins : (g : ℕ) → g < length net.groupers → length (grouper_at net g).ins ≡ length net.parsers
  pub grouper_outs : (g : ℕ) → g < length net.groupers → length (grouper_at net g).outs ≡ length net.processors
  pub processor_ins : (q : ℕ) → q < length net.processors → length (processor_at net q).ins ≡ length net.groupers
  pub processor_outs : (q : ℕ) → q < length net.processors → length (processor_at net q).outs ≡ 1
  pub merge_ins : length net.merge.ins ≡ length net.parsers + length net.processors
  pub merge_outs : length net.merge.outs ≡ 0

-- each node of the pipeline
abbrev pub EachNode : (Node → Type 0) → Net → Type 0
EachNode P net = (place : Place) → IsIn net place → P (node_of net place)

-- each link, by its two ends
pub record EachLink (R : Sender → Receiver → Type 0) (net : Net) : Type 0 where
  pub to_grouper : (p g : ℕ) → p < length net.parsers → g < length net.groupers → R (out_at (parser_at net p) g) (in_at (grouper_at net g) p)
  pub to_merge : (p : ℕ) → p < length net.parsers → R (out_at (parser_at net p) (length net.groupers)) (in_at net.merge p)
  pub to_processor : (g q : ℕ) → g < length net.groupers → q < length net.processors → R (out_at (grouper_at net g) q) (in_at (processor_at net q) g)
  pub from_processor : (q : ℕ) → q < length net.processors → R (out_at (processor_at net q) 0) (in_at net.merge (length net.parsers + q))

-- between turns that gave no fault
pub record IsSound (credits : ℕ) (net : Net) : Type 0 where
  pub shaped : IsShaped net
  pub orderly : EachNode IsOrderly net
  pub ends : EachNode (HasSoundEnds credits) net

-- of joined ends, what came out is the front of what was put in
abbrev pub JoinedComesThrough : (credits : ℕ) → Net → Type 0
JoinedComesThrough credits net = EachLink (AreJoined credits) net → EachLink ComesThrough net

-- ---- the start of a pipeline

-- a node that has done nothing
abbrev pub new_node : (credits ins outs : ℕ) (wrote_all : Bool) → Node
new_node credits ins outs wrote_all =
    record { read = 0; records = 0; wrote = 0; wrote_all = wrote_all; ins = replicate ins (new_receiver credits); outs = replicate outs new_sender }

abbrev pub new_net : (credits parsers groupers processors : ℕ) → Net
new_net credits parsers groupers processors = record {
  parsers = replicate parsers (new_node credits 0 (groupers + 1) true);
  groupers = replicate groupers (new_node credits parsers processors true);
  processors = replicate processors (new_node credits groupers 1 true);
  merge = new_node credits (parsers + processors) 0 false;
}

abbrev pub StartIsSound : (credits parsers groupers processors : ℕ) → Type 0
StartIsSound credits parsers groupers processors =
    0 < credits → IsSound credits (new_net credits parsers groupers processors) × EachLink (AreJoined credits) (new_net credits parsers groupers processors)
