-- The rows of the links of a pipeline, in the order of the links' numbers.
use Rattle.std.specs.Prelude.{ℕ, ◌≡◌, ◌<◌, ◌+◌, ◌*◌, List, [], ◌++◌, length, map, slice_index_or}
use Rattle.std.specs.List.{flat_map}
use Rattle.credit_link.specs.Ends.{TxSeen, RxSeen}
use Rattle.credit_link.specs.Frames.{capped}
use Rattle.credit_link.specs.declared.row.LinkRow.{LinkRow}
use Rattle.shuffle_poll.specs.Shuffles.{row_of}
use Rattle.run_law.specs.Nodes.{below}
use Rattle.run_law.specs.Shapes.{Shape}
use Rattle.node_lanes.specs.Ends.{given_on}
use Rattle.net_law.specs.Parsers.{ParserSeen}
use Rattle.net_law.specs.Groupers.{GrouperSeen}
use Rattle.net_law.specs.Processors.{ProcessorSeen}
use Rattle.net_law.specs.Ends.{tx_at}
use Rattle.net_law.specs.Nets.{Net, parser_at, grouper_at, processor_at}

-- ---- one link

-- the row of the link out of number k, whose other end is the link in of number j, between the nodes `from` and `to`
abbrev pub row_between : (outs : List TxSeen) (k : ℕ) (ins : List RxSeen) (j from to : ℕ) → LinkRow
row_between outs k ins j from to = row_of (tx_at outs k) from to (capped (length (given_on ins j)))

-- ---- the links out of one node after another

-- The rows from one sender to each of so many receivers: link j out of the one is the link in of number i of receiver j.
-- `from` is the sender's number, and `to` that of the first receiver.
abbrev pub rows_out : (outs : List TxSeen) (i receivers : ℕ) (ins : ℕ → List RxSeen) (from to : ℕ) → List LinkRow
rows_out outs i receivers ins from to = map (λ j. row_between outs j (ins j) i from (to + j)) (below receivers)

-- the rows from each sender of a layer to each receiver of another
abbrev pub rows_across : (senders : ℕ) (outs : ℕ → List TxSeen) (receivers : ℕ) (ins : ℕ → List RxSeen) (from to : ℕ) → List LinkRow
rows_across senders outs receivers ins from to = flat_map (λ i. rows_out (outs i) i receivers ins (from + i) to) (below senders)

-- the rows from each sender of a layer to one receiver: link k out of sender i is the link in of number `first` + i
abbrev pub rows_into : (senders : ℕ) (outs : ℕ → List TxSeen) (k : ℕ) (ins : List RxSeen) (first from to : ℕ) → List LinkRow
rows_into senders outs k ins first from to = map (λ i. row_between (outs i) k ins (first + i) (from + i) to) (below senders)

-- ---- all links

-- the ends of the nodes of a layer
abbrev pub ends_at : {N X : Type 0} → (ends : N → List X) → List N → ℕ → List X
ends_at ends nodes i = slice_index_or (map ends nodes) i []

-- nodes are numbered parsers, groupers, processors, merge
abbrev pub merge_number : Net → ℕ
merge_number net = length net.parsers + length net.groupers + length net.processors

-- from each parser to each grouper, from each parser to the merge, from each grouper to each processor, and from each
-- processor to the merge
abbrev pub rows_of : Net → List LinkRow
rows_of net =
    rows_across (length net.parsers) (ends_at (λ (s : ParserSeen). s.outs.links) net.parsers) (length net.groupers) (ends_at (λ (s : GrouperSeen). s.ins) net.groupers) 0 (length net.parsers)
    ++ rows_into (length net.parsers) (ends_at (λ (s : ParserSeen). s.outs.links) net.parsers) (length net.groupers) net.merge.ins 0 0 (merge_number net)
    ++ rows_across (length net.groupers) (ends_at (λ (s : GrouperSeen). s.outs.links) net.groupers) (length net.processors) (ends_at (λ (s : ProcessorSeen). s.ins) net.processors)
    (length net.parsers) (length net.parsers + length net.groupers)
    ++ rows_into (length net.processors) (ends_at (λ (s : ProcessorSeen). s.outs.links) net.processors) 0 net.merge.ins (length net.parsers)
    (length net.parsers + length net.groupers) (merge_number net)

-- how many links there are
abbrev pub link_count : Shape → ℕ
link_count shape = shape.parsers * shape.groupers + shape.parsers + shape.groupers * shape.processors + shape.processors

-- one row a link, each at its link's number
pub record AreNumbered (net : Net) (rows : List LinkRow) : Type 0 where
  pub count : length rows ≡ link_count net.shape
  pub to_grouper : (p g : ℕ) (d : LinkRow) → p < net.shape.parsers → g < net.shape.groupers
      → slice_index_or rows (p * net.shape.groupers + g) d ≡ row_between (parser_at net p).outs.links g (grouper_at net g).ins p p (net.shape.parsers + g)
  pub to_merge : (p : ℕ) (d : LinkRow) → p < net.shape.parsers
      → slice_index_or rows (net.shape.parsers * net.shape.groupers + p) d
      ≡ row_between (parser_at net p).outs.links net.shape.groupers net.merge.ins p p (net.shape.parsers + net.shape.groupers + net.shape.processors)
  pub to_processor : (g q : ℕ) (d : LinkRow) → g < net.shape.groupers → q < net.shape.processors
      → slice_index_or rows (net.shape.parsers * net.shape.groupers + net.shape.parsers + (g * net.shape.processors + q)) d
      ≡ row_between (grouper_at net g).outs.links q (processor_at net q).ins g (net.shape.parsers + g) (net.shape.parsers + net.shape.groupers + q)
  pub from_processor : (q : ℕ) (d : LinkRow) → q < net.shape.processors
      → slice_index_or rows (net.shape.parsers * net.shape.groupers + net.shape.parsers + net.shape.groupers * net.shape.processors + q) d
      ≡ row_between (processor_at net q).outs.links 0 net.merge.ins (net.shape.parsers + q) (net.shape.parsers + net.shape.groupers + q)
      (net.shape.parsers + net.shape.groupers + net.shape.processors)
