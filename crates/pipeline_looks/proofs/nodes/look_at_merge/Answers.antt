-- The links from the parsers were looked at, and then those from the processors.
use Rattle.std.proofs.Common.{◌+◌, length, get_or, ap, arith, inl, inr}
use Rattle.net_law.specs.Ends.{no_rx, rx_at}
use Rattle.net_law.specs.Parsers.{ParserSeen}
use Rattle.net_law.specs.Processors.{ProcessorSeen}
use Rattle.parser_node.specs.Turning.{ChangesOuts}
use Rattle.query_node.specs.Nodes.{LendsItsOut}
use Rattle.pipeline_looks.specs.Looking.{merge_goes_on}
use Rattle.pipeline_looks.proofs.Ends.{ins_looked, ins_on, others_stay, front_looked, behind_looked}
use Rattle.pipeline_looks.proofs.Whole.{merge_in, parser_lent, processor_lent}
use Rattle.pipeline_looks.proofs.nodes.look_at_merge.Goals as goal

pub returns-clause-looks : goal.returns-clause-looks
returns-clause-looks g c =
    let start = c.args.merge.now in
    let mid = c.look_at_links.new.node in
    let after = c.look_at_links-2.new.node in
    merge_in start after c.requires.stands (merge_goes_on start mid after c.look_at_links.ensures.looked c.look_at_links-2.ensures.looked)
    (ins_on start.merge.ins mid.merge.ins after.merge.ins
    (ins_looked ParserSeen (λ (s : ParserSeen). s.outs) ChangesOuts 0 c.args.groupers c.args.parsers.now.items c.look_at_links.new.senders.items start.merge.ins mid.merge.ins c.look_at_links.ensures.shows)
    (ins_looked ProcessorSeen (λ (s : ProcessorSeen). s.outs) LendsItsOut c.len-count.result 0 c.args.processors.now.items c.look_at_links-2.new.senders.items mid.merge.ins after.merge.ins c.look_at_links-2.ensures.shows))

pub returns-clause-parsers : goal.returns-clause-parsers
returns-clause-parsers g c p d less =
    let e = c.look_at_links.ensures.shows in
    parser_lent (get_or c.args.parsers.now.items p d) (get_or c.look_at_links.new.senders.items p d) c.args.groupers (rx_at c.args.merge.now.merge.ins (0 + p)) (rx_at c.look_at_links.new.node.merge.ins (0 + p)) (e.lends p d less) (e.shown p d no_rx less)

pub returns-clause-processors : goal.returns-clause-processors
returns-clause-processors g c q d less =
    let e = c.look_at_links-2.ensures.shows in
    let at = c.len-count.result + q in
    processor_lent (get_or c.args.processors.now.items q d) (get_or c.look_at_links-2.new.senders.items q d) 0 (rx_at c.look_at_links.new.node.merge.ins at) (rx_at c.look_at_links-2.new.node.merge.ins at) (e.lends q d less) (e.shown q d no_rx less)

pub returns-clause-beside : goal.returns-clause-beside
returns-clause-beside g c p d less =
    let e = c.look_at_links.ensures.shows in
    others_stay (get_or c.args.parsers.now.items p d).outs (get_or c.look_at_links.new.senders.items p d).outs c.args.groupers (rx_at c.args.merge.now.merge.ins (0 + p)) (rx_at c.look_at_links.new.node.merge.ins (0 + p)) (e.shown p d no_rx less)

pub returns-clause-ins_stay : goal.returns-clause-ins_stay
returns-clause-ins_stay g c q d less = ap (λ (s : ProcessorSeen). s.ins) (c.look_at_links-2.ensures.shows.lends q d less).0

-- the links from the parsers were left alone by the second look
pub returns-clause-counts_looked : goal.returns-clause-counts_looked
returns-clause-counts_looked g c =
    let first = c.len-count.result in
    front_looked ParserSeen (λ (s : ParserSeen). s.outs) ChangesOuts c.args.groupers first c.args.merge.now.merge.credits c.args.parsers.now.items c.look_at_links.new.senders.items
    c.args.merge.now.merge.ins c.look_at_links.new.node.merge.ins c.look_at_links-2.new.node.merge.ins (omega (arith, c.len-count.ensures)) (λ j d below. c.look_at_links-2.ensures.shows.other_ins j d (inl below))
    c.requires.parser_ends c.look_at_links.ensures.shows

-- and those from the processors by the first
pub returns-clause-answers_looked : goal.returns-clause-answers_looked
returns-clause-answers_looked g c =
    behind_looked ProcessorSeen (λ (s : ProcessorSeen). s.outs) LendsItsOut 0 (length c.args.parsers.now.items) c.args.merge.now.merge.credits c.args.processors.now.items c.look_at_links-2.new.senders.items
    c.args.merge.now.merge.ins c.look_at_links.new.node.merge.ins c.look_at_links-2.new.node.merge.ins c.len-count.result c.len-count.ensures
    (λ j d past. c.look_at_links.ensures.shows.other_ins j d (inr (omega (arith, past)))) c.requires.processor_ends c.look_at_links-2.ensures.shows
