-- What the loop says of plain links, as the laws of a pipeline ask it of whole nodes.
use Rattle.std.proofs.Common.{◌+◌, get_or, ap}
use Rattle.net_law.specs.Ends.{no_rx, rx_at}
use Rattle.net_law.specs.Groupers.{GrouperSeen}
use Rattle.grouper_node.specs.Nodes.{LendsItsOuts}
use Rattle.pipeline_looks.proofs.Ends.{ins_looked, others_stay, first_looked}
use Rattle.pipeline_looks.proofs.Whole.{processor_in, grouper_lent}
use Rattle.pipeline_looks.proofs.nodes.look_at_processor.Goals as goal

pub returns-clause-looks : goal.returns-clause-looks
returns-clause-looks c =
    processor_in c.args.processor.now c.look_at_links.new.node c.requires.stands c.look_at_links.ensures.looked
    (ins_looked GrouperSeen (λ (s : GrouperSeen). s.outs) LendsItsOuts 0 c.args.q c.args.groupers.now.items c.look_at_links.new.senders.items c.args.processor.now.ins c.look_at_links.new.node.ins c.look_at_links.ensures.shows)

pub returns-clause-senders : goal.returns-clause-senders
returns-clause-senders c i d less =
    let e = c.look_at_links.ensures.shows in
    grouper_lent (get_or c.args.groupers.now.items i d) (get_or c.look_at_links.new.senders.items i d) c.args.q (rx_at c.args.processor.now.ins (0 + i)) (rx_at c.look_at_links.new.node.ins (0 + i)) (e.lends i d less) (e.shown i d no_rx less)

pub returns-clause-beside : goal.returns-clause-beside
returns-clause-beside c i d less =
    others_stay (get_or c.args.groupers.now.items i d).outs (get_or c.look_at_links.new.senders.items i d).outs c.args.q (rx_at c.args.processor.now.ins (0 + i)) (rx_at c.look_at_links.new.node.ins (0 + i)) (c.look_at_links.ensures.shows.shown i d no_rx less)

pub returns-clause-ins_stay : goal.returns-clause-ins_stay
returns-clause-ins_stay c i d less = ap (λ (s : GrouperSeen). s.ins) (c.look_at_links.ensures.shows.lends i d less).0

pub returns-clause-looked : goal.returns-clause-looked
returns-clause-looked c =
    first_looked GrouperSeen (λ (s : GrouperSeen). s.outs) LendsItsOuts c.args.q c.args.groupers.now.items c.look_at_links.new.senders.items c.args.processor.now.ins c.look_at_links.new.node.ins c.args.processor.now.credits c.requires.ends c.look_at_links.ensures.shows
