-- What the loop says of plain links, as the laws of a pipeline ask it of whole nodes.
use Rattle.std.proofs.Common.{◌+◌, get_or}
use Rattle.net_law.specs.Ends.{no_rx, rx_at}
use Rattle.net_law.specs.Parsers.{ParserSeen}
use Rattle.parser_node.specs.Turning.{ChangesOuts}
use Rattle.pipeline_looks.proofs.Ends.{ins_looked, others_stay, first_looked}
use Rattle.pipeline_looks.proofs.Whole.{grouper_in, parser_lent}
use Rattle.pipeline_looks.proofs.nodes.look_at_grouper.Goals as goal

pub returns-clause-looks : goal.returns-clause-looks
returns-clause-looks g c =
    grouper_in c.args.grouper.now c.look_at_links.new.node c.requires.stands c.look_at_links.ensures.looked
    (ins_looked ParserSeen (λ (s : ParserSeen). s.outs) ChangesOuts 0 c.args.g c.args.parsers.now.items c.look_at_links.new.senders.items c.args.grouper.now.ins c.look_at_links.new.node.ins c.look_at_links.ensures.shows)

pub returns-clause-senders : goal.returns-clause-senders
returns-clause-senders g c p d less =
    let e = c.look_at_links.ensures.shows in
    parser_lent (get_or c.args.parsers.now.items p d) (get_or c.look_at_links.new.senders.items p d) c.args.g (rx_at c.args.grouper.now.ins (0 + p)) (rx_at c.look_at_links.new.node.ins (0 + p)) (e.lends p d less) (e.shown p d no_rx less)

pub returns-clause-beside : goal.returns-clause-beside
returns-clause-beside g c p d less =
    others_stay (get_or c.args.parsers.now.items p d).outs (get_or c.look_at_links.new.senders.items p d).outs c.args.g (rx_at c.args.grouper.now.ins (0 + p)) (rx_at c.look_at_links.new.node.ins (0 + p)) (c.look_at_links.ensures.shows.shown p d no_rx less)

pub returns-clause-looked : goal.returns-clause-looked
returns-clause-looked g c =
    first_looked ParserSeen (λ (s : ParserSeen). s.outs) ChangesOuts c.args.g c.args.parsers.now.items c.look_at_links.new.senders.items c.args.grouper.now.ins c.look_at_links.new.node.ins c.args.grouper.now.credits c.requires.ends c.look_at_links.ensures.shows
