-- A turn is one of those that may follow one another.
use Rattle.net_law.specs.Parsers.{ParserSeen, ParserStands, ParserGoes, ParserMeets, parser_tells, parser_view}
use Rattle.net_law.proofs.Going.{parser_stays}
use Rattle.node_bundles.proofs.Going.{went_by}
use Rattle.node_bundles.proofs.turning.ParserNodeRingTxRingRxTakesTurn.turn.Goals as goal

pub returns-clause-went : goal.returns-clause-went
returns-clause-went g c =
    went_by ParserSeen ParserStands ParserGoes ParserMeets (λ (n : ParserSeen). n.fault) parser_tells parser_view c.args.self.now.credits c.turn.result c.args.self.now c.turn.new.self c.turn.ensures.goes c.turn.ensures.stands (parser_stays c.args.self.now)
    c.turn.ensures.says c.turn.ensures.tells c.turn.ensures.fault c.turn.ensures.again c.turn.ensures.causes
