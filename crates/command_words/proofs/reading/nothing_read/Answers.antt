use Rattle.command_words.proofs.Steps.{started}
use Rattle.command_words.proofs.reading.nothing_read.Goals as goal

pub returns-clause-stands : goal.returns-clause-stands
returns-clause-stands c = started
