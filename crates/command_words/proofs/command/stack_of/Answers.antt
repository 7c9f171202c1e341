use Rattle.command_words.specs.declared.kind.WordKind.TheVariants.{Field, Number}
use Rattle.command_words.specs.CommandLine.{AtMostOne}
use Rattle.command_words.proofs.Shown.{shown}
use Rattle.command_words.proofs.command.stack_of.Goals as goal

pub returns-in_default-clause-none : goal.returns-in_default-clause-none
returns-in_default-clause-none c all = c.in_default.ensures.none (shown (AtMostOne (Number 1 65535)) c.args.values 0 (all 0))

pub returns-in_default-shown_field-clause-none : goal.returns-in_default-shown_field-clause-none
returns-in_default-shown_field-clause-none c all = c.in_default-shown_field.ensures.none (shown (AtMostOne Field) c.args.values 1 (all 1))
