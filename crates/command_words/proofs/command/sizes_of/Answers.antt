use Rattle.command_words.specs.declared.kind.WordKind.TheVariants.{Number}
use Rattle.command_words.specs.CommandLine.{AtMostOne}
use Rattle.command_words.specs.Words.{NumberOr}
use Rattle.command_words.proofs.Shown.{shown, anyway, same_fields}
use Rattle.command_words.proofs.command.sizes_of.Goals as goal

pub returns-in_err-parsers-clause-none : goal.returns-in_err-parsers-clause-none
returns-in_err-parsers-clause-none c = anyway c.from_residual.result _ (λ all. c.in_err-parsers.ensures.none (shown (AtMostOne (Number 1 16)) c.args.values 0 (all 0)))

pub returns-in_err-groupers-clause-none : goal.returns-in_err-groupers-clause-none
returns-in_err-groupers-clause-none c = anyway c.from_residual-in_err-groupers.result _ (λ all. c.in_err-groupers.ensures.none (shown (AtMostOne (Number 1 16)) c.args.values 1 (all 1)))

pub returns-in_err-processors-clause-none : goal.returns-in_err-processors-clause-none
returns-in_err-processors-clause-none c = anyway c.from_residual-in_err-processors.result _ (λ all. c.in_err-processors.ensures.none (shown (AtMostOne (Number 1 16)) c.args.values 2 (all 2)))

pub returns-in_err-credits-clause-none : goal.returns-in_err-credits-clause-none
returns-in_err-credits-clause-none c = anyway c.from_residual-in_err-credits.result _ (λ all. c.in_err-credits.ensures.none (shown (AtMostOne (Number 1 1024)) c.args.values 3 (all 3)))

pub returns-clause-only : goal.returns-clause-only
returns-clause-only c other h =
    same_fields other c.in_ok-parsers.parsers c.in_ok-groupers.groupers c.in_ok-processors.processors c.in_ok-credits.credits
    (c.in_ok-parsers.ensures.only other.parsers (shown (λ vs. NumberOr 2 vs other.parsers) c.args.values 0 h.parsers))
    (c.in_ok-groupers.ensures.only other.groupers (shown (λ vs. NumberOr 2 vs other.groupers) c.args.values 1 h.groupers))
    (c.in_ok-processors.ensures.only other.processors (shown (λ vs. NumberOr 2 vs other.processors) c.args.values 2 h.processors))
    (c.in_ok-credits.ensures.only other.credits (shown (λ vs. NumberOr 16 vs other.credits) c.args.values 3 h.credits))
