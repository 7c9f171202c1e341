use Rattle.std.proofs.Common.{length}
use Rattle.std.proofs.lemmas.List.{length-map}
use Rattle.std.proofs.lemmas.List.Elements.{All-map}
use Rattle.job_table.specs.Question.{ruling_of}
use Rattle.job_table.specs.Limits.{IsRuling}
use Rattle.job_table.proofs.queries.rewrite.Goals as goal

pub returns-clause-lawful : goal.returns-clause-lawful
returns-clause-lawful c = (
  rw (length-map c.args.names.now.captures.items (λ name. name.items)) c.in_ok-from.ensures.within,
  rw (length-map c.args.names.now.captures.items (λ name. name.items)) c.in_ok-to.ensures.within,
  rw (length-map c.in_ok-rules.rules.items ruling_of) c.in_ok-rules.ensures.counts,
  rw (length-map c.args.names.now.vars.items (λ name. name.items)) (All-map (IsRuling (length c.args.names.now.vars.items)) ruling_of c.in_ok-rules.rules.items c.in_ok-rules.ensures.rules),
)
