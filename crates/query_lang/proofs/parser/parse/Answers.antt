use Rattle.query_syntax.specs.Tree.{tree_of}
use Rattle.query_lang.proofs.Barred.{resolved_variables}
use Rattle.query_lang.proofs.parser.parse.Goals as goal

pub returns-in-Ok-clause-variables : goal.returns-in-Ok-clause-variables
returns-in-Ok-clause-variables c =
    resolved_variables c.args.names.now c.as_bytes.result.now c.args.scope (tree_of c.in-Ok.tree) c.resolve.result c.resolve.ensures
