use Rattle.std.proofs.Common.{Err, Ok, sym, subst}
use Rattle.query_syntax.specs.Tree.{tree_of}
use Rattle.query_syntax.specs.declared.tree.Syntax.{Syntax}
use Rattle.query_lang.specs.Expression.{Operation}
use Rattle.query_lang.specs.Grammar.{mentions, expression, Resolves}
use Rattle.query_lang.proofs.Barred.{resolves_left, resolves_right}
use Rattle.query_lang.proofs.resolve.+resolve.Goals as goal

pub returns-in-Err-resolve : goal.returns-in-Err-resolve
returns-in-Err-resolve t c =
    let words = mentions c.args.names.now c.args.text.now c.args.scope in
    let meant = expression c.args.names.now c.args.text.now in
    let left = tree_of c.in-Joined.left.value in
    let right = tree_of c.in-Joined.right.value in
    let fails = λ (s : Syntax). Resolves (words (tree_of s)) (meant (tree_of s)) (Err c.in-Err-resolve.fault) in
    subst fails (sym c.in-Joined.is) (resolves_left (words left) (words right) (meant left) (Operation c.in-Joined.operator (meant left) (meant right)) c.in-Err-resolve.fault (subst fails c.deref-in-Joined.ensures c.in-Err-resolve.ensures))

pub returns-in-Err-resolve-2 : goal.returns-in-Err-resolve-2
returns-in-Err-resolve-2 t c =
    let words = mentions c.args.names.now c.args.text.now c.args.scope in
    let meant = expression c.args.names.now c.args.text.now in
    let left = tree_of c.in-Joined.left.value in
    let right = tree_of c.in-Joined.right.value in
    let fails = λ (s : Syntax). Resolves (words (tree_of s)) (meant (tree_of s)) (Err c.in-Err-resolve-2.fault) in
    let gives = λ (s : Syntax). Resolves (words (tree_of s)) (meant (tree_of s)) (Ok c.in-Ok-resolve.left) in
    subst fails (sym c.in-Joined.is) (resolves_right (words left) (words right) (meant left) (meant right) (Operation c.in-Joined.operator (meant left) (meant right)) c.in-Ok-resolve.left c.in-Err-resolve-2.fault (subst gives c.deref-in-Joined.ensures c.in-Ok-resolve.ensures) (subst fails c.deref-in-Ok-resolve.ensures c.in-Err-resolve-2.ensures))
