use Rattle.std.proofs.Common.{◌≡◌, ◌+◌, ◌≤◌, ◌<◌, drop, length, arith, ap, sym, ◌∙◌}
use Rattle.query_tokens.specs.Lexing.{token_at, is_blank}
use Rattle.std.specs.List.{prefix_len}
use Rattle.std.proofs.lemmas.List.{length-drop}
use Rattle.query_tokens.proofs.Lexed.{lexed_more}
use Rattle.query_tokens.proofs.lexer.tokens_of.Goals as goal

pub loop-at-preserved : goal.loop-at-preserved
loop-at-preserved c =
    let text = c.as_bytes-bytes.result.now in
    let at = c.loop-at.at in
    let len = c.in-Some.len in
    let found = ap (token_at at) (sym c.behind.ensures) ∙ sym c.in-Some.ensures.token in
    let fits : at + len ≤ length text = omega (arith, ap length c.behind.ensures, length-drop at text, c.in-Some.ensures.length) in
    let some : 0 < len = omega (arith, c.in-Some.ensures.length) in
    let blanks = c.blanks-at-in-loop-at.ensures in
    let next : at + len + c.blanks-at-in-loop-at.result ≡ at + len + prefix_len is_blank (drop (at + len) text) = ap (λ n. at + len + n) (blanks.length ∙ ap (prefix_len is_blank) c.behind-in-loop-at.ensures) in
    let within : at + len + c.blanks-at-in-loop-at.result ≤ length text = omega (arith, blanks.within, ap length c.behind-in-loop-at.ensures, length-drop (at + len) text) in
    rw c.in_ok-put.ensures (lexed_more text at _ len c.loop-at.tokens.items c.in-Some.token c.loop-at.invariant c.loop-at-test.true some found next within)
