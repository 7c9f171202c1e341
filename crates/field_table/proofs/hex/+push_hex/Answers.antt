use Rattle.std.proofs.Common.{◌++◌, ap, ◌∙◌, arith}
use Rattle.std.specs.String.{string_bytes}
use Rattle.field_table.proofs.HexLemmas.{pushed_digit, pushed_last}
use Rattle.field_table.proofs.hex.+push_hex.Goals as goal

pub returns-in_ok-push : goal.returns-in_ok-push
returns-in_ok-push t c =
    pushed_digit (string_bytes c.args.text.now) (string_bytes c.push.new.self) c.args.n c.glyph.result (omega arith)
    (c.in_ok-push.ensures.bytes ∙ ap (λ g. string_bytes c.args.text.now ++ g) (c.in_ok-push.ensures.ascii c.glyph.ensures.ascii)) c.glyph.ensures.value

pub returns-in_ok-push-2 : goal.returns-in_ok-push-2
returns-in_ok-push-2 t c =
    pushed_last (string_bytes c.args.text.now) (string_bytes c.push_hex.new.text) (string_bytes c.push-else-n-lt16.new.self) c.args.n c.glyph-else-n-lt16.result (omega arith) (omega arith) c.in_ok-push_hex.ensures
    (c.in_ok-push-2.ensures.bytes ∙ ap (λ g. string_bytes c.push_hex.new.text ++ g) (c.in_ok-push-2.ensures.ascii c.glyph-else-n-lt16.ensures.ascii)) c.glyph-else-n-lt16.ensures.value
