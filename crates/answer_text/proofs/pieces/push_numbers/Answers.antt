use Rattle.std.proofs.Common.{◌++◌, ◌∙◌, ap, sym, drop, append_assoc}
use Rattle.std.specs.Fmt.{decimal}
use Rattle.std.specs.List.{flat_map}
use Rattle.answer_text.specs.Pieces.{behind}
use Rattle.ds_base.proofs.Places.{one_more_piece}
use Rattle.answer_text.proofs.Lists.{joined_numbers}
use Rattle.answer_text.proofs.pieces.push_numbers.Goals as goal

pub loop-i-init : goal.loop-i-init
loop-i-init c = ap (λ t. t ++ flat_map (λ n. behind (decimal n)) (drop 1 c.args.numbers.now)) c.in_ok-push_decimal.ensures.pushed
    ∙ append_assoc c.args.text.now.items (decimal c.get.result) (flat_map (λ n. behind (decimal n)) (drop 1 c.args.numbers.now))
    ∙ ap (λ t. c.args.text.now.items ++ t) (sym (joined_numbers c.args.numbers.now c.get.result c.get.ensures))

pub loop-i-preserved : goal.loop-i-preserved
loop-i-preserved c = one_more_piece (λ n. behind (decimal n)) c.args.numbers.now c.loop-i.i _ c.loop-i.text.items _ _ c.get-in-loop-i.ensures c.in_ok-push_further.ensures c.loop-i.invariant
