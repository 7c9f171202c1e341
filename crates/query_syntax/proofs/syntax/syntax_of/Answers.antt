use Rattle.std.proofs.Common.{◌≡◌, ◌≤◌, Some, None, length, slice_get, option_map, ap, sym, ◌∙◌, arith, cond}
use Rattle.query_syntax.specs.Faults.{is_open, is_close}
use Rattle.query_syntax.specs.Frames.{state_of}
use Rattle.query_syntax.specs.Machine.{step, whole}
use Rattle.query_syntax.specs.Tree.{tree_of}
use Rattle.query_syntax.proofs.Progress.{progress_more, fails_deep, fails_syntax, fails_token, fails_end, reads_whole, deep_test, shallow_test, one_most}
use Rattle.query_syntax.proofs.syntax.syntax_of.Goals as goal

pub returns-then-is_deep-clause-fault : goal.returns-then-is_deep-clause-fault
returns-then-is_deep-clause-fault c =
    let here = ap (λ l. slice_get l c.loop-i.i) (sym c.deref.ensures.value) ∙ c.nth-placed.ensures in
    let deep = deep_test c.nth-placed.result.token c.loop-i.opens c.loop-i.closes (sym c.is_deep.ensures ∙ c.if-is_deep.true) in
    rw c.bad.ensures (fails_deep _ _ _ _ _ _ _ c.in_ok-lexing.ensures c.loop-i.invariant.2 c.nth-placed.result here deep.0 deep.1)

pub returns-in_default-clause-fault : goal.returns-in_default-clause-fault
returns-in_default-clause-fault c =
    let here = ap (λ l. slice_get l c.loop-i.i) (sym c.deref.ensures.value) ∙ c.nth-placed.ensures in
    let fits = shallow_test c.nth-placed.result.token c.loop-i.opens c.loop-i.closes (sym c.is_deep.ensures ∙ c.if-is_deep.false) in
    let refused : step (state_of c.loop-i.stack.items c.loop-i.mode) c.nth-placed.result.token ≡ None = sym c.in_ok-next.ensures ∙ ap (option_map (state_of c.step.new.stack.items)) c.in_default.is in
    rw c.bad-in_default.ensures (fails_syntax _ _ _ _ _ _ _ c.in_ok-lexing.ensures c.loop-i.invariant.2 c.nth-placed.result here fits refused)

pub loop-i-preserved : goal.loop-i-preserved
loop-i-preserved c =
    let token = c.nth-placed.result.token in
    let here = ap (λ l. slice_get l c.loop-i.i) (sym c.deref.ensures.value) ∙ c.nth-placed.ensures in
    let fits = shallow_test token c.loop-i.opens c.loop-i.closes (sym c.is_deep.ensures ∙ c.if-is_deep.false) in
    let goes : step (state_of c.loop-i.stack.items c.loop-i.mode) token ≡ Some (state_of c.step.new.stack.items c.in-Some.next) = sym c.in_ok-next.ensures ∙ ap (option_map (state_of c.step.new.stack.items)) c.in-Some.is in
    let opens : c.one_if-opens.result ≡ cond (is_open token) 1 0 = c.one_if-opens.ensures ∙ ap (λ b. cond b 1 0) c.is_open.ensures in
    let closes : c.one_if-closes.result ≡ cond (is_close token) 1 0 = c.one_if-closes.ensures ∙ ap (λ b. cond b 1 0) c.is_close.ensures in
    let more = progress_more _ _ _ _ _ _ _ c.loop-i.invariant.2 here fits goes in
    (omega (arith, opens, one_most (is_open token)), omega (arith, closes, one_most (is_close token)), rw (opens, closes) more)

pub returns-in-Some-stop-clause-fault : goal.returns-in-Some-stop-clause-fault
returns-in-Some-stop-clause-fault c =
    let end : length c.in_ok-lexing.lexing.tokens.items ≤ c.loop-i.i = omega arith in
    rw c.bad-in-Some-stop.ensures (fails_token _ _ _ _ _ _ _ c.in_ok-lexing.ensures c.loop-i.invariant.2 end c.in-Some-stop.at c.in-Some-stop.is)

pub returns-in-Some-2-clause-tree : goal.returns-in-Some-2-clause-tree
returns-in-Some-2-clause-tree c =
    let end : length c.in_ok-lexing.lexing.tokens.items ≤ c.loop-i.i = omega arith in
    let found : whole (state_of c.loop-i.stack.items c.loop-i.mode) ≡ Some (tree_of c.in-Some-2.tree) = sym c.in_ok-tree.ensures ∙ ap (option_map tree_of) c.in-Some-2.is in
    reads_whole _ _ _ _ _ _ _ c.in_ok-lexing.ensures c.loop-i.invariant.2 end c.in_default-stop.is _ found

pub returns-clause-fault : goal.returns-clause-fault
returns-clause-fault c =
    let end : length c.in_ok-lexing.lexing.tokens.items ≤ c.loop-i.i = omega arith in
    let none : whole (state_of c.loop-i.stack.items c.loop-i.mode) ≡ None = sym c.in_ok-tree.ensures ∙ ap (option_map tree_of) c.in-None.is in
    rw c.bad-in-None.ensures (fails_end _ _ _ _ _ _ _ c.in_ok-lexing.ensures c.loop-i.invariant.2 end c.in_default-stop.is none)
