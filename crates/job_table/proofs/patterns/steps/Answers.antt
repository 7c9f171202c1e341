use Rattle.std.proofs.Common.{◌<◌, ◌∷◌, [], length, sym, ap, ◌∙◌, refl, arith, length-append}
use Rattle.job_table.specs.Limits.{StepBelow}
use Rattle.job_table.proofs.Elements.{positive, all_more}
use Rattle.job_table.proofs.PatternWords.{words_word}
use Rattle.job_table.proofs.patterns.steps.Goals as goal

pub loop-rest-preserved : goal.loop-rest-preserved
loop-rest-preserved c =
    let n = c.word_end-end.result in
    let some : 0 < n = positive n c.if-end-eq0.false in
    let e = words_word c.loop-rest.rest.now n c.word_end-end.ensures.end some c.word_end-end.ensures.within in
    let known = sym (rw c.word.ensures at c.in_ok-step.ensures.answer) in
    rw (c.behind-rest-in-loop-rest.ensures, c.push.ensures) (
      c.loop-rest.invariant.0 ∙ rw (e, known) refl,
      omega (arith, c.loop-rest.invariant.1, ap length e, length-append c.loop-rest.path (c.in_ok-step.step ∷ [])),
      all_more (StepBelow (length c.args.captures.now.items)) c.loop-rest.path c.in_ok-step.step c.loop-rest.invariant.2 c.in_ok-step.ensures.below,
    )
