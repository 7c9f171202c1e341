use Rattle.std.proofs.Common.{◌<◌, ◌+◌, length, ap, arith}
use Rattle.std.proofs.lemmas.List.{length-drop}
use Rattle.job_table.proofs.Elements.{positive}
use Rattle.job_table.proofs.PatternWords.{words_word}
use Rattle.job_table.proofs.patterns.count_words.Goals as goal

pub loop-rest-preserved : goal.loop-rest-preserved
loop-rest-preserved c =
    let n = c.word_end-end.result in
    let some : 0 < n = positive n c.if-end-eq0.false in
    let e = words_word c.loop-rest.rest.now n c.word_end-end.ensures.end some c.word_end-end.ensures.within in
    rw c.behind-rest-in-loop-rest.ensures
    (omega (arith, c.loop-rest.invariant.0, ap length e), omega (arith, c.loop-rest.invariant.1, length-drop (n + 1) c.loop-rest.rest.now, c.word_end-end.ensures.within, some))
