use Rattle.std.proofs.Common.{Bool, List, ◌≤◌, ◌+◌, ◌++◌, ◌∙◌, ap, sym, arith, length, drop}
use Rattle.std.proofs.lemmas.List.{drop_all, append-nil}
use Rattle.packed_summaries.specs.Rows.{values_words, value_words}
use Rattle.packed_summaries.proofs.Words.{as_many, value_put, value_fits, words_left, put_more}
use Rattle.packed_summaries.proofs.row.push_values.Goals as goal

pub get-requires : goal.get-requires
get-requires c = omega (arith, as_many c.args.packing.now.wide c.args.vals.now c.requires.fit)

pub push_value-requires : goal.push_value-requires
push_value-requires c =
    let wide = c.args.packing.now.wide in
    let v = c.loop-variable.variable in
    let w = c.column-column.result.wide in
    record {
      fits = (value_fits wide c.args.vals.now v w c.get.result c.column-column.ensures.width c.get.ensures c.loop-variable.invariant.fit).0;
      room = omega (arith, words_left wide v w c.column-column.ensures.width, c.loop-variable.invariant.room);
    }

pub loop-variable-preserved : goal.loop-variable-preserved
loop-variable-preserved c =
    let wide = c.args.packing.now.wide in
    let vals = c.args.vals.now in
    let v = c.loop-variable.variable in
    let w = c.column-column.result.wide in
    record {
      words = put_more c.loop-variable.words.items (value_words w c.get.result) (values_words (drop (v + 1) wide) (drop (v + 1) vals))
          c.push_value.new.words.items _ (values_words (drop v wide) (drop v vals))
          (value_put wide vals v w c.get.result c.column-column.ensures.width c.get.ensures) c.loop-variable.invariant.words c.push_value.ensures.pushed;
      room = omega (arith, words_left wide v w c.column-column.ensures.width, c.loop-variable.invariant.room, c.push_value.ensures.len, c.push_value.ensures.capacity);
      fit = (value_fits wide vals v w c.get.result c.column-column.ensures.width c.get.ensures c.loop-variable.invariant.fit).1;
    }

pub returns : goal.returns
returns c =
    let wide = c.args.packing.now.wide in
    let v = c.loop-variable.variable in
    let long : length wide ≤ v = omega arith in
    sym (append-nil c.loop-variable.words.items)
    ∙ ap (λ (ws : List Bool). c.loop-variable.words.items ++ values_words ws (drop v c.args.vals.now)) (sym (drop_all v wide long))
    ∙ c.loop-variable.invariant.words
