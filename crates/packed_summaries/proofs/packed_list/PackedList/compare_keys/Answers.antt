use Rattle.std.proofs.Common.{◌∙◌, ap, sym, arith}
use Rattle.std.specs.Ordering.{nat_cmp}
use Rattle.std.specs.Cmp.Lexicographic.{slice_cmp}
use Rattle.std.proofs.lemmas.Option.{same_Some}
use Rattle.ds_base.specs.declared.summary.Summary.{Summary}
use Rattle.packed_summaries.specs.Rows.{summary_in}
use Rattle.packed_summaries.proofs.Unpacked.{count_seen, summary_there}
use Rattle.packed_summaries.proofs.packed_list.PackedList.compare_keys.Goals as goal

pub row_at-first-requires-clause-within : goal.row_at-first-requires-clause-within
row_at-first-requires-clause-within c =
    let l = c.self.inside in
    omega (arith, c.requires.first, count_seen c.args.self.now l.packing l.len l.words.items c.self.view_is)

pub row_at-second-requires-clause-within : goal.row_at-second-requires-clause-within
row_at-second-requires-clause-within c =
    let l = c.self.inside in
    omega (arith, c.requires.second, count_seen c.args.self.now l.packing l.len l.words.items c.self.view_is)

pub returns : goal.returns
returns c a b at_first at_second =
    let l = c.self.inside in
    let one = summary_in l.packing c.row_at-first.result.now in
    let other = summary_in l.packing c.row_at-second.result.now in
    let there = summary_there c.args.self.now l.packing c.stride.result l.len l.words.items c.deref.result.now c.args.i c.row_at-first.result.now c.self.view_is
    c.stride.ensures.value c.deref.ensures.value c.row_at-first.ensures.value in
    let here = summary_there c.args.self.now l.packing c.stride-2.result l.len l.words.items c.deref-2.result.now c.args.j c.row_at-second.result.now c.self.view_is
    c.stride-2.ensures.value c.deref-2.ensures.value c.row_at-second.ensures.value in
    c.compare_keys.ensures
    ∙ ap (λ (x : Summary). slice_cmp nat_cmp x.key other.key) (same_Some one a (sym there ∙ at_first))
    ∙ ap (λ (x : Summary). slice_cmp nat_cmp a.key x.key) (same_Some other b (sym here ∙ at_second))
