use Rattle.std.proofs.Common.{◌∙◌, ap, sym, arith}
use Rattle.std.specs.Prelude.{Some}
use Rattle.ds_base.specs.declared.summary.Summary.{Summary}
use Rattle.packed_summaries.proofs.Unpacked.{count_seen, summary_there}
use Rattle.packed_summaries.proofs.packed_list.PackedList.get.Goals as goal

pub row_at-row-requires-clause-within : goal.row_at-row-requires-clause-within
row_at-row-requires-clause-within c =
    let l = c.self.inside in
    omega (arith, c.requires, count_seen c.args.self.now l.packing l.len l.words.items c.self.view_is)

pub returns : goal.returns
returns c =
    let l = c.self.inside in
    summary_there c.args.self.now l.packing c.stride.result l.len l.words.items c.deref.result.now c.args.i c.row_at-row.result.now c.self.view_is
    c.stride.ensures.value c.deref.ensures.value c.row_at-row.ensures.value
    ∙ ap (λ (s : Summary). Some s) (sym c.summary_in.ensures)
