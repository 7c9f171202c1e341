use Rattle.std.proofs.Common.{ap, ◌∙◌, length}
use Rattle.std.proofs.lemmas.List.{length-map}
use Rattle.packed_summaries.specs.Packing.{columns_of}
use Rattle.packed_summaries.specs.Rows.{value_in}
use Rattle.packed_summaries.proofs.Columns.{count_columns}
use Rattle.packed_summaries.proofs.row.summary_in.Goals as goal

pub key_of-key-requires : goal.key_of-key-requires
key_of-key-requires c =
    let wide = c.args.packing.now.wide in
    ap length c.values_in-vals.ensures ∙ length-map (columns_of wide) (value_in c.args.row.now) ∙ count_columns 2 wide
