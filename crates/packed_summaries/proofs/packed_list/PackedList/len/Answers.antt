use Rattle.packed_summaries.proofs.Unpacked.{count_seen}
use Rattle.packed_summaries.proofs.packed_list.PackedList.len.Goals as goal

pub returns : goal.returns
returns c =
    let l = c.self.inside in
    count_seen c.args.self.now l.packing l.len l.words.items c.self.view_is
