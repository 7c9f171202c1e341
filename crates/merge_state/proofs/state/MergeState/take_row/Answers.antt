use Rattle.merge_state.proofs.Stepped as stepped
use Rattle.merge_state.proofs.state.MergeState.take_row.Goals as goal

pub add_row-requires-clause-few : goal.add_row-requires-clause-few
add_row-requires-clause-few c =
    let d = c.args.self.now in
    let can = c.requires.1 in
    stepped.row_room can.job can.stands.shape can.stands.counts can.stands.taken can.more can.stands.gained d.waiting d.marks d.profile d.counts.items d.groups d.stage c.requires.0 can.stands.is
    c.args.row.now can.takes

pub returns : goal.returns
returns c =
    let d = c.args.self.now in
    stepped.on_both c.add_row.result _ _ _
    (λ joins is job shape counts taken more gained processor h takes.
    stepped.row_taken job shape counts taken more gained d.waiting d.marks d.profile d.counts.items d.groups d.stage processor h c.args.row.now c.add_row.new.self takes c.show_width.ensures is joins)
    c.add_row.ensures.joined c.add_row.ensures.value
