use Rattle.std.proofs.Common.{◌+◌, arith, drop}
use Rattle.std.proofs.lemmas.List.{drop_all, drop_more}
use Rattle.summary_spec.specs.Job.{declared_of}
use Rattle.window_grouper.specs.Sorted.{by_stamp}
use Rattle.central_report.proofs.Underway.{under_none, under_next, under_more, under_all, place_within}
use Rattle.central_report.proofs.central.answer_all.Goals as goal

pub loop-place-init : goal.loop-place-init
loop-place-init c =
    let names = c.args.job.now.names.captures.items in
    let job = declared_of c.args.job.now in
    under_none names job c.args.list.now.items c.args.places.now c.new-groups.result c.new-written.result c.requires.places c.new-groups.ensures (c.new-written.ensures names job)

pub get-s-requires : goal.get-s-requires
get-s-requires c =
    let names = c.args.job.now.names.captures.items in
    let job = declared_of c.args.job.now in
    let i = c.loop-place.place-index in
    place_within names job c.args.list.now.items _ (drop (i + 1) c.args.places.now) (drop i c.args.places.now) c.loop-place.groups c.loop-place.written c.loop-place.invariant
    (drop_more c.args.places.now i 0 (omega arith))

pub take_up-requires : goal.take_up-requires
take_up-requires c =
    let names = c.args.job.now.names.captures.items in
    let job = declared_of c.args.job.now in
    let i = c.loop-place.place-index in
    under_next names job c.args.list.now.items _ (drop (i + 1) c.args.places.now) (drop i c.args.places.now) c.loop-place.groups c.loop-place.written c.get-s.result
    c.requires.list c.loop-place.invariant (drop_more c.args.places.now i 0 (omega arith)) c.get-s.ensures

pub loop-place-preserved : goal.loop-place-preserved
loop-place-preserved c =
    let names = c.args.job.now.names.captures.items in
    let job = declared_of c.args.job.now in
    let i = c.loop-place.place-index in
    under_more names job c.args.list.now.items _ (drop (i + 1) c.args.places.now) (drop i c.args.places.now) c.loop-place.groups _ c.loop-place.written _ c.get-s.result
    c.requires.list c.loop-place.invariant (drop_more c.args.places.now i 0 (omega arith)) c.get-s.ensures c.in_ok-take_up.ensures

pub answer_rest-requires : goal.answer_rest-requires
answer_rest-requires c =
    let names = c.args.job.now.names.captures.items in
    let job = declared_of c.args.job.now in
    let i = c.loop-place.place-index in (
      by_stamp c.args.list.now.items,
      under_all names job c.args.list.now.items (drop i c.args.places.now) c.loop-place.groups c.loop-place.written c.loop-place.invariant
          (drop_all i c.args.places.now (omega arith)),
    )

pub returns : goal.returns
returns c =
    let names = c.args.job.now.names.captures.items in
    let job = declared_of c.args.job.now in
    let i = c.loop-place.place-index in
    c.in_ok-answer_rest.ensures (by_stamp c.args.list.now.items)
    (under_all names job c.args.list.now.items (drop i c.args.places.now) c.loop-place.groups c.loop-place.written c.loop-place.invariant
    (drop_all i c.args.places.now (omega arith)))
