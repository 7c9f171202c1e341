use Rattle.std.proofs.Common.{◌<◌, length, arith}
use Rattle.ds_base.proofs.Places.{all_at}
use Rattle.ds_base.specs.declared.summary.Summary.{Summary}
use Rattle.path_judges.specs.Members.{capture_of}
use Rattle.path_judges.proofs.Rise.{Scanned-start, Scanned-some, Scanned-loop, Scanned-next, Scanned-end}
use Rattle.path_judges.proofs.hop_loop.first_loop.Goals as goal

pub loop-j-init : goal.loop-j-init
loop-j-init c = Scanned-start c.args.hop c.args.members.now.items

pub value_at-low-requires : goal.value_at-low-requires
value_at-low-requires c =
    all_at (λ (member : Summary). c.args.hop < length member.vals) c.args.members.now.items c.loop-j.j c.get-member.result.now c.requires.values c.get-member.ensures

pub bounds-greatest-capture : goal.bounds-greatest-capture
bounds-greatest-capture c =
    all_at (λ (member : Summary). capture_of member < 64) c.args.members.now.items c.loop-j.j c.get-member.result.now c.requires.captures c.get-member.ensures

pub first_above-high-requires-clause-low_value : goal.first_above-high-requires-clause-low_value
first_above-high-requires-clause-low_value c =
    all_at (λ (member : Summary). c.args.hop < length member.vals) c.args.members.now.items c.loop-j.j c.get-member.result.now c.requires.values c.get-member.ensures

pub first_above-high-requires-clause-one_is : goal.first_above-high-requires-clause-one_is
first_above-high-requires-clause-one_is c =
    let within = all_at (λ (member : Summary). capture_of member < 64) c.args.members.now.items c.loop-j.j c.get-member.result.now c.requires.captures c.get-member.ensures in
    Scanned-some c.args.hop c.args.members.now.items c.loop-j.j c.get-member.result.now c.loop-j.greatest c.loop-j.invariant within
    (rw c.value_at-low.ensures at c.if-low-greatest.true)

pub returns-then-low-greatest : goal.returns-then-low-greatest
returns-then-low-greatest c =
    rw c.value_at-low.ensures
    (Scanned-loop c.args.hop c.args.members.now.items c.loop-j.j c.get-member.result.now c.loop-j.greatest c.first_above-high.result c.loop-j.invariant c.get-member.ensures c.first_above-high.ensures)

pub bounds-greatest-capture-in-loop-j : goal.bounds-greatest-capture-in-loop-j
bounds-greatest-capture-in-loop-j c =
    all_at (λ (member : Summary). capture_of member < 64) c.args.members.now.items c.loop-j.j c.get-member.result.now c.requires.captures c.get-member.ensures

pub loop-j-preserved : goal.loop-j-preserved
loop-j-preserved c =
    let within = all_at (λ (member : Summary). capture_of member < 64) c.args.members.now.items c.loop-j.j c.get-member.result.now c.requires.captures c.get-member.ensures in
    rw c.value_at-low.ensures
    (Scanned-next c.args.hop c.args.members.now.items c.loop-j.j c.get-member.result.now c.loop-j.greatest c.loop-j.invariant c.get-member.ensures within
    (rw c.value_at-low.ensures at c.if-low-greatest.false))

pub returns : goal.returns
returns c = Scanned-end c.args.hop c.args.members.now.items c.loop-j.j c.loop-j.greatest c.loop-j.invariant (omega arith)
