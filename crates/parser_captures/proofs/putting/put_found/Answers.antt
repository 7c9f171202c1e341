use Rattle.std.proofs.Common.{ℕ, List, ◌++◌, Option, sym, ap, ◌∙◌, append-nil}
use Rattle.ds_base.specs.declared.summary.Summary.{Summary}
use Rattle.node_lanes.specs.Ends.{put_on}
use Rattle.parser_captures.specs.Puts.{frames_for}
use Rattle.parser_captures.proofs.Puts.{found_put, found_few, found_unfinished}
use Rattle.parser_captures.proofs.putting.put_found.Goals as goal

pub returns-in_default-clause-put : goal.returns-in_default-clause-put
returns-in_default-clause-put g c k =
    sym (append-nil (put_on c.args.out.now k)) ∙ ap (λ (o : Option Summary). put_on c.args.out.now k ++ frames_for c.args.groupers k o) (sym c.in_default.is)

pub returns-clause-put : goal.returns-clause-put
returns-clause-put g c =
    found_put c.args.out.now c.put.new.self c.args.groupers c.shard-grouper.result c.in-Some.summary c.args.found c.in-Some.is c.shard-grouper.ensures.shard c.shard-grouper.ensures.among
    c.requires.groupers.1 c.put.ensures.links c.requires.holds c.put.ensures.holds c.requires.none c.put.ensures.put

pub returns-clause-few : goal.returns-clause-few
returns-clause-few g c =
    found_few c.args.out.now c.put.new.self c.args.groupers c.shard-grouper.result c.in-Some.summary c.args.found c.in-Some.is c.shard-grouper.ensures.shard c.shard-grouper.ensures.among
    c.requires.groupers.1 c.put.ensures.links c.requires.holds c.put.ensures.holds c.requires.none c.put.ensures.put

pub returns-clause-unfinished : goal.returns-clause-unfinished
returns-clause-unfinished g c =
    found_unfinished c.args.out.now c.put.new.self c.args.groupers c.shard-grouper.result c.in-Some.summary c.args.found c.in-Some.is c.shard-grouper.ensures.shard c.shard-grouper.ensures.among
    c.requires.groupers.1 c.put.ensures.links c.requires.holds c.put.ensures.holds c.requires.none c.put.ensures.put c.requires.unfinished
