use Rattle.std.proofs.Common.{map, arith}
use Rattle.summary_spec.specs.Job.{declared_of}
use Rattle.parser_steps.proofs.Joined.{well, badly}
use Rattle.parser_steps.proofs.Ready.{few_places, some_groupers, may_step, still_open}
use Rattle.parser_steps.proofs.over.step_at.Goals as goal

pub overflow_cast-number : goal.overflow_cast-number
overflow_cast-number g c =
    let few = few_places (declared_of c.args.job.now) c.args.me c.args.parsers c.args.groupers c.args.captures.now.items (map g.S.Source.seen c.args.sources.now.items) c.args.finished c.args.out.now c.args.i
    c.requires.stand c.requires.holds c.requires.least in
    omega (arith, few)

pub step_in-requires-clause-may : goal.step_in-requires-clause-may
step_in-requires-clause-may g c =
    may_step (declared_of c.args.job.now) c.args.me c.args.parsers c.args.groupers c.args.captures.now.items (map g.S.Source.seen c.args.sources.now.items) c.args.finished c.args.out.now c.args.i
    c.requires.stand c.requires.holds c.requires.least

pub step_in-requires-clause-unfinished : goal.step_in-requires-clause-unfinished
step_in-requires-clause-unfinished g c =
    still_open (declared_of c.args.job.now) c.args.me c.args.parsers c.args.groupers c.args.captures.now.items (map g.S.Source.seen c.args.sources.now.items) c.args.finished c.args.out.now c.args.i
    c.requires.stand c.requires.holds c.requires.least

pub returns-in-Ok-clause-stand : goal.returns-in-Ok-clause-stand
returns-in-Ok-clause-stand g c =
    let job = declared_of c.args.job.now in
    let captures = c.args.captures.now.items in
    let sources = map g.S.Source.seen c.args.sources.now.items in
    (well job c.args.me c.args.parsers c.args.groupers captures c.step_in.new.captures.items sources (map g.S.Source.seen c.step_in.new.sources.items) c.args.finished c.args.out.now c.step_in.new.out c.args.i
    c.requires.stand c.requires.holds c.requires.least c.in-Ok.stepped
    (some_groupers job c.args.me c.args.parsers c.args.groupers captures sources c.args.finished c.args.out.now c.args.i c.requires.stand c.requires.holds c.requires.least)
    c.in-Ok.ensures.links c.in-Ok.ensures.holds c.in-Ok.ensures.ends).1

pub returns-in-Ok-clause-ends : goal.returns-in-Ok-clause-ends
returns-in-Ok-clause-ends g c =
    let job = declared_of c.args.job.now in
    let captures = c.args.captures.now.items in
    let sources = map g.S.Source.seen c.args.sources.now.items in
    (well job c.args.me c.args.parsers c.args.groupers captures c.step_in.new.captures.items sources (map g.S.Source.seen c.step_in.new.sources.items) c.args.finished c.args.out.now c.step_in.new.out c.args.i
    c.requires.stand c.requires.holds c.requires.least c.in-Ok.stepped
    (some_groupers job c.args.me c.args.parsers c.args.groupers captures sources c.args.finished c.args.out.now c.args.i c.requires.stand c.requires.holds c.requires.least)
    c.in-Ok.ensures.links c.in-Ok.ensures.holds c.in-Ok.ensures.ends).0

pub returns-in-Err-clause-stand : goal.returns-in-Err-clause-stand
returns-in-Err-clause-stand g c =
    (badly (declared_of c.args.job.now) c.args.me c.args.parsers c.args.groupers c.args.captures.now.items c.step_in.new.captures.items (map g.S.Source.seen c.args.sources.now.items)
    (map g.S.Source.seen c.step_in.new.sources.items) c.args.finished c.args.out.now c.step_in.new.out c.args.i c.requires.stand c.requires.holds c.requires.least c.in-Err.bad c.in-Err.ensures.ends).1

pub returns-in-Err-clause-ends : goal.returns-in-Err-clause-ends
returns-in-Err-clause-ends g c =
    (badly (declared_of c.args.job.now) c.args.me c.args.parsers c.args.groupers c.args.captures.now.items c.step_in.new.captures.items (map g.S.Source.seen c.args.sources.now.items)
    (map g.S.Source.seen c.step_in.new.sources.items) c.args.finished c.args.out.now c.step_in.new.out c.args.i c.requires.stand c.requires.holds c.requires.least c.in-Err.bad c.in-Err.ensures.ends).0
