use Rattle.std.proofs.Common.{map, subst, length}
use Rattle.summary_spec.specs.Job.{declared_of}
use Rattle.parser_captures.specs.Choice.{IsBest}
use Rattle.parser_steps.specs.Seen.{StepsSeen, steps_of}
use Rattle.parser_steps.proofs.Finishing.{all_read, ended_well}
use Rattle.parser_steps.proofs.Ready.{open_links}
use Rattle.parser_steps.proofs.over.step_over.Goals as goal

pub put_finish-requires-clause-unfinished : goal.put_finish-requires-clause-unfinished
put_finish-requires-clause-unfinished g c going =
    open_links
    (steps_of (declared_of c.args.job.now) c.args.me c.args.parsers c.args.groupers c.args.captures.now.items (map g.S.Source.seen c.args.sources.now.items) c.args.finished.now) c.args.out.now
    c.requires.holds going

pub returns-in_default-clause-ends : goal.returns-in_default-clause-ends
returns-in_default-clause-ends g c =
    let job = declared_of c.args.job.now in
    let captures = c.args.captures.now.items in
    let steps : StepsSeen = steps_of job c.args.me c.args.parsers c.args.groupers captures (map g.S.Source.seen c.args.sources.now.items) c.args.finished.now in
    let best = subst (IsBest captures (length captures)) c.in_default.is c.choose.ensures.best in
    ended_well steps c.args.out.now c.put_finish.new.out c.requires.holds (all_read job captures best) c.put_finish.ensures.links c.put_finish.ensures.holds c.put_finish.ensures.put c.put_finish.ensures.still
    c.put_finish.new.finished c.put_finish.ensures.finished
