use Rattle.std.proofs.Common.{◌≡◌, List, None, length, map, sym, subst, ◌∙◌, arith}
use Rattle.std.proofs.lemmas.List.{length-map}
use Rattle.ds_base.specs.Outside.{SourceSeen}
use Rattle.summary_spec.specs.Job.{declared_of}
use Rattle.net_law.specs.Starts.{new_outs}
use Rattle.parser_steps.specs.Holds.{ParserHolds}
use Rattle.parser_steps.specs.Seen.{StepsSeen}
use Rattle.parser_steps.proofs.Beginning.{are_new, new_holds}
use Rattle.parser_steps.proofs.state.ParserSteps.new.Goals as goal

pub returns-in-Ok-clause-unread : goal.returns-in-Ok-clause-unread
returns-in-Ok-clause-unread g c =
    let sources : List SourceSeen = map g.S.Source.seen c.args.sources.items in
    let long : length sources ≡ length c.args.sources.items = length-map c.args.sources.items g.S.Source.seen in
    are_new (declared_of c.args.job.now) c.args.me c.args.parsers c.args.groupers c.in-Ok.captures.items sources (c.in-Ok.ensures.count ∙ c.len.ensures ∙ sym long)
    (λ k d less. c.in-Ok.ensures.fresh k d (omega (arith, less, long, c.len.ensures)))

pub returns-in-Ok-clause-holds : goal.returns-in-Ok-clause-holds
returns-in-Ok-clause-holds g c credits links long new =
    let sources : List SourceSeen = map g.S.Source.seen c.args.sources.items in
    subst (λ (s : StepsSeen). ParserHolds s (new_outs links) None) (sym (returns-in-Ok-clause-unread g c))
    (new_holds (declared_of c.args.job.now) c.args.me c.args.parsers c.args.groupers sources c.args.job.now.lawful c.requires.place c.requires.groupers c.requires.fresh c.requires.own credits links long new)
