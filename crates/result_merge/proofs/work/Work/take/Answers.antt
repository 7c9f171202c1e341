-- The frame that was pulled is taken up and granted, or refused.
use Rattle.result_merge.specs.Steps.{HasPulled}
use Rattle.result_merge.proofs.Taking.{noted_by, pulled_last, pulled_there, taken_up, may_grant, refuse_fails}
use Rattle.result_merge.proofs.work.Work.take.Goals as goal

pub take_up-requires-clause-noted : goal.take_up-requires-clause-noted
take_up-requires-clause-noted g c =
    let pulled : HasPulled c.args.self.now c.pull.new.self c.args.j c.in-Ok-Some.frame = rw c.in-Ok-Some.field-0-is at c.in-Ok-Some.ensures.pulls in
    (noted_by c.args.self.now c.pull.new.self c.args.j c.in-Ok-Some.frame c.requires.sound pulled, pulled_there c.args.self.now c.pull.new.self c.args.j c.in-Ok-Some.frame c.requires.there pulled)

pub take_up-requires-clause-last : goal.take_up-requires-clause-last
take_up-requires-clause-last g c =
    let pulled : HasPulled c.args.self.now c.pull.new.self c.args.j c.in-Ok-Some.frame = rw c.in-Ok-Some.field-0-is at c.in-Ok-Some.ensures.pulls in
    pulled_last c.args.self.now c.pull.new.self c.args.j c.in-Ok-Some.frame c.requires.sound c.requires.there pulled

pub grant-requires : goal.grant-requires
grant-requires g c =
    let pulled : HasPulled c.args.self.now c.pull.new.self c.args.j c.in-Ok-Some.frame = rw c.in-Ok-Some.field-0-is at c.in-Ok-Some.ensures.pulls in
    may_grant c.args.self.now c.pull.new.self c.take_up.new.self c.args.j c.in-Ok-Some.frame c.requires.sound c.requires.there pulled c.in-Ok.ensures.takes

pub returns-in-Ok-clause-takes : goal.returns-in-Ok-clause-takes
returns-in-Ok-clause-takes g c =
    let pulled : HasPulled c.args.self.now c.pull.new.self c.args.j c.in-Ok-Some.frame = rw c.in-Ok-Some.field-0-is at c.in-Ok-Some.ensures.pulls in
    taken_up c.args.self.now c.pull.new.self c.take_up.new.self c.grant.new.self c.args.j c.in-Ok-Some.frame c.requires.sound c.requires.there pulled c.in-Ok.ensures.takes c.grant.ensures.grants

pub returns-in-Err-take_up-clause-fails : goal.returns-in-Err-take_up-clause-fails
returns-in-Err-take_up-clause-fails g c =
    let pulled : HasPulled c.args.self.now c.pull.new.self c.args.j c.in-Ok-Some.frame = rw c.in-Ok-Some.field-0-is at c.in-Ok-Some.ensures.pulls in
    refuse_fails c.args.self.now c.pull.new.self c.take_up.new.self c.args.j c.in-Ok-Some.frame c.requires.sound c.requires.there pulled c.in-Err-take_up.bad c.in-Err-take_up.ensures.refuses
