use Rattle.std.proofs.Common.{◌≤◌, length, arith}
use Rattle.node_runs.specs.Members.{IsMemberOfJob}
use Rattle.node_runs.proofs.Members.{one_more, all_seen}
use Rattle.node_runs.proofs.processors.answers.is_of_job.Goals as goal

pub members-preserved : goal.members-preserved
members-preserved c =
    one_more (IsMemberOfJob c.args.vars) c.args.group.now.members.items c.members.i c.get-member.result.now c.members.invariant c.get-member.ensures
    (c.is_member_of_job.ensures c.if-not-is_member_of_job.false)

pub returns-clause-captures : goal.returns-clause-captures
returns-clause-captures c =
    let items = c.args.group.now.members.items in
    let long : length items ≤ c.members.i = omega arith in
    λ _. λ k d less. (all_seen (IsMemberOfJob c.args.vars) items c.members.i long c.members.invariant k d less).0

pub returns-clause-values : goal.returns-clause-values
returns-clause-values c =
    let items = c.args.group.now.members.items in
    let long : length items ≤ c.members.i = omega arith in
    λ _. λ k d less. (all_seen (IsMemberOfJob c.args.vars) items c.members.i long c.members.invariant k d less).1
