use Rattle.std.proofs.Common.{sym, refl, ◌∙◌}
use Rattle.path_judges.proofs.Exits.{Any-of_exit, All-no_exit, drop_only, drop_verdict-fine, drop_verdict-dropped}
use Rattle.path_judges.proofs.drop.judge_drop.Goals as goal

pub returns-then-reach_exit-clause-verdict : goal.returns-then-reach_exit-clause-verdict
returns-then-reach_exit-clause-verdict c = Any-of_exit c.args.exits c.args.group.now.members.items (sym c.if-reach_exit.ensures)

pub returns-then-reach_exit-clause-only : goal.returns-then-reach_exit-clause-only
returns-then-reach_exit-clause-only c other h =
    drop_only c.args.exits c.args.group.now.members.items other h
    ∙ drop_verdict-fine c.args.exits c.args.group.now.members.items (sym c.if-reach_exit.ensures)

pub returns-clause-only : goal.returns-clause-only
returns-clause-only c other h =
    drop_only c.args.exits c.args.group.now.members.items other h
    ∙ drop_verdict-dropped c.args.exits c.args.group.now.members.items c.get.result.now (sym c.if-reach_exit.ensures) (rw c.len.ensures at c.get.ensures)

pub returns-clause-verdict : goal.returns-clause-verdict
returns-clause-verdict c = record {
  no_exit = All-no_exit c.args.exits c.args.group.now.members.items (sym c.if-reach_exit.ensures);
  last = c.get.result.now;
  is_last = rw c.len.ensures at c.get.ensures;
  capture_is = refl;
}
