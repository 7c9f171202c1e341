use Rattle.std.proofs.Common.{sym, ◌∙◌, refl}
use Rattle.job_values.proofs.Lists.{strays_shown}
use Rattle.job_values.proofs.objects.no_stray.Goals as goal

pub returns-then-some_unknown : goal.returns-then-some_unknown
returns-then-some_unknown c =
    let found = sym (c.some_unknown.ensures ∙ strays_shown c.args.known.now c.args.members.now.entries) ∙ c.if-some_unknown.true in
    rw (found, c.fault_at.ensures) refl

pub returns : goal.returns
returns c =
    let found = sym (c.some_unknown.ensures ∙ strays_shown c.args.known.now c.args.members.now.entries) ∙ c.if-some_unknown.false in
    rw found refl
