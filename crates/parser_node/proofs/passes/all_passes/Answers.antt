-- One pass more, until no further step can be made.
use Rattle.std.proofs.Common.{◌≡◌, ℕ, None, Some, Bool, refl, subst, arith}
use Rattle.parser_steps.specs.Seen.{seen_of}
use Rattle.parser_node.specs.Passing.{RestsBy, ManyPasses}
use Rattle.parser_node.proofs.Passing.{passes_rest, passes_end, fault_later}
use Rattle.parser_node.proofs.Stepping.{holds_on, holds_by_fault, rests_from, first_poll, first_meets, passes_more}
use Rattle.parser_node.proofs.passes.all_passes.Goals as goal

pub poll_behind-requires-clause-quiet : goal.poll_behind-requires-clause-quiet
poll_behind-requires-clause-quiet g c = (c.requires.holds.stands.quiet refl).1

pub returns-in-Err-clause-holds : goal.returns-in-Err-clause-holds
returns-in-Err-clause-holds g c = holds_by_fault c.args.steps.now c.args.out.now c.poll_behind.new.out c.in-Err.bad c.requires.holds c.in-Err.ensures.keeps

pub returns-in-Err-clause-meets : goal.returns-in-Err-clause-meets
returns-in-Err-clause-meets g c = first_meets c.args.steps.now c.args.out.now c.poll_behind.new.out c.in-Err.bad c.requires.holds c.in-Err.ensures.keeps c.in-Err.ensures.meets

pub passes-init : goal.passes-init
passes-init g c =
    let p = c.in-Ok.ensures in (
      holds_on c.args.steps.now c.args.out.now c.poll_behind.new.out c.requires.holds p.keeps p.polls.quiet,
      first_poll c.args.steps.now c.args.out.now c.poll_behind.new.out c.in-Ok.polled c.some_wait-rests.result c.requires.holds p.keeps p.polls
          (rests_from c.some_wait-rests.result (seen_of c.args.steps.now c.poll_behind.new.out None) c.some_wait-rests.ensures.some c.some_wait-rests.ensures.none),
    )

pub returns-then-rests-clause-passes : goal.returns-then-rests-clause-passes
returns-then-rests-clause-passes g c =
    let a = seen_of c.args.steps.now c.args.out.now None in
    let b = seen_of c.passes.steps c.passes.out None in
    passes_rest a b c.passes.moved c.passes.i (subst (λ (r : Bool). ManyPasses c.passes.moved r c.passes.i a b) c.if-rests.true c.passes.invariant.1)

pub one_pass-requires-clause-none : goal.one_pass-requires-clause-none
one_pass-requires-clause-none g c = subst (λ (r : Bool). RestsBy r (seen_of c.passes.steps c.passes.out None)) c.if-rests.false c.passes.invariant.1.rests_by

pub returns-in-Err-one_pass-clause-meets : goal.returns-in-Err-one_pass-clause-meets
returns-in-Err-one_pass-clause-meets g c =
    let so_far = c.passes.invariant.1.goes in
    fault_later (seen_of c.args.steps.now c.args.out.now None) (seen_of c.passes.steps c.passes.out None) (seen_of c.one_pass.new.steps c.one_pass.new.out (Some c.in-Err-one_pass.bad))
    so_far.goes so_far.calm c.requires.holds.stands refl c.passes.invariant.0.stands refl c.in-Err-one_pass.bad c.in-Err-one_pass.ensures.meets

pub passes-preserved : goal.passes-preserved
passes-preserved g c =
    let e = c.in-Ok-one_pass.ensures in (
      e.holds,
      passes_more c.args.steps.now c.passes.steps c.one_pass.new.steps c.args.out.now c.passes.out c.one_pass.new.out c.passes.moved c.passes.rests c.in-Ok-one_pass.done.moved c.in-Ok-one_pass.done.rests
          c.either-moved.result c.passes.i c.if-rests.false c.either-moved.ensures e.holds c.passes.invariant.1 e.passes,
    )

pub returns-clause-passes : goal.returns-clause-passes
returns-clause-passes g c =
    let a = seen_of c.args.steps.now c.args.out.now None in
    let b = seen_of c.passes.steps c.passes.out None in
    let all : c.passes.i ≡ 1024 = omega arith in
    passes_end a b c.passes.moved c.passes.rests c.passes.invariant.0.stands (subst (λ (n : ℕ). ManyPasses c.passes.moved c.passes.rests n a b) all c.passes.invariant.1)
