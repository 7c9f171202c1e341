-- No frame waits, so there is room for one.
use Rattle.std.proofs.Common.{Some, sym, ap, ◌∙◌, subst, arith}
use Rattle.grouper_state.specs.States.{with_due}
use Rattle.grouper_state.specs.declared.due_frame.Due.{Due}
use Rattle.grouper_state.specs.declared.due_frame.Due.TheVariants.{To, All}
use Rattle.grouper_node.specs.Works.{puts_of}
use Rattle.grouper_node.specs.Steps.{IsOpenFor}
use Rattle.grouper_node.proofs.Lists.{puts_long}
use Rattle.grouper_node.proofs.Putting.{has_room, still_open, shuffle_goes, one_put, all_put_on}
use Rattle.grouper_node.proofs.noting.put_frame.Goals as goal

pub put-requires-clause-room : goal.put-requires-clause-room
put-requires-clause-room g c =
    let outs = c.args.outs.now in
    let there : IsOpenFor (puts_of outs) (To c.in-To.link c.in-To.frame) = subst (λ (x : Due). IsOpenFor (puts_of outs) x) c.in-To.is c.requires.unfinished in
    (omega (arith, there.0, puts_long outs), has_room outs outs c.requires.none c.in-To.link)

pub put-requires-clause-unfinished : goal.put-requires-clause-unfinished
put-requires-clause-unfinished g c d =
    let outs = c.args.outs.now in
    let there : IsOpenFor (puts_of outs) (To c.in-To.link c.in-To.frame) = subst (λ (x : Due). IsOpenFor (puts_of outs) x) c.in-To.is c.requires.unfinished in
    still_open outs outs c.requires.none c.in-To.link d (omega (arith, there.0, puts_long outs)) there.1

pub returns-in-To-clause-goes : goal.returns-in-To-clause-goes
returns-in-To-clause-goes g c = shuffle_goes c.args.outs.now c.put.new.self c.requires.none c.put.ensures.links c.put.ensures.holds

pub returns-in-To-clause-put : goal.returns-in-To-clause-put
returns-in-To-clause-put g c =
    one_put c.args.outs.now c.put.new.self c.requires.none c.in-To.frame c.put.ensures.links c.put.ensures.holds c.in-To.link c.put.ensures.put
    ∙ ap (λ (x : Due). with_due (puts_of c.args.outs.now) (Some x)) (sym c.in-To.is)

pub put_all-requires-clause-there : goal.put_all-requires-clause-there
put_all-requires-clause-there g c = omega (arith, c.requires.many)

pub put_all-requires-clause-room : goal.put_all-requires-clause-room
put_all-requires-clause-room g c k less = has_room c.args.outs.now c.args.outs.now c.requires.none k

pub put_all-requires-clause-unfinished : goal.put_all-requires-clause-unfinished
put_all-requires-clause-unfinished g c k d less =
    let outs = c.args.outs.now in
    let each : IsOpenFor (puts_of outs) (All c.in-All.frame) = subst (λ (x : Due). IsOpenFor (puts_of outs) x) c.in-All.is c.requires.unfinished in
    still_open outs outs c.requires.none k d (omega (arith, less, c.requires.many)) (each k (omega (arith, less, c.requires.many, puts_long outs)))

pub returns-in-All-clause-goes : goal.returns-in-All-clause-goes
returns-in-All-clause-goes g c = shuffle_goes c.args.outs.now c.put_all.new.self c.requires.none c.put_all.ensures.links c.put_all.ensures.holds

pub returns-in-All-clause-put : goal.returns-in-All-clause-put
returns-in-All-clause-put g c =
    all_put_on c.args.outs.now c.put_all.new.self c.requires.none c.in-All.frame c.put_all.ensures.links c.put_all.ensures.holds (λ k less. c.put_all.ensures.put k (omega (arith, less, c.requires.many)))
    ∙ ap (λ (x : Due). with_due (puts_of c.args.outs.now) (Some x)) (sym c.in-All.is)
