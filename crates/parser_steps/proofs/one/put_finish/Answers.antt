use Rattle.std.proofs.Common.{◌∷◌, [], arith}
use Rattle.node_frames.specs.declared.frame.Frame.TheVariants.{Finish}
use Rattle.parser_captures.proofs.Puts.{more_put}
use Rattle.parser_steps.proofs.one.put_finish.Goals as goal

pub returns-clause-put : goal.returns-clause-put
returns-clause-put g c first k less =
    more_put c.args.out.now c.put_all.new.self k (Finish ∷ []) c.put_all.ensures.links c.requires.holds.as_many c.put_all.ensures.holds.as_many less
    (c.put_all.ensures.put k (omega (arith, less, c.requires.groupers.1)))
