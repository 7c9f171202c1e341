-- The front of ones is so many ones.
use Rattle.std.proofs.Common.{ap, ◌∙◌, take}
use Rattle.std.proofs.lemmas.List.{take-replicate}
use Rattle.credit_link.proofs.receiver.ones.Goals as goal

pub returns : goal.returns
returns c = c.front.ensures ∙ ap (take c.args.count) c.requires.ones ∙ take-replicate c.args.count 64 1 c.requires.few
