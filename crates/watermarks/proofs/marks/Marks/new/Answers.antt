use Rattle.std.proofs.Common.{Option, List, ℕ, Some, ap, ◌∙◌, take}
use Rattle.std.proofs.lemmas.List.{take-replicate}
use Rattle.watermarks.proofs.marks.Marks.new.Goals as goal

pub returns : goal.returns
returns c =
    ap (λ (ms : List (Option ℕ)). take c.args.captures ms) c.new-marks.ensures
    ∙ take-replicate c.args.captures 64 (Some 0) c.requires
