use Rattle.std.proofs.Common.{◌∙◌, sym}
use Rattle.std.specs.Cmp.Lexicographic.{bytes_decides}
use Rattle.packed_summaries.proofs.fits.same_numbers.Goals as goal

pub returns : goal.returns
returns c =
    let decides = bytes_decides c.args.first.now c.args.second.now in
    (λ same. decides.0 (sym c.eq.ensures ∙ same), λ same. c.eq.ensures ∙ decides.1 same)
