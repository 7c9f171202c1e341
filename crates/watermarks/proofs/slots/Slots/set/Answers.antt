use Rattle.std.proofs.Common.{Some, None, set, Option, List, ℕ, sym, ap, ◌∙◌, false, arith}
use Rattle.watermarks.proofs.Places.{marks_of-set, marks_of-end}
use Rattle.watermarks.proofs.slots.Slots.set.Goals as goal

pub returns-in-Some : goal.returns-in-Some
returns-in-Some c =
    let o = c.self.inside in
    marks_of-set o.marks o.ended c.args.i c.in-Some.mark false (omega (arith, c.self.invariant.0, c.self.invariant.1))
    ∙ ap (λ (ms : List (Option ℕ)). set ms c.args.i (Some c.in-Some.mark)) c.self.view_is
    ∙ ap (λ (m : Option ℕ). set c.args.self.now c.args.i m) (sym c.in-Some.is)

pub returns-in-None : goal.returns-in-None
returns-in-None c =
    let o = c.self.inside in
    marks_of-end o.marks o.ended c.args.i (omega (arith, c.self.invariant.0, c.self.invariant.1))
    ∙ ap (λ (ms : List (Option ℕ)). set ms c.args.i None) c.self.view_is
    ∙ ap (λ (m : Option ℕ). set c.args.self.now c.args.i m) (sym c.in-None.is)
