use Rattle.std.proofs.Common.{◌≡◌, ◌+◌, ◌++◌, ◌∷◌, [], Some, None, get_or, take, Option, List, ℕ, sym, ap, subst, ◌∙◌, arith}
use Rattle.watermarks.specs.Slots.{mark_of, marks_of}
use Rattle.watermarks.proofs.Places.{marks_of-get, marks_of-next}
use Rattle.watermarks.proofs.slots.Slots.get.Goals as goal

pub returns-then-self-i-clause-value : goal.returns-then-self-i-clause-value
returns-then-self-i-clause-value c =
    let i = c.args.i in
    let o = c.self.inside in
    let at = marks_of-get o.marks o.ended i (omega (arith, c.self.invariant.0)) (omega (arith, c.self.invariant.1)) in
    sym (ap (λ (ms : List (Option ℕ)). get_or ms i None) (sym c.self.view_is) ∙ at ∙ ap (mark_of (get_or o.marks i 0)) c.if-self-i.true)

pub returns-then-self-i-clause-next : goal.returns-then-self-i-clause-next
returns-then-self-i-clause-next c =
    let i = c.args.i in
    let o = c.self.inside in
    let at = marks_of-get o.marks o.ended i (omega (arith, c.self.invariant.0)) (omega (arith, c.self.invariant.1)) in
    let none : None ≡ get_or (marks_of o.marks o.ended) i None = sym (at ∙ ap (mark_of (get_or o.marks i 0)) c.if-self-i.true) in
    subst (λ (ms : List (Option ℕ)). take (i + 1) ms ≡ take i ms ++ None ∷ []) c.self.view_is
    (marks_of-next o.marks o.ended i None (omega (arith, c.self.invariant.0, c.self.invariant.1)) (omega (arith, c.self.invariant.0)) none)

pub returns-else-self-i-clause-value : goal.returns-else-self-i-clause-value
returns-else-self-i-clause-value c =
    let i = c.args.i in
    let o = c.self.inside in
    let at = marks_of-get o.marks o.ended i (omega (arith, c.self.invariant.0)) (omega (arith, c.self.invariant.1)) in
    sym (ap (λ (ms : List (Option ℕ)). get_or ms i None) (sym c.self.view_is) ∙ at ∙ ap (mark_of (get_or o.marks i 0)) c.if-self-i.false)

pub returns-else-self-i-clause-next : goal.returns-else-self-i-clause-next
returns-else-self-i-clause-next c =
    let i = c.args.i in
    let o = c.self.inside in
    let m = get_or o.marks i 0 in
    let at = marks_of-get o.marks o.ended i (omega (arith, c.self.invariant.0)) (omega (arith, c.self.invariant.1)) in
    let some : Some m ≡ get_or (marks_of o.marks o.ended) i None = sym (at ∙ ap (mark_of m) c.if-self-i.false) in
    subst (λ (ms : List (Option ℕ)). take (i + 1) ms ≡ take i ms ++ Some m ∷ []) c.self.view_is
    (marks_of-next o.marks o.ended i (Some m) (omega (arith, c.self.invariant.0, c.self.invariant.1)) (omega (arith, c.self.invariant.0)) some)
