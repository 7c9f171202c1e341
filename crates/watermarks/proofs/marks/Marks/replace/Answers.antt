use Rattle.std.proofs.Common.{◌≡◌, ◌<◌, None, Option, List, ℕ, length, get_or, subst, sym, ◌∙◌}
use Rattle.watermarks.specs.Least.{lesser}
use Rattle.watermarks.proofs.Lesser.{kept_least, replaced}
use Rattle.watermarks.proofs.marks.Marks.replace.Goals as goal

pub invariant_of-self-else-eq : goal.invariant_of-self-else-eq
invariant_of-self-else-eq c =
    let o = c.self.inside in
    record {
      few = c.self.invariant.few;
      value = kept_least o.captures c.args.capture o.marks c.set.new.self c.get-before.result c.args.mark o.least c.set.ensures
          (subst (λ (ms : List (Option ℕ)). c.args.capture < length ms) (sym c.self.view_is) c.requires.place)
          c.get-before.ensures.value c.self.invariant.value
          (subst (λ (ms : List (Option ℕ)). lesser (get_or ms c.args.capture None) c.args.mark ≡ get_or ms c.args.capture None) (sym c.self.view_is) c.requires.later)
          (sym c.eq.ensures ∙ c.if-eq.false);
    }

pub returns-then-eq : goal.returns-then-eq
returns-then-eq c =
    replaced c.self.inside.captures c.args.capture c.self.inside.marks c.set.new.self c.args.self.now c.args.mark c.set.ensures c.requires.place c.self.view_is

pub returns-else-eq : goal.returns-else-eq
returns-else-eq c =
    replaced c.self.inside.captures c.args.capture c.self.inside.marks c.set.new.self c.args.self.now c.args.mark c.set.ensures c.requires.place c.self.view_is
