use Rattle.std.proofs.Common.{List, subst}
use Rattle.std.proofs.lemmas.Option.{IfSome_then}
use Rattle.ds_base.specs.Copies.{Copies, copies_of}
use Rattle.window_grouper.specs.Over.{FirstIsOver}
use Rattle.window_grouper.proofs.GivenOut.{placed_given, placed_later}
use Rattle.window_grouper.proofs.open_groups.OpenGroups.next_closed.Goals as goal

pub returns-then-is_first_over-clause-gives : goal.returns-then-is_first_over-clause-gives
returns-then-is_first_over-clause-gives c window front given before h later =
    IfSome_then c.next.result c.next.ensures.first
    (λ group first. placed_given c.args.self.now c.next.new.self (copies_of group) c.args.time c.next.ensures.window first
    (subst (λ (gs : List Copies). FirstIsOver c.args.self.now.window c.args.time gs) first c.if-is_first_over.ensures)
    window front given before h later)

pub returns-else-is_first_over-clause-kept : goal.returns-else-is_first_over-clause-kept
returns-else-is_first_over-clause-kept c window front given before h later =
    placed_later c.args.self.now window front given before c.args.time h later
