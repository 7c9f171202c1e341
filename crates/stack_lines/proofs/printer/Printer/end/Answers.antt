use Rattle.std.proofs.Common.{◌++◌, ◌∙◌, ap}
use Rattle.std.proofs.lemmas.List.{append-nil}
use Rattle.stack_lines.specs.Stacks.{last_line}
use Rattle.stack_lines.proofs.Printed.{gains_longer, gains_waiting}
use Rattle.stack_lines.proofs.printer.Printer.end.Goals as goal

pub returns-in_default-clause-prefix : goal.returns-in_default-clause-prefix
returns-in_default-clause-prefix g c start text h told = gains_longer start _ text (last_line c.args.cut) (c.args.self.now.text.items, h told)

pub returns-clause-prefix : goal.returns-clause-prefix
returns-clause-prefix g c start text h =
    c.write.ensures.prefix start (text ++ last_line c.args.cut) (λ told. gains_waiting start _ text _ (last_line c.args.cut) _ (h told) c.in-Ok.ensures)

pub returns-clause-ends : goal.returns-clause-ends
returns-clause-ends g c = record {
  faults = c.in_ok-write.ensures.ends.faults;
  whole = λ start text h told.
      c.in_ok-write.ensures.ends.whole start (text ++ last_line c.args.cut) (λ t. gains_waiting start _ text _ (last_line c.args.cut) _ (h t) c.in-Ok.ensures) told
      ∙ ap (λ xs. start ++ xs) (append-nil (text ++ last_line c.args.cut));
}
