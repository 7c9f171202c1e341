use Rattle.std.proofs.Common.{ℕ, List, ◌++◌, ◌∙◌, refl, ap}
use Rattle.std.proofs.lemmas.List.{append-nil}
use Rattle.pcap_reader.specs.Lent.{captured}
use Rattle.stack_lines.specs.Stacks.{stack_line}
use Rattle.stack_lines.proofs.Printed.{gains_longer, gains_waiting, gains_whole}
use Rattle.stack_lines.proofs.printer.Printer.print.Goals as goal

pub returns-in_default-clause-prefix : goal.returns-in_default-clause-prefix
returns-in_default-clause-prefix g c start text h told = gains_longer start _ text _ (c.args.self.now.text.items, h told)

pub returns-then-len-lt-MANY-clause-prefix : goal.returns-then-len-lt-MANY-clause-prefix
returns-then-len-lt-MANY-clause-prefix g c start text h told = gains_longer start _ text _ (c.args.self.now.text.items, h told)

pub returns-clause-ends : goal.returns-clause-ends
returns-clause-ends g c = record {
  asking = refl;
  faults = c.in_ok-write.ensures.ends.faults;
  text = λ start text h told.
      let line : List ℕ = stack_line c.args.self.now.asking.port c.args.self.now.asking.field (captured c.args.r.now) in
      let telling = rw c.in_ok-write.ensures.stays.told at told in
      let whole = c.in_ok-write.ensures.ends.whole start (text ++ line) (λ t. gains_waiting start _ text _ line _ (h t) c.in-Ok.ensures) telling in
      rw c.clear.ensures.items (gains_whole start _ (text ++ line) (whole ∙ ap (λ xs. start ++ xs) (append-nil (text ++ line))));
}
