use Rattle.std.proofs.lemmas.Result.{err_from_is_err_and}
use Rattle.ds_base.specs.declared.capture.Bad.{Bad}
use Rattle.pcap_reader.proofs.Giving.{found_after, none_after, bad_after}
use Rattle.pcap_reader.proofs.reader.PcapReader.advance.Goals as goal

pub returns-in_err-found : goal.returns-in_err-found
returns-in_err-found c =
    let b : Bad = c.in_err-found.field-0.0 in
    let p = err_from_is_err_and c.from_residual.result c.from_residual.ensures.1 in
    rw (p.1, p.2) (bad_after c.args.self.now c.packets.self c.step.new.self b c.packets.invariant c.in_err-found.ensures)

pub returns-in-Next : goal.returns-in-Next
returns-in-Next c =
    let e = rw c.in-Next.is at c.in_ok-found.ensures in
    found_after c.args.self.now c.packets.self c.step.new.self c.in-Next.found c.packets.invariant e

pub returns-in-End : goal.returns-in-End
returns-in-End c =
    let e = rw c.in-End.is at c.in_ok-found.ensures in
    (none_after c.args.self.now c.packets.self c.step.new.self c.packets.invariant e.0, e.1)
