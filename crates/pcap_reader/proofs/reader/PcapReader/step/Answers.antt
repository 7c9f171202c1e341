use Rattle.std.proofs.Common.{◌∙◌, ◌<◌, ◌+◌, refl, sym, subst}
use Rattle.pcap_reader.specs.Reader.{Reader, bytes_left}
use Rattle.pcap_reader.specs.Lent.{GivesNone, IsAlong, IsFound}
use Rattle.pcap_reader.specs.contracts.reader.PcapReader.{the_view}
use Rattle.pcap_reader.proofs.Giving.{gives_next, passes_over, gives_none}
use Rattle.pcap_reader.proofs.reader.PcapReader.step.Goals as goal

pub returns-in_default : goal.returns-in_default
returns-in_default c =
    let e = rw c.in_default.is at c.in_ok-found.ensures in
    let new : Reader = record { file = c.find.new.self; wanted = c.self.inside.wanted; given = c.self.inside.given } in
    let P : Reader → Type 0 = λ r. GivesNone r new in
    (subst P c.self.view_is (gives_none (the_view c.self.inside) new refl refl e), e.bounded)

pub returns-then-is_wanted : goal.returns-then-is_wanted
returns-then-is_wanted c =
    let e = rw c.in-Some.is at c.in_ok-found.ensures in
    let new : Reader = record { file = c.find.new.self; wanted = c.self.inside.wanted; given = c.self.inside.given + 1 } in
    let P : Reader → Type 0 = λ r. IsFound r c.in-Some.found new in
    subst P c.self.view_is (gives_next (the_view c.self.inside) new c.in-Some.found refl refl c.self.invariant (sym c.is_wanted.ensures ∙ c.if-is_wanted.true) e)

pub returns : goal.returns
returns c =
    let e = rw c.in-Some.is at c.in_ok-found.ensures in
    let new : Reader = record { file = c.find.new.self; wanted = c.self.inside.wanted; given = c.self.inside.given } in
    let P : Reader → Type 0 = λ r. IsAlong r new × (bytes_left new < bytes_left r) in
    subst P c.self.view_is (passes_over (the_view c.self.inside) new c.in-Some.found refl refl (sym c.is_wanted.ensures ∙ c.if-is_wanted.false) e)
