use Rattle.std.proofs.Common.{ℕ, List, Option, [], refl, sym, ap, subst, arith, length, ◌≤◌}
use Rattle.key_select.specs.Wanted.{wanted_of}
use Rattle.pcap_reader.specs.Reader.{StandsFor}
use Rattle.summary_spec.specs.Job.{declared_of}
use Rattle.parser_captures.specs.Captures.{most_held}
use Rattle.parser_captures.proofs.Taking.{silent, stands_as}
use Rattle.parser_captures.proofs.capture.OneCapture.new.Goals as goal

pub returns-clause-stands : goal.returns-clause-stands
returns-clause-stands c =
    let job = declared_of c.args.job.now in
    let none = c.in-Ok.ensures.none silent (record { faults = refl; left = λ told. refl }) in
    let W : Option ℕ → Type 0 = λ wanted. StandsFor wanted c.in-Ok.reading.reader [] [] in
    let B : List ℕ → Type 0 = λ bytes. StandsFor (wanted_of job c.args.capture) c.in-Ok.reading.reader bytes [] in
    (stands_as job _ c.args.capture [] c.new-2.ensures.capture (subst B (sym c.new-3.ensures) (subst W c.wanted_of.ensures none.stands))
    c.new-2.ensures.tallies (omega arith) c.in-Ok.ensures.asks (omega (arith, ap length c.new-3.ensures)) (omega (arith, c.in-Ok-empty.ensures.none))).stands
