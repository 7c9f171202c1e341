use Rattle.std.proofs.Common.{◌≡◌, ◌+◌, ◌∙◌, sym, ap, ℕ, List, length, refl, arith, None}
use Rattle.std.specs.Prelude.{nat_lt}
use Rattle.pcapng_reader.specs.Good.{Walk, ng_bad}
use Rattle.pcapng_reader.specs.Reader.{Reader}
use Rattle.pcapng_reader.proofs.Standing.{whole_end, end_bad, end_cut, short_when, long_when}
use Rattle.pcapng_reader.proofs.reader.NgReader.finish.Goals as goal

pub returns-then-len-lt28-clause-short : goal.returns-then-len-lt28-clause-short
returns-then-len-lt28-clause-short c fed given s =
    let place = c.place.ensures ∙ ap (λ (r : Reader). r.state.place) c.self.view_is in
    let rest = c.rest.ensures ∙ ap (λ (r : Reader). r.rest) c.self.view_is in
    let len : length fed ≡ c.place.result + length c.rest.result.now = omega (arith, s.fed_length, place, ap length rest) in
    (end_bad c.args.self.now fed given c.requires s ∙ short_when fed (c.place.result + length c.rest.result.now) len c.if-len-lt28.true, refl)

pub returns-clause-whole : goal.returns-clause-whole
returns-clause-whole c fed given s =
    let place = c.place.ensures ∙ ap (λ (r : Reader). r.state.place) c.self.view_is in
    let rest = c.rest.ensures ∙ ap (λ (r : Reader). r.rest) c.self.view_is in
    let packets = c.packets.ensures ∙ ap (λ (r : Reader). r.state.packets) c.self.view_is in
    let len : length fed ≡ c.place.result + length c.rest.result.now = omega (arith, s.fed_length, place, ap length rest) in
    let sound : ng_bad fed ≡ None = end_bad c.args.self.now fed given c.requires s ∙ long_when fed (c.place.result + length c.rest.result.now) len c.if-len-lt28.false in (
      sound,
      packets ∙ sym s.given_length ∙ sym (ap (λ (w : Walk). length w.packets) (whole_end c.args.self.now fed given c.requires s)),
      ap (λ (xs : List ℕ). nat_lt 0 (length xs)) rest ∙ sym (end_cut c.args.self.now fed given c.requires s sound),
    )
