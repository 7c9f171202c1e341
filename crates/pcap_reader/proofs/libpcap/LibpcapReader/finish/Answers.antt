use Rattle.std.proofs.Common.{◌≡◌, ◌∙◌, sym, ap, ℕ, List, length, Bool, refl, arith, Some, None}
use Rattle.std.specs.Prelude.{nat_lt, ◌==◌, not}
use Rattle.std.proofs.lemmas.Bool.Decides.{nat_tests}
use Rattle.pcap_reader.specs.LibpcapReader.{Reader}
use Rattle.pcap_reader.specs.Format.{short_header}
use Rattle.pcap_reader.proofs.Standing.{tail, IsTail, short_tail}
use Rattle.pcap_reader.proofs.libpcap.LibpcapReader.finish.Goals as goal

not_empty : (n : ℕ) (empty : Bool) → empty ≡ (n == 0) → not empty ≡ nat_lt 0 n
not_empty n empty h = grind (arith, nat_tests)

pub returns-in-Some-clause-whole : goal.returns-in-Some-clause-whole
returns-in-Some-clause-whole c fed given s =
    let was : c.args.self.now.format ≡ Some c.in-Some.field-0 = ap (λ (r : Reader). r.format) (sym c.self.view_is) ∙ c.in-Some.is in
    let t : IsTail c.args.self.now fed = tail c.in-Some.field-0 c.args.self.now fed given was c.requires s in
    let count : c.self.inside.count ≡ c.args.self.now.count = ap (λ (r : Reader). r.count) c.self.view_is in
    let rest : c.rest.result.now ≡ c.args.self.now.rest = c.rest.ensures ∙ ap (λ (r : Reader). r.rest) c.self.view_is in (
      t.bad,
      count ∙ sym t.records,
      not_empty (length c.rest.result.now) c.is_empty.result c.is_empty.ensures
          ∙ ap (λ (xs : List ℕ). nat_lt 0 (length xs)) rest ∙ sym t.cut,
    )

pub returns-in-None-clause-short : goal.returns-in-None-clause-short
returns-in-None-clause-short c fed given s =
    let was : c.args.self.now.format ≡ None = ap (λ (r : Reader). r.format) (sym c.self.view_is) ∙ c.in-None.is in
    let rest : c.rest-in-None.result.now ≡ c.args.self.now.rest = c.rest-in-None.ensures ∙ ap (λ (r : Reader). r.rest) c.self.view_is in
    (short_tail c.args.self.now fed given was c.requires s ∙ ap (λ (xs : List ℕ). Some (short_header xs)) (sym rest), refl)
