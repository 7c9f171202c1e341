use Rattle.std.proofs.Common.{◌≡◌, ◌∙◌, ◌+◌, ◌-◌, sym, ap, subst, ℕ, List, length, take, drop, refl, arith, length-append, length-drop, None}
use Rattle.std.proofs.lemmas.Result.{err_from_is_err_and}
use Rattle.ds_base.specs.declared.capture.Bad.{Bad}
use Rattle.pcap_reader.specs.declared.format.Format.{Format}
use Rattle.pcap_reader.specs.LibpcapReader.{Reader}
use Rattle.pcap_reader.specs.Records.{first_record}
use Rattle.pcap_reader.specs.LibpcapSteps.{IsNowOpen, GivesBad, GivesNext}
use Rattle.pcap_reader.specs.contracts.libpcap.LibpcapReader.{the_view}
use Rattle.pcap_reader.proofs.Fronts.{last_of_append}
use Rattle.std.proofs.lemmas.List.{length-take-le}
use Rattle.pcap_reader.specs.Records.{shown}
use Rattle.pcap_reader.proofs.Standing.{gives_next, gives_none, gives_bad, short_gives_none, unread_gives_bad, next_after, none_after, bad_after}
use Rattle.pcap_reader.proofs.libpcap.LibpcapReader.advance.Goals as goal

pub returns-in_err-format : goal.returns-in_err-format
returns-in_err-format c =
    let e = c.in_err-format.ensures in
    let b : Bad = c.in_err-format.field-0.0 in
    let P : Reader → Type 0 = λ r. GivesBad c.args.self.now b r in
    let p = err_from_is_err_and c.from_residual.result c.from_residual.ensures.1 in
    rw (p.1, p.2) (subst P (sym e.0) (unread_gives_bad c.args.self.now b (e.1) (e.2) (e.3)))

pub returns-in_default : goal.returns-in_default
returns-in_default c =
    let e = rw c.in_default.is at c.in_ok-format.ensures in
    let was : the_view c.self.inside ≡ c.args.self.now = c.self.view_is ∙ e.0 in
    let rest : c.drop_spent.new.self.rest ≡ c.args.self.now.rest = c.drop_spent.ensures.rest ∙ ap (λ (r : Reader). r.rest) was in
    let closed : c.self.inside.format ≡ None = ap (λ (r : Reader). r.format) was ∙ e.1 in
    let bounded = rw closed at c.self.invariant.2 in
    let new : Reader = record { format = c.self.inside.format; count = c.self.inside.count; place = c.self.inside.place; rest = c.drop_spent.new.self.rest; spent = c.drop_spent.new.self.spent } in (
      short_gives_none c.args.self.now new (e.1) (record {
        format = ap (λ (r : Reader). r.format) was;
        count = ap (λ (r : Reader). r.count) was;
        place = ap (λ (r : Reader). r.place) was;
        rest = rest;
      }) (e.2) c.drop_spent.ensures.spent (omega (arith, ap length c.drop_spent.ensures.spent, ap length rest, e.2.0)),
      omega (arith, bounded.0, ap length rest, e.2.0),
    )

pub returns-in_err-len : goal.returns-in_err-len
returns-in_err-len c =
    let b : Bad = c.in_err-len.field-0.0 in
    let f : Format = c.in-Some.format in
    let mid : Reader = the_view c.self.inside in
    let o = rw c.in-Some.is at c.in_ok-format.ensures in
    let O : Reader → Type 0 = λ r. IsNowOpen c.args.self.now f r in
    let opening : O mid = subst O (sym c.self.view_is) o in
    let found = rw c.rest.ensures at c.in_err-len.ensures.found in
    let P : Reader → Type 0 = λ r. GivesBad c.args.self.now b r in
    let p = err_from_is_err_and c.from_residual-in_err-len.result c.from_residual-in_err-len.ensures.1 in
    rw (p.1, p.2) (subst P c.self.view_is (bad_after f c.args.self.now mid b opening (gives_bad f mid b (opening.format) (found.0) (found.1) (found.2))))

pub returns-in-Some-2 : goal.returns-in-Some-2
returns-in-Some-2 c =
    let f : Format = c.in-Some.format in
    let mid : Reader = the_view c.self.inside in
    let o = rw c.in-Some.is at c.in_ok-format.ensures in
    let O : Reader → Type 0 = λ r. IsNowOpen c.args.self.now f r in
    let opening : O mid = subst O (sym c.self.view_is) o in
    let found = rw (c.in-Some-2.is, c.rest.ensures) at c.in_ok-len.ensures.found in
    let bounds = rw (c.in-Some-2.is, c.rest.ensures) at c.in_ok-len.ensures.bounds in
    let len : ℕ = c.in-Some-2.len in
    let number : ℕ = c.self.inside.count in
    let spent : List ℕ = c.spend.new.self.spent in
    let slice : List ℕ = take len c.self.inside.bytes.rest in
    let slice_length : length slice ≡ len = length-take-le len c.self.inside.bytes.rest (bounds.1) in
    let is_slice : drop (length spent - len) spent ≡ slice =
    last_of_append c.self.inside.bytes.spent slice spent len c.spend.ensures.spent slice_length in
    let new : Reader = record { format = c.self.inside.format; count = number + 1; place = c.self.inside.place + len; rest = c.spend.new.self.rest; spent = spent } in
    let next : GivesNext c.args.self.now (first_record f number c.self.inside.bytes.rest) new =
    next_after f c.args.self.now mid new _ opening (gives_next f mid new (opening.format) (opening.format) (found.0) (found.1) refl
    (ap (λ (n : ℕ). c.self.inside.place + n) (found.2))
    (c.spend.ensures.rest ∙ ap (λ (n : ℕ). drop n c.self.inside.bytes.rest) (found.2))
    (omega (
      arith,
      ap length c.spend.ensures.spent,
      length-append c.self.inside.bytes.spent slice,
      slice_length,
      ap length c.spend.ensures.rest,
      length-drop len c.self.inside.bytes.rest,
      bounds.1,
    ))) in
    let N : List ℕ → Type 0 = λ xs. GivesNext c.args.self.now (shown f number xs) new in
    record {
      next = subst N (ap (λ (n : ℕ). take n c.self.inside.bytes.rest) (sym (found.2)) ∙ sym is_slice) next;
      number = found.0;
      link = opening.link;
      there = omega (arith, ap length c.spend.ensures.spent, length-append c.self.inside.bytes.spent slice, slice_length);
      least = bounds.0;
      most = bounds.2;
    }

pub returns-in-None : goal.returns-in-None
returns-in-None c =
    let f : Format = c.in-Some.format in
    let mid : Reader = the_view c.self.inside in
    let o = rw c.in-Some.is at c.in_ok-format.ensures in
    let O : Reader → Type 0 = λ r. IsNowOpen c.args.self.now f r in
    let opening : O mid = subst O (sym c.self.view_is) o in
    let found = rw (c.in-None.is, c.rest.ensures) at c.in_ok-len.ensures.found in
    let short = rw (c.in-None.is, c.rest.ensures) at c.in_ok-len.ensures.short in
    let bounded = rw (opening.format) at c.self.invariant.2 in
    let new : Reader = record { format = c.self.inside.format; count = c.self.inside.count; place = c.self.inside.place; rest = c.drop_spent-in-None.new.self.rest; spent = c.drop_spent-in-None.new.self.spent } in (
      none_after f c.args.self.now mid new opening (gives_none f mid new (opening.format) (record {
        format = refl;
        count = refl;
        place = refl;
        rest = c.drop_spent-in-None.ensures.rest;
      }) (found.0) (found.1) c.drop_spent-in-None.ensures.spent (omega (arith, ap length c.drop_spent-in-None.ensures.spent, ap length c.drop_spent-in-None.ensures.rest, short))),
      omega (arith, bounded.0, bounded.1, ap length c.drop_spent-in-None.ensures.rest, short),
    )
