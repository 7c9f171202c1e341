use Rattle.std.proofs.Common.{◌≡◌, ◌∙◌, ◌+◌, ◌-◌, ◌<◌, ◌≤◌, sym, ap, ℕ, List, length, take, drop, refl, arith, None, Err, length-take, length-drop, length-append}
use Rattle.ds_base.specs.declared.capture.Bad.{Bad}
use Rattle.pcap_reader.specs.LibpcapReader.{Reader}
use Rattle.pcap_reader.specs.Format.{header_of, short_header}
use Rattle.pcap_reader.proofs.Standing.{now_open}
use Rattle.pcap_reader.proofs.libpcap.LibpcapReader.open.Goals as goal
use Rattle.pcap_reader.proofs.libpcap.LibpcapReader.open.Goals.{then-is_short, else-is_short}

-- a front that is as long as was asked for
long_enough : (n : ℕ) (header xs : List ℕ) → header ≡ take n xs → length header ≡ n → n ≤ length xs
long_enough n header xs e h = omega (arith, sym h ∙ ap length e ∙ length-take n xs)

-- a front that is shorter than was asked for
shorter : (n : ℕ) (header xs : List ℕ) → header ≡ take n xs → length header < n → length xs < n
shorter n header xs e h = omega (arith, h, ap length e ∙ length-take n xs)

pub spend-requires : goal.spend-requires
spend-requires c = long_enough 24 c.front.result.now c.self.inside.bytes.rest (c.front.ensures ∙ ap (take 24) c.rest.ensures) c.in-Ok.ensures.whole

pub invariant_of-self : goal.invariant_of-self
invariant_of-self c =
    let long : 24 ≤ length c.self.inside.bytes.rest = long_enough 24 c.front.result.now c.self.inside.bytes.rest (c.front.ensures ∙ ap (take 24) c.rest.ensures) c.in-Ok.ensures.whole in
    let left : length c.spend.new.self.rest ≡ length c.self.inside.bytes.rest - 24 = ap length c.spend.ensures.rest ∙ length-drop 24 c.self.inside.bytes.rest in
    let bounded = rw c.in_default.is at c.self.invariant.2 in
    (omega (arith, long, left, c.self.invariant.0), c.in-Ok.ensures.link, (omega (arith, bounded.0), omega (arith, bounded.1), omega arith))

pub returns-in-Ok : goal.returns-in-Ok
returns-in-Ok c =
    let old : Reader = c.args.self.now in
    let rest : c.self.inside.bytes.rest ≡ old.rest = ap (λ (r : Reader). r.rest) c.self.view_is in
    let place : c.self.inside.place ≡ old.place = ap (λ (r : Reader). r.place) c.self.view_is in
    let closed : old.format ≡ None = ap (λ (r : Reader). r.format) (sym c.self.view_is) ∙ c.in_default.is in
    let header : c.front.result.now ≡ take 24 old.rest = c.front.ensures ∙ ap (take 24) (c.rest.ensures ∙ rest) in
    let long : 24 ≤ length old.rest = long_enough 24 c.front.result.now old.rest header c.in-Ok.ensures.whole in
    let spent : c.spend.new.self.rest ≡ drop 24 old.rest = c.spend.ensures.rest ∙ ap (drop 24) rest in
    let left : length c.spend.new.self.rest ≡ length old.rest - 24 = ap length spent ∙ length-drop 24 old.rest in
    record {
      format = refl;
      link = c.in-Ok.ensures.link;
      stands = now_open c.in-Ok.format old _ closed long (sym (c.in-Ok.ensures.value ∙ ap header_of header)) refl
          (ap (λ (r : Reader). r.count) c.self.view_is) (ap (λ (n : ℕ). n + 24) place) spent;
      given = ap (λ (r : Reader). r.count) c.self.view_is;
      fed = omega (arith, long, left, place);
      left = omega (arith, left);
      held = omega (
        arith,
        long,
        left,
        ap length c.spend.ensures.spent,
        length-append c.self.inside.bytes.spent (take 24 c.self.inside.bytes.rest),
        length-take 24 c.self.inside.bytes.rest,
        ap length rest,
        ap length (ap (λ (r : Reader). r.spent) c.self.view_is),
      );
    }

pub returns-after-is_short : goal.returns-after-is_short
returns-after-is_short c =
    let old : Reader = c.args.self.now in
    let rest : c.self.inside.bytes.rest ≡ old.rest = ap (λ (r : Reader). r.rest) c.self.view_is in
    let closed : old.format ≡ None = ap (λ (r : Reader). r.format) (sym c.self.view_is) ∙ c.in_default.is in
    let header : c.front.result.now ≡ take 24 old.rest = c.front.ensures ∙ ap (take 24) (c.rest.ensures ∙ rest) in
    let fault : header_of (take 24 old.rest) ≡ Err c.in-Err.bad = sym (c.in-Err.ensures.value ∙ ap header_of header) in
    elim c.if-is_short.branch [
      | then-is_short w ↦
          let short = c.in-Err.ensures.short (sym c.is_short.ensures ∙ w.if-is_short.true) in
          let same : c.in-Err.bad ≡ short_header (take 24 old.rest) = short.0 ∙ ap short_header header in
          rw w.result-is (refl, closed, (shorter 24 c.front.result.now old.rest header short.1, fault ∙ ap (λ (b : Bad). Err b) same))
      | else-is_short w ↦
          rw w.result-is (refl, closed, fault, sym c.is_short.ensures ∙ w.if-is_short.false)
    ]
