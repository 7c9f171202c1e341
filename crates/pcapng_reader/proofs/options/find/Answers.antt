use Rattle.std.proofs.Common.{◌≡◌, ◌∙◌, ◌+◌, ◌-◌, ℕ, sym, ap, arith, List, length, drop, length-drop}
use Rattle.pcapng_reader.specs.Options.{ends_options, option_length, option_size, is_option}
use Rattle.pcapng_reader.specs.Blocks.{padded}
use Rattle.pcapng_reader.proofs.Scanning.{scan_none, scan_ends, scan_hit, scan_miss}
use Rattle.pcapng_reader.proofs.options.find.Goals as goal

pub returns-then-ends-clause-value : goal.returns-then-ends-clause-value
returns-then-ends-clause-value c =
    sym (c.options.invariant.same ∙ scan_ends c.args.order c.args.code c.args.len c.options.most (c.options.most - 1) c.options.at (drop c.options.at c.args.bytes.now)
    (omega (arith, c.options-test.true)) (ap (ends_options c.args.order) (sym c.after-options.ensures) ∙ sym c.ends.ensures.value ∙ c.if-ends.true))

pub returns-then-is_option-clause-value : goal.returns-then-is_option-clause-value
returns-then-is_option-clause-value c =
    sym (c.options.invariant.same ∙ scan_hit c.args.order c.args.code c.args.len c.options.most (c.options.most - 1) c.options.at (drop c.options.at c.args.bytes.now)
    (omega (arith, c.options-test.true)) (ap (ends_options c.args.order) (sym c.after-options.ensures) ∙ sym c.ends.ensures.value ∙ c.if-ends.false) (ap (is_option c.args.order c.args.code c.args.len) (sym c.after-options.ensures) ∙ sym c.is_option.ensures ∙ c.if-is_option.true))

pub options-preserved : goal.options-preserved
options-preserved c =
    let bytes : List ℕ = c.args.bytes.now in
    let fits = c.ends.ensures.fits c.if-ends.false in
    let size : 4 + c.pad.result ≡ option_size c.args.order (drop c.options.at bytes) =
    ap (λ (n : ℕ). 4 + n) c.pad.ensures ∙ ap (λ (n : ℕ). 4 + padded n) (c.from.ensures ∙ c.read_half.ensures ∙ ap (option_length c.args.order) c.after-options.ensures) in
    record {
      there = omega (arith, fits, ap length c.after-options.ensures, ap (option_size c.args.order) c.after-options.ensures, size, length-drop c.options.at bytes, c.options.invariant.there);
      same = c.options.invariant.same ∙ scan_miss c.args.order c.args.code c.args.len c.options.most (c.options.most - 1) c.options.at (4 + c.pad.result) bytes
          (omega (arith, c.options-test.true)) (ap (ends_options c.args.order) (sym c.after-options.ensures) ∙ sym c.ends.ensures.value ∙ c.if-ends.false) (ap (is_option c.args.order c.args.code c.args.len) (sym c.after-options.ensures) ∙ sym c.is_option.ensures ∙ c.if-is_option.false) size;
    }

pub returns-clause-value : goal.returns-clause-value
returns-clause-value c =
    sym (c.options.invariant.same ∙ scan_none c.args.order c.args.code c.args.len c.options.most c.options.at (drop c.options.at c.args.bytes.now) (omega (arith, c.options-test.false)))
