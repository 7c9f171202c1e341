use Rattle.std.proofs.Common.{ℕ, ◌≡◌, ◌≤◌, sym, refl, arith, length}
use Rattle.packed_summaries.proofs.Words.{as_many, value_fits, value_kept, none_left}
use Rattle.packed_summaries.proofs.fits.have_widths.Goals as goal

pub returns-then-len-many : goal.returns-then-len-many
returns-then-len-many c = (λ never. absurd (cc), λ all. absurd (let many = as_many c.args.packing.now.wide c.args.vals.now all in omega arith))

pub returns-then-not-has_width : goal.returns-then-not-has_width
returns-then-not-has_width c =
    let ws = c.args.packing.now.wide in
    let ns = c.args.vals.now in
    let v = c.loop-variable.variable in (
      λ never. absurd (cc),
      λ all. absurd (let here = (value_fits ws ns v c.column-column.result.wide c.get.result c.column-column.ensures.width c.get.ensures (c.loop-variable.invariant.1 all)).0 in
          let has = c.has_width.ensures.1 here in cc),
    )

pub loop-variable-preserved : goal.loop-variable-preserved
loop-variable-preserved c =
    let ws = c.args.packing.now.wide in
    let ns = c.args.vals.now in
    let v = c.loop-variable.variable in
    let w = c.column-column.result.wide in
    let n = c.get.result in (
      λ rest. c.loop-variable.invariant.0 (value_kept ws ns v w n c.column-column.ensures.width c.get.ensures (c.has_width.ensures.0 (cc)) rest),
      λ all. (value_fits ws ns v w n c.column-column.ensures.width c.get.ensures (c.loop-variable.invariant.1 all)).1,
    )

pub returns : goal.returns
returns c =
    let long : length c.args.packing.now.wide ≤ c.loop-variable.variable = omega arith in
    let whole : length c.args.vals.now ≤ c.loop-variable.variable = omega arith in
    (λ _. c.loop-variable.invariant.0 (none_left c.args.packing.now.wide c.args.vals.now c.loop-variable.variable long whole), λ _. refl)
