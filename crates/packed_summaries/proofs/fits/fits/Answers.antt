use Rattle.std.proofs.Common.{◌≡◌, ◌∙◌, sym, arith}
use Rattle.packed_summaries.proofs.Words.{as_many}
use Rattle.packed_summaries.proofs.fits.fits.Goals as goal

pub key_of-key-requires : goal.key_of-key-requires
key_of-key-requires c =
    as_many c.args.packing.now.wide c.args.s.now.vals (c.have_widths.ensures.0 (cc))

pub returns : goal.returns
returns c = (
  λ same. record {
    capture = omega arith;
    number = omega arith;
    values = c.have_widths.ensures.0 (cc);
    key = sym c.as_slice-2.ensures.value ∙ sym (c.same_numbers.ensures.0 same) ∙ c.as_slice.ensures.value ∙ c.key_of-key.ensures;
  },
  λ all. c.same_numbers.ensures.1 (c.as_slice.ensures.value ∙ c.key_of-key.ensures ∙ sym all.key ∙ sym c.as_slice-2.ensures.value),
)
