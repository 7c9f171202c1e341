use Rattle.std.proofs.Common.{◌≡◌, ◌≤◌, length, drop, ℕ, List}
use Rattle.capture_bytes.specs.declared.endian.Endian.{Endian}
use Rattle.pcapng_reader.specs.Options.{find_option, option_at}
use Rattle.pcapng_reader.proofs.options.find.Given as goal

pub record Left (order : Endian) (code len from most at : ℕ) (bytes : List ℕ) : Type 0 where
  pub there : at ≤ length bytes
  pub same : find_option order code len from bytes ≡ option_at order code len most at (drop at bytes)

abbrev pub invariant-options : goal.invariant-options
invariant-options l = Left l.order l.code l.len l.from l.most l.at l.bytes

abbrev pub decreases-options : goal.decreases-options
decreases-options l = l.most
