use Rattle.std.specs.Prelude.{ℕ, Bool, ◌+◌, ◌%◌, ◌&&◌, nat_lt, nat_le}
use Rattle.field_table.specs.declared.layout.Layout.{Layout}
use Rattle.field_table.specs.declared.layout.Start.{Start}
use Rattle.field_table.specs.declared.layout.Start.TheVariants.{At}

-- how many bits of its first byte stand before a field: GRE's optional words begin with a byte
abbrev pub bits_before : Start → ℕ
bits_before (At first) = first % 8
bits_before _ = 0

-- a field has bits, and the bytes that hold them fit a number of 128 bits
abbrev pub is_narrow : Layout → Bool
is_narrow layout = nat_lt 0 layout.bits && nat_le (bits_before layout.start + layout.bits) 128
