-- What a whole pcapng file holds: the packets that stand before its first malformed place or its end, that place,
-- and whether it ends inside a block.
use Rattle.std.specs.Prelude.{ℕ, zero, suc, List, [], ◌++◌, Bool, length, drop, Option, Some, None, Result, Ok, Err, is_none, option_to_list, nat_lt, ◌&&◌, if◌then◌else◌}
use Rattle.ds_base.specs.declared.capture.Bad.{Bad}
use Rattle.ds_base.specs.declared.capture.PcapFault.TheVariants.{ShortHeader, TooMany}
use Rattle.pcapng_reader.specs.Packet.{Packet}
use Rattle.pcapng_reader.specs.State.{State, Block, start, bad_at}
use Rattle.pcapng_reader.specs.Steps.{step}

-- how many blocks a file has at most, 2^36
abbrev pub most_blocks : ℕ
most_blocks = 68719476736

-- The packets of the whole blocks at the front of bytes, what is malformed after these, and what stands there.
pub record Walk : Type 0 where
  pub packets : List Packet
  pub bad : Option Bad
  pub rest : List ℕ

abbrev pub after_packets : List Packet → Walk → Walk
after_packets packets walk = record { packets = packets ++ walk.packets; bad = walk.bad; rest = walk.rest }

-- the walk by what its first block is
abbrev pub walk_by : Result (Option Block) Bad → List ℕ → (Block → Walk) → Walk
walk_by (Err bad) bytes further = record { packets = []; bad = Some bad; rest = bytes }
walk_by (Ok None) bytes further = record { packets = []; bad = None; rest = bytes }
walk_by (Ok (Some block)) bytes further = after_packets (option_to_list block.packet) (further block)

-- the walk over at most so many blocks
unfoldable pub walk : (most : ℕ) → State → List ℕ → Walk
walk zero state bytes =
    record { packets = []; bad = if nat_lt 0 (length bytes) then Some (bad_at state.place TooMany) else None; rest = bytes }
walk (suc most) state bytes = walk_by (step state bytes) bytes (λ block. walk most block.after (drop block.len bytes))

unfoldable pub whole_walk : List ℕ → Walk
whole_walk bytes = walk most_blocks start bytes

-- a file of fewer bytes than its first section block has at least
abbrev pub short_file : List ℕ → Option Bad
short_file bytes = if nat_lt (length bytes) 28 then Some (bad_at (length bytes) (ShortHeader (length bytes))) else None

abbrev pub bad_or_short : Option Bad → List ℕ → Option Bad
bad_or_short None bytes = short_file bytes
bad_or_short (Some bad) bytes = Some bad

-- the packets
abbrev pub ng_packets : List ℕ → List Packet
ng_packets bytes = (whole_walk bytes).packets

-- the first malformed place
abbrev pub ng_bad : List ℕ → Option Bad
ng_bad bytes = bad_or_short (whole_walk bytes).bad bytes

-- whether the file ends inside a block, and is not malformed
abbrev pub ng_cut : List ℕ → Bool
ng_cut bytes = is_none (ng_bad bytes) && nat_lt 0 (length (whole_walk bytes).rest)
