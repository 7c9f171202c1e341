-- The front of a block (pcapng specification section 3.1): its type, its total length, and of a section block
-- the order of bytes (section 4.1).
use Rattle.std.specs.Prelude.{ℕ, ◌+◌, ◌/◌, ◌*◌, ◌%◌, List, Bool, Option, Some, None, Result, Ok, Err, nat_lt, ◌==◌, ◌&&◌, not, if◌then◌else◌}
use Rattle.ds_base.specs.declared.capture.Bad.{Bad}
use Rattle.ds_base.specs.declared.capture.PcapFault.TheVariants.{PcapNg, NgLength}
use Rattle.capture_bytes.specs.declared.endian.Endian.{Endian}
use Rattle.capture_bytes.specs.declared.endian.Endian.TheVariants.{Little, Big}
use Rattle.capture_bytes.specs.Number.{number}
use Rattle.pcapng_reader.specs.declared.head.Head.{Head}
use Rattle.pcapng_reader.specs.State.{bad_at}

-- how many bytes a block has at most
abbrev pub longest_block : ℕ
longest_block = 16777216

-- a number rounded up to a multiple of 4
abbrev pub padded : ℕ → ℕ
padded n = (n + 3) / 4 * 4

-- the type of a section block, which reads the same in both orders
abbrev pub section_type : ℕ
section_type = 0x0A0D0D0A

abbrev pub is_section : List ℕ → Bool
is_section head = number Big 4 head 0 == section_type

-- what the order bytes of a section block say
abbrev pub order_said : ℕ → Option Endian
order_said magic = if magic == 0x1A2B3C4D then Some Big else (if magic == 0x4D3C2B1A then Some Little else None)

-- the order of bytes of the block of which these are the first 12: its own where it is a section block, else
-- that of its section
abbrev pub order_of : Option Endian → List ℕ → Option Endian
order_of section head = if is_section head then order_said (number Big 4 head 8) else section

-- how many bytes a block of a type has at least
abbrev pub least_length : ℕ → ℕ
least_length kind =
    if kind == section_type then 28
    else (if kind == 1 then 20
    else (if kind == 6 then 32
    else (if kind == 3 then 16
    else 12)))

-- whether a block of that type may have that total length
abbrev pub is_lawful_length : (kind total : ℕ) → Bool
is_lawful_length kind total = (total % 4 == 0) && (not (nat_lt longest_block total) && not (nat_lt total (least_length kind)))

-- what the first 12 bytes of a block of that order say, or what is malformed there
abbrev pub head_in : Option Endian → (place : ℕ) → List ℕ → Result Head Bad
head_in None place head = Err (bad_at (place + 8) PcapNg)
head_in (Some order) place head =
    if is_lawful_length (number order 4 head 0) (number order 4 head 4)
    then Ok (record { order = order; kind = number order 4 head 0; total = number order 4 head 4 })
    else Err (bad_at (place + 4) (NgLength (number order 4 head 4)))

unfoldable pub head_of : Option Endian → (place : ℕ) → List ℕ → Result Head Bad
head_of section place head = head_in (order_of section head) place head
