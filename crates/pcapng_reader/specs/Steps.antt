-- One block of a pcapng file (pcapng specification section 3).
use Rattle.std.specs.Prelude.{◌≡◌, ℕ, ◌+◌, ◌-◌, List, length, take, Option, Some, None, Result, Ok, Err, MatchOption, MatchResult, option_map, nat_lt, ◌==◌, if◌then◌else◌}
use Rattle.ds_base.specs.declared.capture.Bad.{Bad}
use Rattle.ds_base.specs.declared.capture.PcapFault.TheVariants.{NgTail}
use Rattle.capture_bytes.specs.Number.{number}
use Rattle.pcapng_reader.specs.declared.head.Head.{Head}
use Rattle.pcapng_reader.specs.declared.packet.Found.{Found}
use Rattle.pcapng_reader.specs.State.{State, Known, Block, bad_at}
use Rattle.pcapng_reader.specs.Blocks.{section_type, head_of}
use Rattle.pcapng_reader.specs.Sections.{version_fault, section_block}
use Rattle.pcapng_reader.specs.Interfaces.{interface_said, interface_block}
use Rattle.pcapng_reader.specs.Packets.{packet_of, packet_block, enhanced_said, simple_said}

-- every other block is passed over
abbrev pub other_block : State → Head → Block
other_block state head = record {
  len = head.total;
  after = record { place = state.place + head.total; packets = state.packets; order = state.order; interfaces = state.interfaces };
  packet = None;
}

-- the table of the kinds of block
abbrev pub block_by_kind : State → Head → List ℕ → Result Block Bad
block_by_kind state head block =
    if head.kind == section_type then section_block state head (version_fault head state.place block)
    else (if head.kind == 1 then interface_block state head (interface_said head state.place block)
    else (if head.kind == 6 then packet_block state head block (enhanced_said state head block)
    else (if head.kind == 3 then packet_block state head block (simple_said state head block)
    else Ok (other_block state head))))

-- the last length of a block
abbrev pub tail_of : Head → List ℕ → ℕ
tail_of head block = number head.order 4 block (head.total - 4)

-- what a whole block says, whose last length is to be its first one
unfoldable pub whole_block : State → Head → List ℕ → Result Block Bad
whole_block state head block =
    if tail_of head block == head.total
    then block_by_kind state head block
    else Err (bad_at (state.place + (head.total - 4)) (NgTail (tail_of head block)))

abbrev pub found : Result Block Bad → Result (Option Block) Bad
found (Ok block) = Ok (Some block)
found (Err bad) = Err bad

abbrev pub step_by_head : State → Result Head Bad → List ℕ → Result (Option Block) Bad
step_by_head state (Err bad) bytes = Err bad
step_by_head state (Ok head) bytes =
    if nat_lt (length bytes) head.total then Ok None else found (whole_block state head (take head.total bytes))

-- The block at the front of the bytes; none where it is not whole and its first 12 bytes show nothing malformed;
-- or what is malformed there.
unfoldable pub step : State → List ℕ → Result (Option Block) Bad
step state bytes =
    if nat_lt (length bytes) 12 then Ok None else step_by_head state (head_of state.order state.place (take 12 bytes)) bytes

-- ---- what the calls answer

-- What a look at the front of the bytes answers: the head of a whole block, that there is none, or what is malformed
-- in its first 12 bytes.
abbrev pub Finds : State → List ℕ → Result (Option Head) Bad → Type 0
Finds state bytes answer = MatchResult answer
    (λ o. MatchOption o
    (step state bytes ≡ Ok None)
    (λ head. step state bytes ≡ found (whole_block state head (take head.total bytes))))
    (λ b. step state bytes ≡ Err b)

-- the block that was taken up, with the packet that was found in it
abbrev pub block_of : Head → List ℕ → State → Option Found → Block
block_of head block after packet = record { len = head.total; after = after; packet = option_map (λ f. packet_of f block) packet }

-- What taking up a block answers, and what is known then: what it says, or what is malformed in it; then nothing
-- changes.
abbrev pub Takes : Known → Head → List ℕ → Result (Option Found) Bad → Known → Type 0
Takes old head block answer new = MatchResult answer
    (λ o. whole_block old.state head block ≡ Ok (block_of head block new.state o))
    (λ b. (whole_block old.state head block ≡ Err b) × (new ≡ old))
