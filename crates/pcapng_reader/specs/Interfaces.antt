-- The interface block (pcapng specification section 4.2): link type, the longest packet, resolution and the
-- seconds that are added to each time.
use Rattle.std.specs.Prelude.{ℕ, ◌+◌, ◌-◌, List, [], ◌∷◌, ◌++◌, take, Option, Some, None, Result, Ok, Err, slice_index, if◌then◌else◌}
use Rattle.ds_base.specs.declared.capture.Bad.{Bad}
use Rattle.ds_base.specs.declared.capture.PcapFault.TheVariants.{NgResolution}
use Rattle.capture_bytes.specs.Number.{number}
use Rattle.pcapng_reader.specs.declared.interface.Interface.{Interface}
use Rattle.pcapng_reader.specs.declared.head.Head.{Head}
use Rattle.pcapng_reader.specs.State.{State, Block, bad_at}
use Rattle.pcapng_reader.specs.Options.{find_option}
use Rattle.pcapng_reader.specs.Times.{is_lawful_resolution}

-- the block without its last length
abbrev pub body_of : Head → List ℕ → List ℕ
body_of head block = take (head.total - 4) block

-- The resolution, of which this is the place in the block, the option if_tsresol; microseconds where there is none.
abbrev pub resolution_at : (place : ℕ) → List ℕ → Option ℕ → Result ℕ Bad
resolution_at place block None = Ok 6
resolution_at place block (Some at) =
    if is_lawful_resolution (slice_index block at)
    then Ok (slice_index block at)
    else Err (bad_at (place + at) (NgResolution (slice_index block at)))

-- the seconds, of which this is the place in the block, the option if_tsoffset; 0 where there is none
abbrev pub seconds_at : Head → List ℕ → Option ℕ → ℕ
seconds_at head block None = 0
seconds_at head block (Some at) = number head.order 8 block at

-- the interface that the block describes, by its resolution; it has no packet yet
abbrev pub interface_with : Head → List ℕ → Result ℕ Bad → Result Interface Bad
interface_with head block (Err bad) = Err bad
interface_with head block (Ok resolution) = Ok (record {
  link = number head.order 2 block 8;
  snaplen = number head.order 4 block 12;
  resolution = resolution;
  seconds = seconds_at head block (find_option head.order 14 8 16 (body_of head block));
  newest = 0;
})

-- the same by the options with code 9 and one byte, and code 14 and eight
unfoldable pub interface_said : Head → (place : ℕ) → List ℕ → Result Interface Bad
interface_said head place block =
    interface_with head block (resolution_at place block (find_option head.order 9 1 16 (body_of head block)))

-- It is the next interface of its section.
abbrev pub interface_block : State → Head → Result Interface Bad → Result Block Bad
interface_block state head (Err bad) = Err bad
interface_block state head (Ok i) = Ok (record {
  len = head.total;
  after = record {
    place = state.place + head.total;
    packets = state.packets;
    order = state.order;
    interfaces = state.interfaces ++ i ∷ [];
  };
  packet = None;
})
