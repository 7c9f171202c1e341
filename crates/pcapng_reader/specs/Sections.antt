-- The section block (pcapng specification section 4.1).
use Rattle.std.specs.Prelude.{ℕ, ◌+◌, List, [], Some, None, Result, Ok, Err, ◌==◌, if◌then◌else◌}
use Rattle.ds_base.specs.declared.capture.Bad.{Bad}
use Rattle.ds_base.specs.declared.capture.PcapFault.TheVariants.{Version}
use Rattle.capture_bytes.specs.Number.{number}
use Rattle.pcapng_reader.specs.declared.head.Head.{Head}
use Rattle.pcapng_reader.specs.State.{State, Block, bad_at}

-- the major version is 1; every minor version is taken
unfoldable pub version_fault : Head → (place : ℕ) → List ℕ → Result (Unit {0}) Bad
version_fault head place block =
    if number head.order 2 block 12 == 1 then Ok tt
    else Err (bad_at (place + 12) (Version (number head.order 2 block 12) (number head.order 2 block 14)))

-- It begins a section, which has no interface yet.
abbrev pub section_block : State → Head → Result (Unit {0}) Bad → Result Block Bad
section_block state head (Err bad) = Err bad
section_block state head (Ok whole) = Ok (record {
  len = head.total;
  after = record { place = state.place + head.total; packets = state.packets; order = Some head.order; interfaces = [] };
  packet = None;
})
