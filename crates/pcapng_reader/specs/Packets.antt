-- The enhanced and the simple packet block (pcapng specification sections 4.3 and 4.4).
use Rattle.std.specs.Prelude.{ℕ, ◌+◌, ◌-◌, ◌*◌, ◌^◌, List, take, drop, min, Option, Some, None, Result, Ok, Err, slice_get, slice_set, nat_lt, ◌==◌, if◌then◌else◌}
use Rattle.ds_base.specs.declared.capture.Bad.{Bad}
use Rattle.ds_base.specs.declared.capture.PcapFault.TheVariants.{TooLong, NgInterface, NgPacket, NgTime}
use Rattle.capture_bytes.specs.Number.{number}
use Rattle.pcapng_reader.specs.declared.interface.Interface.{Interface}
use Rattle.pcapng_reader.specs.declared.head.Head.{Head}
use Rattle.pcapng_reader.specs.declared.packet.Found.{Found}
use Rattle.pcapng_reader.specs.Packet.{Packet}
use Rattle.pcapng_reader.specs.State.{State, Block, bad_at}
use Rattle.pcapng_reader.specs.Blocks.{padded}
use Rattle.pcapng_reader.specs.Times.{nanoseconds, shifted}

-- how many bytes of a packet are captured at most
abbrev pub longest_packet : ℕ
longest_packet = 262144

-- a packet with its bytes, which lie in the block
abbrev pub packet_of : Found → List ℕ → Packet
packet_of found block = record {
  number = found.number;
  interface = found.interface;
  time = found.time;
  link = found.link;
  orig = found.orig;
  bytes = take found.len (drop found.from block);
}

-- the interface of a packet of that time
abbrev pub with_newest : (time : ℕ) → Interface → Interface
with_newest time i = record { link = i.link; snaplen = i.snaplen; resolution = i.resolution; seconds = i.seconds; newest = time }

-- the interfaces after a packet of that interface and time
abbrev pub interfaces_after : List Interface → Found → Option Interface → List Interface
interfaces_after interfaces found None = interfaces
interfaces_after interfaces found (Some i) = slice_set interfaces found.interface (with_newest found.time i)

-- A packet block holds a packet, which becomes the last of its interface.
abbrev pub packet_block : State → Head → List ℕ → Result Found Bad → Result Block Bad
packet_block state head block (Err bad) = Err bad
packet_block state head block (Ok found) = Ok (record {
  len = head.total;
  after = record {
    place = state.place + head.total;
    packets = state.packets + 1;
    order = state.order;
    interfaces = interfaces_after state.interfaces found (slice_get state.interfaces found.interface);
  };
  packet = Some (packet_of found block);
})

-- ---- the enhanced packet block

abbrev pub enhanced_interface : Head → List ℕ → ℕ
enhanced_interface head block = number head.order 4 block 8

-- the units of its time, in two words, the high one first
abbrev pub enhanced_units : Head → List ℕ → ℕ
enhanced_units head block = number head.order 4 block 12 * 2 ^ 32 + number head.order 4 block 16

abbrev pub enhanced_captured : Head → List ℕ → ℕ
enhanced_captured head block = number head.order 4 block 20

abbrev pub enhanced_at : State → Head → List ℕ → Interface → Option ℕ → Result Found Bad
enhanced_at state head block i None = Err (bad_at (state.place + 12) (NgTime state.packets))
enhanced_at state head block i (Some time) = Ok (record {
  number = state.packets;
  interface = enhanced_interface head block;
  link = i.link;
  orig = number head.order 4 block 24;
  time = time;
  from = 28;
  len = enhanced_captured head block;
})

abbrev pub enhanced_of : State → Head → List ℕ → Option Interface → Result Found Bad
enhanced_of state head block None = Err (bad_at (state.place + 8) (NgInterface (enhanced_interface head block)))
enhanced_of state head block (Some i) =
    if nat_lt longest_packet (enhanced_captured head block)
    then Err (bad_at (state.place + 20) (TooLong state.packets (enhanced_captured head block)))
    else (if nat_lt head.total (32 + padded (enhanced_captured head block))
    then Err (bad_at (state.place + 20) (NgPacket state.packets (enhanced_captured head block)))
    else enhanced_at state head block i (shifted (nanoseconds i.resolution (enhanced_units head block)) i.seconds))

-- its packet, or what is malformed
unfoldable pub enhanced_said : State → Head → List ℕ → Result Found Bad
enhanced_said state head block = enhanced_of state head block (slice_get state.interfaces (enhanced_interface head block))

-- ---- the simple packet block, which is of interface 0 and has the time of the packet before it

abbrev pub simple_original : Head → List ℕ → ℕ
simple_original head block = number head.order 4 block 8

-- the interface's longest packet, where it states one
abbrev pub within_snaplen : Interface → ℕ → ℕ
within_snaplen i len = if i.snaplen == 0 then len else min len i.snaplen

-- the least of its original length, the interface's longest packet and the room in the block
abbrev pub simple_captured : Head → List ℕ → Interface → ℕ
simple_captured head block i = min (within_snaplen i (simple_original head block)) (head.total - 16)

abbrev pub simple_of : State → Head → List ℕ → Option Interface → Result Found Bad
simple_of state head block None = Err (bad_at (state.place + 8) (NgInterface 0))
simple_of state head block (Some i) =
    if nat_lt longest_packet (simple_captured head block i)
    then Err (bad_at (state.place + 8) (TooLong state.packets (simple_captured head block i)))
    else Ok (record {
      number = state.packets;
      interface = 0;
      link = i.link;
      orig = simple_original head block;
      time = i.newest;
      from = 12;
      len = simple_captured head block i;
    })

-- its packet, or what is malformed
unfoldable pub simple_said : State → Head → List ℕ → Result Found Bad
simple_said state head block = simple_of state head block (slice_get state.interfaces 0)
