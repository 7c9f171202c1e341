-- What is known of a pcapng file at a place where a block begins.
use Rattle.std.specs.Prelude.{ℕ, List, [], Option, None}
use Rattle.ds_base.specs.declared.capture.Bad.{Bad}
use Rattle.ds_base.specs.declared.capture.PcapFault.{PcapFault}
use Rattle.capture_bytes.specs.declared.endian.Endian.{Endian}
use Rattle.pcapng_reader.specs.declared.interface.Interface.{Interface}
use Rattle.pcapng_reader.specs.Packet.{Packet}

-- The place, how many packet blocks stand before it, the order of bytes of the section, and its interfaces so
-- far. Before the first section block there is no order.
pub record State : Type 0 where
  pub place : ℕ
  pub packets : ℕ
  pub order : Option Endian
  pub interfaces : List Interface

-- at the front of a file
abbrev pub start : State
start = record { place = 0; packets = 0; order = None; interfaces = [] }

-- A block that was read: its length, what is known after it, and the packet that it holds, where it holds one.
pub record Block : Type 0 where
  pub len : ℕ
  pub after : State
  pub packet : Option Packet

abbrev pub bad_at : ℕ → PcapFault → Bad
bad_at at what = record { at = at; what = what }

-- What is known, and how many interfaces more are taken without asking for memory.
pub record Known : Type 0 where
  pub state : State
  pub spare : ℕ
