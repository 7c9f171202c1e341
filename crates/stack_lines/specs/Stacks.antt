-- The lines of `stack`: each packet's headers, or the value of a field of it.
use Rattle.std.specs.Prelude.{ℕ, List, [], ◌++◌, Bool, if◌then◌else◌, Option, Some, None, codes}
use Rattle.std.specs.Fmt.{decimal}
use Rattle.std.specs.List.{flat_map}
use Rattle.std.specs.Option.{option_map_or}
use Rattle.ds_base.specs.declared.capture.Bad.{Bad}
use Rattle.field_table.specs.declared.field_ref.FieldRef.{FieldRef}
use Rattle.field_table.specs.Fields.{form_of}
use Rattle.field_table.specs.FieldText.{kind_text}
use Rattle.field_table.specs.ValueText.{value_text}
use Rattle.header_stack.specs.declared.place.Place.{Place}
use Rattle.header_stack.specs.Places.{places_from}
use Rattle.header_stack.specs.Stack.{stack_of}
use Rattle.header_stack.specs.Value.{packet_value}
use Rattle.pcap_reader.specs.Captured.{Captured}
use Rattle.pcap_reader.specs.Good.{good}

-- a header: its kind, its first byte and the first byte after it
abbrev pub header_text : Place → List ℕ
header_text place =
    codes " " ++ kind_text place.kind ++ codes "[" ++ decimal place.from ++ codes ".." ++ decimal place.to ++ codes "]"

-- the headers of a packet, of which the first begins at byte 0
abbrev pub headers_text : (port : ℕ) → Captured → List ℕ
headers_text port r = flat_map header_text (places_from 0 (stack_of r.link port r.bytes))

-- a number in the form of the field
abbrev pub in_form_of : FieldRef → ℕ → List ℕ
in_form_of field n = option_map_or (λ form. value_text form n) (form_of field.kind field.field) []

-- the value of a field, where the packet has it
abbrev pub field_shown : FieldRef → Option ℕ → List ℕ
field_shown field None = codes " none"
field_shown field (Some n) = codes " " ++ in_form_of field n

-- what a line says of the packet: its headers, or the field where one is asked for
abbrev pub packet_text : (port : ℕ) → Option FieldRef → Captured → List ℕ
packet_text port None r = headers_text port r
packet_text port (Some field) r = field_shown field (packet_value r.link port r.bytes field)

-- the line of a record
abbrev pub stack_line : (port : ℕ) → Option FieldRef → Captured → List ℕ
stack_line port field r = decimal r.number ++ codes " " ++ decimal r.time ++ packet_text port field r ++ codes "\n"

abbrev pub stack_lines : (port : ℕ) → Option FieldRef → List Captured → List ℕ
stack_lines port field rs = flat_map (stack_line port field) rs

-- whether the file ends inside a record
abbrev pub last_line : (cut : Bool) → List ℕ
last_line cut = if cut then codes "cut\n" else codes "whole\n"

-- the last line of a file, which a malformed one lacks
abbrev pub last_line_of : Option Bad → (cut : Bool) → List ℕ
last_line_of None cut = last_line cut
last_line_of (Some bad) cut = []

-- The lines of a capture file: those of the records before its first malformed place, and where it has
-- none, the last line.
abbrev pub stack_report : (port : ℕ) → Option FieldRef → List ℕ → List ℕ
stack_report port field bytes = stack_lines port field (good None bytes).records ++ last_line_of (good None bytes).bad (good None bytes).cut
