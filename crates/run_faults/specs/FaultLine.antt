-- The line that a fault prints.
use Rattle.std.specs.Prelude.{ℕ, List, [], ◌++◌, Option, Some, None, codes}
use Rattle.std.specs.Fmt.{decimal}
use Rattle.ds_base.specs.declared.capture.PcapFault.{PcapFault}
use Rattle.ds_base.specs.declared.capture.PcapFault.TheVariants.{PcapNg, Magic, ShortHeader, Version, LinkType, TooLong, TooMany, NgLength, NgTail, NgInterface, NgPacket, NgResolution, NgTime}
use Rattle.run_faults.specs.JobLine.{job_text}
use Rattle.run_faults.specs.declared.fault.Stop.{Stop}
use Rattle.run_faults.specs.declared.fault.RunFault.{RunFault}
use Rattle.run_faults.specs.declared.fault.RunFault.TheVariants.{Usage, BadJob, Malformed, ReadFault, WriteFault, OutOfMemory}

-- what is wrong with a capture
abbrev pub what_text : PcapFault → List ℕ
what_text PcapNg = codes "pcapng"
what_text Magic = codes "magic"
what_text (ShortHeader len) = codes "short header"
what_text (Version major minor) = codes "version " ++ decimal major ++ codes "." ++ decimal minor
what_text (LinkType link) = codes "link type " ++ decimal link
what_text (TooLong number len) = codes "record " ++ decimal number ++ codes " length " ++ decimal len
what_text TooMany = codes "records"
what_text (NgLength len) = codes "block length " ++ decimal len
what_text (NgTail tail) = codes "block tail " ++ decimal tail
what_text (NgInterface id) = codes "interface " ++ decimal id
what_text (NgPacket number len) = codes "record " ++ decimal number ++ codes " packet " ++ decimal len
what_text (NgResolution r) = codes "resolution " ++ decimal r
what_text (NgTime number) = codes "record " ++ decimal number ++ codes " time"

-- the fault, without the name of the program; the name is that of the capture
abbrev pub fault_text : (name : List ℕ) → RunFault → List ℕ
fault_text name (Usage place) = codes "usage: word " ++ decimal place
fault_text name (BadJob fault) = job_text fault
fault_text name (Malformed capture at what) = codes "capture " ++ name ++ codes ": byte " ++ decimal at ++ codes ": " ++ what_text what
fault_text name (ReadFault file) = codes "read: file " ++ decimal file
fault_text name WriteFault = codes "write"
fault_text name OutOfMemory = codes "memory"

abbrev pub fault_line : (name : List ℕ) → RunFault → List ℕ
fault_line name fault = codes "dshark: " ++ fault_text name fault ++ codes "\n"

-- the line that a run owes to the standard error: none where it ends Ok
abbrev pub owed_line : (name : List ℕ) → Option RunFault → List ℕ
owed_line name None = []
owed_line name (Some fault) = fault_line name fault

-- the line of how it stopped, with the name that it has
abbrev pub line_of : Option Stop → List ℕ
line_of None = []
line_of (Some stop) = fault_line stop.name stop.fault
