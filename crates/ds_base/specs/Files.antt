-- Files in memory, as contracts see them.
use Rattle.ds_base.specs.Outside.{NamedBytes}
use Rattle.ds_base.specs.declared.fakes.NamedFile.{NamedFile}

-- a file, without where it lies in memory
abbrev pub named_bytes : NamedFile → NamedBytes
named_bytes file = record { name = file.name.items; bytes = file.bytes.items }
