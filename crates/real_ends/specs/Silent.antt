-- What contracts see of an end that tells nothing: its count of failures.
use Rattle.std.specs.Prelude.{ℕ, [], false}
use Rattle.ds_base.specs.Outside.{SourceSeen, SinkSeen, FolderSeen}

abbrev pub silent_source : ℕ → SourceSeen
silent_source faults = record { told = false; whole = []; left = []; faults = faults }

abbrev pub silent_sink : ℕ → SinkSeen
silent_sink faults = record { told = false; written = []; faults = faults; label = [] }

abbrev pub silent_folder : ℕ → FolderSeen
silent_folder faults = record { told = false; files = []; faults = faults }
