-- What is made of the words of the command line.
use Rattle.std.specs.Prelude.{ℕ, List, [], Option, Some, None}
use Rattle.command_words.specs.Words.{Asked, Accepts}
use Rattle.ds_base.specs.Outside.{FolderSeen}
use Rattle.dshark_cli.specs.Rooms.{room_of}

-- what the words ask, or that they ask nothing
abbrev pub Give : List (List ℕ) → Option Asked → Type 0
Give words None = (asked : Asked) → Accepts words asked → ⊥
Give words (Some asked) = Accepts words asked

-- the text that is due: nothing where nothing is asked
abbrev pub due : Option Asked → FolderSeen → List ℕ
due None folder = []
due (Some asked) folder = (room_of asked).due folder
