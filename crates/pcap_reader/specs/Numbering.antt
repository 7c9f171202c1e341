-- The numbers of the records of a file.
use Rattle.std.specs.Prelude.{ℕ, suc, ◌≡◌, List, [], ◌∷◌}
use Rattle.pcap_reader.specs.Captured.{Captured}

-- the records are numbered one after the other, from this number on
abbrev pub NumberedFrom : ℕ → List Captured → Type 0
NumberedFrom number [] = Unit {0}
NumberedFrom number (r ∷ rs) = (r.number ≡ number) × NumberedFrom (suc number) rs
