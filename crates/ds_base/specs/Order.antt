-- The order of stamps.
use Rattle.std.specs.Prelude.{List, [], ◌∷◌, ◌≡◌, ◌<◌, ◌⊎◌}
use Rattle.ds_base.specs.declared.stamp.Stamp.{Stamp}
use Rattle.ds_base.specs.declared.summary.Summary.{Summary}

-- the order of stamps: by time, then capture, then number
abbrev pub Precedes : Stamp → Stamp → Type 0
Precedes a b = (a.time < b.time)
    ⊎ ((a.time ≡ b.time) × ((a.capture < b.capture) ⊎ ((a.capture ≡ b.capture) × (a.number < b.number))))

-- the stamp is before that of each of these
abbrev pub PrecedesAll : Stamp → List Summary → Type 0
PrecedesAll at [] = Unit {0}
PrecedesAll at (s ∷ ss) = Precedes at s.at × PrecedesAll at ss

-- each stamp is before all later ones
abbrev pub InStampOrder : List Summary → Type 0
InStampOrder [] = Unit {0}
InStampOrder (s ∷ ss) = PrecedesAll s.at ss × InStampOrder ss
