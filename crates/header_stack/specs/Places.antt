-- Where the layers of a packet stand in its bytes.
use Rattle.std.specs.Prelude.{ℕ, ◌+◌, ◌≤◌, List, [], ◌∷◌, length, map, slice_range}
use Rattle.header_stack.specs.declared.place.Place.{Place}
use Rattle.header_stack.specs.Layer.{Layer}

-- the place lies in the bytes
abbrev pub LiesIn : List ℕ → Place → Type 0
LiesIn bytes place = (place.from ≤ place.to) × (place.to ≤ length bytes)

-- the layer that stands at the place
abbrev pub layer_at : List ℕ → Place → Layer
layer_at bytes place = record { kind = place.kind; bytes = slice_range bytes place.from place.to }

-- the layers that stand at the places
abbrev pub layers_at : List ℕ → List Place → List Layer
layers_at bytes places = map (layer_at bytes) places

-- the places of neighbouring layers, of which the first begins at this byte
abbrev pub places_from : ℕ → List Layer → List Place
places_from from [] = []
places_from from (layer ∷ layers) =
    record { kind = layer.kind; from = from; to = from + length layer.bytes } ∷ places_from (from + length layer.bytes) layers
