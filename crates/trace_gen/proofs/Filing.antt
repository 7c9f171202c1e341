-- One record more in the file of a capture point.
use Rattle.std.proofs.Common.{◌≡◌, ℕ, ◌+◌, ◌==◌, List, [], ◌∷◌, ◌++◌, Bool, true, false, take, Some, flat_map, slice_get, refl, sym, ap, ◌∙◌, append_assoc, append-nil, if◌then◌else◌}
use Rattle.std.proofs.lemmas.List.Concat.{flat_map-append}
use Rattle.std.proofs.lemmas.List.Elements.{filter-append}
use Rattle.ds_base.proofs.Places.{take_at}
use Rattle.trace_gen.specs.declared.sighting.Sighting.{Sighting}
use Rattle.trace_gen.specs.Captures.{file_header, record_of, record_at, seen_at, capture_file}

pub none_filed : (point : ℕ) (seen : List Sighting) → file_header ≡ capture_file point (take 0 seen)
none_filed point seen = sym (append-nil file_header)

picked : (test : Bool) (s : Sighting) → (if test then record_of s else []) ≡ flat_map record_of (if test then s ∷ [] else [])
picked true s = sym (append-nil (record_of s))
picked false s = refl

pub one_filed : (point k : ℕ) (seen : List Sighting) (s : Sighting) (before after : List ℕ) → slice_get seen k ≡ Some s
    → before ≡ capture_file point (take k seen) → after ≡ before ++ record_at point s → after ≡ capture_file point (take (k + 1) seen)
one_filed point k seen s before after at so_far put =
    put ∙ ap (λ t. t ++ record_at point s) so_far
    ∙ append_assoc file_header (flat_map record_of (seen_at point (take k seen))) (record_at point s)
    ∙ ap (λ t. file_header ++ (flat_map record_of (seen_at point (take k seen)) ++ t)) (picked (s.capture == point) s)
    ∙ ap (λ t. file_header ++ t) (sym (flat_map-append record_of (seen_at point (take k seen)) (seen_at point (s ∷ []))))
    ∙ ap (λ t. file_header ++ flat_map record_of t) (sym (filter-append (λ x. x.capture == point) (take k seen) (s ∷ [])))
    ∙ ap (λ t. capture_file point t) (sym (take_at seen k s at))
