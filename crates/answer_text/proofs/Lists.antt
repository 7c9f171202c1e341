-- Numbers with commas between them.
use Rattle.std.proofs.Common.{ℕ, List, [], ◌∷◌, ◌++◌, ◌≡◌, drop, map, Some, ap, ◌∙◌}
use Rattle.std.specs.Fmt.{decimal}
use Rattle.std.specs.List.{slice_get, flat_map}
use Rattle.ds_base.proofs.Places.{flat_map-map}
use Rattle.answer_text.specs.Pieces.{behind, joined}

-- the numbers of a list that is not empty, with commas between them
pub joined_numbers : (ns : List ℕ) (n : ℕ) → slice_get ns 0 ≡ Some n
    → joined (map decimal ns) ≡ decimal n ++ flat_map (λ m. behind (decimal m)) (drop 1 ns)
joined_numbers [] n at = cc
joined_numbers (m ∷ ns) n at = let e : m ≡ n = cc in ap (λ k. decimal k ++ flat_map behind (map decimal ns)) e ∙ ap (λ t. decimal n ++ t) (flat_map-map behind decimal ns)
