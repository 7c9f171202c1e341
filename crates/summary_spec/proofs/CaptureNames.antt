-- The names of the captures of a declaration that was read.
use Rattle.std.proofs.Common.{◌≡◌, ℕ, ◌≤◌, List, [], ◌∷◌, ◌++◌, length, All}
use Rattle.std.specs.Prelude.{Ok}
use Rattle.std.proofs.lemmas.List.Elements.{All-nil, All-cons}
use Rattle.summary_spec.specs.Declaration.{Declared}
use Rattle.summary_spec.specs.Reads.{reads}
use Rattle.job_table.specs.Words.{is_identifier}
use Rattle.summary_spec.proofs.Again.{json_said}
use Rattle.job_text.proofs.Lengths.{identifier_short}
use Rattle.job_text.proofs.NewNames.{AllNew}

-- each is an identifier, and none of those before it
pub captures_new : (bytes : List ℕ) (d : Declared) → reads bytes ≡ Ok d → AllNew is_identifier [] d.captures
captures_new bytes d e = (json_said bytes d e).captures

all_short : (earlier names : List (List ℕ)) → AllNew is_identifier earlier names → All (λ name. length name ≤ 32) names
all_short earlier [] all = All-nil (λ (name : List ℕ). length name ≤ 32)
all_short earlier (name ∷ names) all =
    All-cons (λ (name : List ℕ). length name ≤ 32) name names (identifier_short name all.0) (all_short (earlier ++ name ∷ []) names all.2)

-- each has at most 32 bytes
pub captures_short : (bytes : List ℕ) (d : Declared) → reads bytes ≡ Ok d → All (λ name. length name ≤ 32) d.captures
captures_short bytes d e = all_short [] d.captures (captures_new bytes d e)
