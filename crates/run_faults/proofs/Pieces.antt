-- Pieces of a text that were put one after the other.
use Rattle.std.proofs.Common.{ℕ, List, ◌++◌, ◌≡◌, ap, ◌∙◌, append_assoc}

-- four pieces that were put one behind the other
pub four_pieces : (start one two three four a b c d : List ℕ) → one ≡ start ++ a → two ≡ one ++ b → three ≡ two ++ c → four ≡ three ++ d
    → four ≡ start ++ (a ++ b ++ c ++ d)
four_pieces start one two three four a b c d p q r s =
    s ∙ ap (λ xs. xs ++ d) (r ∙ ap (λ xs. xs ++ c) (q ∙ ap (λ xs. xs ++ b) p ∙ append_assoc start a b) ∙ append_assoc start (a ++ b) c)
    ∙ append_assoc start (a ++ b ++ c) d
