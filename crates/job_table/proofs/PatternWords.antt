-- The first word of a text, and those behind it.
use Rattle.std.proofs.Common.{◌≡◌, ℕ, zero, suc, ◌+◌, ◌<◌, ◌≤◌, Bool, true, false, cond, List, [], ◌∷◌, ◌++◌, length, take, drop, refl, sym, ◌∙◌, arith, append-nil, append_assoc, add-one}
use Rattle.std.specs.List.{position_or_len}
use Rattle.job_table.specs.Words.{is_blank, unless_empty, words_behind, words}

abbrev end : List ℕ → ℕ
end bytes = position_or_len is_blank bytes

one_more : (n : ℕ) → 1 + n ≡ suc n
one_more n = omega arith

pub words_at : (word bytes : List ℕ) → words_behind word bytes ≡ unless_empty (word ++ take (end bytes) bytes) (words (drop (end bytes + 1) bytes))
words_at word [] = rw (append-nil word) refl
words_at word (b ∷ bytes) = by_blank (is_blank b) refl (words_at (word ++ b ∷ []) bytes)
  where
    by_blank : (t : Bool) → is_blank b ≡ t
        → words_behind (word ++ b ∷ []) bytes ≡ unless_empty ((word ++ b ∷ []) ++ take (end bytes) bytes) (words (drop (end bytes + 1) bytes))
        → cond t (unless_empty word (words_behind [] bytes)) (words_behind (word ++ b ∷ []) bytes)
        ≡ unless_empty (word ++ take (end (b ∷ bytes)) (b ∷ bytes)) (words (drop (end (b ∷ bytes) + 1) (b ∷ bytes)))
    by_blank true e h = rw (e, append-nil word) refl
    by_blank false e h =
        h ∙ rw (e, one_more (end bytes), append_assoc word (b ∷ []) (take (end bytes) bytes), add-one (suc (end bytes)), add-one (end bytes)) refl

nonempty_take : (n : ℕ) (bytes : List ℕ) (ws : List (List ℕ)) → 0 < n → n ≤ length bytes → unless_empty (take n bytes) ws ≡ take n bytes ∷ ws
nonempty_take zero bytes ws some within = absurd (omega (arith, some))
nonempty_take (suc n) [] ws some within = absurd (omega (arith, within))
nonempty_take (suc n) (b ∷ bytes) ws some within = refl

-- where a blank begins the text
pub words_skip : (bytes : List ℕ) (n : ℕ) → n ≡ position_or_len is_blank bytes → n ≡ 0 → words bytes ≡ words (drop (n + 1) bytes)
words_skip bytes n e none = words_at [] bytes ∙ rw (sym e, none) refl

-- where a word does
pub words_word : (bytes : List ℕ) (n : ℕ) → n ≡ position_or_len is_blank bytes → 0 < n → n ≤ length bytes → words bytes ≡ take n bytes ∷ words (drop (n + 1) bytes)
words_word bytes n e some within = words_at [] bytes ∙ rw (sym e) (nonempty_take n bytes (words (drop (n + 1) bytes)) some within)
