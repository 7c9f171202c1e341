-- Names of which none stands for two things: the number of the name at a number is that number.
use Rattle.std.proofs.Common.{◌≡◌, ℕ, zero, suc, ◌<◌, Bool, true, false, List, [], ◌∷◌, ◌++◌, length, refl, sym, ◌∙◌, subst, arith, append_assoc, append-nil}
use Rattle.std.specs.Prelude.{◌||◌, bytes_eq, Some}
use Rattle.std.specs.List.{position_or_len}
use Rattle.std.proofs.lemmas.Bool.{lt-ltb}
use Rattle.std.proofs.lemmas.List.Folds.{list_any-append}
use Rattle.std.proofs.lemmas.Slice.Eq.{bytes_eq-Decides}
use Rattle.job_table.specs.Words.{is_among, number_of}
use Rattle.job_text.specs.Parts.{name_at}

-- each passes the test, and is none of those before it
abbrev pub AllNew : (List ℕ → Bool) → List (List ℕ) → List (List ℕ) → Type 0
AllNew test earlier [] = Unit {0}
AllNew test earlier (name ∷ names) = (test name ≡ true) × (is_among earlier name ≡ false) × AllNew test (earlier ++ name ∷ []) names

pub all_new_more : (test : List ℕ → Bool) (earlier names : List (List ℕ)) (name : List ℕ) → AllNew test earlier names
    → test name ≡ true → is_among (earlier ++ names) name ≡ false → AllNew test earlier (names ++ name ∷ [])
all_new_more test earlier [] name all passes new = (passes, subst (λ xs. is_among xs name ≡ false) (append-nil earlier) new, tt)
all_new_more test earlier (n ∷ names) name all passes new =
    (all.0, all.1, all_new_more test (earlier ++ n ∷ []) names name all.2 passes (subst (λ xs. is_among xs name ≡ false) (sym (append_assoc earlier (n ∷ []) names)) new))

neither : (a b : Bool) → (a || b) ≡ false → (a ≡ false) × (b ≡ false)
neither true b e = cc
neither false b e = (refl, e)

pub among_fewer : (earlier more : List (List ℕ)) (x : List ℕ) → is_among (earlier ++ more) x ≡ false → (is_among earlier x ≡ false) × (is_among more x ≡ false)
among_fewer earlier more x e = neither _ _ (sym (list_any-append (λ other. bytes_eq other x) earlier more) ∙ e)

new_apart : (test : List ℕ → Bool) (earlier names : List (List ℕ)) (k : ℕ) → AllNew test earlier names → k < length names → is_among earlier (name_at names k) ≡ false
new_apart test earlier [] k all less = absurd (omega (arith, less))
new_apart test earlier (n ∷ names) zero all less = all.1
new_apart test earlier (n ∷ names) (suc k) all less =
    (among_fewer earlier (n ∷ []) (name_at names k) (new_apart test (earlier ++ n ∷ []) names k all.2 (omega (arith, less)))).0

pub test_at : (test : List ℕ → Bool) (earlier names : List (List ℕ)) (k : ℕ) → AllNew test earlier names → k < length names → test (name_at names k) ≡ true
test_at test earlier [] k all less = absurd (omega (arith, less))
test_at test earlier (n ∷ names) zero all less = all.0
test_at test earlier (n ∷ names) (suc k) all less = test_at test (earlier ++ n ∷ []) names k all.2 (omega (arith, less))

same : (n : List ℕ) → bytes_eq n n ≡ true
same n = (bytes_eq-Decides n n).1 refl

place_at : (test : List ℕ → Bool) (earlier names : List (List ℕ)) (k : ℕ) → AllNew test earlier names → k < length names
    → position_or_len (λ other. bytes_eq other (name_at names k)) names ≡ k
place_at test earlier [] k all less = absurd (omega (arith, less))
place_at test earlier (n ∷ names) zero all less = rw (same n) refl
place_at test earlier (n ∷ names) (suc k) all less =
    let apart = new_apart test (earlier ++ n ∷ []) names k all.2 (omega (arith, less)) in
    let other : bytes_eq n (name_at names k) ≡ false = (neither _ _ (among_fewer earlier (n ∷ []) (name_at names k) apart).1).0 in
    rw (other, place_at test (earlier ++ n ∷ []) names k all.2 (omega (arith, less))) (omega arith)

pub number_again : (test : List ℕ → Bool) (names : List (List ℕ)) (k : ℕ) → AllNew test [] names → k < length names → number_of names (name_at names k) ≡ Some k
number_again test names k all less = rw (place_at test [] names k all less, lt-ltb k (length names) less) refl
