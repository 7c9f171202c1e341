-- Numbers that are printed by their names are read as the same.
use Rattle.std.proofs.Common.{◌≡◌, ℕ, ◌<◌, Bool, false, not, List, [], ◌∷◌, ◌++◌, length, map, refl, sym, ◌∙◌, subst, append_assoc, append-nil}
use Rattle.std.specs.Prelude.{◌==◌, Ok, codes}
use Rattle.std.specs.List.{list_any}
use Rattle.serde_json.specs.Data.{Data}
use Rattle.serde_json.specs.View.{items_of}
use Rattle.job_values.specs.declared.member.Member.{Member}
use Rattle.job_values.specs.declared.member.Member.TheVariants.{Key}
use Rattle.job_values.specs.declared.fault.JobWhat.TheVariants.{Twice}
use Rattle.job_values.specs.Said.{◌>>=◌}
use Rattle.job_values.specs.Values.{needed, each}
use Rattle.job_text.specs.Parts.{named}
use Rattle.job_table.specs.Table.{another, known, key, listed}
use Rattle.job_text.proofs.CapturedAgain.{no}
use Rattle.job_text.proofs.NewNames.{AllNew, number_again}
use Rattle.job_text.proofs.Said.{bound, tested, kept}

-- each is below, and none of those before it
abbrev pub AllOther : ℕ → List ℕ → List ℕ → Type 0
AllOther most earlier [] = Unit {0}
AllOther most earlier (n ∷ numbers) = (n < most) × (list_any (λ m. m == n) earlier ≡ false) × AllOther most (earlier ++ n ∷ []) numbers

-- none of those before it
abbrev pub AllApart : List ℕ → List ℕ → Type 0
AllApart earlier [] = Unit {0}
AllApart earlier (n ∷ numbers) = (list_any (λ m. m == n) earlier ≡ false) × AllApart (earlier ++ n ∷ []) numbers

apart_more : (earlier numbers : List ℕ) (n : ℕ) → AllApart earlier numbers → list_any (λ m. m == n) (earlier ++ numbers) ≡ false → AllApart earlier (numbers ++ n ∷ [])
apart_more earlier [] n all new = (subst (λ xs. list_any (λ m. m == n) xs ≡ false) (append-nil earlier) new, tt)
apart_more earlier (k ∷ numbers) n all new =
    (all.0, apart_more (earlier ++ k ∷ []) numbers n all.1 (subst (λ xs. list_any (λ m. m == n) xs ≡ false) (sym (append_assoc earlier (k ∷ []) numbers)) new))

one_more : (vars : List (List ℕ)) (s : List ℕ) (d : Data) (t : List ℕ) → AllApart [] s → another Key vars s d ≡ Ok t → AllApart [] t
one_more vars s d t all e =
    let one = bound (known Key (length s) vars d) _ t e in
    let new = tested Key (length s) Twice (not (list_any (λ m. m == one.0) s)) (s ++ one.0 ∷ []) t one.2 in
    subst (λ xs. AllApart [] xs) new.1 (apart_more [] s one.0 all (no _ new.0))

pub key_kept : (vars : List (List ℕ)) (d : Data) (k : List ℕ) → key vars d ≡ Ok k → AllApart [] k
key_kept vars d k e =
    let one = bound (needed Key 0 (codes "key") d >>= listed Key 0 1 16) (each (another Key vars) []) k e in
    kept (λ xs. AllApart [] xs) (another Key vars) (one_more vars) [] one.0 k tt one.2

one_again : (at : Member) (test : List ℕ → Bool) (names : List (List ℕ)) (earlier : List ℕ) (n : ℕ) → AllNew test [] names → n < length names
    → list_any (λ m. m == n) earlier ≡ false → another at names earlier (named names n) ≡ Ok (earlier ++ n ∷ [])
one_again at test names earlier n all less new = rw (number_again test names n all less, new) refl

pub numbers_again : (at : Member) (test : List ℕ → Bool) (names : List (List ℕ)) (earlier more : List ℕ) → AllNew test [] names → AllOther (length names) earlier more
    → each (another at names) earlier (items_of (map (named names) more)) ≡ Ok (earlier ++ more)
numbers_again at test names earlier [] all others = rw (append-nil earlier) refl
numbers_again at test names earlier (n ∷ more) all others =
    rw (one_again at test names earlier n all others.0 others.1)
    (numbers_again at test names (earlier ++ n ∷ []) more all others.2 ∙ rw (append_assoc earlier (n ∷ []) more) refl)
