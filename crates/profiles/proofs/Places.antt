-- Where the row of a pair stands, and where a new one goes.
use Rattle.std.proofs.Common.{ℕ, List, [], ◌∷◌, ◌≡◌, ◌<◌, ◌≤◌, ◌+◌, ◌-◌, inl, inr, suc, zero, refl, sym, ap, subst, ◌∙◌, arith, length, get_or, set}
use Rattle.std.specs.Prelude.{insert}
use Rattle.std.specs.List.{AllByRecursion}
use Rattle.std.proofs.lemmas.Bool.{cases_lt}
use Rattle.std.proofs.lemmas.List.{get_or_default}
use Rattle.std.proofs.lemmas.List.Edits.{length-insert}
use Rattle.ds_base.specs.declared.profile_row.ProfileRow.{ProfileRow}
use Rattle.profiles.specs.Rows.{IsSound, AreRising, PairPrecedes, joined}
use Rattle.profiles.specs.Put.{pair_number, AreKept, HasRoom, PutsAt, InsertsAt, put}
use Rattle.profiles.proofs.Put.{RiseFrom, put-before, put-here, put-behind}

-- ---- the order of the pairs is that of their numbers

number-less : (a b : ProfileRow) → IsSound a → IsSound b → PairPrecedes a b → pair_number a < pair_number b
number-less a b s t (inl lt) = let f = s.to_below in omega arith
number-less a b s t (inr e) = omega (arith, e.0, e.1)

pair-less : (a b : ProfileRow) → IsSound a → IsSound b → pair_number a < pair_number b → PairPrecedes a b
pair-less a b s t lt =
    let c = cases_lt a.from b.from in
    let f = s.to_below in
    let g = t.to_below in
    elim c [ inl less ↦ inl less | inr ge ↦ inr (omega arith, omega arith) ]

rise-from : (n : ℕ) (rows : List ProfileRow) → AllByRecursion IsSound rows → AreRising rows → ((d : ProfileRow) → 0 < length rows → n ≤ pair_number (get_or rows 0 d)) → RiseFrom n rows
rise-from n [] s r le = tt
rise-from n (a ∷ []) s r le = (le a (omega arith), tt)
rise-from n (a ∷ b ∷ rows) s r le =
    let less = number-less a b s.0 s.1.0 r.0 in
    (le a (omega arith), rise-from (pair_number a + 1) (b ∷ rows) s.1 r.1 (λ d h. omega (arith, less)))

pub RiseFrom-kept : (rows : List ProfileRow) → AreKept rows → RiseFrom 0 rows
RiseFrom-kept rows k = rise-from 0 rows k.sound k.rising (λ d h. omega arith)

pub AreRising-from : (n : ℕ) (rows : List ProfileRow) → AllByRecursion IsSound rows → RiseFrom n rows → AreRising rows
AreRising-from n [] s r = tt
AreRising-from n (a ∷ []) s r = tt
AreRising-from n (a ∷ b ∷ rows) s r = (pair-less a b s.0 s.1.0 (omega (arith, r.1.0)), AreRising-from (pair_number a + 1) (b ∷ rows) s.1 r.1)

-- ---- places

-- the number at each place is at least that from which they rise
pub rising-from : (n : ℕ) (rows : List ProfileRow) (i : ℕ) (d : ProfileRow) → RiseFrom n rows → i < length rows → n ≤ pair_number (get_or rows i d)
rising-from n [] i d h lt = absurd (omega arith)
rising-from n (x ∷ xs) zero d h lt = h.0
rising-from n (x ∷ xs) (suc i) d h lt = let rest = rising-from (pair_number x + 1) xs i d h.1 (omega arith) in omega (arith, h.0, rest)

pub rising-between : (n : ℕ) (rows : List ProfileRow) (i j : ℕ) (d : ProfileRow) → RiseFrom n rows → i < j → j < length rows
    → pair_number (get_or rows i d) < pair_number (get_or rows j d)
rising-between n [] i j d h lt within = absurd (omega arith)
rising-between n (x ∷ xs) i zero d h lt within = absurd (omega arith)
rising-between n (x ∷ xs) zero (suc j) d h lt within = let rest = rising-from (pair_number x + 1) xs j d h.1 (omega arith) in omega (arith, rest)
rising-between n (x ∷ xs) (suc i) (suc j) d h lt within = rising-between (pair_number x + 1) xs i j d h.1 (omega arith) (omega arith)

-- there are no more rows than pairs
pub rows-few : (n : ℕ) (rows : List ProfileRow) → n ≤ 4096 → RiseFrom n rows → AllByRecursion IsSound rows → length rows + n ≤ 4096
rows-few n [] le h s = omega arith
rows-few n (x ∷ xs) le h s =
    let from = s.0.from_below in
    let to = s.0.to_below in
    let rest = rows-few (pair_number x + 1) xs (omega arith) h.1 s.1 in
    omega (arith, rest, h.0)

-- where the row of the pair stands at i
pub put-at : (row : ProfileRow) (rows : List ProfileRow) (i : ℕ) (d : ProfileRow) → i < length rows
    → ((k : ℕ) (d : ProfileRow) → k < i → pair_number (get_or rows k d) < pair_number row) → pair_number (get_or rows i d) ≡ pair_number row
    → put row rows ≡ set rows i (joined (get_or rows i d) row)
put-at row [] i d lt below here = absurd (omega arith)
put-at row (x ∷ xs) zero d lt below here = put-here row x xs here
put-at row (x ∷ xs) (suc i) d lt below here =
    put-behind row x xs (below 0 d (omega arith))
    ∙ ap (λ (l : List ProfileRow). x ∷ l) (put-at row xs i d (omega arith) (λ k e h. below (suc k) e (omega arith)) here)

-- where the rows before i are of earlier pairs, and those from i on of later ones
pub put-between : (row : ProfileRow) (rows : List ProfileRow) (i : ℕ) → i ≤ length rows
    → ((k : ℕ) (d : ProfileRow) → k < i → pair_number (get_or rows k d) < pair_number row)
    → ((k : ℕ) (d : ProfileRow) → i ≤ k → k < length rows → pair_number row < pair_number (get_or rows k d))
    → put row rows ≡ insert rows i row
put-between row [] zero le below above = refl
put-between row [] (suc i) le below above = absurd (omega arith)
put-between row (x ∷ xs) zero le below above = put-before row x xs (above 0 x (omega arith) (omega arith))
put-between row (x ∷ xs) (suc i) le below above =
    put-behind row x xs (below 0 x (omega arith))
    ∙ ap (λ (l : List ProfileRow). x ∷ l) (put-between row xs i (omega arith) (λ k e h. below (suc k) e (omega arith)) (λ k e h w. above (suc k) e (omega arith) (omega arith)))

pub sound-at : (rows : List ProfileRow) (i : ℕ) (d : ProfileRow) → AllByRecursion IsSound rows → i < length rows → IsSound (get_or rows i d)
sound-at [] i d s lt = absurd (omega arith)
sound-at (x ∷ xs) zero d s lt = s.0
sound-at (x ∷ xs) (suc i) d s lt = sound-at xs i d s.1 (omega arith)

pub wide-at : (rows : List ProfileRow) (i : ℕ) (d : ProfileRow) → AllByRecursion (λ r. length r.classes ≡ 64) rows → i < length rows → length (get_or rows i d).classes ≡ 64
wide-at [] i d w lt = absurd (omega arith)
wide-at (x ∷ xs) zero d w lt = w.0
wide-at (x ∷ xs) (suc i) d w lt = wide-at xs i d w.1 (omega arith)

-- ---- the search for a place

-- what a place after the end is read as
abbrev pub no_row : ProfileRow
no_row = record { from = 0; to = 0; count = 0; sum = 0; least = 0; greatest = 0; classes = [] }

-- one row more at most, and one fewer to come
pub room-next : (len capacity new_len new_capacity i n : ℕ) → HasRoom len capacity (n - i) → i < n → new_len ≤ len + 1 → capacity ≤ new_capacity
    → HasRoom new_len new_capacity (n - (i + 1))
room-next len capacity new_len new_capacity i n (inl room) lt le ge = inl (omega arith)
room-next len capacity new_len new_capacity i n (inr room) lt le ge = inr (omega arith)

-- a row that is not there yet finds room
pub room-for-new : (len capacity : ℕ) (row : ProfileRow) (rows : List ProfileRow) (i : ℕ) → AreKept (put row rows) → i ≤ length rows → put row rows ≡ insert rows i row
    → len ≡ length rows → HasRoom len capacity 1 → len < capacity
room-for-new len capacity row rows i kept le is same (inl room) = omega arith
room-for-new len capacity row rows i kept le is same (inr room) =
    let few = rows-few 0 (put row rows) (omega arith) (RiseFrom-kept (put row rows) kept) kept.sound in
    let longer : length (put row rows) ≡ length rows + 1 = ap length is ∙ length-insert rows i row le in
    omega (arith, few, longer)

pub PutsAt-found : (number : ℕ) (rows : List ProfileRow) (i : ℕ) → AreKept rows → i < length rows → pair_number (get_or rows i no_row) ≡ number → PutsAt number rows i
PutsAt-found number rows i k lt at =
    let r = RiseFrom-kept rows k in
    let here : (d : ProfileRow) → pair_number (get_or rows i d) ≡ number = λ d. subst (λ (x : ProfileRow). pair_number x ≡ number) (get_or_default rows i no_row d lt) at in
    (lt, λ row d e. put-at row rows i d lt (λ j f h. let less = rising-between 0 rows j i f r h lt in omega (arith, here f, e, less)) (here d ∙ sym e))

-- the places below low are of lesser numbers
abbrev pub AreBelow : ℕ → List ProfileRow → ℕ → Type 0
AreBelow number rows low = (k : ℕ) (d : ProfileRow) → k < low → pair_number (get_or rows k d) < number

-- the places from high on are of greater numbers
abbrev pub AreAbove : ℕ → List ProfileRow → ℕ → Type 0
AreAbove number rows high = (k : ℕ) (d : ProfileRow) → high ≤ k → k < length rows → number < pair_number (get_or rows k d)

pub InsertsAt-between : (number : ℕ) (rows : List ProfileRow) (i : ℕ) → i ≤ length rows → AreBelow number rows i → AreAbove number rows i → InsertsAt number rows i
InsertsAt-between number rows i le below above =
    (le, λ row e. put-between row rows i le (λ k d h. omega (arith, below k d h, e)) (λ k d h w. omega (arith, above k d h w, e)))

pub AreBelow-more : (number : ℕ) (rows : List ProfileRow) (i : ℕ) → AreKept rows → i < length rows → pair_number (get_or rows i no_row) < number → AreBelow number rows (i + 1)
AreBelow-more number rows i kept lt at k d h =
    let here : (d : ProfileRow) → pair_number (get_or rows i d) < number = λ d. subst (λ (x : ProfileRow). pair_number x < number) (get_or_default rows i no_row d lt) at in
    let r = RiseFrom-kept rows kept in
    let c = cases_lt k i in
    elim c [
      | inl less ↦ let b = rising-between 0 rows k i d r less lt in omega (arith, here d, b)
      | inr ge ↦ let e : k ≡ i = omega arith in subst (λ (n : ℕ). pair_number (get_or rows n d) < number) (sym e) (here d)
    ]

pub AreAbove-more : (number : ℕ) (rows : List ProfileRow) (i : ℕ) → AreKept rows → i < length rows → number < pair_number (get_or rows i no_row) → AreAbove number rows i
AreAbove-more number rows i kept lt at k d h within =
    let here : (d : ProfileRow) → number < pair_number (get_or rows i d) = λ d. subst (λ (x : ProfileRow). number < pair_number x) (get_or_default rows i no_row d lt) at in
    let r = RiseFrom-kept rows kept in
    let c = cases_lt i k in
    elim c [
      | inl less ↦ let b = rising-between 0 rows i k d r less within in omega (arith, here d, b)
      | inr ge ↦ let e : k ≡ i = omega arith in subst (λ (n : ℕ). number < pair_number (get_or rows n d)) (sym e) (here d)
    ]
