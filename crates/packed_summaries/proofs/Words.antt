-- A summary is what its row says.
use Rattle.std.proofs.Common.{ℕ, Bool, true, false, List, [], ◌∷◌, ◌++◌, ◌≡◌, ◌≤◌, ◌+◌, ◌*◌, ◌/◌, ◌%◌, ◌^◌, ◌∙◌, suc, refl, ap, sym, subst, arith, length, map, drop, get_or, append_assoc}
use Rattle.std.specs.Prelude.{Some, slice_get}
use Rattle.std.proofs.lemmas.List.{get_or_at, length-append, drop_all}
use Rattle.std.proofs.lemmas.Nat.{div-add-mod', div-mul-add, mod-mul-add}
use Rattle.ds_base.specs.Keys.{key_of}
use Rattle.ds_base.specs.declared.stamp.Stamp.{Stamp}
use Rattle.ds_base.specs.declared.summary.Summary.{Summary}
use Rattle.ds_base.proofs.Places.{drop_at}
use Rattle.packed_summaries.specs.Packing.{Shape, words_for, words_in, row_len, columns_from}
use Rattle.packed_summaries.specs.Rows.{value_words, values_words, place_word, row_of, HasWidth, HaveWidths, Fits, stamp_in, value_in, values_in, summary_in}

-- ---- values

pub count_value : (w : Bool) (n : ℕ) → length (value_words w n) ≡ words_for w
count_value false n = refl
count_value true n = refl

pub as_many : (ws : List Bool) (ns : List ℕ) → HaveWidths ws ns → length ns ≡ length ws
as_many [] [] h = refl
as_many [] (n ∷ ns) h = absurd h
as_many (w ∷ ws) [] h = absurd h
as_many (w ∷ ws) (n ∷ ns) h = ap suc (as_many ws ns h.1)

pub count_words : (ws : List Bool) (ns : List ℕ) → HaveWidths ws ns → length (values_words ws ns) ≡ words_in ws
count_words [] [] h = refl
count_words [] (n ∷ ns) h = absurd h
count_words (w ∷ ws) [] h = absurd h
count_words (w ∷ ws) (n ∷ ns) h =
    omega (arith, length-append (value_words w n) (values_words ws ns), count_value w n, count_words ws ns h.1)

-- two numbers are one number by its quotient and its remainder
joined : (n m : ℕ) (low high : ℕ) → low ≡ n % m → high ≡ n / m → high * m + low ≡ n
joined n m low high l h = ap (λ (q : ℕ). q * m + low) h ∙ ap (λ (r : ℕ). n / m * m + r) l ∙ div-add-mod' n m

-- the second of two words behind others
second_at : (front rest : List ℕ) (a b : ℕ) (start : ℕ) → length front ≡ start → get_or (front ++ a ∷ b ∷ rest) (start + 1) 0 ≡ b
second_at front rest a b start long =
    let behind : length (front ++ a ∷ []) ≡ start + 1 = omega (arith, length-append front (a ∷ [])) in
    ap (λ (xs : List ℕ). get_or xs (start + 1) 0) (sym (append_assoc front (a ∷ []) (b ∷ rest)))
    ∙ get_or_at (front ++ a ∷ []) b rest 0 (start + 1) behind

-- the values are what their words say, wherever these begin
pub values_back : (front : List ℕ) (start : ℕ) (ws : List Bool) (ns : List ℕ) → length front ≡ start → HaveWidths ws ns
    → map (value_in (front ++ values_words ws ns)) (columns_from start ws) ≡ ns
values_back front start [] [] long h = refl
values_back front start [] (n ∷ ns) long h = absurd h
values_back front start (w ∷ ws) [] long h = absurd h
values_back front start (false ∷ ws) (n ∷ ns) long h =
    let rest : List ℕ = values_words ws ns in
    let here : get_or (front ++ n ∷ rest) start 0 ≡ n = get_or_at front n rest 0 start long in
    let behind : length (front ++ n ∷ []) ≡ start + 1 = omega (arith, length-append front (n ∷ [])) in
    let later : map (value_in (front ++ n ∷ rest)) (columns_from (start + 1) ws) ≡ ns =
    subst (λ (xs : List ℕ). map (value_in xs) (columns_from (start + 1) ws) ≡ ns) (append_assoc front (n ∷ []) rest)
    (values_back (front ++ n ∷ []) (start + 1) ws ns behind h.1) in
    ap (λ (x : ℕ). x ∷ map (value_in (front ++ n ∷ rest)) (columns_from (start + 1) ws)) here
    ∙ ap (λ (xs : List ℕ). n ∷ xs) later
values_back front start (true ∷ ws) (n ∷ ns) long h =
    let rest : List ℕ = values_words ws ns in
    let low : ℕ = n % 2 ^ 64 in
    let high : ℕ = n / 2 ^ 64 in
    let all : List ℕ = front ++ low ∷ high ∷ rest in
    let here : get_or all (start + 1) 0 * 2 ^ 64 + get_or all start 0 ≡ n =
    joined n (2 ^ 64) (get_or all start 0) (get_or all (start + 1) 0) (get_or_at front low (high ∷ rest) 0 start long)
    (second_at front rest low high start long) in
    let behind : length (front ++ low ∷ high ∷ []) ≡ start + 2 = omega (arith, length-append front (low ∷ high ∷ [])) in
    let later : map (value_in all) (columns_from (start + 2) ws) ≡ ns =
    subst (λ (xs : List ℕ). map (value_in xs) (columns_from (start + 2) ws) ≡ ns) (append_assoc front (low ∷ high ∷ []) rest)
    (values_back (front ++ low ∷ high ∷ []) (start + 2) ws ns behind h.1) in
    ap (λ (x : ℕ). x ∷ map (value_in all) (columns_from (start + 2) ws)) here ∙ ap (λ (xs : List ℕ). n ∷ xs) later

-- ---- summaries

stamp_parts : (at : Stamp) (time capture number : ℕ) → time ≡ at.time → capture ≡ at.capture → number ≡ at.number
    → record { time = time; capture = capture; number = number } ≡ at
stamp_parts at time capture number t c n = λ i. record { time = t i; capture = c i; number = n i }

summary_parts : (s : Summary) (at : Stamp) (key vals : List ℕ) → at ≡ s.at → key ≡ s.key → vals ≡ s.vals
    → record { at = at; key = key; vals = vals } ≡ s
summary_parts s at key vals a k v = λ i. record { at = a i; key = k i; vals = v i }

pub count_row : (shape : Shape) (s : Summary) → Fits shape s → length (row_of shape s) ≡ row_len shape.wide
count_row shape s fits = omega (arith, count_words shape.wide s.vals fits.values)

-- a summary that fits is what its row says
pub summary_back : (shape : Shape) (s : Summary) → Fits shape s → summary_in shape (row_of shape s) ≡ s
summary_back shape s fits =
    let vals : values_in shape.wide (row_of shape s) ≡ s.vals =
    values_back (s.at.time ∷ place_word s.at ∷ []) 2 shape.wide s.vals refl fits.values in
    let at : stamp_in (row_of shape s) ≡ s.at =
    stamp_parts s.at s.at.time (place_word s.at / 2 ^ 40) (place_word s.at % 2 ^ 40) refl
    (div-mul-add s.at.capture (2 ^ 40) s.at.number fits.number) (mod-mul-add s.at.capture (2 ^ 40) s.at.number fits.number) in
    summary_parts s (stamp_in (row_of shape s)) (key_of shape.key (values_in shape.wide (row_of shape s))) (values_in shape.wide (row_of shape s))
    at (ap (key_of shape.key) vals ∙ sym fits.key) vals

-- ---- one value after another

-- a further value is put
pub value_put : (ws : List Bool) (ns : List ℕ) (i : ℕ) (w : Bool) (n : ℕ) → slice_get ws i ≡ Some w → slice_get ns i ≡ Some n
    → values_words (drop i ws) (drop i ns) ≡ value_words w n ++ values_words (drop (i + 1) ws) (drop (i + 1) ns)
value_put ws ns i w n at_w at_n =
    ap (λ (vs : List Bool). values_words vs (drop i ns)) (drop_at ws i w at_w)
    ∙ ap (λ (ms : List ℕ). values_words (w ∷ drop (i + 1) ws) ms) (drop_at ns i n at_n)

pub value_fits : (ws : List Bool) (ns : List ℕ) (i : ℕ) (w : Bool) (n : ℕ) → slice_get ws i ≡ Some w → slice_get ns i ≡ Some n
    → HaveWidths (drop i ws) (drop i ns) → HasWidth w n × HaveWidths (drop (i + 1) ws) (drop (i + 1) ns)
value_fits ws ns i w n at_w at_n h =
    subst (λ (ms : List ℕ). HaveWidths (w ∷ drop (i + 1) ws) ms) (drop_at ns i n at_n)
    (subst (λ (vs : List Bool). HaveWidths vs (drop i ns)) (drop_at ws i w at_w) h)

pub value_kept : (ws : List Bool) (ns : List ℕ) (i : ℕ) (w : Bool) (n : ℕ) → slice_get ws i ≡ Some w → slice_get ns i ≡ Some n
    → HasWidth w n → HaveWidths (drop (i + 1) ws) (drop (i + 1) ns) → HaveWidths (drop i ws) (drop i ns)
value_kept ws ns i w n at_w at_n here rest =
    subst (λ (vs : List Bool). HaveWidths vs (drop i ns)) (sym (drop_at ws i w at_w))
    (subst (λ (ms : List ℕ). HaveWidths (w ∷ drop (i + 1) ws) ms) (sym (drop_at ns i n at_n)) (here, rest))

-- none is left
pub none_left : (ws : List Bool) (ns : List ℕ) (i : ℕ) → length ws ≤ i → length ns ≤ i → HaveWidths (drop i ws) (drop i ns)
none_left ws ns i long_w long_n =
    subst (λ (vs : List Bool). HaveWidths vs (drop i ns)) (sym (drop_all i ws long_w))
    (subst (λ (ms : List ℕ). HaveWidths [] ms) (sym (drop_all i ns long_n)) tt)

pub words_left : (ws : List Bool) (i : ℕ) (w : Bool) → slice_get ws i ≡ Some w
    → words_in (drop i ws) ≡ words_for w + words_in (drop (i + 1) ws)
words_left ws i w at = ap words_in (drop_at ws i w at)

-- what was put, with one piece more and with those that are left
pub put_more : (before piece rest after whole : List ℕ) (left : List ℕ) → left ≡ piece ++ rest → before ++ left ≡ whole → after ≡ before ++ piece
    → after ++ rest ≡ whole
put_more before piece rest after whole left parts all put =
    ap (λ (xs : List ℕ). xs ++ rest) put ∙ append_assoc before piece rest ∙ ap (λ (xs : List ℕ). before ++ xs) (sym parts) ∙ all
