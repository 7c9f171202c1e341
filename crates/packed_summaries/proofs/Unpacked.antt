-- The summaries of a packed list, by the words of its rows.
use Rattle.std.proofs.Common.{ℕ, Bool, List, [], ◌∷◌, ◌++◌, ◌≡◌, ◌≤◌, ◌+◌, ◌*◌, ◌∙◌, refl, ap, sym, subst, length, map, drop, append_assoc, add-one}
use Rattle.std.specs.Prelude.{Some, slice_get, option_map}
use Rattle.std.specs.Ordering.{nat_cmp, ordering_then}
use Rattle.std.specs.Cmp.Lexicographic.{slice_cmp}
use Rattle.std.specs.declared.cmp.Ordering.{Ordering}
use Rattle.std.specs.declared.cmp.Ordering.TheVariants.{Less, Equal, Greater}
use Rattle.std.proofs.Math.Nat.{suc-mul}
use Rattle.std.proofs.lemmas.List.{length-map, map-append, length-append, append-nil, drop_all}
use Rattle.std.proofs.lemmas.Option.{slice_get-map, get_or_from_slice_get}
use Rattle.ds_base.specs.Keys.{key_of}
use Rattle.ds_base.specs.declared.summary.Summary.{Summary}
use Rattle.ds_base.proofs.Places.{drop_at}
use Rattle.packed_summaries.specs.declared.packing.Column.{Column}
use Rattle.packed_summaries.specs.Packing.{Shape, row_len, columns_of}
use Rattle.packed_summaries.specs.Packed.{Packed, AreRows, summaries_in}
use Rattle.packed_summaries.specs.Rows.{Fits, row_of, rows, value_in, values_in, summary_in}
use Rattle.packed_summaries.proofs.Stacked.{count_rows, rows_more}
use Rattle.packed_summaries.proofs.Words.{count_row, summary_back}

-- ---- the list

-- what is seen of rows
abbrev pub seen : Shape → (count : ℕ) → (words : List ℕ) → Packed
seen shape count words = record { shape = shape; items = summaries_in shape count words }

pub count_summaries : (shape : Shape) (count : ℕ) (words : List ℕ) → length (summaries_in shape count words) ≡ count
count_summaries shape count words =
    length-map (rows (row_len shape.wide) count words) (summary_in shape) ∙ count_rows (row_len shape.wide) count words

pub count_seen : (p : Packed) (shape : Shape) (count : ℕ) (words : List ℕ) → seen shape count words ≡ p → count ≡ length p.items
count_seen p shape count words is =
    sym (count_summaries shape count words) ∙ ap (λ (q : Packed). length q.items) is

-- the summary of a row
pub summary_there : (p : Packed) (shape : Shape) (stride count : ℕ) (words xs : List ℕ) (i : ℕ) (row : List ℕ) → seen shape count words ≡ p
    → stride ≡ row_len shape.wide → xs ≡ words → slice_get (rows stride count xs) i ≡ Some row
    → slice_get p.items i ≡ Some (summary_in shape row)
summary_there p shape stride count words xs i row is wide same at =
    let there : slice_get (rows (row_len shape.wide) count words) i ≡ Some row =
    subst (λ (n : ℕ). slice_get (rows n count words) i ≡ Some row) wide
    (subst (λ (ys : List ℕ). slice_get (rows stride count ys) i ≡ Some row) same at) in
    ap (λ (q : Packed). slice_get q.items i) (sym is)
    ∙ slice_get-map (summary_in shape) (rows (row_len shape.wide) count words) i
    ∙ ap (option_map (summary_in shape)) there

-- one summary more
pub summaries_more : (shape : Shape) (count : ℕ) (words after : List ℕ) (s : Summary) → AreRows shape count words → Fits shape s
    → after ≡ words ++ row_of shape s → summaries_in shape (count + 1) after ≡ summaries_in shape count words ++ s ∷ []
summaries_more shape count words after s whole fits put =
    ap (λ (xs : List ℕ). summaries_in shape (count + 1) xs) put
    ∙ ap (λ (n : ℕ). summaries_in shape n (words ++ row_of shape s)) (add-one count)
    ∙ ap (map (summary_in shape)) (rows_more (row_len shape.wide) count words (row_of shape s) whole (count_row shape s fits))
    ∙ map-append (summary_in shape) (rows (row_len shape.wide) count words) (row_of shape s ∷ [])
    ∙ ap (λ (x : Summary). summaries_in shape count words ++ x ∷ []) (summary_back shape s fits)

pub rows_stay : (shape : Shape) (count : ℕ) (words after : List ℕ) (s : Summary) → AreRows shape count words → Fits shape s
    → after ≡ words ++ row_of shape s → AreRows shape (count + 1) after
rows_stay shape count words after s whole fits put =
    one_more (row_len shape.wide) count (length words) (length after) whole
    (ap length put ∙ length-append words (row_of shape s) ∙ ap (λ (n : ℕ). length words + n) (count_row shape s fits))
  where
    one_more : (r k n m : ℕ) → n ≡ k * r → m ≡ n + r → m ≡ (k + 1) * r
    one_more r k n m h g = g ∙ ap (λ (x : ℕ). x + r) h ∙ sym (ap (λ (x : ℕ). x * r) (add-one k) ∙ suc-mul k r)

-- ---- one after another

-- one value more, and those that are left
pub mapped_more : {X : Type 0} (f : X → ℕ) (xs : List X) (i : ℕ) (x : X) (n : ℕ) (done after all : List ℕ) → slice_get xs i ≡ Some x → n ≡ f x
    → after ≡ done ++ n ∷ [] → all ≡ done ++ map f (drop i xs) → all ≡ after ++ map f (drop (i + 1) xs)
mapped_more f xs i x n done after all at is put whole =
    whole ∙ ap (λ ys. done ++ map f ys) (drop_at xs i x at)
    ∙ ap (λ (m : ℕ). done ++ m ∷ map f (drop (i + 1) xs)) (sym is)
    ∙ sym (append_assoc done (n ∷ []) (map f (drop (i + 1) xs)))
    ∙ ap (λ (ys : List ℕ). ys ++ map f (drop (i + 1) xs)) (sym put)

-- none is left
pub mapped_all : {X : Type 0} (f : X → ℕ) (xs : List X) (i : ℕ) (done all : List ℕ) → length xs ≤ i → all ≡ done ++ map f (drop i xs) → done ≡ all
mapped_all f xs i done all long whole =
    sym (whole ∙ ap (λ ys. done ++ map f ys) (drop_all i xs long) ∙ append-nil done)

-- ---- the order of keys

-- the value of a variable of a row
pub value_there : (wide : List Bool) (row : List ℕ) (v : ℕ) (c : Column) (n : ℕ) → slice_get (columns_of wide) v ≡ Some c → n ≡ value_in row c
    → slice_get (values_in wide row) v ≡ Some n
value_there wide row v c n at is =
    slice_get-map (value_in row) (columns_of wide) v ∙ ap (option_map (value_in row)) at ∙ ap (λ (m : ℕ). Some m) (sym is)

-- the key's values from variable k on, of which the first is n
pub key_left : (key vals : List ℕ) (k v n : ℕ) → slice_get key k ≡ Some v → slice_get vals v ≡ Some n
    → key_of (drop k key) vals ≡ n ∷ key_of (drop (k + 1) key) vals
key_left key vals k v n at there =
    ap (λ (vs : List ℕ). key_of vs vals) (drop_at key k v at)
    ∙ ap (λ (m : ℕ). m ∷ key_of (drop (k + 1) key) vals) (get_or_from_slice_get vals v n 0 there)

-- what is left of two keys is compared by its first numbers, and then by what is left behind them
pub order_left : (key us vs : List ℕ) (k v m n : ℕ) → slice_get key k ≡ Some v → slice_get us v ≡ Some m → slice_get vs v ≡ Some n
    → slice_cmp nat_cmp (key_of (drop k key) us) (key_of (drop k key) vs)
    ≡ ordering_then (nat_cmp m n) (slice_cmp nat_cmp (key_of (drop (k + 1) key) us) (key_of (drop (k + 1) key) vs))
order_left key us vs k v m n at first second =
    ap (λ (xs : List ℕ). slice_cmp nat_cmp xs (key_of (drop k key) vs)) (key_left key us k v m at first)
    ∙ ap (λ (xs : List ℕ). slice_cmp nat_cmp (m ∷ key_of (drop (k + 1) key) us) xs) (key_left key vs k v n at second)

-- where the first numbers differ they decide
pub then_other : (r rest : Ordering) → (r ≡ Equal → ⊥) → ordering_then r rest ≡ r
then_other Less rest h = refl
then_other Equal rest h = absurd (h refl)
then_other Greater rest h = refl

pub order_all : (key us vs : List ℕ) (k : ℕ) → length key ≤ k → slice_cmp nat_cmp (key_of (drop k key) us) (key_of (drop k key) vs) ≡ Equal
order_all key us vs k long = ap (λ (ks : List ℕ). slice_cmp nat_cmp (key_of ks us) (key_of ks vs)) (drop_all k key long)
