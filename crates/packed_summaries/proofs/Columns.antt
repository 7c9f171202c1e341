-- The columns of a row.
use Rattle.std.proofs.Common.{ℕ, Bool, true, false, List, [], ◌∷◌, ◌++◌, ◌≡◌, ◌<◌, ◌≤◌, ◌+◌, ◌*◌, ◌∙◌, zero, suc, refl, ap, sym, subst, arith, length, get_or}
use Rattle.std.specs.Prelude.{Some, slice_get}
use Rattle.std.proofs.lemmas.Option.{none-some, same_Some, slice_get_read}
use Rattle.std.proofs.lemmas.List.{length_push}
use Rattle.packed_summaries.specs.declared.packing.Column.{Column}
use Rattle.packed_summaries.specs.Packing.{words_for, words_in, row_len, columns_from, columns_of, widths, IsLaidOut}

-- a column that begins there
abbrev pub column_from : (start : ℕ) → (wide : Bool) → Column
column_from start w = record { start = start; wide = w }

-- the columns of variables are as wide as these
pub widths-columns : (start : ℕ) (ws : List Bool) → widths (columns_from start ws) ≡ ws
widths-columns start [] = refl
widths-columns start (w ∷ ws) = ap (λ (vs : List Bool). w ∷ vs) (widths-columns (start + words_for w) ws)

-- there are as many columns as variables
pub count_columns : (start : ℕ) (ws : List Bool) → length (columns_from start ws) ≡ length ws
count_columns start [] = refl
count_columns start (w ∷ ws) = ap suc (count_columns (start + words_for w) ws)

-- a further column begins behind the others
pub columns_more : (start : ℕ) (ws : List Bool) (w : Bool)
    → columns_from start (ws ++ w ∷ []) ≡ columns_from start ws ++ record { start = start + words_in ws; wide = w } ∷ []
columns_more start [] w =
    let same : start ≡ start + 0 = omega arith in
    ap (λ (n : ℕ). column_from n w ∷ []) same
columns_more start (v ∷ ws) w =
    let same : start + words_for v + words_in ws ≡ start + (words_for v + words_in ws) = omega arith in
    ap (λ (cs : List Column). column_from start v ∷ cs)
    (columns_more (start + words_for v) ws w
    ∙ ap (λ (n : ℕ). columns_from (start + words_for v) ws ++ column_from n w ∷ []) same)

-- the words of one variable more
pub words_more : (ws : List Bool) (w : Bool) → words_in (ws ++ w ∷ []) ≡ words_in ws + words_for w
words_more [] w = omega arith
words_more (v ∷ ws) w = let more = words_more ws w in omega arith

pub few_for : (w : Bool) → words_for w ≤ 2
few_for false = omega arith
few_for true = omega arith

pub few_words : (ws : List Bool) → words_in ws ≤ 2 * length ws
few_words [] = omega arith
few_words (false ∷ ws) = let few = few_words ws in omega arith
few_words (true ∷ ws) = let few = few_words ws in omega arith

-- a column ends before the row does, and is as wide as its variable
pub column_within : (start : ℕ) (ws : List Bool) (v : ℕ) (c : Column) → slice_get (columns_from start ws) v ≡ Some c
    → (c.start + words_for c.wide ≤ start + words_in ws) × (slice_get ws v ≡ Some c.wide)
column_within start [] v c at = absurd (none-some c at)
column_within start (w ∷ ws) zero c at =
    subst (λ (d : Column). (d.start + words_for d.wide ≤ start + (words_for w + words_in ws)) × (Some w ≡ Some d.wide))
    (same_Some (column_from start w) c at) (omega arith, refl)
column_within start (w ∷ ws) (suc v) c at =
    let h = column_within (start + words_for w) ws v c at in (omega (arith, h.0), h.1)

-- how many columns there are, by their widths
pub count_widths : (columns : List Column) → length (widths columns) ≡ length columns
count_widths [] = refl
count_widths (c ∷ cs) = ap suc (count_widths cs)

pub widths_more : (columns : List Column) (c : Column) → widths (columns ++ c ∷ []) ≡ widths columns ++ c.wide ∷ []
widths_more [] c = refl
widths_more (d ∷ ds) c = ap (λ (ws : List Bool). d.wide ∷ ws) (widths_more ds c)

-- one column more, which begins where the row ended
pub laid_more : (columns after : List Column) (stride longer : ℕ) (key : List ℕ) (w : Bool) → IsLaidOut columns stride key → length columns < 16
    → after ≡ columns ++ record { start = stride; wide = w } ∷ [] → longer ≡ stride + words_for w → IsLaidOut after longer key
laid_more columns after stride longer key w laid some put more =
    let c : Column = record { start = stride; wide = w } in
    let ws : List Bool = widths columns in
    let wider : widths after ≡ ws ++ w ∷ [] = ap widths put ∙ widths_more columns c in
    let long : length after ≡ length columns + 1 = ap length put ∙ length_push columns c in
    record {
      few = omega arith;
      placed = put ∙ ap (λ (cs : List Column). cs ++ c ∷ []) laid.placed
          ∙ ap (λ (n : ℕ). columns_of ws ++ column_from n w ∷ []) laid.whole
          ∙ sym (ap columns_of wider ∙ columns_more 2 ws w);
      whole = more ∙ ap (λ (n : ℕ). n + words_for w) laid.whole
          ∙ (let e = words_more ws w in let f : row_len ws + words_for w ≡ row_len (ws ++ w ∷ []) = omega arith in f)
          ∙ ap row_len (sym wider);
      short = laid.short;
      known = λ i d within. let below : get_or key i d < length columns = laid.known i d within in omega arith;
    }

-- a column as it is read
pub column_at : (columns : List Column) (stride : ℕ) (key : List ℕ) (v : ℕ) (c : Column) → IsLaidOut columns stride key
    → v < length (widths columns) → c ≡ get_or columns v c
    → (c.start + words_for c.wide ≤ row_len (widths columns)) × (slice_get (widths columns) v ≡ Some c.wide)
column_at columns stride key v c laid within read =
    let at : slice_get columns v ≡ Some c = slice_get_read columns (length columns) v c refl (omega (arith, count_widths columns)) read in
    column_within 2 (widths columns) v c (ap (λ (cs : List Column). slice_get cs v) (sym laid.placed) ∙ at)
