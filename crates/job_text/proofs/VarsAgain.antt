-- Variables, as they are printed, are read as the same.
use Rattle.std.proofs.Common.{◌≡◌, ℕ, true, false, List, [], ◌∷◌, ◌++◌, length, map, refl, ◌∙◌, subst, arith, append_assoc, append-nil}
use Rattle.std.specs.Prelude.{Ok, codes}
use Rattle.serde_json.specs.Data.{Data}
use Rattle.serde_json.specs.View.{items_of}
use Rattle.field_table.specs.declared.field_ref.FieldRef.{FieldRef}
use Rattle.field_table.specs.FieldText.{field_text}
use Rattle.job_values.proofs.FieldTexts.{field_spelled}
use Rattle.job_values.specs.declared.member.Member.TheVariants.{Vars, VarsName}
use Rattle.job_values.specs.Said.{◌>>=◌}
use Rattle.job_values.specs.Values.{needed, no_stray, object, each, items_length}
use Rattle.job_text.specs.Parts.{both_of, field_value, var_value}
use Rattle.job_table.specs.Limits.{Counts}
use Rattle.job_table.specs.Table.{Varied, var, vars, var_name, var_take, field, is_free, listed}
use Rattle.job_table.specs.Words.{is_among}
use Rattle.job_text.proofs.CapturedAgain.{new_named}
use Rattle.job_text.proofs.NewNames.{AllNew, all_new_more}
use Rattle.job_text.proofs.Said.{bound, counted, ok_same, kept}

-- so many of these
pub items_many : {A : Type 0} (value : A → Data) (xs : List A) → items_length (items_of (map value xs)) ≡ length xs
items_many value [] = refl
items_many value (x ∷ xs) = omega (arith, items_many value xs)

pub pairs_many : {A B : Type 0} (value : A → B → Data) (xs : List A) (ys : List B) → length ys ≡ length xs → items_length (items_of (both_of value xs ys)) ≡ length xs
pairs_many value [] ys e = refl
pairs_many value (x ∷ xs) [] e = absurd (omega (arith, e))
pairs_many value (x ∷ xs) (y ∷ ys) e = omega (arith, pairs_many value xs ys (omega (arith, e)))

-- ---- what was read

one_more : (s : Varied) (d : Data) (t : Varied) → AllNew is_free [] s.0 → var s d ≡ Ok t → AllNew is_free [] t.0
one_more (names, takes) d t all e =
    let one = bound (object Vars (length names) d) _ t e in
    let two = bound (no_stray Vars (length names) (codes "name" ∷ codes "take" ∷ []) one.0) _ t one.2 in
    let three = bound (var_name (length names) names d) _ t two.2 in
    let four = bound (var_take (length names) d) _ t three.2 in
    let five = bound (needed VarsName (length names) (codes "name") d) _ three.0 three.1 in
    let good = new_named VarsName (length names) is_free names five.0 three.0 five.2 in
    subst (λ (v : Varied). AllNew is_free [] v.0) (ok_same four.2) (all_new_more is_free [] names three.0 all good.0 good.1)

pub vars_kept : (d : Data) (v : Varied) → vars d ≡ Ok v → AllNew is_free [] v.0
vars_kept d v e =
    let one = bound (needed Vars 0 (codes "vars") d >>= listed Vars 0 1 16) (each var ([], [])) v e in
    kept (λ (s : Varied). AllNew is_free [] s.0) var one_more ([], []) one.0 v tt one.2

-- ---- what is printed

field_again : (i : ℕ) (earlier : List FieldRef) (f : FieldRef) → field i earlier (field_value f) ≡ Ok (earlier ++ f ∷ [])
field_again i earlier f = rw (field_spelled (field_text f) f refl) refl

fields_again : (i : ℕ) (earlier more : List FieldRef) → each (field i) earlier (items_of (map field_value more)) ≡ Ok (earlier ++ more)
fields_again i earlier [] = rw (append-nil earlier) refl
fields_again i earlier (f ∷ more) = rw (field_again i earlier f) (fields_again i (earlier ++ f ∷ []) more ∙ rw (append_assoc earlier (f ∷ []) more) refl)

take_again : (i : ℕ) (name : List ℕ) (take : List FieldRef) → Counts 1 4 take → var_take i (var_value name take) ≡ Ok take
take_again i name take count = rw (items_many field_value take, counted 1 4 (length take) count.0 count.1) (fields_again i [] take)

one_again : (names : List (List ℕ)) (takes : List (List FieldRef)) (name : List ℕ) (take : List FieldRef) → is_free name ≡ true → is_among names name ≡ false → Counts 1 4 take
    → var (names, takes) (var_value name take) ≡ Ok (names ++ name ∷ [], takes ++ take ∷ [])
one_again names takes name take good new count = rw (good, new, take_again (length names) name take count) refl

-- each is 1 to 4 fields
abbrev pub AllTakes : List (List FieldRef) → Type 0
AllTakes [] = Unit {0}
AllTakes (take ∷ takes) = Counts 1 4 take × AllTakes takes

pub vars_again : (names more : List (List ℕ)) (takes others : List (List FieldRef)) → AllNew is_free names more → AllTakes others → length others ≡ length more
    → each var (names, takes) (items_of (both_of var_value more others)) ≡ Ok (names ++ more, takes ++ others)
vars_again names [] takes [] all fs e = rw (append-nil names, append-nil takes) refl
vars_again names [] takes (o ∷ others) all fs e = absurd (omega (arith, e))
vars_again names (m ∷ more) takes [] all fs e = absurd (omega (arith, e))
vars_again names (m ∷ more) takes (o ∷ others) all fs e =
    rw (one_again names takes m o all.0 all.1 fs.0)
    (vars_again (names ++ m ∷ []) more (takes ++ o ∷ []) others all.2 fs.1 (omega (arith, e))
    ∙ rw (append_assoc names (m ∷ []) more, append_assoc takes (o ∷ []) others) refl)
