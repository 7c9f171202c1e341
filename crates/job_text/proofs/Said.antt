-- What is known where something was said without a fault.
use Rattle.std.proofs.Common.{◌≡◌, ℕ, ◌≤◌, Bool, true, false, refl, ap, subst}
use Rattle.std.specs.Prelude.{◌&&◌, nat_le, Option, Some, None, Ok, Err}
use Rattle.std.proofs.lemmas.Bool.{le-leb}
use Rattle.serde_json.specs.Data.{Data, Items, no_items, item}
use Rattle.job_values.specs.declared.fault.JobFault.{JobFault}
use Rattle.job_values.specs.declared.fault.JobWhat.{JobWhat}
use Rattle.job_values.specs.declared.member.Member.{Member}
use Rattle.job_values.specs.Said.{Said, ◌>>=◌, or_fault, only_if}
use Rattle.job_values.specs.Values.{each}

pub ok_same : {A : Type 0} {a b : A} → ◌≡◌ {A = Said A} (Ok a) (Ok b) → a ≡ b
ok_same e = cc

pub err_ok : {A B : Type 0} {f : JobFault} {b : A} → ◌≡◌ {A = Said A} (Err f) (Ok b) → B
err_ok e = cc

pub none_some : {A B : Type 0} {x : A} → None ≡ Some x → B
none_some e = cc

-- one thing, and then another
pub bound : {A B : Type 0} (m : Said A) (k : A → Said B) (b : B) → (m >>= k) ≡ Ok b → (a : A) × (m ≡ Ok a) × (k a ≡ Ok b)
bound (Ok a) k b e = (a, refl, e)
bound (Err f) k b e = err_ok e

pub given : {A : Type 0} (at : Member) (i : ℕ) (w : JobWhat) (o : Option A) (b : A) → or_fault at i w o ≡ Ok b → o ≡ Some b
given at i w (Some a) b e = ap Some (ok_same e)
given at i w None b e = err_ok e

pub tested : {A : Type 0} (at : Member) (i : ℕ) (w : JobWhat) (t : Bool) (a b : A) → only_if at i w t a ≡ Ok b → (t ≡ true) × (a ≡ b)
tested at i w true a b e = (refl, ok_same e)
tested at i w false a b e = err_ok e

-- what every element keeps stands behind the last
pub kept : {S : Type 0} (I : S → Type 0) (step : S → Data → Said S) → ((s : S) (d : Data) (t : S) → I s → step s d ≡ Ok t → I t)
    → (before : S) (ds : Items) (after : S) → I before → each step before ds ≡ Ok after → I after
kept I step keeps before no_items after i e = subst I (ok_same e) i
kept I step keeps before (item d ds) after i e =
    let one = bound (step before d) (λ more. each step more ds) after e in
    kept I step keeps one.0 ds after (keeps before d one.0 i one.1) one.2

-- ---- a number in its limits

both_true : (a b : Bool) → a ≡ true → b ≡ true → (a && b) ≡ true
both_true true b e f = f
both_true false b e f = e

pub counted : (least most n : ℕ) → least ≤ n → n ≤ most → (nat_le least n && nat_le n most) ≡ true
counted least most n low high = both_true _ _ (le-leb least n low) (le-leb n most high)
