-- What an accepted summary is of, and that the numbers of those before it are lower.
use Rattle.std.proofs.Common.{ℕ, suc, List, [], ◌∷◌, ◌++◌, ◌≡◌, ◌<◌, ◌+◌, Bool, true, false, Option, Some, None, length, refl, sym, ap, subst, ◌∙◌, arith}
use Rattle.std.specs.Prelude.{if◌then◌else◌, option_map, option_and_then, option_to_list}
use Rattle.std.specs.List.{AllByRecursion}
use Rattle.ds_base.specs.Fronts.{IsIn}
use Rattle.ds_base.specs.Keys.{key_of}
use Rattle.ds_base.specs.declared.summary.Summary.{Summary}
use Rattle.field_table.specs.declared.field_ref.FieldRef.{FieldRef}
use Rattle.header_stack.specs.Layer.{Layer}
use Rattle.header_stack.specs.Stack.{stack_of}
use Rattle.key_select.specs.Fates.{Fate, fate_by, fate_of, fates_after, summaries_of, accepted_after}
use Rattle.key_select.specs.Late.{comes_late}
use Rattle.key_select.specs.Sum.{summary_with, passes, values_of, first_defined, sum_of}
use Rattle.key_select.specs.Times.{record_time}
use Rattle.key_select.proofs.Tallying.{summaries_of-append}
use Rattle.pcap_reader.specs.Captured.{Captured}
use Rattle.pcap_reader.specs.Lent.{AreFirst}
use Rattle.pcap_reader.specs.Numbering.{NumberedFrom}
use Rattle.pcap_reader.proofs.Numbers.{good_numbered}
use Rattle.summary_spec.specs.Declaration.{Declared}
use Rattle.run_law.proofs.Lists.{all_in}

-- the summary is of this record of the capture
pub record IsSummaryOf (job : Declared) (c : ℕ) (r : Captured) (s : Summary) : Type 0 where
  pub time : s.at.time ≡ record_time job c r
  pub capture : s.at.capture ≡ c
  pub number : s.at.number ≡ r.number
  pub values : length s.vals ≡ length job.takes
  pub key : s.key ≡ key_of job.key s.vals

-- ---- one record

-- if there are values, there are so many
abbrev AreSoMany : (vars : ℕ) → Option (List ℕ) → Type 0
AreSoMany vars None = Unit {0}
AreSoMany vars (Some vs) = length vs ≡ vars

one_more_value : (vars : ℕ) (first : Option ℕ) (others : Option (List ℕ)) → AreSoMany vars others
    → AreSoMany (suc vars) (option_and_then (λ n. option_map (λ ns. n ∷ ns) others) first)
one_more_value vars None others h = tt
one_more_value vars (Some n) None h = tt
one_more_value vars (Some n) (Some ns) h = ap suc h

many_values : (takes : List (List FieldRef)) (layers : List Layer) → AreSoMany (length takes) (values_of takes layers)
many_values [] layers = refl
many_values (alternatives ∷ takes) layers =
    one_more_value (length takes) (first_defined alternatives layers) (values_of takes layers) (many_values takes layers)

abbrev AllOf : (Summary → Type 0) → Option Summary → Type 0
AllOf P found = AllByRecursion P (option_to_list found)

where_passed : (P : Summary → Type 0) (s : Summary) (wanted : Bool) → P s → AllOf P (if wanted then Some s else None)
where_passed P s true h = (h, tt)
where_passed P s false h = tt

with_values : (job : Declared) (c : ℕ) (r : Captured) (vals : Option (List ℕ)) → AreSoMany (length job.takes) vals
    → AllOf (IsSummaryOf job c r) (option_and_then (λ vs. let s = summary_with job c (record_time job c r) r vs in if passes job s then Some s else None) vals)
with_values job c r None many = tt
with_values job c r (Some vs) many =
    where_passed (IsSummaryOf job c r) (summary_with job c (record_time job c r) r vs) (passes job (summary_with job c (record_time job c r) r vs))
    (record { time = refl; capture = refl; number = refl; values = many; key = refl })

sum_is : (job : Declared) (c : ℕ) (r : Captured) → AllOf (IsSummaryOf job c r) (sum_of job c r)
sum_is job c r =
    let layers : List Layer = stack_of r.link job.port r.bytes in
    with_values job c r (values_of job.takes layers) (many_values job.takes layers)

fated : (P : Summary → Type 0) (o : Option Summary) (late : Bool) → AllOf P o → AllByRecursion P (summaries_of (fate_by o late ∷ []))
fated P None late h = tt
fated P (Some s) true h = tt
fated P (Some s) false h = h

-- what is accepted of one record
pub accepted_one : (job : Declared) (c : ℕ) (earlier : List Captured) (r : Captured) → AllByRecursion (IsSummaryOf job c r) (accepted_after job c earlier (r ∷ []))
accepted_one job c earlier r = fated (IsSummaryOf job c r) (sum_of job c r) (comes_late job c earlier r) (sum_is job c r)

-- ---- all records

both : {X : Type 0} (P : X → Type 0) (xs ys : List X) → AllByRecursion P xs → AllByRecursion P ys → AllByRecursion P (xs ++ ys)
both P [] ys h k = k
both P (x ∷ xs) ys h k = (h.0, both P xs ys h.1 k)

weaker : {X : Type 0} (P Q : X → Type 0) (xs : List X) → ((x : X) → P x → Q x) → AllByRecursion P xs → AllByRecursion Q xs
weaker P Q [] f h = tt
weaker P Q (x ∷ xs) f h = (f x h.0, weaker P Q xs f h.1)

abbrev IsBelow : ℕ → Summary → Type 0
IsBelow n s = s.at.number < n

-- the numbers of what is accepted of records that are numbered from n on
accepted_below : (job : Declared) (c : ℕ) (earlier rs : List Captured) (n : ℕ) → NumberedFrom n rs → AllByRecursion (IsBelow (n + length rs)) (accepted_after job c earlier rs)
accepted_below job c earlier [] n h = tt
accepted_below job c earlier (r ∷ rs) n h =
    let later : List Fate = fates_after job c (earlier ++ r ∷ []) rs in
    let most : ℕ = n + length (r ∷ rs) in
    let first : AllByRecursion (IsBelow most) (accepted_after job c earlier (r ∷ [])) =
    weaker (IsSummaryOf job c r) (IsBelow most) (accepted_after job c earlier (r ∷ [])) (λ s is. omega (arith, is.number, h.0)) (accepted_one job c earlier r) in
    let rest : AllByRecursion (IsBelow most) (summaries_of later) =
    weaker (IsBelow (suc n + length rs)) (IsBelow most) (summaries_of later) (λ s less. omega (arith, less)) (accepted_below job c (earlier ++ r ∷ []) rs (suc n) h.1) in
    subst (AllByRecursion (IsBelow most)) (sym (summaries_of-append (fate_of job c earlier r ∷ []) later))
    (both (IsBelow most) (accepted_after job c earlier (r ∷ [])) (summaries_of later) first rest)

-- ---- the numbers of the first records of a file

numbered_front : (n : ℕ) (xs ys : List Captured) → NumberedFrom n (xs ++ ys) → NumberedFrom n xs
numbered_front n [] ys h = tt
numbered_front n (x ∷ xs) ys h = (h.0, numbered_front (suc n) xs ys h.1)

numbered_at : (n : ℕ) (xs ys : List Captured) (x : Captured) → NumberedFrom n (xs ++ x ∷ ys) → x.number ≡ n + length xs
numbered_at n [] ys x h = h.0 ∙ (let e : n ≡ n + 0 = omega arith in e)
numbered_at n (y ∷ xs) ys x h = let e : x.number ≡ suc n + length xs = numbered_at (suc n) xs ys x h.1 in e ∙ omega arith

first_numbered : (wanted : Option ℕ) (bytes : List ℕ) (given : List Captured) → AreFirst wanted bytes given → NumberedFrom 0 given
first_numbered wanted bytes given first =
    let f = first [] in
    numbered_front 0 given f.0 (subst (NumberedFrom 0) f.1 (good_numbered wanted (bytes ++ [])))

-- the record that comes behind others has their number as its own
pub number_of_next : (wanted : Option ℕ) (bytes : List ℕ) (given : List Captured) (r : Captured) → AreFirst wanted bytes (given ++ r ∷ []) → r.number ≡ length given
number_of_next wanted bytes given r first = numbered_at 0 given [] r (first_numbered wanted bytes (given ++ r ∷ []) first) ∙ omega arith

-- what was accepted before it has lower numbers
pub lower_numbers : (job : Declared) (c : ℕ) (wanted : Option ℕ) (bytes : List ℕ) (given : List Captured) (t : Summary) → AreFirst wanted bytes given
    → IsIn t (accepted_after job c [] given) → t.at.number < length given
lower_numbers job c wanted bytes given t first there =
    let below = all_in (IsBelow (0 + length given)) t (accepted_after job c [] given) (accepted_below job c [] given 0 (first_numbered wanted bytes given first)) there in
    omega (arith, below)
