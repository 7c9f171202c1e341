-- Offsets, skews and interfaces of captures, as they are printed, are read as the same; in version 1 there are none,
-- and in version 2 no interfaces.
use Rattle.std.proofs.Common.{◌≡◌, ℕ, suc, ◌^◌, ◌≤◌, Bool, true, false, cond, not, Ordering, Less, Equal, Greater, List, refl, sym, ap, ◌∙◌, subst, arith}
use Rattle.std.specs.Prelude.{◌||◌, ℤ, pos, negsuc, unsigned_abs, bytes_eq, Option, Some, None, Ok, codes, ⊤}
use Rattle.std.specs.Ordering.{is_eq, match_ordering, nat_cmp}
use Rattle.std.specs.Cmp.Lexicographic.{slice_cmp}
use Rattle.std.proofs.lemmas.Bool.{lt-ltb}
use Rattle.std.proofs.lemmas.Map.Text.{is_eq-slice_cmp}
use Rattle.std.proofs.lemmas.Slice.Eq.{bytes_eq-Decides}
use Rattle.serde_json.specs.Data.{Data, null, boolean, unsigned, number, string, array, object, Members, no_members, member}
use Rattle.serde_json.specs.Find.{get, get_member, as_object, of_integer}
use Rattle.job_values.specs.declared.member.Member.TheVariants.{Captures}
use Rattle.job_values.specs.declared.fault.JobWhat.TheVariants.{WrongKind, Stray}
use Rattle.job_values.specs.Values.{no_stray, has_stray, is_one_of, otherwise}
use Rattle.job_values.specs.Values as values
use Rattle.job_table.specs.Limits.{longest, last_interface}
use Rattle.job_table.specs.Table.{offset_value, capture_offset, skew_value, capture_skew, interface_value, capture_interface, capture_members}
use Rattle.job_text.proofs.Said.{given, tested, counted, ok_same}

-- ---- an object with no other members has no member of another name

neither : (a b : Bool) → (a || b) ≡ false → (a ≡ false) × (b ≡ false)
neither true b e = cc
neither false b e = (refl, e)

true_false : {B : Type 0} → true ≡ false → B
true_false e = cc

is_known : (t : Bool) → not t ≡ false → t ≡ true
is_known true e = refl
is_known false e = cc

has_none : (t : Bool) → not t ≡ true → t ≡ false
has_none true e = cc
has_none false e = refl

apart : (known : List (List ℕ)) (name l : List ℕ) → is_one_of known l ≡ true → is_one_of known name ≡ false → (t : Bool) → bytes_eq name l ≡ t → t ≡ false
apart known name l there none false e = refl
apart known name l there none true e =
    true_false (sym (subst (λ n. is_one_of known n ≡ true) (sym ((bytes_eq-Decides name l).0 e)) there) ∙ none)

passed_over : (o : Ordering) (d : Data) (rest : Option Data) → is_eq o ≡ false → rest ≡ None → match_ordering o rest (Some d) rest ≡ None
passed_over Less d rest other e = e
passed_over Equal d rest other e = true_false other
passed_over Greater d rest other e = e

not_there : (known : List (List ℕ)) (name : List ℕ) (ms : Members) → has_stray known ms ≡ false → is_one_of known name ≡ false → get_member name ms ≡ None
not_there known name no_members none unknown = refl
not_there known name (member l d ms) none unknown =
    let parts = neither (not (is_one_of known l)) (has_stray known ms) none in
    passed_over (slice_cmp nat_cmp name l) d (get_member name ms)
    (is_eq-slice_cmp name l ∙ apart known name l (is_known (is_one_of known l) parts.0) unknown (bytes_eq name l) refl)
    (not_there known name ms parts.1 unknown)

none_some : {A B : Type 0} {x : A} → None ≡ Some x → B
none_some e = cc

some_same : {A : Type 0} {x y : A} → Some x ≡ Some y → x ≡ y
some_same e = cc

looked_up : (name : List ℕ) (d : Data) (ms : Members) → as_object d ≡ Some ms → get name d ≡ get_member name ms
looked_up name null ms e = none_some e
looked_up name (boolean b) ms e = none_some e
looked_up name (number n) ms e = none_some e
looked_up name (string s) ms e = none_some e
looked_up name (array ds) ms e = none_some e
looked_up name (object os) ms e = ap (get_member name) (some_same e)

-- no member of this name, since it is none of the known ones
absent : (known : List (List ℕ)) (name : List ℕ) (i : ℕ) (d : Data) (ms : Members) (n : ⊤) → values.object Captures i d ≡ Ok ms → no_stray Captures i known ms ≡ Ok n
    → is_one_of known name ≡ false → get name d ≡ None
absent known name i d ms n is_object none unknown =
    looked_up name d ms (given Captures i WrongKind (as_object d) ms is_object)
    ∙ not_there known name ms (has_none (has_stray known ms) (tested Captures i Stray (not (has_stray known ms)) tt n none).0) unknown

-- ---- what was read in version 1

module _ (version : ℕ) (first : version ≡ 1) (i : ℕ) (d : Data) (ms : Members) (n : ⊤)
    (is_object : values.object Captures i d ≡ Ok ms) (none : no_stray Captures i (capture_members version) ms ≡ Ok n) where
  none_first : no_stray Captures i (capture_members 1) ms ≡ Ok n
  none_first = subst (λ v. no_stray Captures i (capture_members v) ms ≡ Ok n) first none

  pub offset_first : (offset : ℤ) → capture_offset i d ≡ Ok offset → offset ≡ pos 0
  offset_first offset read =
      ok_same (sym read ∙ ap (otherwise (pos 0) (offset_value i)) (absent (capture_members 1) (codes "offset") i d ms n is_object none_first refl))

  pub skew_first : (own : Option ℕ) → capture_skew i d ≡ Ok own → own ≡ None
  skew_first own read =
      ok_same (sym read ∙ ap (otherwise None (skew_value i)) (absent (capture_members 1) (codes "skew") i d ms n is_object none_first refl))

  pub interface_first : (own : Option ℕ) → capture_interface i d ≡ Ok own → own ≡ None
  interface_first own read =
      ok_same (sym read ∙ ap (otherwise None (interface_value i)) (absent (capture_members 1) (codes "interface") i d ms n is_object none_first refl))

-- ---- what was read in version 2

pub interface_second : (version : ℕ) → version ≡ 2 → (i : ℕ) (d : Data) (ms : Members) (n : ⊤)
    → values.object Captures i d ≡ Ok ms → no_stray Captures i (capture_members version) ms ≡ Ok n
    → (own : Option ℕ) → capture_interface i d ≡ Ok own → own ≡ None
interface_second version second i d ms n is_object none own read =
    ok_same (sym read ∙ ap (otherwise None (interface_value i)) (absent (capture_members 2) (codes "interface") i d ms n is_object
    (subst (λ v. no_stray Captures i (capture_members v) ms ≡ Ok n) second none) refl))

-- ---- what is printed

pub offset_again : (i : ℕ) (offset : ℤ) → unsigned_abs offset ≤ longest → offset_value i (number (of_integer offset)) ≡ Ok offset
offset_again i (pos n) most = rw (lt-ltb n (2 ^ 63) (omega (arith, most)), counted 0 longest n (omega arith) most) refl
offset_again i (negsuc n) most = rw (counted 0 longest (suc n) (omega arith) most) refl

pub skew_again : (i : ℕ) (skew : ℕ) → skew ≤ longest → skew_value i (number (unsigned skew)) ≡ Ok (Some skew)
skew_again i skew most = rw (counted 0 longest skew (omega arith) most) refl

pub interface_again : (i : ℕ) (n : ℕ) → n ≤ last_interface → interface_value i (number (unsigned n)) ≡ Ok (Some n)
interface_again i n most = rw (counted 0 last_interface n (omega arith) most) refl

-- what is read of an offset, of a skew and of an interface, where they are printed only from version 2 on
abbrev pub offset_read : (first : Bool) → ℤ → ℤ
offset_read first offset = cond first (pos 0) offset

abbrev pub skew_read : (first : Bool) → ℕ → Option ℕ
skew_read first skew = cond first None (Some skew)

abbrev pub interface_read : (first : Bool) → Option ℕ → Option ℕ
interface_read first own = cond first None own
