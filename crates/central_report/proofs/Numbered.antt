-- The accepted summaries of a capture: whose they are, that their stamps differ, and how many there are.
use Rattle.std.proofs.Common.{ℕ, suc, List, [], ◌∷◌, ◌++◌, ◌≡◌, ◌<◌, ◌≤◌, Bool, true, false, Option, Some, None, length, refl, sym, ap, subst, arith}
use Rattle.std.specs.Prelude.{◌⊎◌, if◌then◌else◌, option_map, option_and_then}
use Rattle.ds_base.specs.declared.stamp.Stamp.{Stamp}
use Rattle.ds_base.specs.declared.summary.Summary.{Summary}
use Rattle.ds_base.specs.Order.{Precedes}
use Rattle.field_table.specs.declared.field_ref.FieldRef.{FieldRef}
use Rattle.header_stack.specs.Layer.{Layer}
use Rattle.header_stack.specs.Stack.{stack_of}
use Rattle.key_select.specs.Fates.{Fate, Unmatched, Late, Accepted, fate_by, fate_of, fates_after, summaries_of}
use Rattle.key_select.specs.Late.{comes_late}
use Rattle.key_select.specs.Sum.{summary_with, passes, values_of, first_defined}
use Rattle.key_select.specs.Times.{record_time}
use Rattle.key_select.proofs.Tallying.{summaries_of-append}
use Rattle.pcap_reader.specs.Captured.{Captured}
use Rattle.pcap_reader.specs.Numbering.{NumberedFrom}
use Rattle.summary_spec.specs.Declaration.{Declared}
use Rattle.window_grouper.specs.Sorted.{DiffersFromAll, StampsDiffer}

-- the summaries are of the capture, with so many values each, and with numbers from n on
abbrev pub AreFrom : (vars capture n : ℕ) → List Summary → Type 0
AreFrom vars capture n [] = Unit {0}
AreFrom vars capture n (s ∷ ss) = (n ≤ s.at.number) × (s.at.capture ≡ capture) × (length s.vals ≡ vars) × AreFrom vars capture n ss

fewer : (vars capture m n : ℕ) (ss : List Summary) → m ≤ n → AreFrom vars capture n ss → AreFrom vars capture m ss
fewer vars capture m n [] le h = tt
fewer vars capture m n (s ∷ ss) le h = (omega (arith, h.0), h.1, h.2, fewer vars capture m n ss le h.3)

-- of two stamps of one capture with different numbers one is before the other
apart : (capture : ℕ) (a b : Stamp) → a.capture ≡ capture → b.capture ≡ capture → a.number < b.number → Precedes a b ⊎ Precedes b a
apart capture a b ca cb less = grind arith

differs : (vars capture : ℕ) (s : Summary) (n : ℕ) (ss : List Summary) → s.at.capture ≡ capture → s.at.number < n → AreFrom vars capture n ss → DiffersFromAll s.at ss
differs vars capture s n [] c less h = tt
differs vars capture s n (x ∷ ss) c less h = (apart capture s.at x.at c h.1 (omega (arith, h.0)), differs vars capture s n ss c less h.3)

-- what is accepted of one record, and what is accepted after it
abbrev Stand : (vars capture n : ℕ) → Option Summary → Bool → List Summary → Type 0
Stand vars capture n o late ss =
    AreFrom vars capture n (summaries_of (fate_by o late ∷ []) ++ ss) × StampsDiffer (summaries_of (fate_by o late ∷ []) ++ ss)

of_passing : (vars capture : ℕ) (s : Summary) (n : ℕ) (late : Bool) (ss : List Summary) → s.at.capture ≡ capture → length s.vals ≡ vars → s.at.number ≡ n
    → AreFrom vars capture (suc n) ss → StampsDiffer ss → Stand vars capture n (Some s) late ss
of_passing vars capture s n true ss c v is from differ = (fewer vars capture n (suc n) ss (omega arith) from, differ)
of_passing vars capture s n false ss c v is from differ = (
  (omega (arith, is), c, v, fewer vars capture n (suc n) ss (omega arith) from),
  (differs vars capture s (suc n) ss c (omega (arith, is)) from, differ),
)

of_wanted : (vars capture : ℕ) (s : Summary) (wanted : Bool) (n : ℕ) (late : Bool) (ss : List Summary) → s.at.capture ≡ capture → length s.vals ≡ vars → s.at.number ≡ n
    → AreFrom vars capture (suc n) ss → StampsDiffer ss → Stand vars capture n (if wanted then Some s else None) late ss
of_wanted vars capture s true n late ss c v is from differ = of_passing vars capture s n late ss c v is from differ
of_wanted vars capture s false n late ss c v is from differ = (fewer vars capture n (suc n) ss (omega arith) from, differ)

-- if there are values, there are so many
abbrev AreSoMany : (vars : ℕ) → Option (List ℕ) → Type 0
AreSoMany vars None = Unit {0}
AreSoMany vars (Some vs) = length vs ≡ vars

of_one : (job : Declared) (capture time : ℕ) (r : Captured) (vars n : ℕ) (vals : Option (List ℕ)) (late : Bool) (ss : List Summary) → r.number ≡ n → AreSoMany vars vals
    → AreFrom vars capture (suc n) ss → StampsDiffer ss
    → Stand vars capture n (option_and_then (λ vs. let s = summary_with job capture time r vs in if passes job s then Some s else None) vals) late ss
of_one job capture time r vars n None late ss is many from differ = (fewer vars capture n (suc n) ss (omega arith) from, differ)
of_one job capture time r vars n (Some vs) late ss is many from differ =
    of_wanted vars capture (summary_with job capture time r vs) (passes job (summary_with job capture time r vs)) n late ss refl many is from differ

one_more_value : (vars : ℕ) (first : Option ℕ) (others : Option (List ℕ)) → AreSoMany vars others
    → AreSoMany (suc vars) (option_and_then (λ n. option_map (λ ns. n ∷ ns) others) first)
one_more_value vars None others h = tt
one_more_value vars (Some n) None h = tt
one_more_value vars (Some n) (Some ns) h = ap suc h

-- each variable has a value
many_values : (takes : List (List FieldRef)) (layers : List Layer) → AreSoMany (length takes) (values_of takes layers)
many_values [] layers = refl
many_values (alternatives ∷ takes) layers =
    one_more_value (length takes) (first_defined alternatives layers) (values_of takes layers) (many_values takes layers)

-- the accepted summaries of records that are numbered from n on
pub of_numbered : (job : Declared) (capture : ℕ) (earlier rs : List Captured) (n : ℕ) → NumberedFrom n rs
    → AreFrom (length job.takes) capture n (summaries_of (fates_after job capture earlier rs)) × StampsDiffer (summaries_of (fates_after job capture earlier rs))
of_numbered job capture earlier [] n h = (tt, tt)
of_numbered job capture earlier (r ∷ rs) n h =
    let later : List Fate = fates_after job capture (earlier ++ r ∷ []) rs in
    let rest = of_numbered job capture (earlier ++ r ∷ []) rs (suc n) h.1 in
    let layers : List Layer = stack_of r.link job.port r.bytes in
    let P : List Summary → Type 0 = λ ss. AreFrom (length job.takes) capture n ss × StampsDiffer ss in
    subst P (sym (summaries_of-append (fate_of job capture earlier r ∷ []) later))
    (of_one job capture (record_time job capture r) r (length job.takes) n (values_of job.takes layers) (comes_late job capture earlier r) (summaries_of later) h.0 (many_values job.takes layers) rest.0 rest.1)

fates_few : (fates : List Fate) → length (summaries_of fates) ≤ length fates
fates_few [] = omega arith
fates_few (Unmatched ∷ fates) = omega (arith, fates_few fates)
fates_few (Late ∷ fates) = omega (arith, fates_few fates)
fates_few (Accepted s ∷ fates) = omega (arith, fates_few fates)

length-fates : (job : Declared) (capture : ℕ) (earlier rs : List Captured) → length (fates_after job capture earlier rs) ≡ length rs
length-fates job capture earlier [] = refl
length-fates job capture earlier (r ∷ rs) = ap suc (length-fates job capture (earlier ++ r ∷ []) rs)

-- no more summaries are accepted than there are records
pub accepted_few : (job : Declared) (capture : ℕ) (earlier rs : List Captured) → length (summaries_of (fates_after job capture earlier rs)) ≤ length rs
accepted_few job capture earlier rs = omega (arith, fates_few (fates_after job capture earlier rs), length-fates job capture earlier rs)
