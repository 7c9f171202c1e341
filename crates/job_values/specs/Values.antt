-- Values of JSON, level by level.
use Rattle.std.specs.Prelude.{ℕ, ◌+◌, ℤ, Bool, not, List, [], ◌∷◌, Option, Some, None, Ok, option_and_then, bytes_eq, ⊤}
use Rattle.std.specs.List.{list_any}
use Rattle.serde_json.specs.Data.{Data, Items, no_items, item, Members, no_members, member}
use Rattle.serde_json.specs.Find.{get, as_bool, as_number, as_u64, as_i64, as_str, as_array, as_object}
use Rattle.job_values.specs.declared.member.Member.{Member}
use Rattle.job_values.specs.declared.fault.JobWhat.TheVariants.{Missing, WrongKind, Stray}
use Rattle.job_values.specs.Said.{Said, ◌>>=◌, or_fault, only_if}

-- ---- kinds

-- a whole number of 0 to 2^64 - 1, written without a point and an exponent
abbrev pub number : Member → ℕ → Data → Said ℕ
number at i d = or_fault at i WrongKind (option_and_then as_u64 (as_number d))

-- a whole number of -(2^63) to 2^63 - 1, written without a point and an exponent
abbrev pub signed_number : Member → ℕ → Data → Said ℤ
signed_number at i d = or_fault at i WrongKind (option_and_then as_i64 (as_number d))

abbrev pub text : Member → ℕ → Data → Said (List ℕ)
text at i d = or_fault at i WrongKind (as_str d)

abbrev pub flag : Member → ℕ → Data → Said Bool
flag at i d = or_fault at i WrongKind (as_bool d)

abbrev pub list : Member → ℕ → Data → Said Items
list at i d = or_fault at i WrongKind (as_array d)

abbrev pub object : Member → ℕ → Data → Said Members
object at i d = or_fault at i WrongKind (as_object d)

-- ---- members of an object

abbrev pub needed : Member → ℕ → List ℕ → Data → Said Data
needed at i name d = or_fault at i Missing (get name d)

abbrev pub otherwise : {A : Type 0} → A → (Data → Said A) → Option Data → Said A
otherwise default read None = Ok default
otherwise default read (Some d) = read d

abbrev pub optional : {A : Type 0} → A → (Data → Said A) → List ℕ → Data → Said A
optional default read name d = otherwise default read (get name d)

abbrev pub is_one_of : List (List ℕ) → List ℕ → Bool
is_one_of known name = list_any (λ k. bytes_eq k name) known

-- the names of an object's members, in byte order
abbrev pub names_in : Members → List (List ℕ)
names_in no_members = []
names_in (member name d ms) = name ∷ names_in ms

-- some member has a name that is none of these
abbrev pub has_stray : List (List ℕ) → Members → Bool
has_stray known ms = list_any (λ name. not (is_one_of known name)) (names_in ms)

abbrev pub no_stray : Member → ℕ → List (List ℕ) → Members → Said ⊤
no_stray at i known ms = only_if at i Stray (not (has_stray known ms)) tt

-- ---- elements of a list

abbrev pub items_length : Items → ℕ
items_length no_items = 0
items_length (item d ds) = 1 + items_length ds

-- the elements in order, each on top of what those before it gave
abbrev pub each : {S : Type 0} → (S → Data → Said S) → S → Items → Said S
each read before no_items = Ok before
each read before (item d ds) = read before d >>= λ more. each read more ds
