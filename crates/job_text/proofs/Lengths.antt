-- How long the texts of a job's parts are at most.
use Rattle.std.proofs.Common.{◌≡◌, ℕ, zero, suc, ◌+◌, ◌*◌, ◌/◌, ◌%◌, ◌^◌, ◌<◌, ◌≤◌, Bool, true, false, cond, List, [], ◌∷◌, ◌++◌, length, map, refl, ap, arith, All}
use Rattle.std.specs.Prelude.{◌&&◌, ◌||◌, ◌==◌, ℤ, pos, negsuc, unsigned_abs, nat_lt, nat_le, flat_map, slice_get, slice_index, not, unwrap_or, Option, Some, None, IfSome, codes}
use Rattle.std.specs.Char.{digit_char}
use Rattle.std.specs.Fmt.{decimal}
use Rattle.std.specs.Int.{bit_at}
use Rattle.std.specs.List.{list_all}
use Rattle.std.proofs.Math.Nat.{mul-suc, mul-le-mul_left}
use Rattle.std.proofs.lemmas.Bool.{leb-true, le-leb}
use Rattle.std.proofs.lemmas.Fmt.{length-decimal-le_wide}
use Rattle.std.proofs.lemmas.List.{length-append}
use Rattle.std.proofs.lemmas.List.Elements.{All-head, All-tail, All-cons, All-nil}
use Rattle.field_table.specs.FieldText.{kind_text, index_text, name_of, field_text}
use Rattle.field_table.specs.Table.{names_of}
use Rattle.field_table.specs.declared.field_ref.FieldRef.{FieldRef}
use Rattle.field_table.specs.declared.kind.Kind.{Kind}
use Rattle.field_table.specs.declared.kind.Kind.TheVariants.{Eth, Tag, Ipv4, Ipv6, Ext, Frag, Tcp, Udp, Icmp, Icmp6, Gre, Vxlan}
use Rattle.path_judges.specs.declared.pattern.Step.{Step}
use Rattle.path_judges.specs.declared.pattern.Step.TheVariants.{Point, One, Many}
use Rattle.serde_json.proofs.OnLiterals.{serde_json_on_literals}
use Rattle.serde_json.specs.Data.{Data, unsigned, number, string, array, object, Members, no_members, member}
use Rattle.serde_json.specs.Find.{of_integer}
use Rattle.serde_json.specs.View.{items_of}
use Rattle.serde_json.specs.Written.{compact_text, items_text, members_text, comma_if}
use Rattle.job_text.specs.Parts.{both_of, named, name_at, wide_value, plain_capture, clocked_capture, later_capture, capture_value, capture_values, field_value, var_value, set_names, step_word, pattern_text, pattern_value, row_value, rule_value, ruling_value, question_value}
use Rattle.job_table.specs.Question.{Question, Everything, Loops, Drops, Paths, Rewrites, Tests, Manner, Same, Less, Table}
use Rattle.job_table.specs.Limits.{longest, last_interface, Counts, IsPattern, IsRow, IsManner, IsRuling, IsQuestion}
use Rattle.job_table.specs.Table.{is_free}
use Rattle.job_table.specs.Words.{is_identifier}
use Rattle.job_text.proofs.CapturedAgain.{AllFiles}
use Rattle.job_text.proofs.NewNames.{AllNew}
use Rattle.query_tokens.specs.Words.{is_word_byte, begins_word, is_reserved}

-- ---- strings, lists and objects

-- what stands in a string for a byte
abbrev letter : ℕ → ℕ
letter x = cond ((x == 34) || (x == 92)) x (cond (x == 8) 98 (cond (x == 12) 102 (cond (x == 10) 110 (cond (x == 13) 114 (cond (x == 9) 116 0)))))

abbrev spelled : ℕ → List ℕ
spelled x =
    cond (nat_lt 0 (letter x)) (92 ∷ letter x ∷ [])
    (cond (nat_lt x 32) (92 ∷ 117 ∷ 48 ∷ 48 ∷ digit_char (x / 16) ∷ digit_char (x % 16) ∷ []) (x ∷ []))

string_is : (s : List ℕ) → compact_text (string s) ≡ 34 ∷ (flat_map spelled s ++ 34 ∷ [])
unfolding serde_json_on_literals
string_is s = refl

by_cases : (s t : Bool) (a b c : List ℕ) → length a ≤ 6 → length b ≤ 6 → length c ≤ 6 → length (cond s a (cond t b c)) ≤ 6
by_cases true t a b c la lb lc = la
by_cases false true a b c la lb lc = lb
by_cases false false a b c la lb lc = lc

spelled_short : (x : ℕ) → length (spelled x) ≤ 6
spelled_short x = by_cases (nat_lt 0 (letter x)) (nat_lt x 32) _ _ (x ∷ []) (omega arith) (omega arith) (omega arith)

all_spelled : (s : List ℕ) → length (flat_map spelled s) ≤ 6 * length s
all_spelled [] = omega arith
all_spelled (x ∷ s) = omega (arith, length-append (spelled x) (flat_map spelled s), spelled_short x, all_spelled s)

pub string_short : (s : List ℕ) (n : ℕ) → length s ≤ n → length (compact_text (string s)) ≤ 6 * n + 2
string_short s n short = omega (arith, ap length (string_is s), length-append (flat_map spelled s) (34 ∷ []), all_spelled s, short)

comma_short : (later : Bool) → length (comma_if later) ≤ 1
comma_short true = omega arith
comma_short false = omega arith

-- members of an object, with or without a comma before them
pub record ShortMembers (ms : Members) (b : ℕ) : Type 0 where
  pub fits : (later : Bool) → length (members_text later ms) ≤ b

pub ended : ShortMembers no_members 1
ended = record { fits = λ later. omega arith }

pub one_more : {ms : Members} (k : List ℕ) (d : Data) (n a b : ℕ) → length k ≤ n → length (compact_text d) ≤ a → ShortMembers ms b
    → ShortMembers (member k d ms) (6 * n + 4 + a + b)
one_more {ms} k d n a b short one more = record {
  fits = λ later.
      omega (
        arith,
        length-append (comma_if later) (compact_text (string k) ++ 58 ∷ (compact_text d ++ members_text true ms)),
        comma_short later,
        length-append (compact_text (string k)) (58 ∷ (compact_text d ++ members_text true ms)),
        string_short k n short,
        length-append (compact_text d) (members_text true ms),
        one,
        more.fits true,
      );
}

-- an object is a byte longer than its members
pub object_short : {ms : Members} (b : ℕ) → ShortMembers ms b → length (compact_text (object ms)) ≤ b + 1
object_short b short = omega (arith, short.fits false)

items_short : {A : Type 0} (later : Bool) (value : A → Data) (P : A → Type 0) (k : ℕ) → ((x : A) → P x → length (compact_text (value x)) ≤ k)
    → (xs : List A) → All P xs → length (items_text later (items_of (map value xs))) ≤ (k + 1) * length xs + 1
items_short later value P k short [] all = omega arith
items_short later value P k short (x ∷ xs) all =
    omega (
      arith,
      length-append (comma_if later) (compact_text (value x) ++ items_text true (items_of (map value xs))),
      comma_short later,
      length-append (compact_text (value x)) (items_text true (items_of (map value xs))),
      short x (All-head P x xs all),
      items_short true value P k short xs (All-tail P x xs all),
      mul-suc (k + 1) (length xs),
    )

-- a list of at most so many
pub list_short : {A : Type 0} (value : A → Data) (P : A → Type 0) (k n : ℕ) → ((x : A) → P x → length (compact_text (value x)) ≤ k)
    → (xs : List A) → All P xs → length xs ≤ n → length (compact_text (array (items_of (map value xs)))) ≤ (k + 1) * n + 2
list_short value P k n short xs all few = omega (arith, items_short false value P k short xs all, times (k + 1) (length xs) n few)
  where
    times : (k m n : ℕ) → m ≤ n → k * m ≤ k * n
    times k m n h = mul-le-mul_left k h

pub any : {A : Type 0} (xs : List A) → All (λ _. Unit {0}) xs
any xs k d less = tt

-- ---- names

abbrev pub all_short : ℕ → List (List ℕ) → Bool
all_short n names = list_all (λ name. nat_le (length name) n) names

and_parts : (a b : Bool) → (a && b) ≡ true → (a ≡ true) × (b ≡ true)
and_parts true b h = (refl, h)
and_parts false b h = cc

short_at : (n : ℕ) (names : List (List ℕ)) (i : ℕ) → all_short n names ≡ true → length (unwrap_or (slice_get names i) []) ≤ n
short_at n [] i all = omega arith
short_at n (name ∷ names) zero all = leb-true _ _ (and_parts (nat_le (length name) n) (all_short n names) all).0
short_at n (name ∷ names) (suc i) all = short_at n names i (and_parts (nat_le (length name) n) (all_short n names) all).1

pub names_short : (test : List ℕ → Bool) → ((name : List ℕ) → test name ≡ true → length name ≤ 32) → (earlier names : List (List ℕ)) → AllNew test earlier names
    → all_short 32 names ≡ true
names_short test short earlier [] all = refl
names_short test short earlier (name ∷ names) all =
    rw (le-leb (length name) 32 (short name all.0)) (names_short test short (earlier ++ name ∷ []) names all.2)

pub identifier_short : (name : List ℕ) → is_identifier name ≡ true → length name ≤ 32
identifier_short name e =
    let one = and_parts (nat_le 1 (length name) && nat_le (length name) 32 && begins_word (slice_index name 0)) (list_all is_word_byte name) e in
    let two = and_parts (nat_le 1 (length name) && nat_le (length name) 32) (begins_word (slice_index name 0)) one.0 in
    leb-true _ _ (and_parts (nat_le 1 (length name)) (nat_le (length name) 32) two.0).1

pub free_short : (name : List ℕ) → is_free name ≡ true → length name ≤ 32
free_short name e = identifier_short name (and_parts (is_identifier name) (not (is_reserved name)) e).0

pub named_short : (names : List (List ℕ)) (n : ℕ) → all_short 32 names ≡ true → length (compact_text (named names n)) ≤ 194
named_short names n all = string_short (name_at names n) 32 (short_at 32 names n all)

-- ---- captures and variables

pub decimal_short : (k n : ℕ) → 0 < k → n < 10 ^ k → n < 10 ^ 64 → length (decimal n) ≤ k
decimal_short k n some less most = length-decimal-le_wide k n some less most

plain_short : (name file : List ℕ) → length name ≤ 32 → length file ≤ 255 → length (compact_text (plain_capture name file)) ≤ 1886
plain_short name file one two =
    more (object_short 1783 (one_more (codes "file") (string file) 4 1532 223 (omega arith) (string_short file 255 two)
    (one_more (codes "name") (string name) 4 194 1 (omega arith) (string_short name 32 one) ended)))
  where
    more : {n : ℕ} → n ≤ 1784 → n ≤ 1886
    more h = omega (arith, h)

signed_short : (z : ℤ) → unsigned_abs z ≤ longest → length (compact_text (number (of_integer z))) ≤ 14
signed_short (pos n) most = omega (arith, decimal_short 13 n (omega arith) (omega (arith, most)) (omega (arith, most)))
signed_short (negsuc n) most = omega (arith, decimal_short 13 (suc n) (omega arith) (omega (arith, most)) (omega (arith, most)))

unsigned_short : (n : ℕ) → n ≤ longest → length (compact_text (number (unsigned n))) ≤ 20
unsigned_short n most = omega (arith, decimal_short 13 n (omega arith) (omega (arith, most)) (omega (arith, most)))

clocked_short : (name file : List ℕ) (offset : ℤ) (skew : ℕ) → length name ≤ 32 → length file ≤ 255 → unsigned_abs offset ≤ longest → skew ≤ longest
    → length (compact_text (clocked_capture name file offset skew)) ≤ 1886
clocked_short name file offset skew one two moved late =
    object_short 1885 (one_more (codes "file") (string file) 4 1532 325 (omega arith) (string_short file 255 two)
    (one_more (codes "name") (string name) 4 194 103 (omega arith) (string_short name 32 one)
    (one_more (codes "offset") (number (of_integer offset)) 6 14 49 (omega arith) (signed_short offset moved)
    (one_more (codes "skew") (number (unsigned skew)) 4 20 1 (omega arith) (unsigned_short skew late) ended))))

interface_short : (n : ℕ) → n ≤ last_interface → length (compact_text (number (unsigned n))) ≤ 5
interface_short n most = decimal_short 5 n (omega arith) (omega (arith, most)) (omega (arith, most))

later_short : (name file : List ℕ) (offset : ℤ) (skew : ℕ) (own : Option ℕ) → length name ≤ 32 → length file ≤ 255 → unsigned_abs offset ≤ longest → skew ≤ longest
    → IfSome own (λ n. n ≤ last_interface) → length (compact_text (later_capture name file offset skew own)) ≤ 1949
later_short name file offset skew None one two moved late few = more (clocked_short name file offset skew one two moved late)
  where
    more : {n : ℕ} → n ≤ 1886 → n ≤ 1949
    more h = omega (arith, h)
later_short name file offset skew (Some n) one two moved late few =
    object_short 1948 (one_more (codes "file") (string file) 4 1532 388 (omega arith) (string_short file 255 two)
    (one_more (codes "interface") (number (unsigned n)) 9 5 325 (omega arith) (interface_short n few)
    (one_more (codes "name") (string name) 4 194 103 (omega arith) (string_short name 32 one)
    (one_more (codes "offset") (number (of_integer offset)) 6 14 49 (omega arith) (signed_short offset moved)
    (one_more (codes "skew") (number (unsigned skew)) 4 20 1 (omega arith) (unsigned_short skew late) ended)))))

by_version : (first : Bool) (name file : List ℕ) (offset : ℤ) (skew : ℕ) (own : Option ℕ) → length name ≤ 32 → length file ≤ 255 → unsigned_abs offset ≤ longest → skew ≤ longest
    → IfSome own (λ n. n ≤ last_interface) → length (compact_text (cond first (plain_capture name file) (later_capture name file offset skew own))) ≤ 1949
by_version true name file offset skew own one two moved late few = more (plain_short name file one two)
  where
    more : {n : ℕ} → n ≤ 1886 → n ≤ 1949
    more h = omega (arith, h)
by_version false name file offset skew own one two moved late few = later_short name file offset skew own one two moved late few

pub captures_short : (later : Bool) (version : ℕ) (earlier names files : List (List ℕ)) (offsets : List ℤ) (skews : List ℕ) (interfaces : List (Option ℕ))
    → AllNew is_identifier earlier names → AllFiles files → All (λ offset. unsigned_abs offset ≤ longest) offsets → All (λ skew. skew ≤ longest) skews
    → All (λ own. IfSome own (λ n. n ≤ last_interface)) interfaces
    → length (items_text later (items_of (capture_values version names files offsets skews interfaces))) ≤ 1950 * length names + 1
captures_short later version earlier [] files offsets skews interfaces new all moved late within = omega arith
captures_short later version earlier (name ∷ names) [] offsets skews interfaces new all moved late within = omega arith
captures_short later version earlier (name ∷ names) (file ∷ files) [] skews interfaces new all moved late within = omega arith
captures_short later version earlier (name ∷ names) (file ∷ files) (offset ∷ offsets) [] interfaces new all moved late within = omega arith
captures_short later version earlier (name ∷ names) (file ∷ files) (offset ∷ offsets) (skew ∷ skews) [] new all moved late within = omega arith
captures_short later version earlier (name ∷ names) (file ∷ files) (offset ∷ offsets) (skew ∷ skews) (own ∷ interfaces) new all moved late within =
    let few = leb-true (length file) 255 (and_parts (nat_le 1 (length file)) (nat_le (length file) 255) all.0).1 in
    let value : Data = capture_value version name file offset skew own in
    let rest : List Data = capture_values version names files offsets skews interfaces in
    omega (
      arith,
      length-append (comma_if later) (compact_text value ++ items_text true (items_of rest)),
      comma_short later,
      length-append (compact_text value) (items_text true (items_of rest)),
      by_version (version == 1) name file offset skew own (identifier_short name new.0) few (All-head (λ offset. unsigned_abs offset ≤ longest) offset offsets moved) (All-head (λ skew. skew ≤ longest) skew skews late) (All-head (λ (own : Option ℕ). IfSome own (λ n. n ≤ last_interface)) own interfaces within),
      captures_short true version (earlier ++ name ∷ []) names files offsets skews interfaces new.2 all.2 (All-tail (λ offset. unsigned_abs offset ≤ longest) offset offsets moved) (All-tail (λ skew. skew ≤ longest) skew skews late) (All-tail (λ (own : Option ℕ). IfSome own (λ n. n ≤ last_interface)) own interfaces within),
    )

kind_short : (k : Kind) → length (kind_text k) ≤ 5
kind_short Eth = omega arith
kind_short Tag = omega arith
kind_short Ipv4 = omega arith
kind_short Ipv6 = omega arith
kind_short Ext = omega arith
kind_short Frag = omega arith
kind_short Tcp = omega arith
kind_short Udp = omega arith
kind_short Icmp = omega arith
kind_short Icmp6 = omega arith
kind_short Gre = omega arith
kind_short Vxlan = omega arith

fields_short : (k : Kind) → all_short 12 (names_of k) ≡ true
fields_short Eth = refl
fields_short Tag = refl
fields_short Ipv4 = refl
fields_short Ipv6 = refl
fields_short Ext = refl
fields_short Frag = refl
fields_short Tcp = refl
fields_short Udp = refl
fields_short Icmp = refl
fields_short Icmp6 = refl
fields_short Gre = refl
fields_short Vxlan = refl

index_short : (inside : Bool) (steps : ℕ) → steps ≤ 15 → length (index_text inside steps) ≤ 3
index_short false steps near = omega (arith, decimal_short 2 steps (omega arith) (omega (arith, near)) (omega (arith, near)))
index_short true steps near = omega (arith, decimal_short 2 (steps + 1) (omega arith) (omega (arith, near)) (omega (arith, near)))

field_short : (f : FieldRef) → length (field_text f) ≤ 30
unfolding field_text
field_short f =
    omega (
      arith,
      kind_short f.kind,
      index_short f.inside f.steps f.is_near,
      short_at 12 (names_of f.kind) f.field (fields_short f.kind),
      length-append (kind_text f.kind) (codes "[" ++ (index_text f.inside f.steps ++ (codes "]." ++ name_of f.kind f.field))),
      length-append (index_text f.inside f.steps) (codes "]." ++ name_of f.kind f.field),
    )

var_short : (name : List ℕ) (take : List FieldRef) → length name ≤ 32 → Counts 1 4 take → length (compact_text (var_value name take)) ≤ 986
var_short name take one count =
    object_short 985 (one_more (codes "name") (string name) 4 194 763 (omega arith) (string_short name 32 one)
    (one_more (codes "take") (array (items_of (map field_value take))) 4 734 1 (omega arith)
    (list_short field_value (λ _. Unit {0}) 182 4 (λ f _. string_short (field_text f) 30 (field_short f)) take (any take) count.1) ended))

pub vars_short : (later : Bool) (earlier names : List (List ℕ)) (takes : List (List FieldRef)) → AllNew is_free earlier names → All (Counts 1 4) takes
    → length (items_text later (items_of (both_of var_value names takes))) ≤ 987 * length names + 1
vars_short later earlier [] takes new all = omega arith
vars_short later earlier (name ∷ names) [] new all = omega arith
vars_short later earlier (name ∷ names) (take ∷ takes) new all =
    omega (
      arith,
      length-append (comma_if later) (compact_text (var_value name take) ++ items_text true (items_of (both_of var_value names takes))),
      comma_short later,
      length-append (compact_text (var_value name take)) (items_text true (items_of (both_of var_value names takes))),
      var_short name take (free_short name new.0) (All-head (Counts 1 4) take takes all),
      vars_short true (earlier ++ name ∷ []) names takes new.2 (All-tail (Counts 1 4) take takes all),
    )

-- ---- the query

kind_last : (kind : List ℕ) (n : ℕ) → length kind ≤ n → ShortMembers (member (codes "kind") (string kind) no_members) (6 * 4 + 4 + (6 * n + 2) + 1)
kind_last kind n short = one_more (codes "kind") (string kind) 4 (6 * n + 2) 1 (omega arith) (string_short kind n short) ended

exits_short : (later : Bool) (set n : ℕ) (names : List (List ℕ)) → all_short 32 names ≡ true
    → length (items_text later (items_of (map string (set_names set n names)))) ≤ 195 * length names + 1
exits_short later set n [] all = omega arith
exits_short later set n (name ∷ names) all =
    let parts = and_parts (nat_le (length name) 32) (all_short 32 names) all in
    by_bit (bit_at set n == 1) (leb-true (length name) 32 parts.0) (exits_short true set (n + 1) names parts.1) (exits_short later set (n + 1) names parts.1)
  where
    by_bit : (t : Bool) → length name ≤ 32
        → length (items_text true (items_of (map string (set_names set (n + 1) names)))) ≤ 195 * length names + 1
        → length (items_text later (items_of (map string (set_names set (n + 1) names)))) ≤ 195 * length names + 1
        → length (items_text later (items_of (map string (cond t (name ∷ set_names set (n + 1) names) (set_names set (n + 1) names))))) ≤ 195 * suc (length names) + 1
    by_bit true short more same =
        omega (
          arith,
          length-append (comma_if later) (compact_text (string name) ++ items_text true (items_of (map string (set_names set (n + 1) names)))),
          comma_short later,
          length-append (compact_text (string name)) (items_text true (items_of (map string (set_names set (n + 1) names)))),
          string_short name 32 short,
          more,
        )
    by_bit false short more same = omega (arith, same)

word_short : (captures : List (List ℕ)) (s : Step) → all_short 32 captures ≡ true → length (step_word captures s) ≤ 32
word_short captures (Point c) all = short_at 32 captures c all
word_short captures One all = omega arith
word_short captures Many all = omega arith

further_short : (captures : List (List ℕ)) (more : List Step) → all_short 32 captures ≡ true → length (flat_map (λ step. 32 ∷ step_word captures step) more) ≤ 33 * length more
further_short captures [] all = omega arith
further_short captures (s ∷ more) all =
    omega (arith, length-append (step_word captures s) (flat_map (λ step. 32 ∷ step_word captures step) more), word_short captures s all, further_short captures more all)

pattern_short : (captures : List (List ℕ)) (path : List Step) → all_short 32 captures ≡ true → Counts 1 32 path → length (pattern_text captures path) ≤ 1056
pattern_short captures [] all count = omega arith
pattern_short captures (s ∷ path) all count =
    omega (arith, length-append (step_word captures s) (flat_map (λ step. 32 ∷ step_word captures step) path), word_short captures s all, further_short captures path all, count.1)

wide_short : (n : ℕ) → n < 2 ^ 128 → length (compact_text (wide_value n)) ≤ 236
wide_short n less = by_size (nat_lt n (2 ^ 64)) (decimal_short 39 n (omega arith) (omega (arith, less)) (omega (arith, less)))
  where
    by_size : (t : Bool) → length (decimal n) ≤ 39 → length (compact_text (cond t (number (unsigned n)) (string (decimal n)))) ≤ 236
    by_size true short = omega (arith, short)
    by_size false short = string_short (decimal n) 39 short

row_short : (r : ℕ × ℕ) → IsRow r → length (compact_text (row_value r)) ≤ 476
row_short r small =
    list_short wide_value (λ n. n < 2 ^ 128) 236 2 wide_short (r.0 ∷ r.1 ∷ [])
    (All-cons (λ n. n < 2 ^ 128) r.0 (r.1 ∷ []) small.0 (All-cons (λ n. n < 2 ^ 128) r.1 [] small.1 (All-nil (λ n. n < 2 ^ 128)))) (omega arith)

rule_short : (how : Manner) (var : List ℕ) → IsManner how → length var ≤ 32 → length (compact_text (rule_value how var)) ≤ 31000
rule_short Same var lawful short =
    more (object_short 265 (one_more (codes "how") (string (codes "same")) 3 26 217 (omega arith) (string_short (codes "same") 4 (omega arith)) (last)))
  where
    last : ShortMembers (member (codes "var") (string var) no_members) 217
    last = one_more (codes "var") (string var) 3 194 1 (omega arith) (string_short var 32 short) ended

    more : {n : ℕ} → n ≤ 266 → n ≤ 31000
    more h = omega (arith, h)
rule_short (Less by) var lawful short =
    more (object_short 517 (one_more (codes "by") (wide_value by) 2 236 265 (omega arith) (wide_short by lawful)
    (one_more (codes "how") (string (codes "less")) 3 26 217 (omega arith) (string_short (codes "less") 4 (omega arith)) last)))
  where
    last : ShortMembers (member (codes "var") (string var) no_members) 217
    last = one_more (codes "var") (string var) 3 194 1 (omega arith) (string_short var 32 short) ended

    more : {n : ℕ} → n ≤ 518 → n ≤ 31000
    more h = omega (arith, h)
rule_short (Table rows) var lawful short =
    more (object_short 30829 (one_more (codes "how") (string (codes "table")) 3 32 30775 (omega arith) (string_short (codes "table") 5 (omega arith))
    (one_more (codes "rows") (array (items_of (map row_value rows))) 4 30530 217 (omega arith) (list_short row_value IsRow 476 64 row_short rows lawful.1 lawful.0.1) last)))
  where
    last : ShortMembers (member (codes "var") (string var) no_members) 217
    last = one_more (codes "var") (string var) 3 194 1 (omega arith) (string_short var 32 short) ended

    more : {n : ℕ} → n ≤ 30830 → n ≤ 31000
    more h = omega (arith, h)

relaxed : {n : ℕ} (m : ℕ) → m ≤ 500000 → n ≤ m → n ≤ 500000
relaxed m low h = omega (arith, low, h)

pub question_short : (vars captures : List (List ℕ)) (q : Question) → all_short 32 vars ≡ true → all_short 32 captures ≡ true → length captures ≤ 64
    → IsQuestion vars captures q → length (compact_text (question_value vars captures q)) ≤ 500000
question_short vars captures Everything names points most lawful =
    relaxed 50 (omega arith) (object_short 49 (one_more (codes "kind") (string (codes "all")) 4 20 1 (omega arith) (string_short (codes "all") 3 (omega arith)) ended))
question_short vars captures (Loops hop) names points most lawful =
    relaxed 272 (omega arith) (object_short 271 (one_more (codes "hop") (named vars hop) 3 194 55 (omega arith) (named_short vars hop names) (kind_last (codes "loop") 4 (omega arith))))
question_short vars captures (Drops set) names points most lawful =
    relaxed 12572 (omega arith) (object_short 12571 (one_more (codes "exits") (array (items_of (map string (set_names set 0 captures)))) 5 12482 55 (omega arith)
    (omega (arith, exits_short false set 0 captures points, most)) (kind_last (codes "drop") 4 (omega arith))))
question_short vars captures (Paths allow) names points most lawful =
    relaxed 101516 (omega arith) (object_short 101515 (one_more (codes "allow") (array (items_of (map (pattern_value captures) allow))) 5 101426 55 (omega arith)
    (list_short (pattern_value captures) (IsPattern (length captures)) 6338 16 (λ path h. string_short (pattern_text captures path) 1056 (pattern_short captures path points h.0)) allow lawful.1 lawful.0.1)
    (kind_last (codes "path") 4 (omega arith))))
question_short vars captures (Rewrites from to rules) names points most lawful =
    relaxed 496558 (omega arith) (object_short 496557 (one_more (codes "from") (named captures from) 4 194 496335 (omega arith) (named_short captures from points)
    (one_more (codes "kind") (string (codes "rewrite")) 4 44 496263 (omega arith) (string_short (codes "rewrite") 7 (omega arith))
    (one_more (codes "rules") (array (items_of (map (ruling_value vars) rules))) 5 496018 211 (omega arith)
    (list_short (ruling_value vars) (IsRuling (length vars)) 31000 16 (λ r h. rule_short r.how _ h.1 (short_at 32 vars r.var names)) rules lawful.3 lawful.2.1)
    (one_more (codes "to") (named captures to) 2 194 1 (omega arith) (named_short captures to points) ended)))))
question_short vars captures (Tests text e) names points most lawful =
    relaxed 6230 (omega arith) (object_short 6229 (one_more (codes "expr") (string text) 4 6146 55 (omega arith) (string_short text 1024 lawful.short) (kind_last (codes "test") 4 (omega arith))))
