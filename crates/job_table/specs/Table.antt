-- The table of the members of a declaration, a definition a row, in the order of the table. Each says
-- what a value is there, or its first fault: it is missing, of another kind, or breaks a rule.
use Rattle.std.specs.Prelude.{ℕ, ◌==◌, ◌&&◌, Bool, false, not, ℤ, pos, unsigned_abs, List, [], ◌∷◌, ◌++◌, map, length, if◌then◌else◌, Option, None, Some, unwrap_or, Ok, codes}
use Rattle.std.specs.List.{list_any}
use Rattle.serde_json.specs.Data.{Data, Items}
use Rattle.field_table.specs.declared.field_ref.FieldRef.{FieldRef}
use Rattle.query_lang.specs.declared.names.Scope.TheVariants.{One}
use Rattle.query_lang.specs.Expression.{Expression}
use Rattle.job_values.specs.declared.member.Member.{Member}
use Rattle.job_values.specs.declared.member.Member.TheVariants.{Version, VxlanPort, Captures, CapturesName, CapturesFile, CapturesOffset, CapturesSkew, CapturesInterface, Vars, VarsName, VarsTake, Filter, Key, Window, Skew, Profile}
use Rattle.job_values.specs.declared.fault.JobWhat.TheVariants.{BadName, Twice, Unknown, Field}
use Rattle.job_values.specs.Said.{Said, ◌>>=◌, or_fault, only_if, within}
use Rattle.job_values.specs.Values.{number, signed_number, text, flag, list, object, needed, optional, no_stray, items_length, each}
use Rattle.job_values.specs.Fields.{field_of}
use Rattle.job_values.specs.Parsed.{expression}
use Rattle.job_values.specs.Parsed.{shown}
use Rattle.job_table.specs.declared.capture_lists.CaptureLists.{CaptureLists}
use Rattle.job_table.specs.Limits.{longest, last_interface, newest_version}
use Rattle.query_tokens.specs.Words.{is_reserved}
use Rattle.job_table.specs.Words.{is_identifier, is_among, number_of}

-- ---- rules that several rows have

-- a list of so many elements
abbrev pub listed : Member → ℕ → ℕ → ℕ → Data → Said Items
listed at i least most d = list at i d >>= λ ds. within at i least most (items_length ds) ds

-- a name that stands for one of these
abbrev pub known : Member → ℕ → List (List ℕ) → Data → Said ℕ
known at i names d = text at i d >>= λ name. or_fault at i Unknown (number_of names name)

-- a name that passes the test and is none of the earlier ones
abbrev pub new_name : Member → ℕ → (List ℕ → Bool) → List (List ℕ) → Data → Said (List ℕ)
new_name at i test earlier d = do
  name ← text at i d
  name ← only_if at i BadName (test name) name
  only_if at i Twice (not (is_among earlier name)) name

-- names that stand for some of these, each for another one, on top of the numbers of those before
abbrev pub another : Member → List (List ℕ) → List ℕ → Data → Said (List ℕ)
another at names earlier d = do
  n ← known at (length earlier) names d
  only_if at (length earlier) Twice (not (list_any (λ m. m == n) earlier)) (earlier ++ n ∷ [])

-- the text of an expression
abbrev pub short_text : Member → Data → Said (List ℕ)
short_text at d = text at 0 d >>= λ given. within at 0 0 1024 (length given) given

-- ---- the members of the declaration

abbrev pub version : Data → Said ℕ
version d = needed Version 0 (codes "version") d >>= number Version 0 >>= λ n. within Version 0 1 newest_version n n

abbrev pub port_value : Data → Said ℕ
port_value d = number VxlanPort 0 d >>= λ n. within VxlanPort 0 1 65535 n n

abbrev pub vxlan_port : Data → Said ℕ
vxlan_port d = optional 4789 port_value (codes "vxlan_port") d

-- ---- captures

abbrev pub capture_name : ℕ → List (List ℕ) → Data → Said (List ℕ)
capture_name i earlier d = needed CapturesName i (codes "name") d >>= new_name CapturesName i is_identifier earlier

abbrev pub has_zero : List ℕ → Bool
has_zero name = list_any (λ b. b == 0) name

abbrev pub capture_file : ℕ → Data → Said (List ℕ)
capture_file i d = do
  d ← needed CapturesFile i (codes "file") d
  name ← text CapturesFile i d
  name ← within CapturesFile i 1 255 (length name) name
  only_if CapturesFile i BadName (not (has_zero name)) name

-- what is added to the times of the capture
abbrev pub offset_value : ℕ → Data → Said ℤ
offset_value i d = signed_number CapturesOffset i d >>= λ z. within CapturesOffset i 0 longest (unsigned_abs z) z

abbrev pub capture_offset : ℕ → Data → Said ℤ
capture_offset i d = optional (pos 0) (offset_value i) (codes "offset") d

-- the skew that the capture has of its own
abbrev pub skew_value : ℕ → Data → Said (Option ℕ)
skew_value i d = number CapturesSkew i d >>= λ n. within CapturesSkew i 0 longest n (Some n)

abbrev pub capture_skew : ℕ → Data → Said (Option ℕ)
capture_skew i d = optional None (skew_value i) (codes "skew") d

-- the interface of the file whose packets are the capture's
abbrev pub interface_value : ℕ → Data → Said (Option ℕ)
interface_value i d = number CapturesInterface i d >>= λ n. within CapturesInterface i 0 last_interface n (Some n)

abbrev pub capture_interface : ℕ → Data → Said (Option ℕ)
capture_interface i d = optional None (interface_value i) (codes "interface") d

-- the members that a capture may have, by the version of the declaration
abbrev pub capture_members : (version : ℕ) → List (List ℕ)
capture_members version =
    if version == 1 then codes "name" ∷ codes "file" ∷ [] else
    (if version == 2 then codes "name" ∷ codes "file" ∷ codes "offset" ∷ codes "skew" ∷ [] else
    codes "name" ∷ codes "file" ∷ codes "offset" ∷ codes "skew" ∷ codes "interface" ∷ [])

-- what captures declare, in the order of their numbers
pub record Captured : Type 0 where
  pub names : List (List ℕ)
  pub files : List (List ℕ)
  pub offsets : List ℤ
  pub own_skews : List (Option ℕ)
  pub interfaces : List (Option ℕ)

abbrev pub no_captures : Captured
no_captures = record { names = []; files = []; offsets = []; own_skews = []; interfaces = [] }

-- a capture, on top of those before it
abbrev pub capture : (version : ℕ) → Captured → Data → Said Captured
capture version before d = do
  ms ← object Captures (length before.names) d
  none ← no_stray Captures (length before.names) (capture_members version) ms
  name ← capture_name (length before.names) before.names d
  file ← capture_file (length before.names) d
  offset ← capture_offset (length before.names) d
  own_skew ← capture_skew (length before.names) d
  interface ← capture_interface (length before.names) d
  Ok (record {
    names = before.names ++ name ∷ [];
    files = before.files ++ file ∷ [];
    offsets = before.offsets ++ offset ∷ [];
    own_skews = before.own_skews ++ own_skew ∷ [];
    interfaces = before.interfaces ++ interface ∷ [];
  })

abbrev pub captures : (version : ℕ) → Data → Said Captured
captures version d = needed Captures 0 (codes "captures") d >>= listed Captures 0 1 64 >>= each (capture version) no_captures

-- what the lists of captures show
abbrev pub captured_of : CaptureLists → Captured
captured_of lists = record {
  names = shown lists.names.items;
  files = shown lists.files.items;
  offsets = lists.offsets.items;
  own_skews = lists.own_skews.items;
  interfaces = lists.interfaces.items;
}

-- the skew of each capture: its own, or that of the job
abbrev pub skews_or : (skew : ℕ) → List (Option ℕ) → List ℕ
skews_or skew own_skews = map (λ own. unwrap_or own skew) own_skews

-- ---- variables

abbrev pub is_free : List ℕ → Bool
is_free name = is_identifier name && not (is_reserved name)

abbrev pub var_name : ℕ → List (List ℕ) → Data → Said (List ℕ)
var_name i earlier d = needed VarsName i (codes "name") d >>= new_name VarsName i is_free earlier

abbrev pub field : ℕ → List FieldRef → Data → Said (List FieldRef)
field i earlier d = do
  name ← text VarsTake i d
  f ← or_fault VarsTake i Field (field_of name)
  Ok (earlier ++ f ∷ [])

abbrev pub var_take : ℕ → Data → Said (List FieldRef)
var_take i d = needed VarsTake i (codes "take") d >>= listed VarsTake i 1 4 >>= each (field i) []

-- the names and the alternatives
abbrev pub Varied : Type 0
Varied = List (List ℕ) × List (List FieldRef)

-- a variable, on top of those before it
abbrev pub var : Varied → Data → Said Varied
var (names, takes) d = do
  ms ← object Vars (length names) d
  none ← no_stray Vars (length names) (codes "name" ∷ codes "take" ∷ []) ms
  name ← var_name (length names) names d
  take ← var_take (length names) d
  Ok (names ++ name ∷ [], takes ++ take ∷ [])

abbrev pub vars : Data → Said Varied
vars d = needed Vars 0 (codes "vars") d >>= listed Vars 0 1 16 >>= each var ([], [])

-- ---- filter, key, window, skew, profile

abbrev pub filter_text : Data → Said (List ℕ)
filter_text d = optional (codes "1") (short_text Filter) (codes "filter") d

-- with these names of variables and captures
abbrev pub filter : List (List ℕ) → List (List ℕ) → Data → Said (List ℕ × Expression)
filter variables points d = do
  given ← filter_text d
  e ← expression Filter One variables points given
  Ok (given, e)

abbrev pub key : List (List ℕ) → Data → Said (List ℕ)
key variables d = needed Key 0 (codes "key") d >>= listed Key 0 1 16 >>= each (another Key variables) []

abbrev pub window : Data → Said ℕ
window d = needed Window 0 (codes "window") d >>= number Window 0 >>= λ n. within Window 0 0 longest n n

abbrev pub skew : Data → Said ℕ
skew d = needed Skew 0 (codes "skew") d >>= number Skew 0 >>= λ n. within Skew 0 0 longest n n

abbrev pub profile : Data → Said Bool
profile d = optional false (flag Profile 0) (codes "profile") d
