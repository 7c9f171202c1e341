-- Captures, as they are printed, are read as the same.
use Rattle.std.proofs.Common.{◌≡◌, ℕ, ◌≤◌, Bool, true, false, not, List, [], ◌∷◌, ◌++◌, map, length, refl, ◌∙◌, subst, arith, append_assoc, append-nil, All}
use Rattle.std.specs.Prelude.{◌&&◌, ◌==◌, nat_le, ℤ, pos, unsigned_abs, Option, Some, None, IfSome, Ok, codes}
use Rattle.std.proofs.lemmas.List.Elements.{All-nil, All-head, All-tail}
use Rattle.serde_json.specs.Data.{Data}
use Rattle.serde_json.specs.View.{items_of}
use Rattle.job_values.specs.declared.member.Member.{Member}
use Rattle.job_values.specs.declared.member.Member.TheVariants.{Captures, CapturesName, CapturesFile}
use Rattle.job_values.specs.declared.fault.JobWhat.TheVariants.{BadName, Twice, Limit}
use Rattle.job_values.specs.Said.{◌>>=◌}
use Rattle.job_values.specs.Values.{text, needed, no_stray, object, items_length, each}
use Rattle.job_text.specs.Parts.{capture_value, capture_values}
use Rattle.job_table.proofs.Elements.{all_more}
use Rattle.job_table.specs.Limits.{longest, last_interface}
use Rattle.job_table.specs.Table.{Captured, no_captures, capture, captures, capture_members, capture_name, capture_file, capture_offset, capture_skew, capture_interface, new_name, has_zero, listed}
use Rattle.job_table.specs.Words.{is_identifier, is_among}
use Rattle.job_text.proofs.ClocksAgain.{offset_first, skew_first, interface_first, interface_second, offset_again, skew_again, interface_again, offset_read, skew_read, interface_read}
use Rattle.job_text.proofs.NewNames.{AllNew, all_new_more}
use Rattle.job_text.proofs.Said.{bound, tested, ok_same, kept}

abbrev pub fits : List ℕ → Bool
fits file = nat_le 1 (length file) && nat_le (length file) 255

-- each may be a file's name
abbrev pub AllFiles : List (List ℕ) → Type 0
AllFiles [] = Unit {0}
AllFiles (file ∷ files) = (fits file ≡ true) × (has_zero file ≡ false) × AllFiles files

pub all_files_more : (files : List (List ℕ)) (file : List ℕ) → AllFiles files → fits file ≡ true → has_zero file ≡ false → AllFiles (files ++ file ∷ [])
all_files_more [] file all f z = (f, z, tt)
all_files_more (one ∷ files) file all f z = (all.0, all.1, all_files_more files file all.2 f z)

-- ---- what was read

pub no : (t : Bool) → not t ≡ true → t ≡ false
no true e = cc
no false e = refl

pub new_named : (at : Member) (i : ℕ) (test : List ℕ → Bool) (earlier : List (List ℕ)) (d : Data) (name : List ℕ)
    → new_name at i test earlier d ≡ Ok name → (test name ≡ true) × (is_among earlier name ≡ false)
new_named at i test earlier d name e =
    let one = bound (text at i d) _ name e in
    let two = bound _ _ name one.2 in
    let good = tested at i BadName (test one.0) one.0 two.0 two.1 in
    let new = tested at i Twice (not (is_among earlier two.0)) two.0 name two.2 in
    (subst (λ n. test n ≡ true) (good.1 ∙ new.1) good.0, subst (λ n. is_among earlier n ≡ false) new.1 (no _ new.0))

filed : (i : ℕ) (d : Data) (file : List ℕ) → capture_file i d ≡ Ok file → (fits file ≡ true) × (has_zero file ≡ false)
filed i d file e =
    let one = bound (needed CapturesFile i (codes "file") d) _ file e in
    let two = bound (text CapturesFile i one.0) _ file one.2 in
    let three = bound _ _ file two.2 in
    let fit = tested CapturesFile i (Limit (length two.0)) (fits two.0) two.0 three.0 three.1 in
    let good = tested CapturesFile i BadName (not (has_zero three.0)) three.0 file three.2 in
    (subst (λ f. fits f ≡ true) (fit.1 ∙ good.1) fit.0, subst (λ f. has_zero f ≡ false) good.1 (no _ good.0))

-- in version 1 no capture has an offset or a skew of its own
abbrev pub AreUnclocked : List ℤ → List (Option ℕ) → Type 0
AreUnclocked offsets own_skews = All (λ offset. offset ≡ pos 0) offsets × All (λ own. own ≡ None) own_skews

-- in versions 1 and 2 no capture has an interface
abbrev pub AreUnnamed : List (Option ℕ) → Type 0
AreUnnamed interfaces = All (λ own. own ≡ None) interfaces

abbrev pub AreCaptures : (version : ℕ) → Captured → Type 0
AreCaptures version c = AllNew is_identifier [] c.names × AllFiles c.files × (version ≡ 1 → AreUnclocked c.offsets c.own_skews)
    × (version ≡ 1 → AreUnnamed c.interfaces) × (version ≡ 2 → AreUnnamed c.interfaces)

one_more : (version : ℕ) (before : Captured) (d : Data) (t : Captured) → AreCaptures version before → capture version before d ≡ Ok t → AreCaptures version t
one_more version before d t all e =
    let i = length before.names in
    let one = bound (object Captures i d) _ t e in
    let two = bound (no_stray Captures i (capture_members version) one.0) _ t one.2 in
    let three = bound (capture_name i before.names d) _ t two.2 in
    let four = bound (capture_file i d) _ t three.2 in
    let offset = bound (capture_offset i d) _ t four.2 in
    let own = bound (capture_skew i d) _ t offset.2 in
    let interface = bound (capture_interface i d) _ t own.2 in
    let five = bound (needed CapturesName i (codes "name") d) _ three.0 three.1 in
    let good = new_named CapturesName i is_identifier before.names five.0 three.0 five.2 in
    let file = filed i d four.0 four.1 in
    subst (AreCaptures version) (ok_same interface.2) (
      all_new_more is_identifier [] before.names three.0 all.0 good.0 good.1,
      all_files_more before.files four.0 all.1 file.0 file.1,
      λ first. (
        all_more (λ offset. offset ≡ pos 0) before.offsets offset.0 (all.2 first).0 (offset_first version first i d one.0 two.0 one.1 two.1 offset.0 offset.1),
        all_more (λ own. own ≡ None) before.own_skews own.0 (all.2 first).1 (skew_first version first i d one.0 two.0 one.1 two.1 own.0 own.1),
      ),
      λ first. all_more (λ own. own ≡ None) before.interfaces interface.0 (all.3 first) (interface_first version first i d one.0 two.0 one.1 two.1 interface.0 interface.1),
      λ second. all_more (λ own. own ≡ None) before.interfaces interface.0 (all.4 second) (interface_second version second i d one.0 two.0 one.1 two.1 interface.0 interface.1),
    )

pub captures_kept : (version : ℕ) (d : Data) (c : Captured) → captures version d ≡ Ok c → AreCaptures version c
captures_kept version d c e =
    let one = bound (needed Captures 0 (codes "captures") d >>= listed Captures 0 1 64) (each (capture version) no_captures) c e in
    kept (AreCaptures version) (capture version) (one_more version) no_captures one.0 c (
      tt,
      tt,
      λ first. (All-nil (λ offset. offset ≡ pos 0), All-nil (λ own. own ≡ None)),
      λ first. All-nil (λ own. own ≡ None),
      λ second. All-nil (λ own. own ≡ None),
    ) one.2

-- ---- what is printed

-- these captures, and behind them one more
abbrev with_one : Captured → (name file : List ℕ) → ℤ → Option ℕ → Option ℕ → Captured
with_one before name file offset own interface = record {
  names = before.names ++ name ∷ [];
  files = before.files ++ file ∷ [];
  offsets = before.offsets ++ offset ∷ [];
  own_skews = before.own_skews ++ own ∷ [];
  interfaces = before.interfaces ++ interface ∷ [];
}

none_some : {B : Type 0} {n : ℕ} → Some n ≡ None → B
none_some e = cc

-- what is printed of an interface only in version 3
abbrev IsPrinted : (second : Bool) → Option ℕ → Type 0
IsPrinted second own = IfSome own (λ n. n ≤ last_interface) × (second ≡ true → own ≡ None)

one_again : (version : ℕ) (before : Captured) (name file : List ℕ) (offset : ℤ) (skew : ℕ) (own : Option ℕ) → is_identifier name ≡ true → is_among before.names name ≡ false
    → fits file ≡ true → has_zero file ≡ false → unsigned_abs offset ≤ longest → skew ≤ longest → (first second : Bool) → (version == 1) ≡ first → (version == 2) ≡ second
    → IsPrinted second own
    → capture version before (capture_value version name file offset skew own) ≡ Ok (with_one before name file (offset_read first offset) (skew_read first skew) (interface_read first own))
one_again version before name file offset skew own good new fit zero moved late true second e f printed = rw (e, good, new, fit, zero) refl
one_again version before name file offset skew None good new fit zero moved late false true e f printed =
    rw (e, f, good, new, fit, zero, offset_again (length before.names) offset moved, skew_again (length before.names) skew late) refl
one_again version before name file offset skew None good new fit zero moved late false false e f printed =
    rw (e, f, good, new, fit, zero, offset_again (length before.names) offset moved, skew_again (length before.names) skew late) refl
one_again version before name file offset skew (Some n) good new fit zero moved late false true e f printed = none_some (printed.1 refl)
one_again version before name file offset skew (Some n) good new fit zero moved late false false e f printed =
    rw (e, f, good, new, fit, zero, offset_again (length before.names) offset moved, skew_again (length before.names) skew late, interface_again (length before.names) n printed.0) refl

pub captures_again : (version : ℕ) (before : Captured) (names files : List (List ℕ)) (offsets : List ℤ) (skews : List ℕ) (interfaces : List (Option ℕ))
    → AllNew is_identifier before.names names → AllFiles files → All (λ offset. unsigned_abs offset ≤ longest) offsets → All (λ skew. skew ≤ longest) skews
    → All (λ own. IfSome own (λ n. n ≤ last_interface)) interfaces → ((version == 2) ≡ true → AreUnnamed interfaces)
    → length files ≡ length names → length offsets ≡ length names → length skews ≡ length names → length interfaces ≡ length names
    → each (capture version) before (items_of (capture_values version names files offsets skews interfaces)) ≡ Ok (record {
      names = before.names ++ names;
      files = before.files ++ files;
      offsets = before.offsets ++ map (offset_read (version == 1)) offsets;
      own_skews = before.own_skews ++ map (skew_read (version == 1)) skews;
      interfaces = before.interfaces ++ map (interface_read (version == 1)) interfaces;
    })
captures_again version before [] [] [] [] [] all fs moved late few unnamed e f g h =
    rw (append-nil before.names, append-nil before.files, append-nil before.offsets, append-nil before.own_skews, append-nil before.interfaces) refl
captures_again version before [] [] [] [] (own ∷ interfaces) all fs moved late few unnamed e f g h = absurd (omega (arith, h))
captures_again version before [] [] [] (s ∷ skews) interfaces all fs moved late few unnamed e f g h = absurd (omega (arith, g))
captures_again version before [] [] (o ∷ offsets) skews interfaces all fs moved late few unnamed e f g h = absurd (omega (arith, f))
captures_again version before [] (file ∷ files) offsets skews interfaces all fs moved late few unnamed e f g h = absurd (omega (arith, e))
captures_again version before (n ∷ names) [] offsets skews interfaces all fs moved late few unnamed e f g h = absurd (omega (arith, e))
captures_again version before (n ∷ names) (file ∷ files) [] skews interfaces all fs moved late few unnamed e f g h = absurd (omega (arith, f))
captures_again version before (n ∷ names) (file ∷ files) (o ∷ offsets) [] interfaces all fs moved late few unnamed e f g h = absurd (omega (arith, g))
captures_again version before (n ∷ names) (file ∷ files) (o ∷ offsets) (s ∷ skews) [] all fs moved late few unnamed e f g h = absurd (omega (arith, h))
captures_again version before (n ∷ names) (file ∷ files) (o ∷ offsets) (s ∷ skews) (own ∷ interfaces) all fs moved late few unnamed e f g h =
    let first = version == 1 in
    let within : IfSome own (λ n. n ≤ last_interface) = All-head (λ (own : Option ℕ). IfSome own (λ n. n ≤ last_interface)) own interfaces few in
    rw (one_again version before n file o s own all.0 all.1 fs.0 fs.1 (All-head (λ offset. unsigned_abs offset ≤ longest) o offsets moved) (All-head (λ skew. skew ≤ longest) s skews late) first (version == 2) refl refl (within, λ second. All-head (λ (own : Option ℕ). own ≡ None) own interfaces (unnamed second)))
    (captures_again version (with_one before n file (offset_read first o) (skew_read first s) (interface_read first own)) names files offsets skews interfaces all.2 fs.2
    (All-tail (λ offset. unsigned_abs offset ≤ longest) o offsets moved) (All-tail (λ skew. skew ≤ longest) s skews late)
    (All-tail (λ (own : Option ℕ). IfSome own (λ n. n ≤ last_interface)) own interfaces few)
    (λ second. All-tail (λ (own : Option ℕ). own ≡ None) own interfaces (unnamed second))
    (omega (arith, e)) (omega (arith, f)) (omega (arith, g)) (omega (arith, h))
    ∙ rw (
      append_assoc before.names (n ∷ []) names,
      append_assoc before.files (file ∷ []) files,
      append_assoc before.offsets (offset_read first o ∷ []) (map (offset_read first) offsets),
      append_assoc before.own_skews (skew_read first s ∷ []) (map (skew_read first) skews),
      append_assoc before.interfaces (interface_read first own ∷ []) (map (interface_read first) interfaces),
    ) refl)

-- so many of these
pub captures_many : (version : ℕ) (names files : List (List ℕ)) (offsets : List ℤ) (skews : List ℕ) (interfaces : List (Option ℕ))
    → length files ≡ length names → length offsets ≡ length names → length skews ≡ length names → length interfaces ≡ length names
    → items_length (items_of (capture_values version names files offsets skews interfaces)) ≡ length names
captures_many version [] files offsets skews interfaces e f g h = refl
captures_many version (n ∷ names) [] offsets skews interfaces e f g h = absurd (omega (arith, e))
captures_many version (n ∷ names) (file ∷ files) [] skews interfaces e f g h = absurd (omega (arith, f))
captures_many version (n ∷ names) (file ∷ files) (o ∷ offsets) [] interfaces e f g h = absurd (omega (arith, g))
captures_many version (n ∷ names) (file ∷ files) (o ∷ offsets) (s ∷ skews) [] e f g h = absurd (omega (arith, h))
captures_many version (n ∷ names) (file ∷ files) (o ∷ offsets) (s ∷ skews) (own ∷ interfaces) e f g h =
    omega (arith, captures_many version names files offsets skews interfaces (omega (arith, e)) (omega (arith, f)) (omega (arith, g)) (omega (arith, h)))
