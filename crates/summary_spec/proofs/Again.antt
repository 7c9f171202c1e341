-- The canonical text of a job that was read is read as the same job.
use Rattle.std.proofs.Common.{◌≡◌, ℕ, ◌+◌, ◌<◌, ◌≤◌, List, [], ◌∷◌, ◌++◌, length, refl, sym, ap, ◌∙◌, subst, arith, All}
use Rattle.std.specs.Prelude.{◌==◌, ℤ, pos, Bool, true, false, map, Option, None, Ok, Some, nat_le, IsUtf8}
use Rattle.std.proofs.lemmas.Bool.{le-leb, eqb-true}
use Rattle.std.proofs.lemmas.List.Elements.{All-head, All-tail}
use Rattle.field_table.specs.declared.field_ref.FieldRef.{FieldRef}
use Rattle.serde_json.specs.Data.{Data}
use Rattle.serde_json.specs.Read.{read}
use Rattle.job_values.specs.declared.fault.JobWhat.TheVariants.{NotJson, Limit}
use Rattle.job_values.specs.declared.member.Member.TheVariants.{Whole, Key}
use Rattle.job_values.specs.Said.{Said, ◌>>=◌, or_fault, only_if}
use Rattle.job_values.specs.Values.{object, no_stray}
use Rattle.job_text.specs.Parts.{var_value, named}
use Rattle.summary_spec.specs.Canonical.{canonical_data, canonical}
use Rattle.summary_spec.specs.Declaration.{Declared}
use Rattle.job_table.specs.Limits.{newest_version, Counts, longest}
use Rattle.summary_spec.specs.Lawful.{IsLawful}
use Rattle.job_table.specs.QueryTable.{query}
use Rattle.summary_spec.specs.Reads.{most_bytes, json, members, declaration, reads}
use Rattle.job_table.specs.Table.{Captured, no_captures, version, vxlan_port, captures, skews_or, vars, filter, key, window, skew, profile, is_free}
use Rattle.job_table.specs.Words.{is_identifier}
use Rattle.job_text.proofs.CapturedAgain.{AllFiles, captures_kept, captures_again, captures_many}
use Rattle.job_text.proofs.ClocksAgain.{offset_read, skew_read, interface_read}
use Rattle.summary_spec.proofs.Depths.{json_again}
use Rattle.job_text.proofs.KeyAgain.{AllApart, AllOther, key_kept, numbers_again}
use Rattle.summary_spec.proofs.Lengths.{short_enough}
use Rattle.job_text.proofs.NewNames.{AllNew}
use Rattle.job_text.proofs.QueryAgain.{query_again}
use Rattle.job_text.proofs.Said.{bound, counted, ok_same}
use Rattle.job_text.proofs.VarsAgain.{AllTakes, vars_kept, vars_again, items_many, pairs_many}

-- what is known of a job that was read, beside that it is lawful
pub record IsSaid (d : Declared) : Type 0 where
  pub captures : AllNew is_identifier [] d.captures
  pub files : AllFiles d.files
  pub vars : AllNew is_free [] d.vars
  pub key : AllApart [] d.key

said : (v : Data) (d : Declared) → declaration v ≡ Ok d → IsSaid d
said v d e =
    let a = bound (object Whole 0 v) _ d e in
    let b = bound (no_stray Whole 0 members a.0) _ d a.2 in
    let c = bound (version v) _ d b.2 in
    let p = bound (vxlan_port v) _ d c.2 in
    let cs = bound (captures c.0 v) _ d p.2 in
    let vs = bound (vars v) _ d cs.2 in
    let f = bound (filter vs.0.0 cs.0.names v) _ d vs.2 in
    let k = bound (key vs.0.0 v) _ d f.2 in
    let w = bound (window v) _ d k.2 in
    let s = bound (skew v) _ d w.2 in
    let pr = bound (profile v) _ d s.2 in
    let q = bound (query vs.0.0 cs.0.names v) _ d pr.2 in
    let kept = captures_kept c.0 v cs.0 cs.1 in
    subst IsSaid (ok_same q.2) (record {
      captures = kept.0;
      files = kept.1;
      vars = vars_kept v vs.0 vs.1;
      key = key_kept vs.0.0 v k.0 k.1;
    })

-- ---- row by row

module _ (d : Declared) (lawful : IsLawful d) (known : IsSaid d) where
  -- what is read of the offsets and of the skews that are printed
  offsets_row : (first : Bool) → (d.version == 1) ≡ first → map (offset_read first) d.offsets ≡ d.offsets
  offsets_row true e = all_zero d.offsets (lawful.first_version (eqb-true d.version 1 e)).offsets
    where
      all_zero : (offsets : List ℤ) → All (λ offset. offset ≡ pos 0) offsets → map (offset_read true) offsets ≡ offsets
      all_zero [] all = refl
      all_zero (o ∷ offsets) all =
          ap (λ z. z ∷ map (offset_read true) offsets) (sym (All-head (λ offset. offset ≡ pos 0) o offsets all))
          ∙ ap (λ os. o ∷ os) (all_zero offsets (All-tail (λ offset. offset ≡ pos 0) o offsets all))
  offsets_row false e = same d.offsets
    where
      same : (offsets : List ℤ) → map (offset_read false) offsets ≡ offsets
      same [] = refl
      same (o ∷ offsets) = ap (λ os. o ∷ os) (same offsets)

  skews_row : (first : Bool) → (d.version == 1) ≡ first → skews_or d.skew (map (skew_read first) d.skews) ≡ d.skews
  skews_row true e = all_same d.skews (lawful.first_version (eqb-true d.version 1 e)).skews
    where
      all_same : (skews : List ℕ) → All (λ skew. skew ≡ d.skew) skews → skews_or d.skew (map (skew_read true) skews) ≡ skews
      all_same [] all = refl
      all_same (s ∷ skews) all =
          ap (λ n. n ∷ skews_or d.skew (map (skew_read true) skews)) (sym (All-head (λ skew. skew ≡ d.skew) s skews all))
          ∙ ap (λ ss. s ∷ ss) (all_same skews (All-tail (λ skew. skew ≡ d.skew) s skews all))
  skews_row false e = same d.skews
    where
      same : (skews : List ℕ) → skews_or d.skew (map (skew_read false) skews) ≡ skews
      same [] = refl
      same (s ∷ skews) = ap (λ ss. s ∷ ss) (same skews)

  interfaces_row : (first : Bool) → (d.version == 1) ≡ first → map (interface_read first) d.interfaces ≡ d.interfaces
  interfaces_row true e = all_none d.interfaces (lawful.early_versions (omega (arith, eqb-true d.version 1 e)))
    where
      all_none : (interfaces : List (Option ℕ)) → All (λ own. own ≡ None) interfaces → map (interface_read true) interfaces ≡ interfaces
      all_none [] all = refl
      all_none (own ∷ interfaces) all =
          ap (λ (o : Option ℕ). o ∷ map (interface_read true) interfaces) (sym (All-head (λ (own : Option ℕ). own ≡ None) own interfaces all))
          ∙ ap (λ (os : List (Option ℕ)). own ∷ os) (all_none interfaces (All-tail (λ (own : Option ℕ). own ≡ None) own interfaces all))
  interfaces_row false e = same d.interfaces
    where
      same : (interfaces : List (Option ℕ)) → map (interface_read false) interfaces ≡ interfaces
      same [] = refl
      same (own ∷ interfaces) = ap (λ (os : List (Option ℕ)). own ∷ os) (same interfaces)

  unnamed : (d.version == 2) ≡ true → All (λ own. own ≡ None) d.interfaces
  unnamed second = lawful.early_versions (omega (arith, eqb-true d.version 2 second))

  abbrev captured : Captured
  captured = record {
    names = d.captures;
    files = d.files;
    offsets = map (offset_read (d.version == 1)) d.offsets;
    own_skews = map (skew_read (d.version == 1)) d.skews;
    interfaces = map (interface_read (d.version == 1)) d.interfaces;
  }

  captures_row : captures d.version (canonical_data d) ≡ Ok captured
  captures_row =
      rw (captures_many d.version d.captures d.files d.offsets d.skews d.interfaces lawful.files lawful.offsets lawful.skews lawful.interfaces, counted 1 64 (length d.captures) lawful.captures.0 lawful.captures.1)
      (captures_again d.version no_captures d.captures d.files d.offsets d.skews d.interfaces known.captures known.files lawful.offset_limits lawful.skew_limits lawful.interface_limits unnamed lawful.files lawful.offsets lawful.skews lawful.interfaces)

  version_row : version (canonical_data d) ≡ Ok d.version
  version_row = rw (counted 1 newest_version d.version lawful.version.0 lawful.version.1) refl

  -- the job with what is read of its offsets, its skews and its interfaces
  clocks_row : ◌≡◌ {A = Said Declared} (Ok (record d { offsets = captured.offsets; skews = skews_or d.skew captured.own_skews; interfaces = captured.interfaces })) (Ok d)
  clocks_row = rw (offsets_row (d.version == 1) refl, skews_row (d.version == 1) refl, interfaces_row (d.version == 1) refl) refl

  takes_all : (takes : List (List FieldRef)) → All (Counts 1 4) takes → AllTakes takes
  takes_all [] all = tt
  takes_all (take ∷ takes) all = (All-head (Counts 1 4) take takes all, takes_all takes (All-tail (Counts 1 4) take takes all))

  vars_row : vars (canonical_data d) ≡ Ok (d.vars, d.takes)
  vars_row =
      rw (pairs_many var_value d.vars d.takes lawful.takes, counted 1 16 (length d.vars) lawful.vars.0 lawful.vars.1)
      (vars_again [] d.vars [] d.takes known.vars (takes_all d.takes lawful.alternatives) lawful.takes)

  filter_row : filter d.vars d.captures (canonical_data d) ≡ Ok (d.filter_text, d.filter)
  filter_row = rw (counted 0 1024 (length d.filter_text) (omega arith) lawful.filter.short, lawful.filter.gives) refl

  others : (most : ℕ) (earlier numbers : List ℕ) → AllApart earlier numbers → All (λ v. v < most) numbers → AllOther most earlier numbers
  others most earlier [] apart all = tt
  others most earlier (n ∷ numbers) apart all =
      (All-head (λ v. v < most) n numbers all, apart.0, others most (earlier ++ n ∷ []) numbers apart.1 (All-tail (λ v. v < most) n numbers all))

  key_row : key d.vars (canonical_data d) ≡ Ok d.key
  key_row =
      rw (items_many (named d.vars) d.key, counted 1 16 (length d.key) lawful.key.0 lawful.key.1)
      (numbers_again Key is_free d.vars [] d.key known.vars (others (length d.vars) [] d.key known.key lawful.key_variables))

  port_row : vxlan_port (canonical_data d) ≡ Ok d.port
  port_row = rw (counted 1 65535 d.port lawful.port.0 (omega (arith, lawful.port.1))) refl

  window_row : window (canonical_data d) ≡ Ok d.window
  window_row = rw (counted 0 longest d.window (omega arith) lawful.window) refl

  skew_row : skew (canonical_data d) ≡ Ok d.skew
  skew_row = rw (counted 0 longest d.skew (omega arith) lawful.skew) refl

  query_row : query d.vars d.captures (canonical_data d) ≡ Ok d.query
  query_row = query_again d.vars d.captures d.query known.vars known.captures lawful.captures.1 lawful.query

  follows : {A B : Type 0} (m : Said A) (k : A → Said B) (a : A) (b : B) → m ≡ Ok a → k a ≡ Ok b → (m >>= k) ≡ Ok b
  follows m k a b e h = subst (λ n. (n >>= k) ≡ Ok b) (sym e) h

  declared_again : declaration (canonical_data d) ≡ Ok d
  declared_again =
      follows (version (canonical_data d)) _ d.version d version_row
      (follows (vxlan_port (canonical_data d)) _ d.port d port_row
      (follows (captures d.version (canonical_data d)) _ captured d captures_row
      (follows (vars (canonical_data d)) _ (d.vars, d.takes) d vars_row
      (follows (filter d.vars d.captures (canonical_data d)) _ (d.filter_text, d.filter) d filter_row
      (follows (key d.vars (canonical_data d)) _ d.key d key_row
      (follows (window (canonical_data d)) _ d.window d window_row
      (follows (skew (canonical_data d)) _ d.skew d skew_row
      (follows (query d.vars d.captures (canonical_data d)) _ d.query d query_row clocks_row))))))))

-- ---- the whole

pub json_said : (bytes : List ℕ) (d : Declared) → reads bytes ≡ Ok d → IsSaid d
unfolding reads
json_said bytes d e =
    let one = bound (only_if Whole 0 (Limit (most_bytes + 1)) (nat_le (length bytes) most_bytes) bytes) _ d e in
    let two = bound (or_fault Whole 0 NotJson (json one.0)) _ d one.2 in
    said two.0 d two.2

pub reads_again : (bytes text : List ℕ) (d : Declared) → IsLawful d → json text ≡ Some (canonical_data d) → length text ≤ most_bytes
    → reads bytes ≡ Ok d → reads text ≡ Ok d
unfolding reads
reads_again bytes text d lawful value short read =
    rw (le-leb (length text) most_bytes short, value) (declared_again d lawful (json_said bytes d read))

-- the same, of a text that was copied from one that is lent
pub lent_again : (bytes text lent own : List ℕ) (d : Declared) → IsLawful d → text ≡ lent → lent ≡ own → IsUtf8 lent → own ≡ canonical d → read own ≡ Some (canonical_data d)
    → reads bytes ≡ Ok d → reads text ≡ Ok d
lent_again bytes text lent own d lawful copy is utf8 written value read_before =
    let known = json_said bytes d read_before in
    let short : length text ≤ most_bytes = subst (λ t. length t ≤ most_bytes) (sym (copy ∙ is ∙ written)) (short_enough d lawful known.captures known.files known.vars) in
    reads_again bytes text d lawful
    (subst (λ t. json t ≡ Some (canonical_data d)) (sym copy) (json_again lent (canonical_data d) utf8 (ap read is ∙ value))) short read_before
