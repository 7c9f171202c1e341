-- Sources that are given back one by one.
use Rattle.std.proofs.Common.{ℕ, zero, suc, List, [], ◌∷◌, ◌++◌, ◌≡◌, ◌<◌, ◌≤◌, ◌+◌, length, get_or, refl, sym, subst, ◌∙◌, inl, inr, arith, ⊎_elim}
use Rattle.std.specs.Prelude.{◌≢◌, IsTrue}
use Rattle.std.proofs.lemmas.Bool.{cases_lt}
use Rattle.std.proofs.lemmas.List.{length-append, get_or_append_left, get_or_push}
use Rattle.std.proofs.lemmas.List.Elements.{All-get_or, All-from_get_or}
use Rattle.ds_base.specs.Faults.{Rose}
use Rattle.ds_base.specs.Outside.{FolderSeen, FolderStays, SourceSeen}
use Rattle.job_run.specs.Sources.{AreQuiet}
use Rattle.report_run.specs.Giving.{Grows, GivesBack}

rose_then : (a b c : ℕ) → Rose a b → Grows b c → Rose a c
rose_then a b c (inl less) (inl same) = inl (omega (arith, less, same))
rose_then a b c (inl less) (inr (inl more)) = inl (omega (arith, less, more))
rose_then a b c (inl less) (inr (inr full)) = inl (omega (arith, less, full.1))
rose_then a b c (inr full) (inl same) = inr (full.0, same ∙ full.1)
rose_then a b c (inr full) (inr (inl more)) = inl (omega (arith, full.1, more))
rose_then a b c (inr full) (inr (inr later)) = inr (full.0, later.1 ∙ full.1)

then_rose : (a b c : ℕ) → Grows a b → Rose b c → Rose a c
then_rose a b c (inl same) rose = subst (λ (n : ℕ). Rose n c) same rose
then_rose a b c (inr first) rose = rose_then a b c first (inr rose)

then_grows : (a b c : ℕ) → Grows a b → Grows b c → Grows a c
then_grows a b c (inl same) (inl also) = inl (also ∙ same)
then_grows a b c (inl same) (inr rose) = inr (then_rose a b c (inl same) rose)
then_grows a b c (inr rose) later = inr (rose_then a b c rose later)

-- by the count of the source that is given back
grows_by : (count old new : ℕ) → (count ≡ 0 → new ≡ old) → (count ≢ 0 → Rose old new) → Grows old new
grows_by zero old new same rose = inl (same refl)
grows_by (suc n) old new same rose = inr (rose (λ none. absurd (let no : suc n ≡ 0 = none in cc)))

-- no source changes nothing
pub gives_none : (folder : FolderSeen) → GivesBack [] folder folder
gives_none folder = record {
  stays = record { told = refl; files = λ told. refl };
  quiet = λ all. refl;
  rose = λ c d less. absurd (let none : c < 0 = less in omega (arith, none));
  grows = inl refl;
}

-- the last one, and then those before it
pub gives_last : (sources : List SourceSeen) (last : SourceSeen) (before mid after : FolderSeen) → FolderStays before mid
    → (last.faults ≡ 0 → mid.faults ≡ before.faults) → (last.faults ≢ 0 → Rose before.faults mid.faults) → GivesBack sources mid after
    → GivesBack (sources ++ last ∷ []) before after
gives_last sources last before mid after stays same rose given =
    let more : length (sources ++ last ∷ []) ≡ length sources + 1 = length-append sources (last ∷ []) in
    let first : Grows before.faults mid.faults = grows_by last.faults before.faults mid.faults same rose in
    record {
      stays = record { told = given.stays.told ∙ stays.told; files = λ told. given.stays.files (subst IsTrue (sym stays.told) told) ∙ stays.files told };
      quiet = λ all.
          let here : last.faults ≡ 0 =
          subst (λ (s : SourceSeen). s.faults ≡ 0) (get_or_push sources last last (length sources) refl)
          (All-get_or (λ (s : SourceSeen). s.faults ≡ 0) (sources ++ last ∷ []) (length sources) last (omega (arith, more)) all) in
          let others : AreQuiet sources =
          All-from_get_or (λ (s : SourceSeen). s.faults ≡ 0) sources last (λ i less.
          subst (λ (s : SourceSeen). s.faults ≡ 0) (get_or_append_left sources (last ∷ []) last i less)
          (All-get_or (λ (s : SourceSeen). s.faults ≡ 0) (sources ++ last ∷ []) i last (omega (arith, more, less)) all)) in
          given.quiet others ∙ same here;
      rose = λ c d less some.
          ⊎_elim
          (λ (before_last : c < length sources).
          then_rose before.faults mid.faults after.faults first
          (given.rose c d before_last (subst (λ (s : SourceSeen). 1 ≤ s.faults) (get_or_append_left sources (last ∷ []) d c before_last) some)))
          (λ (at_last : length sources ≤ c).
          let is : c ≡ length sources = omega (arith, more, less, at_last) in
          let has : 1 ≤ last.faults =
          subst (λ (s : SourceSeen). 1 ≤ s.faults) (get_or_push sources last d (length sources) refl) (subst (λ (n : ℕ). 1 ≤ (get_or (sources ++ last ∷ []) n d).faults) is some) in
          rose_then before.faults mid.faults after.faults (rose (λ none. absurd (omega (arith, none, has)))) given.grows)
          (cases_lt c (length sources));
      grows = then_grows before.faults mid.faults after.faults first given.grows;
    }
