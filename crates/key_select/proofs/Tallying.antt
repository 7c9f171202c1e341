-- A tally that takes up one record more.
use Rattle.std.proofs.Common.{ℕ, w64, to_z, of_z, List, [], ◌∷◌, ◌++◌, ◌+◌, ◌≡◌, Bool, Option, Some, max, fold, map, length, refl, sym, ap, ◌∙◌, append_assoc, arith, length-append, cond}
use Rattle.std.specs.Prelude.{count_by}
use Rattle.std.proofs.lemmas.List.{append-nil}
use Rattle.std.proofs.lemmas.List.Sums.{sum_by-append}
use Rattle.ds_base.specs.declared.summary.Summary.{Summary}
use Rattle.pcap_reader.specs.Captured.{Captured}
use Rattle.query_lang.specs.Groups.{greatest}
use Rattle.summary_spec.specs.Declaration.{Declared}
use Rattle.key_select.specs.declared.tally.Tally.{Tally}
use Rattle.key_select.specs.Sum.{sum_at}
use Rattle.key_select.specs.Times.{moved, record_time}
use Rattle.key_select.specs.Late.{greatest_time, is_late}
use Rattle.key_select.specs.Fates.{Fate, Unmatched, Late, Accepted, fate_by, fate_of, fates_after, fates_of, is_unmatched, is_too_late, summaries_of, accepted_of, accepted_after}
use Rattle.key_select.specs.Tally.{Tallies, newest_after}
use Rattle.key_select.proofs.Jobs.{offset_read}

-- ---- in two parts

-- the fates of records and of further ones
pub fates_after-append : (job : Declared) (capture : ℕ) (earlier rs later : List Captured)
    → fates_after job capture earlier (rs ++ later) ≡ fates_after job capture earlier rs ++ fates_after job capture (earlier ++ rs) later
fates_after-append job capture earlier [] later = ap (λ (xs : List Captured). fates_after job capture xs later) (sym (append-nil earlier))
fates_after-append job capture earlier (q ∷ rs) later =
    ap (λ fates. fate_of job capture earlier q ∷ fates) (fates_after-append job capture (earlier ++ q ∷ []) rs later
    ∙ ap (λ (xs : List Captured). fates_after job capture (earlier ++ q ∷ []) rs ++ fates_after job capture xs later) (append_assoc earlier (q ∷ []) rs))

pub summaries_of-append : (xs ys : List Fate) → summaries_of (xs ++ ys) ≡ summaries_of xs ++ summaries_of ys
summaries_of-append [] ys = refl
summaries_of-append (Unmatched ∷ xs) ys = summaries_of-append xs ys
summaries_of-append (Late ∷ xs) ys = summaries_of-append xs ys
summaries_of-append (Accepted s ∷ xs) ys = ap (λ zs. s ∷ zs) (summaries_of-append xs ys)

-- what is accepted of two parts
pub accepted_parts : (job : Declared) (capture : ℕ) (taken later : List Captured)
    → accepted_of job capture (taken ++ later) ≡ accepted_of job capture taken ++ accepted_after job capture taken later
accepted_parts job capture taken later =
    ap summaries_of (fates_after-append job capture [] taken later) ∙ summaries_of-append (fates_of job capture taken) (fates_after job capture taken later)

-- ---- the greatest time

fold-max : (n t : ℕ) (ts : List ℕ) → fold max n (ts ++ t ∷ []) ≡ max (fold max n ts) t
fold-max n t [] = refl
fold-max n t (u ∷ ts) = fold-max (max n u) t ts

greatest-append : (ts : List ℕ) (t : ℕ) → greatest (ts ++ t ∷ []) ≡ newest_after t (greatest ts)
greatest-append [] t = refl
greatest-append (u ∷ ts) t = ap Some (fold-max u t ts)

times-append : (job : Declared) (capture : ℕ) (rs : List Captured) (r : Captured)
    → map (record_time job capture) (rs ++ r ∷ []) ≡ map (record_time job capture) rs ++ record_time job capture r ∷ []
times-append job capture [] r = refl
times-append job capture (q ∷ rs) r = ap (λ ts. record_time job capture q ∷ ts) (times-append job capture rs r)

pub greatest_time-append : (job : Declared) (capture : ℕ) (rs : List Captured) (r : Captured)
    → greatest_time job capture (rs ++ r ∷ []) ≡ newest_after (record_time job capture r) (greatest_time job capture rs)
greatest_time-append job capture rs r = ap greatest (times-append job capture rs r) ∙ greatest-append (map (record_time job capture) rs) (record_time job capture r)

-- ---- one record more

count-append : (p : Fate → Bool) (fates : List Fate) (fate : Fate) → count_by p (fates ++ fate ∷ []) ≡ count_by p fates + count_by p (fate ∷ [])
count-append p fates fate = sum_by-append (λ x. cond (p x) 1 0) fates (fate ∷ [])

-- the time of a record by the tally's offset, which lies in a signed word
pub time_here : (job : Declared) (capture : ℕ) (tally : Tally) (taken : List Captured) (r : Captured) (time : ℕ)
    → Tallies job capture tally taken → time ≡ moved (to_z w64 (of_z w64 tally.offset)) r.time → time ≡ record_time job capture r
time_here job capture tally taken r time h e = e ∙ ap (λ offset. moved offset r.time) (offset_read tally.offset tally.near ∙ h.offset)

-- what becomes of a record with this time, by its summary and by the newest time of the tally of those before it
pub fate_here : (job : Declared) (capture : ℕ) (tally : Tally) (taken : List Captured) (r : Captured) (time : ℕ) (o : Option Summary) (late : Bool)
    → Tallies job capture tally taken → time ≡ record_time job capture r → sum_at job tally.capture time r ≡ o → is_late time tally.skew tally.newest ≡ late
    → fate_by o late ≡ fate_of job capture taken r
fate_here job capture tally taken r time o late h e summed behind =
    let same : fate_by (sum_at job tally.capture time r) (is_late time tally.skew tally.newest) ≡ fate_of job capture taken r = rw (h.capture_is, h.newest, h.skew, e) refl in
    sym (ap (λ o. fate_by o (is_late time tally.skew tally.newest)) summed ∙ ap (fate_by o) behind) ∙ same

-- a record of this fate and time was counted
pub record CountsOne (fate : Fate) (time : ℕ) (old new : Tally) : Type 0 where
  pub capture : new.capture ≡ old.capture
  pub records : new.records ≡ old.records + 1
  pub unmatched : new.unmatched ≡ old.unmatched + count_by is_unmatched (fate ∷ [])
  pub late : new.late ≡ old.late + count_by is_too_late (fate ∷ [])
  pub accepted : new.accepted ≡ old.accepted + length (summaries_of (fate ∷ []))
  pub newest : new.newest ≡ newest_after time old.newest
  pub offset : new.offset ≡ old.offset
  pub skew : new.skew ≡ old.skew

-- a tally of some records that counts one more is that of all of them
pub tallies_more : (job : Declared) (capture : ℕ) (old new : Tally) (taken : List Captured) (r : Captured) (time : ℕ) (fate : Fate)
    → Tallies job capture old taken → time ≡ record_time job capture r → fate ≡ fate_of job capture taken r → CountsOne fate time old new
    → Tallies job capture new (taken ++ r ∷ [])
tallies_more job capture old new taken r time fate h e is k =
    let fates : fates_of job capture (taken ++ r ∷ []) ≡ fates_of job capture taken ++ fate ∷ [] =
    fates_after-append job capture [] taken (r ∷ []) ∙ ap (λ f. fates_of job capture taken ++ f ∷ []) (sym is) in
    let unmatched = ap (count_by is_unmatched) fates ∙ count-append is_unmatched (fates_of job capture taken) fate in
    let late = ap (count_by is_too_late) fates ∙ count-append is_too_late (fates_of job capture taken) fate in
    let summaries = ap summaries_of fates ∙ summaries_of-append (fates_of job capture taken) (fate ∷ []) in
    record {
      capture_is = k.capture ∙ h.capture_is;
      offset = k.offset ∙ h.offset;
      skew = k.skew ∙ h.skew;
      records = omega (arith, k.records, h.records, length-append taken (r ∷ []));
      unmatched = k.unmatched ∙ ap (λ n. n + count_by is_unmatched (fate ∷ [])) h.unmatched ∙ sym unmatched;
      late = k.late ∙ ap (λ n. n + count_by is_too_late (fate ∷ [])) h.late ∙ sym late;
      accepted =
          k.accepted ∙ ap (λ n. n + length (summaries_of (fate ∷ []))) h.accepted
          ∙ sym (ap length summaries ∙ length-append (accepted_of job capture taken) (summaries_of (fate ∷ [])));
      newest = k.newest ∙ ap (newest_after time) h.newest ∙ ap (λ t. newest_after t (greatest_time job capture taken)) e ∙ sym (greatest_time-append job capture taken r);
    }
