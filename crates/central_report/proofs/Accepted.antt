-- The accepted summaries of all captures.
use Rattle.std.proofs.Common.{ℕ, suc, List, [], ◌∷◌, ◌++◌, ◌≡◌, ◌<◌, ◌≤◌, ◌+◌, ◌*◌, length, sym, subst, ◌∙◌, arith, length-append}
use Rattle.std.specs.Prelude.{◌⊎◌, All}
use Rattle.std.proofs.lemmas.List.Elements.{All-nil, All-cons, All-append}
use Rattle.ds_base.specs.declared.stamp.Stamp.{Stamp}
use Rattle.ds_base.specs.declared.summary.Summary.{Summary}
use Rattle.ds_base.specs.Order.{Precedes}
use Rattle.key_select.specs.Fates.{accepted_of}
use Rattle.key_select.specs.Wanted.{wanted_of, good_of}
use Rattle.pcap_reader.proofs.Numbers.{good_numbered}
use Rattle.summary_spec.specs.Declaration.{Declared}
use Rattle.summary_spec.specs.Lawful.{IsLawful}
use Rattle.window_grouper.specs.Sorted.{DiffersFromAll, StampsDiffer}
use Rattle.central_report.specs.Laws.{IsSummaryOf, AcceptedAreReportable}
use Rattle.central_report.specs.Report.{accepted_from}
use Rattle.pcap_reader.proofs.Numbers.{good_few}
use Rattle.central_report.proofs.Numbered.{AreFrom, of_numbered, accepted_few}

-- ---- stamps

-- each summary is of this capture or a later one
abbrev AreBehind : (capture : ℕ) → List Summary → Type 0
AreBehind capture [] = Unit {0}
AreBehind capture (s ∷ ss) = (capture ≤ s.at.capture) × AreBehind capture ss

-- of two stamps of different captures one is before the other
apart : (a b : Stamp) → a.capture < b.capture → Precedes a b ⊎ Precedes b a
apart a b less = grind arith

differs_behind : (at : Stamp) (ss : List Summary) → AreBehind (suc at.capture) ss → DiffersFromAll at ss
differs_behind at [] h = tt
differs_behind at (s ∷ ss) h = (apart at s.at (omega (arith, h.0)), differs_behind at ss h.1)

differs_append : (at : Stamp) (xs ys : List Summary) → DiffersFromAll at xs → DiffersFromAll at ys → DiffersFromAll at (xs ++ ys)
differs_append at [] ys h k = k
differs_append at (x ∷ xs) ys h k = (h.0, differs_append at xs ys h.1 k)

behind_capture : (a b : ℕ) (ss : List Summary) → a ≡ b → AreBehind (suc b) ss → AreBehind (suc a) ss
behind_capture a b ss e h = subst (λ (c : ℕ). AreBehind (suc c) ss) (sym e) h

-- the summaries of one capture before those of later ones
differ_append : (vars capture n : ℕ) (xs ys : List Summary) → AreFrom vars capture n xs → StampsDiffer xs → AreBehind (suc capture) ys → StampsDiffer ys
    → StampsDiffer (xs ++ ys)
differ_append vars capture n [] ys from h behind k = k
differ_append vars capture n (x ∷ xs) ys from h behind k = (
  differs_append x.at xs ys h.0 (differs_behind x.at ys (behind_capture x.at.capture capture ys from.1 behind)),
  differ_append vars capture n xs ys from.3 h.1 behind k,
)

behind_earlier : (c d : ℕ) (ss : List Summary) → c ≤ d → AreBehind d ss → AreBehind c ss
behind_earlier c d [] le h = tt
behind_earlier c d (s ∷ ss) le h = (omega (arith, h.0), behind_earlier c d ss le h.1)

behind_from : (vars capture n : ℕ) (xs ys : List Summary) → AreFrom vars capture n xs → AreBehind capture ys → AreBehind capture (xs ++ ys)
behind_from vars capture n [] ys from h = h
behind_from vars capture n (x ∷ xs) ys from h = (omega (arith, from.1), behind_from vars capture n xs ys from.3 h)

-- the accepted summaries of the captures from this number on
apart_from : (job : Declared) (capture : ℕ) (files : List (List ℕ))
    → AreBehind capture (accepted_from job capture files) × StampsDiffer (accepted_from job capture files)
apart_from job capture [] = (tt, tt)
apart_from job capture (bytes ∷ files) =
    let vars = length job.takes in
    let one : List Summary = accepted_of job capture (good_of job capture bytes).records in
    let others : List Summary = accepted_from job (capture + 1) files in
    let mine = of_numbered job capture [] (good_of job capture bytes).records 0 (good_numbered (wanted_of job capture) bytes) in
    let rest = apart_from job (capture + 1) files in (
      behind_from vars capture 0 one others mine.0 (behind_earlier capture (capture + 1) others (omega arith) rest.0),
      differ_append vars capture 0 one others mine.0 mine.1 (behind_earlier (suc capture) (capture + 1) others (omega arith) rest.0) rest.1,
    )

-- ---- captures and values

named_from : (job : Declared) (vars capture n : ℕ) (ss : List Summary) → vars ≡ length job.vars → capture < length job.captures → AreFrom vars capture n ss
    → All (IsSummaryOf job) ss
named_from job vars capture n [] v less h = All-nil (IsSummaryOf job)
named_from job vars capture n (s ∷ ss) v less h =
    All-cons (IsSummaryOf job) s ss (omega (arith, h.1), h.2 ∙ v) (named_from job vars capture n ss v less h.3)

all_named : (job : Declared) (capture : ℕ) (files : List (List ℕ)) → IsLawful job → capture + length files ≤ length job.captures
    → All (IsSummaryOf job) (accepted_from job capture files)
all_named job capture [] lawful some = All-nil (IsSummaryOf job)
all_named job capture (bytes ∷ files) lawful some =
    let mine = of_numbered job capture [] (good_of job capture bytes).records 0 (good_numbered (wanted_of job capture) bytes) in
    All-append (IsSummaryOf job) (accepted_of job capture (good_of job capture bytes).records) (accepted_from job (capture + 1) files)
    (named_from job (length job.takes) capture 0 (accepted_of job capture (good_of job capture bytes).records) lawful.takes (omega (arith, some)) mine.0)
    (all_named job (capture + 1) files lawful (omega (arith, some)))

-- ---- how many

few_from : (job : Declared) (capture : ℕ) (files : List (List ℕ)) → length (accepted_from job capture files) ≤ length files * 1099511627776
few_from job capture [] = omega arith
few_from job capture (bytes ∷ files) =
    let one : List Summary = accepted_of job capture (good_of job capture bytes).records in
    let others : List Summary = accepted_from job (capture + 1) files in
    let mine : length one ≤ length (good_of job capture bytes).records = accepted_few job capture [] (good_of job capture bytes).records in
    let few : length (good_of job capture bytes).records ≤ 1099511627776 = good_few (wanted_of job capture) bytes in
    let rest : length others ≤ length files * 1099511627776 = few_from job (capture + 1) files in
    omega (arith, length-append one others, mine, few, rest)

pub accepted_reportable : AcceptedAreReportable
accepted_reportable job files lawful some = record {
  differ = (apart_from job 0 files).1;
  of_job = all_named job 0 files lawful (omega (arith, some));
  few = omega (arith, few_from job 0 files, some, lawful.captures.1);
}
