-- What is accepted later has no time below the mark.
use Rattle.std.proofs.Common.{ℕ, List, [], ◌∷◌, ◌++◌, ◌≡◌, ◌≤◌, Bool, true, false, Option, Some, None, refl, sym, subst, arith}
use Rattle.std.specs.Prelude.{option_and_then, if◌then◌else◌}
use Rattle.std.specs.List.{AllByRecursion}
use Rattle.std.proofs.lemmas.Bool.Decides.{nat_tests}
use Rattle.ds_base.specs.declared.summary.Summary.{Summary}
use Rattle.header_stack.specs.Stack.{stack_of}
use Rattle.pcap_reader.specs.Captured.{Captured}
use Rattle.summary_spec.specs.Declaration.{Declared}
use Rattle.key_select.specs.Times.{record_time, capture_skew}
use Rattle.key_select.specs.Sum.{summary_with, passes, values_of}
use Rattle.key_select.specs.Late.{greatest_time, is_late, comes_late, mark_by, mark_of}
use Rattle.key_select.specs.Fates.{fate_by, fate_of, fates_after, summaries_of, accepted_after}
use Rattle.key_select.specs.Laws.{IsFromMark, LaterAreFromMark}
use Rattle.key_select.specs.Tally.{newest_after}
use Rattle.key_select.proofs.Tallying.{greatest_time-append, summaries_of-append}

-- a time that is not late is no earlier than the mark
timely : (time skew : ℕ) (newest : Option ℕ) → is_late time skew newest ≡ false → mark_by skew newest ≤ time
timely time skew None h = omega arith
timely time skew (Some n) h = grind (arith, nat_tests)

-- the mark does not fall
rises : (time skew : ℕ) (newest : Option ℕ) → mark_by skew newest ≤ mark_by skew (newest_after time newest)
rises time skew None = omega arith
rises time skew (Some n) = omega arith

mark_rises : (job : Declared) (capture : ℕ) (taken : List Captured) (r : Captured) → mark_of job capture taken ≤ mark_of job capture (taken ++ r ∷ [])
mark_rises job capture taken r =
    subst (λ (newest : Option ℕ). mark_of job capture taken ≤ mark_by (capture_skew job capture) newest) (sym (greatest_time-append job capture taken r))
    (rises (record_time job capture r) (capture_skew job capture) (greatest_time job capture taken))

-- from a later mark
from_later : (capture mark next : ℕ) (ss : List Summary) → mark ≤ next → AllByRecursion (IsFromMark capture next) ss → AllByRecursion (IsFromMark capture mark) ss
from_later capture mark next [] le h = tt
from_later capture mark next (s ∷ ss) le h = ((h.0.0, omega (arith, h.0.1, le)), from_later capture mark next ss le h.1)

-- one record in front of others
of_timely : (capture mark : ℕ) (s : Summary) (late : Bool) (ss : List Summary) → s.at.capture ≡ capture → (late ≡ false → mark ≤ s.at.time)
    → AllByRecursion (IsFromMark capture mark) ss → AllByRecursion (IsFromMark capture mark) (summaries_of (fate_by (Some s) late ∷ []) ++ ss)
of_timely capture mark s true ss c le h = h
of_timely capture mark s false ss c le h = ((c, le refl), h)

of_wanted : (capture mark : ℕ) (s : Summary) (wanted late : Bool) (ss : List Summary) → s.at.capture ≡ capture → (late ≡ false → mark ≤ s.at.time)
    → AllByRecursion (IsFromMark capture mark) ss
    → AllByRecursion (IsFromMark capture mark) (summaries_of (fate_by (if wanted then Some s else None) late ∷ []) ++ ss)
of_wanted capture mark s true late ss c le h = of_timely capture mark s late ss c le h
of_wanted capture mark s false late ss c le h = h

of_one : (job : Declared) (capture mark time : ℕ) (r : Captured) (vals : Option (List ℕ)) (late : Bool) (ss : List Summary)
    → (late ≡ false → mark ≤ time) → AllByRecursion (IsFromMark capture mark) ss
    → AllByRecursion (IsFromMark capture mark)
    (summaries_of (fate_by (option_and_then (λ vs. let s = summary_with job capture time r vs in if passes job s then Some s else None) vals) late ∷ []) ++ ss)
of_one job capture mark time r None late ss le h = h
of_one job capture mark time r (Some vs) late ss le h =
    of_wanted capture mark (summary_with job capture time r vs) (passes job (summary_with job capture time r vs)) late ss refl le h

pub later_from_mark : LaterAreFromMark
later_from_mark job capture taken [] = tt
later_from_mark job capture taken (r ∷ rs) =
    let mark : ℕ = mark_of job capture taken in
    let next : List Captured = taken ++ r ∷ [] in
    let others : List Summary = accepted_after job capture next rs in
    let P : List Summary → Type 0 = λ ss. AllByRecursion (IsFromMark capture mark) ss in
    subst P (sym (summaries_of-append (fate_of job capture taken r ∷ []) (fates_after job capture next rs)))
    (of_one job capture mark (record_time job capture r) r (values_of job.takes (stack_of r.link job.port r.bytes)) (comes_late job capture taken r) others
    (timely (record_time job capture r) (capture_skew job capture) (greatest_time job capture taken))
    (from_later capture mark (mark_of job capture next) others (mark_rises job capture taken r) (later_from_mark job capture next rs)))
