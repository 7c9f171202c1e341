-- The groups that are held can be answered, one after another.
use Rattle.std.proofs.Common.{ℕ, Bool, true, false, List, [], ◌∷◌, ◌++◌, ◌≡◌, ◌≤◌, ◌+◌, ◌^◌, ◌∙◌, sym, ap, subst, arith, length}
use Rattle.std.specs.List.{AllByRecursion}
use Rattle.std.proofs.lemmas.List.{append-nil}
use Rattle.std.proofs.lemmas.List.Sums.{sum_by-cons}
use Rattle.ds_base.specs.Copies.{Copies}
use Rattle.ds_base.specs.Items.{Items}
use Rattle.ds_base.specs.declared.profile_row.ProfileRow.{ProfileRow}
use Rattle.ds_base.specs.declared.summary.Summary.{Summary}
use Rattle.profiles.specs.Rows.{count_of}
use Rattle.profiles.proofs.Windows.{few_delays, few_in_group}
use Rattle.summary_spec.specs.Declaration.{Declared}
use Rattle.summary_spec.specs.Lawful.{IsLawful}
use Rattle.window_grouper.specs.Groups.{groups_of, members_in}
use Rattle.window_grouper.specs.Open.{Open, HasPlaced}
use Rattle.window_grouper.proofs.Members.{members_in-given}
use Rattle.central_report.specs.Answering.{IsAnswerable, IsNext}
use Rattle.central_report.specs.Progress.{asked_rows, HasAnswered, HasLeft, HasTaken}
use Rattle.central_report.specs.Report.{rows_of}
use Rattle.central_report.specs.declared.written.Written.{Written}
use Rattle.central_report.proofs.Delaying.{rows_profile}
use Rattle.central_report.proofs.Gathered.{answerable, few_groups}

all_front : (P : Copies → Type 0) (xs ys : List Copies) → AllByRecursion P (xs ++ ys) → AllByRecursion P xs
all_front P [] ys h = tt
all_front P (x ∷ xs) ys h = (h.0, all_front P xs ys h.1)

first_behind : (P : Copies → Type 0) (xs : List Copies) (y : Copies) (ys : List Copies) → AllByRecursion P (xs ++ y ∷ ys) → P y
first_behind P [] y ys h = h.0
first_behind P (x ∷ xs) y ys h = first_behind P xs y ys h.1

-- no pair has more delays than the groups have members
few_counted : (job : Declared) (profile : Bool) (given : List Copies) (from to : ℕ) → IsLawful job → AllByRecursion (IsAnswerable job) given → members_in given ≤ 2 ^ 46
    → count_of from to (asked_rows profile given) ≤ members_in given
few_counted job false given from to lawful can few = omega arith
few_counted job true given from to lawful can few = few_delays given (rows_of given) from to (rows_profile job given lawful can few)

pub next_of : (names : List (Items ℕ)) (job : Declared) (held rest : List Copies) (written : Written) (front : List Summary) (g : Copies)
    → IsLawful job → HasLeft names job held written front → held ≡ g ∷ rest → IsNext job written g
next_of names job held rest written front g lawful h first =
    let same : groups_of job.window front ≡ h.given ++ g ∷ rest = h.groups ∙ ap (λ (gs : List Copies). h.given ++ gs) first in
    let all = subst (AllByRecursion (IsAnswerable job)) same (answerable job front lawful h.in_turn.ordered h.in_turn.of_job) in
    let can : AllByRecursion (IsAnswerable job) h.given = all_front (IsAnswerable job) h.given (g ∷ rest) all in
    let many : members_in h.given + members_in (g ∷ rest) ≡ length front = members_in-given job.window front h.given (g ∷ rest) h.in_turn.ordered same in
    let parts : members_in (g ∷ rest) ≡ length g.members + members_in rest = sum_by-cons (λ (k : Copies). length k.members) g rest in
    let few : members_in h.given + length g.members ≤ 2 ^ 46 = omega (arith, many, parts, h.in_turn.few) in
    let counted : (from to : ℕ) → count_of from to written.profile ≤ members_in h.given = λ from to.
    subst (λ (rows : List ProfileRow). count_of from to rows ≤ members_in h.given) (sym h.answered.rows)
    (few_counted job job.profile h.given from to lawful can (omega (arith, few))) in
    record {
      answerable = first_behind (IsAnswerable job) h.given g rest all;
      counted = λ from to. omega (arith, counted from to, few_in_group g.members from to, few);
      few = omega (arith, h.answered.number, few_groups job h.given can, few);
    }

pub taken_left : (names : List (Items ℕ)) (job : Declared) (groups : Open) (written : Written) (front : List Summary) (time : ℕ)
    → HasTaken names job groups written front time → HasLeft names job groups.held written front
taken_left names job groups written front time h = record { in_turn = h.in_turn; given = h.given; groups = h.placed.groups; answered = h.answered }

-- one group more, which was over at this time
pub closed_more : (names : List (Items ℕ)) (job : Declared) (old new : Open) (before after : Written) (front : List Summary) (at time : ℕ) (g : Copies)
    → HasTaken names job old before front at
    → ((given : List Copies) → HasPlaced old job.window front given at → HasPlaced new job.window front (given ++ g ∷ []) time)
    → ((given : List Copies) → HasAnswered names job before given → HasAnswered names job after (given ++ g ∷ []))
    → HasTaken names job new after front time
closed_more names job old new before after front at time g h placed answered = record {
  in_turn = h.in_turn;
  given = h.given ++ g ∷ [];
  placed = placed h.given h.placed;
  answered = answered h.given h.answered;
}

-- no group is left
pub none_left : (names : List (Items ℕ)) (job : Declared) (held : List Copies) (written : Written) (front : List Summary)
    → HasLeft names job held written front → held ≡ [] → HasAnswered names job written (groups_of job.window front)
none_left names job held written front h none =
    subst (HasAnswered names job written)
    (sym (h.groups ∙ ap (λ (gs : List Copies). h.given ++ gs) none ∙ append-nil h.given)) h.answered
