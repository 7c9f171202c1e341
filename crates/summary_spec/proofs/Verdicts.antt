-- A lawful question has one verdict on a group that is not empty.
use Rattle.std.proofs.Common.{◌≡◌, ℕ, ◌-◌, ◌<◌, Bool, true, false, List, length, map, refl, sym, subst, arith, slice_get, Some, inl, inr}
use Rattle.std.specs.List.{list_any}
use Rattle.std.proofs.lemmas.Option.{slice_get_cases}
use Rattle.ds_base.specs.declared.summary.Summary.{Summary}
use Rattle.ds_base.specs.declared.verdict.Verdict.{Verdict}
use Rattle.path_judges.specs.Drop.{IsDropVerdict, drop_verdict, is_of_exit}
use Rattle.path_judges.specs.Members.{walk_of}
use Rattle.path_judges.proofs.Allowed.{path_verdict-is, path_only}
use Rattle.path_judges.proofs.Exits.{Any-of_exit, All-no_exit, drop_only, drop_verdict-fine, drop_verdict-dropped}
use Rattle.path_judges.proofs.FirstFall.{loop_verdict-is, loop_only}
use Rattle.rewrite_judge.proofs.Breaks.{rewrite_verdict-is, rewrite_only}
use Rattle.job_table.specs.Limits.{IsQuestion}
use Rattle.job_table.specs.Question.{Question, Everything, Loops, Drops, Paths, Rewrites, Tests}
use Rattle.summary_spec.specs.Judge.{IsVerdict, verdict_on, rule_of}

drop_is : (exits : ℕ) (members : List Summary) → 0 < length members → IsDropVerdict exits members (drop_verdict exits members)
drop_is exits members some = by_exit (list_any (is_of_exit exits) members) refl
  where
    at_last : list_any (is_of_exit exits) members ≡ false → (last : Summary) → slice_get members (length members - 1) ≡ Some last
        → IsDropVerdict exits members (drop_verdict exits members)
    at_last none last e =
        subst (IsDropVerdict exits members) (sym (drop_verdict-dropped exits members last none e))
        (record { no_exit = All-no_exit exits members none; last = last; is_last = e; capture_is = refl })

    by_exit : (t : Bool) → list_any (is_of_exit exits) members ≡ t → IsDropVerdict exits members (drop_verdict exits members)
    by_exit true e = subst (IsDropVerdict exits members) (sym (drop_verdict-fine exits members e)) (Any-of_exit exits members e)
    by_exit false e =
        elim (slice_get_cases members (length members - 1)).1 [
          | inl found ↦ at_last e found.0 found.2
          | inr past ↦ absurd (omega (arith, some, past.0))
        ]

pub verdict_is : (vars captures : List (List ℕ)) (q : Question) (members : List Summary) → IsQuestion vars captures q → 0 < length members
    → IsVerdict q members (verdict_on q members)
verdict_is vars captures Everything members lawful some = refl
verdict_is vars captures (Loops hop) members lawful some = loop_verdict-is hop members
verdict_is vars captures (Drops exits) members lawful some = drop_is exits members some
verdict_is vars captures (Paths allow) members lawful some = path_verdict-is allow (walk_of members) (omega (arith, lawful.0.0))
verdict_is vars captures (Rewrites from to rules) members lawful some = rewrite_verdict-is from to (map rule_of rules) members
verdict_is vars captures (Tests text e) members lawful some = refl

pub verdict_only : (vars captures : List (List ℕ)) (q : Question) (members : List Summary) (v : Verdict) → IsQuestion vars captures q
    → IsVerdict q members v → v ≡ verdict_on q members
verdict_only vars captures Everything members v lawful h = h
verdict_only vars captures (Loops hop) members v lawful h = loop_only hop members v h
verdict_only vars captures (Drops exits) members v lawful h = drop_only exits members v h
verdict_only vars captures (Paths allow) members v lawful h = path_only allow (walk_of members) (omega (arith, lawful.0.0)) v h
verdict_only vars captures (Rewrites from to rules) members v lawful h = rewrite_only from to (map rule_of rules) members v h
verdict_only vars captures (Tests text e) members v lawful h = h
