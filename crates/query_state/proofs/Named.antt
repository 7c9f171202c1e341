-- A verdict names captures of the group's members alone.
use Rattle.std.proofs.Common.{ℕ, List, ◌≡◌, ◌<◌, Option, Some, None, sym, subst, length}
use Rattle.std.specs.Prelude.{All}
use Rattle.answer_text.specs.Lines.{IsNamedIn}
use Rattle.ds_base.specs.declared.summary.Summary.{Summary}
use Rattle.ds_base.specs.declared.verdict.Verdict.{Verdict}
use Rattle.ds_base.specs.declared.verdict.Verdict.TheVariants as verdict
use Rattle.ds_base.proofs.Places.{all_at}
use Rattle.job_table.specs.Question.{Question, Everything, Loops, Drops, Paths, Rewrites, Tests}
use Rattle.query_lang.specs.Groups.{meaning_group}
use Rattle.summary_spec.specs.Declaration.{Declared}
use Rattle.summary_spec.specs.Judge.{IsVerdict, verdict_on, tested}
use Rattle.summary_spec.specs.Lawful.{IsLawful}
use Rattle.summary_spec.proofs.Verdicts.{verdict_is}

no_value : (captures : ℕ) (v : Verdict) (o : Option ℕ) → v ≡ tested o → IsNamedIn captures v
no_value captures v (Some n) e = subst (λ (w : Verdict). IsNamedIn captures w) (sym e) tt
no_value captures v None e = subst (λ (w : Verdict). IsNamedIn captures w) (sym e) tt

named_by : (captures : ℕ) (q : Question) (members : List Summary) (v : Verdict) → IsVerdict q members v → All (λ (m : Summary). m.at.capture < captures) members
    → IsNamedIn captures v
named_by captures q members verdict.Fine h few = tt
named_by captures q members (verdict.Path at) h few = tt
named_by captures q members (verdict.Rewrite pair rule) h few = tt
named_by captures q members (verdict.Value n) h few = tt
named_by captures q members verdict.Undefined h few = tt
named_by captures Everything members (verdict.Loop capture high low) h few = absurd (cc)
named_by captures (Loops hop) members (verdict.Loop capture high low) h few =
    subst (λ (c : ℕ). c < captures) (sym h.capture_is) (all_at (λ (m : Summary). m.at.capture < captures) members h.j h.at_j few h.falls.member_j)
named_by captures (Drops exits) members (verdict.Loop capture high low) h few = absurd h
named_by captures (Paths allow) members (verdict.Loop capture high low) h few = absurd h
named_by captures (Rewrites from to rules) members (verdict.Loop capture high low) h few = absurd h
named_by captures (Tests text e) members (verdict.Loop capture high low) h few = no_value captures (verdict.Loop capture high low) (meaning_group e members) h
named_by captures Everything members (verdict.Dropped capture) h few = absurd (cc)
named_by captures (Loops hop) members (verdict.Dropped capture) h few = absurd h
named_by captures (Drops exits) members (verdict.Dropped capture) h few =
    subst (λ (c : ℕ). c < captures) (sym h.capture_is) (all_at (λ (m : Summary). m.at.capture < captures) members _ h.last few h.is_last)
named_by captures (Paths allow) members (verdict.Dropped capture) h few = absurd h
named_by captures (Rewrites from to rules) members (verdict.Dropped capture) h few = absurd h
named_by captures (Tests text e) members (verdict.Dropped capture) h few = no_value captures (verdict.Dropped capture) (meaning_group e members) h

pub named_in : (job : Declared) (members : List Summary) → IsLawful job → 0 < length members → All (λ (m : Summary). m.at.capture < length job.captures) members
    → IsNamedIn (length job.captures) (verdict_on job.query members)
named_in job members lawful some few =
    named_by (length job.captures) job.query members (verdict_on job.query members) (verdict_is job.vars job.captures job.query members lawful.query some) few
