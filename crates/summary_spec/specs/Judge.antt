-- What a job's query says of a group.
use Rattle.std.specs.Prelude.{ℕ, ◌≡◌, List, Option, Some, None, map}
use Rattle.ds_base.specs.declared.summary.Summary.{Summary}
use Rattle.ds_base.specs.declared.verdict.Verdict.{Verdict}
use Rattle.ds_base.specs.declared.verdict.Verdict.TheVariants.{Fine, Value, Undefined}
use Rattle.path_judges.specs.Drop.{IsDropVerdict, drop_verdict}
use Rattle.path_judges.specs.Loop.{IsLoopVerdict, loop_verdict}
use Rattle.path_judges.specs.Members.{walk_of}
use Rattle.path_judges.specs.Path.{IsPathVerdict, path_verdict}
use Rattle.query_lang.specs.Groups.{meaning_group}
use Rattle.rewrite_judge.specs.Rewrite.{IsRewriteVerdict, rewrite_verdict}
use Rattle.rewrite_judge.specs.declared.rule.How.{How}
use Rattle.rewrite_judge.specs.declared.rule.How.TheVariants as how
use Rattle.rewrite_judge.specs.declared.rule.Rule.{Rule}
use Rattle.job_table.specs.Question.{Manner, Same, Less, Table, Ruling, Question, Everything, Loops, Drops, Paths, Rewrites, Tests}

-- a rule, without room in memory
abbrev pub how_of : Manner → How
how_of Same = how.Same
how_of (Less by) = how.Less by
how_of (Table rows) = how.Table (record { items = rows; spare = 0 })

abbrev pub rule_of : Ruling → Rule
rule_of ruling = record { var = ruling.var; how = how_of ruling.how }

-- a value, or that there is none
abbrev pub tested : Option ℕ → Verdict
tested (Some n) = Value n
tested None = Undefined

-- the verdict on the members of a group: what is asked of them, in the words of each question
abbrev pub IsVerdict : Question → List Summary → Verdict → Type 0
IsVerdict Everything members verdict = verdict ≡ Fine
IsVerdict (Loops hop) members verdict = IsLoopVerdict hop members verdict
IsVerdict (Drops exits) members verdict = IsDropVerdict exits members verdict
IsVerdict (Paths allow) members verdict = IsPathVerdict allow (walk_of members) verdict
IsVerdict (Rewrites from to rules) members verdict = IsRewriteVerdict from to (map rule_of rules) members verdict
IsVerdict (Tests text e) members verdict = verdict ≡ tested (meaning_group e members)

-- that verdict, computed
abbrev pub verdict_on : Question → List Summary → Verdict
verdict_on Everything members = Fine
verdict_on (Loops hop) members = loop_verdict hop members
verdict_on (Drops exits) members = drop_verdict exits members
verdict_on (Paths allow) members = path_verdict allow (walk_of members)
verdict_on (Rewrites from to rules) members = rewrite_verdict from to (map rule_of rules) members
verdict_on (Tests text e) members = tested (meaning_group e members)
