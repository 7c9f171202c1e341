-- A query, as it is printed, is read as the same.
use Rattle.std.proofs.Common.{◌≡◌, ℕ, ◌<◌, ◌≤◌, List, [], ◌∷◌, ◌++◌, length, map, refl, ◌∙◌, arith, append_assoc, append-nil, All}
use Rattle.std.specs.Prelude.{Ok}
use Rattle.std.proofs.lemmas.List.Elements.{All-head, All-tail}
use Rattle.path_judges.specs.declared.pattern.Step.{Step}
use Rattle.serde_json.specs.Data.{Data}
use Rattle.serde_json.specs.View.{items_of}
use Rattle.job_values.specs.declared.member.Member.TheVariants.{Query}
use Rattle.job_values.specs.Said.{Said, ◌>>=◌}
use Rattle.job_values.specs.Values.{object, no_stray, each}
use Rattle.job_text.specs.Parts.{name_at, pattern_value, path_value, row_value, rule_value, ruling_value, rewrite_value, question_value}
use Rattle.job_table.specs.Question.{Question, Everything, Loops, Drops, Paths, Rewrites, Tests, Manner, Same, Less, Table, Ruling}
use Rattle.job_table.specs.Limits.{Counts, IsPattern, IsRow, IsManner, IsRuling, IsQuestion}
use Rattle.job_table.specs.QueryTable.{kind, members_of, question, allow, rule, rules, hop, from, to}
use Rattle.job_table.specs.Words.{is_identifier}
use Rattle.job_table.specs.Table.{is_free}
use Rattle.job_text.proofs.ExitsAgain.{exits_again}
use Rattle.job_text.proofs.NewNames.{AllNew, number_again}
use Rattle.job_text.proofs.PatternsAgain.{AllPatterns, paths_again}
use Rattle.job_text.proofs.Said.{counted}
use Rattle.job_text.proofs.VarsAgain.{items_many}
use Rattle.job_text.proofs.WidesAgain.{wide_again, AllRows, rows_again}

-- ---- paths

patterns_all : (n : ℕ) (allow : List (List Step)) → All (IsPattern n) allow → AllPatterns n allow
patterns_all n [] all = tt
patterns_all n (path ∷ more) all = (All-head (IsPattern n) path more all, patterns_all n more (All-tail (IsPattern n) path more all))

allow_again : (captures : List (List ℕ)) (paths : List (List Step)) → AllNew is_identifier [] captures → Counts 1 16 paths → All (IsPattern (length captures)) paths
    → allow captures (path_value captures paths) ≡ Ok paths
allow_again captures paths all count lawful =
    rw (items_many (pattern_value captures) paths, counted 1 16 (length paths) count.0 count.1)
    (paths_again captures [] paths all (patterns_all (length captures) paths lawful))

-- ---- rewrites

rows_all : (rows : List (ℕ × ℕ)) → All IsRow rows → AllRows rows
rows_all [] all = tt
rows_all (r ∷ rows) all = (All-head IsRow r rows all, rows_all rows (All-tail IsRow r rows all))

rule_again : (vars : List (List ℕ)) (earlier : List Ruling) (var : ℕ) (how : Manner) → AllNew is_free [] vars → var < length vars → IsManner how
    → rule vars earlier (rule_value how (name_at vars var)) ≡ Ok (earlier ++ record { var = var; how = how } ∷ [])
rule_again vars earlier var Same all less lawful = rw (number_again is_free vars var all less) refl
rule_again vars earlier var (Less by) all less lawful = rw (number_again is_free vars var all less, wide_again _ (length earlier) by lawful) refl
rule_again vars earlier var (Table rows) all less lawful =
    rw (
      number_again is_free vars var all less,
      items_many row_value rows,
      counted 1 64 (length rows) lawful.0.0 lawful.0.1,
      rows_again (length earlier) [] rows (rows_all rows lawful.1),
    ) refl

abbrev AllRulings : ℕ → List Ruling → Type 0
AllRulings n [] = Unit {0}
AllRulings n (r ∷ rules) = IsRuling n r × AllRulings n rules

rulings_all : (n : ℕ) (rules : List Ruling) → All (IsRuling n) rules → AllRulings n rules
rulings_all n [] all = tt
rulings_all n (r ∷ rules) all = (All-head (IsRuling n) r rules all, rulings_all n rules (All-tail (IsRuling n) r rules all))

each_rule : (vars : List (List ℕ)) (earlier more : List Ruling) → AllNew is_free [] vars → AllRulings (length vars) more
    → each (rule vars) earlier (items_of (map (ruling_value vars) more)) ≡ Ok (earlier ++ more)
each_rule vars earlier [] all lawful = rw (append-nil earlier) refl
each_rule vars earlier (r ∷ more) all lawful =
    rw (rule_again vars earlier r.var r.how all lawful.0.0 lawful.0.1) (each_rule vars (earlier ++ r ∷ []) more all lawful.1 ∙ rw (append_assoc earlier (r ∷ []) more) refl)

rules_again : (vars captures : List (List ℕ)) (from to : ℕ) (rs : List Ruling) → AllNew is_free [] vars → Counts 1 16 rs → All (IsRuling (length vars)) rs
    → rules vars (rewrite_value vars captures from to rs) ≡ Ok rs
rules_again vars captures from to rs all count lawful =
    rw (items_many (ruling_value vars) rs, counted 1 16 (length rs) count.0 count.1) (each_rule vars [] rs all (rulings_all (length vars) rs lawful))

-- ---- the query

-- what is said of the value of the member
abbrev pub asked_in : List (List ℕ) → List (List ℕ) → Data → Said Question
asked_in vars captures d = do
  ms ← object Query 0 d
  asked ← kind d
  none ← no_stray Query 0 (members_of asked) ms
  question vars captures asked d

pub query_again : (vars captures : List (List ℕ)) (q : Question) → AllNew is_free [] vars → AllNew is_identifier [] captures → length captures ≤ 64
    → IsQuestion vars captures q → asked_in vars captures (question_value vars captures q) ≡ Ok q
query_again vars captures Everything names points most lawful = refl
query_again vars captures (Loops hop) names points most lawful = rw (number_again is_free vars hop names lawful) refl
query_again vars captures (Drops set) names points most lawful = rw (exits_again captures set points most lawful.0 lawful.1) refl
query_again vars captures (Paths paths) names points most lawful = rw (allow_again captures paths points lawful.0 lawful.1) refl
query_again vars captures (Rewrites from to rs) names points most lawful =
    rw (
      number_again is_identifier captures from points lawful.0,
      number_again is_identifier captures to points lawful.1,
      rules_again vars captures from to rs names lawful.2 lawful.3,
    ) refl
query_again vars captures (Tests text e) names points most lawful = rw (counted 0 1024 (length text) (omega arith) lawful.short, lawful.gives) refl
