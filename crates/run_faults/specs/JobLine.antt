-- What a line says of a job's fault.
use Rattle.std.specs.Prelude.{ℕ, List, ◌++◌, codes}
use Rattle.std.specs.Fmt.{decimal}
use Rattle.query_syntax.specs.declared.fault.QueryWhat.{QueryWhat}
use Rattle.query_syntax.specs.declared.fault.QueryWhat.TheVariants.{Token, Deep, Syntax, Name}
use Rattle.job_values.specs.declared.fault.JobFault.{JobFault}
use Rattle.job_values.specs.declared.fault.JobWhat.{JobWhat}
use Rattle.job_values.specs.declared.fault.JobWhat.TheVariants.{NotJson, Missing, WrongKind, Stray, BadName, Twice, Unknown, Field, Expression, Limit}
use Rattle.job_values.specs.declared.member.Member.{Member}
use Rattle.job_values.specs.declared.member.Member.TheVariants.{Whole, Version, VxlanPort, Captures, CapturesName, CapturesFile, CapturesOffset, CapturesSkew, CapturesInterface, Vars, VarsName, VarsTake, Filter, Key, Window, Skew, Profile, Query, QueryKind, QueryHop, QueryExits, QueryAllow, QueryFrom, QueryTo, QueryRules, QueryRulesVar, QueryRulesHow, QueryRulesBy, QueryRulesRows, QueryExpr}

-- a member by its path in the declaration
abbrev pub member_text : Member → List ℕ
member_text Whole = codes "whole"
member_text Version = codes "version"
member_text VxlanPort = codes "vxlan_port"
member_text Captures = codes "captures"
member_text CapturesName = codes "captures.name"
member_text CapturesFile = codes "captures.file"
member_text CapturesOffset = codes "captures.offset"
member_text CapturesSkew = codes "captures.skew"
member_text CapturesInterface = codes "captures.interface"
member_text Vars = codes "vars"
member_text VarsName = codes "vars.name"
member_text VarsTake = codes "vars.take"
member_text Filter = codes "filter"
member_text Key = codes "key"
member_text Window = codes "window"
member_text Skew = codes "skew"
member_text Profile = codes "profile"
member_text Query = codes "query"
member_text QueryKind = codes "query.kind"
member_text QueryHop = codes "query.hop"
member_text QueryExits = codes "query.exits"
member_text QueryAllow = codes "query.allow"
member_text QueryFrom = codes "query.from"
member_text QueryTo = codes "query.to"
member_text QueryRules = codes "query.rules"
member_text QueryRulesVar = codes "query.rules.var"
member_text QueryRulesHow = codes "query.rules.how"
member_text QueryRulesBy = codes "query.rules.by"
member_text QueryRulesRows = codes "query.rules.rows"
member_text QueryExpr = codes "query.expr"

-- what is wrong with an expression
abbrev pub expression_what : QueryWhat → List ℕ
expression_what Token = codes "token"
expression_what Deep = codes "deep"
expression_what Syntax = codes "syntax"
expression_what Name = codes "name"

-- what is wrong with a member
abbrev pub job_what : JobWhat → List ℕ
job_what NotJson = codes "not json"
job_what Missing = codes "missing"
job_what WrongKind = codes "wrong kind"
job_what Stray = codes "stray"
job_what BadName = codes "bad name"
job_what Twice = codes "twice"
job_what Unknown = codes "unknown"
job_what Field = codes "field"
job_what (Expression at what) = codes "expression " ++ decimal at ++ codes " " ++ expression_what what
job_what (Limit value) = codes "limit " ++ decimal value

-- the member, the position in its list, and what is wrong there
abbrev pub job_text : JobFault → List ℕ
job_text fault = codes "job: " ++ member_text fault.member ++ codes "[" ++ decimal fault.index ++ codes "]: " ++ job_what fault.what
