-- What the grammar of expressions answers to a text, as a function: the tokens from left to right,
-- the syntax tree or the first fault, and then the first word that the scope does not allow.
use Rattle.std.specs.Prelude.{ℕ, zero, suc, ◌+◌, ◌-◌, ◌==◌, ◌&&◌, Bool, List, [], ◌∷◌, map, length, drop, nat_lt, if◌then◌else◌, Option, Some, None, Result, Ok, Err}
use Rattle.ds_base.specs.Items.{Items}
use Rattle.query_tokens.specs.declared.token.Token.{Token}
use Rattle.query_tokens.specs.declared.lexer.Placed.{Placed}
use Rattle.query_tokens.specs.Lexing.{token_at, behind_blanks}
use Rattle.query_syntax.specs.declared.fault.QueryFault.{QueryFault}
use Rattle.query_syntax.specs.declared.fault.QueryWhat.{QueryWhat}
use Rattle.query_syntax.specs.declared.fault.QueryWhat.TheVariants as what
use Rattle.query_syntax.specs.Faults.{is_open, is_close}
use Rattle.query_syntax.specs.Machine.{State, step, start, whole}
use Rattle.query_syntax.specs.Tree.{Tree}
use Rattle.query_lang.specs.declared.names.Names.{Names}
use Rattle.query_lang.specs.declared.names.Scope.{Scope}
use Rattle.query_lang.specs.Expression.{Expression}
use Rattle.query_lang.specs.Grammar.{mentions, first_barred}
use Rattle.query_lang.specs.Grammar as grammar
use Rattle.std.specs.Result.{result_map_both}
use Rattle.job_values.specs.declared.member.Member.{Member}
use Rattle.job_values.specs.declared.fault.JobWhat.TheVariants.{Expression as NoExpression}
use Rattle.job_values.specs.Said.{Said, fault_at}

-- ---- tokens

abbrev pub Lexed : Type 0
Lexed = List Placed × Option ℕ

abbrev pub before : Placed → Lexed → Lexed
before p rest = (p ∷ rest.0, rest.1)

-- a token at this place, and what stands behind it; or no token begins there
abbrev pub placed : ℕ → Option (Token × ℕ) → (ℕ → Lexed) → Lexed
placed at None behind = ([], Some at)
placed at (Some (token, len)) behind = before (record { at = at; token = token }) (behind (at + len))

abbrev pub lexed_at : List ℕ → ℕ → (ℕ → Lexed) → Lexed
lexed_at text at behind = if nat_lt at (length text) then placed at (token_at at (drop at text)) behind else ([], None)

-- the tokens from a place on, at most so many
unfoldable pub lexed_from : ℕ → List ℕ → ℕ → Lexed
lexed_from zero text at = ([], None)
lexed_from (suc more) text at = lexed_at text (behind_blanks text at) (lexed_from more text)

-- the tokens of a text, up to its end or to a place where no token begins
abbrev pub lexed : List ℕ → Lexed
lexed text = lexed_from (suc (length text)) text 0

-- ---- the syntax tree

abbrev pub refusal : QueryWhat → ℕ → QueryFault
refusal w at = record { what = w; at = at }

-- behind the last token
abbrev pub ended : ℕ → Option ℕ → Option Tree → Result Tree QueryFault
ended end (Some at) tree = Err (refusal what.Token at)
ended end None (Some tree) = Ok tree
ended end None None = Err (refusal what.Syntax end)

abbrev pub stepped : ℕ → Option State → (State → Result Tree QueryFault) → Result Tree QueryFault
stepped at None behind = Err (refusal what.Syntax at)
stepped at (Some s) behind = behind s

abbrev pub one_if : Bool → ℕ
one_if b = if b then 1 else 0

-- The tree of these tokens, or the first fault, with what was read before them: the state, and how
-- many parentheses were opened and closed. The text has `end` bytes.
unfoldable pub tree_from : ℕ → Option ℕ → List Placed → State → ℕ → ℕ → Result Tree QueryFault
tree_from end stop [] s opened closed = ended end stop (whole s)
tree_from end stop (p ∷ ps) s opened closed =
    if is_open p.token && (opened - closed == 32) then Err (refusal what.Deep p.at) else
    stepped p.at (step s p.token) (λ next. tree_from end stop ps next (opened + one_if (is_open p.token)) (closed + one_if (is_close p.token)))

abbrev pub tree_in : List ℕ → Result Tree QueryFault
tree_in text = tree_from (length text) (lexed text).1 (lexed text).0 start 0 0

-- ---- names

abbrev pub plain : List ℕ → Items ℕ
plain name = record { items = name; spare = 0 }

-- these names of variables and captures
abbrev pub names_from : List (List ℕ) → List (List ℕ) → Names
names_from vars captures = record {
  vars = record { items = map plain vars; spare = 0 };
  captures = record { items = map plain captures; spare = 0 };
}

abbrev pub unless_barred : Option ℕ → Expression → Result Expression QueryFault
unless_barred (Some at) e = Err (refusal what.Name at)
unless_barred None e = Ok e

abbrev pub resolved : Names → Scope → List ℕ → Result Tree QueryFault → Result Expression QueryFault
resolved names scope text (Ok t) = unless_barred (first_barred (mentions names text scope t)) (grammar.expression names text t)
resolved names scope text (Err f) = Err f

-- what a list of names shows
abbrev pub shown : List (Items ℕ) → List (List ℕ)
shown names = map (λ name. name.items) names

-- the expression of a text with these names of variables and captures, or its first fault
unfoldable pub parsed : Scope → List (List ℕ) → List (List ℕ) → List ℕ → Result Expression QueryFault
parsed scope vars captures text = resolved (names_from vars captures) scope text (tree_in text)

-- the expression that the text of a member is, or the member's fault
abbrev pub expression : Member → Scope → List (List ℕ) → List (List ℕ) → List ℕ → Said Expression
expression at scope vars captures text =
    result_map_both (λ e. e) (λ f. fault_at at 0 (NoExpression f.at f.what)) (parsed scope vars captures text)
