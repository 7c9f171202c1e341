-- How an expression is read from left to right: by a stack of what is pending, with the topmost
-- first, and a mode.
use Rattle.std.specs.Prelude.{ℕ, Bool, true, false, ◌&&◌, List, [], ◌∷◌, Option, Some, None, nat_le, if◌then◌else◌, option_map, option_and_then, unwrap_or}
use Rattle.query_tokens.specs.declared.token.Token.{Token}
use Rattle.query_tokens.specs.declared.token.Token.TheVariants as token
use Rattle.query_tokens.specs.declared.token.Operator.{Operator}
use Rattle.query_tokens.specs.declared.token.Word.{Word}
use Rattle.query_syntax.specs.declared.tree.Atom.TheVariants as atom
use Rattle.query_syntax.specs.declared.call.Call.{Call}
use Rattle.query_syntax.specs.declared.call.Call.TheVariants as call
use Rattle.query_syntax.specs.declared.call.Turn.{Turn}
use Rattle.query_syntax.specs.declared.call.Turn.TheVariants.{Reads, Calls, Opens, OpensNot}
use Rattle.query_syntax.specs.Tree.{Tree, Leaf, Parenthesis, Negated, Joined}
use Rattle.query_syntax.specs.Grammar.{rank, left_rank, is_comparison}
use Rattle.query_syntax.specs.Faults.{is_open, is_close}

abbrev pub is_comma : Token → Bool
is_comma token.Comma = true
is_comma _ = false

abbrev pub name_in : Token → Option Word
name_in (token.Name w) = Some w
name_in _ = None

-- what is pending: a left side with its operator, a parenthesis, or that of `not`
pub data Frame : Type 0 where
  Pending : Tree → Operator → Frame
  Opened : Frame
  NotOpened : ℕ → Frame

-- an operand is wanted, a tree was read, or the reading is inside a call
pub data Mode : Type 0 where
  Want : Mode
  Have : Tree → Mode
  Inside : Call → Mode

abbrev pub State : Type 0
State = List Frame × Mode

-- where an operand is wanted
abbrev pub want : Token → Option Turn
want (token.Number n) = Some (Reads (atom.Number n))
want (token.Name w) = Some (Reads (atom.Name w))
want (token.Stamp part at) = Some (Reads (atom.Stamp part at))
want (token.Whole measure at) = Some (Calls (call.Whole measure at))
want (token.Of pick at) = Some (Calls (call.Of pick at))
want (token.At at) = Some (Calls (call.At at))
want (token.Not at) = Some (Calls (call.Not at))
want (token.Between operator) = None
want token.Open = Some Opens
want token.Close = None
want token.Comma = None

-- inside a call
abbrev pub inside : Call → Token → Option Turn
inside (call.Not at) t = if is_open t then Some (OpensNot at) else None
inside (call.Whole measure at) t = if is_open t then Some (Calls (call.WholeOpen measure at)) else None
inside (call.WholeOpen measure at) t = if is_close t then Some (Reads (atom.Whole measure at)) else None
inside (call.Of pick at) t = if is_open t then Some (Calls (call.OfOpen pick at)) else None
inside (call.OfOpen pick at) t = option_map (λ w. Calls (call.OfName pick at w)) (name_in t)
inside (call.OfName pick at w) t = if is_close t then Some (Reads (atom.Of pick at w)) else None
inside (call.At at) t = if is_open t then Some (Calls (call.AtOpen at)) else None
inside (call.AtOpen at) t = option_map (λ w. Calls (call.AtName at w)) (name_in t)
inside (call.AtName at c) t = if is_comma t then Some (Calls (call.AtComma at c)) else None
inside (call.AtComma at c) t = option_map (λ w. Calls (call.AtNames at c w)) (name_in t)
inside (call.AtNames at c v) t = if is_close t then Some (Reads (atom.At at c v)) else None

abbrev pub turned : List Frame → Turn → State
turned stack (Reads a) = (stack, Have (Leaf a))
turned stack (Calls c) = (stack, Inside c)
turned stack Opens = (Opened ∷ stack, Want)
turned stack (OpensNot at) = (NotOpened at ∷ stack, Want)

abbrev pub topmost : List Frame → Option Frame
topmost [] = None
topmost (f ∷ stack) = Some f

-- a left side whose operator binds at least as strongly as this level
abbrev pub frame_binds : ℕ → Frame → Bool
frame_binds level (Pending l operator) = nat_le level (rank operator)
frame_binds level Opened = false
frame_binds level (NotOpened at) = false

abbrev pub binds : ℕ → List Frame → Bool
binds level stack = unwrap_or (option_map (frame_binds level) (topmost stack)) false

-- joins to the tree the pending left sides whose operator binds at least as strongly as this level
abbrev pub reduce : ℕ → List Frame → Tree → List Frame × Tree
reduce level [] t = ([], t)
reduce level (Pending l operator ∷ stack) t =
    if nat_le level (rank operator) then reduce level stack (Joined operator l t) else (Pending l operator ∷ stack, t)
reduce level (Opened ∷ stack) t = (Opened ∷ stack, t)
reduce level (NotOpened at ∷ stack) t = (NotOpened at ∷ stack, t)

-- a left side of a comparison
abbrev pub frame_compares : Frame → Bool
frame_compares (Pending l operator) = is_comparison operator
frame_compares Opened = false
frame_compares (NotOpened at) = false

abbrev pub is_compared : List Frame → Bool
is_compared stack = unwrap_or (option_map frame_compares (topmost stack)) false

-- a tree, and then an operator
abbrev pub joined : Operator → List Frame × Tree → Option State
joined operator r =
    if is_comparison operator && is_compared r.0 then None else Some (Pending r.1 operator ∷ r.0, Want)

-- a tree, and then `)`
abbrev pub closed : List Frame → Tree → Option State
closed (Opened ∷ stack) t = Some (stack, Have (Parenthesis t))
closed (NotOpened at ∷ stack) t = Some (stack, Have (Negated at t))
closed _ t = None

abbrev pub closed_by : List Frame × Tree → Option State
closed_by r = closed r.0 r.1

-- where a tree was read
abbrev pub have : List Frame → Tree → Token → Option State
have stack t (token.Between operator) = joined operator (reduce (left_rank operator) stack t)
have stack t token.Close = closed_by (reduce 0 stack t)
have stack t _ = None

abbrev pub step : State → Token → Option State
step (stack, Want) t = option_map (turned stack) (want t)
step (stack, Have tree) t = have stack tree t
step (stack, Inside c) t = option_map (turned stack) (inside c t)

abbrev pub run : List Token → State → Option State
run [] s = Some s
run (t ∷ ts) s = option_and_then (run ts) (step s t)

abbrev pub start : State
start = ([], Want)

-- the whole tree, where nothing is pending
abbrev pub alone : List Frame × Tree → Option Tree
alone ([], t) = Some t
alone (_ ∷ _, t) = None

abbrev pub whole : State → Option Tree
whole (stack, Want) = None
whole (stack, Have t) = alone (reduce 0 stack t)
whole (stack, Inside c) = None
