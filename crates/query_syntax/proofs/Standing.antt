-- What a state stands for: the tokens that were read, which can always be completed.
use Rattle.std.proofs.Common.{◌≡◌, ℕ, ◌+◌, ◌≤◌, Bool, true, false, ◌&&◌, cond, leb, List, [], ◌∷◌, ◌++◌, Option, Some, None, refl, sym, ap, subst, ◌∙◌, arith, append_assoc, append-nil, inl, inr, option_and_then, option_map}
use Rattle.std.proofs.lemmas.Bool.{leb-true, leb-false, cases_Bool, and_cases, eqb-false}
use Rattle.query_tokens.specs.declared.token.Token.{Token}
use Rattle.query_tokens.specs.declared.token.Token.TheVariants as token
use Rattle.query_tokens.specs.declared.token.Operator.{Operator}
use Rattle.query_tokens.specs.declared.token.Word.{Word}
use Rattle.query_syntax.specs.declared.tree.Atom.TheVariants as atom
use Rattle.query_syntax.specs.declared.call.Call.{Call}
use Rattle.query_syntax.specs.declared.call.Call.TheVariants as call
use Rattle.query_syntax.specs.declared.call.Turn.{Turn}
use Rattle.query_syntax.specs.declared.call.Turn.TheVariants as turn
use Rattle.query_syntax.specs.Tree.{Tree, Leaf, Parenthesis, Negated, Joined, spell}
use Rattle.query_syntax.specs.Grammar.{rank, left_rank, is_comparison, In, Derives, Begins}
use Rattle.query_syntax.specs.Machine.{Frame, Pending, Opened, NotOpened, Mode, Want, Have, Inside, State, want, inside, turned, reduce, is_compared, joined, closed, have, step, run, alone, whole}
use Rattle.query_syntax.proofs.Levels.{rank_least, left_least, compared_rank, other_rank, In-lower}

abbrev pub frame_tokens : Frame → List Token
frame_tokens (Pending l operator) = spell l ++ token.Between operator ∷ []
frame_tokens Opened = token.Open ∷ []
frame_tokens (NotOpened at) = token.Not at ∷ token.Open ∷ []

abbrev pub stack_tokens : List Frame → List Token
stack_tokens [] = []
stack_tokens (f ∷ s) = stack_tokens s ++ frame_tokens f

abbrev pub call_tokens : Call → List Token
call_tokens (call.Not at) = token.Not at ∷ []
call_tokens (call.Whole measure at) = token.Whole measure at ∷ []
call_tokens (call.WholeOpen measure at) = token.Whole measure at ∷ token.Open ∷ []
call_tokens (call.Of pick at) = token.Of pick at ∷ []
call_tokens (call.OfOpen pick at) = token.Of pick at ∷ token.Open ∷ []
call_tokens (call.OfName pick at w) = token.Of pick at ∷ token.Open ∷ token.Name w ∷ []
call_tokens (call.At at) = token.At at ∷ []
call_tokens (call.AtOpen at) = token.At at ∷ token.Open ∷ []
call_tokens (call.AtName at c) = token.At at ∷ token.Open ∷ token.Name c ∷ []
call_tokens (call.AtComma at c) = token.At at ∷ token.Open ∷ token.Name c ∷ token.Comma ∷ []
call_tokens (call.AtNames at c v) = token.At at ∷ token.Open ∷ token.Name c ∷ token.Comma ∷ token.Name v ∷ []

abbrev pub mode_tokens : Mode → List Token
mode_tokens Want = []
mode_tokens (Have t) = spell t
mode_tokens (Inside c) = call_tokens c

abbrev pub state_tokens : State → List Token
state_tokens s = stack_tokens s.0 ++ mode_tokens s.1

-- the level that is wanted behind what is topmost
abbrev pub need : List Frame → ℕ
need [] = 0
need (Pending l operator ∷ s) = rank operator + 1
need (Opened ∷ s) = 0
need (NotOpened at ∷ s) = 0

abbrev pub IsSound : List Frame → Type 0
IsSound [] = Unit {0}
IsSound (Pending l operator ∷ s) = In (left_rank operator) l × (need s ≤ rank operator) × IsSound s
IsSound (Opened ∷ s) = IsSound s
IsSound (NotOpened at ∷ s) = IsSound s

abbrev pub IsAtomic : Mode → Type 0
IsAtomic Want = Unit {0}
IsAtomic (Have t) = In 5 t
IsAtomic (Inside c) = Unit {0}

pub record Stands (ts : List Token) (s : State) : Type 0 where
  pub read : state_tokens s ≡ ts
  pub pending : IsSound s.0
  pub atomic : IsAtomic s.1

need_least : (s : List Frame) → need s ≤ 5
need_least [] = omega arith
need_least (Pending l operator ∷ s) = omega (arith, rank_least operator)
need_least (Opened ∷ s) = omega arith
need_least (NotOpened at ∷ s) = omega arith

-- ---- each step

abbrev OnTurn : List Frame → List Token → Option Turn → Type 0
OnTurn s ts None = Unit {0}
OnTurn s ts (Some t) = state_tokens (turned s t) ≡ stack_tokens s ++ ts

want_turns : (t : Token) (s : List Frame) → OnTurn s (t ∷ []) (want t)
want_turns (token.Number n) s = refl
want_turns (token.Name w) s = refl
want_turns (token.Stamp part at) s = refl
want_turns (token.Whole measure at) s = refl
want_turns (token.Of pick at) s = refl
want_turns (token.At at) s = refl
want_turns (token.Not at) s = refl
want_turns (token.Between operator) s = tt
want_turns token.Open s = append-nil _
want_turns token.Close s = tt
want_turns token.Comma s = tt

inside_turns : (c : Call) (t : Token) (s : List Frame) → OnTurn s (call_tokens c ++ t ∷ []) (inside c t)
inside_turns (call.Not at) token.Open s = append-nil _
inside_turns (call.Not at) _ s = tt
inside_turns (call.Whole measure at) token.Open s = refl
inside_turns (call.Whole measure at) _ s = tt
inside_turns (call.WholeOpen measure at) token.Close s = refl
inside_turns (call.WholeOpen measure at) _ s = tt
inside_turns (call.Of pick at) token.Open s = refl
inside_turns (call.Of pick at) _ s = tt
inside_turns (call.OfOpen pick at) (token.Name w) s = refl
inside_turns (call.OfOpen pick at) _ s = tt
inside_turns (call.OfName pick at w) token.Close s = refl
inside_turns (call.OfName pick at w) _ s = tt
inside_turns (call.At at) token.Open s = refl
inside_turns (call.At at) _ s = tt
inside_turns (call.AtOpen at) (token.Name w) s = refl
inside_turns (call.AtOpen at) _ s = tt
inside_turns (call.AtName at c) token.Comma s = refl
inside_turns (call.AtName at c) _ s = tt
inside_turns (call.AtComma at c) (token.Name w) s = refl
inside_turns (call.AtComma at c) _ s = tt
inside_turns (call.AtNames at c v) token.Close s = refl
inside_turns (call.AtNames at c v) _ s = tt

abbrev pub OnState : List Token → Option State → Type 0
OnState ts None = Unit {0}
OnState ts (Some s) = Stands ts s

turn_stands : (s : List Frame) (ts : List Token) (o : Option Turn) → IsSound s → OnTurn s ts o → OnState (stack_tokens s ++ ts) (option_map (turned s) o)
turn_stands s ts None h e = tt
turn_stands s ts (Some (turn.Reads a)) h e = record { read = e; pending = h; atomic = tt }
turn_stands s ts (Some (turn.Calls c)) h e = record { read = e; pending = h; atomic = tt }
turn_stands s ts (Some turn.Opens) h e = record { read = e; pending = h; atomic = tt }
turn_stands s ts (Some (turn.OpensNot at)) h e = record { read = e; pending = h; atomic = tt }

record Reduced (k : ℕ) (ts : List Token) (r : List Frame × Tree) : Type 0 where
  spelled : stack_tokens r.0 ++ spell r.1 ≡ ts
  sound : IsSound r.0
  level : In k r.1
  wanted : In (need r.0) r.1
  lower : need r.0 ≤ k

regroup : (xs ys zs : List Token) (x : Token) → xs ++ (ys ++ (x ∷ zs)) ≡ (xs ++ (ys ++ x ∷ [])) ++ zs
regroup xs ys zs x = sym (append_assoc xs (ys ++ x ∷ []) zs ∙ ap (λ l. xs ++ l) (append_assoc ys (x ∷ []) zs))

reduce_sound : (k : ℕ) (s : List Frame) (t : Tree) → IsSound s → In k t → In (need s) t → Reduced k (stack_tokens s ++ spell t) (reduce k s t)
reduce_sound k [] t h level wanted = record { spelled = refl; sound = tt; level = level; wanted = wanted; lower = omega arith }
reduce_sound k (Opened ∷ s) t h level wanted = record { spelled = refl; sound = h; level = level; wanted = wanted; lower = omega arith }
reduce_sound k (NotOpened at ∷ s) t h level wanted = record { spelled = refl; sound = h; level = level; wanted = wanted; lower = omega arith }
reduce_sound k (Pending l operator ∷ s) t h level wanted =
    at_test (leb k (rank operator)) refl (λ le. reduce_sound k s (Joined operator l t) h.2 (le, h.0, wanted) (h.1, h.0, wanted))
  where
    at_test : (b : Bool) → leb k (rank operator) ≡ b
        → (k ≤ rank operator → Reduced k (stack_tokens s ++ spell (Joined operator l t)) (reduce k s (Joined operator l t)))
        → Reduced k (stack_tokens (Pending l operator ∷ s) ++ spell t) (cond b (reduce k s (Joined operator l t)) (Pending l operator ∷ s, t))
    at_test true e go = subst (λ ts. Reduced k ts (reduce k s (Joined operator l t))) (regroup (stack_tokens s) (spell l) (spell t) (token.Between operator)) (go (leb-true _ _ e))
    at_test false e go = record { spelled = refl; sound = h; level = level; wanted = wanted; lower = omega (arith, leb-false _ _ e) }

-- a comparison behind which none is pending, or another operator
joins_below : (s : List Frame) (operator : Operator) → need s ≤ left_rank operator → (is_comparison operator && is_compared s) ≡ false → need s ≤ rank operator
joins_below [] operator le e = omega arith
joins_below (Opened ∷ s) operator le e = omega arith
joins_below (NotOpened at ∷ s) operator le e = omega arith
joins_below (Pending l other ∷ s) operator le e =
    elim (cases_Bool (is_comparison operator)) [
      | inl compared ↦ elim (and_cases _ _ e) [
        | inl differs ↦ absurd (both compared differs)
        | inr free ↦ let apart = eqb-false (rank other) 2 free in let r = compared_rank operator compared in omega (arith, r.0, r.1, le)
      ]
      | inr free ↦ omega (arith, other_rank operator free, le)
    ]
  where
    both : is_comparison operator ≡ true → is_comparison operator ≡ false → ⊥
    both a b = cc

join_stands : (operator : Operator) (ts : List Token) (r : List Frame × Tree) → Reduced (left_rank operator) ts r → OnState (ts ++ token.Between operator ∷ []) (joined operator r)
join_stands operator ts r h = at_test (is_comparison operator && is_compared r.0) refl
  where
    at_test : (b : Bool) → (is_comparison operator && is_compared r.0) ≡ b → OnState (ts ++ token.Between operator ∷ []) (cond b None (Some (Pending r.1 operator ∷ r.0, Want)))
    at_test true e = tt
    at_test false e = record {
      read = append-nil _ ∙ sym (append_assoc (stack_tokens r.0) (spell r.1) (token.Between operator ∷ [])) ∙ ap (λ l. l ++ token.Between operator ∷ []) h.spelled;
      pending = (h.level, joins_below r.0 operator h.lower e, h.sound);
      atomic = tt;
    }

enclose : (xs fs ys zs : List Token) → xs ++ (fs ++ (ys ++ zs)) ≡ ((xs ++ fs) ++ ys) ++ zs
enclose xs fs ys zs = sym (append_assoc (xs ++ fs) ys zs ∙ append_assoc xs fs (ys ++ zs))

close_stands : (ts : List Token) (s : List Frame) (t : Tree) → Reduced 0 ts (s, t) → OnState (ts ++ token.Close ∷ []) (closed s t)
close_stands ts [] t h = tt
close_stands ts (Pending l operator ∷ s) t h = tt
close_stands ts (Opened ∷ s) t h = record {
  read = enclose (stack_tokens s) (token.Open ∷ []) (spell t) (token.Close ∷ []) ∙ ap (λ l. l ++ token.Close ∷ []) h.spelled;
  pending = h.sound;
  atomic = h.level;
}
close_stands ts (NotOpened at ∷ s) t h = record {
  read = enclose (stack_tokens s) (token.Not at ∷ token.Open ∷ []) (spell t) (token.Close ∷ []) ∙ ap (λ l. l ++ token.Close ∷ []) h.spelled;
  pending = h.sound;
  atomic = h.level;
}

have_stands : (s : List Frame) (t : Tree) (tok : Token) → IsSound s → In 5 t → OnState ((stack_tokens s ++ spell t) ++ tok ∷ []) (have s t tok)
have_stands s t (token.Between operator) h five =
    join_stands operator _ _ (reduce_sound (left_rank operator) s t h (In-lower t 5 _ five (omega (arith, left_least operator))) (In-lower t 5 _ five (need_least s)))
have_stands s t token.Close h five =
    close_stands _ _ _ (reduce_sound 0 s t h (In-lower t 5 0 five (omega arith)) (In-lower t 5 _ five (need_least s)))
have_stands s t (token.Number n) h five = tt
have_stands s t (token.Name w) h five = tt
have_stands s t (token.Stamp part at) h five = tt
have_stands s t (token.Whole measure at) h five = tt
have_stands s t (token.Of pick at) h five = tt
have_stands s t (token.At at) h five = tt
have_stands s t (token.Not at) h five = tt
have_stands s t token.Open h five = tt
have_stands s t token.Comma h five = tt

mode_stands : (s : List Frame) (m : Mode) (tok : Token) → IsSound s → IsAtomic m → OnState ((stack_tokens s ++ mode_tokens m) ++ tok ∷ []) (step (s, m) tok)
mode_stands s Want tok h a =
    subst (λ ts. OnState (ts ++ tok ∷ []) (option_map (turned s) (want tok))) (sym (append-nil (stack_tokens s))) (turn_stands s (tok ∷ []) (want tok) h (want_turns tok s))
mode_stands s (Have t) tok h a = have_stands s t tok h a
mode_stands s (Inside c) tok h a =
    subst (λ ts. OnState ts (option_map (turned s) (inside c tok))) (sym (append_assoc (stack_tokens s) (call_tokens c) (tok ∷ []))) (turn_stands s (call_tokens c ++ tok ∷ []) (inside c tok) h (inside_turns c tok s))

pub step_stands : (ts : List Token) (s : State) (tok : Token) → Stands ts s → OnState (ts ++ tok ∷ []) (step s tok)
step_stands ts (s, m) tok h = subst (λ l. OnState (l ++ tok ∷ []) (step (s, m) tok)) h.read (mode_stands s m tok h.pending h.atomic)

pub run_stands : (ts done : List Token) (s : State) → Stands done s → OnState (done ++ ts) (run ts s)
run_stands [] done s h = subst (λ l. Stands l s) (sym (append-nil done)) h
run_stands (t ∷ ts) done s h = go (step s t) (step_stands done s t h) (λ next k. run_stands ts (done ++ t ∷ []) next k)
  where
    go : (o : Option State) → OnState (done ++ t ∷ []) o → ((next : State) → Stands (done ++ t ∷ []) next → OnState ((done ++ t ∷ []) ++ ts) (run ts next)) → OnState (done ++ (t ∷ ts)) (option_and_then (run ts) o)
    go None k rest = tt
    go (Some next) k rest = subst (λ l. OnState l (run ts next)) (append_assoc done (t ∷ []) ts) (rest next k)

-- ---- every state can be completed

pub begins_front : (xs ys : List Token) → Begins (xs ++ ys) → Begins xs
begins_front xs ys h = (ys ++ h.0, h.1, subst (λ l. Derives l h.1) (append_assoc xs ys h.0) h.2)

close_all : (s : List Frame) (t : Tree) → IsSound s → In (need s) t → Begins (stack_tokens s ++ spell t)
close_all [] t h wanted = ([], t, record { grammatical = wanted; spelled = sym (append-nil (spell t)) })
close_all (Pending l operator ∷ s) t h wanted =
    subst Begins (regroup (stack_tokens s) (spell l) (spell t) (token.Between operator)) (close_all s (Joined operator l t) h.2 (h.1, h.0, wanted))
close_all (Opened ∷ s) t h wanted =
    begins_front _ (token.Close ∷ []) (subst Begins (enclose (stack_tokens s) (token.Open ∷ []) (spell t) (token.Close ∷ [])) (close_all s (Parenthesis t) h (In-lower t 0 0 wanted (omega arith))))
close_all (NotOpened at ∷ s) t h wanted =
    begins_front _ (token.Close ∷ []) (subst Begins (enclose (stack_tokens s) (token.Not at ∷ token.Open ∷ []) (spell t) (token.Close ∷ [])) (close_all s (Negated at t) h (In-lower t 0 0 wanted (omega arith))))

nothing : Word
nothing = record { at = 0; len = 0 }

record Finishes (c : Call) : Type 0 where
  more : List Token
  tree : Tree
  atomic : In 5 tree
  spelled : spell tree ≡ call_tokens c ++ more

finishes : (c : Call) → Finishes c
finishes (call.Not at) = record { more = token.Open ∷ token.Number 0 ∷ token.Close ∷ []; tree = Negated at (Leaf (atom.Number 0)); atomic = tt; spelled = refl }
finishes (call.Whole measure at) = record { more = token.Open ∷ token.Close ∷ []; tree = Leaf (atom.Whole measure at); atomic = tt; spelled = refl }
finishes (call.WholeOpen measure at) = record { more = token.Close ∷ []; tree = Leaf (atom.Whole measure at); atomic = tt; spelled = refl }
finishes (call.Of pick at) = record { more = token.Open ∷ token.Name nothing ∷ token.Close ∷ []; tree = Leaf (atom.Of pick at nothing); atomic = tt; spelled = refl }
finishes (call.OfOpen pick at) = record { more = token.Name nothing ∷ token.Close ∷ []; tree = Leaf (atom.Of pick at nothing); atomic = tt; spelled = refl }
finishes (call.OfName pick at w) = record { more = token.Close ∷ []; tree = Leaf (atom.Of pick at w); atomic = tt; spelled = refl }
finishes (call.At at) = record { more = token.Open ∷ token.Name nothing ∷ token.Comma ∷ token.Name nothing ∷ token.Close ∷ []; tree = Leaf (atom.At at nothing nothing); atomic = tt; spelled = refl }
finishes (call.AtOpen at) = record { more = token.Name nothing ∷ token.Comma ∷ token.Name nothing ∷ token.Close ∷ []; tree = Leaf (atom.At at nothing nothing); atomic = tt; spelled = refl }
finishes (call.AtName at c) = record { more = token.Comma ∷ token.Name nothing ∷ token.Close ∷ []; tree = Leaf (atom.At at c nothing); atomic = tt; spelled = refl }
finishes (call.AtComma at c) = record { more = token.Name nothing ∷ token.Close ∷ []; tree = Leaf (atom.At at c nothing); atomic = tt; spelled = refl }
finishes (call.AtNames at c v) = record { more = token.Close ∷ []; tree = Leaf (atom.At at c v); atomic = tt; spelled = refl }

mode_begins : (s : List Frame) (m : Mode) → IsSound s → IsAtomic m → Begins (stack_tokens s ++ mode_tokens m)
mode_begins s Want h a = subst Begins (sym (append-nil (stack_tokens s))) (begins_front (stack_tokens s) (token.Number 0 ∷ []) (close_all s (Leaf (atom.Number 0)) h tt))
mode_begins s (Have t) h a = close_all s t h (In-lower t 5 _ a (need_least s))
mode_begins s (Inside c) h a =
    let f = finishes c in
    begins_front _ f.more (subst Begins (ap (λ l. stack_tokens s ++ l) f.spelled ∙ sym (append_assoc (stack_tokens s) (call_tokens c) f.more)) (close_all s f.tree h (In-lower f.tree 5 _ f.atomic (need_least s))))

pub stands_begins : (ts : List Token) (s : State) → Stands ts s → Begins ts
stands_begins ts s h = subst Begins h.read (mode_begins s.0 s.1 h.pending h.atomic)

-- ---- a whole tree

alone_derives : (ts : List Token) (r : List Frame × Tree) (t : Tree) → Reduced 0 ts r → alone r ≡ Some t → Derives ts t
alone_derives ts ([], u) t h e = let same : u ≡ t = cc in subst (Derives ts) same (record { grammatical = h.level; spelled = h.spelled })
alone_derives ts (f ∷ s, u) t h e = absurd (never e)
  where
    never : ◌≡◌ {A = Option Tree} None (Some t) → ⊥
    never e = cc

whole_mode : (s : List Frame) (m : Mode) (t : Tree) → IsSound s → IsAtomic m → whole (s, m) ≡ Some t → Derives (stack_tokens s ++ mode_tokens m) t
whole_mode s Want t h a e = absurd (never e)
  where
    never : ◌≡◌ {A = Option Tree} None (Some t) → ⊥
    never e = cc
whole_mode s (Have u) t h a e = alone_derives _ (reduce 0 s u) t (reduce_sound 0 s u h (In-lower u 5 0 a (omega arith)) (In-lower u 5 _ a (need_least s))) e
whole_mode s (Inside c) t h a e = absurd (never e)
  where
    never : ◌≡◌ {A = Option Tree} None (Some t) → ⊥
    never e = cc

pub whole_derives : (ts : List Token) (s : State) (t : Tree) → Stands ts s → whole s ≡ Some t → Derives ts t
whole_derives ts s t h e = subst (λ l. Derives l t) h.read (whole_mode s.0 s.1 t h.pending h.atomic e)
