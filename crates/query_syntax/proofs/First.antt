-- The first fault of a text.
use Rattle.std.proofs.Common.{◌≡◌, ℕ, zero, suc, ◌+◌, ◌<◌, ◌≤◌, ◌⊎◌, add-one, List, [], ◌∷◌, ◌++◌, length, take, Option, Some, None, refl, sym, ap, subst, ◌∙◌, arith, slice_get, inl, inr}
use Rattle.std.proofs.lemmas.Bool.{cases_order}
use Rattle.std.proofs.lemmas.List.{map-append, take_all}
use Rattle.std.proofs.lemmas.Option.{slice_get_within}
use Rattle.query_tokens.specs.declared.token.Token.TheVariants.{Open}
use Rattle.query_tokens.specs.declared.lexer.Placed.{Placed}
use Rattle.query_tokens.specs.Lexing.{Lexes}
use Rattle.query_syntax.specs.declared.fault.QueryWhat.{QueryWhat}
use Rattle.query_syntax.specs.declared.fault.QueryWhat.TheVariants as what
use Rattle.query_syntax.specs.Grammar.{Begins, IsExpression}
use Rattle.query_syntax.specs.Faults.{tokens, open_behind, HasFault, order, IsFirst}
use Rattle.query_syntax.proofs.Standing.{begins_front}
use Rattle.query_syntax.proofs.Placing.{place_within, place_before_stop, places_rise}

-- the tokens before number i begin an expression, and none of them is too deep
pub record Clear (ps : List Placed) (i : ℕ) : Type 0 where
  pub begins : Begins (tokens (take i ps))
  pub shallow : (k : ℕ) (q : Placed) → k < i → slice_get ps k ≡ Some q → q.token ≡ Open → open_behind (tokens (take k ps)) ≡ 32 → ⊥

-- ---- fronts

take_split : (ps : List Placed) (j i : ℕ) → j ≤ i → (more : List Placed) × (take i ps ≡ take j ps ++ more)
take_split ps zero i le = (take i ps, refl)
take_split ps (suc j) zero le = absurd (omega arith)
take_split [] (suc j) (suc i) le = ([], refl)
take_split (p ∷ ps) (suc j) (suc i) le = let r = take_split ps j i (omega arith) in (r.0, ap (λ l. p ∷ l) r.1)

take_suc : (ps : List Placed) (i : ℕ) (p : Placed) → slice_get ps i ≡ Some p → take (suc i) ps ≡ take i ps ++ p ∷ []
take_suc [] i p e = absurd (never e)
  where
    never : ◌≡◌ {A = Option Placed} None (Some p) → ⊥
    never e = cc
take_suc (x ∷ ps) zero p e = let same : x ≡ p = cc in ap (λ y. y ∷ []) same
take_suc (x ∷ ps) (suc i) p e = ap (λ l. x ∷ l) (take_suc ps i p e)

-- one token more
pub tokens_more : (ps : List Placed) (i : ℕ) (p : Placed) → slice_get ps i ≡ Some p → tokens (take (i + 1) ps) ≡ tokens (take i ps) ++ p.token ∷ []
tokens_more ps i p e = rw add-one (ap tokens (take_suc ps i p e) ∙ map-append (λ (q : Placed). q.token) (take i ps) (p ∷ []))

begins_before : (ps : List Placed) (j i : ℕ) → j ≤ i → Begins (tokens (take i ps)) → Begins (tokens (take j ps))
begins_before ps j i le h =
    let s = take_split ps j i le in
    begins_front _ (tokens s.0) (subst Begins (ap tokens s.1 ∙ map-append (λ (q : Placed). q.token) (take j ps) s.0) h)

-- ---- the first fault

place_of : (ps : List Placed) (i : ℕ) (p q : Placed) (k : ℕ) → slice_get ps i ≡ Some p → slice_get ps k ≡ Some q → k ≡ i → p ≡ q
place_of ps i p q k e f same = some_is (sym e ∙ ap (slice_get ps) (sym same) ∙ f)
  where
    some_is : {x y : Placed} → ◌≡◌ {A = Option Placed} (Some x) (Some y) → x ≡ y
    some_is e = cc

-- at a token with nothing wrong before it, any fault is later, or here
module _ (text : List ℕ) (ps : List Placed) (stop : Option ℕ) (i : ℕ) (p : Placed) (lexed : Lexes text 0 ps stop) (here : slice_get ps i ≡ Some p) (clear : Clear ps i) where
  abbrev After : QueryWhat → ℕ → Type 0
  After w b = (p.at < b) ⊎ ((p.at ≡ b) × (order w ≤ 2) × (1 ≤ order w) × (order w ≡ 1 → (p.token ≡ Open) × (open_behind (tokens (take i ps)) ≡ 32)))

  deep_after : (b k : ℕ) (q : Placed) → slice_get ps k ≡ Some q → q.at ≡ b → q.token ≡ Open → open_behind (tokens (take k ps)) ≡ 32 → After what.Deep b
  deep_after b k q e at opened deep = go (cases_order k i)
    where
      go : (k ≡ i) ⊎ ((k < i) ⊎ (i < k)) → After what.Deep b
      go (inl same) =
          let pq = place_of ps i p q k here e same in
          inr (ap (λ (x : Placed). x.at) pq ∙ at, omega arith, omega arith, λ _. (ap (λ (x : Placed). x.token) pq ∙ opened, ap (λ n. open_behind (tokens (take n ps))) (sym same) ∙ deep))
      go (inr (inl less)) = absurd (clear.shallow k q less e opened deep)
      go (inr (inr more)) = let rise = places_rise text 0 ps stop i k p q lexed here e more in inl (omega (arith, at))

  syntax_after : (b k : ℕ) (q : Placed) → slice_get ps k ≡ Some q → q.at ≡ b → ¬ (Begins (tokens (take (k + 1) ps))) → After what.Syntax b
  syntax_after b k q e at wrong = go (cases_order k i)
    where
      go : (k ≡ i) ⊎ ((k < i) ⊎ (i < k)) → After what.Syntax b
      go (inl same) = inr (ap (λ (x : Placed). x.at) (place_of ps i p q k here e same) ∙ at, omega arith, omega arith, λ two. absurd (omega (arith, two)))
      go (inr (inl less)) = absurd (wrong (begins_before ps (k + 1) i (omega arith) clear.begins))
      go (inr (inr more)) = let rise = places_rise text 0 ps stop i k p q lexed here e more in inl (omega (arith, at))

  pub after : (w : QueryWhat) (b : ℕ) → HasFault (length text) ps stop w b → After w b
  after what.Token b h = inl (place_before_stop text 0 ps stop i p b lexed here h)
  after what.Deep b h = deep_after b h.0 h.1 h.2 h.3 h.4 h.5
  after what.Syntax b (inl h) = syntax_after b h.0 h.1 h.2 h.3 h.5
  after what.Syntax b (inr h) = let within = place_within text 0 ps stop i p lexed here in inl (omega (arith, h.1))
  after what.Name b h = absurd h

  pub deep_first : p.token ≡ Open → open_behind (tokens (take i ps)) ≡ 32 → IsFirst (length text) ps stop what.Deep p.at
  deep_first opened deep = record {
    stands = (i, p, here, refl, opened, deep);
    first = λ w b h. elim (after w b h) [ inl later ↦ inl later | inr same ↦ inr (same.0, same.2) ];
  }

  pub syntax_first : ¬ (Begins (tokens (take (i + 1) ps))) → ¬ ((p.token ≡ Open) × (open_behind (tokens (take i ps)) ≡ 32)) → IsFirst (length text) ps stop what.Syntax p.at
  syntax_first wrong shallow = record {
    stands = inl (i, p, here, refl, clear.begins, wrong);
    first = λ w b h. elim (after w b h) [
      | inl later ↦ inl later
      | inr same ↦ inr (same.0, elim (cases_order (order w) 1) [ inl deep ↦ absurd (shallow (same.3 deep)) | inr other ↦ elim other [ inl less ↦ absurd (omega (arith, less, same.2)) | inr more ↦ more ] ])
    ];
  }

-- where nothing is wrong with any token, a fault stands where the tokens stop
module _ (text : List ℕ) (ps : List Placed) (stop : Option ℕ) (clear : Clear ps (length ps)) where
  all_begin : Begins (tokens ps)
  all_begin = subst (λ l. Begins (tokens l)) (take_all (length ps) ps (omega arith)) clear.begins

  abbrev Late : QueryWhat → ℕ → Type 0
  Late w b = ((stop ≡ Some b) × (order w ≡ 0)) ⊎ ((stop ≡ None) × (b ≡ length text) × (order w ≡ 2) × ¬ (IsExpression (tokens ps)))

  late : (w : QueryWhat) (b : ℕ) → HasFault (length text) ps stop w b → Late w b
  late what.Token b h = inl (h, refl)
  late what.Deep b h = absurd (clear.shallow h.0 h.1 (slice_get_within ps h.0 h.1 h.2) h.2 h.4 h.5)
  late what.Syntax b (inl h) = let within = slice_get_within ps h.0 h.1 h.2 in absurd (h.5 (begins_before ps (h.0 + 1) (length ps) (omega arith) clear.begins))
  late what.Syntax b (inr h) = inr (h.0, h.1, refl, h.3)
  late what.Name b h = absurd h

  pub token_first : (at : ℕ) → stop ≡ Some at → IsFirst (length text) ps stop what.Token at
  token_first at e = record {
    stands = e;
    first = λ w b h. elim (late w b h) [ inl found ↦ inr (same (sym e ∙ found.0), omega (arith, found.1)) | inr end ↦ absurd (never (sym end.0 ∙ e)) ];
  }
    where
      same : {x y : ℕ} → ◌≡◌ {A = Option ℕ} (Some x) (Some y) → x ≡ y
      same e = cc

      never : {x : ℕ} → ◌≡◌ {A = Option ℕ} None (Some x) → ⊥
      never e = cc

  pub end_first : stop ≡ None → ¬ (IsExpression (tokens ps)) → IsFirst (length text) ps stop what.Syntax (length text)
  end_first e wrong = record {
    stands = inr (e, refl, all_begin, wrong);
    first = λ w b h. elim (late w b h) [ inl found ↦ absurd (never (sym e ∙ found.0)) | inr end ↦ inr (sym end.1, omega (arith, end.2)) ];
  }
    where
      never : {x : ℕ} → ◌≡◌ {A = Option ℕ} None (Some x) → ⊥
      never e = cc

  pub no_fault : stop ≡ None → IsExpression (tokens ps) → (w : QueryWhat) (b : ℕ) → HasFault (length text) ps stop w b → ⊥
  no_fault e right w b h = elim (late w b h) [ inl found ↦ never (sym e ∙ found.0) | inr end ↦ end.3 right ]
    where
      never : {x : ℕ} → ◌≡◌ {A = Option ℕ} None (Some x) → ⊥
      never e = cc
