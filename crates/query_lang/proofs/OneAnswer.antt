-- The grammar answers a text in one way.
use Rattle.std.proofs.Common.{◌≡◌, ℕ, List, Option, Some, None, ap, sym, ◌∙◌, inl, inr}
use Rattle.query_syntax.specs.Tree.{Tree}
use Rattle.query_syntax.specs.Faults.{Reads, Fails}
use Rattle.query_syntax.specs.declared.fault.QueryWhat.{QueryWhat}
use Rattle.query_syntax.specs.declared.fault.QueryFault.{QueryFault}
use Rattle.query_syntax.specs.declared.fault.ParseFault.TheVariants.{Bad}
use Rattle.query_lang.specs.declared.names.Names.{Names}
use Rattle.query_lang.specs.declared.names.Scope.{Scope}
use Rattle.query_lang.specs.Expression.{Expression}
use Rattle.query_lang.specs.Grammar.{Gives, Refuses, mentions, first_barred, expression}

none_some : {at : ℕ} → ◌≡◌ {A = Option ℕ} None (Some at) → ⊥
none_some e = cc

some_same : {a b : ℕ} → ◌≡◌ {A = Option ℕ} (Some a) (Some b) → a ≡ b
some_same e = cc

fault_same : (e f : QueryFault) → e.what ≡ f.what → e.at ≡ f.at → e ≡ f
fault_same e f w a = ap (λ n. record { at = n; what = e.what }) a ∙ ap (λ x. record { at = f.at; what = x }) w

module _ (tree : (text : List ℕ) (t u : Tree) → Reads text t → Reads text u → t ≡ u) where
  pub gives_one : (text : List ℕ) (names : Names) (scope : Scope) (e f : Expression) → Gives text names scope e → Gives text names scope f → e ≡ f
  gives_one text names scope e f h k = h.3 ∙ ap (expression names text) (tree text h.0 k.0 h.1 k.1) ∙ sym k.3

  module _ (either : (text : List ℕ) (t : Tree) (w : QueryWhat) (a : ℕ) → Reads text t → Fails text w a → ⊥) where
    pub gives_or_refuses : (text : List ℕ) (names : Names) (scope : Scope) (e : Expression) (f : QueryFault) → Gives text names scope e → Refuses text names scope (Bad f) → ⊥
    gives_or_refuses text names scope e f h (inl k) = either text h.0 f.what f.at h.1 k
    gives_or_refuses text names scope e f h (inr k) =
        none_some (sym h.2 ∙ ap (λ t. first_barred (mentions names text scope t)) (tree text h.0 k.0 h.1 k.1) ∙ k.3)

    pub refuses_one : ((text : List ℕ) (w v : QueryWhat) (a b : ℕ) → Fails text w a → Fails text v b → (w ≡ v) × (a ≡ b))
        → (text : List ℕ) (names : Names) (scope : Scope) (e f : QueryFault) → Refuses text names scope (Bad e) → Refuses text names scope (Bad f) → e ≡ f
    refuses_one fault text names scope e f (inl h) (inl k) = let same = fault text e.what f.what e.at f.at h k in fault_same e f same.0 same.1
    refuses_one fault text names scope e f (inl h) (inr k) = absurd (either text k.0 e.what e.at k.1 h)
    refuses_one fault text names scope e f (inr h) (inl k) = absurd (either text h.0 f.what f.at h.1 k)
    refuses_one fault text names scope e f (inr h) (inr k) =
        fault_same e f (h.2 ∙ sym k.2) (some_same (sym h.3 ∙ ap (λ t. first_barred (mentions names text scope t)) (tree text h.0 k.0 h.1 k.1) ∙ k.3))
