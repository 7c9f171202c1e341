-- A layer grows by one node, whose lists are taken out.
use Rattle.std.proofs.Common.{ℕ, ◌+◌, ◌<◌, ◌≤◌, ◌≡◌, List, [], ◌∷◌, ◌++◌, length, get_or, refl, sym, ap, ◌∙◌, subst, arith, ⊎_elim, ◌⊎◌}
use Rattle.std.proofs.lemmas.List.{get_or_append_left, get_or_push, length_push}
use Rattle.ds_base.specs.Items.{Items}
use Rattle.node_lists.specs.Lists.{SetsAt, items_at}
use Rattle.node_layers.specs.Layers.{IsLayer}

below_or_last : (k n : ℕ) → k < n + 1 → (k < n) ⊎ (k ≡ n)
below_or_last k n less = grind arith

-- ---- one node more

pub no_layer : {N : Type 0} (Is : ℕ → N → Type 0) (layer : List N) → layer ≡ [] → IsLayer 0 Is layer
no_layer Is layer none = record { long = ap length none; each = λ k d less. absurd (omega arith) }

pub layer_more : {N : Type 0} (n : ℕ) (Is : ℕ → N → Type 0) (layer layer' : List N) (node : N) → IsLayer n Is layer → layer' ≡ layer ++ node ∷ [] → Is n node → IsLayer (n + 1) Is layer'
layer_more {N = N} n Is layer layer' node is pushed one = record {
  long = ap length pushed ∙ length_push layer node ∙ ap (λ m. m + 1) is.long;
  each = λ k d less.
      ⊎_elim
      (λ (before : k < n). subst (Is k) (sym (ap (λ (l : List N). get_or l k d) pushed ∙ get_or_append_left layer (node ∷ []) d k (omega (arith, before, is.long)))) (is.each k d before))
      (λ (last : k ≡ n). subst (Is k) (sym (ap (λ (l : List N). get_or l k d) pushed ∙ get_or_push layer node d k (is.long ∙ sym last))) (subst (λ (m : ℕ). Is m node) (sym last) one))
      (below_or_last k n less);
}

-- ---- the lists that are left

-- the lists from number n on are as they were
pub record LeftFrom {X : Type 0} (n : ℕ) (before after : List (Items X)) : Type 0 where
  pub long : length after ≡ length before
  pub left : (k : ℕ) → n ≤ k → items_at after k ≡ items_at before k

pub all_left : {X : Type 0} (before : List (Items X)) → LeftFrom 0 before before
all_left before = record { long = refl; left = λ k past. refl }

pub left_more : {X : Type 0} (n : ℕ) (before mid after : List (Items X)) (items : List X) → LeftFrom n before mid → SetsAt mid after n items → LeftFrom (n + 1) before after
left_more n before mid after items is sets = record {
  long = sets.long ∙ is.long;
  left = λ k past. sets.others k (omega (arith, past)) ∙ is.left k (omega (arith, past));
}

-- the lists before number n have no items
pub none_before : {X : Type 0} (n : ℕ) (mid after : List (Items X)) → ((k : ℕ) → k < n → items_at mid k ≡ []) → SetsAt mid after n [] → (k : ℕ) → k < n + 1 → items_at after k ≡ []
none_before {X = X} n mid after none sets k less =
    ⊎_elim
    (λ (before : k < n). sets.others k (omega (arith, before)) ∙ none k before)
    (λ (last : k ≡ n). subst (λ (m : ℕ). items_at after m ≡ []) (sym last) sets.here)
    (below_or_last k n less)
