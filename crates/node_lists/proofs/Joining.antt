-- Lists of lists, list by list.
use Rattle.std.proofs.Common.{ℕ, ◌<◌, ◌≤◌, ◌≡◌, List, [], ◌∷◌, ◌++◌, length, ap, ◌∙◌}
use Rattle.std.proofs.lemmas.List.{get_or_append_left, get_or_push}
use Rattle.ds_base.specs.Items.{Items}
use Rattle.node_lists.specs.Lists.{items_at, no_list}

-- ---- one list more

pub front_list : {X : Type 0} (lists lists' : List (Items X)) (one : Items X) (i : ℕ) → lists' ≡ lists ++ one ∷ [] → i < length lists → items_at lists' i ≡ items_at lists i
front_list {X = X} lists lists' one i pushed less = ap (λ (l : List (Items X)). items_at l i) pushed ∙ ap (λ (l : Items X). l.items) (get_or_append_left lists (one ∷ []) no_list i less)

pub last_list : {X : Type 0} (lists lists' : List (Items X)) (one : Items X) (i : ℕ) → lists' ≡ lists ++ one ∷ [] → length lists ≡ i → items_at lists' i ≡ one.items
last_list {X = X} lists lists' one i pushed long = ap (λ (l : List (Items X)). items_at l i) pushed ∙ ap (λ (l : Items X). l.items) (get_or_push lists one no_list i long)

-- ---- lists joined from the last one on

-- the lists from number n on were joined, and `left` are those before it
pub record Joining {X : Type 0} (old more now left : List (Items X)) : Type 0 where
  pub long : length now ≡ length old
  pub fewer : length left ≤ length old
  pub front : (i : ℕ) → i < length left → items_at left i ≡ items_at more i
  pub before : (i : ℕ) → i < length left → items_at now i ≡ items_at old i
  pub behind : (i : ℕ) → length left ≤ i → items_at now i ≡ items_at old i ++ items_at more i
