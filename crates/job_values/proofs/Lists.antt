-- Lists that are looked at through a function.
use Rattle.std.proofs.Common.{◌≡◌, ℕ, Bool, not, List, [], ◌∷◌, map, refl, Bor}
use Rattle.std.specs.List.{list_any}
use Rattle.std.specs.Prelude.{String, string_bytes, bytes_eq}
use Rattle.std.specs.declared.alloc.Global.{Global}
use Rattle.std.specs.Map.{keys_of}
use Rattle.serde_json.specs.View.{members_view}
use Rattle.serde_json.specs.declared.value.Value.{Value}
use Rattle.job_values.specs.Values.{has_stray}

pub list_any_map : {A B : Type 0} (p : B → Bool) (f : A → B) (xs : List A) → list_any p (map f xs) ≡ list_any (λ x. p (f x)) xs
list_any_map p f [] = refl
list_any_map p f (x ∷ xs) = rw (list_any_map p f xs) refl

pub strays_shown : (known : List (Bor (List ℕ))) (ms : List (String Global × Value))
    → list_any (λ key. not (list_any (λ one. bytes_eq one.now (string_bytes key)) known)) (keys_of ms) ≡ has_stray (map (λ name. name.now) known) (members_view ms)
strays_shown known [] = refl
strays_shown known (m ∷ ms) = rw (strays_shown known ms, list_any_map (λ k. bytes_eq k (string_bytes m.0)) (λ (name : Bor (List ℕ)). name.now) known) refl
