-- How a short list of numbers lies in sixteen slots.
use Rattle.std.specs.Prelude.{ℕ, List, ◌≡◌, ◌≤◌, ◌-◌, ◌++◌, take, length, replicate}
use Rattle.std.proofs.Common.{sym, ap, arith, ◌∙◌}
use Rattle.std.proofs.lemmas.List.{length-take-le}
use Rattle.ds_base.specs.declared.nums.Nums.TheInside.{Inside}

-- sixteen slots: the first `len` of any value, and 0 after
pub record IsPadded (len : ℕ) (slots : List ℕ) : Type 0 where
  pub few : len ≤ 16
  pub width : length slots ≡ 16
  pub padded : slots ≡ take len slots ++ replicate (16 - len) 0

-- the fields are given back by the numbers
pub restored : (nums : Inside) → IsPadded nums.len nums.slots
    → record { len = length (take nums.len nums.slots); slots = take nums.len nums.slots ++ replicate (16 - length (take nums.len nums.slots)) 0 } ≡ nums
restored nums h =
    let long : nums.len ≤ length nums.slots = omega (arith, h.few, h.width) in
    ap (λ (n : ℕ). record { len = n; slots = take nums.len nums.slots ++ replicate (16 - n) 0 }) (length-take-le nums.len nums.slots long)
    ∙ sym (ap (λ (slots : List ℕ). record { len = nums.len; slots = slots }) h.padded)
