-- A length that is written over four bytes before a payload.
use Rattle.std.proofs.Common.{◌≡◌, ◌≤◌, ℕ, ◌+◌, ◌-◌, List, ◌++◌, length, take, drop, sym, ap, ap₂, ◌∙◌, arith, append_assoc, take_at, drop_at, length-append, refl}
use Rattle.node_frames.specs.Fields.{bytes_of}

pub record Written (old zeros payload behind : List ℕ) (oldspare newspare : ℕ) : Type 0 where
  pub some : 1 ≤ length payload
  pub most : length payload ≤ 1024
  pub spare : newspare + length payload ≡ oldspare
  pub len : length behind - length old - 4 ≡ length payload
  pub bytes : take (length old) behind ++ (bytes_of 4 (length behind - length old - 4) ++ drop (length old + 4) behind) ≡ old ++ (bytes_of 4 (length payload) ++ payload)

pub written : (old zeros payload behind first : List ℕ) (spare left : ℕ) → length zeros ≡ 4 → first ≡ old ++ zeros → behind ≡ first ++ payload
    → length behind + left ≡ length first + spare → left + 1 ≤ spare → spare ≤ left + 1024 → Written old zeros payload behind spare left
written old zeros payload behind first spare left four begun done room some most =
    let whole : behind ≡ old ++ (zeros ++ payload) = done ∙ ap (λ bytes. bytes ++ payload) begun ∙ append_assoc old zeros payload in
    let long : length behind ≡ length first + length payload = ap length done ∙ length-append first payload in
    let longer : length first ≡ length old + length zeros = ap length begun ∙ length-append old zeros in
    let front : take (length old) behind ≡ old = ap (take (length old)) whole ∙ take_at old (zeros ++ payload) (length old) refl in
    let split : old ++ (zeros ++ payload) ≡ (old ++ zeros) ++ payload = sym (append_assoc old zeros payload) in
    let four_on : length (old ++ zeros) ≡ length old + 4 = omega (arith, length-append old zeros) in
    let back : drop (length old + 4) behind ≡ payload = ap (drop (length old + 4)) (whole ∙ split) ∙ drop_at (old ++ zeros) payload (length old + 4) four_on in
    let len : length behind - length old - 4 ≡ length payload = omega arith in
    record {
      some = omega arith;
      most = omega arith;
      spare = omega arith;
      len = len;
      bytes = ap₂ (λ (a b : List ℕ). a ++ b) front (ap₂ (λ (n : ℕ) (after : List ℕ). bytes_of 4 n ++ after) len back);
    }
