use Rattle.std.proofs.Common.{ℕ, ◌≡◌, ◌<◌, ◌-◌, ◌^◌, map, drop, get_or}
use Rattle.std.specs.Char.{IsAsciiDigit}
use Rattle.std.specs.Int.Digits.{number_from_digits, number_from_digits_after}
use Rattle.command_words.proofs.number.number.Given as goal

-- the bytes before this one are digits, and what they say goes on to what all of them say
abbrev pub invariant-loop-digit : goal.invariant-loop-digit
invariant-loop-digit l = record {
  small : l.n < 10 ^ l.digit-index;
  each : (k : ℕ) (d : ℕ) → k < l.digit-index → IsAsciiDigit (get_or l.digits k d);
  value : number_from_digits_after 10 l.n (map (λ d. d - 48) (drop l.digit-index l.digits)) ≡ number_from_digits 10 (map (λ d. d - 48) l.digits);
}
