-- What the tests' parser of two captures asks.
use Rattle.std.proofs.Common.{◌≡◌, zero, suc, List, [], ◌∷◌, length, sym, subst, arith}
use Rattle.std.specs.List.{All}
use Rattle.ds_base.specs.Outside.{SourceSeen, IsFresh}
use Rattle.summary_spec.specs.Declaration.{Declared}
use Rattle.net_law.specs.Starts.{AreOwn, new_parser}

-- one parser has all captures
pub all_own : (job : Declared) (sources : List SourceSeen) → length job.captures ≡ length sources → AreOwn (new_parser job 0 1 0 sources [])
all_own job sources same = record { captures = λ c own. omega (arith, own.0, same); own = λ i less. (omega (arith, less, same), omega arith) }

two_fresh : (a b : SourceSeen) → IsFresh a → IsFresh b → All IsFresh (a ∷ b ∷ [])
two_fresh a b first second zero d less = first
two_fresh a b first second (suc zero) d less = second
two_fresh a b first second (suc (suc k)) d less = absurd (omega arith)

pub both_fresh : (a b : SourceSeen) (sources : List SourceSeen) → sources ≡ a ∷ b ∷ [] → IsFresh a → IsFresh b → All IsFresh sources
both_fresh a b sources same first second = subst (All IsFresh) (sym same) (two_fresh a b first second)
