-- The filter of the job of the command `count` is what its text says.
use Rattle.std.proofs.Common.{◌≡◌, ℕ, List, refl, sym, subst}
use Rattle.std.specs.Prelude.{Ok, codes}
use Rattle.query_lang.specs.declared.names.Scope.TheVariants.{One}
use Rattle.query_lang.specs.Expression.{Literal}
use Rattle.job_values.specs.Parsed.{lexed_from, tree_from, parsed}

one : (vars captures : List (List ℕ)) → parsed One vars captures (codes "1") ≡ Ok (Literal 1)
unfolding lexed_from tree_from parsed
one vars captures = refl

pub one_is : (vars captures : List (List ℕ)) (text : List ℕ) → text ≡ codes "1" → parsed One vars captures text ≡ Ok (Literal 1)
one_is vars captures text e = subst (λ t. parsed One vars captures t ≡ Ok (Literal 1)) (sym e) (one vars captures)
