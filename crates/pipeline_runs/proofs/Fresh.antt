-- Sources of which one more is pushed stay fresh.
use Rattle.std.proofs.Common.{◌≡◌, List, [], ◌∷◌, ◌++◌, ◌∙◌, map, ap, sym, subst}
use Rattle.std.specs.List.{All}
use Rattle.std.proofs.lemmas.List.{map-append}
use Rattle.std.proofs.lemmas.List.Elements.{All-push}
use Rattle.ds_base.specs.Outside.{SourceSeen, IsFresh}

pub fresh_push : {X : Type 0} (seen : X → SourceSeen) (before after : List X) (x : X) → after ≡ before ++ (x ∷ [])
    → All IsFresh (map seen before) → IsFresh (seen x) → All IsFresh (map seen after)
fresh_push seen before after x pushed all one =
    subst (All IsFresh) (sym (ap (map seen) pushed ∙ map-append seen before (x ∷ []))) (All-push IsFresh (map seen before) (seen x) all one)
