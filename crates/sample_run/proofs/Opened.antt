-- A source of each file.
use Rattle.std.proofs.Common.{◌≡◌, ℕ, ◌+◌, List, [], ◌∷◌, ◌++◌, Some, map, take, slice_get, sym, ap, ◌∙◌}
use Rattle.std.proofs.lemmas.List.{map-append}
use Rattle.ds_base.specs.Files.{named_bytes}
use Rattle.ds_base.specs.Outside.{SourceSeen}
use Rattle.ds_base.specs.declared.fakes.NamedFile.{NamedFile}
use Rattle.ds_base.proofs.Places.{take_at}
use Rattle.sample_run.specs.Made.{fresh_source}

-- one more
pub one_opened : {A : Type 0} (seen : A → SourceSeen) (before after : List A) (item : A) (files : List NamedFile) (k : ℕ) (file : NamedFile)
    → map seen before ≡ map fresh_source (map named_bytes (take k files)) → after ≡ before ++ item ∷ []
    → slice_get files k ≡ Some file → seen item ≡ fresh_source (named_bytes file)
    → map seen after ≡ map fresh_source (map named_bytes (take (k + 1) files))
one_opened seen before after item files k file so_far put got is =
    ap (map seen) put ∙ map-append seen before (item ∷ []) ∙ ap (λ t. t ++ seen item ∷ []) so_far
    ∙ ap (λ y. map fresh_source (map named_bytes (take k files)) ++ y ∷ []) is
    ∙ sym (map-append fresh_source (map named_bytes (take k files)) (named_bytes file ∷ []))
    ∙ ap (map fresh_source) (sym (map-append named_bytes (take k files) (file ∷ [])))
    ∙ ap (λ t. map fresh_source (map named_bytes t)) (sym (take_at files k file got))
