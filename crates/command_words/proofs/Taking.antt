-- The steps of the reader, from what its calls answer.
use Rattle.std.proofs.Common.{ℕ, List, [], ◌∷◌, ◌++◌, ◌≡◌, ◌<◌, ◌+◌, Option, Some, None, IfSome, IfNone, length, map, get_or, sym, ◌∙◌, subst, arith}
use Rattle.std.proofs.Math.ListN.{set}
use Rattle.std.proofs.lemmas.List.{length-map}
use Rattle.command_words.specs.declared.kind.WordKind.{WordKind}
use Rattle.command_words.specs.declared.shape.Shape.{Shape}
use Rattle.command_words.specs.declared.kind.WordKind.TheVariants.{File}
use Rattle.command_words.specs.declared.table.Name.{Name}
use Rattle.command_words.specs.declared.reading.Read.{Read}
use Rattle.command_words.specs.Kinds.{HasKind, IsRequired}
use Rattle.command_words.specs.CommandTable.{plain_kinds, options_of, option_word, option_kind}
use Rattle.command_words.specs.Reading.{StandsFor, Stands, Becomes, Goes, shown_words, shown_values, HasShape, NoOption}
use Rattle.command_words.proofs.KindLists.{none_given}
use Rattle.command_words.proofs.Next.{refuse_plain, refuse_apart, refuse_joined, refuse_other, refuse_value}
use Rattle.command_words.proofs.Steps.{took_word, took_value, took_joined}

-- what is read stands for the words that its lists stand for
same_read : (c : Name) (r : Read) (n : ℕ) (p : List (List ℕ)) (v : List (Option (List ℕ))) (o : Option ℕ) (ws : List (List ℕ))
    → Becomes r n p v o → StandsFor c n p v o ws → Stands c r ws
same_read c r n p v o ws b s =
    subst (λ x. StandsFor c x (shown_words r) (shown_values r) r.waiting ws) (sym b.0)
    (subst (λ x. StandsFor c n x (shown_values r) r.waiting ws) (sym b.1)
    (subst (λ x. StandsFor c n p x r.waiting ws) (sym b.2)
    (subst (λ x. StandsFor c n p v x ws) (sym b.3) s)))

-- what stands for words, where it is known which option waits
at_wait : (c : Name) (r : Read) (o : Option ℕ) (ws : List (List ℕ)) → r.waiting ≡ o → Stands c r ws → StandsFor c r.count (shown_words r) (shown_values r) o ws
at_wait c r o ws e h = subst (λ x. StandsFor c r.count (shown_words r) (shown_values r) x ws) e h

pub value_stands : (c : Name) (r : Read) (w : List ℕ) (k : ℕ) (next : Option Read) → r.waiting ≡ Some k → IsRequired w
    → IfSome next (λ _. HasKind (option_kind c k) w)
    → IfSome next (λ x. Becomes x r.count (shown_words r) (set (shown_values r) k (Some w)) None)
    → IfSome next (λ x. (ws : List (List ℕ)) → Stands c r ws → Stands c x (ws ++ (w ∷ [])))
value_stands c r w k None e required kind becomes = tt
value_stands c r w k (Some x) e required kind becomes =
    λ ws h. same_read c x _ _ _ _ _ becomes (took_value c r.count (shown_words r) (shown_values r) ws k w (at_wait c r (Some k) ws e h) required kind)

-- the option that waits has no value
free_slot : (c : Name) (r : Read) (k : ℕ) (ws : List (List ℕ)) → StandsFor c r.count (shown_words r) (shown_values r) (Some k) ws
    → get_or (shown_values r) k None ≡ None
free_slot c r k ws s = none_given (get_or (shown_values r) k None) (sym (s.values_read k) ∙ s.free.1)

pub value_refused : (c : Name) (r : Read) (w : List ℕ) (k : ℕ) (next : Option Read) → r.waiting ≡ Some k
    → IfNone next (get_or (shown_values r) k None ≡ None → HasKind (option_kind c k) w → ⊥)
    → IfNone next ((ws : List (List ℕ)) → Stands c r ws → Goes c (ws ++ (w ∷ [])) → ⊥)
value_refused c r w k (Some x) e none = tt
value_refused c r w k None e none =
    λ ws h g. (let s = at_wait c r (Some k) ws e h in
    refuse_value c r.count (shown_words r) (shown_values r) k ws w s (λ required kind. none (free_slot c r k ws s) kind) g)

pub word_stands : (c : Name) (r : Read) (w : List ℕ) (next : Option Read) → r.waiting ≡ None → IsRequired w
    → IfSome next (λ _. r.count < length (plain_kinds c))
    → IfSome next (λ _. HasKind (get_or (plain_kinds c) r.count File) w)
    → IfSome next (λ x. Becomes x (r.count + 1) (set (shown_words r) r.count w) (shown_values r) None)
    → IfSome next (λ x. (ws : List (List ℕ)) → Stands c r ws → Stands c x (ws ++ (w ∷ [])))
word_stands c r w None e required more kind becomes = tt
word_stands c r w (Some x) e required more kind becomes =
    λ ws h. same_read c x _ _ _ _ _ becomes (took_word c r.count (shown_words r) (shown_values r) ws w (at_wait c r None ws e h) required more kind)

pub word_refused : (c : Name) (r : Read) (w : List ℕ) (next : Option Read) → r.waiting ≡ None → IsRequired w
    → IfNone next (r.count < length (plain_kinds c) → HasKind (get_or (plain_kinds c) r.count File) w → ⊥)
    → IfNone next ((ws : List (List ℕ)) → Stands c r ws → Goes c (ws ++ (w ∷ [])) → ⊥)
word_refused c r w (Some x) e required none = tt
word_refused c r w None e required none =
    λ ws h g. refuse_plain c r.count (shown_words r) (shown_values r) ws w (at_wait c r None ws e h) required none g

pub apart_refused : (c : Name) (r : Read) (w : List ℕ) (k : ℕ) (next : Option Read) → r.waiting ≡ None → k < length (options_of c) → w ≡ option_word c k
    → IfNone next (get_or (shown_values r) k None ≡ None → ⊥)
    → IfNone next ((ws : List (List ℕ)) → Stands c r ws → Goes c (ws ++ (w ∷ [])) → ⊥)
apart_refused c r w k (Some x) e less is none = tt
apart_refused c r w k None e less is none =
    λ ws h g. refuse_apart c r.count (shown_words r) (shown_values r) ws w k (at_wait c r None ws e h) less is none g

pub joined_stands : (c : Name) (r : Read) (w : List ℕ) (k : ℕ) (v : List ℕ) (next : Option Read) → r.waiting ≡ None → k < length (options_of c)
    → w ≡ option_word c k ++ (61 ∷ v)
    → IfSome next (λ _. get_or (shown_values r) k None ≡ None)
    → IfSome next (λ _. HasKind (option_kind c k) v)
    → IfSome next (λ x. Becomes x r.count (shown_words r) (set (shown_values r) k (Some v)) None)
    → IfSome next (λ x. (ws : List (List ℕ)) → Stands c r ws → Stands c x (ws ++ (w ∷ [])))
joined_stands c r w k v None e less is free kind becomes = tt
joined_stands c r w k v (Some x) e less is free kind becomes =
    λ ws h. subst (λ y. Stands c x (ws ++ (y ∷ []))) (sym is)
    (same_read c x _ _ _ _ _ becomes (took_joined c r.count (shown_words r) (shown_values r) ws k v (at_wait c r None ws e h) less free kind))

pub joined_refused : (c : Name) (r : Read) (w : List ℕ) (k : ℕ) (v : List ℕ) (next : Option Read) → r.waiting ≡ None → k < length (options_of c)
    → w ≡ option_word c k ++ (61 ∷ v)
    → IfNone next (get_or (shown_values r) k None ≡ None → HasKind (option_kind c k) v → ⊥)
    → IfNone next ((ws : List (List ℕ)) → Stands c r ws → Goes c (ws ++ (w ∷ [])) → ⊥)
joined_refused c r w k v (Some x) e less is none = tt
joined_refused c r w k v None e less is none =
    λ ws h g. refuse_joined c r.count (shown_words r) (shown_values r) ws w k v (at_wait c r None ws e h) less is none g

pub other_refused : (c : Name) (r : Read) (w : List ℕ) → r.waiting ≡ None → (IsRequired w → ⊥)
    → ((k : ℕ) → k < length (options_of c) → NoOption (option_word c k) w)
    → (ws : List (List ℕ)) → Stands c r ws → Goes c (ws ++ (w ∷ [])) → ⊥
other_refused c r w e word option ws h g = refuse_other c r.count (shown_words r) (shown_values r) ws w (at_wait c r None ws e h) word option g

pub unneeded_refused : (c : Name) (r : Read) (w : List ℕ) (k : ℕ) → r.waiting ≡ Some k → (IsRequired w → ⊥)
    → (ws : List (List ℕ)) → Stands c r ws → Goes c (ws ++ (w ∷ [])) → ⊥
unneeded_refused c r w k e word ws h g =
    refuse_value c r.count (shown_words r) (shown_values r) k ws w (at_wait c r (Some k) ws e h) (λ required kind. word required) g

-- the shape of a word, by the names of the command's options
pub shape_at : (c : Name) (names : List (List ℕ)) (w : List ℕ) (s t : Shape) → names ≡ map (λ o. o.0) (options_of c) → s ≡ t
    → HasShape names w s → HasShape (map (λ o. o.0) (options_of c)) w t
shape_at c names w s t e same h = subst (λ x. HasShape (map (λ o. o.0) (options_of c)) w x) same (subst (λ x. HasShape x w s) e h)

pub within : (c : Name) (k : ℕ) → k < length (map (λ o. o.0) (options_of c)) → k < length (options_of c)
within c k less = omega (arith, less, length-map {A = List ℕ × WordKind} {B = List ℕ} (options_of c) (λ o. o.0))

pub none_at : (c : Name) (names : List (List ℕ)) (w : List ℕ) (n : ℕ) → names ≡ map (λ o. o.0) (options_of c) → n ≡ length (options_of c)
    → ((k : ℕ) → k < n → NoOption (get_or names k []) w) → (k : ℕ) → k < length (options_of c) → NoOption (option_word c k) w
none_at c names w n e same h k less = subst (λ x. NoOption (get_or x k []) w) e (h k (omega (arith, same, less)))
