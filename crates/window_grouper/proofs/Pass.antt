-- The groups of a list with one more summary behind it.
use Rattle.std.proofs.Common.{ℕ, Bool, true, false, cond, List, [], ◌∷◌, ◌++◌, ◌≡◌, ◌||◌, refl, ap, ◌∙◌, ⊎_elim, map}
use Rattle.std.specs.Prelude.{filter}
use Rattle.std.specs.List.{list_any}
use Rattle.std.proofs.lemmas.Bool.{cases_Bool}
use Rattle.std.proofs.lemmas.List.{append-nil}
use Rattle.std.proofs.lemmas.List.Elements.{filter-append}
use Rattle.ds_base.specs.Copies.{Copies}
use Rattle.ds_base.specs.declared.summary.Summary.{Summary}
use Rattle.window_grouper.specs.Groups.{covers, is_covered, groups_behind, groups_of}
use Rattle.window_grouper.specs.Placing.{takes, single, grown, placed}

-- `placed`, behind groups with the firsts fs
placed_behind : ℕ → List Summary → Summary → List Copies → List Copies
placed_behind window fs s gs = cond (is_covered window fs s || list_any (λ g. takes window g s) gs) (map (grown window s) gs)
    (map (grown window s) gs ++ single s ∷ [])

cons_within : (b : Bool) (g : Copies) (gs : List Copies) (k : Copies) → g ∷ cond b gs (gs ++ k ∷ []) ≡ cond b (g ∷ gs) ((g ∷ gs) ++ k ∷ [])
cons_within true g gs k = refl
cons_within false g gs k = refl

any_order : (a b c : Bool) → (a || b) || c ≡ b || (a || c)
any_order true true c = refl
any_order true false c = refl
any_order false true c = refl
any_order false false c = refl

-- the group of f after s came behind the list l
group_more : (window : ℕ) (f s : Summary) (l : List Summary)
    → record { key = f.key; members = f ∷ filter (covers window f) (l ++ s ∷ []) }
    ≡ grown window s (record { key = f.key; members = f ∷ filter (covers window f) l })
group_more window f s l =
    let group_with : List Summary → Copies = λ ms. record { key = f.key; members = f ∷ ms } in
    let split : filter (covers window f) (l ++ s ∷ []) ≡ filter (covers window f) l ++ filter (covers window f) (s ∷ []) =
    filter-append (covers window f) l (s ∷ []) in
    ⊎_elim
    (λ (taken : covers window f s ≡ true).
    let more : filter (covers window f) (l ++ s ∷ []) ≡ filter (covers window f) l ++ s ∷ [] = rw taken at split in
    rw taken (ap (λ (ms : List Summary). group_with ms) more))
    (λ (past : covers window f s ≡ false).
    let same : filter (covers window f) (l ++ s ∷ []) ≡ filter (covers window f) l ++ [] = rw past at split in
    rw past (ap (λ (ms : List Summary). group_with ms) (same ∙ append-nil (filter (covers window f) l))))
    (cases_Bool (covers window f s))

groups_behind-push : (window : ℕ) (fs : List Summary) (l : List Summary) (s : Summary)
    → groups_behind window fs (l ++ s ∷ []) ≡ placed_behind window fs s (groups_behind window fs l)
unfolding placed_behind
groups_behind-push window fs [] s =
    ⊎_elim
    (λ (covered : is_covered window fs s ≡ true). rw covered refl)
    (λ (free : is_covered window fs s ≡ false). rw free refl)
    (cases_Bool (is_covered window fs s))
groups_behind-push window fs (x ∷ l) s =
    ⊎_elim
    (λ (covered : is_covered window fs x ≡ true). rw covered (groups_behind-push window fs l s))
    (λ (free : is_covered window fs x ≡ false).
    let g : Copies = record { key = x.key; members = x ∷ filter (covers window x) l } in
    let gs : List Copies = groups_behind window (x ∷ fs) l in
    let any : Bool = list_any (λ k. takes window k s) gs in
    rw free
    (ap (λ (k : Copies). k ∷ groups_behind window (x ∷ fs) (l ++ s ∷ [])) (group_more window x s l)
    ∙ ap (λ (ks : List Copies). grown window s g ∷ ks) (groups_behind-push window (x ∷ fs) l s)
    ∙ ap (λ (b : Bool). grown window s g ∷ cond b (map (grown window s) gs) (map (grown window s) gs ++ single s ∷ []))
    (any_order (covers window x s) (is_covered window fs s) any)
    ∙ cons_within (is_covered window fs s || (covers window x s || any)) (grown window s g) (map (grown window s) gs) (single s)))
    (cases_Bool (is_covered window fs x))

pub groups_of-push : (window : ℕ) (l : List Summary) (s : Summary) → groups_of window (l ++ s ∷ []) ≡ placed window s (groups_of window l)
unfolding placed_behind
groups_of-push window l s = groups_behind-push window [] l s
