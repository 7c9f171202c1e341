-- The groups of the summaries of some keys are the groups with these keys.
use Rattle.std.proofs.Common.{ℕ, Bool, true, false, List, [], ◌∷◌, ◌≡◌, ◌||◌, refl, sym, ap, ◌∙◌, ⊎_elim}
use Rattle.std.specs.Prelude.{filter}
use Rattle.std.proofs.lemmas.Bool.{cases_Bool}
use Rattle.ds_base.specs.Copies.{Copies}
use Rattle.ds_base.specs.declared.summary.Summary.{Summary}
use Rattle.window_grouper.specs.Closed.{ShardGroups}
use Rattle.window_grouper.specs.Groups.{covers, is_covered, groups_behind}
use Rattle.window_grouper.proofs.Covers.{covers-true}

-- the summaries whose keys pass
abbrev of_shard : (List ℕ → Bool) → List Summary → List Summary
of_shard test l = filter (λ s. test s.key) l

-- the groups whose keys pass
abbrev groups_in : (List ℕ → Bool) → List Copies → List Copies
groups_in test gs = filter (λ g. test g.key) gs

other_shard : (test : List ℕ → Bool) (window : ℕ) (f s : Summary) (a b : Bool) → test f.key ≡ a → test s.key ≡ b → (a ≡ b → ⊥)
    → covers window f s ≡ false
other_shard test window f s a b first second apart =
    ⊎_elim
    (λ (yes : covers window f s ≡ true). absurd (apart (sym first ∙ ap test (covers-true window f s yes).key ∙ second)))
    (λ (no : covers window f s ≡ false). no)
    (cases_Bool (covers window f s))

covered_within : (test : List ℕ → Bool) (window : ℕ) (fs : List Summary) (s : Summary) → test s.key ≡ true
    → is_covered window (of_shard test fs) s ≡ is_covered window fs s
covered_within test window [] s own = refl
covered_within test window (f ∷ fs) s own =
    ⊎_elim
    (λ (yes : test f.key ≡ true). rw yes (ap (λ (b : Bool). covers window f s || b) (covered_within test window fs s own)))
    (λ (no : test f.key ≡ false).
    let apart : covers window f s ≡ false = other_shard test window f s false true no own (λ e. cc) in
    rw (no, apart) (covered_within test window fs s own))
    (cases_Bool (test f.key))

members_within : (test : List ℕ → Bool) (window : ℕ) (f : Summary) (l : List Summary) → test f.key ≡ true
    → filter (covers window f) (of_shard test l) ≡ filter (covers window f) l
members_within test window f [] own = refl
members_within test window f (s ∷ l) own =
    ⊎_elim
    (λ (yes : test s.key ≡ true).
    ⊎_elim
    (λ (taken : covers window f s ≡ true). rw (yes, taken) (ap (λ (ms : List Summary). s ∷ ms) (members_within test window f l own)))
    (λ (past : covers window f s ≡ false). rw (yes, past) (members_within test window f l own))
    (cases_Bool (covers window f s)))
    (λ (no : test s.key ≡ false).
    let apart : covers window f s ≡ false = other_shard test window f s true false own no (λ e. cc) in
    rw (no, apart) (members_within test window f l own))
    (cases_Bool (test s.key))

groups-filter : (test : List ℕ → Bool) (window : ℕ) (fs l : List Summary)
    → groups_behind window (of_shard test fs) (of_shard test l) ≡ groups_in test (groups_behind window fs l)
groups-filter test window fs [] = refl
groups-filter test window fs (s ∷ l) =
    ⊎_elim
    (λ (yes : test s.key ≡ true).
    let within = covered_within test window fs s yes in
    ⊎_elim
    (λ (covered : is_covered window fs s ≡ true).
    let there : is_covered window (of_shard test fs) s ≡ true = within ∙ covered in
    rw (yes, there, covered) (groups-filter test window fs l))
    (λ (free : is_covered window fs s ≡ false).
    let there : is_covered window (of_shard test fs) s ≡ false = within ∙ free in
    let rest : groups_behind window (s ∷ of_shard test fs) (of_shard test l) ≡ groups_in test (groups_behind window (s ∷ fs) l) =
    rw yes at (groups-filter test window (s ∷ fs) l) in
    rw (yes, there, free, yes)
    (ap (λ (ms : List Summary). record { key = s.key; members = s ∷ ms } ∷ groups_behind window (s ∷ of_shard test fs) (of_shard test l)) (members_within test window s l yes)
    ∙ ap (λ (gs : List Copies). record { key = s.key; members = s ∷ filter (covers window s) l } ∷ gs) rest))
    (cases_Bool (is_covered window fs s)))
    (λ (no : test s.key ≡ false).
    ⊎_elim
    (λ (covered : is_covered window fs s ≡ true). rw (no, covered) (groups-filter test window fs l))
    (λ (free : is_covered window fs s ≡ false).
    let rest : groups_behind window (of_shard test fs) (of_shard test l) ≡ groups_in test (groups_behind window (s ∷ fs) l) =
    rw no at (groups-filter test window (s ∷ fs) l) in
    rw (no, free, no) rest)
    (cases_Bool (is_covered window fs s)))
    (cases_Bool (test s.key))

pub shard_groups : (test : List ℕ → Bool) (window : ℕ) (l : List Summary) → ShardGroups test window l
shard_groups test window l = groups-filter test window [] l
