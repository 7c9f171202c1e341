use Rattle.std.proofs.Common.{◌≡◌, ℕ, suc, ◌+◌, ◌≤◌, true, false, List, [], ◌∷◌, length, drop, refl, ap, ◌∙◌, arith, slice_get, Some, cond}
use Rattle.std.specs.Option.{option_map}
use Rattle.std.proofs.lemmas.Option.{slice_get_within, slice_get-map}
use Rattle.std.proofs.lemmas.List.{length-drop}
use Rattle.ds_base.proofs.Places.{drop_at}
use Rattle.ds_base.specs.declared.summary.Summary.{Summary}
use Rattle.path_judges.specs.declared.pattern.Step.{Step}
use Rattle.path_judges.specs.Members.{capture_of, walk_of}
use Rattle.path_judges.specs.Pattern.{begun}
use Rattle.path_judges.specs.Open.{is_many, admits}
use Rattle.path_judges.proofs.Rise.{drop-eq_nil}
use Rattle.path_judges.proofs.Steps.{begun-nil, begun-cons, begun-many}

-- a member's capture at its place of the walk
pub walk-here : (members : List Summary) (k : ℕ) (member : Summary) → slice_get members k ≡ Some member → slice_get (walk_of members) k ≡ Some (capture_of member)
walk-here members k member e = slice_get-map capture_of members k ∙ ap (option_map capture_of) e

pub length-walk : (members : List Summary) → length (walk_of members) ≡ length members
length-walk [] = refl
length-walk (member ∷ members) = ap suc (length-walk members)

-- k steps were met by k captures; what begins after them is still to be counted
pub record Followed (steps : List Step) (walk : List ℕ) (k : ℕ) : Type 0 where
  pub within : k ≤ length walk
  pub rest : k + begun (drop k steps) (drop k walk) ≡ begun steps walk

pub Followed-many : (steps : List Step) (walk : List ℕ) (k : ℕ) (step : Step) → Followed steps walk k → slice_get steps k ≡ Some step → is_many step ≡ true → length walk ≡ begun steps walk
Followed-many steps walk k step f at many =
    let all : begun (drop k steps) (drop k walk) ≡ length (drop k walk) =
    ap (λ ss. begun ss (drop k walk)) (drop_at steps k step at) ∙ begun-many step (drop (k + 1) steps) (drop k walk) many in
    omega (arith, f.within, f.rest, length-drop k walk)

pub Followed-last : (steps : List Step) (walk : List ℕ) (k : ℕ) → Followed steps walk k → length walk ≤ k → k ≡ begun steps walk
Followed-last steps walk k f le =
    let none : begun (drop k steps) (drop k walk) ≡ 0 = ap (begun (drop k steps)) (drop-eq_nil walk k le) ∙ begun-nil (drop k steps) in
    omega (arith, f.rest)

pub Followed-done : (steps : List Step) (walk : List ℕ) (k : ℕ) → Followed steps walk k → length steps ≤ k → k ≡ begun steps walk
Followed-done steps walk k f le =
    let none : begun (drop k steps) (drop k walk) ≡ 0 = ap (λ ss. begun ss (drop k walk)) (drop-eq_nil steps k le) in
    omega (arith, f.rest)

begun-here : (steps : List Step) (walk : List ℕ) (k : ℕ) (step : Step) (capture : ℕ) → slice_get steps k ≡ Some step → is_many step ≡ false → slice_get walk k ≡ Some capture
    → begun (drop k steps) (drop k walk) ≡ cond (admits step capture) (suc (begun (drop (k + 1) steps) (drop (k + 1) walk))) 0
begun-here steps walk k step capture at one here =
    ap (λ ss. begun ss (drop k walk)) (drop_at steps k step at)
    ∙ ap (begun (step ∷ drop (k + 1) steps)) (drop_at walk k capture here)
    ∙ begun-cons step (drop (k + 1) steps) capture (drop (k + 1) walk) one

pub Followed-stop : (steps : List Step) (walk : List ℕ) (k : ℕ) (step : Step) (capture : ℕ) → Followed steps walk k → slice_get steps k ≡ Some step → is_many step ≡ false → slice_get walk k ≡ Some capture → admits step capture ≡ false → k ≡ begun steps walk
Followed-stop steps walk k step capture f at one here not_met =
    let none : begun (drop k steps) (drop k walk) ≡ 0 = begun-here steps walk k step capture at one here ∙ ap (λ b. cond b (suc (begun (drop (k + 1) steps) (drop (k + 1) walk))) 0) not_met in
    omega (arith, f.rest)

pub Followed-next : (steps : List Step) (walk : List ℕ) (k : ℕ) (step : Step) (capture : ℕ) → Followed steps walk k → slice_get steps k ≡ Some step → is_many step ≡ false → slice_get walk k ≡ Some capture → admits step capture ≡ true → Followed steps walk (k + 1)
Followed-next steps walk k step capture f at one here met =
    let more : begun (drop k steps) (drop k walk) ≡ suc (begun (drop (k + 1) steps) (drop (k + 1) walk)) = begun-here steps walk k step capture at one here ∙ ap (λ b. cond b (suc (begun (drop (k + 1) steps) (drop (k + 1) walk))) 0) met in
    record { within = omega (arith, slice_get_within walk k capture here); rest = omega (arith, f.rest) }
