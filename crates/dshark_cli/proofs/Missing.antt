-- Files that are there, and the first that is missing.
use Rattle.std.proofs.Common.{ℕ, zero, suc, List, ◌∷◌, ◌≡◌, ◌<◌, ◌+◌, ◌∙◌, Some, None, refl, sym, ap, subst, inl, inr, arith, add-one}
use Rattle.std.specs.Prelude.{◌⊎◌, is_some, slice_get}
use Rattle.ds_base.specs.Faults.{Rose}
use Rattle.ds_base.specs.Outside.{FolderSeen, file_named}
use Rattle.job_inputs.specs.Captures.{AreThereBefore, IsUnreadAt}
use Rattle.input_files.specs.Files.{HasFile, IsUnread}
use Rattle.job_inputs.proofs.Missing.{IsFirstUnread, first_unread}

-- the first of all files, where it is not read
pub unread_first : (before after : FolderSeen) (name : List ℕ) (names : List (List ℕ)) (file : ℕ) → file ≡ 0 → IsUnread before after name
    → IsUnreadAt before after (name ∷ names) file
unread_first before after name names file is unread =
    let P : ℕ → Type 0 = λ k. IsUnreadAt before after (name ∷ names) k in
    let none : AreThereBefore before (name ∷ names) 0 = λ k other less at. absurd (let below : k < 0 = less in omega (arith, below)) in
    subst P (sym is) (name, refl, first_unread before after name (name ∷ names) 0 none unread)

-- ---- behind a file that is there

behind : {A : Type 0} (x : A) (xs : List A) (i : ℕ) → slice_get (x ∷ xs) (i + 1) ≡ slice_get xs i
behind x xs i = rw add-one refl

there_behind : (folder : FolderSeen) (first : List ℕ) (names : List (List ℕ)) (number later : ℕ) → later ≡ number + 1 → HasFile folder first
    → AreThereBefore folder names number → AreThereBefore folder (first ∷ names) later
there_behind folder first names number later is has there zero name below at =
    let same : first ≡ name = (let e : Some first ≡ Some name = at in cc) in
    subst (HasFile folder) same has
there_behind folder first names number later is has there (suc k) name below at = there k name (omega (arith, is, below)) at

first_unread_behind : (before after : FolderSeen) (first name : List ℕ) (names : List (List ℕ)) (number later : ℕ) → later ≡ number + 1
    → HasFile before first → IsFirstUnread before after name names number → IsFirstUnread before after name (first ∷ names) later
first_unread_behind before after first name names number later is has (inl rose) = inl rose
first_unread_behind before after first name names number later is has (inr missing) =
    inr (missing.0, there_behind before first names number later is has missing.1)

pub unread_behind : (before after : FolderSeen) (first : List ℕ) (names : List (List ℕ)) (number later : ℕ) → later ≡ number + 1
    → HasFile before first → IsUnreadAt before after names number → IsUnreadAt before after (first ∷ names) later
unread_behind before after first names number later is has unread = (
  unread.0,
  ap (slice_get (first ∷ names)) is ∙ behind first names number ∙ unread.1,
  first_unread_behind before after first unread.0 names number later is has unread.2,
)
