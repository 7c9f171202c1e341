-- Sources as their folder has just opened them.
use Rattle.std.proofs.Common.{ℕ, zero, suc, List, [], ◌∷◌, ◌++◌, ◌≡◌, ◌+◌, Some, take, drop, length, refl, sym, ap, ◌∙◌, subst, arith, add-one, inl, inr}
use Rattle.std.specs.Prelude.{IsTrue, slice_get}
use Rattle.std.proofs.lemmas.Option.{slice_get_within}
use Rattle.std.specs.List.{AllByRecursion}
use Rattle.ds_base.specs.Items.{Items}
use Rattle.ds_base.specs.Outside.{FolderSeen, FolderStays, SourceSeen, IsFresh, NamedBytes, file_named}
use Rattle.summary_spec.specs.Declaration.{items_of}
use Rattle.job_inputs.specs.Captures.{AreThere, AreThereBefore, StopsCaptures}
use Rattle.input_files.specs.Files.{HasFile, AreOpened, IsOpened, IsUnread, StopsOpening}
use Rattle.input_files.specs.declared.fault.FileFault.{FileFault}
use Rattle.input_files.specs.declared.fault.FileFault.TheVariants.{Unread, OutOfMemory}
use Rattle.job_inputs.proofs.Missing.{has_file, first_unread}
use Rattle.job_inputs.specs.Faults.{fault_at_opening}

-- nothing of them was read
pub are_fresh : (folder : FolderSeen) (names : List (List ℕ)) (sources : List SourceSeen) → AreOpened folder names sources
    → AllByRecursion IsFresh sources
are_fresh folder [] [] h = tt
are_fresh folder [] (s ∷ ss) h = absurd h
are_fresh folder (n ∷ ns) [] h = absurd h
are_fresh folder (n ∷ ns) (s ∷ ss) (opened, others) = (opened.0, are_fresh folder ns ss others)

-- there is one for each name
pub as_many_opened : (folder : FolderSeen) (names : List (List ℕ)) (sources : List SourceSeen) → AreOpened folder names sources
    → length sources ≡ length names
as_many_opened folder [] [] h = refl
as_many_opened folder [] (s ∷ ss) h = absurd h
as_many_opened folder (n ∷ ns) [] h = absurd h
as_many_opened folder (n ∷ ns) (s ∷ ss) h = ap suc (as_many_opened folder ns ss h.1)

-- what was opened is there
pub opened_there : (folder : FolderSeen) (names : List (List ℕ)) (sources : List SourceSeen) → IsTrue folder.told → AreOpened folder names sources
    → AreThere folder names
opened_there folder [] [] told h = tt
opened_there folder [] (s ∷ ss) told h = absurd h
opened_there folder (n ∷ ns) [] told h = absurd h
opened_there folder (n ∷ ns) (s ∷ ss) told h = (has_file folder n s.whole (h.0.1 told).1, opened_there folder ns ss told h.1)

-- and so are the files before this one, where they were opened
pub there_before : (folder : FolderSeen) (names : List (List ℕ)) (number : ℕ) (sources : List SourceSeen) → IsTrue folder.told
    → AreOpened folder (take number names) sources → AreThereBefore folder names number
there_before folder [] number sources told h k name below at = cc
there_before folder (n ∷ ns) zero sources told h k name below at = absurd (omega arith)
there_before folder (n ∷ ns) (suc i) [] told h k name below at = absurd h
there_before folder (n ∷ ns) (suc i) (s ∷ ss) told h zero name below at =
    let e : n ≡ name = cc in
    subst (HasFile folder) e (has_file folder n s.whole (h.0.1 told).1)
there_before folder (n ∷ ns) (suc i) (s ∷ ss) told h (suc k) name below at = there_before folder ns i ss told h.1 k name (omega arith) at

-- one more was opened
pub one_more_opened : (folder : FolderSeen) (names : List (List ℕ)) (sources : List SourceSeen) (name : List ℕ) (source : SourceSeen)
    → AreOpened folder names sources → IsOpened folder name source → AreOpened folder (names ++ name ∷ []) (sources ++ source ∷ [])
one_more_opened folder [] [] name source h one = (one, tt)
one_more_opened folder [] (s ∷ ss) name source h one = absurd h
one_more_opened folder (n ∷ ns) [] name source h one = absurd h
one_more_opened folder (n ∷ ns) (s ∷ ss) name source h one = (h.0, one_more_opened folder ns ss name source h.1 one)

-- the names up to the one at this place
pub names_up_to : (names : List (List ℕ)) (i : ℕ) (name : List ℕ) → slice_get names i ≡ Some name
    → take (i + 1) names ≡ take i names ++ name ∷ []
names_up_to [] i name at = cc
names_up_to (n ∷ ns) zero name at = let e : n ≡ name = cc in ap (λ x. x ∷ []) e
names_up_to (n ∷ ns) (suc i) name at = rw add-one (ap (λ xs. n ∷ xs) (rw add-one at (names_up_to ns i name at)))

-- what was opened of the folder as it is now was opened of the folder as it was first
pub opened_of_first : (first now : FolderSeen) (name : List ℕ) (source : SourceSeen) → FolderStays first now
    → IsOpened now name source → IsOpened first name source
opened_of_first first now name source stays (fresh, of_file) = (
  fresh,
  λ told.
      let tells : IsTrue now.told = rw stays.told told in
      let file = of_file tells in
      (file.0, ap (λ (files : List NamedBytes). file_named files name) (sym (stays.files told)) ∙ file.1),
)

-- a file that is not read now, where no failure was counted before
pub unread_of_first : (first now after : FolderSeen) (name : List ℕ) → FolderStays first now → now.faults ≡ first.faults
    → (IsTrue now.told → IsUnread now after name) → IsTrue first.told → IsUnread first after name
unread_of_first first now after name stays quiet unread told =
    let tells : IsTrue now.told = rw stays.told told in
    elim (unread tells) [
      | inl rose ↦ inl (rw (← quiet) rose)
      | inr lacks ↦ inr (ap (λ (files : List NamedBytes). file_named files name) (sym (stays.files told)) ∙ lacks)
    ]

-- nor is it where no failure was counted since
pub unread_later : (before stopped after : FolderSeen) (name : List ℕ) → after.faults ≡ stopped.faults
    → IsUnread before stopped name → IsUnread before after name
unread_later before stopped after name back (inl rose) = inl (rw back rose)
unread_later before stopped after name back (inr lacks) = inr lacks

-- a capture that is not opened, where those before it were
pub stops_opening : (names : List (List ℕ)) (first now stopped after : FolderSeen) (capture : ℕ) (name : List ℕ)
    → FolderStays first now → now.faults ≡ first.faults → (IsTrue first.told → AreThereBefore first names capture)
    → slice_get names capture ≡ Some name → after.faults ≡ stopped.faults
    → (fault : FileFault) → StopsOpening name now stopped fault → StopsCaptures names first after (fault_at_opening capture fault)
stops_opening names first now stopped after capture name stays quiet there at back Unread h = (
  slice_get_within names capture name at,
  λ told. (
    name,
    at,
    first_unread first after name names capture (there told) (unread_later first stopped after name back (unread_of_first first now stopped name stays quiet h told)),
  ),
)
stops_opening names first now stopped after capture name stays quiet there at back OutOfMemory h = back ∙ h ∙ quiet

-- the name of the file at this place
pub name_at : (files : List (Items ℕ)) (i : ℕ) (text : Items ℕ) (name : List ℕ) → slice_get files i ≡ Some text → name ≡ text.items
    → slice_get (items_of files) i ≡ Some name
name_at [] i text name at is = cc
name_at (file ∷ files) zero text name at is = let e : file ≡ text = cc in ap (λ (t : Items ℕ). Some t.items) e ∙ ap (λ n. Some n) (sym is)
name_at (file ∷ files) (suc i) text name at is = name_at files i text name at is

-- a list of which nothing was taken, not even the first item, is empty
pub none_left : {A : Type 0} (xs ys : List A) → xs ≡ ys → ys ≡ drop 1 xs → xs ≡ []
none_left [] ys same e = refl
none_left (x ∷ xs) ys same e = absurd (omega (arith, ap length same, ap length e))

-- ---- the folder as it was first

-- what goes on goes on
pub stays_on : (first now after : FolderSeen) → FolderStays first now → FolderStays now after → FolderStays first after
stays_on first now after stays goes = record {
  told = goes.told ∙ stays.told;
  files = λ told. goes.files (rw stays.told told) ∙ stays.files told;
}

-- the first folder goes on as the one now
stays_back : (first now : FolderSeen) → FolderStays first now → FolderStays now first
stays_back first now stays = record { told = sym stays.told; files = λ told. sym (stays.files (rw (← stays.told) told)) }

-- what was opened of the first folder was opened of the folder as it is now
pub opened_of_now : (first now : FolderSeen) (names : List (List ℕ)) (sources : List SourceSeen) → FolderStays first now
    → AreOpened first names sources → AreOpened now names sources
opened_of_now first now [] [] stays h = tt
opened_of_now first now [] (s ∷ ss) stays h = absurd h
opened_of_now first now (n ∷ ns) [] stays h = absurd h
opened_of_now first now (n ∷ ns) (s ∷ ss) stays h =
    (opened_of_first now first n s (stays_back first now stays) h.0, opened_of_now first now ns ss stays h.1)
