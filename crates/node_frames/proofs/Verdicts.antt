-- The verdict is an exact field: its rows one by one.
use Rattle.std.proofs.Common.{◌≡◌, ℕ, ◌==◌, if◌then◌else◌, List, [], ◌∷◌, ◌++◌, Some, None, refl, sym, ap, ◌∙◌, subst, inl, inr, eqb-true}
use Rattle.ds_base.specs.declared.verdict.Verdict.{Verdict}
use Rattle.ds_base.specs.declared.verdict.Verdict.TheVariants.{Fine, Loop, Dropped, Path, Rewrite, Value, Undefined}
use Rattle.node_frames.specs.Fields.{Field, Read, ◌>>=◌, ◌&◌, number, verdict, verdict_of, verdict_spelling, IsFitVerdict, loop_said, rewrite_said}
use Rattle.node_frames.proofs.Bytes.{AreBytes}
use Rattle.node_frames.proofs.Exact.{IsExact, steps, goes_on, rest_bytes, pair_same, exact_both}
use Rattle.node_frames.proofs.Exactness.{chosen, exact_number, first_read, first_is}

exact_loop : IsExact loop_said
exact_loop = exact_both (number 4) (number 16 & number 16) (exact_number 4) (exact_both (number 16) (number 16) (exact_number 16) (exact_number 16))

exact_rewrite : IsExact rewrite_said
exact_rewrite = exact_both (number 8) (number 4) (exact_number 8) (exact_number 4)

-- what is known of a verdict that was read: it fits, and its spelling was there
abbrev Said : Verdict → ℕ → List ℕ → List ℕ → Type 0
Said v first bytes rest = IsFitVerdict v × (first ∷ bytes ≡ verdict_spelling v ++ rest)

-- a row: a number, and then fields
a_row : {A : Type 0} (k : ℕ) (field : Field A) (form : A → Verdict) → IsExact field
    → ((a : A) → field.IsFit a → IsFitVerdict (form a)) → ((a : A) → verdict_spelling (form a) ≡ k ∷ field.spelling a)
    → (first : ℕ) (bytes : List ℕ) (v : Verdict) (rest : List ℕ) → AreBytes bytes → first ≡ k
    → (field.read bytes >>= λ a after. Some (form a, after)) ≡ Some (v, rest) → Said v first bytes rest
a_row k field form exact fits spells first bytes v rest are here e =
    let s = steps (field.read bytes) (λ a after. Some (form a, after)) v rest e in
    let one = exact.sound bytes s.value s.rest are s.read in
    let same = pair_same (form s.value) v s.rest rest s.goes_on in (
      subst IsFitVerdict same.0 (fits s.value one.fit),
      ap (λ n. n ∷ bytes) here ∙ ap (λ more. k ∷ more) one.spelled ∙ ap (λ spelled. spelled ++ s.rest) (sym (spells s.value))
          ∙ ap (λ w. verdict_spelling w ++ s.rest) same.0 ∙ ap (λ after. verdict_spelling v ++ after) same.1,
    )

-- a row with no field
a_bare_row : (k : ℕ) (w : Verdict) → IsFitVerdict w → verdict_spelling w ≡ k ∷ [] → (first : ℕ) (bytes : List ℕ) (v : Verdict) (rest : List ℕ) → first ≡ k
    → (let read : Read Verdict = Some (w, bytes) in read ≡ Some (v, rest)) → Said v first bytes rest
a_bare_row k w fits spells first bytes v rest here e =
    let same = pair_same w v bytes rest e in (
      subst IsFitVerdict same.0 fits,
      ap (λ n. n ∷ bytes) here ∙ ap (λ spelled. spelled ++ bytes) (sym spells) ∙ ap (λ u. verdict_spelling u ++ bytes) same.0 ∙ ap (λ after. verdict_spelling v ++ after) same.1,
    )

-- the first row whose number it is, or the rows after it
pick : (first k : ℕ) (x y : Read Verdict) (v : Verdict) (bytes rest : List ℕ)
    → (first ≡ k → x ≡ Some (v, rest) → Said v first bytes rest) → (y ≡ Some (v, rest) → Said v first bytes rest)
    → (if first == k then x else y) ≡ Some (v, rest) → Said v first bytes rest
pick first k x y v bytes rest here later e = elim (chosen (first == k) x y (Some (v, rest)) e) [
  | inl found ↦ here (eqb-true first k found.0) found.1
  | inr other ↦ later other.1
]

verdict_is : (first : ℕ) (bytes : List ℕ) (v : Verdict) (rest : List ℕ) → AreBytes bytes → verdict_of first bytes ≡ Some (v, rest) → Said v first bytes rest
verdict_is first bytes v rest are =
    pick first 0 _ _ v bytes rest (λ k e. a_bare_row 0 Fine tt refl first bytes v rest k e)
    (pick first 1 _ _ v bytes rest (λ k e. a_row 1 loop_said (λ (capture, (high, low)). Loop capture high low) exact_loop (λ a fit. fit) (λ a. refl) first bytes v rest are k e)
    (pick first 2 _ _ v bytes rest (λ k e. a_row 2 (number 4) (λ capture. Dropped capture) (exact_number 4) (λ a fit. fit) (λ a. refl) first bytes v rest are k e)
    (pick first 3 _ _ v bytes rest (λ k e. a_row 3 (number 8) (λ at. Path at) (exact_number 8) (λ a fit. fit) (λ a. refl) first bytes v rest are k e)
    (pick first 4 _ _ v bytes rest (λ k e. a_row 4 rewrite_said (λ (pair, rule). Rewrite pair rule) exact_rewrite (λ a fit. fit) (λ a. refl) first bytes v rest are k e)
    (pick first 5 _ _ v bytes rest (λ k e. a_row 5 (number 16) (λ n. Value n) (exact_number 16) (λ a fit. fit) (λ a. refl) first bytes v rest are k e)
    (pick first 6 _ _ v bytes rest (λ k e. a_bare_row 6 Undefined tt refl first bytes v rest k e)
    (λ e. let none : Read Verdict = None in let nothing_is : none ≡ Some (v, rest) = e in absurd (cc))))))))

-- what a row reads again
back : {A : Type 0} (k : ℕ) (field : Field A) (form : A → Verdict) → IsExact field → (a : A) (rest : List ℕ) → field.IsFit a
    → (verdict_of k (field.spelling a ++ rest) ≡ (field.read (field.spelling a ++ rest) >>= λ b after. Some (form b, after)))
    → verdict.read (k ∷ (field.spelling a ++ rest)) ≡ Some (form a, rest)
back k field form exact a rest fit row =
    goes_on ((number 1).read (k ∷ (field.spelling a ++ rest))) verdict_of k (field.spelling a ++ rest) (first_read k (field.spelling a ++ rest))
    ∙ row ∙ goes_on (field.read (field.spelling a ++ rest)) (λ b after. Some (form b, after)) a rest (exact.complete a rest fit)

verdict_back : (v : Verdict) (rest : List ℕ) → IsFitVerdict v → verdict.read (verdict_spelling v ++ rest) ≡ Some (v, rest)
verdict_back Fine rest fit = goes_on ((number 1).read (0 ∷ rest)) verdict_of 0 rest (first_read 0 rest)
verdict_back (Loop capture high low) rest fit = back 1 loop_said (λ (capture, (high, low)). Loop capture high low) exact_loop (capture, (high, low)) rest fit refl
verdict_back (Dropped capture) rest fit = back 2 (number 4) (λ capture. Dropped capture) (exact_number 4) capture rest fit refl
verdict_back (Path at) rest fit = back 3 (number 8) (λ at. Path at) (exact_number 8) at rest fit refl
verdict_back (Rewrite pair rule) rest fit = back 4 rewrite_said (λ (pair, rule). Rewrite pair rule) exact_rewrite (pair, rule) rest fit refl
verdict_back (Value n) rest fit = back 5 (number 16) (λ n. Value n) (exact_number 16) n rest fit refl
verdict_back Undefined rest fit = goes_on ((number 1).read (6 ∷ rest)) verdict_of 6 rest (first_read 6 rest)

pub exact_verdict : IsExact verdict
exact_verdict = record {
  sound = λ bytes v rest are e.
      let s = steps ((number 1).read bytes) verdict_of v rest e in
      let one = (exact_number 1).sound bytes s.value s.rest are s.read in
      let said = verdict_is s.value s.rest v rest (rest_bytes (number 1) bytes s.value s.rest are one) s.goes_on in
      record { fit = said.0; spelled = first_is bytes s.value s.rest s.read ∙ said.1 };
  complete = verdict_back;
}
