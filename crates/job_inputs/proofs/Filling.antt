use Rattle.std.proofs.Common.{ℕ, List, ◌++◌, ◌≡◌, ◌<◌, ◌≤◌, ◌+◌, [], length, take, refl, sym, ap, ◌∙◌, arith, subst, Bool, true, false, Err}
use Rattle.std.specs.Prelude.{nat_le, leb}
use Rattle.std.proofs.lemmas.Bool.{leb-true, leb-false, lt-leb}
use Rattle.std.proofs.lemmas.List.{append-nil, take_all, take-take, length-take-le}
use Rattle.std.proofs.lemmas.Slice.{take-put_mid}
use Rattle.std.proofs.Math.Seq.{take-append_seam, take-append-add}
use borrow.Rule.Slice.PartMut.{put_mid}
use Rattle.ds_base.specs.Outside.{SourceSeen}
use Rattle.job_inputs.specs.JobFile.{TakesAtMost}
use Rattle.job_values.specs.declared.member.Member.TheVariants.{Whole}
use Rattle.job_values.specs.declared.fault.JobWhat.TheVariants.{Limit}
use Rattle.job_values.specs.Said.{Said, fault_at}
use Rattle.summary_spec.specs.Declaration.{Declared}
use Rattle.summary_spec.specs.Reads.{reads, most_bytes}

-- a piece of n bytes was read after the first ones
pub one_read_more : (xs ys : List ℕ) (len k n : ℕ) → len ≤ length xs → n ≤ length ys
    → take (len + n) (put_mid len k xs ys) ≡ take len xs ++ take n ys
one_read_more xs ys len k n within fits =
    sym (take-take (len + n) (len + length ys) (put_mid len k xs ys) (omega (arith, fits)))
    ∙ ap (take (len + n)) (take-put_mid len k xs ys (len + length ys) refl within)
    ∙ ap (λ m. take (m + n) (take len xs ++ ys)) (sym (length-take-le len xs within))
    ∙ take-append-add (take len xs) ys n

-- all bytes that fit were taken, where nothing is left
pub front_at_end : (whole taken left : List ℕ) (room : ℕ) → whole ≡ taken ++ left → left ≡ [] → length taken ≤ room → taken ≡ take room whole
front_at_end whole taken left room is none within =
    let all : whole ≡ taken = is ∙ ap (λ xs. taken ++ xs) none ∙ append-nil taken in
    sym (ap (take room) all ∙ take_all room taken within)

-- or where no room is left
pub front_when_full : (whole taken left : List ℕ) (room : ℕ) → whole ≡ taken ++ left → length taken ≡ room → taken ≡ take room whole
front_when_full whole taken left room is full =
    sym (ap (λ n. take n whole) (sym full) ∙ ap (take (length taken)) is ∙ take-append_seam taken left)

-- more bytes than a job may have
too_long : (bytes : List ℕ) → most_bytes < length bytes → reads bytes ≡ Err (fault_at Whole 0 (Limit (most_bytes + 1)))
unfolding reads
too_long bytes long =
    let test : nat_le (length bytes) most_bytes ≡ false = lt-leb (length bytes) most_bytes long in
    rw test refl

-- a byte more than a job may have is as good as all bytes
reads_front-by : (room : ℕ) (bytes : List ℕ) → room ≡ most_bytes + 1 → (t : Bool) → leb (length bytes) most_bytes ≡ t
    → reads (take room bytes) ≡ reads bytes
reads_front-by room bytes is true test =
    ap reads (take_all room bytes (omega (arith, is, leb-true (length bytes) most_bytes test)))
reads_front-by room bytes is false test =
    let long : most_bytes < length bytes = leb-false (length bytes) most_bytes test in
    let front : length (take room bytes) ≡ room = length-take-le room bytes (omega (arith, is, long)) in
    too_long (take room bytes) (omega (arith, is, front)) ∙ sym (too_long bytes long)

pub reads_front : (room : ℕ) (bytes : List ℕ) → room ≡ most_bytes + 1 → reads (take room bytes) ≡ reads bytes
reads_front room bytes is = reads_front-by room bytes is (leb (length bytes) most_bytes) refl

-- what its front reads as, a source reads as
pub reads_whole : (room : ℕ) (front whole : List ℕ) (said : Said Declared) → room ≡ most_bytes + 1 → front ≡ take room whole
    → reads front ≡ said → reads whole ≡ said
reads_whole room front whole said is e h = sym (reads_front room whole is) ∙ ap reads (sym e) ∙ h

-- as many bytes as there is room for were taken at most
pub taken_in_room : (room most : ℕ) (before after : SourceSeen) → room ≡ most → TakesAtMost room before after → TakesAtMost most before after
taken_in_room room most before after is taken =
    let P : ℕ → Type 0 = λ n. TakesAtMost n before after in
    subst P is taken
