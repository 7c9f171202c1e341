-- The rows of all processors, one row more.
use Rattle.std.proofs.Common.{ℕ, zero, suc, true, false, List, [], ◌∷◌, ◌++◌, ◌≡◌, ◌≤◌, ◌<◌, ◌+◌, ◌^◌, inl, inr, refl, sym, ap, subst, ◌∙◌, ⊎_elim, arith, map, length}
use Rattle.std.specs.Prelude.{◌==◌}
use Rattle.std.specs.List.{AllByRecursion, range_with_len}
use Rattle.std.proofs.lemmas.Bool.{cases_Bool, both_ways, eq-eqb, eqb-true}
use Rattle.std.proofs.lemmas.List.{append-nil}
use Rattle.ds_base.specs.declared.profile_row.ProfileRow.{ProfileRow}
use Rattle.node_frames.specs.declared.frame.Frame.{Frame}
use Rattle.node_frames.specs.declared.frame.Frame.TheVariants.{Item, Mark, CaptureEnd, GroupHead, Member, GroupMark, AnswerRow, Profile, CountsRow, Finish}
use Rattle.profiles.specs.Put.{put, put_all}
use Rattle.profiles.specs.Rows.{AreJoined, IsSound, PairPrecedes, count_of, is_of}
use Rattle.profiles.proofs.Merging.{count_of-joined}
use Rattle.profiles.proofs.Put.{both_same, not_true, put_by}
use Rattle.summary_spec.specs.Declaration.{Declared}
use Rattle.run_law.specs.Links.{IsRowOf, MayFollow, Permits, AnswerRule}
use Rattle.run_law.specs.Nodes.{rows_added}
use Rattle.run_law.specs.Sent.{row_in, rows_in}
use Rattle.merge_state.specs.States.{IsPlain, RowsKept, TakesOne}
use Rattle.merge_state.proofs.Commuting.{AreAlike, put_all_past, put_all_push}
use Rattle.merge_state.proofs.Links.{each_on, map_below, map_range, rows_push, same_on, sum_few, sum_push, sum_range}

-- ---- rows added up

added_push : (f h : ℕ → List ProfileRow) (g : ℕ) (row : ProfileRow) (a n : ℕ) → a ≤ g → g < a + n → h g ≡ f g ++ row ∷ []
    → ((k : ℕ) → a ≤ k → k < a + n → (k ≡ g → ⊥) → h k ≡ f k) → ((k : ℕ) → a ≤ k → k < a + n → AllByRecursion (λ x. AreAlike x row) (f k))
    → rows_added (map h (range_with_len a n)) ≡ put row (rows_added (map f (range_with_len a n)))
added_push f h g row a zero low high here others alike = absurd (omega (arith, low, high))
added_push f h g row a (suc n) low high here others alike =
    let rest : List (List ProfileRow) = map f (range_with_len (a + 1) n) in
    let more : List (List ProfileRow) = map h (range_with_len (a + 1) n) in
    ⊎_elim
    (λ (t : (a == g) ≡ true).
    let e : a ≡ g = eqb-true a g t in
    let own : h a ≡ f a ++ row ∷ [] = subst (λ (j : ℕ). h j ≡ f j ++ row ∷ []) (sym e) here in
    let same : more ≡ rest = map_range f h (a + 1) n (λ k lo hi. others k (omega (arith, lo)) (omega (arith, hi)) (λ k_is. absurd (omega (arith, lo, k_is, e)))) in
    ap (λ (rs : List ProfileRow). put_all rs (rows_added more)) own
    ∙ ap (λ (ls : List (List ProfileRow)). put_all (f a ++ row ∷ []) (rows_added ls)) same
    ∙ put_all_push (f a) row (rows_added rest))
    (λ (u : (a == g) ≡ false).
    let other : a ≡ g → ⊥ = λ e. absurd (both_ways (a == g) u (eq-eqb a g e)) in
    let own : h a ≡ f a = others a (omega arith) (omega arith) other in
    let up : a + 1 ≤ g = further a g low other in
    let later : rows_added more ≡ put row (rows_added rest) =
    added_push f h g row (a + 1) n up (omega (arith, high)) here (λ k lo hi. others k (omega (arith, lo)) (omega (arith, hi))) (λ k lo hi. alike k (omega (arith, lo)) (omega (arith, hi))) in
    ap (λ (rs : List ProfileRow). put_all rs (rows_added more)) own
    ∙ ap (put_all (f a)) later
    ∙ put_all_past (f a) row (rows_added rest) (alike a (omega arith) (omega arith)))
    (cases_Bool (a == g))
  where
    further : (i j : ℕ) → i ≤ j → (i ≡ j → ⊥) → i + 1 ≤ j
    further i j le ne = grind arith

-- ---- how many delays of a pair

push_few : (from to most : ℕ) (xs : List ProfileRow) (row : ProfileRow) → count_of from to xs ≤ most → row.count ≤ most → count_of from to (xs ++ row ∷ []) ≤ most
push_few from to most [] row h k =
    ⊎_elim
    (λ (t : is_of from to row ≡ true). rw t k)
    (λ (u : is_of from to row ≡ false). rw u (omega arith))
    (cases_Bool (is_of from to row))
push_few from to most (x ∷ xs) row h k =
    ⊎_elim
    (λ (t : is_of from to x ≡ true). let own : x.count ≤ most = rw t at h in rw t own)
    (λ (u : is_of from to x ≡ false). let rest : count_of from to xs ≤ most = rw u at h in rw u (push_few from to most xs row rest k))
    (cases_Bool (is_of from to x))

other_pair : (from to : ℕ) (x row : ProfileRow) → PairPrecedes x row → (x.from ≡ from) × (x.to ≡ to) → (row.from ≡ from) × (row.to ≡ to) → ⊥
other_pair from to x row (inl p) e f = absurd (omega (arith, p, e.0, f.0))
other_pair from to x row (inr p) e f = absurd (omega (arith, p.1, e.1, f.1))

push_count : (from to : ℕ) (xs : List ProfileRow) (row : ProfileRow) → AllByRecursion (λ x. PairPrecedes x row) xs
    → count_of from to (xs ++ row ∷ []) ≡ count_of from to xs + count_of from to (row ∷ [])
push_count from to [] row h = omega arith
push_count from to (x ∷ xs) row h =
    ⊎_elim
    (λ (t : is_of from to x ≡ true).
    let other : is_of from to row ≡ false = not_true (is_of from to row) (λ e. other_pair from to x row h.0 (both_same x.from x.to from to t) (both_same row.from row.to from to e)) in
    let none : count_of from to (row ∷ []) ≡ 0 = rw other refl in
    let own : x.count ≡ x.count + count_of from to (row ∷ []) = omega (arith, none) in
    rw t own)
    (λ (u : is_of from to x ≡ false). rw u (push_count from to xs row h.1))
    (cases_Bool (is_of from to x))

rows_before : (row : ProfileRow) (frames : List Frame) → AllByRecursion (λ f. Permits f (Profile row)) frames → AllByRecursion (λ x. PairPrecedes x row) (rows_in frames)
rows_before row [] h = tt
rows_before row (Profile x ∷ fs) h = (h.0, rows_before row fs h.1)
rows_before row (Item t ∷ fs) h = rows_before row fs h.1
rows_before row (Mark c m ∷ fs) h = rows_before row fs h.1
rows_before row (CaptureEnd c ∷ fs) h = rows_before row fs h.1
rows_before row (GroupHead first members key ∷ fs) h = rows_before row fs h.1
rows_before row (Member at vals ∷ fs) h = rows_before row fs h.1
rows_before row (GroupMark m ∷ fs) h = rows_before row fs h.1
rows_before row (AnswerRow a ∷ fs) h = rows_before row fs h.1
rows_before row (CountsRow c k ∷ fs) h = rows_before row fs h.1
rows_before row (Finish ∷ fs) h = rows_before row fs h.1

-- ---- what is known of each row

all_push : (P : ProfileRow → Type 0) (xs : List ProfileRow) (x : ProfileRow) → AllByRecursion P xs → P x → AllByRecursion P (xs ++ x ∷ [])
all_push P [] x h p = (p, tt)
all_push P (y ∷ ys) x h p = (h.0, all_push P ys x h.1 p)

all_alike : (xs : List ProfileRow) (row : ProfileRow) → AllByRecursion IsPlain xs → IsPlain row → AllByRecursion (λ x. AreAlike x row) xs
all_alike [] row h p = tt
all_alike (x ∷ xs) row h p = (record { first = h.0.1; second = p.1; width = h.0.2 ∙ sym p.2 }, all_alike xs row h.1 p)

among_put : (captures : ℕ) (row : ProfileRow) (rows : List ProfileRow) → AllByRecursion (λ x. (x.from < captures) × (x.to < captures)) rows → (row.from < captures) × (row.to < captures)
    → AllByRecursion (λ x. (x.from < captures) × (x.to < captures)) (put row rows)
among_put captures row [] h p = (p, tt)
among_put captures row (x ∷ xs) h p =
    put_by (AllByRecursion (λ y. (y.from < captures) × (y.to < captures))) row x xs (λ lt. (p, h)) (λ e. (h.0, h.1)) (λ lt. (h.0, among_put captures row xs h.1 p))

pub sound_row : (job : Declared) (row : ProfileRow) → length job.captures ≤ 64 → IsRowOf job row → IsSound row
sound_row job row few h = record {
  from_below = omega (arith, h.from, few);
  to_below = omega (arith, h.to, few);
  some = h.some;
  few = omega (arith, h.few);
  classes_sum = h.classes;
  greatest_within = h.greatest;
  sum_within = h.sum_within;
}

-- there is room for the delays of one row more
pub room_for : (captures n : ℕ) (taken : ℕ → List Frame) (rows : List ProfileRow) (row : ProfileRow) → RowsKept captures n taken rows → n ≤ 16 → row.count ≤ 2 ^ 50
    → count_of row.from row.to rows + row.count < 2 ^ 55
room_for captures n taken rows row h few own =
    let all = sum_few (λ q. count_of row.from row.to (rows_in (taken q))) (2 ^ 50) 0 n (λ q low high. h.few q row.from row.to (omega (arith, high))) in
    omega (arith, h.counted row.from row.to, all, few, own)

-- ---- one frame more

module _ (job : Declared) (n : ℕ) (taken more : ℕ → List Frame) (q : ℕ) (f : Frame) (takes : TakesOne n taken more q f) (rows : List ProfileRow)
    (kept : RowsKept (length job.captures) n taken rows) where
  pub rows_same : row_in f ≡ [] → RowsKept (length job.captures) n more rows
  rows_same none =
      let still : rows_in (taken q ++ f ∷ []) ≡ rows_in (taken q) =
      rows_push (taken q) f ∙ ap (λ (xs : List ProfileRow). rows_in (taken q) ++ xs) none ∙ append-nil (rows_in (taken q)) in
      let each : (k : ℕ) → k < n → rows_in (more k) ≡ rows_in (taken k) = same_on rows_in n taken more q f takes still in
      record {
        are = kept.are ∙ sym (ap rows_added (map_below (λ k. rows_in (taken k)) (λ k. rows_in (more k)) n each));
        plain = λ k less. subst (AllByRecursion IsPlain) (sym (each k less)) (kept.plain k less);
        few = λ k from to less. subst (λ (xs : List ProfileRow). count_of from to xs ≤ 2 ^ 50) (sym (each k less)) (kept.few k from to less);
        counted = λ from to.
            kept.counted from to
            ∙ sym (sum_range (λ k. count_of from to (rows_in (taken k))) (λ k. count_of from to (rows_in (more k))) 0 n (λ k low high. ap (count_of from to) (each k (omega (arith, high)))));
        among = kept.among;
      }

module _ (job : Declared) (n : ℕ) (taken more : ℕ → List Frame) (q : ℕ) (row : ProfileRow) (takes : TakesOne n taken more q (Profile row))
    (may : MayFollow (AnswerRule job) (taken q) (Profile row)) (few_captures : length job.captures ≤ 64) (width : length row.classes ≡ 64) (rows new : List ProfileRow)
    (is : new ≡ put row rows) (joins : AreJoined rows (row ∷ []) new) (kept : RowsKept (length job.captures) n taken rows) where
  here : rows_in (more q) ≡ rows_in (taken q) ++ row ∷ []
  here = ap rows_in takes.here ∙ rows_push (taken q) (Profile row)

  others : (k : ℕ) → k < n → (k ≡ q → ⊥) → rows_in (more k) ≡ rows_in (taken k)
  others k less other = ap rows_in (takes.others k less other)

  plain_row : IsPlain row
  plain_row = (omega (arith, may.own.from, few_captures), omega (arith, may.own.to, few_captures), width)

  pub takes_row : RowsKept (length job.captures) n more new
  takes_row = record {
    are =
        is ∙ ap (put row) kept.are
        ∙ sym (added_push (λ k. rows_in (taken k)) (λ k. rows_in (more k)) q row 0 n (omega arith) (omega (arith, takes.there)) here
        (λ k low high other. others k (omega (arith, high)) other)
        (λ k low high. all_alike (rows_in (taken k)) row (kept.plain k (omega (arith, high))) plain_row));
    plain =
        each_on (λ k fs. AllByRecursion IsPlain (rows_in fs)) n taken more q (Profile row) takes
        (subst (AllByRecursion IsPlain) (sym (rows_push (taken q) (Profile row))) (all_push IsPlain (rows_in (taken q)) row (kept.plain q takes.there) plain_row))
        kept.plain;
    few = λ k from to less.
        each_on (λ j fs. count_of from to (rows_in fs) ≤ 2 ^ 50) n taken more q (Profile row) takes
        (subst (λ (xs : List ProfileRow). count_of from to xs ≤ 2 ^ 50) (sym (rows_push (taken q) (Profile row)))
        (push_few from to (2 ^ 50) (rows_in (taken q)) row (kept.few q from to takes.there) may.own.few))
        (λ j lt. kept.few j from to lt) k less;
    counted = λ from to.
        let joined_count = count_of-joined from to rows (row ∷ []) new joins in
        let pushed = push_count from to (rows_in (taken q)) row (rows_before row (taken q) may.permitted) in
        let all =
        sum_push (λ k. count_of from to (rows_in (taken k))) (λ k. count_of from to (rows_in (more k))) q (count_of from to (row ∷ [])) 0 n (omega arith) (omega (arith, takes.there))
        (ap (count_of from to) here ∙ pushed) (λ k low high other. ap (count_of from to) (others k (omega (arith, high)) other)) in
        omega (arith, joined_count, kept.counted from to, all);
    among = subst (AllByRecursion (λ x. (x.from < length job.captures) × (x.to < length job.captures))) (sym is) (among_put (length job.captures) row rows kept.among (may.own.from, may.own.to));
  }
