-- What came in and what the grouper holds, one frame more at a time.
use Rattle.std.proofs.Common.{ℕ, zero, suc, true, false, List, [], ◌∷◌, ◌++◌, ◌≡◌, ◌<◌, ◌≤◌, ◌+◌, ◌%◌, ◌^◌, ◌⊎◌, Option, Some, None, inl, inr, refl, sym, ap, subst, ◌∙◌, ⊎_elim, arith, map, length, set, get_or, max, append_assoc}
use Rattle.std.specs.Prelude.{flat_map, filter, nat_lt, ◌==◌}
use Rattle.std.specs.List.{AllByRecursion, range_with_len}
use Rattle.std.specs.List.Sorted.{IsPermutation}
use Rattle.std.proofs.lemmas.Bool.{cases_Bool, eq-eqb, ltb-false}
use Rattle.std.proofs.lemmas.Bool.Decides.{nat_tests}
use Rattle.std.proofs.lemmas.List.{append-nil, length-map, ext_get_or, get_or-map, get_or-set_same, get_or-set_other, length-set}
use Rattle.std.proofs.lemmas.List.Sorted.{IsPermutation-sym, IsPermutation-trans, IsPermutation-append_left, IsPermutation-append_right, IsPermutation-append_comm, length_permutation}
use Rattle.ds_base.specs.Copies.{Copies}
use Rattle.ds_base.specs.Fronts.{IsIn, upto, PrecedesEach, InOrder}
use Rattle.ds_base.specs.Keys.{key_of}
use Rattle.ds_base.specs.Order.{Precedes, InStampOrder}
use Rattle.ds_base.specs.declared.stamp.Stamp.{Stamp}
use Rattle.ds_base.specs.declared.summary.Summary.{Summary}
use Rattle.node_frames.specs.declared.frame.Frame.{Frame}
use Rattle.node_frames.specs.declared.frame.Frame.TheVariants.{Item, Mark, CaptureEnd, Finish}
use Rattle.summary_spec.specs.Declaration.{Declared}
use Rattle.summary_spec.specs.Lawful.{IsLawful}
use Rattle.watermarks.specs.Least.{Allows, least_mark, under}
use Rattle.watermarks.specs.Raised.{raised_to}
use Rattle.window_grouper.specs.Closed.{is_closed}
use Rattle.window_grouper.specs.Cut.{IsWithin}
use Rattle.window_grouper.specs.Groups.{groups_of, groups_behind, covers, is_covered, IsGroup}
use Rattle.window_grouper.specs.Grouping.{Grouping, MayCome, StandsFor, is_past, marked, with_summary}
use Rattle.window_grouper.specs.Sorted.{DiffersFromAll, StampsDiffer, by_stamp}
use Rattle.window_grouper.proofs.Insertion.{one_order, same-by_stamp}
use Rattle.window_grouper.proofs.Members.{all_grouped}
use Rattle.window_grouper.proofs.Standing.{closed_in_front, stamps_apart, stands_added}
use Rattle.run_law.specs.Links.{Permits, MayFollow, ItemRule, AreLawfulItems, IsStampOf}
use Rattle.run_law.specs.Nodes.{below, first_member, least_of_captures, groups_closed, summaries_taken, GrouperKeeps}
use Rattle.run_law.specs.Sent.{Saying, item_in, items_in, of_items, bound_after, bound_behind, bound_in}
use Rattle.run_law.specs.Shapes.{Shape, IsFront}
use Rattle.run_law.proofs.Bounds.{not_under}
use Rattle.run_law.proofs.Ended.{none_after_end, none_stays}
use Rattle.run_law.proofs.Lists.{all_in, in_front, in_permutation, front_trans, upto_front, of_flat, of_below, of_filter}
use Rattle.run_law.proofs.More as law
use Rattle.run_law.proofs.Ordered.{lead, groups_ordered}
use Rattle.run_law.proofs.Sharded.{held_in_order, item_of}
use Rattle.run_law.proofs.Standing.{item_frame, item_left_open, mark_left_open}
use Rattle.grouper_state.specs.Puts.{came_in, Gathers}
use Rattle.grouper_state.proofs.Dealt.{same_or_not, differs}
use Rattle.grouper_state.proofs.Few.{few_came}
use Rattle.grouper_state.proofs.Frames.{lawful_push, bound_push}

-- ---- the marks of all captures

long_range : (a n : ℕ) → length (range_with_len a n) ≡ n
long_range a zero = refl
long_range a (suc n) = ap (λ (k : ℕ). suc k) (long_range (a + 1) n)

range_at : (a n i : ℕ) → i < n → get_or (range_with_len a n) i 0 ≡ a + i
range_at a zero i less = absurd (omega (arith, less))
range_at a (suc n) zero less = omega arith
range_at a (suc n) (suc i) less = let rest = range_at (a + 1) n i (omega (arith, less)) in omega (arith, rest)

marks_list : (ms : List (Option ℕ)) (n : ℕ) (f : ℕ → Option ℕ) → length ms ≡ n → ((c : ℕ) → c < n → get_or ms c None ≡ f c) → ms ≡ map f (below n)
marks_list ms n f long each =
    ext_get_or None ms (map f (below n)) (long ∙ sym (length-map (below n) f ∙ long_range 0 n))
    (λ i less.
    let within : i < n = omega (arith, less, long) in
    each i within ∙ sym (get_or-map f (below n) i 0 None (omega (arith, within, long_range 0 n)) ∙ ap f (range_at 0 n i within ∙ zero_first i)))
  where
    zero_first : (i : ℕ) → 0 + i ≡ i
    zero_first i = omega arith

-- ---- the groups of what came

-- a summary of the job
pub record IsItem (job : Declared) (m : Summary) : Type 0 where
  pub stamp : IsStampOf job m.at
  pub values : length m.vals ≡ length job.vars
  pub key : m.key ≡ key_of job.key m.vals

-- a group that can be sent
pub record IsSendable (job : Declared) (x : Copies) : Type 0 where
  pub filled : 0 < length x.members
  pub ordered : InStampOrder x.members
  pub within : AllByRecursion (λ (m : Summary). m.at.time ≤ (first_member x.members).at.time + job.window) x.members
  pub one_key : AllByRecursion (λ (m : Summary). m.key ≡ x.key) x.members
  pub items : (m : Summary) → IsIn m x.members → IsItem job m

member_there : (window : ℕ) (fs l : List Summary) (x : Copies) (m : Summary) → IsIn x (groups_behind window fs l) → IsIn m x.members → IsIn m l
member_there window fs [] x m there own = absurd there
member_there window fs (s ∷ l) x m there own =
    ⊎_elim
    (λ (t : is_covered window fs s ≡ true).
    let later : IsIn x (groups_behind window fs l) = rw t at there in
    inr (member_there window fs l x m later own))
    (λ (f : is_covered window fs s ≡ false).
    let here : IsIn x (record { key = s.key; members = s ∷ filter (covers window s) l } ∷ groups_behind window (s ∷ fs) l) = rw f at there in
    by_place here (λ later. member_there window (s ∷ fs) l x m later own))
    (cases_Bool (is_covered window fs s))
  where
    of_first : IsIn m (s ∷ filter (covers window s) l) → IsIn m (s ∷ l)
    of_first (inl e) = inl e
    of_first (inr l') = inr (of_filter (covers window s) m l l').0

    by_place : IsIn x (record { key = s.key; members = s ∷ filter (covers window s) l } ∷ groups_behind window (s ∷ fs) l)
        → (IsIn x (groups_behind window (s ∷ fs) l) → IsIn m l) → IsIn m (s ∷ l)
    by_place (inl e) rest = of_first (subst (λ (y : Copies). IsIn m y.members) e own)
    by_place (inr later) rest = inr (rest later)

within_first : (window : ℕ) (ms : List Summary) → IsWithin window ms → AllByRecursion (λ (m : Summary). m.at.time ≤ (first_member ms).at.time + window) ms
within_first window [] h = tt
within_first window (m ∷ ms) h = h

module _ (job : Declared) (shape : Shape) (me : ℕ) (taken : ℕ → List Frame) (g : Grouping) (given : List Copies) (added : List Summary)
    (h : Gathers job shape me taken g given added) where
  pub least_is : least_mark g.marks ≡ least_of_captures job shape taken
  least_is = ap least_mark (marks_list g.marks (length job.captures) (λ c. bound_in (of_items c) (taken (c % shape.parsers))) h.marks_many h.marks_are)

  taken_in_order : InStampOrder (summaries_taken shape taken)
  taken_in_order = held_in_order job shape me taken h.lawful

  pub summaries_are : by_stamp added ≡ summaries_taken shape taken
  summaries_are =
      sym ((one_order added h.stands.differ).1 (summaries_taken shape taken) (record {
        ordered = taken_in_order;
        same = IsPermutation-trans added (came_in shape taken) (by_stamp (came_in shape taken)) h.same (same-by_stamp (came_in shape taken));
      }))

  pub closed_is : groups_closed job shape taken ≡ given ++ upto (is_closed (is_past g.marks) job.window) g.held
  closed_is =
      ap (λ (o : Option ℕ). upto (is_closed (under o) job.window) (groups_of job.window (summaries_taken shape taken))) (sym least_is)
      ∙ ap (λ (l : List Summary). upto (is_closed (is_past g.marks) job.window) (groups_of job.window l)) (sym summaries_are)
      ∙ ap (λ (l : List Summary). upto (is_closed (is_past g.marks) job.window) (groups_of job.window (by_stamp l))) (sym (append-nil added))
      ∙ closed_in_front g job.window added given [] h.stands tt (subst StampsDiffer (sym (append-nil added)) h.stands.differ)

  pub given_front : IsFront given (groups_closed job shape taken)
  given_front = record { rest = upto (is_closed (is_past g.marks) job.window) g.held; joined = closed_is }

  abbrev all_groups : List Copies
  all_groups = groups_of job.window (summaries_taken shape taken)

  front_of_all : IsFront given all_groups
  front_of_all = front_trans given (groups_closed job shape taken) all_groups given_front (upto_front (is_closed (under (least_of_captures job shape taken)) job.window) all_groups)

  pub few_added : IsLawful job → length added ≤ 2 ^ 46
  few_added lawful =
      let many = few_came job shape me taken h.lawful lawful.captures.1 in
      let same = length_permutation added (came_in shape taken) h.same in
      omega (arith, many, same)

  item_there : (m : Summary) → IsIn m (summaries_taken shape taken) → IsItem job m
  item_there m there =
      let came : IsIn m (came_in shape taken) = in_permutation m (by_stamp (came_in shape taken)) (came_in shape taken)
      (IsPermutation-sym (came_in shape taken) (by_stamp (came_in shape taken)) (same-by_stamp (came_in shape taken))) there in
      let from = of_flat (λ p. items_in (taken p)) m (below shape.parsers) came in
      let within = of_below shape.parsers from.item from.there in
      let own = item_of job shape from.item me (taken from.item) m (h.lawful from.item within) from.is in
      record { stamp = own.stamp; values = own.values; key = own.key }

  pub sendable : (x : Copies) → IsIn x given → IsSendable job x
  sendable x there =
      let of_all : IsIn x all_groups = in_front x given all_groups front_of_all there in
      let group : IsGroup job.window x = all_in (IsGroup job.window) x all_groups (all_grouped job.window (summaries_taken shape taken) taken_in_order).0 of_all in
      record {
        filled = group.filled;
        ordered = group.ordered;
        within = within_first job.window x.members group.within;
        one_key = group.one_key;
        items = λ m own. item_there m (member_there job.window [] (summaries_taken shape taken) x m of_all own);
      }

  pub given_ordered : InOrder lead given
  given_ordered = front_ordered given all_groups front_of_all (groups_ordered job.window (summaries_taken shape taken) taken_in_order)
    where
      each_front : (s : Stamp) (xs ys : List Copies) → PrecedesEach lead s (xs ++ ys) → PrecedesEach lead s xs
      each_front s [] ys h = tt
      each_front s (x ∷ xs) ys h = (h.0, each_front s xs ys h.1)

      joined_ordered : (xs ys : List Copies) → InOrder lead (xs ++ ys) → InOrder lead xs
      joined_ordered [] ys h = tt
      joined_ordered (x ∷ xs) ys h = (each_front (lead x) xs ys h.0, joined_ordered xs ys h.1)

      front_ordered : (xs ys : List Copies) → IsFront xs ys → InOrder lead ys → InOrder lead xs
      front_ordered xs ys f h = joined_ordered xs f.rest (subst (InOrder lead) f.joined h)

-- ---- one frame more on a link

pub record TakesOne (taken more : ℕ → List Frame) (p : ℕ) (f : Frame) : Type 0 where
  pub here : more p ≡ taken p ++ f ∷ []
  pub others : (k : ℕ) → (k ≡ p → ⊥) → more k ≡ taken k

ended_by : (says : Frame → Saying) (b : Option ℕ) (frames : List Frame) (f : Frame) → says f ≡ Some None → IsIn f frames → bound_behind says b frames ≡ None
ended_by says b [] f is h = absurd h
ended_by says b (x ∷ xs) f is (inl e) =
    ap (λ (o : Saying). bound_behind says (bound_after b o) xs) (ap says (sym e) ∙ is)
    ∙ ap (λ (o : Option ℕ). bound_behind says o xs) (none_after_end b) ∙ none_stays says xs
ended_by says b (x ∷ xs) f is (inr l) = ended_by says (bound_after b (says x)) xs f is l

module _ (job : Declared) (shape : Shape) (me : ℕ) (taken more : ℕ → List Frame) (p : ℕ) (f : Frame) (less : p < shape.parsers) (one : TakesOne taken more p f)
    (lawful : (k : ℕ) → k < shape.parsers → AreLawfulItems job shape k me (taken k)) (may : MayFollow (ItemRule job shape p me) (taken p) f) where
  pub lawful_more : (k : ℕ) → k < shape.parsers → AreLawfulItems job shape k me (more k)
  lawful_more k hk =
      ⊎_elim
      (λ (e : k ≡ p).
      subst (λ (j : ℕ). AreLawfulItems job shape j me (more j)) (sym e)
      (subst (λ fs. AreLawfulItems job shape p me fs) (sym one.here) (lawful_push (ItemRule job shape p me) (taken p) f (lawful p less) may)))
      (λ (other : k ≡ p → ⊥). subst (λ fs. AreLawfulItems job shape k me fs) (sym (one.others k other)) (lawful k hk))
      (same_or_not k p)

  front_more : (k : ℕ) → IsFront (taken k) (more k)
  front_more k =
      ⊎_elim
      (λ (e : k ≡ p). subst (λ (j : ℕ). IsFront (taken j) (more j)) (sym e) (record { rest = f ∷ []; joined = one.here }))
      (λ (other : k ≡ p → ⊥). record { rest = []; joined = one.others k other ∙ sym (append-nil (taken k)) })
      (same_or_not k p)

  -- what was put keeps the promise
  pub keeps_more : (put : ℕ → List Frame) → GrouperKeeps job shape me taken put → GrouperKeeps job shape me more put
  keeps_more put keeps = law.grouper_keeps_on job shape me taken more put (omega (arith, less)) (record { front = λ k hk. front_more k; lawful = lawful_more }) keeps

  -- what came, but for the order
  items_more : items_in (more p) ≡ items_in (taken p) ++ item_in f
  items_more = ap items_in one.here ∙ flat_push (taken p)
    where
      flat_push : (xs : List Frame) → items_in (xs ++ f ∷ []) ≡ items_in xs ++ item_in f
      flat_push [] = append-nil (item_in f)
      flat_push (x ∷ xs) = ap (λ zs. item_in x ++ zs) (flat_push xs) ∙ sym (append_assoc (item_in x) (items_in xs) (item_in f))

  pub came_more : IsPermutation (came_in shape taken ++ item_in f) (came_in shape more)
  came_more = with_range 0 shape.parsers (omega arith) (omega (arith, less))
    where
      same_behind : (a n : ℕ) → p < a → flat_map (λ k. items_in (more k)) (range_with_len a n) ≡ flat_map (λ k. items_in (taken k)) (range_with_len a n)
      same_behind a zero low = refl
      same_behind a (suc n) low =
          ap (λ fs. items_in fs ++ flat_map (λ k. items_in (more k)) (range_with_len (a + 1) n)) (one.others a (λ e. absurd (omega (arith, e, low))))
          ∙ ap (λ ss. items_in (taken a) ++ ss) (same_behind (a + 1) n (omega (arith, low)))

      with_range : (a n : ℕ) → a ≤ p → p < a + n
          → IsPermutation (flat_map (λ k. items_in (taken k)) (range_with_len a n) ++ item_in f) (flat_map (λ k. items_in (more k)) (range_with_len a n))
      with_range a zero low high = absurd (omega (arith, low, high))
      with_range a (suc n) low high =
          ⊎_elim
          (λ (e : a ≡ p).
          let rest : List Summary = flat_map (λ k. items_in (taken k)) (range_with_len (a + 1) n) in
          let own : items_in (more a) ≡ items_in (taken a) ++ item_in f = subst (λ (j : ℕ). items_in (more j) ≡ items_in (taken j) ++ item_in f) (sym e) items_more in
          let new : flat_map (λ k. items_in (more k)) (range_with_len a (suc n)) ≡ items_in (taken a) ++ (item_in f ++ rest) =
          ap (λ ss. ss ++ flat_map (λ k. items_in (more k)) (range_with_len (a + 1) n)) own
          ∙ ap (λ ss. (items_in (taken a) ++ item_in f) ++ ss) (same_behind (a + 1) n (omega (arith, e)))
          ∙ append_assoc (items_in (taken a)) (item_in f) rest in
          subst (λ ss. IsPermutation ((items_in (taken a) ++ rest) ++ item_in f) ss) (sym new)
          (subst (λ ss. IsPermutation ss (items_in (taken a) ++ (item_in f ++ rest))) (sym (append_assoc (items_in (taken a)) rest (item_in f)))
          (IsPermutation-append_right (items_in (taken a)) (rest ++ item_in f) (item_in f ++ rest) (IsPermutation-append_comm rest (item_in f)))))
          (λ (other : a ≡ p → ⊥).
          let rest : List Summary = flat_map (λ k. items_in (taken k)) (range_with_len (a + 1) n) in
          let low' : a + 1 ≤ p = grind (arith) in
          let new : flat_map (λ k. items_in (more k)) (range_with_len a (suc n)) ≡ items_in (taken a) ++ flat_map (λ k. items_in (more k)) (range_with_len (a + 1) n) =
          ap (λ fs. items_in fs ++ flat_map (λ k. items_in (more k)) (range_with_len (a + 1) n)) (one.others a other) in
          subst (λ ss. IsPermutation ((items_in (taken a) ++ rest) ++ item_in f) ss) (sym new)
          (subst (λ ss. IsPermutation ss (items_in (taken a) ++ flat_map (λ k. items_in (more k)) (range_with_len (a + 1) n))) (sym (append_assoc (items_in (taken a)) rest (item_in f)))
          (IsPermutation-append_right (items_in (taken a)) (rest ++ item_in f) (flat_map (λ k. items_in (more k)) (range_with_len (a + 1) n))
          (with_range (a + 1) n low' (omega (arith, high))))))
          (same_or_not a p)

  -- the marks of captures
  bound_told : (c : ℕ) → c % shape.parsers ≡ p → bound_in (of_items c) (more (c % shape.parsers)) ≡ bound_after (bound_in (of_items c) (taken (c % shape.parsers))) (of_items c f)
  bound_told c e =
      subst (λ (j : ℕ). bound_in (of_items c) (more j) ≡ bound_after (bound_in (of_items c) (taken j)) (of_items c f)) (sym e)
      (ap (bound_in (of_items c)) one.here ∙ bound_push (of_items c) (taken p) f)

  pub bound_quiet : (c : ℕ) → of_items c f ≡ None → bound_in (of_items c) (more (c % shape.parsers)) ≡ bound_in (of_items c) (taken (c % shape.parsers))
  bound_quiet c none =
      ⊎_elim
      (λ (e : c % shape.parsers ≡ p).
      bound_told c e ∙ ap (bound_after (bound_in (of_items c) (taken (c % shape.parsers)))) none ∙ unchanged (bound_in (of_items c) (taken (c % shape.parsers))))
      (λ (other : c % shape.parsers ≡ p → ⊥). ap (bound_in (of_items c)) (one.others (c % shape.parsers) other))
      (same_or_not (c % shape.parsers) p)
    where
      unchanged : (b : Option ℕ) → bound_after b None ≡ b
      unchanged None = refl
      unchanged (Some m) = refl

  module _ (g : Grouping) (given : List Copies) (added : List Summary) (h : Gathers job shape me taken g given added) where
    -- no summary came
    same_more : item_in f ≡ [] → IsPermutation added (came_in shape more)
    same_more none =
        IsPermutation-trans added (came_in shape taken) (came_in shape more) h.same
        (subst (λ ss. IsPermutation ss (came_in shape more)) (ap (λ ss. came_in shape taken ++ ss) none ∙ append-nil (came_in shape taken)) came_more)

    -- one capture's mark changes
    marks_changed : (c : ℕ) (b : Option ℕ) → c < length job.captures → c % shape.parsers ≡ p → item_in f ≡ []
        → b ≡ bound_after (bound_in (of_items c) (taken (c % shape.parsers))) (of_items c f) → ((d : ℕ) → (d ≡ c → ⊥) → of_items d f ≡ None)
        → StandsFor (marked (set g.marks c b) g) job.window added given
        → Gathers job shape me more (marked (set g.marks c b) g) given added
    marks_changed c b within own none is quiet stands = record {
      lawful = lawful_more;
      same = same_more none;
      stands = stands;
      marks_many = length-set g.marks c b ∙ h.marks_many;
      marks_are = λ d hd.
          ⊎_elim
          (λ (e : d ≡ c).
          subst (λ (j : ℕ). get_or (set g.marks c b) j None ≡ bound_in (of_items j) (more (j % shape.parsers))) (sym e)
          (get_or-set_same g.marks c b None (omega (arith, within, h.marks_many)) ∙ is ∙ sym (bound_told c own)))
          (λ (other : d ≡ c → ⊥).
          get_or-set_other g.marks c d b None other ∙ h.marks_are d hd ∙ sym (bound_quiet d (quiet d other)))
          (same_or_not d c);
    }

-- ---- each kind of frame

module _ (job : Declared) (shape : Shape) (me : ℕ) (taken more : ℕ → List Frame) (p : ℕ) (less : p < shape.parsers)
    (g : Grouping) (given : List Copies) (added : List Summary) (h : Gathers job shape me taken g given added) where
  -- a summary
  module _ (s : Summary) (may : MayFollow (ItemRule job shape p me) (taken p) (Item s)) where
    pub item_may_come : MayCome g.marks s.at
    item_may_come =
        let open_yet = item_left_open (ItemRule job shape p me) (taken p) (Item s ∷ []) s (may, tt) (inl refl) in
        let late : under (bound_in (of_items s.at.capture) (taken p)) s.at.time ≡ false = not_under (of_items s.at.capture) (taken p) s.at.time open_yet in
        let own = may.own.capture in
        let is : get_or g.marks s.at.capture None ≡ bound_in (of_items s.at.capture) (taken p) =
        h.marks_are s.at.capture own.0 ∙ ap (λ (k : ℕ). bound_in (of_items s.at.capture) (taken k)) own.1 in
        subst (λ (b : Option ℕ). Allows b s.at.time) (sym is) (allows (bound_in (of_items s.at.capture) (taken p)) s.at.time late)
      where
        allows : (b : Option ℕ) (t : ℕ) → under b t ≡ false → Allows b t
        allows None t e = absurd (cc)
        allows (Some m) t e = ltb-false t m e

    apart_numbers : (a b : Stamp) → (a.capture ≡ b.capture → a.number < b.number) → Precedes b a ⊎ Precedes a b
    apart_numbers a b h = grind arith

    apart_captures : (a b : Stamp) → (a.capture ≡ b.capture → ⊥) → Precedes b a ⊎ Precedes a b
    apart_captures a b h = grind arith

    differs_from : (x : Summary) → IsIn x (came_in shape taken) → Precedes s.at x.at ⊎ Precedes x.at s.at
    differs_from x there =
        let from = of_flat (λ k. items_in (taken k)) x (below shape.parsers) there in
        let within = of_below shape.parsers from.item from.there in
        let its = (item_of job shape from.item me (taken from.item) x (h.lawful from.item within) from.is).capture in
        let own = may.own.capture in
        ⊎_elim
        (λ (e : from.item ≡ p).
        let here : IsIn (Item x) (taken p) = item_frame x (taken p) (subst (λ (k : ℕ). IsIn x (items_in (taken k))) e from.is) in
        let permits : Permits (Item x) (Item s) = all_in (λ earlier. Permits earlier (Item s)) (Item x) (taken p) may.permitted here in
        apart_numbers x.at s.at permits)
        (λ (other : from.item ≡ p → ⊥).
        apart_captures x.at s.at (λ e. other (sym its.1 ∙ ap (λ (c : ℕ). c % shape.parsers) e ∙ own.1)))
        (same_or_not from.item p)

    differs_all : (xs : List Summary) → ((x : Summary) → IsIn x xs → Precedes s.at x.at ⊎ Precedes x.at s.at) → DiffersFromAll s.at xs
    differs_all [] each = tt
    differs_all (x ∷ xs) each = (each x (inl refl), differs_all xs (λ z l. each z (inr l)))

    pub differ_more : StampsDiffer (added ++ s ∷ [])
    differ_more = push added h.stands.differ (λ x there. differs_from x (in_permutation x added (came_in shape taken) h.same there))
      where
        push_each : (at : Stamp) (xs : List Summary) → DiffersFromAll at xs → Precedes at s.at ⊎ Precedes s.at at → DiffersFromAll at (xs ++ s ∷ [])
        push_each at [] d e = (e, tt)
        push_each at (x ∷ xs) d e = (d.0, push_each at xs d.1 e)

        push : (xs : List Summary) → StampsDiffer xs → ((x : Summary) → IsIn x xs → Precedes s.at x.at ⊎ Precedes x.at s.at) → StampsDiffer (xs ++ s ∷ [])
        push [] d each = (tt, tt)
        push (x ∷ xs) d each = (
          push_each x.at xs d.0 (⊎_elim (λ (b : Precedes s.at x.at). inr b) (λ (a : Precedes x.at s.at). inl a) (each x (inl refl))),
          push xs d.1 (λ z l. each z (inr l)),
        )

    pub item_apart : DiffersFromAll s.at g.waiting
    item_apart = stamps_apart g job.window added given s h.stands differ_more

    pub gathers_item : TakesOne taken more p (Item s) → Gathers job shape me more (with_summary s g) given (added ++ s ∷ [])
    gathers_item one = record {
      lawful = lawful_more job shape me taken more p (Item s) less one h.lawful may;
      same = IsPermutation-trans (added ++ s ∷ []) (came_in shape taken ++ s ∷ []) (came_in shape more)
          (IsPermutation-append_left (s ∷ []) added (came_in shape taken) h.same) (came_more job shape me taken more p (Item s) less one h.lawful may);
      stands = stands_added g s job.window added given item_may_come h.stands differ_more;
      marks_many = h.marks_many;
      marks_are = λ c hc. h.marks_are c hc ∙ sym (bound_quiet job shape me taken more p (Item s) less one h.lawful may c refl);
    }

  -- a mark
  pub gathers_mark : (c mark : ℕ) (may : MayFollow (ItemRule job shape p me) (taken p) (Mark c mark)) → TakesOne taken more p (Mark c mark)
      → StandsFor (marked (set g.marks c (raised_to mark (get_or g.marks c None))) g) job.window added given
      → Gathers job shape me more (marked (set g.marks c (raised_to mark (get_or g.marks c None))) g) given added
  gathers_mark c mark may one stands =
      let own = may.own.0 in
      marks_changed job shape me taken more p (Mark c mark) less one h.lawful may g given added h c (raised_to mark (get_or g.marks c None)) own.0 own.1 refl
      (ap (raised_to mark) (h.marks_are c own.0) ∙ raises (bound_in (of_items c) (taken (c % shape.parsers))) refl
      ∙ ap (bound_after (bound_in (of_items c) (taken (c % shape.parsers)))) (sym says_own))
      (λ d other. let not : (c == d) ≡ false = differs c d (λ e. other (sym e)) in rw not refl)
      stands
    where
      says_own : of_items c (Mark c mark) ≡ Some (Some mark)
      says_own = let same : (c == c) ≡ true = eq-eqb c c refl in rw same refl

      late : under (bound_in (of_items c) (taken (c % shape.parsers))) mark ≡ false
      late =
          subst (λ (k : ℕ). under (bound_in (of_items c) (taken k)) mark ≡ false) (sym may.own.0.1)
          (not_under (of_items c) (taken p) mark (mark_left_open c (Mark c mark) mark (taken p) says_own may.permitted))

      raises : (b : Option ℕ) → bound_in (of_items c) (taken (c % shape.parsers)) ≡ b → raised_to mark b ≡ bound_after b (Some (Some mark))
      raises None e = refl
      raises (Some v) e =
          let over : nat_lt mark v ≡ false = subst (λ (o : Option ℕ). under o mark ≡ false) e late in
          let most : max v mark ≡ mark = grind (arith, nat_tests) in
          ap (λ (k : ℕ). Some k) most

  -- the end of a capture
  pub gathers_end : (c : ℕ) (may : MayFollow (ItemRule job shape p me) (taken p) (CaptureEnd c)) → TakesOne taken more p (CaptureEnd c)
      → StandsFor (marked (set g.marks c None) g) job.window added given
      → Gathers job shape me more (marked (set g.marks c None) g) given added
  gathers_end c may one stands =
      let own = may.own in
      marks_changed job shape me taken more p (CaptureEnd c) less one h.lawful may g given added h c None own.0 own.1 refl
      (sym (ap (bound_after (bound_in (of_items c) (taken (c % shape.parsers)))) says_own ∙ none_after_end (bound_in (of_items c) (taken (c % shape.parsers)))))
      (λ d other. let not : (c == d) ≡ false = differs c d (λ e. other (sym e)) in rw not refl)
      stands
    where
      says_own : of_items c (CaptureEnd c) ≡ Some None
      says_own = let same : (c == c) ≡ true = eq-eqb c c refl in rw same refl

  -- the end of the link, on which each capture has ended
  pub gathers_finish : (may : MayFollow (ItemRule job shape p me) (taken p) Finish) → TakesOne taken more p Finish → Gathers job shape me more g given added
  gathers_finish may one = record {
    lawful = lawful_more job shape me taken more p Finish less one h.lawful may;
    same = same_more job shape me taken more p Finish less one h.lawful may g given added h refl;
    stands = h.stands;
    marks_many = h.marks_many;
    marks_are = λ c hc.
        h.marks_are c hc ∙ ⊎_elim
        (λ (e : c % shape.parsers ≡ p).
        let there : IsIn (CaptureEnd c) (taken (c % shape.parsers)) = subst (λ (k : ℕ). IsIn (CaptureEnd c) (taken k)) (sym e) (may.own c (hc, e)) in
        let says_own : of_items c (CaptureEnd c) ≡ Some None = (let same : (c == c) ≡ true = eq-eqb c c refl in rw same refl) in
        let none : bound_in (of_items c) (taken (c % shape.parsers)) ≡ None = ended_by (of_items c) (Some 0) (taken (c % shape.parsers)) (CaptureEnd c) says_own there in
        none ∙ sym (bound_told job shape me taken more p Finish less one h.lawful may c e ∙ ap (λ (b : Option ℕ). bound_after b (Some None)) none))
        (λ (other : c % shape.parsers ≡ p → ⊥). ap (bound_in (of_items c)) (sym (one.others (c % shape.parsers) other)))
        (same_or_not (c % shape.parsers) p);
  }
