-- Marks and their order: what a parser promises of its last marks, and that no capture is ahead, after each step.
use Rattle.std.proofs.Common.{ℕ, Bool, true, false, List, [], ◌∷◌, ◌++◌, ◌≡◌, ◌≢◌, ◌<◌, ◌≤◌, ◌+◌, ◌-◌, Option, Some, None, inl, inr, refl, sym, ap, subst, ◌∙◌, ⊎_elim, arith, length, length-append, take, max}
use Rattle.std.specs.Prelude.{◌==◌, ◌⊎◌}
use Rattle.std.proofs.lemmas.Bool.{eq-eqb}
use Rattle.std.proofs.lemmas.List.{take-append-le, take_all}
use Rattle.ds_base.specs.Fronts.{IsIn}
use Rattle.ds_base.specs.declared.summary.Summary.{Summary}
use Rattle.key_select.specs.Late.{mark_of, greatest_time}
use Rattle.key_select.specs.Tally.{newest_after}
use Rattle.key_select.specs.Times.{record_time}
use Rattle.key_select.proofs.Tallying.{greatest_time-append}
use Rattle.node_frames.specs.declared.frame.Frame.{Frame}
use Rattle.node_frames.specs.declared.frame.Frame.TheVariants.{Item, Mark, CaptureEnd, Finish}
use Rattle.pcap_reader.specs.Captured.{Captured}
use Rattle.summary_spec.specs.Declaration.{Declared}
use Rattle.run_law.specs.Nodes.{Reading, ParserMarks, but_last}
use Rattle.run_law.specs.Sent.{Saying, of_items, bound_in, bound_behind, bound_after}
use Rattle.run_law.specs.Shapes.{Shape, IsCaptureOf, is_of_shard}
use Rattle.run_law.proofs.Lists.{in_left, in_right}
use Rattle.run_law.proofs.More.{bound-append}
use Rattle.net_law.specs.Parsers.{IsBehind, FromNone, FromSome}
use Rattle.parser_captures.specs.Puts.{frames_by, frames_for}
use Rattle.parser_captures.specs.Steps.{GoesOn}
use Rattle.parser_captures.proofs.Keeping.{same_or_not, differ_eqb}
use Rattle.parser_captures.proofs.Taking.{untold}

-- ---- all but the last few records

pub but_last_more : (few : ℕ) (rs more : List Captured) → few ≤ length rs → but_last (few + length more) (rs ++ more) ≡ but_last few rs
but_last_more few rs more within =
    let e : length (rs ++ more) - (few + length more) ≡ length rs - few = omega (arith, length-append rs more, within) in
    ap (λ (n : ℕ). take n (rs ++ more)) e ∙ take-append-le (length rs - few) rs more (omega arith)

pub but_last_none : (rs : List Captured) → but_last 0 rs ≡ rs
but_last_none rs = take_all (length rs - 0) rs (omega arith)

-- ---- the last mark

bound_by : (d : ℕ) (b : Option ℕ) (s : Summary) (own : Bool) → bound_behind (of_items d) b (frames_by own s) ≡ b
bound_by d None s true = refl
bound_by d (Some m) s true = refl
bound_by d b s false = refl

bound_to : (n g d : ℕ) (b : Option ℕ) (found : Option Summary) → bound_behind (of_items d) b (frames_for n g found) ≡ b
bound_to n g d b None = refl
bound_to n g d b (Some s) = bound_by d b s (is_of_shard g n s.key)

module _ (job : Declared) (shape : Shape) (p : ℕ) (behind after : ℕ → ℕ) (read now : ℕ → Reading) (items put : ℕ → List Frame)
    (c : ℕ) (more : List Captured) (found : Option Summary)
    (kept : ParserMarks job shape p behind read items) (on : GoesOn job shape p read now items put c more found)
    (here : after c ≡ behind c + length more) (elsewhere : (d : ℕ) → d ≢ c → after d ≡ behind d) (few : after c ≤ 32) where
  last_on : (d : ℕ) → IsCaptureOf (length job.captures) shape p d → but_last (after d) (now d).records ≡ but_last (behind d) (read d).records
  last_on d own =
      ⊎_elim
      (λ (e : d ≡ c).
      subst (λ (k : ℕ). but_last (after k) (now k).records ≡ but_last (behind k) (read k).records) (sym e)
      (ap (λ (n : ℕ). but_last n (now c).records) here ∙ ap (but_last (behind c + length more)) on.records ∙ but_last_more (behind c) (read c).records more (kept.within c on.own)))
      (λ (differ : d ≢ c). ap (λ (n : ℕ). but_last n (now d).records) (elsewhere d differ) ∙ ap (λ (r : Reading). but_last (behind d) r.records) (on.others d differ))
      (same_or_not d c)

  within_on : (d : ℕ) → IsCaptureOf (length job.captures) shape p d → after d ≤ length (now d).records
  within_on d own =
      ⊎_elim
      (λ (e : d ≡ c).
      subst (λ (k : ℕ). after k ≤ length (now k).records) (sym e)
      (omega (arith, kept.within c on.own, here, ap length on.records, length-append (read c).records more)))
      (λ (differ : d ≢ c). omega (arith, kept.within d own, elsewhere d differ, ap (λ (r : Reading). length r.records) (on.others d differ)))
      (same_or_not d c)

  few_on : (d : ℕ) → IsCaptureOf (length job.captures) shape p d → after d ≤ 32
  few_on d own =
      ⊎_elim
      (λ (e : d ≡ c). subst (λ (k : ℕ). after k ≤ 32) (sym e) few)
      (λ (differ : d ≢ c). omega (arith, kept.few d own, elsewhere d differ))
      (same_or_not d c)

  pub marks_on : ParserMarks job shape p after now put
  marks_on = record {
    within = within_on;
    few = few_on;
    last = λ g d below own open'.
        ap (bound_in (of_items d)) (on.frames g below)
        ∙ bound-append (of_items d) (Some 0) (items g) (frames_for shape.groupers g found)
        ∙ bound_to shape.groupers g d (bound_in (of_items d) (items g)) found
        ∙ kept.last g d below own (λ h. open' (subst (λ fs. IsIn (CaptureEnd d) fs) (sym (on.frames g below)) (in_left (CaptureEnd d) (items g) (frames_for shape.groupers g found) h)))
        ∙ ap (λ (rs : List Captured). Some (mark_of job d rs)) (sym (last_on d own));
  }

-- ---- a frame of one capture on every link to a grouper

-- a frame that says nothing of a capture leaves its bound
said_nothing : (d : ℕ) (b : Option ℕ) (f : Frame) → of_items d f ≡ None → bound_behind (of_items d) b (f ∷ []) ≡ b
said_nothing d None f e = refl
said_nothing d (Some m) f e = rw e refl

module _ (job : Declared) (shape : Shape) (p : ℕ) (behind after : ℕ → ℕ) (read : ℕ → Reading) (items put : ℕ → List Frame) (c mark : ℕ)
    (kept : ParserMarks job shape p behind read items) (own : IsCaptureOf (length job.captures) shape p c) (is : mark ≡ mark_of job c (read c).records)
    (frames : (g : ℕ) → g < shape.groupers → put g ≡ items g ++ Mark c mark ∷ []) (open' : (g : ℕ) → g < shape.groupers → IsIn (CaptureEnd c) (items g) → ⊥)
    (here : after c ≡ 0) (elsewhere : (d : ℕ) → d ≢ c → after d ≡ behind d) where
  bound_put : (g d : ℕ) → g < shape.groupers → bound_in (of_items d) (put g) ≡ bound_behind (of_items d) (bound_in (of_items d) (items g)) (Mark c mark ∷ [])
  bound_put g d below = ap (bound_in (of_items d)) (frames g below) ∙ bound-append (of_items d) (Some 0) (items g) (Mark c mark ∷ [])

  own_said : of_items c (Mark c mark) ≡ Some (Some mark)
  own_said = rw (eq-eqb c c refl) refl

  own_bound : (b : Option ℕ) (m : ℕ) → b ≡ Some m → bound_behind (of_items c) b (Mark c mark ∷ []) ≡ Some mark
  own_bound b m e = rw e (ap (bound_after (Some m)) own_said)

  last_here : (g : ℕ) → g < shape.groupers → bound_in (of_items c) (put g) ≡ Some (mark_of job c (but_last (after c) (read c).records))
  last_here g below =
      bound_put g c below
      ∙ own_bound (bound_in (of_items c) (items g)) (mark_of job c (but_last (behind c) (read c).records)) (kept.last g c below own (open' g below))
      ∙ ap Some (is ∙ ap (mark_of job c) (sym (ap (λ (n : ℕ). but_last n (read c).records) here ∙ but_last_none (read c).records)))

  last_there : (g d : ℕ) → g < shape.groupers → d ≢ c → IsCaptureOf (length job.captures) shape p d → (IsIn (CaptureEnd d) (put g) → ⊥)
      → bound_in (of_items d) (put g) ≡ Some (mark_of job d (but_last (after d) (read d).records))
  last_there g d below differ own' goes =
      let quiet : of_items d (Mark c mark) ≡ None = rw (differ_eqb c d (λ e. differ (sym e))) refl in
      bound_put g d below
      ∙ said_nothing d (bound_in (of_items d) (items g)) (Mark c mark) quiet
      ∙ kept.last g d below own' (λ h. goes (subst (λ fs. IsIn (CaptureEnd d) fs) (sym (frames g below)) (in_left (CaptureEnd d) (items g) (Mark c mark ∷ []) h)))
      ∙ ap (λ (n : ℕ). Some (mark_of job d (but_last n (read d).records))) (sym (elsewhere d differ))

  pub marks_marked : ParserMarks job shape p after read put
  marks_marked = record {
    within = λ d own'.
        ⊎_elim
        (λ (e : d ≡ c). subst (λ (k : ℕ). after k ≤ length (read k).records) (sym e) (omega (arith, here)))
        (λ (differ : d ≢ c). omega (arith, kept.within d own', elsewhere d differ))
        (same_or_not d c);
    few = λ d own'.
        ⊎_elim
        (λ (e : d ≡ c). subst (λ (k : ℕ). after k ≤ 32) (sym e) (omega (arith, here)))
        (λ (differ : d ≢ c). omega (arith, kept.few d own', elsewhere d differ))
        (same_or_not d c);
    last = λ g d below own' goes.
        ⊎_elim
        (λ (e : d ≡ c). subst (λ (k : ℕ). bound_in (of_items k) (put g) ≡ Some (mark_of job k (but_last (after k) (read k).records))) (sym e) (last_here g below))
        (λ (differ : d ≢ c). last_there g d below differ own' goes)
        (same_or_not d c);
  }

-- the end of a capture, or of the link
module _ (job : Declared) (shape : Shape) (p : ℕ) (behind : ℕ → ℕ) (read now : ℕ → Reading) (items put : ℕ → List Frame) (last : Frame)
    (kept : ParserMarks job shape p behind read items) (records : (d : ℕ) → (now d).records ≡ (read d).records)
    (frames : (g : ℕ) → g < shape.groupers → put g ≡ items g ++ last ∷ [])
    (quiet : (g d : ℕ) → g < shape.groupers → IsCaptureOf (length job.captures) shape p d → (IsIn (CaptureEnd d) (put g) → ⊥) → of_items d last ≡ None) where
  pub marks_ended : ParserMarks job shape p behind now put
  marks_ended = record {
    within = λ d own. omega (arith, kept.within d own, ap length (records d));
    few = kept.few;
    last = λ g d below own goes.
        ap (bound_in (of_items d)) (frames g below)
        ∙ bound-append (of_items d) (Some 0) (items g) (last ∷ [])
        ∙ said_nothing d (bound_in (of_items d) (items g)) last (quiet g d below own goes)
        ∙ kept.last g d below own (λ h. goes (subst (λ fs. IsIn (CaptureEnd d) fs) (sym (frames g below)) (in_left (CaptureEnd d) (items g) (last ∷ []) h)))
        ∙ ap (λ (rs : List Captured). Some (mark_of job d (but_last (behind d) rs))) (sym (records d));
  }

-- ---- no capture is ahead

-- over readings: the order in which captures are taken up
abbrev pub AreEven : Declared → Shape → (p : ℕ) → (ℕ → Reading) → Type 0
AreEven job shape p read = (c d : ℕ) → IsCaptureOf (length job.captures) shape p c → IsCaptureOf (length job.captures) shape p d → (read d).ended ≡ false
    → IsBehind (greatest_time job c (but_last 1 (read c).records)) (greatest_time job d (read d).records)

pub behind_grows : (a b : Option ℕ) (t : ℕ) → IsBehind a b → IsBehind a (newest_after t b)
behind_grows None b t h = FromNone (newest_after t b)
behind_grows (Some m) None t h = elim h [ ]
behind_grows (Some m) (Some n) t (FromSome _ _ le) = FromSome m (max n t) (omega (arith, le))

pub behind_self : (a : Option ℕ) (t : ℕ) → IsBehind a (newest_after t a)
behind_self None t = FromNone (Some t)
behind_self (Some n) t = FromSome n (max n t) (omega arith)

module _ (job : Declared) (shape : Shape) (p : ℕ) (read now : ℕ → Reading) (c : ℕ) (r : Captured) (even : AreEven job shape p read)
    (own : IsCaptureOf (length job.captures) shape p c) (going : (read c).ended ≡ false) (records : (now c).records ≡ (read c).records ++ r ∷ []) (others : (d : ℕ) → d ≢ c → now d ≡ read d)
    (least : (d : ℕ) → IsCaptureOf (length job.captures) shape p d → (read d).ended ≡ false → IsBehind (greatest_time job c (read c).records) (greatest_time job d (read d).records)) where
  newest_here : greatest_time job c (now c).records ≡ newest_after (record_time job c r) (greatest_time job c (read c).records)
  newest_here = ap (greatest_time job c) records ∙ greatest_time-append job c (read c).records r

  before_here : but_last 1 (now c).records ≡ (read c).records
  before_here = ap (but_last 1) records ∙ but_last_more 0 (read c).records (r ∷ []) (omega arith) ∙ but_last_none (read c).records

  -- behind a capture that went on or did not
  behind_now : (a : Option ℕ) (d : ℕ) → (now d).ended ≡ false → IsCaptureOf (length job.captures) shape p d
      → ((read d).ended ≡ false → IsBehind a (greatest_time job d (read d).records)) → IsBehind a (greatest_time job d (now d).records)
  behind_now a d open' own' h =
      ⊎_elim
      (λ (e : d ≡ c).
      subst (λ (k : ℕ). IsBehind a (greatest_time job k (now k).records)) (sym e)
      (subst (IsBehind a) (sym newest_here) (behind_grows a (greatest_time job c (read c).records) (record_time job c r)
      (subst (λ (k : ℕ). (read k).ended ≡ false → IsBehind a (greatest_time job k (read k).records)) e h going))))
      (λ (differ : d ≢ c).
      subst (λ (x : Reading). IsBehind a (greatest_time job d x.records)) (sym (others d differ)) (h (ap (λ (x : Reading). x.ended) (sym (others d differ)) ∙ open')))
      (same_or_not d c)

  pub even_on : AreEven job shape p now
  even_on b d own_b own_d open' =
      ⊎_elim
      (λ (e : b ≡ c).
      subst (λ (k : ℕ). IsBehind (greatest_time job k (but_last 1 (now k).records)) (greatest_time job d (now d).records)) (sym e)
      (subst (λ (rs : List Captured). IsBehind (greatest_time job c rs) (greatest_time job d (now d).records)) (sym before_here)
      (behind_now (greatest_time job c (read c).records) d open' own_d (λ goes. least d own_d goes))))
      (λ (differ : b ≢ c).
      subst (λ (x : Reading). IsBehind (greatest_time job b (but_last 1 x.records)) (greatest_time job d (now d).records)) (sym (others b differ))
      (behind_now (greatest_time job b (but_last 1 (read b).records)) d open' own_d (λ goes. even b d own_b own_d goes)))
      (same_or_not b c)

-- where no record was taken up
pub even_stays : (job : Declared) (shape : Shape) (p : ℕ) (read now : ℕ → Reading) → AreEven job shape p read → ((d : ℕ) → (now d).records ≡ (read d).records)
    → ((d : ℕ) → (now d).ended ≡ false → (read d).ended ≡ false) → AreEven job shape p now
even_stays job shape p read now even records ended c d own_c own_d open' =
    subst (λ (rs : List Captured). IsBehind (greatest_time job c (but_last 1 rs)) (greatest_time job d (now d).records)) (sym (records c))
    (subst (λ (rs : List Captured). IsBehind (greatest_time job c (but_last 1 (read c).records)) (greatest_time job d rs)) (sym (records d)) (even c d own_c own_d (ended d open')))
