-- The groups that come whole over a lawful link: each can be answered, and there are few members in all.
use Rattle.std.proofs.Common.{ℕ, Bool, true, false, List, [], ◌∷◌, ◌++◌, ◌≡◌, ◌<◌, ◌≤◌, ◌+◌, ◌-◌, ◌^◌, Option, Some, None, inl, inr, refl, sym, ap, subst, ◌∙◌, ⊎_elim, append_assoc, arith, length, length-append}
use Rattle.std.specs.Prelude.{◌==◌, if◌then◌else◌, sum_by, All}
use Rattle.std.specs.List.{AllByRecursion}
use Rattle.std.proofs.lemmas.Bool.{cases_Bool, eqb-true}
use Rattle.std.proofs.lemmas.List.{append-nil}
use Rattle.std.proofs.lemmas.List.Elements.{All-from_recursion, All-weaker}
use Rattle.std.proofs.lemmas.List.Sums.{sum_by-cons, sum_by-append}
use Rattle.ds_base.specs.Copies.{Copies}
use Rattle.ds_base.specs.Order.{Precedes, PrecedesAll, InStampOrder}
use Rattle.ds_base.specs.Times.{hour}
use Rattle.ds_base.specs.declared.stamp.Stamp.{Stamp}
use Rattle.ds_base.specs.declared.summary.Summary.{Summary}
use Rattle.node_frames.specs.declared.frame.Frame.{Frame}
use Rattle.node_frames.specs.declared.frame.Frame.TheVariants.{Item, Mark, CaptureEnd, GroupHead, Member, GroupMark, AnswerRow, Profile, CountsRow, Finish}
use Rattle.profiles.specs.Delays.{Delay, delays}
use Rattle.profiles.proofs.Windows.{within_window}
use Rattle.summary_spec.specs.Declaration.{Declared}
use Rattle.summary_spec.specs.Lawful.{IsLawful}
use Rattle.window_grouper.specs.Groups.{members_in}
use Rattle.central_report.specs.Answering.{IsAnswerable}
use Rattle.central_report.specs.Laws.{IsSummaryOf}
use Rattle.run_law.specs.Links.{MayFollow, AreLawfulBehind, AreLawful, AreLawfulGroups, GroupRule, IsStampOf, IsNextStamp, IsMemberOf, members_of, members_announced}
use Rattle.run_law.specs.Nodes.{first_member}
use Rattle.run_law.specs.Sent.{Begun, with_member, still_begun, made_whole, begun_after, whole_with, begun_behind, groups_behind, groups_in, begun_in}

-- ---- lists

pub all_joined : {X : Type 0} (P : X → Type 0) (xs ys : List X) → AllByRecursion P xs → AllByRecursion P ys → AllByRecursion P (xs ++ ys)
all_joined P [] ys h k = k
all_joined P (x ∷ xs) ys h k = (h.0, all_joined P xs ys h.1 k)

precedes_more : (at : Stamp) (ss : List Summary) (m : Summary) → PrecedesAll at ss → Precedes at m.at → PrecedesAll at (ss ++ m ∷ [])
precedes_more at [] m h p = (p, tt)
precedes_more at (s ∷ ss) m h p = (h.0, precedes_more at ss m h.1 p)

order_more : (ss : List Summary) (m : Summary) → InStampOrder ss → AllByRecursion (λ (s : Summary). Precedes s.at m.at) ss → InStampOrder (ss ++ m ∷ [])
order_more [] m h p = (tt, tt)
order_more (s ∷ ss) m h p = (precedes_more s.at ss m h.0 p.0, order_more ss m h.1 p.1)

-- ---- groups

-- the summary is of the job
abbrev pub IsSound : Declared → Summary → Type 0
IsSound job s = IsStampOf job s.at × (length s.vals ≡ length job.vars)

-- a group as lawful frames bring it
pub record IsWhole (job : Declared) (x : Copies) : Type 0 where
  pub filled : 0 < length x.members
  pub ordered : InStampOrder x.members
  pub sound : AllByRecursion (IsSound job) x.members
  pub within : AllByRecursion (λ (m : Summary). m.at.time ≤ (first_member x.members).at.time + job.window) x.members
  pub key : length x.key ≡ length job.key

abbrev IsLed : Stamp → List Summary → Type 0
IsLed first [] = Unit {0}
IsLed first (m ∷ ms) = m.at ≡ first

-- a group of which the last member is still to come
pub record IsUnderWay (job : Declared) (b : Begun) : Type 0 where
  pub ordered : InStampOrder b.members
  pub sound : AllByRecursion (IsSound job) b.members
  pub within : AllByRecursion (λ (m : Summary). m.at.time ≤ b.first.time + job.window) b.members
  pub led : IsLed b.first b.members
  pub key : length b.key ≡ length job.key
  pub left : 1 ≤ b.left

abbrev pub IfUnderWay : Declared → Option Begun → Type 0
IfUnderWay job None = Unit {0}
IfUnderWay job (Some b) = IsUnderWay job b

-- how many members the group that is not whole has and is still to have
abbrev pub members_due : Option Begun → ℕ
members_due None = 0
members_due (Some b) = length b.members + b.left

-- what came over a link
pub record HasBrought (job : Declared) (announced : ℕ) (begun : Option Begun) (gs : List Copies) : Type 0 where
  pub whole : AllByRecursion (IsWhole job) gs
  pub under_way : IfUnderWay job begun
  pub counted : members_in gs + members_due begun ≤ announced
  pub few : announced ≤ 2 ^ 46

led_more : (first at : Stamp) (ms : List Summary) (m : Summary) → m.at ≡ at → IsLed first ms → IsNextStamp first ms at → IsLed first (ms ++ m ∷ [])
led_more first at [] m e h next = e ∙ next
led_more first at (x ∷ xs) m e h next = h

in_order : (first at : Stamp) (ms : List Summary) (m : Summary) → m.at ≡ at → InStampOrder ms → IsNextStamp first ms at → InStampOrder (ms ++ m ∷ [])
in_order first at [] m e h next = (tt, tt)
in_order first at (x ∷ xs) m e h next =
    order_more (x ∷ xs) m h (subst (λ (s : Stamp). AllByRecursion (λ (earlier : Summary). Precedes earlier.at s) (x ∷ xs)) (sym e) next)

led_time : (first : Stamp) (ms : List Summary) → IsLed first ms → 0 < length ms → first.time ≡ (first_member ms).at.time
led_time first [] h some = absurd (omega arith)
led_time first (m ∷ ms) h some = ap (λ (s : Stamp). s.time) (sym h)

-- one member more, whether or not it is the last
module _ (job : Declared) (b : Begun) (at : Stamp) (vals : List ℕ) (old : IsUnderWay job b) (own : IsMemberOf job b at vals) where
  abbrev member : Summary
  member = record { at = at; key = b.key; vals = vals }

  grown_ordered : InStampOrder (with_member at vals b).members
  grown_ordered = in_order b.first at b.members member refl old.ordered own.next

  grown_sound : AllByRecursion (IsSound job) (with_member at vals b).members
  grown_sound = all_joined (IsSound job) b.members (member ∷ []) old.sound ((own.stamp, own.values), tt)

  grown_within : AllByRecursion (λ (m : Summary). m.at.time ≤ b.first.time + job.window) (with_member at vals b).members
  grown_within = all_joined (λ (m : Summary). m.at.time ≤ b.first.time + job.window) b.members (member ∷ []) old.within (own.within, tt)

  grown_led : IsLed b.first (with_member at vals b).members
  grown_led = led_more b.first at b.members member refl old.led own.next

  grown_length : length (with_member at vals b).members ≡ length b.members + 1
  grown_length = length-append b.members (member ∷ [])

  still_under_way : ((with_member at vals b).left == 0) ≡ false → IsUnderWay job (with_member at vals b)
  still_under_way e = record {
    ordered = grown_ordered;
    sound = grown_sound;
    within = grown_within;
    led = grown_led;
    key = old.key;
    left = left_some ((with_member at vals b).left) e;
  }
    where
      left_some : (k : ℕ) → (k == 0) ≡ false → 1 ≤ k
      left_some k e = grind (arith)

  now_whole : IsWhole job (record { key = b.key; members = (with_member at vals b).members })
  now_whole = record {
    filled = omega (arith, grown_length);
    ordered = grown_ordered;
    sound = grown_sound;
    within = subst (λ (t : ℕ). AllByRecursion (λ (m : Summary). m.at.time ≤ t + job.window) (with_member at vals b).members)
        (led_time b.first (with_member at vals b).members grown_led (omega (arith, grown_length))) grown_within;
    key = old.key;
  }

-- ---- one frame more

members_one : (gs : List Copies) (x : Copies) → members_in (gs ++ x ∷ []) ≡ members_in gs + length x.members
members_one gs x =
    sum_by-append (λ (g : Copies). length g.members) gs (x ∷ []) ∙ ap (λ (k : ℕ). members_in gs + k) (one x)
  where
    one : (x : Copies) → members_in (x ∷ []) ≡ length x.members
    one x = sum_by-cons (λ (g : Copies). length g.members) x [] ∙ omega arith

announced_more : (before : List Frame) (f : Frame) → members_announced (before ++ f ∷ []) ≡ members_announced before + members_of f
announced_more before f =
    sum_by-append members_of before (f ∷ []) ∙ ap (λ (k : ℕ). members_announced before + k) (sum_by-cons members_of f [] ∙ omega arith)

-- nothing became whole, and what is under way and announced is as before
brought_same : (job : Declared) (announced : ℕ) (begun : Option Begun) (gs : List Copies) → HasBrought job announced begun gs
    → HasBrought job (announced + 0) begun (gs ++ [])
brought_same job announced begun gs h =
    subst (λ (n : ℕ). HasBrought job n begun (gs ++ [])) (zero_more announced)
    (subst (λ (xs : List Copies). HasBrought job announced begun xs) (sym (append-nil gs)) h)
  where
    zero_more : (n : ℕ) → n ≡ n + 0
    zero_more n = omega arith

brought_head : (job : Declared) (announced : ℕ) (gs : List Copies) (first : Stamp) (members : ℕ) (key : List ℕ) → HasBrought job announced None gs
    → length key ≡ length job.key → 1 ≤ members → announced + members ≤ 2 ^ 46
    → HasBrought job (announced + members) (Some (record { first = first; key = key; members = []; left = members })) (gs ++ [])
brought_head job announced gs first members key h long some few =
    subst (λ (xs : List Copies). HasBrought job (announced + members) (Some (record { first = first; key = key; members = []; left = members })) xs) (sym (append-nil gs))
    (record {
      whole = h.whole;
      under_way = record { ordered = tt; sound = tt; within = tt; led = tt; key = long; left = some };
      counted = let old = h.counted in omega (arith, old);
      few = few;
    })

brought_member : (job : Declared) (announced : ℕ) (b : Begun) (gs : List Copies) (at : Stamp) (vals : List ℕ) → HasBrought job announced (Some b) gs
    → IsMemberOf job b at vals
    → HasBrought job (announced + 0) (still_begun (with_member at vals b)) (gs ++ made_whole (with_member at vals b))
brought_member job announced b gs at vals h own =
    subst (λ (n : ℕ). HasBrought job n (still_begun (with_member at vals b)) (gs ++ made_whole (with_member at vals b))) (zero_more announced)
    (⊎_elim
    (λ (t : ((with_member at vals b).left == 0) ≡ true). rw t (last t))
    (λ (f : ((with_member at vals b).left == 0) ≡ false). rw f (not_last f))
    (cases_Bool ((with_member at vals b).left == 0)))
  where
    zero_more : (n : ℕ) → n ≡ n + 0
    zero_more n = omega arith

    last : ((with_member at vals b).left == 0) ≡ true
        → HasBrought job announced None (gs ++ record { key = b.key; members = (with_member at vals b).members } ∷ [])
    last t = record {
      whole = all_joined (IsWhole job) gs (record { key = b.key; members = (with_member at vals b).members } ∷ []) h.whole (now_whole job b at vals h.under_way own, tt);
      under_way = tt;
      counted = let old = h.counted in let left = h.under_way.left in let none = eqb-true (with_member at vals b).left 0 t in
          omega (arith, old, left, none, members_one gs (record { key = b.key; members = (with_member at vals b).members }), grown_length job b at vals h.under_way own);
      few = h.few;
    }

    not_last : ((with_member at vals b).left == 0) ≡ false
        → HasBrought job announced (Some (with_member at vals b)) (gs ++ [])
    not_last f =
        subst (λ (xs : List Copies). HasBrought job announced (Some (with_member at vals b)) xs) (sym (append-nil gs))
        (record {
          whole = h.whole;
          under_way = still_under_way job b at vals h.under_way own f;
          counted = let old = h.counted in let left = h.under_way.left in
              omega (arith, old, left, grown_length job b at vals h.under_way own);
          few = h.few;
        })

abbrev Brings : Declared → (announced : ℕ) → Option Begun → List Copies → Frame → Type 0
Brings job announced begun gs f = HasBrought job (announced + members_of f) (begun_after begun f) (gs ++ whole_with begun f)

one_brought : (job : Declared) (before : List Frame) (begun : Option Begun) (gs : List Copies) (f : Frame) → begun ≡ begun_in before
    → MayFollow (GroupRule job) before f → HasBrought job (members_announced before) begun gs → Brings job (members_announced before) begun gs f
one_brought job before begun gs (Item s) e may h = absurd may.own
one_brought job before begun gs (Mark c mark) e may h = absurd may.own
one_brought job before begun gs (CaptureEnd c) e may h = absurd may.own
one_brought job before None gs (GroupHead first members key) e may h =
    brought_head job (members_announced before) gs first members key h may.own.1.key_length may.own.1.filled may.own.1.few
one_brought job before (Some b) gs (GroupHead first members key) e may h = absurd (let none = may.own.0 in cc)
one_brought job before None gs (Member at vals) e may h = absurd (rw (sym e) at may.own)
one_brought job before (Some b) gs (Member at vals) e may h =
    brought_member job (members_announced before) b gs at vals h (rw (sym e) at may.own)
one_brought job before None gs (GroupMark mark) e may h = brought_same job (members_announced before) None gs h
one_brought job before (Some b) gs (GroupMark mark) e may h = absurd (let none = may.own.0 in cc)
one_brought job before begun gs (AnswerRow a) e may h = absurd may.own
one_brought job before begun gs (Profile row) e may h = absurd may.own
one_brought job before begun gs (CountsRow c counts) e may h = absurd may.own
one_brought job before None gs Finish e may h = brought_same job (members_announced before) None gs h
one_brought job before (Some b) gs Finish e may h = absurd (let none = may.own in cc)

-- ---- all frames

pub begun_push : (begun : Option Begun) (xs : List Frame) (f : Frame) → begun_behind begun (xs ++ f ∷ []) ≡ begun_after (begun_behind begun xs) f
begun_push begun [] f = refl
begun_push begun (x ∷ xs) f = begun_push (begun_after begun x) xs f

pub groups_push : (begun : Option Begun) (xs : List Frame) (f : Frame) → groups_behind begun (xs ++ f ∷ []) ≡ groups_behind begun xs ++ whole_with (begun_behind begun xs) f
groups_push begun [] f = append-nil (whole_with begun f)
groups_push begun (x ∷ xs) f =
    ap (λ gs. whole_with begun x ++ gs) (groups_push (begun_after begun x) xs f)
    ∙ sym (append_assoc (whole_with begun x) (groups_behind (begun_after begun x) xs) (whole_with (begun_behind (begun_after begun x) xs) f))

all_brought : (job : Declared) (before ys : List Frame) (begun : Option Begun) (gs : List Copies) → begun ≡ begun_in before
    → HasBrought job (members_announced before) begun gs → AreLawfulBehind (GroupRule job) before ys
    → HasBrought job (members_announced (before ++ ys)) (begun_behind begun ys) (gs ++ groups_behind begun ys)
all_brought job before [] begun gs e h lawful =
    subst (λ zs. HasBrought job (members_announced zs) begun (gs ++ [])) (sym (append-nil before))
    (subst (λ xs. HasBrought job (members_announced before) begun xs) (sym (append-nil gs)) h)
all_brought job before (y ∷ ys) begun gs e h lawful =
    subst (λ zs. HasBrought job (members_announced zs) (begun_behind (begun_after begun y) ys) (gs ++ groups_behind begun (y ∷ ys))) (append_assoc before (y ∷ []) ys)
    (subst (λ xs. HasBrought job (members_announced ((before ++ y ∷ []) ++ ys)) (begun_behind (begun_after begun y) ys) xs)
    (append_assoc gs (whole_with begun y) (groups_behind (begun_after begun y) ys))
    (all_brought job (before ++ y ∷ []) ys (begun_after begun y) (gs ++ whole_with begun y)
    (ap (λ b. begun_after b y) e ∙ sym (begun_push None before y))
    (subst (λ (n : ℕ). HasBrought job n (begun_after begun y) (gs ++ whole_with begun y)) (sym (announced_more before y))
    (one_brought job before begun gs y e lawful.0 h)) lawful.1))

-- what lawful frames have brought
pub brought : (job : Declared) (frames : List Frame) → AreLawfulGroups job frames → HasBrought job (members_announced frames) (begun_in frames) (groups_in frames)
brought job frames lawful =
    all_brought job [] frames None [] refl (record { whole = tt; under_way = tt; counted = omega arith; few = omega arith }) lawful

-- ---- such a group can be answered

short_delays : (window : ℕ) (members : List Summary) → window ≤ hour → InStampOrder members
    → AllByRecursion (λ (m : Summary). m.at.time ≤ (first_member members).at.time + window) members → All (λ (d : Delay). d.time ≤ hour) (delays members)
short_delays window [] less ordered within = λ k d lt. absurd (omega arith)
short_delays window (first ∷ others) less ordered within =
    All-weaker (λ (d : Delay). d.time ≤ window) (λ (d : Delay). d.time ≤ hour) (λ d h. omega (arith, h, less)) (delays (first ∷ others))
    (within_window window first others ordered within)

of_job : (job : Declared) (members : List Summary) → AllByRecursion (IsSound job) members → AllByRecursion (IsSummaryOf job) members
of_job job [] h = tt
of_job job (m ∷ ms) h = ((h.0.0.capture, h.0.1), of_job job ms h.1)

pub whole_answerable : (job : Declared) (x : Copies) → IsLawful job → IsWhole job x → IsAnswerable job x
whole_answerable job x lawful h = record {
  some = h.filled;
  ordered = h.ordered;
  of_job = All-from_recursion (IsSummaryOf job) x.members (of_job job x.members h.sound);
  short = short_delays job.window x.members lawful.window h.ordered h.within;
}
