-- New nodes stand.
use Rattle.std.proofs.Common.{ℕ, zero, suc, List, [], ◌∷◌, ◌≡◌, ◌<◌, ◌≤◌, ◌+◌, ◌*◌, true, false, None, length, replicate, refl, sym, ap, subst, ◌∙◌, arith, append-nil}
use Rattle.std.specs.Prelude.{All, slice_index_or}
use Rattle.std.specs.List.{sum_by}
use Rattle.std.proofs.Math.Path.{fun_ext}
use Rattle.std.proofs.lemmas.List.{length-replicate}
use Rattle.std.proofs.lemmas.List.Sums.{sum_by-cons}
use Rattle.ds_base.specs.Outside.{SourceSeen, IsFresh}
use Rattle.node_frames.specs.declared.frame.Frame.{Frame}
use Rattle.credit_link.specs.Ends.{TxSeen, RxSeen}
use Rattle.key_select.specs.Late.{greatest_time}
use Rattle.key_select.specs.Wanted.{good_of}
use Rattle.summary_spec.specs.Declaration.{Declared}
use Rattle.round_law.specs.Links.{Sender, ring_bytes}
use Rattle.round_law.specs.Rows.{frames_beside, taken_up}
use Rattle.run_law.specs.Links.{AreLawful, ItemRule, CountsRule, GroupRule, AnswerRule}
use Rattle.run_law.specs.Nodes.{Reading, ParserKeeps, ParserMarks, GrouperKeeps, ProcessorKeeps, but_last, groups_closed, lines_due}
use Rattle.run_law.specs.Shapes.{Shape, IsFront}
use Rattle.run_law.specs.Snapshot.{unread}
use Rattle.node_lanes.specs.Ends.{given_on, put_on, puts_with, senders_of, OutsStand, InsStand, OutsAreQuiet, InsAreQuiet}
use Rattle.net_law.specs.Parsers as pn
use Rattle.net_law.specs.Groupers as gn
use Rattle.net_law.specs.Processors as qn
use Rattle.net_law.specs.Merges as mn
use Rattle.net_law.specs.Ends.{no_tx, no_rx, tx_at}
use Rattle.net_law.specs.Starts.{IsNewRx, AreNewOuts, new_outs, new_parser, new_grouper, new_processor, new_merge, ParserStarts, GrouperStarts, ProcessorStarts, MergeStarts, NewLinksStart}
use Rattle.net_law.proofs.Views.{all_senders}

none_front : {X : Type 0} (xs : List X) → IsFront [] xs
none_front xs = record { rest = xs; joined = refl }

abbrev nothing : ℕ → List Frame
nothing i = []

-- ---- lists of equal items

same_items : {X : Type 0} (n i : ℕ) (x : X) → slice_index_or (replicate n x) i x ≡ x
same_items zero i x = refl
same_items (suc n) zero x = refl
same_items (suc n) (suc i) x = same_items n i x

sum_of_zeros : {X : Type 0} (f : X → ℕ) (x : X) (n : ℕ) → f x ≡ 0 → sum_by f (replicate n x) ≡ 0
sum_of_zeros f x zero none = refl
sum_of_zeros f x (suc n) none = let rest : sum_by f (replicate n x) ≡ 0 = sum_of_zeros f x n none in let all = sum_by-cons f x (replicate n x) in all ∙ omega arith

-- ---- links out

put_none : (links : List TxSeen) (n k : ℕ) → length links ≡ n → ((i : ℕ) → i < length links → (tx_at links i).offered ≡ []) → slice_index_or (puts_with links (replicate n [])) k [] ≡ []
put_none [] n k long each = refl
put_none (l ∷ links) zero k long each = absurd (omega arith)
put_none (l ∷ links) (suc n) zero long each = append-nil l.offered ∙ each 0 (omega arith)
put_none (l ∷ links) (suc n) (suc k) long each = put_none links n k (omega arith) (λ i less. each (suc i) (omega arith))

module _ (credits : ℕ) (links : List TxSeen) (are : AreNewOuts credits links) where
  nothing_put : put_on (new_outs links) ≡ nothing
  nothing_put = fun_ext (λ k. put_none links (length links) k refl (λ i less. (are.each i no_tx less).offered))

  outs_stand : OutsStand credits (new_outs links)
  outs_stand = record { holds = are.holds; credits = λ k d less. (are.each k d less).credits }

  outs_quiet : OutsAreQuiet (new_outs links)
  outs_quiet = λ k d less. (are.each k d less).fault

  none_offered : (most : ℕ) → All (λ (s : Sender). length s.offered ≤ most) (senders_of (new_outs links))
  none_offered most =
      all_senders (λ (s : Sender). length s.offered ≤ most) (new_outs links)
      (λ k less. subst (λ (frames : List Frame). length frames ≤ most) (sym (are.each k no_tx less).offered) (omega arith))

-- ---- links in

module _ (credits : ℕ) (ins : List RxSeen) (are : All (IsNewRx credits) ins) where
  none_given : (j : ℕ) → given_on ins j ≡ []
  none_given j = by_list ins j are
    where
      by_list : (rs : List RxSeen) (j : ℕ) → All (IsNewRx credits) rs → given_on rs j ≡ []
      by_list [] j each = refl
      by_list (r ∷ rs) zero each = (each 0 no_rx (omega arith)).given
      by_list (r ∷ rs) (suc j) each = by_list rs j (λ i d less. each (suc i) d (omega arith))

  nothing_given : given_on ins ≡ nothing
  nothing_given = fun_ext none_given

  ins_stand : InsStand credits ins
  ins_stand = record { stand = λ j d less. (are j d less).stands; credits = λ j d less. (are j d less).credits }

  ins_quiet : InsAreQuiet ins
  ins_quiet = record { quiet = λ j d less. (are j d less).fault; granted = λ j d less. (are j d less).ungranted }

  none_lawful : (Own : List Frame → Frame → Type 0) (j : ℕ) → AreLawful Own (given_on ins j)
  none_lawful Own j = subst (AreLawful Own) (sym (none_given j)) tt

-- ---- the promises of nothing

parser_keeps : (job : Declared) (shape : Shape) (p : ℕ) → ParserKeeps job shape p (λ c. unread) nothing []
parser_keeps job shape p = record {
  lawful = λ g less. tt;
  lawful_counts = tt;
  first = λ c own more. ((good_of job c more).records, refl);
  summaries = λ g c less own. refl;
  marks = λ g c mark less h. absurd h;
  ends = λ g c less h. absurd h;
  rows = λ c k h. absurd h;
}

parser_marks : (job : Declared) (shape : Shape) (p : ℕ) → ParserMarks job shape p (λ c. 0) (λ c. unread) nothing
parser_marks job shape p = record { within = λ c own. omega arith; few = λ c own. omega arith; last = λ g c less own on. refl }

grouper_keeps : (job : Declared) (shape : Shape) (g : ℕ) → GrouperKeeps job shape g nothing nothing
grouper_keeps job shape g = record {
  lawful = λ q less. tt;
  sent = [];
  closed = none_front (groups_closed job shape nothing);
  in_turn = λ q less. refl;
  marks = λ q mark least less h. absurd h;
  whole = λ q mark x less h. absurd h;
  finish = λ q less h. absurd h;
}

processor_keeps : (job : Declared) (shape : Shape) → ProcessorKeeps job shape nothing []
processor_keeps job shape = record {
  lawful = tt;
  arrived = [];
  of_groupers = tt;
  from_links = λ g less. refl;
  answers = none_front [];
  marks = λ mark least h. absurd h;
  answered = λ mark x h. absurd h;
  profile = λ row h. absurd h;
  profile_front = λ rows e h. none_front rows;
  finish = λ h. absurd h;
}

-- ---- parsers

module _ (job : Declared) (me parsers credits : ℕ) (sources : List SourceSeen) (links : List TxSeen) where
  abbrev s : pn.ParserSeen
  s = new_parser job me parsers credits sources links

  none_read : pn.read_of s ≡ (λ (c : ℕ). unread)
  none_read = fun_ext (λ c. same_items (length sources) (pn.place_of s c) unread)

  none_behind : pn.behind_of s ≡ (λ (c : ℕ). 0)
  none_behind = fun_ext (λ c. same_items (length sources) (pn.place_of s c) 0)

  new_is_even : pn.IsEven s
  new_is_even c d own other on =
      subst (λ (r : Reading). pn.IsBehind (greatest_time job c (but_last 1 r.records)) (greatest_time job d (pn.read_of s d).records)) (sym (same_items (length sources) (pn.place_of s c) unread))
      (pn.FromNone (greatest_time job d (pn.read_of s d).records))

  fresh_read : (source : SourceSeen) → IsFresh source → pn.IsReadOf None source unread
  fresh_read source fresh = record {
    front = λ told. none_front source.whole;
    left = λ told none. sym (fresh.left told);
    whole = λ told ended. absurd (let e : false ≡ true = ended in cc);
  }

pub parser_starts : ParserStarts
parser_starts job me parsers credits sources links lawful place few least most fresh own outs = record {
  job_is = lawful;
  place = (place, few);
  groupers = (least, most);
  captures = λ c mine. subst (λ (n : ℕ). pn.place_of (new_parser job me parsers credits sources links) c < n) (sym (length-replicate (length sources) unread)) (own.captures c mine);
  own = λ i less. own.own i (subst (λ (n : ℕ). i < n) (length-replicate (length sources) unread) less);
  lengths = (sym (length-replicate (length sources) unread), length-replicate (length sources) 0 ∙ sym (length-replicate (length sources) unread), length-replicate (length sources) 0 ∙ sym (length-replicate (length sources) unread));
  outs = outs_stand credits links outs;
  keeps = λ processors. keeps processors;
  marks = λ processors. marks processors;
  even = new_is_even job me parsers credits sources links;
  read = λ i d less.
      subst (λ (r : Reading). pn.IsReadOf None (slice_index_or sources i d) r) (sym (same_items (length sources) i unread))
      (fresh_read job me parsers credits sources links (slice_index_or sources i d) (fresh i d less));
  held = λ i. subst (λ (n : ℕ). n ≤ 16781311) (sym (same_items (length sources) i 0)) (omega arith);
  reads_few = record {
    read = subst (λ (n : ℕ). n ≤ length job.captures * (Rattle.round_law.specs.Measure.capture_bytes + Rattle.round_law.specs.Measure.piece_bytes)) (sym (sum_of_zeros (λ (r : Reading). length r.bytes) unread (length sources) refl)) (omega arith);
    records = subst (λ (n : ℕ). n ≤ length job.captures * Rattle.round_law.specs.Measure.capture_records) (sym (sum_of_zeros (λ (r : Reading). length r.records) unread (length sources) refl)) (omega arith);
  };
  offers_few = none_offered credits links outs (2 * taken_up (pn.parser_view (new_parser job me parsers credits sources links)) + frames_beside);
  quiet = λ none. ((λ i d less. (fresh i d less).faults), outs_quiet credits links outs);
}
  where
    keeps : (processors : ℕ)
        → ParserKeeps job (pn.shape_with (new_parser job me parsers credits sources links) processors) me (pn.read_of (new_parser job me parsers credits sources links)) (put_on (new_outs links))
        (put_on (new_outs links) (pn.groupers_of (new_parser job me parsers credits sources links)))
    keeps processors =
        subst (λ (put : ℕ → List Frame). ParserKeeps job (pn.shape_with (new_parser job me parsers credits sources links) processors) me (pn.read_of (new_parser job me parsers credits sources links)) put
        (put (pn.groupers_of (new_parser job me parsers credits sources links)))) (sym (nothing_put credits links outs))
        (subst (λ (read : ℕ → Reading). ParserKeeps job (pn.shape_with (new_parser job me parsers credits sources links) processors) me read nothing []) (sym (none_read job me parsers credits sources links))
        (parser_keeps job (pn.shape_with (new_parser job me parsers credits sources links) processors) me))

    marks : (processors : ℕ)
        → ParserMarks job (pn.shape_with (new_parser job me parsers credits sources links) processors) me (pn.behind_of (new_parser job me parsers credits sources links))
        (pn.read_of (new_parser job me parsers credits sources links)) (put_on (new_outs links))
    marks processors =
        subst (λ (put : ℕ → List Frame). ParserMarks job (pn.shape_with (new_parser job me parsers credits sources links) processors) me (pn.behind_of (new_parser job me parsers credits sources links))
        (pn.read_of (new_parser job me parsers credits sources links)) put) (sym (nothing_put credits links outs))
        (subst (λ (read : ℕ → Reading). ParserMarks job (pn.shape_with (new_parser job me parsers credits sources links) processors) me (pn.behind_of (new_parser job me parsers credits sources links)) read nothing)
        (sym (none_read job me parsers credits sources links))
        (subst (λ (behind : ℕ → ℕ). ParserMarks job (pn.shape_with (new_parser job me parsers credits sources links) processors) me behind (λ c. unread) nothing) (sym (none_behind job me parsers credits sources links))
        (parser_marks job (pn.shape_with (new_parser job me parsers credits sources links) processors) me)))

-- ---- groupers, processors and the merge

pub grouper_starts : GrouperStarts
grouper_starts job me groupers credits ins links lawful place few least most outs_least outs_most into outs = record {
  job_is = lawful;
  place = (place, few);
  ins_few = (least, most);
  outs_few = (outs_least, outs_most);
  ins = ins_stand credits ins into;
  outs = outs_stand credits links outs;
  keeps = λ takes.
      subst (λ (put : ℕ → List Frame). GrouperKeeps job (gn.shape_of (new_grouper job me groupers credits ins links)) me (given_on ins) put) (sym (nothing_put credits links outs))
      (subst (λ (given : ℕ → List Frame). GrouperKeeps job (gn.shape_of (new_grouper job me groupers credits ins links)) me given nothing) (sym (nothing_given credits ins into))
      (grouper_keeps job (gn.shape_of (new_grouper job me groupers credits ins links)) me));
  lawful = λ none p less. none_lawful credits ins into (ItemRule job (gn.shape_of (new_grouper job me groupers credits ins links)) p me) p;
  offers_few = none_offered credits links outs (2 * taken_up (gn.grouper_view (new_grouper job me groupers credits ins links)) + frames_beside);
  quiet = λ none. (ins_quiet credits ins into, outs_quiet credits links outs);
}

pub processor_starts : ProcessorStarts
processor_starts job credits ins links lawful least most one into outs = record {
  job_is = lawful;
  ins_few = (least, most);
  one_out = one;
  ins = ins_stand credits ins into;
  outs = outs_stand credits links outs;
  keeps = λ takes parsers processors.
      subst (λ (put : ℕ → List Frame). ProcessorKeeps job (qn.shape_with (new_processor job credits ins links) parsers processors) (given_on ins) (put 0)) (sym (nothing_put credits links outs))
      (subst (λ (given : ℕ → List Frame). ProcessorKeeps job (qn.shape_with (new_processor job credits ins links) parsers processors) given []) (sym (nothing_given credits ins into))
      (processor_keeps job (qn.shape_with (new_processor job credits ins links) parsers processors)));
  lawful = λ none g less. none_lawful credits ins into (GroupRule job) g;
  offers_few = none_offered credits links outs (2 * taken_up (qn.processor_view (new_processor job credits ins links)) + frames_beside);
  quiet = λ none. (ins_quiet credits ins into, outs_quiet credits links outs);
}

pub merge_starts : MergeStarts
merge_starts job parsers credits ins sink lawful some few least most into = record {
  job_is = lawful;
  parsers = (some, few);
  processors = (least, most);
  ins = ins_stand credits ins into;
  keeps = λ takes groupers. record {
    gained = [];
    since = refl;
    due = λ ordered h. none_front (lines_due job (mn.shape_with (new_merge job parsers credits ins sink) groupers) (mn.counts_on (new_merge job parsers credits ins sink)) (mn.answers_on (new_merge job parsers credits ins sink)) ordered);
  };
  whole = λ takes all. absurd (let e : false ≡ true = all in cc);
  lawful = λ none. record {
    counts = λ groupers p less. none_lawful credits ins into (CountsRule job (mn.shape_with (new_merge job parsers credits ins sink) groupers) p) p;
    answers = λ q less. none_lawful credits ins into (AnswerRule job) (parsers + q);
  };
  quiet = λ none. ins_quiet credits ins into;
}

-- ---- links

pub new_links_start : NewLinksStart
unfolding ring_bytes
new_links_start number tx rx new stands = record {
  ends = record {
    one = new.one;
    data_places = new.data_places;
    credit_places = new.credit_places;
    told = (
      ap (λ (l : TxSeen). l.forth.told) new.sending,
      ap (λ (l : TxSeen). l.back.told) new.sending,
      ap (λ (l : RxSeen). l.forth.told) new.receiving,
      ap (λ (l : RxSeen). l.back.told) new.receiving,
    );
    front = subst (λ (frames : List Frame). IsFront frames tx.offered) (sym (ap (λ (l : RxSeen). l.given) new.receiving)) (none_front tx.offered);
  };
  sending = record { credits = ap (λ (l : TxSeen). l.credits) new.sending; offered = ap (λ (l : TxSeen). l.offered) new.sending; fault = ap (λ (l : TxSeen). l.fault) new.sending };
  receiving = record {
    stands = stands;
    credits = ap (λ (l : RxSeen). l.credits) new.receiving;
    given = ap (λ (l : RxSeen). l.given) new.receiving;
    ungranted = ap (λ (l : RxSeen). l.ungranted) new.receiving;
    fault = ap (λ (l : RxSeen). l.fault) new.receiving;
  };
}
