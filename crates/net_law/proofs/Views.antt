-- Nodes and their ends as the laws of rounds see them.
use Rattle.std.proofs.Common.{ℕ, zero, suc, List, [], ◌∷◌, ◌++◌, ◌≡◌, ◌<◌, None, length, map, refl, sym, ap, subst, ◌∙◌, arith}
use Rattle.std.specs.Prelude.{All, slice_index_or}
use Rattle.node_frames.specs.declared.frame.Frame.{Frame}
use Rattle.credit_link.specs.Ends.{TxSeen, RxSeen, TxStands, RxStands}
use Rattle.credit_link.specs.Frames.{IsCounted, FinishIsLast}
use Rattle.shuffle_poll.specs.Shuffles.{ShuffleSeen}
use Rattle.summary_spec.specs.Declaration.{Declared}
use Rattle.round_law.specs.Links.{Sender, Receiver, new_sender, new_receiver, IsSender, IsReceiver, IsGranted}
use Rattle.round_law.specs.Waits.{Node}
use Rattle.round_law.specs.Pipeline.{no_node}
use Rattle.round_law.specs.Views.{sender_view, receiver_view, TxTells, RxTells}
use Rattle.round_law.specs.Rows.{SenderIsLookedAt, ReceiverIsLookedAt, IsLookedAt}
use Rattle.round_law.proofs.Views.{tx_is_sender, rx_is_receiver, rx_is_granted, tx_looks, rx_looks}
use Rattle.run_law.specs.Shapes.{IsFront}
use Rattle.node_lanes.specs.Ends.{senders_with, senders_of, receivers_of}
use Rattle.net_law.specs.Parsers.{ParserSeen, parser_view}
use Rattle.net_law.specs.Groupers.{GrouperSeen, grouper_view}
use Rattle.net_law.specs.Processors.{ProcessorSeen, processor_view}
use Rattle.net_law.specs.Merges.{MergeSeen, merge_view}
use Rattle.net_law.specs.Ends.{tx_at, rx_at}
use Rattle.net_law.specs.Nets.{no_parser, no_grouper, no_processor}
use Rattle.net_law.specs.Steps.{InsLooked, OutsLooked, ParserLooked, GrouperLooked, ProcessorLooked, MergeLooked}
use Rattle.net_law.proofs.Counting.{senders_long, receivers_long}

-- ---- lists

pub long : {X Y : Type 0} (f : X → Y) (xs : List X) → length (map f xs) ≡ length xs
long f [] = refl
long f (x ∷ xs) = ap suc (long f xs)

abbrev pub queue_at : ShuffleSeen → ℕ → List Frame
queue_at outs k = slice_index_or outs.queues k []

sender_with : (links : List TxSeen) (queues : List (List Frame)) (k : ℕ) (d : Sender) → k < length links
    → slice_index_or (senders_with links queues) k d ≡ sender_view (length (slice_index_or queues k [])) (tx_at links k)
sender_with [] queues k d less = absurd (omega arith)
sender_with (l ∷ links) [] zero d less = refl
sender_with (l ∷ links) [] (suc k) d less = sender_with links [] k d (omega arith)
sender_with (l ∷ links) (q ∷ queues) zero d less = refl
sender_with (l ∷ links) (q ∷ queues) (suc k) d less = sender_with links queues k d (omega arith)

pub sender_is : (outs : ShuffleSeen) (k : ℕ) (d : Sender) → k < length outs.links → slice_index_or (senders_of outs) k d ≡ sender_view (length (queue_at outs k)) (tx_at outs.links k)
sender_is outs k d less = sender_with outs.links outs.queues k d less

pub receiver_is : (ins : List RxSeen) (j : ℕ) (d : Receiver) → j < length ins → slice_index_or (receivers_of ins) j d ≡ receiver_view (rx_at ins j)
receiver_is [] j d less = absurd (omega arith)
receiver_is (r ∷ ins) zero d less = refl
receiver_is (r ∷ ins) (suc j) d less = receiver_is ins j d (omega arith)

pub all_senders : (P : Sender → Type 0) (outs : ShuffleSeen) → ((k : ℕ) → k < length outs.links → P (sender_view (length (queue_at outs k)) (tx_at outs.links k))) → All P (senders_of outs)
all_senders P outs each k d less =
    let there : k < length outs.links = subst (λ (n : ℕ). k < n) (senders_long outs.links outs.queues) less in
    subst P (sym (sender_is outs k d there)) (each k there)

pub all_receivers : (P : Receiver → Type 0) (ins : List RxSeen) → ((j : ℕ) → j < length ins → P (receiver_view (rx_at ins j))) → All P (receivers_of ins)
all_receivers P ins each j d less =
    let there : j < length ins = subst (λ (n : ℕ). j < n) (receivers_long ins) less in
    subst P (sym (receiver_is ins j d there)) (each j there)

-- ---- nodes by their numbers

pub parser_view_at : (nodes : List ParserSeen) (job : Declared) (p : ℕ) → slice_index_or (map parser_view nodes) p no_node ≡ parser_view (slice_index_or nodes p (no_parser job))
parser_view_at [] job p = refl
parser_view_at (s ∷ nodes) job zero = refl
parser_view_at (s ∷ nodes) job (suc p) = parser_view_at nodes job p

pub grouper_view_at : (nodes : List GrouperSeen) (job : Declared) (g : ℕ) → slice_index_or (map grouper_view nodes) g no_node ≡ grouper_view (slice_index_or nodes g (no_grouper job))
grouper_view_at [] job g = refl
grouper_view_at (s ∷ nodes) job zero = refl
grouper_view_at (s ∷ nodes) job (suc g) = grouper_view_at nodes job g

pub processor_view_at : (nodes : List ProcessorSeen) (job : Declared) (q : ℕ) → slice_index_or (map processor_view nodes) q no_node ≡ processor_view (slice_index_or nodes q (no_processor job))
processor_view_at [] job q = refl
processor_view_at (s ∷ nodes) job zero = refl
processor_view_at (s ∷ nodes) job (suc q) = processor_view_at nodes job q

-- ---- good ends

pub record TxGood (number : ℕ) (l : TxSeen) : Type 0 where
  pub stands : TxStands l
  pub tells : TxTells l
  pub quiet : l.fault ≡ None
  pub credits : l.credits ≡ number

pub record RxGood (l : RxSeen) : Type 0 where
  pub stands : RxStands l
  pub tells : RxTells l
  pub granted : l.ungranted ≡ 0
  pub last : FinishIsLast l.given

module _ (number : ℕ) (ins : List RxSeen) (outs : ShuffleSeen) (into : (j : ℕ) → j < length ins → RxGood (rx_at ins j)) (out : (k : ℕ) → k < length outs.links → TxGood number (tx_at outs.links k)) where
  pub granted : All (λ (r : Receiver). IsCounted r.given → IsGranted r) (receivers_of ins)
  granted = all_receivers (λ (r : Receiver). IsCounted r.given → IsGranted r) ins (λ j less. let good = into j less in rx_is_granted (rx_at ins j) good.stands good.tells good.granted)

  pub taken : All (λ (r : Receiver). FinishIsLast r.given) (receivers_of ins)
  taken = all_receivers (λ (r : Receiver). FinishIsLast r.given) ins (λ j less. (into j less).last)

  pub offered : All (λ (s : Sender). FinishIsLast s.offered) (senders_of outs)
  offered = all_senders (λ (s : Sender). FinishIsLast s.offered) outs (λ k less. (out k less).stands.sender.last)

  pub senders : All (λ (s : Sender). IsCounted s.offered → IsSender number s) (senders_of outs)
  senders = all_senders (λ (s : Sender). IsCounted s.offered → IsSender number s) outs (λ k less counted.
      let good = out k less in
      subst (λ (n : ℕ). IsSender n (sender_view (length (queue_at outs k)) (tx_at outs.links k))) good.credits
      (tx_is_sender (length (queue_at outs k)) (tx_at outs.links k) good.stands good.tells good.quiet counted))

  pub receivers : All IsReceiver (receivers_of ins)
  receivers = all_receivers IsReceiver ins (λ j less. let good = into j less in rx_is_receiver (rx_at ins j) good.stands good.tells)

-- ---- fronts of frames whose end is last

none_left : (xs ys : List Frame) → xs ++ ys ≡ [] → xs ≡ []
none_left [] ys e = refl
none_left (x ∷ xs) ys e = absurd (let h = e in cc)

last_part : (xs ys : List Frame) → FinishIsLast (xs ++ ys) → FinishIsLast xs
last_part [] ys last = tt
last_part (x ∷ xs) ys last = (λ finish. none_left xs ys (last.0 finish), last_part xs ys last.1)

pub last_front : (xs ys : List Frame) → IsFront xs ys → FinishIsLast ys → FinishIsLast xs
last_front xs ys front last = last_part xs front.rest (subst FinishIsLast front.joined last)

-- ---- a look

senders_looked : (a b : ShuffleSeen) → OutsLooked a b → (k : ℕ) → k < length (senders_of a) → SenderIsLookedAt (slice_index_or (senders_of a) k new_sender) (slice_index_or (senders_of b) k new_sender)
senders_looked a b look k less =
    let there : k < length a.links = subst (λ (n : ℕ). k < n) (senders_long a.links a.queues) less in
    let later : k < length b.links = subst (λ (n : ℕ). k < n) (sym look.as_many) there in
    let one = look.each k in
    subst (λ (s : Sender). SenderIsLookedAt s (slice_index_or (senders_of b) k new_sender)) (sym (sender_is a k new_sender there))
    (subst (λ (s : Sender). SenderIsLookedAt (sender_view (length (queue_at a k)) (tx_at a.links k)) s) (sym (sender_is b k new_sender later))
    (subst (λ (queues : List (List Frame)). SenderIsLookedAt (sender_view (length (queue_at a k)) (tx_at a.links k)) (sender_view (length (slice_index_or queues k [])) (tx_at b.links k))) (sym look.queues)
    (tx_looks (length (queue_at a k)) (tx_at a.links k) (tx_at b.links k) one.same one.forth one.back)))

receivers_looked : (a b : List RxSeen) → InsLooked a b → (j : ℕ) → j < length (receivers_of a) → ReceiverIsLookedAt (slice_index_or (receivers_of a) j (new_receiver 0)) (slice_index_or (receivers_of b) j (new_receiver 0))
receivers_looked a b look j less =
    let there : j < length a = subst (λ (n : ℕ). j < n) (receivers_long a) less in
    let later : j < length b = subst (λ (n : ℕ). j < n) (sym look.as_many) there in
    let one = look.each j in
    subst (λ (r : Receiver). ReceiverIsLookedAt r (slice_index_or (receivers_of b) j (new_receiver 0))) (sym (receiver_is a j (new_receiver 0) there))
    (subst (λ (r : Receiver). ReceiverIsLookedAt (receiver_view (rx_at a j)) r) (sym (receiver_is b j (new_receiver 0) later))
    (rx_looks (rx_at a j) (rx_at b j) one.same one.forth one.back))

out_count : (a b : ShuffleSeen) → OutsLooked a b → length (senders_of b) ≡ length (senders_of a)
out_count a b look = senders_long b.links b.queues ∙ look.as_many ∙ sym (senders_long a.links a.queues)

in_count : (a b : List RxSeen) → InsLooked a b → length (receivers_of b) ≡ length (receivers_of a)
in_count a b look = receivers_long b ∙ look.as_many ∙ sym (receivers_long a)

pub parser_seen_to : (a b : ParserSeen) → ParserLooked a b → IsLookedAt (parser_view a) (parser_view b)
parser_seen_to a b look = record {
  read = ap (λ (s : ParserSeen). (parser_view s).read) look.same;
  records = ap (λ (s : ParserSeen). (parser_view s).records) look.same;
  wrote = refl;
  wrote_all = refl;
  in_count = refl;
  out_count = out_count a.outs b.outs look.outs;
  ins = λ j less. absurd (omega arith);
  outs = senders_looked a.outs b.outs look.outs;
}

pub grouper_seen_to : (a b : GrouperSeen) → GrouperLooked a b → IsLookedAt (grouper_view a) (grouper_view b)
grouper_seen_to a b look = record {
  read = refl;
  records = refl;
  wrote = refl;
  wrote_all = refl;
  in_count = in_count a.ins b.ins look.ins;
  out_count = out_count a.outs b.outs look.outs;
  ins = receivers_looked a.ins b.ins look.ins;
  outs = senders_looked a.outs b.outs look.outs;
}

pub processor_seen_to : (a b : ProcessorSeen) → ProcessorLooked a b → IsLookedAt (processor_view a) (processor_view b)
processor_seen_to a b look = record {
  read = refl;
  records = refl;
  wrote = refl;
  wrote_all = refl;
  in_count = in_count a.ins b.ins look.ins;
  out_count = out_count a.outs b.outs look.outs;
  ins = receivers_looked a.ins b.ins look.ins;
  outs = senders_looked a.outs b.outs look.outs;
}

pub merge_seen_to : (a b : MergeSeen) → MergeLooked a b → IsLookedAt (merge_view a) (merge_view b)
merge_seen_to a b look = record {
  read = refl;
  records = refl;
  wrote = ap (λ (s : MergeSeen). length s.gained) look.same;
  wrote_all = ap (λ (s : MergeSeen). s.wrote_all) look.same;
  in_count = in_count a.ins b.ins look.ins;
  out_count = refl;
  ins = receivers_looked a.ins b.ins look.ins;
  outs = λ k less. absurd (omega arith);
}

pub looked_self : (node : Node) → IsLookedAt node node
looked_self node = record {
  read = refl;
  records = refl;
  wrote = refl;
  wrote_all = refl;
  in_count = refl;
  out_count = refl;
  ins = λ j less. record { got = refl; given = refl; box = refl; paid = refl; owed = refl; got_silent = refl; paid_silent = refl };
  outs = λ k less. record { offered = refl; waiting = refl; put = refl; left = refl; held = refl; back = refl; put_silent = refl; back_silent = refl };
}
