-- How nodes go on: not at all, by a look at some ends, and by one step after another.
use Rattle.std.proofs.Common.{ℕ, suc, List, [], ◌∷◌, ◌++◌, ◌≡◌, ◌<◌, Option, None, Some, length, refl, sym, ap, ap₂, subst, ◌∙◌, arith}
use Rattle.std.specs.Prelude.{slice_index_or}
use Rattle.std.proofs.lemmas.List.{append-nil, get_or_default}
use Rattle.ds_base.specs.Outside.{SourceSeen, SourceStays}
use Rattle.node_frames.specs.declared.frame.Frame.{Frame}
use Rattle.credit_link.specs.Ends.{TxSeen, RxSeen}
use Rattle.credit_link.specs.declared.turn.NodeFault.{NodeFault}
use Rattle.shuffle_poll.specs.Shuffles.{ShuffleSeen}
use Rattle.run_law.specs.Nodes.{Reading}
use Rattle.run_law.specs.Shapes.{IsFront}
use Rattle.run_law.specs.Snapshot.{unread}
use Rattle.run_law.proofs.Lists.{front_self, front_trans}
use Rattle.node_lanes.specs.Ends.{put_on, puts_with, TxGoes, RxGoes, InsGo, OutsGo}
use Rattle.net_law.specs.Parsers.{ParserSeen, ParserGoes, ReadingGoes}
use Rattle.net_law.specs.Groupers.{GrouperSeen, GrouperGoes}
use Rattle.net_law.specs.Processors.{ProcessorSeen, ProcessorGoes}
use Rattle.net_law.specs.Merges.{MergeSeen, MergeGoes}
use Rattle.net_law.specs.Ends.{no_tx, no_rx, tx_at, rx_at}
use Rattle.net_law.specs.Steps.{TxLooked, RxLooked, InsLooked, OutsLooked, ParserLooked, GrouperLooked, ProcessorLooked, MergeLooked}

front_same : {X : Type 0} (xs ys : List X) → ys ≡ xs → IsFront xs ys
front_same xs ys e = record { rest = []; joined = e ∙ sym (append-nil xs) }

-- ---- one end

pub tx_stays : (l : TxSeen) → TxGoes l l
tx_stays l = record { credits = refl; names = (refl, refl); told = (refl, refl); offered = front_self l.offered }

pub tx_then : (a b c : TxSeen) → TxGoes a b → TxGoes b c → TxGoes a c
tx_then a b c f g = record {
  credits = g.credits ∙ f.credits;
  names = (g.names.0 ∙ f.names.0, g.names.1 ∙ f.names.1);
  told = (g.told.0 ∙ f.told.0, g.told.1 ∙ f.told.1);
  offered = front_trans a.offered b.offered c.offered f.offered g.offered;
}

pub tx_looked : (a b : TxSeen) → TxLooked a b → TxGoes a b
tx_looked a b look = record {
  credits = ap (λ (l : TxSeen). l.credits) look.same;
  names = (ap (λ (l : TxSeen). l.forth_name) look.same, ap (λ (l : TxSeen). l.back_name) look.same);
  told = (look.forth.told, look.back.told);
  offered = front_same a.offered b.offered (ap (λ (l : TxSeen). l.offered) look.same);
}

pub rx_stays : (l : RxSeen) → RxGoes l l
rx_stays l = record { credits = refl; names = (refl, refl); told = (refl, refl); given = front_self l.given }

pub rx_then : (a b c : RxSeen) → RxGoes a b → RxGoes b c → RxGoes a c
rx_then a b c f g = record {
  credits = g.credits ∙ f.credits;
  names = (g.names.0 ∙ f.names.0, g.names.1 ∙ f.names.1);
  told = (g.told.0 ∙ f.told.0, g.told.1 ∙ f.told.1);
  given = front_trans a.given b.given c.given f.given g.given;
}

pub rx_looked : (a b : RxSeen) → RxLooked a b → RxGoes a b
rx_looked a b look = record {
  credits = ap (λ (l : RxSeen). l.credits) look.same;
  names = (ap (λ (l : RxSeen). l.forth_name) look.same, ap (λ (l : RxSeen). l.back_name) look.same);
  told = (look.forth.told, look.back.told);
  given = front_same a.given b.given (ap (λ (l : RxSeen). l.given) look.same);
}

-- ---- the links in

pub ins_stay : (ins : List RxSeen) → InsGo ins ins
ins_stay ins = record { as_many = refl; each = λ j d less. rx_stays (slice_index_or ins j d) }

pub ins_then : (a b c : List RxSeen) → InsGo a b → InsGo b c → InsGo a c
ins_then a b c f g = record {
  as_many = g.as_many ∙ f.as_many;
  each = λ j d less.
      rx_then (slice_index_or a j d) (slice_index_or b j d) (slice_index_or c j d) (f.each j d less) (g.each j d (subst (λ (n : ℕ). j < n) (sym f.as_many) less));
}

pub ins_looked : (a b : List RxSeen) → InsLooked a b → InsGo a b
ins_looked a b look = record {
  as_many = look.as_many;
  each = λ j d less.
      subst (λ (r : RxSeen). RxGoes r (slice_index_or b j d)) (get_or_default a j no_rx d less)
      (subst (λ (r : RxSeen). RxGoes (rx_at a j) r) (get_or_default b j no_rx d (subst (λ (n : ℕ). j < n) (sym look.as_many) less))
      (rx_looked (rx_at a j) (rx_at b j) (look.each j)));
}

-- ---- the links out

puts_same : (a b : List TxSeen) (queues : List (List Frame)) → length b ≡ length a → ((k : ℕ) → (tx_at b k).offered ≡ (tx_at a k).offered)
    → puts_with b queues ≡ puts_with a queues
puts_same [] [] queues long each = refl
puts_same [] (y ∷ b) queues long each = absurd (omega arith)
puts_same (x ∷ a) [] queues long each = absurd (omega arith)
puts_same (x ∷ a) (y ∷ b) [] long each =
    ap₂ (λ (fs : List Frame) (rest : List (List Frame)). fs ∷ rest) (each 0) (puts_same a b [] (omega arith) (λ k. each (suc k)))
puts_same (x ∷ a) (y ∷ b) (q ∷ queues) long each =
    ap₂ (λ (fs : List Frame) (rest : List (List Frame)). (fs ++ q) ∷ rest) (each 0) (puts_same a b queues (omega arith) (λ k. each (suc k)))

pub outs_stay : (s : ShuffleSeen) → OutsGo s s
outs_stay s = record { as_many = refl; each = λ k d less. tx_stays (slice_index_or s.links k d); put = λ k. front_self (put_on s k) }

pub outs_then : (a b c : ShuffleSeen) → OutsGo a b → OutsGo b c → OutsGo a c
outs_then a b c f g = record {
  as_many = g.as_many ∙ f.as_many;
  each = λ k d less.
      tx_then (slice_index_or a.links k d) (slice_index_or b.links k d) (slice_index_or c.links k d)
      (f.each k d less) (g.each k d (subst (λ (n : ℕ). k < n) (sym f.as_many) less));
  put = λ k. front_trans (put_on a k) (put_on b k) (put_on c k) (f.put k) (g.put k);
}

pub outs_looked : (a b : ShuffleSeen) → OutsLooked a b → OutsGo a b
outs_looked a b look = record {
  as_many = look.as_many;
  each = λ k d less.
      subst (λ (l : TxSeen). TxGoes l (slice_index_or b.links k d)) (get_or_default a.links k no_tx d less)
      (subst (λ (l : TxSeen). TxGoes (tx_at a.links k) l) (get_or_default b.links k no_tx d (subst (λ (n : ℕ). k < n) (sym look.as_many) less))
      (tx_looked (tx_at a.links k) (tx_at b.links k) (look.each k)));
  put = λ k.
      front_same (put_on a k) (put_on b k)
      (ap (λ (puts : List (List Frame)). slice_index_or puts k [])
      (ap (puts_with b.links) look.queues ∙ puts_same a.links b.links a.queues look.as_many (λ i. ap (λ (l : TxSeen). l.offered) (look.each i).same)));
}

-- ---- parsers

reading_then : (a b c : Reading) → ReadingGoes a b → ReadingGoes b c → ReadingGoes a c
reading_then a b c f g = record {
  bytes = front_trans a.bytes b.bytes c.bytes f.bytes g.bytes;
  records = front_trans a.records b.records c.records f.records g.records;
  ended = λ e. let same : b ≡ a = f.ended e in g.ended (ap (λ (r : Reading). r.ended) same ∙ e) ∙ same;
}

source_then : (a b c : SourceSeen) → SourceStays a b → SourceStays b c → SourceStays a c
source_then a b c f g = record { told = g.told ∙ f.told; whole = λ told. g.whole (f.told ∙ told) ∙ f.whole told }

pub parser_stays : (s : ParserSeen) → ParserGoes s s
parser_stays s = record {
  same = (refl, refl, refl, refl);
  as_many = (refl, refl);
  sources = λ i d less. record { told = refl; whole = λ told. refl };
  reads = λ i less. record { bytes = front_self (slice_index_or s.reads i unread).bytes; records = front_self (slice_index_or s.reads i unread).records; ended = λ e. refl };
  outs = outs_stay s.outs;
  kept = λ bad e. e;
}

pub parser_then : (a b c : ParserSeen) → ParserGoes a b → ParserGoes b c → ParserGoes a c
parser_then a b c f g = record {
  same = (g.same.0 ∙ f.same.0, g.same.1 ∙ f.same.1, g.same.2 ∙ f.same.2, g.same.3 ∙ f.same.3);
  as_many = (g.as_many.0 ∙ f.as_many.0, g.as_many.1 ∙ f.as_many.1);
  sources = λ i d less.
      source_then (slice_index_or a.sources i d) (slice_index_or b.sources i d) (slice_index_or c.sources i d)
      (f.sources i d less) (g.sources i d (subst (λ (n : ℕ). i < n) (sym f.as_many.0) less));
  reads = λ i less.
      reading_then (slice_index_or a.reads i unread) (slice_index_or b.reads i unread) (slice_index_or c.reads i unread)
      (f.reads i less) (g.reads i (subst (λ (n : ℕ). i < n) (sym f.as_many.1) less));
  outs = outs_then a.outs b.outs c.outs f.outs g.outs;
  kept = λ bad e. g.kept bad (f.kept bad e);
}

pub parser_looked : (a b : ParserSeen) → ParserLooked a b → ParserGoes a b
parser_looked a b look =
    subst (λ (s : ParserSeen). ParserGoes a s) (sym look.same) (record {
      same = (refl, refl, refl, refl);
      as_many = (refl, refl);
      sources = (parser_stays a).sources;
      reads = (parser_stays a).reads;
      outs = outs_looked a.outs b.outs look.outs;
      kept = λ bad e. e;
    })

-- ---- groupers

pub grouper_stays : (s : GrouperSeen) → GrouperGoes s s
grouper_stays s = record { same = (refl, refl, refl, refl); ins = ins_stay s.ins; outs = outs_stay s.outs; kept = λ bad e. e }

pub grouper_then : (a b c : GrouperSeen) → GrouperGoes a b → GrouperGoes b c → GrouperGoes a c
grouper_then a b c f g = record {
  same = (g.same.0 ∙ f.same.0, g.same.1 ∙ f.same.1, g.same.2 ∙ f.same.2, g.same.3 ∙ f.same.3);
  ins = ins_then a.ins b.ins c.ins f.ins g.ins;
  outs = outs_then a.outs b.outs c.outs f.outs g.outs;
  kept = λ bad e. g.kept bad (f.kept bad e);
}

pub grouper_looked : (a b : GrouperSeen) → GrouperLooked a b → GrouperGoes a b
grouper_looked a b look =
    subst (λ (s : GrouperSeen). GrouperGoes a s) (sym look.same)
    (record { same = (refl, refl, refl, refl); ins = ins_looked a.ins b.ins look.ins; outs = outs_looked a.outs b.outs look.outs; kept = λ bad e. e })

-- ---- processors

pub processor_stays : (s : ProcessorSeen) → ProcessorGoes s s
processor_stays s = record { same = (refl, refl); ins = ins_stay s.ins; outs = outs_stay s.outs; kept = λ bad e. e }

pub processor_then : (a b c : ProcessorSeen) → ProcessorGoes a b → ProcessorGoes b c → ProcessorGoes a c
processor_then a b c f g = record {
  same = (g.same.0 ∙ f.same.0, g.same.1 ∙ f.same.1);
  ins = ins_then a.ins b.ins c.ins f.ins g.ins;
  outs = outs_then a.outs b.outs c.outs f.outs g.outs;
  kept = λ bad e. g.kept bad (f.kept bad e);
}

pub processor_looked : (a b : ProcessorSeen) → ProcessorLooked a b → ProcessorGoes a b
processor_looked a b look =
    subst (λ (s : ProcessorSeen). ProcessorGoes a s) (sym look.same)
    (record { same = (refl, refl); ins = ins_looked a.ins b.ins look.ins; outs = outs_looked a.outs b.outs look.outs; kept = λ bad e. e })

-- ---- the merge

pub none_before : (x y : Option NodeFault) → ((bad : NodeFault) → x ≡ Some bad → y ≡ Some bad) → y ≡ None → x ≡ None
none_before None y kept none = refl
none_before (Some bad) y kept none = let now : y ≡ Some bad = kept bad refl in absurd (cc)

pub merge_stays : (s : MergeSeen) → MergeGoes s s
merge_stays s = record {
  same = (refl, refl, refl);
  ins = ins_stay s.ins;
  sink = record { told = refl; label = refl };
  gained = front_self s.gained;
  written = λ told start e. e;
  calm = λ none. refl;
  kept = λ bad e. e;
}

pub merge_then : (a b c : MergeSeen) → MergeGoes a b → MergeGoes b c → MergeGoes a c
merge_then a b c f g = record {
  same = (g.same.0 ∙ f.same.0, g.same.1 ∙ f.same.1, g.same.2 ∙ f.same.2);
  ins = ins_then a.ins b.ins c.ins f.ins g.ins;
  sink = record { told = g.sink.told ∙ f.sink.told; label = g.sink.label ∙ f.sink.label };
  gained = front_trans a.gained b.gained c.gained f.gained g.gained;
  written = λ told start e. g.written (f.sink.told ∙ told) start (f.written told start e);
  calm = λ none. g.calm none ∙ f.calm (none_before b.fault c.fault g.kept none);
  kept = λ bad e. g.kept bad (f.kept bad e);
}

pub merge_looked : (a b : MergeSeen) → MergeLooked a b → MergeGoes a b
merge_looked a b look =
    subst (λ (s : MergeSeen). MergeGoes a s) (sym look.same) (record {
      same = (refl, refl, refl);
      ins = ins_looked a.ins b.ins look.ins;
      sink = record { told = refl; label = refl };
      gained = front_self a.gained;
      written = λ told start e. e;
      calm = λ none. refl;
      kept = λ bad e. e;
    })
