-- The rows of a pipeline by the numbers of their links.
use Rattle.std.proofs.Common.{ℕ, List, [], ◌++◌, ◌≡◌, ◌<◌, ◌+◌, ◌-◌, ◌*◌, All, length, get_or, refl, sym, ap, ◌∙◌, subst, arith}
use Rattle.std.proofs.lemmas.Nat.{mul-add-lt}
use Rattle.std.proofs.lemmas.List.{length-append, get_or_append_left, get_or-append_right, get_or-map}
use Rattle.std.proofs.lemmas.List.Elements.{All-from_recursion}
use Rattle.std.proofs.lemmas.List.FromFn.{length-map-range_with_len, get_or-map-range_with_len}
use Rattle.credit_link.specs.Ends.{TxSeen, RxSeen}
use Rattle.credit_link.specs.Frames.{capped}
use Rattle.credit_link.specs.declared.row.LinkRow.{LinkRow}
use Rattle.shuffle_poll.specs.Shuffles.{row_of}
use Rattle.net_law.specs.Parsers.{ParserSeen}
use Rattle.net_law.specs.Groupers.{GrouperSeen}
use Rattle.net_law.specs.Processors.{ProcessorSeen}
use Rattle.net_law.specs.Ends.{tx_at, rx_at}
use Rattle.net_law.specs.Nets.{Net, EachPair, parser_at, grouper_at, processor_at, no_parser, no_grouper, no_processor}
use Rattle.net_law.proofs.Ends.{given_is}
use Rattle.pipeline_law.specs.Rows.{row_between, rows_out, rows_across, rows_into, rows_of, ends_at, AreNumbered}
use Rattle.pipeline_law.specs.RowLaws.{RowsAreNumbered}
use Rattle.pipeline_law.proofs.Listed.{flat_long, flat_at, all_mapped, all_flat, all_behind}

-- ---- how many

pub across_long : (senders : ℕ) (outs : ℕ → List TxSeen) (receivers : ℕ) (ins : ℕ → List RxSeen) (from to : ℕ) → length (rows_across senders outs receivers ins from to) ≡ senders * receivers
across_long senders outs receivers ins from to =
    flat_long (λ i. rows_out (outs i) i receivers ins (from + i) to) receivers 0 senders (λ i. length-map-range_with_len (λ j. row_between (outs i) j (ins j) i (from + i) (to + j)) 0 receivers)

pub into_long : (senders : ℕ) (outs : ℕ → List TxSeen) (k : ℕ) (ins : List RxSeen) (first from to : ℕ) → length (rows_into senders outs k ins first from to) ≡ senders
into_long senders outs k ins first from to = length-map-range_with_len (λ i. row_between (outs i) k ins (first + i) (from + i) to) 0 senders

-- ---- over plain ends

module _ (P G Q : ℕ) (parser_outs : ℕ → List TxSeen) (grouper_ins : ℕ → List RxSeen) (grouper_outs : ℕ → List TxSeen) (processor_ins : ℕ → List RxSeen) (processor_outs : ℕ → List TxSeen) (merge_ins : List RxSeen) where
  abbrev pub items : List LinkRow
  items = rows_across P parser_outs G grouper_ins 0 P

  abbrev pub counts : List LinkRow
  counts = rows_into P parser_outs G merge_ins 0 0 (P + G + Q)

  abbrev pub groups : List LinkRow
  groups = rows_across G grouper_outs Q processor_ins P (P + G)

  abbrev pub answers : List LinkRow
  answers = rows_into Q processor_outs 0 merge_ins P (P + G) (P + G + Q)

  abbrev pub all : List LinkRow
  all = items ++ counts ++ groups ++ answers

  pub items_long : length items ≡ P * G
  items_long = across_long P parser_outs G grouper_ins 0 P

  pub counts_long : length counts ≡ P
  counts_long = into_long P parser_outs G merge_ins 0 0 (P + G + Q)

  pub groups_long : length groups ≡ G * Q
  groups_long = across_long G grouper_outs Q processor_ins P (P + G)

  pub answers_long : length answers ≡ Q
  answers_long = into_long Q processor_outs 0 merge_ins P (P + G) (P + G + Q)

  front_long : length (items ++ counts) ≡ P * G + P
  front_long = omega (arith, length-append items counts, items_long, counts_long)

  most_long : length (items ++ counts ++ groups) ≡ P * G + P + G * Q
  most_long = omega (arith, length-append (items ++ counts) groups, front_long, groups_long)

  pub all_long : length all ≡ P * G + P + G * Q + Q
  all_long = omega (arith, length-append (items ++ counts ++ groups) answers, most_long, answers_long)

  pub item_at : (p g : ℕ) (d : LinkRow) → p < P → g < G → get_or all (p * G + g) d ≡ row_between (parser_outs p) g (grouper_ins g) p p (P + g)
  item_at p g d hp hg =
      let k : ℕ = p * G + g in
      let within : k < P * G = omega (arith, mul-add-lt p G g P hp hg) in
      get_or_append_left (items ++ counts ++ groups) answers d k (omega (arith, within, most_long))
      ∙ get_or_append_left (items ++ counts) groups d k (omega (arith, within, front_long))
      ∙ get_or_append_left items counts d k (omega (arith, within, items_long))
      ∙ flat_at (λ i. rows_out (parser_outs i) i G grouper_ins (0 + i) P) G 0 P p p g k d (λ i. length-map-range_with_len (λ j. row_between (parser_outs i) j (grouper_ins j) i (0 + i) (P + j)) 0 G) hp hg (omega arith) refl
      ∙ get_or-map-range_with_len (λ j. row_between (parser_outs p) j (grouper_ins j) p (0 + p) (P + j)) 0 G g g d hg (omega arith)
      ∙ ap (λ n. row_between (parser_outs p) g (grouper_ins g) p n (P + g)) (omega arith)

  pub count_at : (p : ℕ) (d : LinkRow) → p < P → get_or all (P * G + p) d ≡ row_between (parser_outs p) G merge_ins p p (P + G + Q)
  count_at p d hp =
      let k : ℕ = P * G + p in
      let rest : k - P * G ≡ p = omega arith in
      get_or_append_left (items ++ counts ++ groups) answers d k (omega (arith, hp, most_long))
      ∙ get_or_append_left (items ++ counts) groups d k (omega (arith, hp, front_long))
      ∙ get_or-append_right items counts (P * G) k d items_long (omega arith)
      ∙ ap (λ n. get_or counts n d) rest
      ∙ get_or-map-range_with_len (λ i. row_between (parser_outs i) G merge_ins (0 + i) (0 + i) (P + G + Q)) 0 P p p d hp (omega arith)
      ∙ ap (λ n. row_between (parser_outs p) G merge_ins n n (P + G + Q)) (omega arith)

  pub group_at : (g q : ℕ) (d : LinkRow) → g < G → q < Q → get_or all (P * G + P + (g * Q + q)) d ≡ row_between (grouper_outs g) q (processor_ins q) g (P + g) (P + G + q)
  group_at g q d hg hq =
      let k : ℕ = P * G + P + (g * Q + q) in
      let within : g * Q + q < G * Q = omega (arith, mul-add-lt g Q q G hg hq) in
      let rest : k - (P * G + P) ≡ g * Q + q = omega arith in
      get_or_append_left (items ++ counts ++ groups) answers d k (omega (arith, within, most_long))
      ∙ get_or-append_right (items ++ counts) groups (P * G + P) k d front_long (omega arith)
      ∙ flat_at (λ i. rows_out (grouper_outs i) i Q processor_ins (P + i) (P + G)) Q 0 G g g q (k - (P * G + P)) d
      (λ i. length-map-range_with_len (λ j. row_between (grouper_outs i) j (processor_ins j) i (P + i) (P + G + j)) 0 Q) hg hq (omega arith) rest
      ∙ get_or-map-range_with_len (λ j. row_between (grouper_outs g) j (processor_ins j) g (P + g) (P + G + j)) 0 Q q q d hq (omega arith)

  pub answer_at : (q : ℕ) (d : LinkRow) → q < Q → get_or all (P * G + P + G * Q + q) d ≡ row_between (processor_outs q) 0 merge_ins (P + q) (P + G + q) (P + G + Q)
  answer_at q d hq =
      let k : ℕ = P * G + P + G * Q + q in
      let rest : k - (P * G + P + G * Q) ≡ q = omega arith in
      get_or-append_right (items ++ counts ++ groups) answers (P * G + P + G * Q) k d most_long (omega arith)
      ∙ ap (λ n. get_or answers n d) rest
      ∙ get_or-map-range_with_len (λ i. row_between (processor_outs i) 0 merge_ins (P + i) (P + G + i) (P + G + Q)) 0 Q q q d hq (omega arith)

  -- what is true of the row of each link
  pub of_each : (R : LinkRow → Type 0)
      → ((p g from to : ℕ) → p < P → g < G → R (row_between (parser_outs p) g (grouper_ins g) p from to))
      → ((p from to : ℕ) → p < P → R (row_between (parser_outs p) G merge_ins p from to))
      → ((g q from to : ℕ) → g < G → q < Q → R (row_between (grouper_outs g) q (processor_ins q) g from to))
      → ((q from to : ℕ) → q < Q → R (row_between (processor_outs q) 0 merge_ins (P + q) from to)) → All R all
  of_each R item count group answer =
      All-from_recursion R all
      (all_behind R (items ++ counts ++ groups) answers
      (all_behind R (items ++ counts) groups
      (all_behind R items counts
      (all_flat R (λ i j. row_between (parser_outs i) j (grouper_ins j) i (0 + i) (P + j)) P G (λ i j hi hj. item i j (0 + i) (P + j) hi hj))
      (all_mapped R (λ i. row_between (parser_outs i) G merge_ins (0 + i) (0 + i) (P + G + Q)) P
      (λ i hi. subst (λ n. R (row_between (parser_outs i) G merge_ins n (0 + i) (P + G + Q))) (first i) (count i (0 + i) (P + G + Q) hi))))
      (all_flat R (λ i j. row_between (grouper_outs i) j (processor_ins j) i (P + i) (P + G + j)) G Q (λ i j hi hj. group i j (P + i) (P + G + j) hi hj)))
      (all_mapped R (λ i. row_between (processor_outs i) 0 merge_ins (P + i) (P + G + i) (P + G + Q)) Q (λ i hi. answer i (P + G + i) (P + G + Q) hi)))
    where
      first : (i : ℕ) → i ≡ 0 + i
      first i = omega arith

-- ---- over the nodes of a pipeline

module _ (net : Net) (parser_count : length net.parsers ≡ net.shape.parsers) (grouper_count : length net.groupers ≡ net.shape.groupers) (processor_count : length net.processors ≡ net.shape.processors) where
  pub parser_outs : (p : ℕ) → p < net.shape.parsers → ends_at (λ (s : ParserSeen). s.outs.links) net.parsers p ≡ (parser_at net p).outs.links
  parser_outs p less = get_or-map (λ (s : ParserSeen). s.outs.links) net.parsers p (no_parser net.job) [] (omega (arith, less, parser_count))

  pub grouper_ins : (g : ℕ) → g < net.shape.groupers → ends_at (λ (s : GrouperSeen). s.ins) net.groupers g ≡ (grouper_at net g).ins
  grouper_ins g less = get_or-map (λ (s : GrouperSeen). s.ins) net.groupers g (no_grouper net.job) [] (omega (arith, less, grouper_count))

  pub grouper_outs : (g : ℕ) → g < net.shape.groupers → ends_at (λ (s : GrouperSeen). s.outs.links) net.groupers g ≡ (grouper_at net g).outs.links
  grouper_outs g less = get_or-map (λ (s : GrouperSeen). s.outs.links) net.groupers g (no_grouper net.job) [] (omega (arith, less, grouper_count))

  pub processor_ins : (q : ℕ) → q < net.shape.processors → ends_at (λ (s : ProcessorSeen). s.ins) net.processors q ≡ (processor_at net q).ins
  processor_ins q less = get_or-map (λ (s : ProcessorSeen). s.ins) net.processors q (no_processor net.job) [] (omega (arith, less, processor_count))

  pub processor_outs : (q : ℕ) → q < net.shape.processors → ends_at (λ (s : ProcessorSeen). s.outs.links) net.processors q ≡ (processor_at net q).outs.links
  processor_outs q less = get_or-map (λ (s : ProcessorSeen). s.outs.links) net.processors q (no_processor net.job) [] (omega (arith, less, processor_count))

  abbrev every : ℕ → ℕ → ℕ → List LinkRow
  every P G Q =
      all P G Q (ends_at (λ (s : ParserSeen). s.outs.links) net.parsers) (ends_at (λ (s : GrouperSeen). s.ins) net.groupers) (ends_at (λ (s : GrouperSeen). s.outs.links) net.groupers)
      (ends_at (λ (s : ProcessorSeen). s.ins) net.processors) (ends_at (λ (s : ProcessorSeen). s.outs.links) net.processors) net.merge.ins

  -- the rows by the numbers of the shape
  by_shape : (R : List LinkRow → Type 0) → R (every net.shape.parsers net.shape.groupers net.shape.processors) → R (rows_of net)
  by_shape R h =
      subst (λ P. R (every P (length net.groupers) (length net.processors))) (sym parser_count)
      (subst (λ G. R (every net.shape.parsers G (length net.processors))) (sym grouper_count)
      (subst (λ Q. R (every net.shape.parsers net.shape.groupers Q)) (sym processor_count) h))

  abbrev P : ℕ
  P = net.shape.parsers

  abbrev G : ℕ
  G = net.shape.groupers

  abbrev Q : ℕ
  Q = net.shape.processors

  abbrev po : ℕ → List TxSeen
  po = ends_at (λ (s : ParserSeen). s.outs.links) net.parsers

  abbrev gi : ℕ → List RxSeen
  gi = ends_at (λ (s : GrouperSeen). s.ins) net.groupers

  abbrev go : ℕ → List TxSeen
  go = ends_at (λ (s : GrouperSeen). s.outs.links) net.groupers

  abbrev qi : ℕ → List RxSeen
  qi = ends_at (λ (s : ProcessorSeen). s.ins) net.processors

  abbrev qo : ℕ → List TxSeen
  qo = ends_at (λ (s : ProcessorSeen). s.outs.links) net.processors

  pub numbered : AreNumbered net (rows_of net)
  numbered = by_shape (AreNumbered net) (record {
    count = all_long P G Q po gi go qi qo net.merge.ins;
    to_grouper = λ p g d hp hg.
        item_at P G Q po gi go qi qo net.merge.ins p g d hp hg
        ∙ ap (λ l. row_between l g (gi g) p p (P + g)) (parser_outs p hp)
        ∙ ap (λ l. row_between (parser_at net p).outs.links g l p p (P + g)) (grouper_ins g hg);
    to_merge = λ p d hp. count_at P G Q po gi go qi qo net.merge.ins p d hp ∙ ap (λ l. row_between l G net.merge.ins p p (P + G + Q)) (parser_outs p hp);
    to_processor = λ g q d hg hq.
        group_at P G Q po gi go qi qo net.merge.ins g q d hg hq
        ∙ ap (λ l. row_between l q (qi q) g (P + g) (P + G + q)) (grouper_outs g hg)
        ∙ ap (λ l. row_between (grouper_at net g).outs.links q l g (P + g) (P + G + q)) (processor_ins q hq);
    from_processor = λ q d hq. answer_at P G Q po gi go qi qo net.merge.ins q d hq ∙ ap (λ l. row_between l 0 net.merge.ins (P + q) (P + G + q) (P + G + Q)) (processor_outs q hq);
  })

  -- what is true of the two ends of each link tells of its row
  pub of_pairs : (R : TxSeen → RxSeen → Type 0) (T : LinkRow → Type 0) → ((tx : TxSeen) (rx : RxSeen) (from to : ℕ) → R tx rx → T (row_of tx from to (capped (length rx.given)))) → EachPair R net
      → All T (rows_of net)
  of_pairs R T tells each =
      by_shape (All T)
      (of_each net.shape.parsers net.shape.groupers net.shape.processors (ends_at (λ (s : ParserSeen). s.outs.links) net.parsers) (ends_at (λ (s : GrouperSeen). s.ins) net.groupers)
      (ends_at (λ (s : GrouperSeen). s.outs.links) net.groupers) (ends_at (λ (s : ProcessorSeen). s.ins) net.processors) (ends_at (λ (s : ProcessorSeen). s.outs.links) net.processors) net.merge.ins T
      (λ p g from to hp hg. row (parser_at net p).outs.links g (grouper_at net g).ins p from to _ _ (parser_outs p hp) (grouper_ins g hg) (each.to_grouper p g hp hg))
      (λ p from to hp. row (parser_at net p).outs.links net.shape.groupers net.merge.ins p from to _ _ (parser_outs p hp) refl (each.to_merge p hp))
      (λ g q from to hg hq. row (grouper_at net g).outs.links q (processor_at net q).ins g from to _ _ (grouper_outs g hg) (processor_ins q hq) (each.to_processor g q hg hq))
      (λ q from to hq. row (processor_at net q).outs.links 0 net.merge.ins (net.shape.parsers + q) from to _ _ (processor_outs q hq) refl (each.from_processor q hq)))
    where
      row : (outs : List TxSeen) (k : ℕ) (ins : List RxSeen) (j from to : ℕ) (outs' : List TxSeen) (ins' : List RxSeen) → outs' ≡ outs → ins' ≡ ins → R (tx_at outs k) (rx_at ins j)
          → T (row_between outs' k ins' j from to)
      row outs k ins j from to outs' ins' same_outs same_ins h =
          subst (λ (l : List TxSeen). T (row_between l k ins' j from to)) (sym same_outs)
          (subst (λ (l : List RxSeen). T (row_between outs k l j from to)) (sym same_ins)
          (subst (λ frames. T (row_of (tx_at outs k) from to (capped (length frames)))) (sym (given_is ins j)) (tells (tx_at outs k) (rx_at ins j) from to h)))

pub rows_are_numbered : RowsAreNumbered
rows_are_numbered net now = numbered net now.parser_count now.grouper_count now.processor_count
