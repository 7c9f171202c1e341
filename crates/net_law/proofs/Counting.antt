-- The frames of each link are few enough for a u64, whatever faults were met.
use Rattle.std.proofs.Common.{ℕ, zero, suc, List, [], ◌∷◌, ◌≡◌, ◌<◌, ◌≤◌, ◌+◌, ◌*◌, ◌^◌, length, map, refl, sym, ap, subst, ◌∙◌, arith}
use Rattle.std.specs.Prelude.{slice_index_or}
use Rattle.std.specs.List.{sum_by}
use Rattle.node_frames.specs.declared.frame.Frame.{Frame}
use Rattle.credit_link.specs.Ends.{TxSeen, RxSeen}
use Rattle.credit_link.specs.Frames.{IsCounted}
use Rattle.shuffle_poll.specs.Shuffles.{ShuffleSeen}
use Rattle.summary_spec.specs.Declaration.{Declared}
use Rattle.round_law.specs.Links.{Sender, Receiver, new_sender, new_receiver}
use Rattle.round_law.specs.Rows.{frames_beside, taken_up}
use Rattle.round_law.specs.Measure.{parser_frames, grouper_frames, processor_frames, capture_records}
use Rattle.round_law.proofs.Bounds.{frames_fit}
use Rattle.round_law.proofs.Sums.{sum_within}
use Rattle.run_law.specs.Shapes.{IsFront}
use Rattle.node_lanes.specs.Ends.{senders_with, senders_of, receivers_of}
use Rattle.net_law.specs.Parsers as pn
use Rattle.net_law.specs.Groupers as gn
use Rattle.net_law.specs.Processors as qn
use Rattle.net_law.specs.Ends.{tx_at, rx_at}
use Rattle.net_law.specs.Nets.{Net, IsParserOf, IsGrouperOf, IsProcessorOf}

-- ---- the ends as a run sees them

pub senders_long : (links : List TxSeen) (queues : List (List Frame)) → length (senders_with links queues) ≡ length links
senders_long [] queues = refl
senders_long (l ∷ links) [] = ap suc (senders_long links [])
senders_long (l ∷ links) (q ∷ queues) = ap suc (senders_long links queues)

pub receivers_long : (ins : List RxSeen) → length (receivers_of ins) ≡ length ins
receivers_long [] = refl
receivers_long (r ∷ ins) = ap suc (receivers_long ins)

pub offered_at : (links : List TxSeen) (queues : List (List Frame)) (k : ℕ) → (slice_index_or (senders_with links queues) k new_sender).offered ≡ (tx_at links k).offered
offered_at [] queues k = refl
offered_at (l ∷ links) [] zero = refl
offered_at (l ∷ links) [] (suc k) = offered_at links [] k
offered_at (l ∷ links) (q ∷ queues) zero = refl
offered_at (l ∷ links) (q ∷ queues) (suc k) = offered_at links queues k

pub given_at : (ins : List RxSeen) (j : ℕ) → (slice_index_or (receivers_of ins) j (new_receiver 0)).given ≡ (rx_at ins j).given
given_at [] j = refl
given_at (r ∷ ins) zero = refl
given_at (r ∷ ins) (suc j) = given_at ins j

abbrev given_count : Receiver → ℕ
given_count r = length r.given

offers_at_most : (offered taken most beside : ℕ) → offered ≤ 2 * taken + beside → taken ≤ most → offered ≤ 2 * most + beside
offers_at_most offered taken most beside few within = omega arith

-- a node offers few frames on a link, where it has taken up few
offers : (outs : ShuffleSeen) (taken most k : ℕ) → ((i : ℕ) (d : Sender) → i < length (senders_of outs) → length (slice_index_or (senders_of outs) i d).offered ≤ 2 * taken + frames_beside)
    → taken ≤ most → k < length outs.links → length (tx_at outs.links k).offered ≤ 2 * most + frames_beside
offers outs taken most k few within less =
    let there : k < length (senders_of outs) = subst (λ (n : ℕ). k < n) (sym (senders_long outs.links outs.queues)) less in
    let one : length (tx_at outs.links k).offered ≤ 2 * taken + frames_beside =
    subst (λ (frames : List Frame). length frames ≤ 2 * taken + frames_beside) (offered_at outs.links outs.queues k) (few k new_sender there) in
    offers_at_most (length (tx_at outs.links k).offered) taken most frames_beside one within

-- what was given on links, each of which gave few
given_few : (ins : List RxSeen) (n most : ℕ) → length ins ≡ n → ((j : ℕ) → j < n → length (rx_at ins j).given ≤ most) → sum_by given_count (receivers_of ins) ≤ n * most
given_few ins n most long each =
    let count : length (receivers_of ins) ≡ n = receivers_long ins ∙ long in
    sum_within given_count (new_receiver 0) most n (receivers_of ins) count
    (λ j less. subst (λ (frames : List Frame). length frames ≤ most) (sym (given_at ins j)) (each j (subst (λ (m : ℕ). j < m) count less)))

below : (n most end : ℕ) → n ≤ most → most < end → n < end
below n most end within less = omega arith

fits : (n most : ℕ) → n ≤ most → most < 2 ^ 58 → n < 2 ^ 64
fits n most within less = omega arith

no_records : (records given most : ℕ) → records ≡ 0 → given ≤ most → records + given ≤ most
no_records records given most none within = omega arith

none_more : (records given most : ℕ) → records ≤ most → given ≡ 0 → records + given ≤ most
none_more records given most within none = omega arith

pub front_length : {X : Type 0} (xs ys : List X) → IsFront xs ys → length xs ≤ length ys
front_length xs ys front = let all : length ys ≡ length xs + length front.rest = ap length front.joined ∙ Rattle.std.proofs.Common.length-append xs front.rest in omega arith

module _ (net : Net) (captures : ℕ) (count : length net.job.captures ≡ captures) (few : captures ≤ 64) (few_parsers : net.shape.parsers ≤ 16) (few_groupers : net.shape.groupers ≤ 16) where
  all_fit : (parser_frames captures < 2 ^ 58) × (grouper_frames captures net.shape.parsers < 2 ^ 58) × (processor_frames captures net.shape.parsers net.shape.groupers < 2 ^ 58)
  all_fit = frames_fit captures net.shape.parsers net.shape.groupers few few_parsers few_groupers

  pub parser_offers : (p k : ℕ) (s : pn.ParserSeen) → IsParserOf net p s → k < length s.outs.links → length (tx_at s.outs.links k).offered ≤ parser_frames captures
  parser_offers p k s is less =
      let records : (pn.parser_view s).records ≤ length net.job.captures * capture_records =
      subst (λ (job : Declared). (pn.parser_view s).records ≤ length job.captures * capture_records) is.job is.stands.reads_few.records in
      let within : (pn.parser_view s).records ≤ captures * capture_records = subst (λ (n : ℕ). (pn.parser_view s).records ≤ n * capture_records) count records in
      offers s.outs (taken_up (pn.parser_view s)) (captures * capture_records) k is.stands.offers_few
      (none_more (pn.parser_view s).records (sum_by given_count (pn.parser_view s).ins) (captures * capture_records) within refl) less

  pub parser_counted : (p k : ℕ) (s : pn.ParserSeen) → IsParserOf net p s → k < length s.outs.links → IsCounted (tx_at s.outs.links k).offered
  parser_counted p k s is less = fits (length (tx_at s.outs.links k).offered) (parser_frames captures) (parser_offers p k s is less) all_fit.0

  pub grouper_offers : (g q : ℕ) (s : gn.GrouperSeen) → IsGrouperOf net g s → q < length s.outs.links
      → ((p : ℕ) → p < net.shape.parsers → length (rx_at s.ins p).given ≤ parser_frames captures)
      → length (tx_at s.outs.links q).offered ≤ grouper_frames captures net.shape.parsers
  grouper_offers g q s is less given =
      offers s.outs (taken_up (gn.grouper_view s)) (net.shape.parsers * parser_frames captures) q is.stands.offers_few
      (no_records (gn.grouper_view s).records (sum_by given_count (gn.grouper_view s).ins) (net.shape.parsers * parser_frames captures) refl
      (given_few s.ins net.shape.parsers (parser_frames captures) is.ins given)) less

  pub grouper_counted : (g q : ℕ) (s : gn.GrouperSeen) → IsGrouperOf net g s → q < length s.outs.links
      → ((p : ℕ) → p < net.shape.parsers → length (rx_at s.ins p).given ≤ parser_frames captures) → IsCounted (tx_at s.outs.links q).offered
  grouper_counted g q s is less given =
      fits (length (tx_at s.outs.links q).offered) (grouper_frames captures net.shape.parsers) (grouper_offers g q s is less given) all_fit.1

  pub processor_counted : (s : qn.ProcessorSeen) → IsProcessorOf net s
      → ((g : ℕ) → g < net.shape.groupers → length (rx_at s.ins g).given ≤ grouper_frames captures net.shape.parsers) → IsCounted (tx_at s.outs.links 0).offered
  processor_counted s is given =
      let one : length s.outs.links ≡ 1 = is.stands.one_out in
      let less : 0 < length s.outs.links = omega arith in
      fits (length (tx_at s.outs.links 0).offered) (processor_frames captures net.shape.parsers net.shape.groupers)
      (offers s.outs (taken_up (qn.processor_view s)) (net.shape.groupers * grouper_frames captures net.shape.parsers) 0 is.stands.offers_few
      (no_records (qn.processor_view s).records (sum_by given_count (qn.processor_view s).ins) (net.shape.groupers * grouper_frames captures net.shape.parsers) refl
      (given_few s.ins net.shape.groupers (grouper_frames captures net.shape.parsers) is.ins given)) less) all_fit.2
