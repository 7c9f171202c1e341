-- How much can move in a run.
use Rattle.std.proofs.Common.{ℕ, ◌+◌, ◌-◌, ◌*◌, ◌^◌, ◌<◌, ◌≤◌, ◌≡◌, ◌++◌, List, [], ◌∷◌, length, refl, ap, subst, ◌∙◌, ⊎_elim, arith, lit<, length-append}
use Rattle.std.specs.List.{sum_by}
use Rattle.std.proofs.lemmas.Nat.{mul-le}
use Rattle.std.proofs.Math.Nat.{le_trans}
use Rattle.std.proofs.lemmas.List.{get_or_default}
use Rattle.std.specs.Prelude.{All}
use Rattle.std.proofs.lemmas.Bool.{cases_lt}
use Rattle.node_frames.specs.declared.frame.Frame.{Frame}
use Rattle.node_frames.specs.declared.wire.Wire.{Wire}
use Rattle.node_frames.specs.Fields.{bytes_of}
use Rattle.node_frames.specs.Table.{payload_of}
use Rattle.node_frames.specs.Link.{Opens, SpellsFrom, framed, wire_of}
use Rattle.node_frames.proofs.Bytes.{length-bytes_of}
use Rattle.round_law.specs.Links.{IsCounted, Sender, Receiver, new_sender, new_receiver, IsSender, IsReceiver, IsGranted, ComesThrough}
use Rattle.round_law.specs.Waits.{Node, in_at, out_at}
use Rattle.round_law.specs.Rows.{AreCounted, sent_by, taken_by, moved, taken_up, frames_beside}
use Rattle.round_law.specs.Pipeline.{Net, Place, no_node, parser_at, grouper_at, processor_at, node_of, IsIn, IsSound, EachLink}
use Rattle.round_law.specs.Pipeline.Place.{Parser, Grouper, Processor, Merge}
use Rattle.round_law.specs.Measure.{IsInLimits, capture_records, capture_bytes, piece_bytes, frame_bytes, parser_frames, grouper_frames, processor_frames, most_sent, most_taken, parser_most, grouper_most, processor_most, merge_most, most_moved, all_most, all_moved, IsLimited, HasBound, RunHasBound, FramesFit}
use Rattle.round_law.proofs.Ends.{Later, later_frames, given_within}
use Rattle.round_law.proofs.Sums.{sum_within, sum_of_none}

counts : (n most : ℕ) → n ≤ most → most < 2 ^ 64 → n < 2 ^ 64
counts n most within fit = omega arith

-- ---- one link

framed_short : (wire : Wire) (bytes after : List ℕ) → Opens wire bytes after → length bytes ≤ 1028 + length after
framed_short wire bytes after opens =
    let all : length bytes ≡ length (framed wire) + length after = ap length opens.joined ∙ length-append (framed wire) after in
    let four : length (framed wire) ≡ length (bytes_of 4 (length (payload_of wire))) + length (payload_of wire) = length-append (bytes_of 4 (length (payload_of wire))) (payload_of wire) in
    let word : length (bytes_of 4 (length (payload_of wire))) ≡ 4 = length-bytes_of 4 (length (payload_of wire)) in
    let short = opens.short in
    omega arith

bytes_within : (count : ℕ) (front : List ℕ) (frames : List Frame) (bytes rest : List ℕ) → SpellsFrom count front frames bytes rest
    → length bytes ≤ 1028 * length frames + length rest
bytes_within count front [] bytes rest h = let same : length bytes ≡ length rest = ap length h in omega arith
bytes_within count front (f ∷ fs) bytes rest (after, opens, later) =
    let more = bytes_within (count + 1) (front ++ framed (wire_of count front f)) fs after rest later in
    let first = framed_short (wire_of count front f) bytes after opens in
    omega arith

put_within : (credits : ℕ) (s : Sender) → IsSender credits s → length s.put ≤ 1028 * length s.offered
put_within credits s sends =
    let all : length (s.put ++ s.left) ≤ 1028 * length s.offered + 0 = bytes_within 0 [] s.offered (s.put ++ s.left) [] sends.spelled in
    let sum : length (s.put ++ s.left) ≡ length s.put + length s.left = length-append s.put s.left in
    omega arith

-- at a sender
sent_within : (credits : ℕ) (s : Sender) (frames : ℕ) → IsSender credits s → length s.offered ≤ frames → sent_by s ≤ (frame_bytes + 1) * frames
unfolding frame_bytes
sent_within credits s frames sends few =
    let put = put_within credits s sends in
    let counted = sends.counted in
    omega arith

-- at a receiver: the frames taken, and all that came and went
record Taken (r : Receiver) (frames : ℕ) : Type 0 where
  given : length r.given ≤ frames
  taken : taken_by r ≤ (frame_bytes + 2) * frames

taken_within : (credits : ℕ) (s : Sender) (r : Receiver) (frames : ℕ) → IsSender credits s → IsReceiver r → (IsCounted r.given → IsGranted r) → ComesThrough s r
    → length s.offered ≤ frames → frames < 2 ^ 64 → Taken r frames
unfolding frame_bytes
taken_within credits s r frames sends takes granted_if through few fit =
    let later : Later s r through.0 = later_frames credits s r through.0 sends takes through.1 in
    let given : length r.given ≤ length s.offered = given_within s r through.0 later in
    let counted : IsCounted r.given = counts (length r.given) frames (le_trans given few) fit in
    let granted : r.paid + r.owed ≡ length r.given = granted_if counted in
    let put = put_within credits s sends in
    let got : length s.put ≡ length r.got + length through.0 = ap length through.1 ∙ length-append r.got through.0 in
    record { given = omega arith; taken = omega arith }

-- ---- numbers

four_parts : (a b c d x y z : ℕ) → a ≤ x → b ≤ y → c ≤ z → d ≡ 0 → a + b + c + d ≤ x + y + z
four_parts a b c d x y z ha hb hc hd = omega arith

two_parts : (a b c d x y : ℕ) → a ≡ 0 → b ≡ 0 → c ≤ x → d ≤ y → a + b + c + d ≤ y + x
two_parts a b c d x y ha hb hc hd = omega arith

last_part : (a b c d y : ℕ) → a ≡ 0 → b ≡ 0 → c ≡ 0 → d ≤ y → a + b + c + d ≤ y
last_part a b c d y ha hb hc hd = omega arith

all_parts : (a b c d x y z w : ℕ) → a ≤ x → b ≤ y → c ≤ z → d ≤ w → a + b + c + d ≤ x + y + z + w
all_parts a b c d x y z w ha hb hc hd = omega arith

offers_at_most : (offered taken most beside : ℕ) → offered ≤ 2 * taken + beside → taken ≤ most → offered ≤ 2 * most + beside
offers_at_most offered taken most beside few within = omega arith

none_and : (records taken most : ℕ) → records ≡ 0 → taken ≤ most → records + taken ≤ most
none_and records taken most none within = omega arith

all_and_none : (records taken most : ℕ) → records ≤ most → taken ≡ 0 → records + taken ≤ most
all_and_none records taken most within none = omega arith

-- ---- the frames of a link fit

twice_and : (taken most : ℕ) → taken ≤ most → 2 * taken + frames_beside ≤ 2 * most + 4097
unfolding frames_beside
twice_and taken most within = omega arith

below : (n most end : ℕ) → n ≤ most → most < end → n < end
below n most end within less = omega arith

parser_fits : (captures : ℕ) → captures ≤ 64 → parser_frames captures ≤ 2 ^ 47 + 4097
unfolding capture_records
parser_fits captures few =
    let records : captures * 2 ^ 40 ≤ 64 * 2 ^ 40 = mul-le captures (2 ^ 40) 64 (2 ^ 40) few (omega arith) in
    let most : 2 * (captures * 2 ^ 40) + frames_beside ≤ 2 * (64 * 2 ^ 40) + 4097 = twice_and (captures * 2 ^ 40) (64 * 2 ^ 40) records in
    most

pub frames_fit : (captures parsers groupers : ℕ) → FramesFit captures parsers groupers
frames_fit captures parsers groupers few_captures few_parsers few_groupers =
    let first : parser_frames captures ≤ 2 ^ 47 + 4097 = parser_fits captures few_captures in
    let taken : parsers * parser_frames captures ≤ 16 * (2 ^ 47 + 4097) = mul-le parsers (parser_frames captures) 16 (2 ^ 47 + 4097) few_parsers first in
    let second : grouper_frames captures parsers ≤ 2 * (16 * (2 ^ 47 + 4097)) + 4097 = twice_and (parsers * parser_frames captures) (16 * (2 ^ 47 + 4097)) taken in
    let more : groupers * grouper_frames captures parsers ≤ 16 * (2 * (16 * (2 ^ 47 + 4097)) + 4097) =
    mul-le groupers (grouper_frames captures parsers) 16 (2 * (16 * (2 ^ 47 + 4097)) + 4097) few_groupers second in
    let third : processor_frames captures parsers groupers ≤ 2 * (16 * (2 * (16 * (2 ^ 47 + 4097)) + 4097)) + 4097 =
    twice_and (groupers * grouper_frames captures parsers) (16 * (2 * (16 * (2 ^ 47 + 4097)) + 4097)) more in (
      below (parser_frames captures) (2 ^ 47 + 4097) (2 ^ 58) first (lit< tt),
      below (grouper_frames captures parsers) (2 * (16 * (2 ^ 47 + 4097)) + 4097) (2 ^ 58) second (lit< tt),
      below (processor_frames captures parsers groupers) (2 * (16 * (2 * (16 * (2 ^ 47 + 4097)) + 4097)) + 4097) (2 ^ 58) third (lit< tt),
    )

-- ---- the nodes of a pipeline

abbrev given_count : Receiver → ℕ
given_count r = length r.given

module _ (captures credits : ℕ) (net : Net) (limits : IsInLimits captures net) (now : IsSound credits net) (through : EachLink ComesThrough net) (limited : IsLimited captures net) where
  fits : (parser_frames captures < 2 ^ 58) × (grouper_frames captures (length net.parsers) < 2 ^ 58) × (processor_frames captures (length net.parsers) (length net.groupers) < 2 ^ 58)
  fits = frames_fit captures (length net.parsers) (length net.groupers) limits.few_captures limits.parsers limits.groupers

  sender : (place : Place) → IsIn net place → (k frames : ℕ) → k < length (node_of net place).outs → length (out_at (node_of net place) k).offered ≤ frames → frames < 2 ^ 64
      → IsSender credits (out_at (node_of net place) k)
  sender place there k frames less few fit = (now.ends place there).senders k new_sender less (counts (length (out_at (node_of net place) k).offered) frames few fit)

  taken_at : (from : Place) (k : ℕ) (to : Place) (j frames : ℕ) → IsIn net from → IsIn net to → k < length (node_of net from).outs → j < length (node_of net to).ins
      → ComesThrough (out_at (node_of net from) k) (in_at (node_of net to) j) → length (out_at (node_of net from) k).offered ≤ frames → frames < 2 ^ 64
      → Taken (in_at (node_of net to) j) frames
  taken_at from k to j frames hf ht out into joined few fit =
      taken_within credits (out_at (node_of net from) k) (in_at (node_of net to) j) frames (sender from hf k frames out few fit)
      ((now.ends to ht).receivers j (new_receiver 0) into) ((now.orderly to ht).granted j (new_receiver 0) into) joined few fit

  parser_fit : parser_frames captures < 2 ^ 64
  parser_fit = let fit = fits.0 in omega arith

  grouper_fit : grouper_frames captures (length net.parsers) < 2 ^ 64
  grouper_fit = let fit = fits.1 in omega arith

  processor_fit : processor_frames captures (length net.parsers) (length net.groupers) < 2 ^ 64
  processor_fit = let fit = fits.2 in omega arith

  merge_fit : parser_frames captures + processor_frames captures (length net.parsers) (length net.groupers) < 2 ^ 64
  merge_fit = let first = fits.0 in let second = fits.2 in omega arith

  -- ---- what parsers offer

  parser_offers : (p k : ℕ) → p < length net.parsers → k < length (parser_at net p).outs → length (out_at (parser_at net p) k).offered ≤ parser_frames captures
  parser_offers p k there less =
      let node : Node = parser_at net p in
      let few = limited.few (Parser p) there k new_sender less in
      let none : sum_by given_count node.ins ≡ 0 = sum_of_none given_count (new_receiver 0) node.ins (now.shaped.parser_ins p there) in
      let taken : taken_up node ≤ captures * capture_records =
      all_and_none node.records (sum_by given_count node.ins) (captures * capture_records) (limited.parsers p there).records none in
      offers_at_most (length (out_at node k).offered) (taken_up node) (captures * capture_records) frames_beside few taken

  parser_link : (p k : ℕ) → p < length net.parsers → k < length net.groupers + 1 → k < length (parser_at net p).outs
  parser_link p k there less = let count = now.shaped.parser_outs p there in omega arith

  -- ---- what groupers take and offer

  grouper_takes : (g j : ℕ) → g < length net.groupers → j < length (grouper_at net g).ins → Taken (in_at (grouper_at net g) j) (parser_frames captures)
  grouper_takes g j there less =
      let count = now.shaped.grouper_ins g there in
      let from : j < length net.parsers = omega arith in
      let out : g < length (parser_at net j).outs = parser_link j g from (omega arith) in
      taken_at (Parser j) g (Grouper g) j (parser_frames captures) from there out less (through.to_grouper j g from there) (parser_offers j g from out) parser_fit

  grouper_offers : (g q : ℕ) → g < length net.groupers → q < length (grouper_at net g).outs
      → length (out_at (grouper_at net g) q).offered ≤ grouper_frames captures (length net.parsers)
  grouper_offers g q there less =
      let node : Node = grouper_at net g in
      let few = limited.few (Grouper g) there q new_sender less in
      let given : sum_by given_count node.ins ≤ length net.parsers * parser_frames captures =
      sum_within given_count (new_receiver 0) (parser_frames captures) (length net.parsers) node.ins (now.shaped.grouper_ins g there)
      (λ j within. (grouper_takes g j there within).given) in
      let taken : taken_up node ≤ length net.parsers * parser_frames captures =
      none_and node.records (sum_by given_count node.ins) (length net.parsers * parser_frames captures) (limited.groupers g there).records given in
      offers_at_most (length (out_at node q).offered) (taken_up node) (length net.parsers * parser_frames captures) frames_beside few taken

  -- ---- what processors take and offer

  processor_takes : (q j : ℕ) → q < length net.processors → j < length (processor_at net q).ins
      → Taken (in_at (processor_at net q) j) (grouper_frames captures (length net.parsers))
  processor_takes q j there less =
      let count = now.shaped.processor_ins q there in
      let from : j < length net.groupers = omega arith in
      let outs = now.shaped.grouper_outs j from in
      let out : q < length (grouper_at net j).outs = omega arith in
      taken_at (Grouper j) q (Processor q) j (grouper_frames captures (length net.parsers)) from there out less
      (through.to_processor j q from there) (grouper_offers j q from out) grouper_fit

  processor_offers : (q k : ℕ) → q < length net.processors → k < length (processor_at net q).outs
      → length (out_at (processor_at net q) k).offered ≤ processor_frames captures (length net.parsers) (length net.groupers)
  processor_offers q k there less =
      let node : Node = processor_at net q in
      let few = limited.few (Processor q) there k new_sender less in
      let given : sum_by given_count node.ins ≤ length net.groupers * grouper_frames captures (length net.parsers) =
      sum_within given_count (new_receiver 0) (grouper_frames captures (length net.parsers)) (length net.groupers) node.ins (now.shaped.processor_ins q there)
      (λ j within. (processor_takes q j there within).given) in
      let taken : taken_up node ≤ length net.groupers * grouper_frames captures (length net.parsers) =
      none_and node.records (sum_by given_count node.ins) (length net.groupers * grouper_frames captures (length net.parsers)) (limited.processors q there).records given in
      offers_at_most (length (out_at node k).offered) (taken_up node) (length net.groupers * grouper_frames captures (length net.parsers)) frames_beside few taken

  -- ---- what the merge takes

  merge_takes : (j : ℕ) → j < length net.merge.ins
      → Taken (in_at net.merge j) (parser_frames captures + processor_frames captures (length net.parsers) (length net.groupers))
  merge_takes j less =
      let count = now.shaped.merge_ins in
      ⊎_elim
      (λ (early : j < length net.parsers).
      let out : length net.groupers < length (parser_at net j).outs = parser_link j (length net.groupers) early (omega arith) in
      let few : length (out_at (parser_at net j) (length net.groupers)).offered ≤ parser_frames captures = parser_offers j (length net.groupers) early out in
      taken_at (Parser j) (length net.groupers) Merge j (parser_frames captures + processor_frames captures (length net.parsers) (length net.groupers)) early tt out less
      (through.to_merge j early) (omega arith) merge_fit)
      (λ (late : length net.parsers ≤ j).
      let within : j - length net.parsers < length net.processors = omega arith in
      let place : length net.parsers + (j - length net.parsers) ≡ j = omega arith in
      let outs = now.shaped.processor_outs (j - length net.parsers) within in
      let out : 0 < length (processor_at net (j - length net.parsers)).outs = omega arith in
      let few : length (out_at (processor_at net (j - length net.parsers)) 0).offered ≤ processor_frames captures (length net.parsers) (length net.groupers) =
      processor_offers (j - length net.parsers) 0 within out in
      let same : length net.parsers + (j - length net.parsers) < length net.merge.ins = omega arith in
      subst (λ (n : ℕ). Taken (in_at net.merge n) (parser_frames captures + processor_frames captures (length net.parsers) (length net.groupers))) place
      (taken_at (Processor (j - length net.parsers)) 0 Merge (length net.parsers + (j - length net.parsers))
      (parser_frames captures + processor_frames captures (length net.parsers) (length net.groupers)) within tt out same
      (through.from_processor (j - length net.parsers) within) (omega arith) merge_fit))
      (cases_lt j (length net.parsers))

  -- ---- what each node has moved

  sent_at : (place : Place) (frames count : ℕ) → IsIn net place → length (node_of net place).outs ≡ count
      → ((k : ℕ) → k < length (node_of net place).outs → length (out_at (node_of net place) k).offered ≤ frames) → frames < 2 ^ 64
      → sum_by sent_by (node_of net place).outs ≤ most_sent count frames
  sent_at place frames count there outs few fit =
      sum_within sent_by new_sender ((frame_bytes + 1) * frames) count (node_of net place).outs outs
      (λ k less. sent_within credits (out_at (node_of net place) k) frames (sender place there k frames less (few k less) fit) (few k less))

  took_at : (place : Place) (frames count : ℕ) → length (node_of net place).ins ≡ count
      → ((j : ℕ) → j < length (node_of net place).ins → Taken (in_at (node_of net place) j) frames)
      → sum_by taken_by (node_of net place).ins ≤ most_taken count frames
  took_at place frames count ins each =
      sum_within taken_by (new_receiver 0) ((frame_bytes + 2) * frames) count (node_of net place).ins ins (λ j less. (each j less).taken)

  parser_moved : (p : ℕ) → p < length net.parsers → moved (parser_at net p) ≤ parser_most captures (length net.groupers)
  parser_moved p there =
      let node : Node = parser_at net p in
      let reads = limited.parsers p there in
      four_parts node.read node.records (sum_by sent_by node.outs) (sum_by taken_by node.ins)
      (captures * (capture_bytes + piece_bytes)) (captures * capture_records) (most_sent (length net.groupers + 1) (parser_frames captures))
      reads.read reads.records
      (sent_at (Parser p) (parser_frames captures) (length net.groupers + 1) there (now.shaped.parser_outs p there) (λ k less. parser_offers p k there less) parser_fit)
      (sum_of_none taken_by (new_receiver 0) node.ins (now.shaped.parser_ins p there))

  grouper_moved : (g : ℕ) → g < length net.groupers → moved (grouper_at net g) ≤ grouper_most captures (length net.parsers) (length net.processors)
  grouper_moved g there =
      let node : Node = grouper_at net g in
      let reads = limited.groupers g there in
      two_parts node.read node.records (sum_by sent_by node.outs) (sum_by taken_by node.ins)
      (most_sent (length net.processors) (grouper_frames captures (length net.parsers))) (most_taken (length net.parsers) (parser_frames captures))
      reads.read reads.records
      (sent_at (Grouper g) (grouper_frames captures (length net.parsers)) (length net.processors) there (now.shaped.grouper_outs g there) (λ k less. grouper_offers g k there less) grouper_fit)
      (took_at (Grouper g) (parser_frames captures) (length net.parsers) (now.shaped.grouper_ins g there) (λ j less. grouper_takes g j there less))

  processor_moved : (q : ℕ) → q < length net.processors → moved (processor_at net q) ≤ processor_most captures (length net.parsers) (length net.groupers)
  processor_moved q there =
      let node : Node = processor_at net q in
      let reads = limited.processors q there in
      two_parts node.read node.records (sum_by sent_by node.outs) (sum_by taken_by node.ins)
      (most_sent 1 (processor_frames captures (length net.parsers) (length net.groupers)))
      (most_taken (length net.groupers) (grouper_frames captures (length net.parsers)))
      reads.read reads.records
      (sent_at (Processor q) (processor_frames captures (length net.parsers) (length net.groupers)) 1 there (now.shaped.processor_outs q there) (λ k less. processor_offers q k there less) processor_fit)
      (took_at (Processor q) (grouper_frames captures (length net.parsers)) (length net.groupers) (now.shaped.processor_ins q there) (λ j less. processor_takes q j there less))

  merge_moved : moved net.merge ≤ merge_most captures (length net.parsers) (length net.groupers) (length net.processors)
  merge_moved =
      let reads = limited.merge in
      last_part net.merge.read net.merge.records (sum_by sent_by net.merge.outs) (sum_by taken_by net.merge.ins)
      (merge_most captures (length net.parsers) (length net.groupers) (length net.processors))
      reads.read reads.records (sum_of_none sent_by new_sender net.merge.outs now.shaped.merge_outs)
      (took_at Merge (parser_frames captures + processor_frames captures (length net.parsers) (length net.groupers)) (length net.parsers + length net.processors)
      now.shaped.merge_ins merge_takes)

  all_within : all_moved net ≤ all_most captures net
  unfolding most_moved
  all_within =
      all_parts (sum_by moved net.parsers) (sum_by moved net.groupers) (sum_by moved net.processors) (moved net.merge)
      (length net.parsers * parser_most captures (length net.groupers))
      (length net.groupers * grouper_most captures (length net.parsers) (length net.processors))
      (length net.processors * processor_most captures (length net.parsers) (length net.groupers))
      (merge_most captures (length net.parsers) (length net.groupers) (length net.processors))
      (sum_within moved no_node (parser_most captures (length net.groupers)) (length net.parsers) net.parsers refl parser_moved)
      (sum_within moved no_node (grouper_most captures (length net.parsers) (length net.processors)) (length net.groupers) net.groupers refl grouper_moved)
      (sum_within moved no_node (processor_most captures (length net.parsers) (length net.groupers)) (length net.processors) net.processors refl processor_moved)
      merge_moved

  -- ---- all frames are counted

  offered_counted : (place : Place) (frames : ℕ) → ((k : ℕ) → k < length (node_of net place).outs → length (out_at (node_of net place) k).offered ≤ frames) → frames < 2 ^ 64
      → All (λ (s : Sender). IsCounted s.offered) (node_of net place).outs
  offered_counted place frames few fit k d less =
      subst (λ (s : Sender). IsCounted s.offered) (get_or_default (node_of net place).outs k new_sender d less)
      (counts (length (out_at (node_of net place) k).offered) frames (few k less) fit)

  given_counted : (place : Place) (frames : ℕ) → ((j : ℕ) → j < length (node_of net place).ins → Taken (in_at (node_of net place) j) frames) → frames < 2 ^ 64
      → All (λ (r : Receiver). IsCounted r.given) (node_of net place).ins
  given_counted place frames few fit j d less =
      subst (λ (r : Receiver). IsCounted r.given) (get_or_default (node_of net place).ins j (new_receiver 0) d less)
      (counts (length (in_at (node_of net place) j).given) frames (few j less).given fit)

  none_in : {X : Type 0} (P : X → Type 0) (xs : List X) → length xs ≡ 0 → All P xs
  none_in P xs none k d less = absurd (omega arith)

  are_counted : (place : Place) → IsIn net place → AreCounted (node_of net place)
  are_counted (Parser p) there = record {
    offered = offered_counted (Parser p) (parser_frames captures) (λ k less. parser_offers p k there less) parser_fit;
    given = none_in (λ (r : Receiver). IsCounted r.given) (parser_at net p).ins (now.shaped.parser_ins p there);
  }
  are_counted (Grouper g) there = record {
    offered = offered_counted (Grouper g) (grouper_frames captures (length net.parsers)) (λ k less. grouper_offers g k there less) grouper_fit;
    given = given_counted (Grouper g) (parser_frames captures) (λ j less. grouper_takes g j there less) parser_fit;
  }
  are_counted (Processor q) there = record {
    offered = offered_counted (Processor q) (processor_frames captures (length net.parsers) (length net.groupers)) (λ k less. processor_offers q k there less) processor_fit;
    given = given_counted (Processor q) (grouper_frames captures (length net.parsers)) (λ j less. processor_takes q j there less) grouper_fit;
  }
  are_counted Merge there = record {
    offered = none_in (λ (s : Sender). IsCounted s.offered) net.merge.outs now.shaped.merge_outs;
    given = given_counted Merge (parser_frames captures + processor_frames captures (length net.parsers) (length net.groupers)) merge_takes merge_fit;
  }

  has_bound : HasBound captures net
  has_bound = record {
    moved = all_within;
    parser_links = λ p k there less. parser_offers p k there (parser_link p k there less);
    grouper_links = λ g q there less. let count = now.shaped.grouper_outs g there in grouper_offers g q there (omega arith);
    processor_links = λ q there. let count = now.shaped.processor_outs q there in processor_offers q 0 there (omega arith);
    counted = are_counted;
  }

pub run_has_bound : (captures credits : ℕ) (net : Net) → RunHasBound captures credits net
run_has_bound captures credits net limits now through limited = has_bound captures credits net limits now through limited
