-- The rows of the four kinds of link, one behind another.
use Rattle.std.proofs.Common.{ℕ, List, [], ◌++◌, ◌≡◌, ◌≤◌, ◌+◌, ◌*◌, length, ap, ◌∙◌, subst, arith}
use Rattle.ds_base.specs.Items.{Items}
use Rattle.credit_link.specs.Ends.{TxSeen, RxSeen}
use Rattle.credit_link.specs.declared.row.LinkRow.{LinkRow}
use Rattle.net_law.specs.Parsers.{ParserSeen}
use Rattle.net_law.specs.Groupers.{GrouperSeen}
use Rattle.net_law.specs.Processors.{ProcessorSeen}
use Rattle.net_law.specs.Nets.{Net}
use Rattle.pipeline_law.specs.Rows.{ends_at, rows_across, rows_into, rows_of}
use Rattle.pipeline_law.proofs.Numbered.{across_long, into_long}
use Rattle.link_rows.specs.Reading.{PutsBehind}
use Rattle.link_rows.proofs.Behind.{put_more, rest_room}

module _ (net : Net) where
  abbrev P : ℕ
  P = length net.parsers

  abbrev G : ℕ
  G = length net.groupers

  abbrev Q : ℕ
  Q = length net.processors

  abbrev po : ℕ → List TxSeen
  po = ends_at (λ (s : ParserSeen). s.outs.links) net.parsers

  abbrev gi : ℕ → List RxSeen
  gi = ends_at (λ (s : GrouperSeen). s.ins) net.groupers

  abbrev go : ℕ → List TxSeen
  go = ends_at (λ (s : GrouperSeen). s.outs.links) net.groupers

  abbrev qi : ℕ → List RxSeen
  qi = ends_at (λ (s : ProcessorSeen). s.ins) net.processors

  abbrev qo : ℕ → List TxSeen
  qo = ends_at (λ (s : ProcessorSeen). s.outs.links) net.processors

  -- the room that is left for each kind
  module _ (room : Items LinkRow) (fits : P * G + P + G * Q + Q ≤ room.spare) where
    pub room_for_counts : (a : Items LinkRow) (from to : ℕ) → PutsBehind room a (rows_across P po G gi from to) → P + G * Q + Q ≤ a.spare
    room_for_counts a from to put = omega (arith, fits, rest_room room a (rows_across P po G gi from to) (P * G) put (across_long P po G gi from to))

    pub room_for_groups : (a b : Items LinkRow) (from to k first from' to' : ℕ) → PutsBehind room a (rows_across P po G gi from to) → PutsBehind a b (rows_into P po k net.merge.ins first from' to') → G * Q + Q ≤ b.spare
    room_for_groups a b from to k first from' to' put then =
        omega (arith, room_for_counts a from to put, rest_room a b (rows_into P po k net.merge.ins first from' to') P then (into_long P po k net.merge.ins first from' to'))

    pub room_for_answers : (a b c : Items LinkRow) (from to k first from' to' after at : ℕ) → PutsBehind room a (rows_across P po G gi from to) → PutsBehind a b (rows_into P po k net.merge.ins first from' to')
        → PutsBehind b c (rows_across G go Q qi after at) → Q ≤ c.spare
    room_for_answers a b c from to k first from' to' after at put then more =
        omega (arith, room_for_groups a b from to k first from' to' put then, rest_room b c (rows_across G go Q qi after at) (G * Q) more (across_long G go Q qi after at))

  pub four_kinds : (room a b c d : Items LinkRow) (k groupers processors merge : ℕ) → k ≡ G → groupers ≡ P → processors ≡ P + G → merge ≡ P + G + Q → room.items ≡ []
      → PutsBehind room a (rows_across P po G gi 0 groupers) → PutsBehind a b (rows_into P po k net.merge.ins 0 0 merge) → PutsBehind b c (rows_across G go Q qi groupers processors)
      → PutsBehind c d (rows_into Q qo 0 net.merge.ins groupers processors merge) → d.items ≡ rows_of net
  four_kinds room a b c d k groupers processors merge is_k is_g is_q is_m none items counts groups answers =
      let first : PutsBehind room a (rows_across P po G gi 0 P) = subst (λ n. PutsBehind room a (rows_across P po G gi 0 n)) is_g items in
      let second : PutsBehind a b (rows_into P po G net.merge.ins 0 0 (P + G + Q)) =
      subst (λ n. PutsBehind a b (rows_into P po G net.merge.ins 0 0 n)) is_m (subst (λ n. PutsBehind a b (rows_into P po n net.merge.ins 0 0 merge)) is_k counts) in
      let third : PutsBehind b c (rows_across G go Q qi P (P + G)) =
      subst (λ n. PutsBehind b c (rows_across G go Q qi P n)) is_q (subst (λ n. PutsBehind b c (rows_across G go Q qi n processors)) is_g groups) in
      let last : PutsBehind c d (rows_into Q qo 0 net.merge.ins P (P + G) (P + G + Q)) =
      subst (λ n. PutsBehind c d (rows_into Q qo 0 net.merge.ins P (P + G) n)) is_m
      (subst (λ n. PutsBehind c d (rows_into Q qo 0 net.merge.ins P n merge)) is_q
      (subst (λ n. PutsBehind c d (rows_into Q qo 0 net.merge.ins n processors merge)) is_g answers)) in
      let two = put_more room a b (rows_across P po G gi 0 P) (rows_into P po G net.merge.ins 0 0 (P + G + Q)) first second in
      let three = put_more room b c (rows_across P po G gi 0 P ++ rows_into P po G net.merge.ins 0 0 (P + G + Q)) (rows_across G go Q qi P (P + G)) two third in
      let four =
      put_more room c d (rows_across P po G gi 0 P ++ rows_into P po G net.merge.ins 0 0 (P + G + Q) ++ rows_across G go Q qi P (P + G)) (rows_into Q qo 0 net.merge.ins P (P + G) (P + G + Q)) three last in
      four.rows ∙ ap (λ (l : List LinkRow). l ++ rows_of net) none
