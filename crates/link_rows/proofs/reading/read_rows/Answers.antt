-- The rows of the four kinds of link, one behind another.
use Rattle.std.proofs.Common.{◌+◌, ◌≤◌, ℕ, List, All, length, refl, sym, ap₂, subst, arith}
use Rattle.credit_link.specs.declared.row.LinkRow.{LinkRow}
use Rattle.net_law.specs.Nets.{Net}
use Rattle.link_rows.specs.Reading.{pipeline_of}
use Rattle.link_rows.proofs.Joined.{four_kinds, room_for_counts, room_for_groups, room_for_answers}
use Rattle.link_rows.proofs.Linked.{some_sent, few_rows}
use Rattle.link_rows.proofs.reading.read_rows.Goals as goal

pub push_into-requires-clause-room : goal.push_into-requires-clause-room
push_into-requires-clause-room g c =
    let net : Net = pipeline_of c.args.parsers.now.items c.args.groupers.now.items c.args.processors.now.items c.args.merge.now.merge in
    omega (arith, room_for_counts net c.args.room c.requires.room c.push_across.new.rows _ _ c.push_across.ensures)

pub push_across-requires-2-clause-room : goal.push_across-requires-2-clause-room
push_across-requires-2-clause-room g c =
    let net : Net = pipeline_of c.args.parsers.now.items c.args.groupers.now.items c.args.processors.now.items c.args.merge.now.merge in
    omega (arith, room_for_groups net c.args.room c.requires.room c.push_across.new.rows c.push_into.new.rows _ _ _ _ _ _ c.push_across.ensures c.push_into.ensures)

pub push_into-requires-2-clause-room : goal.push_into-requires-2-clause-room
push_into-requires-2-clause-room g c =
    let net : Net = pipeline_of c.args.parsers.now.items c.args.groupers.now.items c.args.processors.now.items c.args.merge.now.merge in
    omega (arith, room_for_answers net c.args.room c.requires.room c.push_across.new.rows c.push_into.new.rows c.push_across-2.new.rows _ _ _ _ _ _ _ _ c.push_across.ensures c.push_into.ensures c.push_across-2.ensures)

pub returns-clause-rows : goal.returns-clause-rows
returns-clause-rows g c =
    let net : Net = pipeline_of c.args.parsers.now.items c.args.groupers.now.items c.args.processors.now.items c.args.merge.now.merge in
    let from : ℕ = c.len-groupers_from.result in
    four_kinds net c.args.room c.push_across.new.rows c.push_into.new.rows c.push_across-2.new.rows c.push_into-2.new.rows c.len-3.result from (from + c.len.result) (from + c.len.result + c.len-2.result)
    c.len-3.ensures c.len-groupers_from.ensures (ap₂ (λ (a b : ℕ). a + b) c.len-groupers_from.ensures c.len.ensures)
    (ap₂ (λ (a b : ℕ). a + b) (ap₂ (λ (a b : ℕ). a + b) c.len-groupers_from.ensures c.len.ensures) c.len-2.ensures) c.requires.none c.push_across.ensures c.push_into.ensures c.push_across-2.ensures
    c.push_into-2.ensures

pub invariant_of-result : goal.invariant_of-result
invariant_of-result g c =
    let net : Net = pipeline_of c.args.parsers.now.items c.args.groupers.now.items c.args.processors.now.items c.args.merge.now.merge in
    record {
      few = subst (λ (l : List LinkRow). length l ≤ 544) (sym (returns-clause-rows g c)) (few_rows net refl refl refl c.requires.linked);
      some = λ done. subst (All (λ (row : LinkRow). 1 ≤ row.sent)) (sym (returns-clause-rows g c)) (some_sent net refl refl refl c.requires.linked (c.requires.done done));
    }
