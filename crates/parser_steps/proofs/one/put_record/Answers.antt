use Rattle.std.proofs.Common.{refl, inl, inr}
use Rattle.parser_steps.proofs.one.put_record.Goals as goal

pub returns-then-capture-lt-RECORDS_A_MARK-clause-puts : goal.returns-then-capture-lt-RECORDS_A_MARK-clause-puts
returns-then-capture-lt-RECORDS_A_MARK-clause-puts g c =
    record { mid = c.put_item.new.out; item = c.put_item.ensures.put; may = inr (c.if-capture-lt-RECORDS_A_MARK.true, refl, refl) }

pub returns-clause-puts : goal.returns-clause-puts
returns-clause-puts g c = record {
  mid = c.put_item.new.out;
  item = c.put_item.ensures.put;
  may = inl (
    c.if-capture-lt-RECORDS_A_MARK.false,
    refl,
    record {
      mark = c.mark-mark.result;
      newest = λ job taken tallies. c.mark-mark.ensures.mark job c.args.number taken tallies;
      early = c.mark-mark.ensures.early;
      marks = c.put_each.ensures.put;
      merge = c.put_each.ensures.merge;
    },
  );
}
