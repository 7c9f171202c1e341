use Rattle.std.proofs.Common.{None, ℕ, List, ◌≡◌, [], ◌∷◌, ◌++◌, ◌∙◌, refl, sym, ap, subst}
use Rattle.std.proofs.lemmas.List.{append-nil}
use Rattle.ds_base.specs.Gain.{Gains}
use Rattle.input_files.specs.Reading.{Reading}
use Rattle.pcap_reader.specs.Captured.{Captured}
use Rattle.pcap_reader.specs.Reader.{StandsFor, IsWaiting}
use Rattle.pcap_reader.specs.Good.{good}
use Rattle.pcap_reader.specs.Lent.{captured}
use Rattle.stack_lines.specs.Printing.{lines_by}
use Rattle.stack_lines.specs.Stacks.{stack_line}
use Rattle.stack_lines.proofs.Printed.{flat_map-more}
use Rattle.stack_lines.proofs.Begun.{begun_of_first, begun_of_whole, begun_with_line}
use Rattle.stack_lines.proofs.printing.print_records.Goals as goal

pub returns-in_err-print-in-Ok-Some-clause-prefix : goal.returns-in_err-print-in-Ok-Some-clause-prefix
returns-in_err-print-in-Ok-Some-clause-prefix g c told out =
    let t = c.records.invariant.printed in
    let asking = c.args.printer.now.asking in
    let start = (g.O.Sink.seen c.args.out.now).written in
    let left = (g.S.Source.seen c.records.source).left in
    let gives = (rw (c.in-Ok-Some.is, c.in-Ok-Some.field-0-is) at c.next.follows.holds-at-none).0 in
    begun_of_whole asking start _ (t.0 ++ left) (g.S.Source.seen c.args.source.now).whole
    (sym (c.records.invariant.stays.whole told) ∙ t.2.front (rw c.records.invariant.stays.told told))
    (begun_with_line (stack_line asking.port asking.field) start _ _ t.1 (captured c.in-Ok-Some.r) (good None (t.0 ++ left)).records
    (rw c.records.invariant.asking refl) (gives.first None t.0 t.1 t.2.stands left) (c.print.ensures.prefix start (lines_by asking t.1) t.3 out))

pub returns-in_err-write-in-Err-Unread-clause-prefix : goal.returns-in_err-write-in-Err-Unread-clause-prefix
returns-in_err-write-in-Err-Unread-clause-prefix g c told out =
    let t = c.records.invariant.printed in
    let asking = c.args.printer.now.asking in
    let start = (g.O.Sink.seen c.args.out.now).written in
    let left = (g.S.Source.seen c.records.source).left in
    let gives = (rw (c.in-Ok-None.is, c.in-Ok-None.field-0-is) at c.next.follows.holds-at-none).0 in
    begun_of_whole asking start _ (t.0 ++ left) (g.S.Source.seen c.args.source.now).whole
    (sym (c.records.invariant.stays.whole told) ∙ t.2.front (rw c.records.invariant.stays.told told))
    (begun_of_first (stack_line asking.port asking.field) start _ t.1 (good None (t.0 ++ left)).records
    (gives.first None t.0 t.1 t.2.stands left) (c.write.ensures.prefix start (lines_by asking t.1) t.3 out))

pub returns-in-Err-Unread-clause-prefix : goal.returns-in-Err-Unread-clause-prefix
returns-in-Err-Unread-clause-prefix g c told out =
    let t = c.records.invariant.printed in
    let asking = c.args.printer.now.asking in
    let start = (g.O.Sink.seen c.args.out.now).written in
    let left = (g.S.Source.seen c.records.source).left in
    let gives = (rw (c.in-Ok-None.is, c.in-Ok-None.field-0-is) at c.next.follows.holds-at-none).0 in
    begun_of_whole asking start _ (t.0 ++ left) (g.S.Source.seen c.args.source.now).whole
    (sym (c.records.invariant.stays.whole told) ∙ t.2.front (rw c.records.invariant.stays.told told))
    (begun_of_first (stack_line asking.port asking.field) start _ t.1 (good None (t.0 ++ left)).records
    (gives.first None t.0 t.1 t.2.stands left) (c.write.ensures.prefix start (lines_by asking t.1) t.3 out))

pub returns-in-Err-OutOfMemory-clause-prefix : goal.returns-in-Err-OutOfMemory-clause-prefix
returns-in-Err-OutOfMemory-clause-prefix g c told out =
    let t = c.records.invariant.printed in
    let asking = c.args.printer.now.asking in
    let start = (g.O.Sink.seen c.args.out.now).written in
    let left = (g.S.Source.seen c.records.source).left in
    let gives = (rw (c.in-Ok-None.is, c.in-Ok-None.field-0-is) at c.next.follows.holds-at-none).0 in
    begun_of_whole asking start _ (t.0 ++ left) (g.S.Source.seen c.args.source.now).whole
    (sym (c.records.invariant.stays.whole told) ∙ t.2.front (rw c.records.invariant.stays.told told))
    (begun_of_first (stack_line asking.port asking.field) start _ t.1 (good None (t.0 ++ left)).records
    (gives.first None t.0 t.1 t.2.stands left) (c.records.printer.text.items, t.3 out))

pub records-smaller : goal.records-smaller
records-smaller g c =
    let more = (rw c.in-Ok-More.field-0-is at c.in-Ok-More.ensures.ends).1 in
    let gives = (rw (c.in-Ok-None.is, c.in-Ok-None.field-0-is) at c.next.follows.holds-at-none).0 in
    more.less c.records.reading gives.fed

pub returns-in-Ok-End-clause-prefix : goal.returns-in-Ok-End-clause-prefix
returns-in-Ok-End-clause-prefix g c told out =
    let t = c.records.invariant.printed in
    let asking = c.args.printer.now.asking in
    let start = (g.O.Sink.seen c.args.out.now).written in
    let left = (g.S.Source.seen c.records.source).left in
    let gives = (rw (c.in-Ok-None.is, c.in-Ok-None.field-0-is) at c.next.follows.holds-at-none).0 in
    begun_of_whole asking start _ (t.0 ++ left) (g.S.Source.seen c.args.source.now).whole
    (sym (c.records.invariant.stays.whole told) ∙ t.2.front (rw c.records.invariant.stays.told told))
    (begun_of_first (stack_line asking.port asking.field) start _ t.1 (good None (t.0 ++ left)).records
    (gives.first None t.0 t.1 t.2.stands left) (c.records.printer.text.items, t.3 out))

pub returns-in-Ok-End-clause-ends : goal.returns-in-Ok-End-clause-ends
returns-in-Ok-End-clause-ends g c =
    let i = c.records.invariant in
    let t = i.printed in
    let asking = c.args.printer.now.asking in
    let start = (g.O.Sink.seen c.args.out.now).written in
    let gives = (rw (c.in-Ok-None.is, c.in-Ok-None.field-0-is) at c.next.follows.holds-at-none).0 in
    let end = rw c.in-Ok-End.field-0-is at c.in-Ok-End.ensures.ends in
    let all = gives.all None t.0 t.1 t.2.stands in
    let stands = gives.stands None t.0 t.1 t.2.stands in
    record {
      faults = end.0 ∙ i.faults;
      quiet = i.quiet;
      waiting = subst (λ (r : Reading). IsWaiting r.reader) (sym end.1.same) gives.waiting;
      given = t.0;
      read = end.1.reads None t.0 (good None t.0).records
          (record { stands = subst (λ (rs : List Captured). StandsFor None c.next.follows.lender-at-none.reader t.0 rs) (sym all) stands; front = t.2.front });
      text = λ out. subst (λ (rs : List Captured). Gains start (g.O.Sink.seen c.records.out).written (lines_by asking rs) c.records.printer.text.items) (sym all) (t.3 out);
      whole = λ told. sym (i.stays.whole told) ∙ end.1.whole None t.0 t.1 (record { stands = stands; front = t.2.front }) (rw i.stays.told told);
    }

pub returns-in_err-write-in-Err-clause-prefix : goal.returns-in_err-write-in-Err-clause-prefix
returns-in_err-write-in-Err-clause-prefix g c told out =
    let t = c.records.invariant.printed in
    let asking = c.args.printer.now.asking in
    let start = (g.O.Sink.seen c.args.out.now).written in
    let left = (g.S.Source.seen c.records.source).left in
    let gives = (rw c.in-Err.is at c.next.follows.holds-at-none).0 in
    begun_of_whole asking start _ (t.0 ++ left) (g.S.Source.seen c.args.source.now).whole
    (sym (c.records.invariant.stays.whole told) ∙ t.2.front (rw c.records.invariant.stays.told told))
    (begun_of_first (stack_line asking.port asking.field) start _ t.1 (good None (t.0 ++ left)).records
    ([], gives.all None t.0 t.1 t.2.stands left ∙ sym (append-nil t.1)) (c.write-in-Err.ensures.prefix start (lines_by asking t.1) t.3 out))

pub returns-in-Err-clause-prefix : goal.returns-in-Err-clause-prefix
returns-in-Err-clause-prefix g c told out =
    let t = c.records.invariant.printed in
    let asking = c.args.printer.now.asking in
    let start = (g.O.Sink.seen c.args.out.now).written in
    let left = (g.S.Source.seen c.records.source).left in
    let gives = (rw c.in-Err.is at c.next.follows.holds-at-none).0 in
    begun_of_whole asking start _ (t.0 ++ left) (g.S.Source.seen c.args.source.now).whole
    (sym (c.records.invariant.stays.whole told) ∙ t.2.front (rw c.records.invariant.stays.told told))
    (begun_of_first (stack_line asking.port asking.field) start _ t.1 (good None (t.0 ++ left)).records
    ([], gives.all None t.0 t.1 t.2.stands left ∙ sym (append-nil t.1)) (c.write-in-Err.ensures.prefix start (lines_by asking t.1) t.3 out))

pub returns-in-Err-clause-ends : goal.returns-in-Err-clause-ends
returns-in-Err-clause-ends g c =
    let i = c.records.invariant in
    let t = i.printed in
    let asking = c.args.printer.now.asking in
    let start = (g.O.Sink.seen c.args.out.now).written in
    let left = (g.S.Source.seen c.records.source).left in
    let gives = (rw c.in-Err.is at c.next.follows.holds-at-none).0 in (
      i.faults,
      λ told.
          let whole = sym (i.stays.whole told) ∙ t.2.front (rw i.stays.told told) in
          ap (λ (bytes : List ℕ). (good None bytes).bad) whole ∙ gives.bad None t.0 t.1 t.2.stands left,
      λ told out.
          let whole = sym (i.stays.whole told) ∙ t.2.front (rw i.stays.told told) in
          c.in_ok-write-in-Err.ensures.ends.whole start (lines_by asking t.1) t.3 (rw i.out_stays.told out)
          ∙ ap (λ (text : List ℕ). start ++ text) (append-nil (lines_by asking t.1))
          ∙ ap (λ (rs : List Captured). start ++ lines_by asking rs) (sym (gives.all None t.0 t.1 t.2.stands left))
          ∙ ap (λ (bytes : List ℕ). start ++ lines_by asking (good None bytes).records) (sym whole),
    )

pub records-preserved-in-Continue-1 : goal.records-preserved-in-Continue-1
records-preserved-in-Continue-1 g c =
    let i = c.records.invariant in
    let t = i.printed in
    let asking = c.args.printer.now.asking in
    let start = (g.O.Sink.seen c.args.out.now).written in
    let r = captured c.in-Ok-Some.r in
    let gives = (rw (c.in-Ok-Some.is, c.in-Ok-Some.field-0-is) at c.next.follows.holds-at-none).0 in
    let prints = c.in_ok-print-in-Ok-Some.ensures in
    let line : stack_line c.records.printer.asking.port c.records.printer.asking.field r ≡ stack_line asking.port asking.field r = rw i.asking refl in
    let lines : lines_by asking t.1 ++ stack_line c.records.printer.asking.port c.records.printer.asking.field r ≡ lines_by asking (t.1 ++ r ∷ []) =
    ap (λ (text : List ℕ). lines_by asking t.1 ++ text) line ∙ sym (flat_map-more (stack_line asking.port asking.field) t.1 r) in
    record {
      stays = i.stays;
      out_stays = record { told = prints.stays.told ∙ i.out_stays.told; label = prints.stays.label ∙ i.out_stays.label };
      faults = i.faults;
      quiet = prints.ends.faults ∙ i.quiet;
      asking = prints.ends.asking ∙ i.asking;
      printed = (
        t.0,
        t.1 ++ r ∷ [],
        record { stands = gives.stands None t.0 t.1 t.2.stands; front = t.2.front },
        λ out. subst (λ (text : List ℕ). Gains start (g.O.Sink.seen c.print.new.out).written text c.print.new.self.text.items) lines
            (prints.ends.text start (lines_by asking t.1) t.3 out),
      );
    }

pub records-preserved : goal.records-preserved
records-preserved g c =
    let i = c.records.invariant in
    let t = i.printed in
    let gives = (rw (c.in-Ok-None.is, c.in-Ok-None.field-0-is) at c.next.follows.holds-at-none).0 in
    let more = rw c.in-Ok-More.field-0-is at c.in-Ok-More.ensures.ends in
    let read = c.in-Ok-More.ensures.stays in
    record {
      stays = record { told = read.told ∙ i.stays.told; whole = λ told. read.whole (rw i.stays.told told) ∙ i.stays.whole told };
      out_stays = i.out_stays;
      faults = more.0 ∙ i.faults;
      quiet = i.quiet;
      asking = i.asking;
      printed = (t.0 ++ more.1.piece, t.1, more.1.reads None t.0 t.1 (record { stands = gives.stands None t.0 t.1 t.2.stands; front = t.2.front }), t.3);
    }
