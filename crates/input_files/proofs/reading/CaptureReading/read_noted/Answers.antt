use Rattle.std.proofs.Common.{rules, ℕ, List, ◌+◌, ◌≡◌, ◌∙◌, ◌++◌, ◌<◌, ◌≤◌, sym, ap, subst, length, take, arith, Option, length-take}
use Rattle.std.specs.Prelude.{IsTrue}
use Rattle.ds_base.specs.Outside.{SourceSeen}
use Rattle.pcap_reader.specs.Captured.{Captured}
use Rattle.pcap_reader.specs.Reader.{Reader, StandsFor, bytes_fed, bytes_held, records_given}
use Rattle.input_files.specs.Reading.{Reading, bytes_read}
use Rattle.input_files.proofs.Less.{less_left}
use Rattle.input_files.proofs.More.{more_read, front_same}
use Rattle.input_files.proofs.reading.CaptureReading.read_noted.Goals as goal

pub returns-clause-ends : goal.returns-clause-ends
returns-clause-ends g c =
    let old : Reading = c.args.self.now in
    let new : Reading = record { reader = c.feed.new.self; piece = c.self.inside.buffer.len } in
    let before : SourceSeen = g.S.Source.seen c.args.source.now in
    let after : SourceSeen = g.S.Source.seen c.read.new.self in
    let n : ℕ = c.in-Ok.n in
    let piece : List ℕ = take n c.deref.result.now in
    let view : c.self.inside.reader ≡ old.reader = ap (λ (r : Reading). r.reader) c.self.view_is in
    let asks : c.self.inside.buffer.len ≡ old.piece = ap (λ (r : Reading). r.piece) c.self.view_is in
    let feeds : (wanted : Option ℕ) (fed : List ℕ) (given : List Captured) → StandsFor wanted old.reader fed given → StandsFor wanted new.reader (fed ++ piece) given = λ wanted fed given s.
    c.in-Ok-feed.ensures.stands wanted fed given (subst (λ (r : Reader). StandsFor wanted r fed given) (sym view) s) in
    let buffer : length c.read.new.buf ≡ c.self.inside.buffer.len = search rules in
    let within : n ≤ c.self.inside.buffer.len = search rules in
    let size : length piece ≡ n = omega (arith, length-take n c.deref.result.now, c.deref.ensures.len, within) in
    let is : piece ≡ take n c.read.new.buf = front_same n c.self.inside.buffer.len c.read.new.buf _ c.deref.result.now c.deref.ensures.value buffer within in
    let again : take n c.deref-2.result.now ≡ take n c.read.new.buf = front_same n c.self.inside.buffer.len c.read.new.buf _ c.deref-2.result.now c.deref-2.ensures.value buffer within in
    let left : IsTrue before.told → before.left ≡ piece ++ after.left = λ told.
    c.in-Ok.ensures.moved told ∙ ap (λ (xs : List ℕ). xs ++ after.left) (sym is) in
    let some : 0 < length piece = omega (arith, size, c.if-n-eq0.false) in
    let read : bytes_read new ≡ bytes_read old + length piece = c.in-Ok-feed.ensures.fed ∙ ap (λ (r : Reader). bytes_fed r + length piece) view in (
      c.in-Ok.ensures.faults,
      (
        record {
          piece = piece;
          some = some;
          most = omega (arith, size, within, asks);
          reads = more_read old new before after piece c.in-Ok.ensures.stays left feeds;
          given = c.in-Ok-feed.ensures.given ∙ ap records_given view;
          read = read;
          held = omega (arith, c.in-Ok-feed.ensures.held, ap bytes_held view);
          asks = asks;
          less = λ first. less_left first old new (length piece) read some (omega (arith, read, size, within, c.requires, c.self.invariant.1));
        },
        c.and_all.ensures ∙ ap (λ (xs : List ℕ). c.args.noted.now.items ++ xs) (again ∙ sym is),
      ),
    )
