use Rattle.std.proofs.Common.{ℕ, List, [], ◌≡◌, ◌+◌, drop, map, refl, sym, take, subst, arith}
use Rattle.std.proofs.lemmas.List.{length-take-le}
use Rattle.std.proofs.lemmas.Option.{slice_get_within}
use Rattle.summary_spec.specs.Job.{declared_of}
use Rattle.job_inputs.specs.Captures.{GathersCaptures}
use Rattle.job_inputs.proofs.Collecting.{gathers_none, gathers_more, gathers_all, next_opened, stops_reading}
use Rattle.job_inputs.proofs.Opened.{are_fresh, names_up_to, none_left, opened_there, stays_on}
use Rattle.job_inputs.proofs.captures.read_captures.Goals as goal

pub captures-init : goal.captures-init
captures-init g c = record {
  stays = record { told = refl; files = λ told. refl };
  within = omega arith;
  opened = c.requires.opened;
  gathered = gathers_none (declared_of c.args.job.now) (g.F.Folder.seen c.args.folder.now) c.args.accepted.now.items c.args.counts.now.items c.requires.none c.requires.uncounted;
}

pub read_next-requires-clause-fresh : goal.read_next-requires-clause-fresh
read_next-requires-clause-fresh g c κs within =
    let next = next_opened (g.F.Folder.seen c.args.folder.now) (declared_of c.args.job.now).files c.captures-2.capture
    (g.F.Src.Source.seen c.in-Some.source) (map g.F.Src.Source.seen c.pop_front.new.self.items)
    (rw c.in-Some.ensures.items at c.captures-2.invariant.opened) in
    next.opened.0

pub give_back_all-requires-clause-fresh : goal.give_back_all-requires-clause-fresh
give_back_all-requires-clause-fresh g c κs within =
    let next = next_opened (g.F.Folder.seen c.args.folder.now) (declared_of c.args.job.now).files c.captures-2.capture
    (g.F.Src.Source.seen c.in-Some.source) (map g.F.Src.Source.seen c.pop_front.new.self.items)
    (rw c.in-Some.ensures.items at c.captures-2.invariant.opened) in
    are_fresh (g.F.Folder.seen c.args.folder.now) (drop (c.captures-2.capture + 1) (declared_of c.args.job.now).files) (map g.F.Src.Source.seen c.pop_front.new.self.items) next.others

pub returns-in-Err-clause-ends : goal.returns-in-Err-clause-ends
returns-in-Err-clause-ends g c =
    let seen = g.F.Folder.seen in
    let job = declared_of c.args.job.now in
    let next = next_opened (seen c.args.folder.now) job.files c.captures-2.capture
    (g.F.Src.Source.seen c.in-Some.source) (map g.F.Src.Source.seen c.pop_front.new.self.items)
    (rw c.in-Some.ensures.items at c.captures-2.invariant.opened) in
    rw c.at_reading.ensures
    (stops_reading job job.files (seen c.args.folder.now) (seen c.captures-2.folder) (seen c.read_next.new.folder) (seen c.give_back_all.new.folder)
    c.captures-2.accepted.items c.captures-2.counts.items c.captures-2.capture next.name (g.F.Src.Source.seen c.in-Some.source)
    next.at next.opened c.captures-2.invariant.gathered
    (λ told. opened_there (seen c.args.folder.now) job.files (map g.F.Src.Source.seen c.args.sources.items) told c.requires.opened)
    c.give_back_all.ensures.quiet c.in-Err.fault c.in-Err.ensures.ends)

pub captures-preserved : goal.captures-preserved
captures-preserved g c =
    let seen = g.F.Folder.seen in
    let job = declared_of c.args.job.now in
    let capture = c.captures-2.capture in
    let next = next_opened (seen c.args.folder.now) job.files capture
    (g.F.Src.Source.seen c.in-Some.source) (map g.F.Src.Source.seen c.pop_front.new.self.items)
    (rw c.in-Some.ensures.items at c.captures-2.invariant.opened) in
    record {
      stays = stays_on (seen c.args.folder.now) (seen c.captures-2.folder) (seen c.read_next.new.folder) c.captures-2.invariant.stays c.in-Ok.ensures.stays;
      within = omega (arith, slice_get_within job.files capture next.name next.at);
      opened = next.others;
      gathered =
          let P : List (List ℕ) → Type 0 = λ names. GathersCaptures job names (seen c.args.folder.now) (seen c.read_next.new.folder) c.read_next.new.accepted.items c.read_next.new.counts.items in
          subst P (sym (names_up_to job.files capture next.name next.at))
          (gathers_more job (take capture job.files) (seen c.args.folder.now) (seen c.captures-2.folder) (seen c.read_next.new.folder)
          c.captures-2.accepted.items c.read_next.new.accepted.items c.captures-2.counts.items c.read_next.new.counts.items
          capture next.name (g.F.Src.Source.seen c.in-Some.source)
          (length-take-le capture job.files c.captures-2.invariant.within) next.opened c.captures-2.invariant.gathered c.in-Ok.ensures.ends);
    }

pub returns-clause-ends : goal.returns-clause-ends
returns-clause-ends g c =
    let job = declared_of c.args.job.now in
    let none : c.captures-2.sources.items ≡ [] = none_left c.captures-2.sources.items c.pop_front.new.self.items c.in_default.ensures.items c.pop_front.ensures.rest in
    gathers_all job job.files c.captures-2.capture (g.F.Folder.seen c.args.folder.now) (g.F.Folder.seen c.captures-2.folder) c.captures-2.accepted.items c.captures-2.counts.items
    (rw none at c.captures-2.invariant.opened) c.captures-2.invariant.gathered
