use Rattle.std.proofs.Common.{ℕ, List, [], ◌∷◌, ◌++◌, map, take, sym, ◌∙◌, subst, arith}
use Rattle.std.proofs.lemmas.List.{map-append}
use Rattle.ds_base.specs.Outside.{SourceSeen}
use Rattle.summary_spec.specs.Job.{declared_of}
use Rattle.input_files.specs.Files.{AreOpened}
use Rattle.job_inputs.proofs.Opened.{are_fresh, name_at, names_up_to, one_more_opened, opened_of_first, stays_on, stops_opening, there_before}
use Rattle.job_inputs.proofs.captures.open_captures.Goals as goal

pub give_back_all-requires-clause-fresh : goal.give_back_all-requires-clause-fresh
give_back_all-requires-clause-fresh g c κs within =
    are_fresh (g.F.Folder.seen c.args.folder.now) (take c.files.capture (declared_of c.args.job.now).files) (map g.F.Src.Source.seen c.files.sources.items) c.files.invariant.opened

pub returns-in-Err-clause-ends : goal.returns-in-Err-clause-ends
returns-in-Err-clause-ends g c =
    let seen = g.F.Folder.seen in
    let at = name_at c.args.job.now.files.items c.files.capture c.get.result.now c.as_str-name.result.now c.get.ensures c.as_str-name.ensures in
    rw c.at_opening.ensures
    (stops_opening (declared_of c.args.job.now).files (seen c.args.folder.now) (seen c.files.folder) (seen c.open_file.new.folder) (seen c.give_back_all.new.folder)
    c.files.capture c.as_str-name.result.now c.files.invariant.stays c.files.invariant.quiet
    (λ told. there_before (seen c.args.folder.now) (declared_of c.args.job.now).files c.files.capture (map g.F.Src.Source.seen c.files.sources.items) told c.files.invariant.opened)
    at c.give_back_all.ensures.quiet c.in-Err.fault c.in-Err.ensures.ends)

pub files-preserved : goal.files-preserved
files-preserved g c =
    let seen = g.F.Folder.seen in
    let source_seen = g.F.Src.Source.seen in
    let names = (declared_of c.args.job.now).files in
    let capture = c.files.capture in
    let name = c.as_str-name.result.now in
    let at = name_at c.args.job.now.files.items capture c.get.result.now name c.get.ensures c.as_str-name.ensures in
    record {
      stays = stays_on (seen c.args.folder.now) (seen c.files.folder) (seen c.open_file.new.folder) c.files.invariant.stays c.in-Ok-open_file.ensures.stays;
      quiet = c.in-Ok-open_file.ensures.quiet ∙ c.files.invariant.quiet;
      opened =
          let sources = c.files.sources.items in
          let source = c.in-Ok-open_file.source in
          let P : List (List ℕ) → Type 0 = λ ns. AreOpened (seen c.args.folder.now) ns (map source_seen (sources ++ source ∷ [])) in
          let Q : List SourceSeen → Type 0 = λ ss. AreOpened (seen c.args.folder.now) (take capture names ++ name ∷ []) ss in
          rw c.push_back_reserved.ensures.items
          (subst P (sym (names_up_to names capture name at))
          (subst Q (sym (map-append source_seen sources (source ∷ [])))
          (one_more_opened (seen c.args.folder.now) (take capture names) (map source_seen sources) name (source_seen source) c.files.invariant.opened
          (opened_of_first (seen c.args.folder.now) (seen c.files.folder) name (source_seen source) c.files.invariant.stays c.in-Ok-open_file.ensures.ends))));
      many = omega (arith, c.push_back_reserved.ensures.len, c.files.invariant.many);
      room = omega (arith, c.push_back_reserved.ensures.capacity, c.files.invariant.room);
    }
