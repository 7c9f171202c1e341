use Rattle.std.proofs.Common.{◌≡◌, ◌≤◌, map, take}
use Rattle.std.specs.VecDeque.{deque_len, deque_capacity}
use Rattle.ds_base.specs.Outside.{FolderStays}
use Rattle.summary_spec.specs.Job.{declared_of}
use Rattle.input_files.specs.Files.{AreOpened}
use Rattle.job_inputs.proofs.captures.open_captures.Given as goal

-- the files so far were opened, and there is room for the others
abbrev pub invariant-files : goal.invariant-files
invariant-files g l = record {
  stays : FolderStays (g.F.Folder.seen l.fn.folder) (g.F.Folder.seen l.folder);
  quiet : (g.F.Folder.seen l.folder).faults ≡ (g.F.Folder.seen l.fn.folder).faults;
  opened : AreOpened (g.F.Folder.seen l.fn.folder) (take l.capture (declared_of l.job).files) (map g.F.Src.Source.seen l.sources.items);
  many : deque_len l.sources ≡ l.capture;
  room : l.many ≤ deque_capacity l.sources;
}
