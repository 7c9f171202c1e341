use Rattle.std.proofs.Common.{◌≤◌, length, map, take, drop}
use Rattle.ds_base.specs.Outside.{FolderStays}
use Rattle.summary_spec.specs.Job.{declared_of}
use Rattle.job_inputs.specs.Captures.{GathersCaptures}
use Rattle.input_files.specs.Files.{AreOpened}
use Rattle.job_inputs.proofs.captures.read_captures.Given as goal

-- the captures before this one were gathered, and the others are as they were opened
abbrev pub invariant-captures : goal.invariant-captures
invariant-captures g l = record {
  stays : FolderStays (g.F.Folder.seen l.fn.folder) (g.F.Folder.seen l.folder);
  within : l.capture ≤ length (declared_of l.job).files;
  opened : AreOpened (g.F.Folder.seen l.fn.folder) (drop l.capture (declared_of l.job).files) (map g.F.Src.Source.seen l.sources.items);
  gathered : GathersCaptures (declared_of l.job) (take l.capture (declared_of l.job).files) (g.F.Folder.seen l.fn.folder) (g.F.Folder.seen l.folder) l.accepted.items l.counts.items;
}

abbrev pub decreases-captures : goal.decreases-captures
decreases-captures g l = length l.sources.items
