use Rattle.std.proofs.Common.{◌≡◌, length, map}
use Rattle.std.specs.List.{AllByRecursion}
use Rattle.ds_base.specs.Outside.{FolderStays, IsFresh}
use Rattle.job_inputs.proofs.captures.give_back_all.Given as goal

abbrev pub invariant-sources : goal.invariant-sources
invariant-sources g l = record {
  stays : FolderStays (g.F.Folder.seen l.fn.folder) (g.F.Folder.seen l.folder);
  quiet : (g.F.Folder.seen l.folder).faults ≡ (g.F.Folder.seen l.fn.folder).faults;
  fresh : AllByRecursion IsFresh (map g.F.Src.Source.seen l.sources.items);
}

abbrev pub decreases-sources : goal.decreases-sources
decreases-sources g l = length l.sources.items
