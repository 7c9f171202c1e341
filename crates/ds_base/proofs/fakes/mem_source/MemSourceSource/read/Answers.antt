use Rattle.std.proofs.Common.{arith}
use Rattle.ds_base.proofs.Moves.{moved}
use Rattle.ds_base.proofs.fakes.mem_source.MemSourceSource.read.Goals as goal

-- src/fakes/mem_source.rt:52:5
pub returns-clause-moved : goal.returns-clause-moved
returns-clause-moved c told =
    moved c.args.self.now.bytes.items c.copy_from_slice.new.self _ c.args.self.now.given c.min-n.result (omega arith)
    (rw c.deref.ensures.value at c.copy_from_slice.ensures.after)
