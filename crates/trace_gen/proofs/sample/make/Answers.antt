use Rattle.std.proofs.Common.{All, sym, subst}
use Rattle.trace_gen.proofs.Times.{IsSoon, all_soon}
use Rattle.trace_gen.proofs.sample.make.Goals as goal

pub capture_files-requires : goal.capture_files-requires
capture_files-requires c = subst (All IsSoon) (sym c.in_ok-seen.ensures) (all_soon c.args.number)
