use Rattle.std.proofs.Common.{◌≡◌, true, false, ◌∙◌, add-one, sym}
use Rattle.std.specs.Str.{bytes_eq}
use Rattle.ds_base.proofs.Finds.{found_here, found_later}
use Rattle.ds_base.proofs.fakes.mem_folder.find.Goals as goal

pub returns-then-eq : goal.returns-then-eq
returns-then-eq c =
    let same : bytes_eq c.get-file.result.now.name.items c.args.name.now ≡ true = rw c.as_str.ensures at (sym c.eq.ensures ∙ c.if-eq.true) in
    c.loop-i.invariant ∙ found_here _ _ c.loop-i.i _ c.get-file.ensures same

pub loop-i-preserved : goal.loop-i-preserved
loop-i-preserved c =
    let other : bytes_eq c.get-file.result.now.name.items c.args.name.now ≡ false = rw c.as_str.ensures at (sym c.eq.ensures ∙ c.if-eq.false) in
    rw add-one (c.loop-i.invariant ∙ found_later _ _ c.loop-i.i _ c.get-file.ensures other)
