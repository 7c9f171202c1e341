use Rattle.std.proofs.Common.{◌≡◌, ◌∙◌, sym, ap, subst, length, arith}
use Rattle.std.proofs.lemmas.Result.{err_from_is_err_and}
use Rattle.ds_base.specs.declared.capture.Bad.{Bad}
use Rattle.pcapng_reader.specs.Reader.{Reader, GivesBad}
use Rattle.pcapng_reader.proofs.Standing.{gives_bad, none_end, found_pass, along_pass}
use Rattle.pcapng_reader.proofs.reader.NgReader.advance.Goals as goal

pub returns-in_err-passed : goal.returns-in_err-passed
returns-in_err-passed c =
    let e = c.in_err-passed.ensures in
    let b : Bad = c.in_err-passed.field-0.0 in
    let P : Reader → Type 0 = λ r. GivesBad c.args.self.now b r in
    let p = err_from_is_err_and c.from_residual.result c.from_residual.ensures.1 in
    rw (p.1, p.2) (subst P (sym e.0) (gives_bad c.args.self.now c.blocks-2.self b c.blocks-2.invariant (e.1)))

pub returns-in_default : goal.returns-in_default
returns-in_default c =
    let e = rw c.in_default.is at c.in_ok-passed.ensures in
    let mid : Reader = c.blocks-2.self in
    let new : Reader = c.drop_spent.new.self in
    let state : new.state ≡ mid.state = c.drop_spent.ensures.state ∙ ap (λ (r : Reader). r.state) (e.0) in
    let blocks : new.blocks ≡ mid.blocks = c.drop_spent.ensures.blocks ∙ ap (λ (r : Reader). r.blocks) (e.0) in
    let rest : new.rest ≡ mid.rest = c.drop_spent.ensures.rest ∙ ap (λ (r : Reader). r.rest) (e.0) in (
      none_end c.args.self.now mid new c.blocks-2.invariant (e.1) state blocks rest c.drop_spent.ensures.spent,
      omega (arith, c.drop_spent.ensures.bounds.0, c.drop_spent.ensures.bounds.1, ap length rest, e.1.short),
    )

pub returns-in-Some-found : goal.returns-in-Some-found
returns-in-Some-found c =
    let h = rw c.in-Some.is at c.in_ok-passed.ensures in
    found_pass c.args.self.now c.blocks-2.self c.pass_block.new.self c.in-Some.passed c.in-Some-found.packet c.blocks-2.invariant h c.in-Some-found.is

pub blocks-2-preserved : goal.blocks-2-preserved
blocks-2-preserved c =
    let h = rw c.in-Some.is at c.in_ok-passed.ensures in
    along_pass c.args.self.now c.blocks-2.self c.pass_block.new.self c.in-Some.passed c.blocks-2.invariant h c.in_default-found.is
