use Rattle.std.proofs.Common.{sym, arith}
use Rattle.header_stack.proofs.Placing.{placed, walked_end, walked_full, walked_more, walked_refused, walked_start}
use Rattle.header_stack.proofs.packet.walk.Goals as goal

pub loop-rest-init : goal.loop-rest-init
loop-rest-init c = rw (c.new-stack.ensures, c.first-next.ensures) (walked_start c.args.link c.args.port c.args.bytes.now)

pub loop-rest-preserved : goal.loop-rest-preserved
loop-rest-preserved c =
    let named = rw c.in-Header.is at c.loop-rest.invariant in
    rw c.push.ensures (walked_more _ _ _ _ _ _ c.in-Header.kind c.in-Some.head named (omega arith) (sym c.in-Some.ensures.header))

pub returns-in_default : goal.returns-in_default
returns-in_default c =
    let named = rw c.in_default.is at c.loop-rest.invariant in
    let w = placed c.args.link c.args.port c.args.bytes.now c.loop-rest.stack (walked_end _ _ _ _ _ _ named) in
    record { places = w.places; layers = w.layers; stack = w.is; inside = w.inside }

pub returns-in_default-read_header : goal.returns-in_default-read_header
returns-in_default-read_header c =
    let named = rw c.in-Header.is at c.loop-rest.invariant in
    let w = placed c.args.link c.args.port c.args.bytes.now c.loop-rest.stack (walked_refused _ _ _ _ _ _ _ named (sym c.in_default-read_header.ensures.header)) in
    record { places = w.places; layers = w.layers; stack = w.is; inside = w.inside }

pub returns : goal.returns
returns c =
    let w = placed c.args.link c.args.port c.args.bytes.now c.loop-rest.stack (walked_full _ _ _ _ _ _ _ c.loop-rest.invariant (omega arith)) in
    record { places = w.places; layers = w.layers; stack = w.is; inside = w.inside }
