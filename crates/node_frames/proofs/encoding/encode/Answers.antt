use Rattle.std.proofs.Common.{ℕ, ◌+◌, ◌-◌, [], ◌∷◌, ap₂, refl, ◌∙◌, arith, take, drop, ◌++◌}
use Rattle.node_frames.specs.Fields.{bytes_of}
use Rattle.node_frames.specs.Table.{payload_of}
use Rattle.node_frames.proofs.Framed.{written}
use Rattle.node_frames.proofs.encoding.encode.Goals as goal

pub overflow_cast-len : goal.overflow_cast-len
overflow_cast-len c =
    let w = written c.args.out.now.bytes (0 ∷ 0 ∷ 0 ∷ 0 ∷ []) (payload_of c.args.wire.now) c.put_wire.new.out.bytes c.append.new.self.bytes c.append.new.self.spare c.put_wire.new.out.spare
    refl c.append.ensures.bytes c.put_wire.ensures.bytes c.put_wire.ensures.room c.put_wire.ensures.some c.put_wire.ensures.most in
    omega (arith, w.len, w.most, c.len.ensures, c.len-at.ensures)

pub returns-clause-length : goal.returns-clause-length
returns-clause-length c =
    let w = written c.args.out.now.bytes (0 ∷ 0 ∷ 0 ∷ 0 ∷ []) (payload_of c.args.wire.now) c.put_wire.new.out.bytes c.append.new.self.bytes c.append.new.self.spare c.put_wire.new.out.spare
    refl c.append.ensures.bytes c.put_wire.ensures.bytes c.put_wire.ensures.room c.put_wire.ensures.some c.put_wire.ensures.most in
    (w.some, w.most)

pub returns-clause-bytes : goal.returns-clause-bytes
returns-clause-bytes c =
    let w = written c.args.out.now.bytes (0 ∷ 0 ∷ 0 ∷ 0 ∷ []) (payload_of c.args.wire.now) c.put_wire.new.out.bytes c.append.new.self.bytes c.append.new.self.spare c.put_wire.new.out.spare
    refl c.append.ensures.bytes c.put_wire.ensures.bytes c.put_wire.ensures.room c.put_wire.ensures.some c.put_wire.ensures.most in
    c.set_number.ensures.bytes
    ∙ ap₂ (λ (at len : ℕ). take at c.put_wire.new.out.bytes ++ (bytes_of 4 (len - at - 4) ++ drop (at + 4) c.put_wire.new.out.bytes)) c.len-at.ensures c.len.ensures
    ∙ w.bytes

pub returns-clause-spare : goal.returns-clause-spare
returns-clause-spare c =
    let w = written c.args.out.now.bytes (0 ∷ 0 ∷ 0 ∷ 0 ∷ []) (payload_of c.args.wire.now) c.put_wire.new.out.bytes c.append.new.self.bytes c.append.new.self.spare c.put_wire.new.out.spare
    refl c.append.ensures.bytes c.put_wire.ensures.bytes c.put_wire.ensures.room c.put_wire.ensures.some c.put_wire.ensures.most in
    omega (arith, w.spare, c.set_number.ensures.spare, c.append.ensures.spare)
