use Rattle.std.proofs.Common.{arith}
use Rattle.node_frames.proofs.Bytes.{AreBytes}
use Rattle.node_frames.proofs.Decoded.{answer_spells, answer_refuses, answer_only}
use Rattle.node_frames.proofs.decoding.decode.Goals as goal

pub returns : goal.returns
returns c =
    let are : AreBytes c.args.payload.now = λ i. let fits = c.type_inv.payload i in omega arith in
    record {
      spelled = answer_spells c.args.payload.now c.decode_by_rows.result are c.decode_by_rows.ensures.read;
      refused = answer_refuses c.args.payload.now c.decode_by_rows.result c.decode_by_rows.ensures.refused;
      only = answer_only c.args.payload.now c.decode_by_rows.result c.decode_by_rows.ensures.read c.decode_by_rows.ensures.refused;
    }
