-- What is true of a sender and of its buffers stays true when a frame is offered.
use Rattle.std.proofs.Common.{rules, ◌≡◌, ◌+◌, ℕ, List, [], ◌∷◌, ◌++◌, length, false, sym, ap, ◌∙◌, subst, arith, length-append}
use Rattle.sha2.specs.Hashers.{Holds256}
use Rattle.sha2.specs.declared.Sha256.{Sha256}
use Rattle.node_frames.specs.Fields.{bytes_of}
use Rattle.node_frames.specs.Table.{payload_of}
use Rattle.node_frames.specs.Link.{framed, wire_of}
use Rattle.node_frames.proofs.Bytes.{length-bytes_of}
use Rattle.credit_link.specs.Frames.{bytes_of_all, is_finish}
use Rattle.credit_link.specs.Sending.{SenderSeen}
use Rattle.credit_link.proofs.Offering.{offered_stands, spelled_here, digested_on}
use Rattle.credit_link.proofs.sender.Sender.offer.Goals as goal

pub invariant_of-self : goal.invariant_of-self
invariant_of-self c =
    let now : SenderSeen = record { credits = c.self.inside.credits; offered = c.self.inside.offered.items; left = []; held = c.self.inside.held; repaid = c.self.inside.repaid; most_held = c.self.inside.most_held; finished = c.self.inside.finished; fault = c.self.inside.fault } in
    let old = c.self.invariant.0 in
    let wire = c.wire_for-wire.result in
    let going : c.self.inside.finished ≡ false = ap (λ (s : SenderSeen). s.finished) c.self.view_is ∙ c.requires.unfinished in
    let digest = c.self.invariant.1.digested going in
    let is : wire ≡ wire_of c.self.inside.sent (bytes_of_all c.self.inside.offered.items) c.args.frame.now = c.wire_for-wire.ensures.wire _ digest in
    let out : c.encode.new.out.bytes ≡ framed wire = c.encode.ensures.bytes ∙ ap (λ (b : List ℕ). b ++ framed wire) c.clear.ensures.bytes in
    let long : length c.encode.new.out.bytes ≡ 4 + length (payload_of wire) =
    ap length out ∙ length-append (bytes_of 4 (length (payload_of wire))) (payload_of wire) ∙ ap (λ n. n + length (payload_of wire)) (length-bytes_of 4 (length (payload_of wire))) in (
      offered_stands now c.args.frame.now _ _ _ _ (record { some = old.some; within = old.within; most = old.most; most_within = old.most_within; repaid_fits = old.repaid_fits; counts = old.counts; spelled = old.spelled; ended = old.ended; last = old.last })
          (search rules) going c.and-self-inside.ensures c.max-self-inside.ensures c.ends-self-inside.ensures
          (spelled_here now c.args.frame.now c.self.inside.sent wire c.self.invariant.1.sent_is is c.encode.ensures.spells c.encode.ensures.length.1),
      record {
        gone_within = omega arith;
        room = omega (arith, long);
        short = omega (arith, long);
        sent_is = omega (arith, ap length c.and-self-inside.ensures ∙ length-append c.self.inside.offered.items (c.args.frame.now ∷ []));
        digested = λ plain.
            let not_end : is_finish c.args.frame.now ≡ false = sym c.ends-self-inside.ensures ∙ plain in
            let H : List ℕ → Type 0 = λ bytes. Holds256 c.update.new.self bytes in
            let K : List ℕ → Type 0 = λ bytes. H (bytes_of_all c.self.inside.offered.items ++ bytes) in
            let before : Sha256 → Type 0 = λ d. Holds256 d (bytes_of_all c.self.inside.offered.items) in
            let taken = c.update.ensures (bytes_of_all c.self.inside.offered.items) (subst before (sym (c.wire_for-wire.ensures.digest not_end)) digest) in
            rw c.and-self-inside.ensures (digested_on c.self.inside.offered.items c.args.frame.now c.self.inside.sent wire H is not_end (subst K (c.as_slice.ensures ∙ out) taken));
      },
    )

pub returns-clause-stands : goal.returns-clause-stands
returns-clause-stands c = (invariant_of-self c).0
