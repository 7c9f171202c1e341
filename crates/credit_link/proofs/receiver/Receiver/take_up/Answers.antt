-- The frame that is there is the next one.
use Rattle.std.proofs.Common.{◌≡◌, ◌+◌, ◌++◌, ℕ, List, false, IsTrue, length, take, drop, sym, ap, ◌∙◌, subst, arith}
use Rattle.std.proofs.lemmas.List.{length-take, length-drop, drop-drop}
use Rattle.sha2.specs.Hashers.{Holds256}
use Rattle.node_frames.specs.declared.frame.Frame.{Frame}
use Rattle.node_frames.specs.declared.wire.Wire.{Wire}
use Rattle.node_frames.specs.declared.wire.Wire.TheVariants.{Plain}
use Rattle.node_frames.specs.Table.{Spells}
use Rattle.node_frames.specs.Link.{framed, Opens}
use Rattle.node_frames.proofs.Bytes.{AreBytes}
use Rattle.credit_link.specs.Frames.{bytes_of_all, wire_behind, is_finish}
use Rattle.credit_link.specs.Ahead.{HasWhole, payload_ahead}
use Rattle.credit_link.specs.Receiving.{ReceiverSeen, GivesFrame}
use Rattle.credit_link.proofs.Listed.{bytes_one_more}
use Rattle.credit_link.proofs.Pulled.{plain_wire, ahead, counters_on, pulled_stands, gives, or_plain}
use Rattle.credit_link.proofs.receiver.Receiver.take_up.Goals as goal

pub invariant_of-self : goal.invariant_of-self
invariant_of-self c =
    let i = c.self.inside in
    let frame = c.args.frame.now in
    let given : List Frame = i.given.items in
    let box : List ℕ = drop i.start (take i.end i.bytes.items) in
    let is : box ≡ c.args.self.now.box = ap (λ (s : ReceiverSeen). s.box) c.self.view_is in
    let there = subst (λ (b : List ℕ). HasWhole b c.args.len) (sym is) c.requires.whole in
    let spells = subst (λ (b : List ℕ). Spells (Plain frame) (payload_ahead b c.args.len)) (sym is) c.requires.spells in
    let are = subst AreBytes (c.between-received.ensures ∙ ap (λ bytes. drop i.start (take i.end bytes)) c.as_slice.ensures.value) c.are_bytes.ensures in
    let at = ahead (Plain frame) box c.args.len are there spells in
    let plain = plain_wire frame (payload_ahead box c.args.len) spells in
    let wire : wire_behind given frame ≡ Plain frame = plain.1 (length given) (bytes_of_all given) in
    let now : ReceiverSeen = record { credits = i.credits; given = given; box = box; owed = i.owed; paid = i.paid; ungranted = i.ungranted; last = i.last; finished = i.finished; fault = i.fault } in
    let later : List ℕ = drop (i.start + (4 + c.args.len)) (take i.end i.bytes.items) in
    let H : List ℕ → Type 0 = λ bytes. Holds256 c.update.new.self bytes in
    let K : List ℕ → Type 0 = λ bytes. H (bytes_of_all given ++ bytes) in
    let piece : c.front.result.now ≡ framed (wire_behind given frame) =
    c.front.ensures ∙ ap (take (4 + c.args.len)) (c.between-received.ensures ∙ ap (λ bytes. drop i.start (take i.end bytes)) c.as_slice.ensures.value) ∙ at.front ∙ ap framed (sym wire) in (
      pulled_stands now frame c.and-self-inside.result.items later c.saturating_add-self-inside-3.result i.at i.finished c.self.invariant.0 c.and-self-inside.ensures
          (omega (arith, length-drop (i.start + (4 + c.args.len)) (take i.end i.bytes.items), length-take i.end i.bytes.items, c.self.invariant.1.within.1)) c.saturating_add-self-inside-3.ensures c.self.invariant.1.at_is (or_plain i.finished (is_finish frame) plain.0),
      counters_on given c.and-self-inside.result.items frame i.bytes.items i.start i.end i.taken c.saturating_add-self-inside-2.result i.at c.saturating_add-self-inside.result c.args.len i.over c.past-self-inside.result
          i.digest c.update.new.self i.finished i.finished i.fault c.self.invariant.1 c.and-self-inside.ensures there (ap (λ (w : Wire). length (framed w)) wire ∙ at.long) c.saturating_add-self-inside-2.ensures
          c.saturating_add-self-inside.ensures c.past-self-inside.ensures
          (λ none going. subst H (sym (bytes_one_more given frame)) (subst K piece (c.update.ensures (bytes_of_all given) (c.self.invariant.1.digested none going)))),
    )

pub returns-clause-gives : goal.returns-clause-gives
returns-clause-gives c =
    let i = c.self.inside in
    let frame = c.args.frame.now in
    let given : List Frame = i.given.items in
    let box : List ℕ = drop i.start (take i.end i.bytes.items) in
    let is : box ≡ c.args.self.now.box = ap (λ (s : ReceiverSeen). s.box) c.self.view_is in
    let there = subst (λ (b : List ℕ). HasWhole b c.args.len) (sym is) c.requires.whole in
    let spells = subst (λ (b : List ℕ). Spells (Plain frame) (payload_ahead b c.args.len)) (sym is) c.requires.spells in
    let are = subst AreBytes (c.between-received.ensures ∙ ap (λ bytes. drop i.start (take i.end bytes)) c.as_slice.ensures.value) c.are_bytes.ensures in
    let at = ahead (Plain frame) box c.args.len are there spells in
    let plain = plain_wire frame (payload_ahead box c.args.len) spells in
    let wire : wire_behind given frame ≡ Plain frame = plain.1 (length given) (bytes_of_all given) in
    let now : ReceiverSeen = record { credits = i.credits; given = given; box = box; owed = i.owed; paid = i.paid; ungranted = i.ungranted; last = i.last; finished = i.finished; fault = i.fault } in
    let later : List ℕ = drop (i.start + (4 + c.args.len)) (take i.end i.bytes.items) in
    let after : ReceiverSeen = record now { given = c.and-self-inside.result.items; box = later; ungranted = c.saturating_add-self-inside-3.result; last = i.at } in
    let opens : Opens (wire_behind given frame) box later =
    subst (λ (w : Wire). Opens w box later) (sym wire) (subst (λ (b : List ℕ). Opens (Plain frame) box b) (drop-drop (4 + c.args.len) i.start (take i.end i.bytes.items)) at.opens) in
    let once : IsTrue (is_finish frame) → i.finished ≡ false = λ yes_it_is. let no_it_is_not = plain.0 in cc in
    subst (λ (before : ReceiverSeen). GivesFrame before after frame) c.self.view_is
    (gives now frame c.and-self-inside.result.items later c.saturating_add-self-inside-3.result i.at i.finished opens once
    c.and-self-inside.ensures c.saturating_add-self-inside-3.ensures c.self.invariant.1.at_is (or_plain i.finished (is_finish frame) plain.0))

pub returns-clause-stands : goal.returns-clause-stands
returns-clause-stands c = (invariant_of-self c).0
