-- The link's end tells of what came before it, or of something else.
use Rattle.std.proofs.Common.{rules, ◌≡◌, ◌+◌, ℕ, List, true, false, Some, Err, length, take, drop, refl, sym, ap, ◌∙◌, subst, inr, arith}
use Rattle.std.proofs.lemmas.List.{length-take, length-drop, drop-drop}
use Rattle.sha2.specs.Sha256.{sha256}
use Rattle.node_frames.specs.declared.frame.Frame.{Frame}
use Rattle.node_frames.specs.declared.frame.Frame.TheVariants.{Finish}
use Rattle.node_frames.specs.declared.wire.Wire.{Wire}
use Rattle.node_frames.specs.declared.wire.Wire.TheVariants.{Sealed}
use Rattle.node_frames.specs.declared.wire.Seal.{Seal}
use Rattle.node_frames.specs.Table.{Spells}
use Rattle.node_frames.specs.Link.{framed, Opens}
use Rattle.node_frames.proofs.Bytes.{AreBytes}
use Rattle.credit_link.specs.declared.link_bad.LinkBad.{LinkBad}
use Rattle.credit_link.specs.declared.link_bad.LinkBad.TheVariants as Bad
use Rattle.credit_link.specs.Frames.{bytes_of_all, wire_behind}
use Rattle.credit_link.specs.Ahead.{HasWhole, payload_ahead}
use Rattle.credit_link.specs.Receiving.{ReceiverSeen, GivesFrame}
use Rattle.credit_link.specs.Pulling.{PullAnswers, IsSealBad}
use Rattle.credit_link.proofs.Pulled.{ahead, counters_on, pulled_stands, gives, found_of}
use Rattle.credit_link.proofs.receiver.Receiver.end.Goals as goal

pub returns-then-differs-clause-answers : goal.returns-then-differs-clause-answers
returns-then-differs-clause-answers c =
    let i = c.self.inside in
    let given : List Frame = i.given.items in
    let box : List ℕ = drop i.start (take i.end i.bytes.items) in
    let is : box ≡ c.args.self.now.box = ap (λ (s : ReceiverSeen). s.box) c.self.view_is in
    let fault = ap (λ (s : ReceiverSeen). s.fault) c.self.view_is ∙ c.requires.fault in
    let sum : c.finalize_reset.result ≡ sha256 (bytes_of_all given) = c.finalize_reset.ensures.digest (bytes_of_all given) (c.self.invariant.1.digested fault c.if-self.false) in
    let found : Seal = record { frames = i.taken; digest = record { bytes = c.finalize_reset.result } } in
    let bad : LinkBad = Bad.Seal i.at c.args.told found in
    let now : ReceiverSeen = record { credits = i.credits; given = given; box = box; owed = i.owed; paid = i.paid; ungranted = i.ungranted; last = i.last; finished = i.finished; fault = i.fault } in
    let after : ReceiverSeen = record now { fault = Some bad } in
    let seal_bad : IsSealBad given i.finished box c.args.told found = record {
      len = c.args.len;
      whole = subst (λ (b : List ℕ). HasWhole b c.args.len) (sym is) c.requires.whole;
      spells = subst (λ (b : List ℕ). Spells (Sealed c.args.told) (payload_ahead b c.args.len)) (sym is) c.requires.spells;
      first = c.if-self.false;
      found_is = λ counted. (found_of given i.bytes.items i.start i.end i.taken i.at i.over i.digest i.finished i.fault c.finalize_reset.result c.self.invariant.1 sum counted).1;
      differs = λ counted. c.differs.ensures.differs c.if-differs.true (found_of given i.bytes.items i.start i.end i.taken i.at i.over i.digest i.finished i.fault c.finalize_reset.result c.self.invariant.1 sum counted).0;
    } in
    subst (λ (before : ReceiverSeen). PullAnswers before after (Err bad)) c.self.view_is
    (inr (inr (c.args.told, found, ap (λ n. Bad.Seal n c.args.told found) c.self.invariant.1.at_is, seal_bad), refl))

pub invariant_of-self-2 : goal.invariant_of-self-2
invariant_of-self-2 c =
    let i = c.self.inside in
    let given : List Frame = i.given.items in
    let box : List ℕ = drop i.start (take i.end i.bytes.items) in
    let is : box ≡ c.args.self.now.box = ap (λ (s : ReceiverSeen). s.box) c.self.view_is in
    let there = subst (λ (b : List ℕ). HasWhole b c.args.len) (sym is) c.requires.whole in
    let spells = subst (λ (b : List ℕ). Spells (Sealed c.args.told) (payload_ahead b c.args.len)) (sym is) c.requires.spells in
    let are = subst AreBytes (c.between.ensures ∙ ap (λ bytes. drop i.start (take i.end bytes)) c.as_slice.ensures.value) c.are_bytes.ensures in
    let at = ahead (Sealed c.args.told) box c.args.len are there spells in
    let fault = ap (λ (s : ReceiverSeen). s.fault) c.self.view_is ∙ c.requires.fault in
    let sum : c.finalize_reset.result ≡ sha256 (bytes_of_all given) = c.finalize_reset.ensures.digest (bytes_of_all given) (c.self.invariant.1.digested fault c.if-self.false) in
    let same = c.differs.ensures.agrees c.if-differs.false in
    let found = found_of given i.bytes.items i.start i.end i.taken i.at i.over i.digest i.finished i.fault c.finalize_reset.result c.self.invariant.1 sum (c.self.invariant.1.over_is same.0) in
    let wire : wire_behind given Finish ≡ Sealed c.args.told = ap (λ s. Sealed s) (sym found.1 ∙ sym same.1) in
    let now : ReceiverSeen = record { credits = i.credits; given = given; box = box; owed = i.owed; paid = i.paid; ungranted = i.ungranted; last = i.last; finished = i.finished; fault = i.fault } in
    let later : List ℕ = drop (i.start + (4 + c.args.len)) (take i.end i.bytes.items) in (
      pulled_stands now Finish c.and-self-inside.result.items later c.saturating_add-self-inside-3.result i.at true c.self.invariant.0 c.and-self-inside.ensures
          (omega (arith, length-drop (i.start + (4 + c.args.len)) (take i.end i.bytes.items), length-take i.end i.bytes.items, c.self.invariant.1.within.1)) c.saturating_add-self-inside-3.ensures c.self.invariant.1.at_is (search rules),
      counters_on given c.and-self-inside.result.items Finish i.bytes.items i.start i.end i.taken c.saturating_add-self-inside-2.result i.at c.saturating_add-self-inside.result c.args.len i.over c.past-self-inside.result
          i.digest c.finalize_reset.new.self i.finished true i.fault c.self.invariant.1 c.and-self-inside.ensures there (ap (λ (w : Wire). length (framed w)) wire ∙ at.long) c.saturating_add-self-inside-2.ensures
          c.saturating_add-self-inside.ensures c.past-self-inside.ensures
          (λ _ going. absurd (let never : true ≡ false = going in cc)),
    )

pub returns-clause-answers : goal.returns-clause-answers
returns-clause-answers c =
    let i = c.self.inside in
    let given : List Frame = i.given.items in
    let box : List ℕ = drop i.start (take i.end i.bytes.items) in
    let is : box ≡ c.args.self.now.box = ap (λ (s : ReceiverSeen). s.box) c.self.view_is in
    let there = subst (λ (b : List ℕ). HasWhole b c.args.len) (sym is) c.requires.whole in
    let spells = subst (λ (b : List ℕ). Spells (Sealed c.args.told) (payload_ahead b c.args.len)) (sym is) c.requires.spells in
    let are = subst AreBytes (c.between.ensures ∙ ap (λ bytes. drop i.start (take i.end bytes)) c.as_slice.ensures.value) c.are_bytes.ensures in
    let at = ahead (Sealed c.args.told) box c.args.len are there spells in
    let fault = ap (λ (s : ReceiverSeen). s.fault) c.self.view_is ∙ c.requires.fault in
    let sum : c.finalize_reset.result ≡ sha256 (bytes_of_all given) = c.finalize_reset.ensures.digest (bytes_of_all given) (c.self.invariant.1.digested fault c.if-self.false) in
    let same = c.differs.ensures.agrees c.if-differs.false in
    let found = found_of given i.bytes.items i.start i.end i.taken i.at i.over i.digest i.finished i.fault c.finalize_reset.result c.self.invariant.1 sum (c.self.invariant.1.over_is same.0) in
    let wire : wire_behind given Finish ≡ Sealed c.args.told = ap (λ s. Sealed s) (sym found.1 ∙ sym same.1) in
    let now : ReceiverSeen = record { credits = i.credits; given = given; box = box; owed = i.owed; paid = i.paid; ungranted = i.ungranted; last = i.last; finished = i.finished; fault = i.fault } in
    let later : List ℕ = drop (i.start + (4 + c.args.len)) (take i.end i.bytes.items) in
    let after : ReceiverSeen = record now { given = c.and-self-inside.result.items; box = later; ungranted = c.saturating_add-self-inside-3.result; last = i.at; finished = true } in
    let opens : Opens (wire_behind given Finish) box later =
    subst (λ (w : Wire). Opens w box later) (sym wire) (subst (λ (b : List ℕ). Opens (Sealed c.args.told) box b) (drop-drop (4 + c.args.len) i.start (take i.end i.bytes.items)) at.opens) in
    subst (λ (before : ReceiverSeen). GivesFrame before after Finish) c.self.view_is
    (gives now Finish c.and-self-inside.result.items later c.saturating_add-self-inside-3.result i.at true opens (λ _. c.if-self.false)
    c.and-self-inside.ensures c.saturating_add-self-inside-3.ensures c.self.invariant.1.at_is (search rules))

pub returns-clause-stands : goal.returns-clause-stands
returns-clause-stands c = (invariant_of-self-2 c).0
