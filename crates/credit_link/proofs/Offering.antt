-- A frame is offered: what is true of a sender stays true.
use Rattle.std.proofs.Common.{replicate, ◌≡◌, ◌<◌, ◌≤◌, ℕ, ◌+◌, max, Bool, false, List, [], ◌∷◌, ◌++◌, length, drop, sym, ap, ◌∙◌, subst, arith, append-nil, length-append}
use Rattle.std.proofs.lemmas.List.{length-drop}
use Rattle.node_frames.specs.declared.frame.Frame.{Frame}
use Rattle.node_frames.specs.declared.wire.Wire.{Wire}
use Rattle.node_frames.specs.Table.{Spells, payload_of}
use Rattle.node_frames.specs.Link.{SpellsAll, framed, wire_of}
use Rattle.node_frames.proofs.Links.{frame_is_offered}
use Rattle.credit_link.specs.Frames.{capped, IsCounted, bytes_of_all, wire_behind, is_finish, has_finish, FinishIsLast}
use Rattle.credit_link.specs.Sending.{SenderSeen, SenderStands}
use Rattle.ds_base.specs.Pipes.{PipeSeen}
use Rattle.credit_link.specs.Ends.{OnPipes}
use Rattle.credit_link.proofs.Listed.{plain_anywhere, bytes_one_more, finish_one_more, finish_stays_last}

-- nothing is left behind exactly all bytes
pub none_left : (gone : ℕ) (bytes : List ℕ) → gone ≤ length bytes → drop gone bytes ≡ [] → gone ≡ length bytes
none_left gone bytes within e = omega (arith, length-drop gone bytes, ap length e)

counted_before : (frames : List Frame) (frame : Frame) → IsCounted (frames ++ frame ∷ []) → IsCounted frames
counted_before frames frame h = omega (arith, length-append frames (frame ∷ []), h)

pub offered_stands : (s : SenderSeen) (frame : Frame) (offered : List Frame) (left : List ℕ) (most : ℕ) (finished : Bool) → SenderStands s → s.held < s.credits → s.finished ≡ false
    → offered ≡ s.offered ++ frame ∷ [] → most ≡ max s.most_held (s.held + 1) → finished ≡ is_finish frame
    → (IsCounted s.offered → Spells (wire_behind s.offered frame) (payload_of (wire_behind s.offered frame)) × (length (payload_of (wire_behind s.offered frame)) ≤ 1024))
    → SenderStands (record { credits = s.credits; offered = offered; left = left; held = s.held + 1; repaid = s.repaid; most_held = most; finished = finished; fault = s.fault })
offered_stands s frame offered left most finished old free going on top ends spelled =
    let none : has_finish s.offered ≡ false = sym old.ended ∙ going in
    record {
      some = old.some;
      within = omega arith;
      most = omega (arith, top);
      most_within = omega (arith, top, old.most_within, free);
      repaid_fits = old.repaid_fits;
      counts = λ counted.
          let all : IsCounted (s.offered ++ frame ∷ []) = subst IsCounted on counted in
          let before = old.counts (counted_before s.offered frame all) in
          let len : length offered ≡ length s.offered + 1 = ap length on ∙ length-append s.offered (frame ∷ []) in
          omega arith;
      spelled = λ counted.
          let all : IsCounted (s.offered ++ frame ∷ []) = subst IsCounted on counted in
          let few = counted_before s.offered frame all in
          let fit = spelled few in
          let P : List Frame → Type 0 = λ fs. SpellsAll fs (bytes_of_all fs) [] in
          let Q : List ℕ → Type 0 = λ bytes. SpellsAll (s.offered ++ frame ∷ []) bytes [] in
          subst P (sym on) (subst Q (sym (bytes_one_more s.offered frame)) (frame_is_offered s.offered frame (bytes_of_all s.offered) (old.spelled few) fit.0 fit.1));
      ended = ends ∙ sym (finish_one_more s.offered frame none) ∙ ap has_finish (sym on);
      last = subst FinishIsLast (sym on) (finish_stays_last s.offered frame none);
    }

-- the frame that is offered, as it is spelled: its number is that of the frames before it where a u64 counts these
pub spelled_here : (s : SenderSeen) (frame : Frame) (sent : ℕ) (wire : Wire) → sent ≡ capped (length s.offered) → wire ≡ wire_of sent (bytes_of_all s.offered) frame
    → Spells wire (payload_of wire) → length (payload_of wire) ≤ 1024
    → IsCounted s.offered → Spells (wire_behind s.offered frame) (payload_of (wire_behind s.offered frame)) × (length (payload_of (wire_behind s.offered frame)) ≤ 1024)
spelled_here s frame sent wire capped_at is spells short counted =
    let exact : sent ≡ length s.offered = omega (arith, capped_at, counted) in
    let same : wire ≡ wire_behind s.offered frame = is ∙ ap (λ n. wire_of n (bytes_of_all s.offered) frame) exact in
    let P : Wire → Type 0 = λ w. Spells w (payload_of w) × (length (payload_of w) ≤ 1024) in
    subst P same (spells, short)

-- the digest takes the bytes of a frame that is not the end
pub digested_on : (offered : List Frame) (frame : Frame) (sent : ℕ) (wire : Wire) (Holds : List ℕ → Type 0) → wire ≡ wire_of sent (bytes_of_all offered) frame → is_finish frame ≡ false
    → Holds (bytes_of_all offered ++ framed wire) → Holds (bytes_of_all (offered ++ frame ∷ []))
digested_on offered frame sent wire Holds is plain holds =
    let same : wire ≡ wire_behind offered frame = is ∙ plain_anywhere frame sent (length offered) (bytes_of_all offered) (bytes_of_all offered) plain in
    let P : Wire → Type 0 = λ w. Holds (bytes_of_all offered ++ framed w) in
    subst Holds (sym (bytes_one_more offered frame)) (subst P same holds)

-- what was put and what is left are the bytes of the frames offered, the new one's with them
pub offered_on_pipes : (s after : SenderSeen) (frame : Frame) (forth back : PipeSeen) → OnPipes s forth back → s.left ≡ [] → after.offered ≡ s.offered ++ frame ∷ []
    → (IsCounted after.offered → after.left ≡ framed (wire_behind s.offered frame)) → after.repaid ≡ s.repaid → after.fault ≡ s.fault → OnPipes after forth back
offered_on_pipes s after frame forth back pipes empty on left repaid fault = record {
  put = λ counted told.
      let few : IsCounted s.offered = counted_before s.offered frame (subst IsCounted on counted) in
      let put : forth.bytes ≡ bytes_of_all s.offered = sym (append-nil forth.bytes) ∙ ap (λ more. forth.bytes ++ more) (sym empty) ∙ pipes.put few told in
      ap (λ more. forth.bytes ++ more) (left counted) ∙ ap (λ front. front ++ framed (wire_behind s.offered frame)) put ∙ sym (bytes_one_more s.offered frame) ∙ ap bytes_of_all (sym on);
  forth_heard = pipes.forth_heard;
  back_heard = pipes.back_heard;
  repaid = λ counted told none. pipes.repaid (counted_before s.offered frame (subst IsCounted on counted)) told (sym fault ∙ none) ∙ ap (λ k. replicate k 1) (sym repaid);
}
