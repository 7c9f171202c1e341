use Rattle.std.proofs.Common.{◌≡◌, ◌∙◌, sym, ap, subst, ℕ, List, length, drop, refl, arith, length-take}
use Rattle.pcapng_reader.specs.Packet.{Packet}
use Rattle.pcapng_reader.specs.Packets.{packet_of}
use Rattle.pcapng_reader.specs.Reader.{Reader, GivesNext, IsFound, last_block, lent}
use Rattle.pcapng_reader.specs.contracts.reader.NgReader.{the_view}
use Rattle.pcapng_reader.specs.declared.packet.InBlock.{InBlock}
use Rattle.pcapng_reader.proofs.Standing.{length_last}
use Rattle.pcapng_reader.proofs.reader.NgReader.next.Goals as goal

pub lend-requires : goal.lend-requires
lend-requires c =
    let found : InBlock = c.in-Some.found in
    let mid : Reader = the_view c.self.inside in
    let h = rw c.in-Some.is at c.in_ok-found.ensures in
    let O : Reader → Type 0 = λ r. IsFound c.args.self.now found r in
    let is_found : O mid = subst O (sym c.self.view_is) h in
    omega (arith, is_found.within.there, ap length c.last_spent-block.ensures, length_last c.self.inside.bytes.spent found.len is_found.there)

pub returns-in-Some : goal.returns-in-Some
returns-in-Some c =
    let found : InBlock = c.in-Some.found in
    let old : Reader = c.args.self.now in
    let mid : Reader = the_view c.self.inside in
    let h = rw c.in-Some.is at c.in_ok-found.ensures in
    let O : Reader → Type 0 = λ r. IsFound old found r in
    let is_found : O mid = subst O (sym c.self.view_is) h in
    let block : List ℕ = c.last_spent-block.result.now in
    let value : lent c.lend.result ≡ packet_of found.packet block = c.lend.ensures in
    let is_block : block ≡ last_block found.len mid = c.last_spent-block.ensures in
    let N : Packet → Type 0 = λ p. GivesNext old p mid in (
      (refl, (λ _. tt), subst N (sym (value ∙ ap (packet_of found.packet) is_block)) is_found.next),
      record {
        lawful = record {
          number = omega (arith, is_found.number, is_found.within.number_is, ap (λ (p : Packet). p.number) value);
          time = omega (arith, is_found.within.time, ap (λ (p : Packet). p.time) value);
          length = omega (arith, ap (λ (p : Packet). length p.bytes) value, length-take found.packet.len (drop found.packet.from block), is_found.within.few);
        };
        long = tt;
        bounded = tt;
        after = tt;
      },
    )
