use Rattle.std.proofs.Common.{◌≡◌, ◌∙◌, ◌+◌, ◌-◌, ◌≤◌, sym, ap, refl, ℕ, List, [], length, take, drop, arith, Option, Some, None, Ok, length-take, length-drop}
use Rattle.std.specs.Prelude.{nat_lt}
use Rattle.std.proofs.lemmas.Bool.Decides.{nat_tests}
use Rattle.std.proofs.lemmas.List.{append-nil, drop-drop, take_rest}
use Rattle.std.proofs.lemmas.Result.{err_from_is_err_and}
use Rattle.ds_base.specs.declared.capture.Bad.{Bad}
use Rattle.pcap_reader.specs.declared.format.Format.{Format}
use Rattle.pcap_reader.specs.Format.{header_of}
use Rattle.pcap_reader.specs.Libpcap.{libpcap_bad}
use Rattle.pcap_reader.specs.LibpcapReader.{Reader, StandsFor}
use Rattle.pcap_reader.proofs.Standing.{now_open, gives_next, gives_bad, IsTail, tail, bad_of_fault}
use Rattle.pcap_reader.proofs.Formats.{bad_other, cut_other}
use Rattle.pcap_reader.proofs.Numbers.{all_of_libpcap}
use Rattle.pcap_reader.proofs.check.check_file.Goals as goal

-- a reader of a whole file that has come to a place
abbrev reader_at : Option Format → (count place : ℕ) → List ℕ → Reader
reader_at format count place bytes = record { format = format; count = count; place = place; rest = drop place bytes; spent = [] }

-- before the header is read
at_start : (f : Format) (bytes : List ℕ) → 24 ≤ length bytes → header_of (take 24 bytes) ≡ Ok f → StandsFor (reader_at (Some f) 0 24 bytes) bytes []
at_start f bytes long h =
    let start : StandsFor (record { format = None; count = 0; place = 0; rest = bytes; spent = [] }) bytes [] = record {
      fed_length = omega arith;
      given_length = refl;
      position = record { rest = refl; place = refl; count = refl };
    } in
    now_open f (record { format = None; count = 0; place = 0; rest = bytes; spent = [] }) (reader_at (Some f) 0 24 bytes)
    refl long h refl refl refl refl bytes [] start

less_is_some : (place len left : ℕ) → left ≡ len - place → nat_lt place len ≡ nat_lt 0 left
less_is_some place len left h = grind (arith, nat_tests)

pub returns-in_err-format-clause-bad : goal.returns-in_err-format-clause-bad
returns-in_err-format-clause-bad c =
    let b : Bad = c.in_err-format.field-0.0 in
    let p = err_from_is_err_and c.from_residual.result c.from_residual.ensures.1 in
    rw (p.1, p.2) (bad_other c.args.bytes.now c.requires.libpcap ∙ bad_of_fault b c.args.bytes.now (sym (c.in_err-format.ensures.value ∙ ap header_of c.front.ensures)))

pub loop-len-init : goal.loop-len-init
loop-len-init c =
    let bytes : List ℕ = c.args.bytes.now in
    let long : 24 ≤ length bytes = omega (arith, c.in_ok-format.ensures.whole, ap length c.front.ensures, length-take 24 bytes) in
    record {
      within = long;
      stands = ([], at_start c.in_ok-format.format bytes long (sym (c.in_ok-format.ensures.value ∙ ap header_of c.front.ensures)));
    }

pub returns-in_err-len-clause-bad : goal.returns-in_err-len-clause-bad
returns-in_err-len-clause-bad c =
    let bytes : List ℕ = c.args.bytes.now in
    let f : Format = c.in_ok-format.format in
    let b : Bad = c.in_err-len.field-0.0 in
    let found = rw take_rest at c.in_err-len.ensures.found in
    let reader : Reader = reader_at (Some f) c.loop-len.records c.loop-len.at bytes in
    let p = err_from_is_err_and c.from_residual-in_err-len.result c.from_residual-in_err-len.ensures.1 in
    rw (p.1, p.2) (bad_other bytes c.requires.libpcap ∙ ap libpcap_bad (sym (append-nil bytes))
    ∙ (gives_bad f reader b refl (found.0) (found.1) (found.2)).bad bytes c.loop-len.invariant.stands.0 c.loop-len.invariant.stands.1 [])

pub loop-len-preserved : goal.loop-len-preserved
loop-len-preserved c =
    let bytes : List ℕ = c.args.bytes.now in
    let f : Format = c.in_ok-format.format in
    let count : ℕ = c.loop-len.records in
    let at : ℕ = c.loop-len.at in
    let len : ℕ = c.in-Some.len in
    let found = rw (c.in-Some.is, take_rest) at c.in_ok-len.ensures.found in
    let bounds = rw (c.in-Some.is, take_rest) at c.in_ok-len.ensures.bounds in
    let old : Reader = reader_at (Some f) count at bytes in
    let new : Reader = reader_at (Some f) (count + 1) (at + len) bytes in
    let next = gives_next f old new refl refl (found.0) (found.1) refl (ap (λ (n : ℕ). at + n) (found.2))
    (sym (drop-drop len at bytes) ∙ ap (λ (n : ℕ). drop n (drop at bytes)) (found.2))
    (omega (arith, length-drop at bytes, length-drop (at + len) bytes)) in
    record {
      within = omega (arith, c.loop-len.invariant.within, bounds.1, length-drop at bytes);
      stands = (_, next.stands bytes c.loop-len.invariant.stands.0 c.loop-len.invariant.stands.1);
    }

pub returns-clause-whole : goal.returns-clause-whole
returns-clause-whole c =
    let bytes : List ℕ = c.args.bytes.now in
    let f : Format = c.in_ok-format.format in
    let found = rw (c.in_default.is, take_rest) at c.in_ok-len.ensures.found in
    let reader : Reader = reader_at (Some f) c.loop-len.records c.loop-len.at bytes in
    let t : IsTail reader bytes = tail f reader bytes c.loop-len.invariant.stands.0 refl (record { waits = (found.0, found.1) }) c.loop-len.invariant.stands.1 in (
      bad_other bytes c.requires.libpcap ∙ t.bad,
      sym t.records ∙ sym (ap length (all_of_libpcap bytes c.requires.libpcap)),
      less_is_some c.loop-len.at (length bytes) (length (drop c.loop-len.at bytes)) (length-drop c.loop-len.at bytes) ∙ sym t.cut ∙ sym (cut_other bytes c.requires.libpcap),
    )
