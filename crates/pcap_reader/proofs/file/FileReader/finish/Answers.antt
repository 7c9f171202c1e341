use Rattle.std.proofs.Common.{◌∙◌, sym, subst}
use Rattle.std.proofs.lemmas.Result.{err_from_is_err_and}
use Rattle.ds_base.specs.declared.capture.Bad.{Bad}
use Rattle.pcap_reader.specs.declared.file.FileReader.{FileReader}
use Rattle.pcap_reader.specs.Files.{Holds, HoldsLibpcap, HoldsNg}
use Rattle.pcap_reader.proofs.Formats.{bad_other, bad_ng, cut_other, cut_ng}
use Rattle.pcap_reader.proofs.Filing.{all_of}
use Rattle.pcap_reader.proofs.file.FileReader.finish.Goals as goal

pub returns-in_err-tail-in-Libpcap-clause-short : goal.returns-in_err-tail-in-Libpcap-clause-short
returns-in_err-tail-in-Libpcap-clause-short c =
    let b : Bad = c.in_err-tail-in-Libpcap.field-0.0 in
    let p = err_from_is_err_and c.from_residual.result c.from_residual.ensures.1 in
    rw (p.1, p.2) (λ fed all h.
    let H : FileReader → Type 0 = λ f. Holds f fed all in
    let is : HoldsLibpcap c.in-Libpcap.reader fed all = subst H c.in-Libpcap.is h in
    let e = c.in_err-tail-in-Libpcap.ensures.short fed is.records is.stands in
    (bad_other fed is.other ∙ e.0, e.1))

pub returns-in_err-tail-in-Ng-clause-short : goal.returns-in_err-tail-in-Ng-clause-short
returns-in_err-tail-in-Ng-clause-short c =
    let b : Bad = c.in_err-tail-in-Ng.field-0.0 in
    let p = err_from_is_err_and c.from_residual-in_err-tail-in-Ng.result c.from_residual-in_err-tail-in-Ng.ensures.1 in
    rw (p.1, p.2) (λ fed all h.
    let H : FileReader → Type 0 = λ f. Holds f fed all in
    let is : HoldsNg c.in-Ng.reader fed all = subst H c.in-Ng.is h in
    let e = c.in_err-tail-in-Ng.ensures.short fed all is.stands in
    (bad_ng fed is.pcapng ∙ e.0, e.1))

pub returns-in_ok-tail-in-Libpcap-clause-whole : goal.returns-in_ok-tail-in-Libpcap-clause-whole
returns-in_ok-tail-in-Libpcap-clause-whole c fed all h =
    let H : FileReader → Type 0 = λ f. Holds f fed all in
    let is : HoldsLibpcap c.in-Libpcap.reader fed all = subst H c.in-Libpcap.is h in
    let e = c.in_ok-tail-in-Libpcap.ensures.whole fed is.records is.stands in
    (all_of c.args.self.now fed all c.requires h, bad_other fed is.other ∙ e.0, e.2 ∙ sym (cut_other fed is.other))

pub returns-in_ok-tail-in-Ng-clause-whole : goal.returns-in_ok-tail-in-Ng-clause-whole
returns-in_ok-tail-in-Ng-clause-whole c fed all h =
    let H : FileReader → Type 0 = λ f. Holds f fed all in
    let is : HoldsNg c.in-Ng.reader fed all = subst H c.in-Ng.is h in
    let e = c.in_ok-tail-in-Ng.ensures.whole fed all is.stands in
    (all_of c.args.self.now fed all c.requires h, bad_ng fed is.pcapng ∙ e.0, e.2 ∙ sym (cut_ng fed is.pcapng))
