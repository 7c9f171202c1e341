use Rattle.std.proofs.Common.{List, ℕ, ◌++◌, ◌∷◌, [], ◌∙◌, ap, sym, subst}
use Rattle.ds_base.specs.declared.summary.Summary.{Summary}
use Rattle.packed_summaries.specs.Packed.{Packed}
use Rattle.packed_summaries.specs.Rows.{Fits, row_of}
use Rattle.packed_summaries.proofs.Unpacked.{rows_stay, summaries_more}
use Rattle.packed_summaries.proofs.packed_list.PackedList.push.Goals as goal

pub invariant_of-self-2 : goal.invariant_of-self-2
invariant_of-self-2 c =
    let l = c.self.inside in
    let s : Summary = c.args.s.now in
    let fits : Fits l.packing s = subst (λ (p : Packed). Fits p.shape s) (sym c.self.view_is) c.requires in
    rows_stay l.packing l.len l.words.items c.push_row.new.words.items s c.self.invariant fits
    (c.push_row.ensures ∙ ap (λ (xs : List ℕ). xs ++ row_of l.packing s) c.reserve.ensures.items)

pub returns-clause-pushed : goal.returns-clause-pushed
returns-clause-pushed c =
    let l = c.self.inside in
    let s : Summary = c.args.s.now in
    let fits : Fits l.packing s = subst (λ (p : Packed). Fits p.shape s) (sym c.self.view_is) c.requires in
    summaries_more l.packing l.len l.words.items c.push_row.new.words.items s c.self.invariant fits
    (c.push_row.ensures ∙ ap (λ (xs : List ℕ). xs ++ row_of l.packing s) c.reserve.ensures.items)
    ∙ ap (λ (p : Packed). p.items ++ s ∷ []) c.self.view_is
