-- The lines of captures, one more.
use Rattle.std.proofs.Common.{ℕ, List, ◌++◌, ◌≡◌, ◌+◌, ◌∙◌, Some, drop, sym, ap, append_assoc}
use Rattle.std.specs.Prelude.{slice_get}
use Rattle.ds_base.specs.Items.{Items}
use Rattle.ds_base.specs.declared.capture.Counts.{Counts}
use Rattle.ds_base.proofs.Places.{drop_at}
use Rattle.answer_text.specs.Lines.{capture_text}
use Rattle.central_report.specs.Report.{capture_texts}

pub one_more_capture : (names : List (Items ℕ)) (counts : List Counts) (i : ℕ) (x : Counts) (before after whole : List ℕ)
    → slice_get counts i ≡ Some x → after ≡ before ++ capture_text names i x → before ++ capture_texts names i (drop i counts) ≡ whole
    → after ++ capture_texts names (i + 1) (drop (i + 1) counts) ≡ whole
one_more_capture names counts i x before after whole at put all =
    let left : List ℕ = capture_texts names (i + 1) (drop (i + 1) counts) in
    ap (λ text. text ++ left) put ∙ append_assoc before (capture_text names i x) left
    ∙ ap (λ ys. before ++ capture_texts names i ys) (sym (drop_at counts i x at)) ∙ all
