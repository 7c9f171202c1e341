use Rattle.std.proofs.Common.{◌≡◌, ◌++◌, drop}
use Rattle.answer_text.specs.Pieces.{joined}
use Rattle.answer_text.specs.Lines.{class_texts}
use Rattle.answer_text.proofs.Classes.{texts_behind}
use Rattle.answer_text.proofs.profile.push_classes.Given as goal

-- what was put and what is left are together all classes
abbrev pub invariant-loop-class : goal.invariant-loop-class
invariant-loop-class l = l.text.items ++ texts_behind l.is_first (class_texts l.class (drop l.class l.classes))
    ≡ l.fn.text.items ++ joined (class_texts 0 l.classes)
