use Rattle.std.proofs.Common.{string_bytes, Global}
use Rattle.command_words.specs.Command.{asked_of}
use Rattle.command_words.proofs.Going.{no_items, some_items, end_only, end_place, word_place, go_accepts, go_only, go_refused}
use Rattle.command_words.proofs.words.+read_on.Goals as goal

pub returns-in-Some-clause-only : goal.returns-in-Some-clause-only
returns-in-Some-clause-only t c front h other acc =
    end_only c.args.command front _ (asked_of c.in-Some.made) other (no_items (string_bytes {Z = Global}) c.args.words.now c.in-empty.len_below) (c.in-Some.ensures.only front h) acc

pub returns-in-None-clause-refused : goal.returns-in-None-clause-refused
returns-in-None-clause-refused t c front h at =
    end_place c.args.command c.args.read front _ c.args.place (no_items (string_bytes {Z = Global}) c.args.words.now c.in-empty.len_below) h at (c.in-None.ensures.none front h)

pub returns-in-Some-step-clause-accepts : goal.returns-in-Some-step-clause-accepts
returns-in-Some-step-clause-accepts t c =
    let e = some_items (string_bytes {Z = Global}) c.args.words.now c.word-item.result c.as_str.result.now c.in-len1-up.len_at_least c.word-item.is c.as_str.ensures.value in
    go_accepts c.args.command c.args.read c.in-Some-step.next _ _ c.as_str.result.now c.read_on.result e c.in-Some-step.ensures.stands c.read_on.ensures.accepts

pub returns-in-Some-step-clause-only : goal.returns-in-Some-step-clause-only
returns-in-Some-step-clause-only t c =
    let e = some_items (string_bytes {Z = Global}) c.args.words.now c.word-item.result c.as_str.result.now c.in-len1-up.len_at_least c.word-item.is c.as_str.ensures.value in
    go_only c.args.command c.args.read c.in-Some-step.next _ _ c.as_str.result.now c.read_on.result e c.in-Some-step.ensures.stands c.read_on.ensures.only

pub returns-in-Some-step-clause-refused : goal.returns-in-Some-step-clause-refused
returns-in-Some-step-clause-refused t c =
    let e = some_items (string_bytes {Z = Global}) c.args.words.now c.word-item.result c.as_str.result.now c.in-len1-up.len_at_least c.word-item.is c.as_str.ensures.value in
    go_refused c.args.command c.args.read c.in-Some-step.next _ _ c.as_str.result.now c.args.place c.read_on.result e c.in-Some-step.ensures.stands c.read_on.ensures.refused

pub returns-in-None-step-clause-refused : goal.returns-in-None-step-clause-refused
returns-in-None-step-clause-refused t c front h at =
    let e = some_items (string_bytes {Z = Global}) c.args.words.now c.word-item.result c.as_str.result.now c.in-len1-up.len_at_least c.word-item.is c.as_str.ensures.value in
    word_place c.args.command c.args.read front _ _ c.as_str.result.now c.args.place e h at (c.in-None-step.ensures.refused front h)
