use Rattle.std.proofs.Common.{rules}
use Rattle.command_words.specs.declared.shape.Shape.TheVariants.{Plain, Apart, Joined}
use Rattle.command_words.proofs.Taking.{value_stands, value_refused, word_stands, word_refused, apart_refused, joined_stands, joined_refused, shape_at, within, none_at, other_refused, unneeded_refused}
use Rattle.command_words.proofs.reading.step.Goals as goal

pub returns-then-not-is_required-clause-refused : goal.returns-then-not-is_required-clause-refused
returns-then-not-is_required-clause-refused c =
    unneeded_refused c.args.command c.args.read c.args.word.now c.in-Some.option c.in-Some.is (search rules)

pub returns-in-Some-clause-stands : goal.returns-in-Some-clause-stands
returns-in-Some-clause-stands c =
    value_stands c.args.command c.args.read c.args.word.now c.in-Some.option c.take_value.result c.in-Some.is (search rules) c.take_value.ensures.kind c.take_value.ensures.becomes

pub returns-in-Some-clause-refused : goal.returns-in-Some-clause-refused
returns-in-Some-clause-refused c =
    value_refused c.args.command c.args.read c.args.word.now c.in-Some.option c.take_value.result c.in-Some.is c.take_value.ensures.none

pub returns-in-Some-Plain-clause-stands : goal.returns-in-Some-Plain-clause-stands
returns-in-Some-Plain-clause-stands c =
    let is = shape_at c.args.command _ c.args.word.now _ Plain c.row_of.ensures.options c.in-Some-Plain.field-0-is c.in-Some-Plain.ensures.is in
    word_stands c.args.command c.args.read c.args.word.now c.take_word.result c.in_default.is is c.take_word.ensures.more c.take_word.ensures.kind c.take_word.ensures.becomes

pub returns-in-Some-Plain-clause-refused : goal.returns-in-Some-Plain-clause-refused
returns-in-Some-Plain-clause-refused c =
    let is = shape_at c.args.command _ c.args.word.now _ Plain c.row_of.ensures.options c.in-Some-Plain.field-0-is c.in-Some-Plain.ensures.is in
    word_refused c.args.command c.args.read c.args.word.now c.take_word.result c.in_default.is is c.take_word.ensures.none

pub returns-in-Some-Apart-clause-refused : goal.returns-in-Some-Apart-clause-refused
returns-in-Some-Apart-clause-refused c =
    let k = c.in-Some-Apart.option in
    let is = shape_at c.args.command _ c.args.word.now _ (Apart k) c.row_of.ensures.options c.in-Some-Apart.field-0-is c.in-Some-Apart.ensures.is in
    apart_refused c.args.command c.args.read c.args.word.now k c.await_value.result c.in_default.is (within c.args.command k is.0) is.1 c.await_value.ensures.none

pub returns-in-Some-Joined-clause-stands : goal.returns-in-Some-Joined-clause-stands
returns-in-Some-Joined-clause-stands c =
    let k = c.in-Some-Joined.option in
    let is = shape_at c.args.command _ c.args.word.now _ (Joined k c.in-Some-Joined.value) c.row_of.ensures.options c.in-Some-Joined.field-0-is c.in-Some-Joined.ensures.is in
    joined_stands c.args.command c.args.read c.args.word.now k c.in-Some-Joined.value.now c.take_value-in-Some-Joined.result c.in_default.is (within c.args.command k is.0) is.1
    c.take_value-in-Some-Joined.ensures.free c.take_value-in-Some-Joined.ensures.kind c.take_value-in-Some-Joined.ensures.becomes

pub returns-in-Some-Joined-clause-refused : goal.returns-in-Some-Joined-clause-refused
returns-in-Some-Joined-clause-refused c =
    let k = c.in-Some-Joined.option in
    let is = shape_at c.args.command _ c.args.word.now _ (Joined k c.in-Some-Joined.value) c.row_of.ensures.options c.in-Some-Joined.field-0-is c.in-Some-Joined.ensures.is in
    joined_refused c.args.command c.args.read c.args.word.now k c.in-Some-Joined.value.now c.take_value-in-Some-Joined.result c.in_default.is (within c.args.command k is.0) is.1
    c.take_value-in-Some-Joined.ensures.none

pub returns-in-None-clause-refused : goal.returns-in-None-clause-refused
returns-in-None-clause-refused c =
    other_refused c.args.command c.args.read c.args.word.now c.in_default.is c.in-None.ensures.no_word
    (none_at c.args.command _ c.args.word.now _ c.row_of.ensures.options c.row_of.ensures.as_many c.in-None.ensures.no_option)
