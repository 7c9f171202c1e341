use Rattle.std.proofs.Common.{◌≡◌, Some, length, take, sym, ap, ◌∙◌}
use Rattle.command_words.specs.declared.table.Name.TheVariants.{Count, Stack, Check, Central, Run, Sample}
use Rattle.command_words.specs.CommandTable.{plain_kinds}
use Rattle.command_words.specs.Words.{Asked, Says}
use Rattle.command_words.specs.Command.{asked_of}
use Rattle.command_words.specs.Reading.{shown_words, shown_values, given_values}
use Rattle.command_words.proofs.Asking.{none_waiting, none_short, made_accepts, made_only, for_values}
use Rattle.command_words.proofs.command.command_read.Goals as goal

pub returns-in-Some-clause-none : goal.returns-in-Some-clause-none
returns-in-Some-clause-none c = none_waiting c.args.command c.args.read c.in-Some.field-0 c.in-Some.is

pub returns-then-read-row_of-clause-none : goal.returns-then-read-row_of-clause-none
returns-then-read-row_of-clause-none c =
    none_short c.args.command c.args.read c.in_default.is (λ e. c.if-read-row_of.true (e ∙ sym (ap length c.row_of.ensures.plain)))

pub returns-in-Count-clause-accepts : goal.returns-in-Count-clause-accepts
returns-in-Count-clause-accepts c =
    let full : c.args.read.count ≡ length (plain_kinds c.args.command) = c.if-read-row_of.false ∙ ap length c.row_of.ensures.plain in
    let r = c.args.read in
    made_accepts c.args.command Count r c.count_of.result c.in-Count.is c.in_default.is full
    (for_values (λ v m. Says Count (take 3 (shown_words r)) v (asked_of m)) (given_values (shown_values r)) c.count_of.result c.count_of.ensures.said)

pub returns-in-Count-clause-only : goal.returns-in-Count-clause-only
returns-in-Count-clause-only c =
    let full : c.args.read.count ≡ length (plain_kinds c.args.command) = c.if-read-row_of.false ∙ ap length c.row_of.ensures.plain in
    let r = c.args.read in
    made_only c.args.command Count r c.count_of.result c.in-Count.is c.in_default.is full
    (for_values (λ v m. (a : Asked) → Says Count (take 3 (shown_words r)) v a → a ≡ asked_of m) (given_values (shown_values r)) c.count_of.result c.count_of.ensures.only)

pub returns-in-Stack-clause-only : goal.returns-in-Stack-clause-only
returns-in-Stack-clause-only c =
    let full : c.args.read.count ≡ length (plain_kinds c.args.command) = c.if-read-row_of.false ∙ ap length c.row_of.ensures.plain in
    made_only c.args.command Stack c.args.read c.stack_of.result c.in-Stack.is c.in_default.is full c.stack_of.ensures.only

pub returns-in-Check-clause-accepts : goal.returns-in-Check-clause-accepts
returns-in-Check-clause-accepts c =
    let full : c.args.read.count ≡ length (plain_kinds c.args.command) = c.if-read-row_of.false ∙ ap length c.row_of.ensures.plain in
    made_accepts c.args.command Check c.args.read (Some c.check_of.result) c.in-Check.is c.in_default.is full
    (c.check_of.ensures.said (given_values (shown_values c.args.read)))

pub returns-in-Check-clause-only : goal.returns-in-Check-clause-only
returns-in-Check-clause-only c =
    let full : c.args.read.count ≡ length (plain_kinds c.args.command) = c.if-read-row_of.false ∙ ap length c.row_of.ensures.plain in
    made_only c.args.command Check c.args.read (Some c.check_of.result) c.in-Check.is c.in_default.is full
    (c.check_of.ensures.only (given_values (shown_values c.args.read)))

pub returns-in-Central-clause-accepts : goal.returns-in-Central-clause-accepts
returns-in-Central-clause-accepts c =
    let full : c.args.read.count ≡ length (plain_kinds c.args.command) = c.if-read-row_of.false ∙ ap length c.row_of.ensures.plain in
    made_accepts c.args.command Central c.args.read (Some c.central_of.result) c.in-Central.is c.in_default.is full
    (c.central_of.ensures.said (given_values (shown_values c.args.read)))

pub returns-in-Central-clause-only : goal.returns-in-Central-clause-only
returns-in-Central-clause-only c =
    let full : c.args.read.count ≡ length (plain_kinds c.args.command) = c.if-read-row_of.false ∙ ap length c.row_of.ensures.plain in
    made_only c.args.command Central c.args.read (Some c.central_of.result) c.in-Central.is c.in_default.is full
    (c.central_of.ensures.only (given_values (shown_values c.args.read)))

pub returns-in-Run-clause-only : goal.returns-in-Run-clause-only
returns-in-Run-clause-only c =
    let full : c.args.read.count ≡ length (plain_kinds c.args.command) = c.if-read-row_of.false ∙ ap length c.row_of.ensures.plain in
    made_only c.args.command Run c.args.read c.run_of.result c.in-Run.is c.in_default.is full c.run_of.ensures.only

pub returns-in-Sample-clause-only : goal.returns-in-Sample-clause-only
returns-in-Sample-clause-only c =
    let full : c.args.read.count ≡ length (plain_kinds c.args.command) = c.if-read-row_of.false ∙ ap length c.row_of.ensures.plain in
    made_only c.args.command Sample c.args.read c.sample_of.result c.in-Sample.is c.in_default.is full c.sample_of.ensures.only
