use Rattle.std.proofs.Common.{◌≡◌, None, Some, string_bytes, Global}
use Rattle.command_words.proofs.Going.{no_items, some_items, first_accepts, first_only, first_refused, accepted_nowhere, refused_once, no_words, no_command}
use Rattle.command_words.proofs.words.read_words.Goals as goal

pub returns-in-empty-clause-refused : goal.returns-in-empty-clause-refused
returns-in-empty-clause-refused c = no_words _ (no_items (string_bytes {Z = Global}) c.args.words.now c.in-empty.len_below)

pub returns-in-Some-clause-accepts : goal.returns-in-Some-clause-accepts
returns-in-Some-clause-accepts c =
    let e = some_items (string_bytes {Z = Global}) c.args.words.now c.first-item.result c.as_str.result.now c.in-len1-up.len_at_least c.first-item.is c.as_str.ensures.value in
    first_accepts c.in-Some.command c.nothing_read.result _ _ c.as_str.result.now c.read_on.result e c.in-Some.ensures.named (c.nothing_read.ensures.stands c.in-Some.command) c.read_on.ensures.accepts

pub returns-in-Some-clause-only : goal.returns-in-Some-clause-only
returns-in-Some-clause-only c =
    let e = some_items (string_bytes {Z = Global}) c.args.words.now c.first-item.result c.as_str.result.now c.in-len1-up.len_at_least c.first-item.is c.as_str.ensures.value in
    first_only c.in-Some.command c.nothing_read.result _ _ c.as_str.result.now c.read_on.result e c.in-Some.ensures.named (c.nothing_read.ensures.stands c.in-Some.command) c.read_on.ensures.only

pub returns-in-Some-clause-no_place : goal.returns-in-Some-clause-no_place
returns-in-Some-clause-no_place c =
    let e = some_items (string_bytes {Z = Global}) c.args.words.now c.first-item.result c.as_str.result.now c.in-len1-up.len_at_least c.first-item.is c.as_str.ensures.value in
    accepted_nowhere _ c.read_on.result
    (first_accepts c.in-Some.command c.nothing_read.result _ _ c.as_str.result.now c.read_on.result e c.in-Some.ensures.named (c.nothing_read.ensures.stands c.in-Some.command) c.read_on.ensures.accepts)

pub returns-in-Some-clause-refused : goal.returns-in-Some-clause-refused
returns-in-Some-clause-refused c =
    let e = some_items (string_bytes {Z = Global}) c.args.words.now c.first-item.result c.as_str.result.now c.in-len1-up.len_at_least c.first-item.is c.as_str.ensures.value in
    first_refused c.in-Some.command c.nothing_read.result _ _ c.as_str.result.now c.read_on.result e c.in-Some.ensures.named (c.nothing_read.ensures.stands c.in-Some.command) c.read_on.ensures.refused

pub returns-in-Some-clause-one_place : goal.returns-in-Some-clause-one_place
returns-in-Some-clause-one_place c =
    let e = some_items (string_bytes {Z = Global}) c.args.words.now c.first-item.result c.as_str.result.now c.in-len1-up.len_at_least c.first-item.is c.as_str.ensures.value in
    refused_once _ c.read_on.result
    (first_refused c.in-Some.command c.nothing_read.result _ _ c.as_str.result.now c.read_on.result e c.in-Some.ensures.named (c.nothing_read.ensures.stands c.in-Some.command) c.read_on.ensures.refused)

pub returns-in-None-clause-refused : goal.returns-in-None-clause-refused
returns-in-None-clause-refused c =
    let e = some_items (string_bytes {Z = Global}) c.args.words.now c.first-item.result c.as_str.result.now c.in-len1-up.len_at_least c.first-item.is c.as_str.ensures.value in
    no_command _ _ c.as_str.result.now e (λ d is. (let h : None ≡ Some d = c.in-None.ensures.only d is in cc))
