-- Turns of a node of any kind, none or one after another.
use Rattle.std.proofs.Common.{List, refl, subst}
use Rattle.net_law.specs.Parsers.{ParserSeen, ParserStands, ParserGoes, ParserMeets, parser_tells, parser_view}
use Rattle.net_law.specs.Groupers.{GrouperSeen, GrouperStands, GrouperGoes, GrouperMeets, grouper_tells, grouper_view}
use Rattle.net_law.specs.Processors.{ProcessorSeen, ProcessorStands, ProcessorGoes, ProcessorMeets, processor_tells, processor_view}
use Rattle.net_law.proofs.Going.{parser_stays, parser_then, grouper_stays, grouper_then, processor_stays, processor_then}
use Rattle.node_bundles.specs.declared.any_node.AnyNode.{AnyNode}
use Rattle.node_bundles.specs.declared.any_node.AnyNode.TheVariants.{Parser, Grouper, Processor}
use Rattle.node_bundles.specs.Going.{Each}
use Rattle.node_bundles.specs.Kinds.{ParserWent, GrouperWent, ProcessorWent, parser_tells_on, grouper_tells_on, processor_tells_on}
use Rattle.node_bundles.specs.Bundles.{AnyWent}
use Rattle.node_bundles.proofs.Going.{went_nowhere, went_then, each_self, each_then}

pub parser_nowhere : (a : ParserSeen) → ParserWent a a
parser_nowhere a = went_nowhere ParserSeen ParserStands ParserGoes ParserMeets (λ (n : ParserSeen). n.fault) parser_tells parser_view parser_stays a

pub parser_went : (a b c : ParserSeen) → ParserWent a b → ParserWent b c → ParserWent a c
parser_went a b c f g = went_then ParserSeen ParserStands ParserGoes ParserMeets (λ (n : ParserSeen). n.fault) parser_tells parser_view parser_stays parser_then parser_tells_on a b c f g

pub grouper_nowhere : (a : GrouperSeen) → GrouperWent a a
grouper_nowhere a = went_nowhere GrouperSeen GrouperStands GrouperGoes GrouperMeets (λ (n : GrouperSeen). n.fault) grouper_tells grouper_view grouper_stays a

pub grouper_went : (a b c : GrouperSeen) → GrouperWent a b → GrouperWent b c → GrouperWent a c
grouper_went a b c f g = went_then GrouperSeen GrouperStands GrouperGoes GrouperMeets (λ (n : GrouperSeen). n.fault) grouper_tells grouper_view grouper_stays grouper_then grouper_tells_on a b c f g

pub processor_nowhere : (a : ProcessorSeen) → ProcessorWent a a
processor_nowhere a = went_nowhere ProcessorSeen ProcessorStands ProcessorGoes ProcessorMeets (λ (n : ProcessorSeen). n.fault) processor_tells processor_view processor_stays a

pub processor_went : (a b c : ProcessorSeen) → ProcessorWent a b → ProcessorWent b c → ProcessorWent a c
processor_went a b c f g =
    went_then ProcessorSeen ProcessorStands ProcessorGoes ProcessorMeets (λ (n : ProcessorSeen). n.fault) processor_tells processor_view processor_stays processor_then processor_tells_on a b c f g

pub any_nowhere : (S : Type 0) (a : AnyNode S) → AnyWent S a a
any_nowhere S (Parser a) = (a, refl, parser_nowhere a)
any_nowhere S (Grouper a) = (a, refl, grouper_nowhere a)
any_nowhere S (Processor a) = (a, refl, processor_nowhere a)

pub any_then : (S : Type 0) (a b c : AnyNode S) → AnyWent S a b → AnyWent S b c → AnyWent S a c
any_then S (Parser a) b c (m, is, f) g =
    let later : AnyWent S (Parser m) c = subst (λ (x : AnyNode S). AnyWent S x c) is g in
    (later.0, later.1, parser_went a m later.0 f later.2)
any_then S (Grouper a) b c (m, is, f) g =
    let later : AnyWent S (Grouper m) c = subst (λ (x : AnyNode S). AnyWent S x c) is g in
    (later.0, later.1, grouper_went a m later.0 f later.2)
any_then S (Processor a) b c (m, is, f) g =
    let later : AnyWent S (Processor m) c = subst (λ (x : AnyNode S). AnyWent S x c) is g in
    (later.0, later.1, processor_went a m later.0 f later.2)

pub all_nowhere : (S : Type 0) (xs : List (AnyNode S)) → Each (AnyWent S) xs xs
all_nowhere S xs = each_self (AnyWent S) (any_nowhere S) xs

pub all_then : (S : Type 0) (xs ys zs : List (AnyNode S)) → Each (AnyWent S) xs ys → Each (AnyWent S) ys zs → Each (AnyWent S) xs zs
all_then S xs ys zs f g = each_then (AnyWent S) (any_then S) xs ys zs f g
