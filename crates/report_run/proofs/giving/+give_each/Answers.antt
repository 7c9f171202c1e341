use Rattle.std.proofs.Common.{◌≡◌, ◌∷◌, ◌++◌, [], List, map, sym, ap, ◌∙◌, subst}
use Rattle.std.proofs.lemmas.List.{map-append}
use Rattle.ds_base.specs.Outside.{SourceSeen}
use Rattle.report_run.specs.Giving.{GivesBack}
use Rattle.report_run.proofs.Given.{gives_last}
use Rattle.report_run.proofs.giving.+give_each.Goals as goal

pub returns-clause-given : goal.returns-clause-given
returns-clause-given g t c =
    let seen = g.F.Src.Source.seen in
    let items = c.pop.new.self.items in
    let last = c.in-Some.last in
    let whole : c.args.sources.now.items ≡ items ++ last ∷ [] = c.in-Some.ensures.taken in
    subst (λ (ss : List SourceSeen). GivesBack ss (g.F.Folder.seen c.args.folder.now) (g.F.Folder.seen c.give_each.new.folder))
    (sym (ap (map seen) whole ∙ map-append seen items (last ∷ [])))
    (gives_last (map seen items) (seen last) (g.F.Folder.seen c.args.folder.now) (g.F.Folder.seen c.give_back.new.self) (g.F.Folder.seen c.give_each.new.folder)
    c.give_back.ensures.stays c.give_back.ensures.sound c.give_back.ensures.failed c.give_each.ensures.given)
