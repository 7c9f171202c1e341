-- Where the sources of parsers are gathered once these are closed.
use Rattle.std.specs.Prelude.{ℕ, ◌≡◌, ◌≤◌, ◌++◌, List, [], map}
use Rattle.ds_base.specs.Items.{Items}
use Rattle.ds_base.specs.Outside.{SourceSeen}
use Rattle.node_lists.specs.Lists.{AreEmpty, items_at}
use Rattle.net_law.specs.Parsers.{ParserSeen}
use Rattle.new_pipeline.specs.Opening.{sources_of}

-- a list for each parser, and one with room for the sources of all captures
pub record IsRoom {S : Type 0} (parsers captures : ℕ) (lists : List (Items S)) (gathered : Items S) : Type 0 where
  pub lists_are : AreEmpty parsers lists
  pub none : gathered.items ≡ []
  pub room : captures ≤ gathered.spare

-- the sources of parser p, which has them or whose list has them
abbrev pub own_of : {S : Type 0} → (seen : S → SourceSeen) → List ParserSeen → List (Items S) → ℕ → List SourceSeen
own_of seen parsers lists p = sources_of parsers p ++ map seen (items_at lists p)
