use Rattle.net_law.proofs.Starts as law
use Rattle.net_law.proofs.laws.new_nodes_stand.Goals as goal

pub returns-clause-parser : goal.returns-clause-parser
returns-clause-parser c = law.parser_starts

pub returns-clause-grouper : goal.returns-clause-grouper
returns-clause-grouper c = law.grouper_starts

pub returns-clause-processor : goal.returns-clause-processor
returns-clause-processor c = law.processor_starts

pub returns-clause-merge : goal.returns-clause-merge
returns-clause-merge c = law.merge_starts

pub returns-clause-links : goal.returns-clause-links
returns-clause-links c = law.new_links_start
