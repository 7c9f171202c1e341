use Rattle.std.proofs.Common.{[]}
use Rattle.pcap_reader.proofs.file.begin_ng.Goals as goal

pub returns-clause-stands : goal.returns-clause-stands
returns-clause-stands c =
    c.in_ok-feed-2.ensures.stands c.args.front.now [] (c.in_ok-feed.ensures.stands [] [] c.new-reader.ensures.stands)
