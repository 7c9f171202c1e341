use Rattle.std.proofs.Common.{[]}
use Rattle.pcapng_reader.proofs.Standing.{starts, start_waits}
use Rattle.pcapng_reader.proofs.reader.NgReader.new.Goals as goal

pub returns-clause-stands : goal.returns-clause-stands
returns-clause-stands c = rw (c.new.ensures, c.new-2.ensures) (starts [])

pub returns-clause-waiting : goal.returns-clause-waiting
returns-clause-waiting c = rw (c.new.ensures, c.new-2.ensures) (start_waits [])
