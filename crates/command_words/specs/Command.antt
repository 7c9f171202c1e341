-- The command that the caller is given, as what is asked.
use Rattle.command_words.specs.declared.command.Command.{Command}
use Rattle.command_words.specs.declared.command.Command.TheVariants.{Count, Stack, Check, Central, Run, Sample, Help, Version}
use Rattle.command_words.specs.Words.{Asked}
use Rattle.command_words.specs.Words.Asked.{AskedCount, AskedStack, AskedCheck, AskedCentral, AskedRun, AskedSample, AskedHelp, AskedVersion}

abbrev pub asked_of : Command → Asked
asked_of (Count field window file) = AskedCount field window file.now
asked_of (Stack port field file) = AskedStack port field file.now
asked_of (Check job) = AskedCheck job.now
asked_of (Central job) = AskedCentral job.now
asked_of (Run job sizes) = AskedRun job.now sizes
asked_of (Sample number sizes) = AskedSample number sizes
asked_of Help = AskedHelp
asked_of Version = AskedVersion
