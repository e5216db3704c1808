use Rattle.release_report.proofs.fault_text.write_fault.Goals as goal

pub returns-in-MissingImport-clause-writes : goal.returns-in-MissingImport-clause-writes
returns-in-MissingImport-clause-writes g c = rw (c.in-MissingImport.is, ← c.as_slice.ensures) c.write_told_at.ensures.writes

pub returns-in-TooManyFiles-clause-writes : goal.returns-in-TooManyFiles-clause-writes
returns-in-TooManyFiles-clause-writes g c = rw c.in-TooManyFiles.is c.write_more_than.ensures.writes

pub returns-in-NotUtf8-clause-writes : goal.returns-in-NotUtf8-clause-writes
returns-in-NotUtf8-clause-writes g c = rw c.in-NotUtf8.is c.write_at.ensures.writes

pub returns-in-Syntax-clause-writes : goal.returns-in-Syntax-clause-writes
returns-in-Syntax-clause-writes g c = rw (c.in-Syntax.is, ← c.syntax_text.ensures) c.write_told_at-in-Syntax.ensures.writes

pub returns-in-SeedLine-clause-writes : goal.returns-in-SeedLine-clause-writes
returns-in-SeedLine-clause-writes g c = rw c.in-SeedLine.is c.write_at-in-SeedLine.ensures.writes

pub returns-in-EmptySeed-clause-writes : goal.returns-in-EmptySeed-clause-writes
returns-in-EmptySeed-clause-writes g c = rw c.in-EmptySeed.is c.write_named-in-EmptySeed.ensures.writes

pub returns-in-ReadFault-clause-writes : goal.returns-in-ReadFault-clause-writes
returns-in-ReadFault-clause-writes g c = rw c.in-ReadFault.is c.write_named-in-ReadFault.ensures.writes

pub returns-in-WriteFault-clause-writes : goal.returns-in-WriteFault-clause-writes
returns-in-WriteFault-clause-writes g c = rw c.in-WriteFault.is c.write_named-in-WriteFault.ensures.writes

pub returns-in-SinkFault-clause-writes : goal.returns-in-SinkFault-clause-writes
returns-in-SinkFault-clause-writes g c = rw c.in-SinkFault.is c.write_plain.ensures.writes
