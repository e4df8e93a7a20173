use Rattle.trace_file.proofs.read.read_v1.Goals as goal

pub returns : goal.returns
returns c = c.read.ensures
