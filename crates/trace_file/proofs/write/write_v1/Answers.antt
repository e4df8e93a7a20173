use Rattle.trace_file.proofs.write.write_v1.Goals as goal

pub returns : goal.returns
returns c = c.write.ensures
