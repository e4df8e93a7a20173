use Rattle.groups.proofs.row.rows.Goals as goal

pub returns : goal.returns
returns c = c.as_chunks.ensures.front
