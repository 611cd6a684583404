-- The head's place is freed, and the ring begins one place further.
use Rattle.std.proofs.Common.{rules}
use Rattle.flat.proofs.Rings.{takes}
use Rattle.flat.proofs.take.Goals as goal

pub returns : goal.returns
returns c held laid =
    let a = c.args in
    takes a.codes.now held a.heads.now a.counts.now a.c c.requires laid (search rules) c.if-n-gt8.false
