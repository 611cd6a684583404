use Rattle.std.proofs.Common.{◌∙◌}
use Rattle.flat.proofs.Flats.{barrier_in_seen}
use Rattle.flat.proofs.Flat.is_barrier.Goals as goal

pub returns : goal.returns
returns c = c.is_barrier.ensures ∙ barrier_in_seen c.self.inside c.self.view_is c.args.c c.requires
