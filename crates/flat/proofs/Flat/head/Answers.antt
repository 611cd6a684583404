use Rattle.std.proofs.Common.{◌∙◌}
use Rattle.flat.proofs.Flats.{head_seen}
use Rattle.flat.proofs.Flat.head.Goals as goal

pub returns : goal.returns
returns c = c.head.ensures ∙ head_seen c.self.inside c.self.view_is c.args.c c.requires
