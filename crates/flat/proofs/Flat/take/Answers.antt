-- What `take` leaves the columns reading as is the run with the channel without its head.
use Rattle.channel.specs.declared.Channel.{Channel}
use Rattle.channel.specs.Channels.{without_head}
use Rattle.flat.proofs.Flats.{changed}
use Rattle.flat.proofs.Flat.take.Goals as goal

pub returns : goal.returns
returns c =
    let f = c.self.inside in
    changed f c.self.view_is c.args.c c.requires (λ (ch : Channel). (without_head ch).channel)
    (c.take.ensures f.held c.self.invariant.laid)

pub invariant_of-self : goal.invariant_of-self
invariant_of-self c =
    record {
      laid = (c.take.ensures c.self.inside.held c.self.invariant.laid).laid;
      tells = c.self.invariant.tells;
    }
