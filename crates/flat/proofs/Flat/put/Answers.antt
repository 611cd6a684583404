-- What `put` leaves the columns reading as is the run with the record at the channel's end.
use Rattle.channel.specs.declared.Cargo.TheVariants.{Record as Recorded}
use Rattle.channel.specs.declared.Channel.{Channel}
use Rattle.channel.specs.Channels.{with_item}
use Rattle.flat.proofs.Flats.{changed}
use Rattle.flat.proofs.Flat.put.Goals as goal

pub returns : goal.returns
returns c =
    changed c.self.inside c.self.view_is c.args.c c.requires
    (λ (ch : Channel). (with_item ch (record { cargo = Recorded c.args.got })).channel)
    (c.put.ensures c.self.invariant.laid)

pub invariant_of-self : goal.invariant_of-self
invariant_of-self c =
    record {
      laid = (c.put.ensures c.self.invariant.laid).laid;
      tells = c.self.invariant.tells;
    }
