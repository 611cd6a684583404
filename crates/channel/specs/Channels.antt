-- A channel "holds at most 8 items" (document 01, "The job"), first in, first out:
--   "Adding to a channel and taking its head each hand back the channel. A channel that claims more than 8 items answers 16, adding to
--    8 items 14, taking from none 13, each with the channel as it came and, for taking, a barrier."
-- `held` is what a reader thinks of: the list of the items, the head first. That adding appends to it and taking gives its head and
-- leaves the rest is proved in proofs/Queues.antt.
use Rattle.std.specs.Prelude.{◌≡◌, refl, cond, List, [], ◌∷◌, ◌++◌, ◌+◌, ◌-◌, ltb, eqb, pos, take, drop, set, get_or, replicate}
use Rattle.channel.specs.declared.Item.{Item}
use Rattle.channel.specs.declared.Cargo.TheVariants.{Barrier, Record}
use Rattle.channel.specs.declared.Channel.{Channel}
use Rattle.channel.specs.declared.Added.{Added}
use Rattle.channel.specs.declared.Taken.{Taken}

abbrev pub barrier : Item
barrier = record { cargo = Barrier }

-- the first `count` places, the head first
abbrev pub held : Channel → List Item
held ch = take ch.count ch.items

abbrev pub empty_channel : Channel
empty_channel = record { items = replicate 8 barrier; count = 0 }

-- "A channel that claims more than 8 items answers 16, adding to 8 items 14 .. with the channel as it came"
unfoldable pub with_item : Channel → Item → Added
with_item ch item =
    cond (ltb 8 ch.count) (record { channel = ch; answer = 16 })
    (cond (eqb ch.count 8) (record { channel = ch; answer = 14 })
    (record { channel = record { items = set ch.items ch.count item; count = ch.count + 1 }; answer = 0 }))

-- "A channel that claims more than 8 items answers 16, .. taking from none 13, each with the channel as it came and .. a barrier";
-- the items behind the head move up, and a barrier fills the last place
unfoldable pub without_head : Channel → Taken
without_head ch =
    cond (ltb 8 ch.count) (record { channel = ch; item = barrier; answer = 16 })
    (cond (eqb ch.count 0) (record { channel = ch; item = barrier; answer = 13 })
    (record {
      channel = record { items = drop 1 ch.items ++ (barrier ∷ []); count = ch.count - 1 };
      item = get_or ch.items 0 barrier;
      answer = 0;
    }))

-- ---- computed: a record is added to an empty channel and taken again
abbrev one : Item
one = record { cargo = Record (record { cylinder = 3; value = pos 40 }) }

pub taken_again : without_head (with_item empty_channel one).channel ≡ record { channel = empty_channel; item = one; answer = 0 }
unfolding with_item without_head
taken_again = refl

-- a channel that claims 9 items
pub claims_nine : (with_item (record { items = replicate 8 barrier; count = 9 }) one).answer ≡ 16
unfolding with_item
claims_nine = refl
