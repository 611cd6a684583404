-- What the columns read as, computed at the edges: a ring that goes round, the codes 0, 1 and 21, a head past the ring, and channel 1.
use Rattle.std.specs.Prelude.{◌≡◌, refl, true, false, List, [], ◌∷◌, ℕ, ℤ, pos, negsuc}
use Rattle.channel.specs.declared.Item.{Item}
use Rattle.channel.specs.declared.Cargo.TheVariants.{Record as Recorded}
use Rattle.channel.specs.Channels.{barrier}
use Rattle.flat.specs.Columns.{table, item_in, head_in, barrier_in, channel_in}

abbrev item : ℕ → ℤ → Item
item cylinder value = record { cargo = Recorded (record { cylinder = cylinder; value = value }) }

-- channel 0: three records from place 6 on, the third at place 0; channel 1: a barrier at its head, then a record
abbrev codes : List ℕ
codes = 3 ∷ 0 ∷ 0 ∷ 0 ∷ 0 ∷ 0 ∷ 1 ∷ 21 ∷ 0 ∷ 2 ∷ 0 ∷ 0 ∷ 0 ∷ 0 ∷ 0 ∷ 0 ∷ []

abbrev held : List ℤ
held =
    pos 7 ∷ pos 0 ∷ pos 0 ∷ pos 0 ∷ pos 0 ∷ pos 0 ∷ negsuc 4 ∷ pos 9 ∷ pos 99 ∷ pos 3 ∷ pos 0 ∷ pos 0 ∷ pos 0 ∷ pos 0 ∷ pos 0 ∷ pos 0 ∷ []

pub goes_round : channel_in codes held (6 ∷ 0 ∷ []) (3 ∷ 2 ∷ []) 0
    ≡ record {
      items = item 0 (negsuc 4) ∷ item 20 (pos 9) ∷ item 2 (pos 7) ∷ barrier ∷ barrier ∷ barrier ∷ barrier ∷ barrier ∷ [];
      count = 3;
    }
unfolding channel_in item_in table
goes_round = refl

-- a head is taken modulo 8
pub head_past : head_in codes held (14 ∷ 0 ∷ []) 0 ≡ Recorded (record { cylinder = 0; value = negsuc 4 })
unfolding head_in item_in
head_past = refl

-- the value beside a barrier says nothing
pub next_channel : channel_in codes held (6 ∷ 0 ∷ []) (3 ∷ 2 ∷ []) 1
    ≡ record {
      items = barrier ∷ item 1 (pos 3) ∷ barrier ∷ barrier ∷ barrier ∷ barrier ∷ barrier ∷ barrier ∷ [];
      count = 2;
    }
unfolding channel_in item_in table
next_channel = refl

pub heads_are : (barrier_in codes (6 ∷ 0 ∷ []) 0 ≡ false) × (barrier_in codes (6 ∷ 0 ∷ []) 1 ≡ true)
unfolding barrier_in
heads_are = (refl, refl)
