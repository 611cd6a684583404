-- What columns of numbers read as: the channels of a run, and how many records its tasks have received.
--   codes, held   256 places each, eight for a channel: channel c has 8 c to 8 c + 7, a ring. A code is 0 for a barrier, else the record's
--                 cylinder + 1; the value that is held beside a barrier says nothing.
--   heads         for each of the 32 channels the place of its head in the ring, taken modulo 8
--   counts        for each channel how many items it holds
--   received      for each of the 16 tasks the count of its live totals
-- All eight places of a ring are read, those past the count too, so that columns stand for a run exactly.
use Rattle.std.specs.Prelude.{◌≡◌, Bool, true, false, cond, List, [], ◌∷◌, ℕ, zero, suc, ◌+◌, ◌*◌, ◌-◌, ◌%◌, ◌<◌, eqb, ℤ, pos, get_or, length}
use Rattle.tally.specs.declared.Totals.{Totals}
use Rattle.channel.specs.declared.Item.{Item}
use Rattle.channel.specs.declared.Cargo.{Cargo}
use Rattle.channel.specs.declared.Cargo.TheVariants.{Barrier, Record as Recorded}
use Rattle.channel.specs.declared.Channel.{Channel}
use Rattle.channel.specs.Channels.{barrier}
use Rattle.run.specs.Fit.{totals_at}

module _ {A : Type 0} where
  -- f 0, f 1, .. f (n - 1)
  unfoldable pub table : (ℕ → A) → ℕ → List A
  table f zero = []
  table f (suc n) = f 0 ∷ table (λ k. f (suc k)) n

-- an item by its code and its value
abbrev pub item_of : ℕ → ℤ → Item
item_of code v = cond (eqb code 0) barrier (record { cargo = Recorded (record { cylinder = (code - 1) % 256; value = v }) })

-- where the item at place k of channel c stands, the head being at h
abbrev pub spot : ℕ → ℕ → ℕ → ℕ
spot c h k = c * 8 + (h % 8 + k) % 8

unfoldable pub item_in : List ℕ → List ℤ → ℕ → ℕ → ℕ → Item
item_in codes held c h k = item_of (get_or codes (spot c h k) 0) (get_or held (spot c h k) (pos 0))

-- what stands at the head of channel c
unfoldable pub head_in : List ℕ → List ℤ → List ℕ → ℕ → Cargo
head_in codes held heads c = (item_in codes held c (get_or heads c 0) 0).cargo

unfoldable pub barrier_in : List ℕ → List ℕ → ℕ → Bool
barrier_in codes heads c = eqb (get_or codes (spot c (get_or heads c 0) 0) 0) 0

unfoldable pub channel_in : List ℕ → List ℤ → List ℕ → List ℕ → ℕ → Channel
channel_in codes held heads counts c = record {
  items = table (item_in codes held c (get_or heads c 0)) 8;
  count = get_or counts c 0;
}

unfoldable pub channels_in : List ℕ → List ℤ → List ℕ → List ℕ → List Channel
channels_in codes held heads counts = table (channel_in codes held heads counts) 32

-- the cargo at the head of a channel; an empty channel's place 0 holds a barrier
abbrev pub head_of : Channel → Cargo
head_of ch = (get_or ch.items 0 barrier).cargo

abbrev pub is_barrier : Cargo → Bool
is_barrier Barrier = true
is_barrier (Recorded r) = false

-- the columns have their lengths
pub record Laid (codes : List ℕ) (held : List ℤ) (heads counts : List ℕ) : Type 0 where
  pub of_codes : length codes ≡ 256
  pub of_held : length held ≡ 256
  pub of_heads : length heads ≡ 32
  pub of_counts : length counts ≡ 32

-- the columns have their lengths and read as these channels
pub record ReadAs (channels : List Channel) (codes : List ℕ) (held : List ℤ) (heads counts : List ℕ) : Type 0 where
  pub laid : Laid codes held heads counts
  pub reads : channels_in codes held heads counts ≡ channels

-- the column has, for each task, the count of its live totals
pub record Tells (live : List Totals) (received : List ℕ) : Type 0 where
  pub of_live : length live ≡ 16
  pub of_received : length received ≡ 16
  pub tells : (t : ℕ) → t < 16 → get_or received t 0 ≡ (totals_at live t).count

-- what always holds of the columns of a run with these live totals
pub record Sound (codes : List ℕ) (held : List ℤ) (heads counts received : List ℕ) (live : List Totals) : Type 0 where
  pub laid : Laid codes held heads counts
  pub tells : Tells live received
