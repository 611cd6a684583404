-- A run laid out in columns and read back, item by item.
use Rattle.std.specs.Prelude.{List, ℕ, zero, suc, ◌+◌, ℤ, pos, get_or, set}
use Rattle.channel.specs.declared.Cargo.{Cargo}
use Rattle.channel.specs.declared.Cargo.TheVariants.{Barrier, Record as Recorded}
use Rattle.channel.specs.declared.Channel.{Channel}
use Rattle.channel.specs.Channels.{barrier}

abbrev pub code_of : Cargo → ℕ
code_of Barrier = 0
code_of (Recorded r) = r.cylinder + 1

abbrev pub value_of : Cargo → ℤ
value_of Barrier = pos 0
value_of (Recorded r) = r.value

-- f 0, .. f (k - 1) from place `base` on
module _ {A : Type 0} where
  unfoldable pub fill_to : List A → ℕ → (ℕ → A) → ℕ → List A
  fill_to l base f zero = l
  fill_to l base f (suc k) = set (fill_to l base f k) (base + k) (f k)

abbrev pub cargo_at : Channel → ℕ → Cargo
cargo_at ch k = (get_or ch.items k barrier).cargo
