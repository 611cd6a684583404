use mathlib.Core.Path.{◌≡◌}
use Prim.Native.Nat.{ℕ, ◌*◌, ◌<◌}
use lib.ListN.{get_or}
use Rattle.channel.specs.Channels.{barrier}
use Rattle.flat.specs.Columns.{item_of}
use Rattle.flat.specs.Lays.{code_of, value_of, fill_to}
use Rattle.flat.proofs.laying.lay_items.Given as goal

abbrev pub invariant-loop-k : goal.invariant-loop-k
invariant-loop-k l =
    (l.codes ≡ fill_to l.initial.codes (l.c * 8) (λ j. code_of (get_or l.items j barrier).cargo) l.k)
    × (l.held ≡ fill_to l.initial.held (l.c * 8) (λ j. value_of (get_or l.items j barrier).cargo) l.k)
    × ((j : ℕ) → j < l.k → item_of (code_of (get_or l.items j barrier).cargo) (value_of (get_or l.items j barrier).cargo) ≡ get_or l.items j barrier)
