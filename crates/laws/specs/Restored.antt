-- REQUEST n, what stands in front of a channel after a cut: always the last `front c` records of the last complete snapshot's log.
-- So a run keeps, for a channel, two logs and a number, not three logs. (Steps of which none reads are `Quiet`, in Moves.antt.)
use Rattle.std.specs.Prelude.{◌≡◌, List, ◌++◌, ℕ, ◌<◌, length}
use Rattle.laws.specs.Items.{Item, as_items}
use Rattle.laws.specs.Run.{Run, Job}

-- of one channel: L the log, f the number of records in front, xs what it holds; the f records are the log's last and the channel's first
pub record InFront {R : Type 0} (L : List R) (f : ℕ) (xs : List (Item R)) : Type 0 where
  pub before : List R
  pub ys : List R
  pub rest : List (Item R)
  pub of_log : L ≡ before ++ ys
  pub many : length ys ≡ f
  pub heads : xs ≡ as_items ys ++ rest

module _ (J : Job) where
  open J use {R, g, M}
  open g use {m}
  open M use {Car}

  pub record Restored (s : Run R Car) : Type 0 where
    pub fronts : (c : ℕ) → c < m → InFront (s.last_log c) (s.front c) (s.chan c)
    -- as long as something is in front, no barrier has come over the channel
    pub young : (c : ℕ) → c < m → 0 < s.front c → s.gone c ≡ 0
