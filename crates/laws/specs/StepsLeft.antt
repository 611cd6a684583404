-- The steps left, a number: every step of 0 to 63 that is done takes exactly one from it. A record comes to as many steps as tasks
-- will take it in, or what is sent on for it; a barrier comes to one step at a source and one on each channel. That a drain ends,
-- the limit that always suffices and the formula for the number of steps are three readings of this number.
use Rattle.std.specs.Prelude.{cond, List, ℕ, ◌+◌, ◌-◌, drop}
use Rattle.laws.specs.Received.{Graph, received}
use Rattle.laws.specs.Below.{bit}
use Rattle.laws.specs.Sums.{sum_n, nat_mon, counted}
use Rattle.laws.specs.Value.{val, worth, flow}
use Rattle.laws.specs.Items.{recs}
use Rattle.laws.specs.Run.{Run, Job}

module _ {R : Type 0} (g : Graph R) where
  open g use {n, depth}

  -- how many steps a record at t comes to: its own, and those of what is sent on for it
  unfoldable pub steps : ℕ → R → ℕ
  steps t r = sum_n nat_mon n (λ u. val g nat_mon depth (λ x. 1) u t r)

  -- what every task receives by direct evaluation, counted
  abbrev pub counts : (ℕ → List R) → ℕ
  counts E = sum_n nat_mon n (λ u. counted (received g depth E u))

module _ (J : Job) where
  open J use {R, g, M, src, part}
  open g use {n, m}
  open M use {Car}

  -- the steps of the records in channels and of those unread
  unfoldable pub work : Run R Car → ℕ
  work s = flow nat_mon g (steps g) (λ c. recs (s.chan c)) + worth nat_mon n (steps g) (λ t. drop (s.off t) (part t))

  -- barriers yet to be sent by a source, and yet to be delivered from a channel
  abbrev pub waits_at : Run R Car → ℕ → ℕ
  waits_at s t = cond (src t) (s.wait t) 0

  abbrev pub awaits_at : Run R Car → ℕ → ℕ
  awaits_at s c = s.going - s.gone c

  unfoldable pub barriers : Run R Car → ℕ
  barriers s = sum_n nat_mon n (waits_at s) + sum_n nat_mon m (awaits_at s)

  -- THE STEPS LEFT
  unfoldable pub left : Run R Car → ℕ
  left s = work s + barriers s

  -- the number of sources
  abbrev pub sources : ℕ
  sources = sum_n nat_mon n (λ t. bit (src t))
