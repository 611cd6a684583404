-- Feedback, computed (request n): a task that feeds itself over one back channel, and over two: a snapshot with a log, restored and
-- drained; and two jobs that stick with 19, both right by the letter.
use mathlib.Core.Path.{◌≡◌, refl}
use mathlib.Core.Bool.{Bool, true, false, cond, true≢false, false≢true}
use mathlib.Core.List.{List, [], ◌∷◌, ◌++◌}
use Prim.Native.Nat.{ℕ, zero, suc, ◌<◌}
use native.Mathlib.Omega.{arith}
use lib.Dec.{eqb}
use Rattle.laws.specs.Received.{Graph}
use Rattle.laws.specs.Sums.{nat_mon}
use Rattle.laws.specs.Acyclic.{Reach, here, Ranked}
use Rattle.laws.specs.Run.{Job, fresh_s}
use Rattle.laws.specs.Step.{exec}
use Rattle.laws.specs.Drain.{drain_f}
use Rattle.laws.specs.Rounds.{Rounded, looped}
use Rattle.laws.proofs.Rounds.{looped_measured}

abbrev to₁ : ℕ → ℕ
to₁ c = 1

abbrev from₁ : ℕ → ℕ
from₁ zero = 0
from₁ (suc c) = 1

abbrev loops : ℕ → Bool
loops zero = false
loops (suc c) = true

abbrev is_source : ℕ → Bool
is_source zero = true
is_source (suc t) = false

abbrev ones : ℕ → List (Rounded ℕ)
ones zero = []
ones (suc k) = record { what = k; round = 0 } ∷ ones k

abbrev has : ℕ → ℕ → List (Rounded ℕ)
has k zero = ones k
has k (suc t) = []

abbrev plain_graph : ℕ → Graph ℕ
plain_graph m = record { n = 2; m = m; from = from₁; to = to₁; sends = λ c r. r ∷ []; depth = 2 }

from_fine : (m c : ℕ) → c < m → from₁ c < 2
from_fine m zero l = omega arith
from_fine m (suc c) l = omega arith

up : (m : ℕ) → Ranked (plain_graph m) loops
up m = record { rank = λ t. cond (eqb t 0) 0 1; rank_lt = λ t l. small (eqb t 0); rank_up = λ c l e. rise c e }
  where
    small : (b : Bool) → cond b 0 1 < 2
    small true = omega arith
    small false = omega arith

    rise : (c : ℕ) → loops c ≡ false → cond (eqb (from₁ c) 0) 0 1 < 1
    rise zero e = omega arith
    rise (suc c) e = absurd (true≢false e)

no_parts : (k t : ℕ) → is_source t ≡ false → has k t ≡ []
no_parts k zero e = absurd (true≢false e)
no_parts k (suc t) e = refl

inputs : (m t : ℕ) → t < 2 → is_source t ≡ false → (c : ℕ) × (c < suc m) × (to₁ c ≡ t) × (loops c ≡ false)
inputs m zero l e = absurd (true≢false e)
inputs m (suc zero) l e = (0, omega arith, refl, refl)
inputs m (suc (suc t)) l e = absurd (omega arith)

homes : (m c : ℕ) → c < suc m → loops c ≡ true → Reach (looped (plain_graph (suc m)) loops) loops (to₁ c) (from₁ c)
homes m zero l e = absurd (false≢true e)
homes m (suc c) l e = here

-- a source with k records, a task fed by it, and m - 1 back channels of that task to itself
abbrev loop_job : ℕ → ℕ → Job
loop_job m k = record {
  R = Rounded ℕ;
  g = looped (plain_graph (suc m)) loops;
  G = looped_measured (plain_graph (suc m)) loops (from_fine (suc m)) (λ c l. omega arith) (up (suc m));
  M = nat_mon;
  φ = λ r. 1;
  full = λ x. eqb x 1_048_576;
  src = is_source;
  part = has k;
  cap = 1;
  back = loops;
  no_part = no_parts k;
  no_in = λ c l. refl;
  some_in = inputs m;
  home = homes m;
}

-- one back channel: the record of round 1 stands before the barrier in the loop, and is logged
abbrev list : List ℕ
list = 32 ∷ 0 ∷ 64 ∷ 48 ∷ 0 ∷ 1 ∷ 1 ∷ []

stored_1 : (exec (loop_job 1 2) list (fresh_s (loop_job 1 2))).last 1 ≡ 1
stored_1 = refl

logged_1 : (exec (loop_job 1 2) list (fresh_s (loop_job 1 2))).last_log 1 ≡ record { what = 1; round = 1 } ∷ []
logged_1 = refl

none_under_way : (exec (loop_job 1 2) list (fresh_s (loop_job 1 2))).going ≡ 0
none_under_way = refl

-- restored, and drained: every record eight times
restored_16 :
    (drain_f (loop_job 1 2) 1000 0 (exec (loop_job 1 2) (list ++ (65 ∷ [])) (fresh_s (loop_job 1 2)))).run.live 1
    ≡ 16
restored_16 = refl

straight_16 : (drain_f (loop_job 1 2) 1000 0 (fresh_s (loop_job 1 2))).run.live 1 ≡ 16
straight_16 = refl

-- two back channels: one record alone sticks, from a fresh run, with no snapshot
sticks : (drain_f (loop_job 2 1) 1000 0 (fresh_s (loop_job 2 1))).answer ≡ 19
sticks = refl

-- one back channel: eight reads and deliveries fill it, and then nothing can be delivered to the task, though that would make room
fill : List ℕ
fill = 32 ∷ 0 ∷ 32 ∷ 0 ∷ 32 ∷ 0 ∷ 32 ∷ 0 ∷ 32 ∷ 0 ∷ 32 ∷ 0 ∷ 32 ∷ 0 ∷ 32 ∷ 0 ∷ []

sticks_1 : (drain_f (loop_job 1 8) 1000 0 (exec (loop_job 1 8) fill (fresh_s (loop_job 1 8)))).answer ≡ 19
unfolding fill
sticks_1 = refl
