-- The worked station of document 01, computed: its snapshot, its totals, the account of its steps; that it is an accepted job, so
-- that the promises hold of it; and with four snapshots under way (request h).
use mathlib.Core.Path.{◌≡◌, refl, sym}
use mathlib.Core.Bool.{Bool, true, false, cond, true≢false, false≢true}
use mathlib.Core.List.{List, [], ◌∷◌, ◌++◌}
use mathlib.Core.Option.{some}
use Prim.Native.Nat.{ℕ, zero, suc, ◌<◌, ◌≤◌}
use native.Mathlib.Omega.{arith}
use lib.Dec.{eqb, ltb, leb}
use lib.IntN.{negsuc, pos, ℤ}
use lib.ListN.{drop, get_or, length, take}
use lib.Signed.{le_z, quot_z}
use borrow.Author.Tests.{ltb-true, leb-true}
use Rattle.laws.specs.Received.{Graph, received}
use Rattle.laws.specs.Sums.{sum_l}
use Rattle.laws.specs.Totals.{tot_mon, one_total}
use Rattle.laws.specs.Acyclic.{Ranked}
use Rattle.laws.specs.Run.{Job, fresh_s}
use Rattle.laws.specs.Step.{exec, done_in}
use Rattle.laws.specs.Drain.{drain_f}
use Rattle.laws.specs.Accepted.{worst, Accepted}
use Rattle.laws.proofs.Below.{all_true}
use Rattle.laws.proofs.Value.{measured}

abbrev Rec : Type 0
Rec = ℕ × ℤ

-- what a task of a kind sends for one record on one output
abbrev kind_sends : ℕ → ℤ → ℤ → Rec → List Rec
kind_sends zero a b r = r ∷ []
kind_sends (suc zero) a b r = r ∷ []
kind_sends (suc (suc zero)) a b r = cond (le_z a r.1) (cond (le_z r.1 b) (r ∷ []) []) []
kind_sends (suc (suc (suc k))) a b r = (r.0, quot_z r.1 a) ∷ []

abbrev froms : List ℕ
froms = 0 ∷ 1 ∷ 2 ∷ 0 ∷ 3 ∷ []

abbrev tos : List ℕ
tos = 2 ∷ 2 ∷ 3 ∷ 4 ∷ 4 ∷ []

abbrev kinds : List ℕ
kinds = 0 ∷ 0 ∷ 3 ∷ 2 ∷ 1 ∷ []

abbrev ranks : List ℕ
ranks = 0 ∷ 0 ∷ 1 ∷ 2 ∷ 3 ∷ []

abbrev lows : List ℤ
lows = pos 0 ∷ pos 0 ∷ pos 2 ∷ negsuc 9 ∷ pos 0 ∷ []

abbrev highs : List ℤ
highs = pos 0 ∷ pos 0 ∷ pos 0 ∷ pos 10 ∷ pos 0 ∷ []

abbrev records : List Rec
records = (1, pos 7) ∷ (2, negsuc 4) ∷ (3, pos 40) ∷ (1, negsuc 2) ∷ (4, pos 9) ∷ []

abbrev graph : Graph Rec
graph = record {
  n = 5;
  m = 5;
  from = λ c. get_or froms c 5;
  to = λ c. get_or tos c 5;
  depth = 5;
  sends = λ c r. let t = get_or froms c 5 in kind_sends (get_or kinds t 0) (get_or lows t (pos 0)) (get_or highs t (pos 0)) r;
}

abbrev source : ℕ → Bool
source zero = true
source (suc zero) = true
source (suc (suc n)) = false

abbrev parts : ℕ → List Rec
parts zero = take 3 records
parts (suc zero) = take 2 (drop 3 records)
parts (suc (suc n)) = []

no_parts : (t : ℕ) → source t ≡ false → parts t ≡ []
no_parts zero e = absurd (true≢false e)
no_parts (suc zero) e = absurd (true≢false e)
no_parts (suc (suc n)) e = refl

not-true : (b : Bool) → cond b false true ≡ true → b ≡ false
not-true true e = sym e
not-true false e = refl

inputs : (t : ℕ) → t < 5 → source t ≡ false → (c : ℕ) × (c < 5) × (get_or tos c 5 ≡ t) × (◌≡◌ {A = Bool} false false)
inputs zero l e = absurd (true≢false e)
inputs (suc zero) l e = absurd (true≢false e)
inputs (suc (suc zero)) l e = (0, omega arith, refl, refl)
inputs (suc (suc (suc zero))) l e = (2, omega arith, refl, refl)
inputs (suc (suc (suc (suc zero)))) l e = (3, omega arith, refl, refl)
inputs (suc (suc (suc (suc (suc t))))) l e = absurd (omega arith)

from_fine : (c : ℕ) → c < 5 → get_or froms c 5 < 5
from_fine c l = ltb-true (get_or froms c 5) 5 (all_true 5 (λ c. ltb (get_or froms c 5) 5) refl c l)

to_fine : (c : ℕ) → c < 5 → get_or tos c 5 < 5
to_fine c l = ltb-true (get_or tos c 5) 5 (all_true 5 (λ c. ltb (get_or tos c 5) 5) refl c l)

ranks_up : Ranked graph (λ c. false)
ranks_up = record {
  rank = λ t. get_or ranks t 0;
  rank_lt = λ t l. ltb-true (get_or ranks t 0) 5 (all_true 5 (λ t. ltb (get_or ranks t 0) 5) refl t l);
  rank_up = λ c l e. ltb-true (get_or ranks (get_or froms c 5) 0) (get_or ranks (get_or tos c 5) 0)
      (all_true 5 (λ c. ltb (get_or ranks (get_or froms c 5) 0) (get_or ranks (get_or tos c 5) 0)) refl c l);
}

-- the station with so many snapshots under way: 1 in the base, 4 with request h
abbrev station_of : ℕ → Job
station_of cap = record {
  R = Rec;
  g = graph;
  G = measured graph (λ c. false) from_fine to_fine (λ c l. refl) refl ranks_up;
  M = tot_mon;
  φ = λ r. one_total r.1;
  full = λ x. eqb x.0 1_048_576;
  src = source;
  part = parts;
  no_part = no_parts;
  no_in =
      λ c l. not-true (source (get_or tos c 5)) (all_true 5 (λ c. cond (source (get_or tos c 5)) false true) refl c l);
  some_in = inputs;
  cap = cap;
  back = λ c. false;
  home = λ c l e. absurd (false≢true e);
}

abbrev station : Job
station = station_of 1

abbrev list : List ℕ
list = 32 ∷ 64 ∷ 48 ∷ 32 ∷ 0 ∷ 0 ∷ 0 ∷ 33 ∷ 33 ∷ 49 ∷ 1 ∷ 1 ∷ 1 ∷ 0 ∷ 3 ∷ 3 ∷ 2 ∷ 2 ∷ 2 ∷ 2 ∷ 4 ∷ 4 ∷ 4 ∷ 4 ∷ []

direct_4 : sum_l tot_mon (λ r. one_total r.1) (received graph 5 parts 4)
    ≡ (7, (pos 46, (some (negsuc 4), some (pos 40))))
direct_4 = refl

has_task : 0 < 5
has_task = omega arith

-- the snapshot that the 24 steps complete; 23 of them are done
snapshot_4 : (exec station list (fresh_s station)).last 4 ≡ (4, (pos 13, (some (negsuc 0), some (pos 7))))
snapshot_4 = refl

snapshot_2 : (exec station list (fresh_s station)).last 2 ≡ (3, (pos 13, (some (negsuc 2), some (pos 9))))
snapshot_2 = refl

done_23 : done_in station list (fresh_s station) ≡ 23
done_23 = refl

-- a drain then takes 7 steps; of the fresh run 22
drain_22 : (drain_f station 1000 0 (fresh_s station)).count ≡ 22
drain_22 = refl

drain_7 : (drain_f station 1000 0 (exec station list (fresh_s station))).count ≡ 7
drain_7 = refl

-- after a cut instead 9
drain_9 : (drain_f station 1000 0 (exec station (list ++ (65 ∷ [])) (fresh_s station))).count ≡ 9
drain_9 = refl

-- the station is accepted, so the promises hold of it
sends_few : (k : ℕ) (a b : ℤ) (r : Rec) → length (kind_sends k a b r) ≤ 1
sends_few zero a b r = omega arith
sends_few (suc zero) a b r = omega arith
sends_few (suc (suc zero)) a b r = go (le_z a r.1) (le_z r.1 b)
  where
    go : (x y : Bool) → length (cond x (cond y (r ∷ []) []) []) ≤ 1
    go true true = omega arith
    go true false = omega arith
    go false y = omega arith
sends_few (suc (suc (suc k))) a b r = omega arith

station_accepted : Accepted station
station_accepted =
    record {
      some_task = has_task;
      few_tasks = omega arith;
      few_channels = omega arith;
      few_under_way = omega arith;
      plain = record { no_back = λ c l. refl; ranked = ranks_up };
      count = record { map = λ x. x.0; map_op = λ a b. refl; map_unit = refl };
      counts_one = λ r. refl;
      full_is = λ x. refl;
      sends_one = λ c r. sends_few (get_or kinds (get_or froms c 5) 0) (get_or lows (get_or froms c 5) (pos 0))
          (get_or highs (get_or froms c 5) (pos 0)) r;
      worst_ok = λ u l. leb-true (worst graph (λ t. length (parts t)) 5 u) 1_048_576
          (all_true 5 (λ u. leb (worst graph (λ t. length (parts t)) 5 u) 1_048_576) refl u l);
    }

-- request h: two snapshots begun before either is complete, in a list with four under way
four : List ℕ
four = 32 ∷ 64 ∷ 48 ∷ 32 ∷ 64 ∷ 48 ∷ 64 ∷ 64 ∷ 64 ∷ 33 ∷ 49 ∷ 33 ∷ 49 ∷ []

-- the fifth begin of `four` answers 15: 12 of its 13 steps are done
four_12 : done_in (station_of 4) four (fresh_s (station_of 4)) ≡ 12
unfolding four
four_12 = refl

four_going : (exec (station_of 4) four (fresh_s (station_of 4))).going ≡ 4
unfolding four
four_going = refl

-- the formula: 12 + the drain's = 22 + 4 * (1 + 2 + 5)
four_drain : (drain_f (station_of 4) 1000 0 (exec (station_of 4) four (fresh_s (station_of 4)))).count ≡ 42
unfolding four
four_drain = refl
