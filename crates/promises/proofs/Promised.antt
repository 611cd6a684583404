-- THE PROMISES of grown runs, each as one theorem: for every accepted job J and every list ks of step numbers, done or refused, snapshots
-- and cuts among them. The statements stand in specs/Promises.antt, the onlooker in specs/Grown.antt.
use mathlib.Core.Path.{◌≡◌}
use mathlib.Core.List.{List}
use Prim.Native.Nat.{ℕ}
use Rattle.job.specs.Columns.{Columns}
use Rattle.job.specs.Rules.{job_answer}
use Rattle.promises.specs.Promises.{GrownRun, Snapshots, DrainEnds, StepFormula, Conserved, Silent}
use Rattle.promises.proofs.Silenced as Silenced
use Rattle.promises.proofs.Snapped as Snapped
use Rattle.promises.proofs.Finished as Finished
use Rattle.promises.proofs.Formula as Formula
use Rattle.promises.proofs.Sent as Sent

module _ (J : Columns) (ok : job_answer J ≡ 0) (ks : List ℕ) where
  -- 1. "a run grown from a fresh one by one accepted job on unchanged records": it fits, and no call answers 16
  pub grown_runs : GrownRun J ks
  grown_runs = Silenced.grown_runs J ok ks

  -- 2. Demand 3: each complete snapshot holds, for every task, direct evaluation's totals at the offsets where its sources sent that
  -- snapshot's barrier
  pub snapshots : Snapshots J ks
  snapshots = Snapped.snapshots J ok ks

  -- 3. "one of the two always comes, and it is 0 whenever the limit is 67,108,864 or more"
  pub drain_ends : (limit : ℕ) → DrainEnds J ks limit
  drain_ends = Finished.drain_ends J ok ks

  -- 4. "steps done before plus the steps of a drain that answers 0 equal (records read in all) + (records that direct evaluation sends
  -- over all channels) + (snapshots begun) x (1 + sources + channels)"
  pub step_formula : (limit : ℕ) → StepFormula J ks limit
  step_formula = Formula.step_formula J ok ks

  -- 5. "records sent on a channel equal records delivered from it plus those in it"
  pub conserved : Conserved J ks
  conserved = Sent.conserved J ok ks

  -- 6. 17 and 19 are never answered (request m)
  pub silent : Silent J ks
  silent = Silenced.silent J ok ks
