-- What the later layers use of an accepted job, in one record; that answer 0 implies it is `accepted_fits` in proofs/Fits.antt.
use Rattle.std.specs.Prelude.{◌≡◌, true, false, ℕ, ◌+◌, ◌<◌, ◌≤◌, pos, nat_abs}
use Rattle.std.specs.Int.Signed.{le_z}
use Rattle.laws.specs.Acyclic.{Ranked}
use Rattle.laws.specs.Accepted.{worst}
use Rattle.kinds.specs.Kinds.{Scales}
use Rattle.job.specs.declared.Job.{Job}
use Rattle.job.specs.Jobs.{JobSized, kind_of, a_of, b_of, to_of, is_source}
use Rattle.job.specs.Graph.{graph_of, part_length}

-- a source's part lies within so many records
pub record PartFits (job : Job) (records t : ℕ) : Type 0 where
  pub start : le_z (pos 0) (a_of job t) ≡ true
  pub length : nat_abs (b_of job t) ≤ 4096
  pub length_low : le_z (pos 0) (b_of job t) ≡ true
  pub inside : nat_abs (a_of job t) + nat_abs (b_of job t) ≤ records

-- what a task needs to send
pub record Sends (job : Job) : Type 0 where
  pub sized : JobSized job
  pub scales : (t : ℕ) → kind_of job t ≡ 3 → Scales (a_of job t)

pub record JobFits (job : Job) (records : ℕ) : Type 0 where
  pub sends : Sends job
  pub some_task : 0 < job.tasks
  pub kinds : (t : ℕ) → kind_of job t ≤ 5
  pub parts : (t : ℕ) → t < job.tasks → is_source job t ≡ true → PartFits job records t
  pub no_input : (c : ℕ) → c < job.channels → is_source job (to_of job c) ≡ false
  pub some_input : (t : ℕ) → t < job.tasks → is_source job t ≡ false → (c : ℕ) × (c < job.channels) × (to_of job c ≡ t)
  pub ranked : Ranked (graph_of job) (λ c. false)
  pub worst_count : (t : ℕ) → t < job.tasks → worst (graph_of job) (part_length job) job.tasks t ≤ 1048576
