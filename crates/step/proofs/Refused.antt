-- A REFUSED STEP GIVES THE RUN AS IT CAME (`refused_same`): whenever the answer is neither 0 nor 20.
use mathlib.Core.Bool.{true, ◌&&◌}
use mathlib.Core.Path.{◌≡◌, refl}
use mathlib.Core.List.{List}
use Prim.Native.Nat.{ℕ, ◌-◌}
use lib.Dec.{ltb, leb, eqb}
use lib.IntN.{ℤ, nat_abs}
use lib.ListN.{set}
use Rattle.channel.specs.declared.Cargo.{Cargo}
use Rattle.channel.specs.declared.Cargo.TheVariants.{Barrier, Record as Recorded}
use Rattle.channel.specs.declared.Channel.{Channel}
use Rattle.channel.specs.Channels.{without_head}
use Rattle.job.specs.declared.Job.{Job}
use Rattle.job.specs.Jobs.{b_of, to_of}
use Rattle.run.specs.declared.Run.{Run}
use Rattle.run.specs.Fit.{channel_at, totals_at, flag_at, count_at}
use Rattle.outputs.specs.Outputs.{some_full, all_marked, all_stored}
use Rattle.step.specs.declared.Stepped.{Stepped}
use Rattle.step.specs.Algorithm.{completed, barrier_received, record_received}
use Rattle.step.specs.Step.{with_cargo, with_taken, delivered, is_no_source, offset_of, source_read, barrier_sent, begun, stepped}
use Rattle.step.proofs.Fitting.{cond_has}

-- neither 0 nor 20 is answered with another run
abbrev pub SameIfRefused : Run → Stepped → Type 0
SameIfRefused run s = (s.answer ≡ 0 → ⊥) → (s.answer ≡ 20 → ⊥) → s.run ≡ run

module _ (job : Job) (run : Run) where
  completed_same : (next : Run) → SameIfRefused run (completed job next)
  unfolding completed
  completed_same next =
      cond_has (SameIfRefused run) (ltb 0 next.under_way && all_stored job next.stored) (λ _ z e. absurd (e refl))
      (λ _ z e. absurd (z refl))

  cargo_same : (c : ℕ) (cargo : Cargo) (rest : Channel) → SameIfRefused run (with_cargo job run c cargo rest)
  unfolding barrier_received record_received
  cargo_same c Barrier rest =
      cond_has (SameIfRefused run) (all_marked job (set run.marked c true) (to_of job c))
      (λ _. cond_has (SameIfRefused run) (some_full job run.channels (to_of job c)) (λ _ z e. refl) (λ _. completed_same _)) (λ _ z e. absurd (z refl))
  cargo_same c (Recorded r) rest =
      cond_has (SameIfRefused run) (some_full job run.channels (to_of job c)) (λ _ z e. refl)
      (λ _. cond_has (SameIfRefused run) (leb 1048576 (totals_at run.live (to_of job c)).count) (λ _ z e. refl) (λ _ z e. absurd (z refl)))

  pub refused_same : (c v : List ℤ) (n : ℕ) → SameIfRefused run (stepped job c v run n)
  unfolding stepped delivered with_taken source_read barrier_sent begun
  refused_same c v n =
      let got = without_head (channel_at run n) in
      cond_has (SameIfRefused run) (ltb n 32)
      (λ _. cond_has (SameIfRefused run) (leb job.channels n) (λ _ z e. refl)
      (λ _. cond_has (SameIfRefused run) (flag_at run.marked n) (λ _ z e. refl)
      (λ _. cond_has (SameIfRefused run) (eqb got.answer 0) (λ _. cargo_same n got.item.cargo got.channel) (λ _ z e. refl))))
      (λ _. cond_has (SameIfRefused run) (ltb n 48)
      (λ _. cond_has (SameIfRefused run) (is_no_source job (n - 32)) (λ _ z e. refl)
      (λ _. cond_has (SameIfRefused run) (leb (nat_abs (b_of job (n - 32))) (offset_of run (n - 32))) (λ _ z e. refl)
      (λ _. cond_has (SameIfRefused run) (some_full job run.channels (n - 32)) (λ _ z e. refl) (λ _ z e. absurd (z refl)))))
      (λ _. cond_has (SameIfRefused run) (ltb n 64)
      (λ _. cond_has (SameIfRefused run) (is_no_source job (n - 48)) (λ _ z e. refl)
      (λ _. cond_has (SameIfRefused run) (eqb (count_at run.waiting (n - 48)) 0) (λ _ z e. refl)
      (λ _. cond_has (SameIfRefused run) (some_full job run.channels (n - 48)) (λ _ z e. refl) (λ _. completed_same _))))
      (λ _. cond_has (SameIfRefused run) (eqb n 64)
      (λ _. cond_has (SameIfRefused run) (leb 1 run.under_way) (λ _ z e. refl) (λ _ z e. absurd (z refl)))
      (λ _. cond_has (SameIfRefused run) (eqb n 65) (λ _ z e. absurd (z refl)) (λ _ z e. refl)))))
