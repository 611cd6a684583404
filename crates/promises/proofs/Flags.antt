-- What an answer 20 says of whether a snapshot is complete and of how many are under way, and nothing but it: the last complete snapshot is
-- there after a 20 or where it was there before, and of the steps 0 to 63 a 20 alone ends a snapshot that is under way (`step_flags`).
use mathlib.Core.Path.{◌≡◌, refl, sym, ap, ◌∙◌}
use mathlib.Core.Bool.{Bool, true, false, ◌&&◌, ◌||◌, cond}
use mathlib.Core.List.{List}
use Prim.Native.Nat.{ℕ, ◌-◌, ◌<◌, ◌≤◌}
use native.Mathlib.Omega.{arith}
use borrow.Author.Tests.{ne_eqb, ltb-true, ltb-false}
use lib.Dec.{eqb, ltb, leb}
use lib.IntN.{ℤ, nat_abs}
use lib.ListN.{set}
use Rattle.channel.specs.declared.Cargo.{Cargo}
use Rattle.channel.specs.declared.Cargo.TheVariants.{Barrier, Record as Recorded}
use Rattle.channel.specs.declared.Channel.{Channel}
use Rattle.channel.specs.declared.Taken.{Taken}
use Rattle.channel.specs.Channels.{without_head}
use Rattle.job.specs.declared.Job.{Job}
use Rattle.job.specs.Jobs.{b_of, to_of}
use Rattle.run.specs.declared.Run.{Run}
use Rattle.run.specs.Fit.{channel_at, totals_at, flag_at, count_at}
use Rattle.outputs.specs.Outputs.{some_full, all_marked, all_stored}
use Rattle.step.specs.declared.Stepped.{Stepped}
use Rattle.step.specs.Algorithm.{answered, completed, stored_by, barrier_received, taken_in, record_received, sealed}
use Rattle.step.specs.Step.{with_cargo, with_taken, delivered, is_no_source, offset_of, source_read, barrier_sent, begun, cut_off, stepped}
use Rattle.step.proofs.Fitting.{cond_has}

-- the two after a step of 0 to 63
pub record Flags (run : Run) (s : Stepped) : Type 0 where
  pub complete : s.run.complete ≡ run.complete || eqb s.answer 20
  pub under_way : s.run.under_way ≡ cond (eqb s.answer 20) 0 run.under_way

pub or_false : (b : Bool) → b ≡ b || false
or_false true = refl
or_false false = refl

pub or_true : (b : Bool) → true ≡ b || true
or_true true = refl
or_true false = refl

module _ (run : Run) where
  -- a run where the two are those of `run`, answered with another number
  pub same_flags : (next : Run) (a : ℕ) → next.complete ≡ run.complete → next.under_way ≡ run.under_way → (a ≡ 20 → ⊥)
      → Flags run (answered a next)
  same_flags next a p q ne = record {
    complete = p ∙ or_false run.complete ∙ ap (λ b. run.complete || b) (sym (ne_eqb a 20 ne));
    under_way = q ∙ ap (λ b. cond b 0 run.under_way) (sym (ne_eqb a 20 ne));
  }

  pub refused_flags : (a : ℕ) → (a ≡ 20 → ⊥) → Flags run (answered a run)
  refused_flags a ne = same_flags run a refl refl ne

  completed_flags : (job : Job) (next : Run) → next.complete ≡ run.complete → next.under_way ≡ run.under_way
      → Flags run (completed job next)
  unfolding completed
  completed_flags job next p q =
      cond_has (Flags run) (ltb 0 next.under_way && all_stored job next.stored) {x = answered 20 (sealed next)}
      (λ _. record { complete = or_true run.complete; under_way = refl })
      (λ _. same_flags next 0 p q (λ z. omega (arith, z)))

  cargo_flags : (job : Job) (c : ℕ) (cargo : Cargo) (rest : Channel) → Flags run (with_cargo job run c cargo rest)
  unfolding barrier_received record_received stored_by taken_in
  cargo_flags job c Barrier rest =
      cond_has (Flags run) (all_marked job (set run.marked c true) (to_of job c))
      (λ _. cond_has (Flags run) (some_full job run.channels (to_of job c)) (λ _. refused_flags 14 (λ z. omega (arith, z)))
      (λ _. completed_flags job _ refl refl))
      (λ _. same_flags _ 0 refl refl (λ z. omega (arith, z)))
  cargo_flags job c (Recorded r) rest =
      cond_has (Flags run) (some_full job run.channels (to_of job c)) (λ _. refused_flags 14 (λ z. omega (arith, z)))
      (λ _. cond_has (Flags run) (leb 1048576 (totals_at run.live (to_of job c)).count) (λ _. refused_flags 17 (λ z. omega (arith, z)))
      (λ _. same_flags _ 0 refl refl (λ z. omega (arith, z))))

  -- taking a head answers 16, 13 or 0
  taken_not_20 : (ch : Channel) → (without_head ch).answer ≡ 20 → ⊥
  unfolding without_head
  taken_not_20 ch =
      cond_has (λ (t : Taken). t.answer ≡ 20 → ⊥) (ltb 8 ch.count) (λ _ z. omega (arith, z))
      (λ _. cond_has (λ (t : Taken). t.answer ≡ 20 → ⊥) (eqb ch.count 0) (λ _ z. omega (arith, z)) (λ _ z. omega (arith, z)))

  pub step_flags : (job : Job) (c v : List ℤ) (n : ℕ) → n < 64 → Flags run (stepped job c v run n)
  unfolding stepped delivered with_taken source_read barrier_sent stored_by taken_in
  step_flags job c v n l =
      let got = without_head (channel_at run n) in
      cond_has (Flags run) (ltb n 32)
      (λ _. cond_has (Flags run) (leb job.channels n) (λ _. refused_flags 11 (λ z. omega (arith, z)))
      (λ _. cond_has (Flags run) (flag_at run.marked n) (λ _. refused_flags 12 (λ z. omega (arith, z)))
      (λ _. cond_has (Flags run) (eqb got.answer 0) (λ _. cargo_flags job n got.item.cargo got.channel)
      (λ _. refused_flags got.answer (taken_not_20 (channel_at run n))))))
      (λ _. cond_has (Flags run) (ltb n 48)
      (λ _. cond_has (Flags run) (is_no_source job (n - 32)) (λ _. refused_flags 11 (λ z. omega (arith, z)))
      (λ _. cond_has (Flags run) (leb (nat_abs (b_of job (n - 32))) (offset_of run (n - 32))) (λ _. refused_flags 13 (λ z. omega (arith, z)))
      (λ _. cond_has (Flags run) (some_full job run.channels (n - 32)) (λ _. refused_flags 14 (λ z. omega (arith, z)))
      (λ _. same_flags _ 0 refl refl (λ z. omega (arith, z))))))
      (λ _. cond_has (Flags run) (ltb n 64)
      (λ _. cond_has (Flags run) (is_no_source job (n - 48)) (λ _. refused_flags 11 (λ z. omega (arith, z)))
      (λ _. cond_has (Flags run) (eqb (count_at run.waiting (n - 48)) 0) (λ _. refused_flags 13 (λ z. omega (arith, z)))
      (λ _. cond_has (Flags run) (some_full job run.channels (n - 48)) (λ _. refused_flags 14 (λ z. omega (arith, z)))
      (λ _. completed_flags job _ refl refl))))
      (λ h. absurd (omega (arith, ltb-false n 64 h)))))

  -- 64, 65 and above leave what is complete, and answer no 20
  abbrev Late : Stepped → Type 0
  Late s = (s.run.complete ≡ run.complete) × (s.answer ≡ 20 → ⊥)

  late_complete : (job : Job) (c v : List ℤ) (n : ℕ) → 64 ≤ n → Late (stepped job c v run n)
  unfolding stepped begun cut_off
  late_complete job c v n h =
      cond_has Late (ltb n 32) (λ e. absurd (omega (arith, ltb-true n 32 e)))
      (λ _. cond_has Late (ltb n 48) (λ e. absurd (omega (arith, ltb-true n 48 e)))
      (λ _. cond_has Late (ltb n 64) (λ e. absurd (omega (arith, ltb-true n 64 e)))
      (λ _. cond_has Late (eqb n 64)
      (λ _. cond_has Late (leb 1 run.under_way) (λ _. (refl, λ z. omega (arith, z))) (λ _. (refl, λ z. omega (arith, z))))
      (λ _. cond_has Late (eqb n 65) (λ _. (refl, λ z. omega (arith, z))) (λ _. (refl, λ z. omega (arith, z)))))))

  -- whatever the step, a snapshot is complete after it where one was before or it answers 20
  pub step_complete : (job : Job) (c v : List ℤ) (n : ℕ)
      → (stepped job c v run n).run.complete ≡ run.complete || eqb (stepped job c v run n).answer 20
  step_complete job c v n = go (ltb n 64) refl
    where
      go : (b : Bool) → ltb n 64 ≡ b → (stepped job c v run n).run.complete ≡ run.complete || eqb (stepped job c v run n).answer 20
      go true e = (step_flags job c v n (ltb-true n 64 e)).complete
      go false e =
          let w = late_complete job c v n (ltb-false n 64 e) in
          w.0 ∙ or_false run.complete ∙ ap (λ b. run.complete || b) (sym (ne_eqb (stepped job c v run n).answer 20 w.1))
