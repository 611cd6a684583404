-- One turn of the drain on a run laid flat, over plain variables: where the lowest possible step brings a record, what the turn asks holds
-- (`inside`, `room_is`, `cylinder_is`), and the drain that goes on after it ends as before (`goes_more`).
use mathlib.Core.Path.{◌≡◌, refl, sym, ap, ◌∙◌, subst}
use mathlib.Core.Bool.{true, false, ◌||◌}
use mathlib.Core.List.{List}
use Prim.Native.Nat.{ℕ, ◌+◌, ◌-◌, ◌<◌, ◌≤◌}
use native.Mathlib.Omega.{arith}
use borrow.Author.Tests.{ne_eqb}
use lib.Dec.{eqb, ltb}
use lib.IntN.{ℤ, nat_abs}
use lib.ListN.{set, length}
use Rattle.std.specs.Prelude.{Option, Some, None}
use Rattle.tally.specs.declared.Record.{Record}
use Rattle.tally.specs.Totals.{Room}
use Rattle.channel.specs.declared.Cargo.TheVariants.{Record as Recorded}
use Rattle.job.specs.declared.Job.{Job}
use Rattle.job.specs.Jobs.{a_of}
use Rattle.job.specs.Columns.{RecordsFit}
use Rattle.job.specs.Fits.{JobFits}
use Rattle.run.specs.declared.Run.{Run}
use Rattle.run.specs.Runs.{with_channels}
use Rattle.run.specs.Fit.{channel_at, totals_at, Fits}
use Rattle.outputs.proofs.Cargos.{cylinder_from_1}
use Rattle.step.specs.Step.{stepped}
use Rattle.step.specs.Algorithm.{taken_in}
use Rattle.step.proofs.Keeps.{stepped_fits}
use Rattle.flat.specs.Columns.{head_of}
use Rattle.drain.specs.Ready.{task_by, channel_by, possible_in, full_tasks, found}
use Rattle.drain.specs.Sending.{brought_by, left_on}
use Rattle.drain.specs.Drains.{possible, first_from, lowest, drained_of}
use Rattle.drain.specs.Turns.{Goes, is_over}
use Rattle.drain.proofs.Draining.{goes_on, one_step}
use Rattle.drain.proofs.Brings.{Brings, brings, brought_inside, possible_left}
use Rattle.drain.proofs.Steps.{find_is, found_none, found_some}

pub goes_first : (job : Job) (cs vs : List ℤ) (run : Run) (limit start : ℕ) → start ≤ limit → Fits job run
    → Goes job cs vs run limit start start run
goes_first job cs vs run limit start l f = record { within = l; since = omega arith; fits = f; rest = refl }

-- a turn that goes on: n is the lowest possible step, and the limit is not spent
pub record Turn (job : Job) (cs vs : List ℤ) (run : Run) (limit start steps : ℕ) (now : Run) (n : ℕ) : Type 0 where
  pub job_fits : JobFits job (length cs)
  pub records_fit : RecordsFit cs vs
  pub goes : Goes job cs vs run limit start steps now
  pub low : n ≡ lowest job cs vs now
  pub on : is_over job cs vs limit steps now ≡ false

-- what the search found: nothing, or the turn's step
module _ {job : Job} {cs vs : List ℤ} {run : Run} {limit start steps : ℕ} {now : Run} (J : JobFits job (length cs))
    (g : Goes job cs vs run limit start steps now) where
  abbrev searched : Option ℕ
  searched = found (first_from 64 0 (possible_in job (full_tasks job now) now))

  found_is : searched ≡ found (lowest job cs vs now)
  found_is = ap found (find_is job cs vs now J.sends.sized g.fits)

  pub none_next : searched ≡ None → is_over job cs vs limit steps now ≡ true
  none_next e = ap (λ b. b || eqb steps limit) (found_none (lowest job cs vs now) (sym found_is ∙ e))

  pub turn_next : RecordsFit cs vs → (n : ℕ) → searched ≡ Some n → steps < limit → Turn job cs vs run limit start steps now n
  turn_next r n e more =
      let x = found_some (lowest job cs vs now) n (sym found_is ∙ e) in
      record {
        job_fits = J;
        records_fit = r;
        goes = g;
        low = x.0;
        on = ap (λ b. b || eqb steps limit) x.1 ∙ ne_eqb steps limit (λ q. omega arith);
      }

module _ {job : Job} {cs vs : List ℤ} {run : Run} {limit start steps : ℕ} {now : Run} {n : ℕ}
    (T : Turn job cs vs run limit start steps now n) where
  pub going : (n < 64) × (possible job cs vs now n ≡ true) × (steps < limit)
  going = goes_on job cs vs limit steps now T.goes.within n T.low T.on

  module _ (t : ℕ) (te : t ≡ task_by job.to n) where
    pub inside : ltb n 32 ≡ false → ltb n 48 ≡ true → nat_abs (a_of job t) + (totals_at now.live t).count < length cs
    inside p q =
        subst (λ u. nat_abs (a_of job u) + (totals_at now.live u).count < length cs) (sym te)
        (brought_inside job cs vs now n T.job_fits T.goes.fits going.1 going.0 p q).1

    module _ (got : Record) (e : brought_by cs vs n (head_of (channel_at now (channel_by n))) (a_of job t) (totals_at now.live t).count
        ≡ Recorded got) where
      bring_is : Brings job cs vs now n got
      bring_is =
          brings job cs vs now n T.job_fits T.goes.fits going.1 T.records_fit got
          (ap (λ u. brought_by cs vs n (head_of (channel_at now (channel_by n))) (a_of job u) (totals_at now.live u).count) (sym te) ∙ e)

      pub room_is : Room (totals_at now.live t)
      room_is = subst (λ u. Room (totals_at now.live u)) (sym te) bring_is.room

      pub cylinder_is : 1 ≤ got.cylinder
      cylinder_is = cylinder_from_1 got bring_is.fits

      pub goes_more : (next : Run)
          → next ≡ taken_in job (with_channels (set now.channels (channel_by n) (left_on n (channel_at now (channel_by n)))) now) t got
          → Goes job cs vs run limit start (steps + 1) next
      goes_more next h =
          let left = possible_left job cs vs now n T.job_fits T.goes.fits going.1 going.0 in
          let rest = with_channels (set now.channels (channel_by n) (left_on n (channel_at now (channel_by n)))) now in
          let after = h ∙ ap (λ u. taken_in job rest u got) te ∙ sym bring_is.after ∙ ap (λ m. (stepped job cs vs now m).run) T.low in
          let more = one_step job cs vs limit steps now going.2 left (λ q. omega (arith, going.0, T.low, q)) in
          record {
            within = omega (arith, going.2);
            since = omega (arith, T.goes.since);
            fits = subst (Fits job) (sym after) (stepped_fits job cs vs now (lowest job cs vs now) T.job_fits T.records_fit T.goes.fits);
            rest = ap (drained_of job cs vs (limit - (steps + 1)) (steps + 1)) after ∙ sym more ∙ T.goes.rest;
          }
