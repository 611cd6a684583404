-- The product's job and run, read as a job and a run of `laws`: what a channel holds as items, totals as elements of the monoid of totals,
-- a source's count as its offset. A channel that the job lacks has ends that are no task, so that it is nobody's input or output.
use mathlib.Core.Path.{◌≡◌, refl, sym, ap, ◌∙◌}
use mathlib.Core.Bool.{Bool, false, cond, ◌&&◌, false≢true}
use mathlib.Core.List.{List, [], ◌∷◌}
use Prim.Native.Nat.{ℕ, ◌+◌, ◌<◌, ◌≤◌}
use native.Mathlib.Omega.{arith}
use borrow.Author.Tests.{lt-ltb, le-ltb}
use lib.Dec.{eqb, ltb}
use lib.IntN.{ℤ, nat_abs}
use lib.ListN.{length}
use Rattle.laws.specs.Received.{Graph}
use Rattle.laws.specs.Below.{bit}
use Rattle.laws.specs.Acyclic.{Ranked}
use Rattle.laws.specs.Totals.{tot_mon, one_total}
use Rattle.laws.specs.Items.{Item, barrier, rec}
use Rattle.laws.specs.Run.{Job as LawJob, Run as LawRun}
use Rattle.laws.specs.Step.{Out, done, ended, refused}
use Rattle.laws.proofs.Value.{measured}
use Rattle.tally.specs.declared.Record.{Record}
use Rattle.tally.specs.declared.Totals.{Totals}
use Rattle.tally.proofs.Fold.{encode}
use Rattle.channel.specs.declared.Cargo.{Cargo}
use Rattle.channel.specs.declared.Cargo.TheVariants.{Barrier, Record as Recorded}
use Rattle.channel.specs.declared.Item.{Item as ChannelItem}
use Rattle.channel.specs.Channels.{held}
use Rattle.job.specs.declared.Job.{Job}
use Rattle.job.specs.Jobs.{a_of, b_of, from_of, to_of, is_source}
use Rattle.job.specs.Graph.{over_channel}
use Rattle.job.specs.Fits.{JobFits}
use Rattle.direct.specs.Direct.{records_from}
use Rattle.run.specs.declared.Run.{Run}
use Rattle.run.specs.Fit.{channel_at, totals_at, flag_at, count_at}
use Rattle.step.specs.declared.Stepped.{Stepped}
use Rattle.step.specs.Step.{last_or_none}
use Rattle.step.specs.Handlers.{Sized as SizedRun}

-- ---- a run
abbrev pub item_of : Cargo → Item Record
item_of Barrier = barrier
item_of (Recorded r) = rec r

abbrev pub items_of : List ChannelItem → List (Item Record)
items_of [] = []
items_of (x ∷ xs) = item_of x.cargo ∷ items_of xs

-- a task of the job that is a source
abbrev pub source_of : Job → ℕ → Bool
source_of job t = ltb t job.tasks && is_source job t

-- a source's count is its offset
abbrev pub offset_in : Job → List Totals → ℕ → ℕ
offset_in job l t = cond (source_of job t) (totals_at l t).count 0

-- with no log, and nothing in front of a channel
abbrev pub law_run : (ℕ → List (Item Record)) → (ℕ → tot_mon.Car) → (ℕ → ℕ) → (ℕ → ℕ) → (ℕ → ℕ) → (ℕ → ℕ) → (ℕ → ℕ → tot_mon.Car)
    → (ℕ → ℕ → ℕ) → ℕ → (ℕ → tot_mon.Car) → (ℕ → ℕ) → LawRun Record tot_mon.Car
law_run chan live off gone wait stored half half_off going last last_off = record {
  chan = chan;
  live = live;
  off = off;
  gone = gone;
  wait = wait;
  stored = stored;
  half = half;
  half_off = half_off;
  log = λ i c. [];
  front = λ c. 0;
  going = going;
  last = last;
  last_off = last_off;
  last_log = λ c. [];
}

-- the end of a channel, which for a channel that the job lacks is no task
abbrev pub end_of : Job → (ℕ → ℕ) → ℕ → ℕ
end_of job end c = cond (ltb c job.channels) (end c) job.tasks

abbrev pub to_at : Job → ℕ → ℕ
to_at job c = end_of job (to_of job) c

abbrev pub gone_at : Job → List ℕ → List Bool → ℕ → ℕ
gone_at job stored marked c = count_at stored (to_at job c) + bit (flag_at marked c)

abbrev pub lives_of : List Totals → ℕ → tot_mon.Car
lives_of l v = encode (totals_at l v)

abbrev pub half_at : List Totals → ℕ → ℕ → tot_mon.Car
half_at l i v = cond (eqb i 0) (encode (totals_at l v)) tot_mon.unit

abbrev pub half_off_at : Job → List Totals → ℕ → ℕ → ℕ
half_off_at job l i v = cond (eqb i 0) (offset_in job l v) 0

-- THE RUN OF `laws`; with other numbers of barriers taken and waiting than the run itself has
abbrev pub at_with : Job → (ℕ → ℕ) → (ℕ → ℕ) → Run → LawRun Record tot_mon.Car
at_with job gone wait run =
    law_run (λ c. items_of (held (channel_at run c))) (lives_of run.live) (offset_in job run.live) gone wait (count_at run.stored)
    (half_at run.half) (half_off_at job run.half) run.under_way (lives_of (last_or_none run)) (offset_in job (last_or_none run))

abbrev pub at : Job → Run → LawRun Record tot_mon.Car
at job run = at_with job (gone_at job run.stored run.marked) (count_at run.waiting) run

-- arrays of the sizes that the run's type gives them
abbrev pub Sized : Run → Type 0
Sized run = SizedRun run

-- a step's outcome
abbrev pub read_out : Job → Stepped → Out (LawRun Record tot_mon.Car)
read_out job s =
    cond (eqb s.answer 0) (done (at job s.run))
    (cond (eqb s.answer 20) (ended (at job s.run)) (refused s.answer))

-- ---- a job
abbrev pub read_graph : Job → Graph Record
read_graph job = record {
  n = job.tasks;
  m = job.channels;
  from = end_of job (from_of job);
  to = end_of job (to_of job);
  sends = over_channel job;
  depth = job.tasks;
}

-- the records that a task is to read, cylinders and values being the columns of the lent records
abbrev pub part_of : Job → List ℤ → List ℤ → ℕ → List Record
part_of job cylinders values t = cond (source_of job t) (records_from cylinders values (nat_abs (a_of job t)) (nat_abs (b_of job t))) []

module _ (job : Job) where
  -- an end of a channel that the job has
  pub end_is : (end : ℕ → ℕ) (c : ℕ) → c < job.channels → end_of job end c ≡ end c
  end_is end c l = ap (λ b. cond b (end c) job.tasks) (lt-ltb c job.channels l)

  pub end_out : (end : ℕ → ℕ) (c : ℕ) → job.channels ≤ c → end_of job end c ≡ job.tasks
  end_out end c l = ap (λ b. cond b (end c) job.tasks) (le-ltb c job.channels l)

  pub source_is : (t : ℕ) → t < job.tasks → source_of job t ≡ is_source job t
  source_is t l = ap (λ b. b && is_source job t) (lt-ltb t job.tasks l)

  pub source_out : (t : ℕ) → job.tasks ≤ t → source_of job t ≡ false
  source_out t l = ap (λ b. b && is_source job t) (le-ltb t job.tasks l)

module _ (job : Job) (cylinders values : List ℤ) (J : JobFits job (length cylinders)) where
  pub no_part : (t : ℕ) → source_of job t ≡ false → part_of job cylinders values t ≡ []
  no_part t e = ap (λ b. cond b (records_from cylinders values (nat_abs (a_of job t)) (nat_abs (b_of job t))) []) e

  pub to_ok : (c : ℕ) → c < job.channels → to_at job c < job.tasks
  to_ok c l = omega (arith, end_is job (to_of job) c l, J.sends.sized.to_task c l)

  pub from_ok : (c : ℕ) → c < job.channels → end_of job (from_of job) c < job.tasks
  from_ok c l = omega (arith, end_is job (from_of job) c l, J.sends.sized.from_task c l)

  pub no_in : (c : ℕ) → c < job.channels → source_of job (to_at job c) ≡ false
  no_in c l = source_is job _ (to_ok c l) ∙ ap (is_source job) (end_is job (to_of job) c l) ∙ J.no_input c l

  pub some_in : (t : ℕ) → t < job.tasks → source_of job t ≡ false
      → (c : ℕ) × (c < job.channels) × (to_at job c ≡ t) × (false ≡ false)
  some_in t l e =
      let w = J.some_input t l (sym (source_is job t l) ∙ e) in
      (w.0, w.1, end_is job (to_of job) w.0 w.1 ∙ w.2, refl)

  pub ranked : Ranked (read_graph job) (λ c. false)
  ranked = record {
    rank = J.ranked.rank;
    rank_lt = J.ranked.rank_lt;
    rank_up = λ c l e. omega (
      arith,
      J.ranked.rank_up c l e,
      ap J.ranked.rank (end_is job (from_of job) c l),
      ap J.ranked.rank (end_is job (to_of job) c l),
    );
  }

  -- THE JOB OF `laws`: one snapshot under way, no back channel
  abbrev pub read_job : LawJob
  read_job = record {
    R = Record;
    g = read_graph job;
    G = measured (read_graph job) (λ c. false) from_ok to_ok (λ c l. refl) refl ranked;
    M = tot_mon;
    φ = λ r. one_total r.value;
    full = λ x. eqb x.0 1048576;
    src = source_of job;
    part = part_of job cylinders values;
    cap = 1;
    back = λ c. false;
    no_part = no_part;
    no_in = no_in;
    some_in = some_in;
    home = λ c l e. absurd (false≢true e);
  }
