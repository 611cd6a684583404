-- A STEP CHANGES ONLY WHAT THE TABLE SAYS: a delivery from channel c to task t leaves every channel as it was but c and the outputs of t,
-- and the totals of every task but t; a source that reads or sends its barrier leaves every channel but its outputs, and every other task.
use mathlib.Core.Bool.{Bool, true, false, cond, ◌&&◌}
use mathlib.Core.Path.{◌≡◌, refl, sym, ap, ◌∙◌}
use mathlib.Core.List.{List, [], ◌∷◌}
use Prim.Native.Nat.{ℕ, zero, suc}
use borrow.Author.Tests.{eqb-true, eqb-false}
use lib.Dec.{ltb, leb, eqb}
use lib.IntN.{ℤ, nat_abs}
use lib.ListN.{get_or, set}
use lib.Seq.{get_or-set_other}
use Rattle.tally.specs.Totals.{no_totals}
use Rattle.channel.specs.declared.Cargo.{Cargo}
use Rattle.channel.specs.declared.Cargo.TheVariants.{Barrier, Record as Recorded}
use Rattle.channel.specs.declared.Channel.{Channel}
use Rattle.channel.specs.Channels.{without_head}
use Rattle.job.specs.declared.Job.{Job}
use Rattle.job.specs.Jobs.{b_of, to_of, is_output, place_of}
use Rattle.run.specs.declared.Run.{Run}
use Rattle.run.specs.Runs.{no_channel}
use Rattle.run.specs.Fit.{channel_at, totals_at, flag_at, count_at}
use Rattle.outputs.specs.Outputs.{some_full, all_marked, all_stored, each_place, carried, put_on, put_all}
use Rattle.step.specs.declared.Stepped.{Stepped}
use Rattle.step.specs.Algorithm.{completed, stored_by, barrier_received, taken_in, record_received}
use Rattle.step.specs.Step.{with_cargo, with_taken, delivered, is_no_source, offset_of, source_read, barrier_sent}
use Rattle.step.proofs.Fitting.{cond_has}

-- ---- a place that a loop leaves as it is
set_self : {A : Type 0} (l : List A) (n : ℕ) (d : A) (f : A → A) → ((x : A) → f x ≡ x)
    → get_or (set l n (f (get_or l n d))) n d ≡ get_or l n d
set_self [] n d f same = refl
set_self (y ∷ l) zero d f same = same y
set_self (y ∷ l) (suc n) d f same = set_self l n d f same

place_same : {A : Type 0} (d : A) (f : ℕ → A → A) (l : List A) (n i : ℕ) → ((x : A) → f i x ≡ x)
    → get_or (each_place d f l n) i d ≡ get_or l i d
unfolding each_place
place_same d f l zero i same = refl
place_same d f l (suc n) i same = go (eqb i n) refl (place_same d f l n i same)
  where
    go : (b : Bool) → eqb i n ≡ b → get_or (each_place d f l n) i d ≡ get_or l i d
        → get_or (set (each_place d f l n) n (f n (get_or (each_place d f l n) n d))) i d ≡ get_or l i d
    go true q ih =
        let e : i ≡ n = eqb-true i n q in
        ap (λ k. get_or (set (each_place d f l n) k (f k (get_or (each_place d f l n) k d))) i d) (sym e)
        ∙ set_self (each_place d f l n) i d (f i) same ∙ ih
    go false q ih = get_or-set_other (each_place d f l n) n i _ d (eqb-false i n q) ∙ ih

module _ (job : Job) where
  on_same : (t : ℕ) (cargo : Cargo) (d : ℕ) → is_output job t d ≡ false → (ch : Channel) → put_on job t cargo d ch ≡ ch
  unfolding put_on
  on_same t cargo d out ch = ap (λ b. cond b (carried job t (place_of job t d) (place_of job t job.channels) cargo ch) ch) out

  put_elsewhere : (t : ℕ) (cargo : Cargo) (held : List Channel) (d : ℕ) → is_output job t d ≡ false
      → get_or (put_all job t cargo held) d no_channel ≡ get_or held d no_channel
  unfolding put_all
  put_elsewhere t cargo held d out = place_same no_channel (put_on job t cargo) held job.channels d (on_same t cargo d out)

  -- what a step of task t, with the head of channel c taken or not, leaves as it was
  pub record Elsewhere (run : Run) (t : ℕ) (taken : ℕ → Type 0) (s : Stepped) : Type 0 where
    pub channels : (d : ℕ) → (taken d → ⊥) → is_output job t d ≡ false → channel_at s.run d ≡ channel_at run d
    pub live : (u : ℕ) → (u ≡ t → ⊥) → totals_at s.run.live u ≡ totals_at run.live u

  same : (run : Run) (t : ℕ) (taken : ℕ → Type 0) (a : ℕ) → Elsewhere run t taken (record { run = run; answer = a })
  same run t taken a = record { channels = λ d ne out. refl; live = λ u ne. refl }

  completed_elsewhere : (run next : Run) (t : ℕ) (taken : ℕ → Type 0)
      → Elsewhere run t taken (record { run = next; answer = 0 }) → Elsewhere run t taken (completed job next)
  unfolding completed
  completed_elsewhere run next t taken e =
      cond_has (Elsewhere run t taken) (ltb 0 next.under_way && all_stored job next.stored)
      (λ _. record { channels = e.channels; live = e.live }) (λ _. record { channels = e.channels; live = e.live })

  stored_elsewhere : (run next : Run) (t : ℕ) (taken : ℕ → Type 0)
      → Elsewhere run t taken (record { run = next; answer = 0 })
      → Elsewhere run t taken (record { run = stored_by job next t; answer = 0 })
  unfolding stored_by
  stored_elsewhere run next t taken e = record {
    channels = λ d ne out. put_elsewhere t Barrier next.channels d out ∙ e.channels d ne out;
    live = e.live;
  }

  -- ---- a delivery from channel c
  abbrev pub ByDelivery : Run → ℕ → Stepped → Type 0
  ByDelivery run c = Elsewhere run (to_of job c) (λ d. d ≡ c)

  barrier_elsewhere : (run : Run) (c : ℕ) (rest : Channel) → ByDelivery run c (barrier_received job run (to_of job c) c rest)
  unfolding barrier_received
  barrier_elsewhere run c rest =
      cond_has (ByDelivery run c) (all_marked job (set run.marked c true) (to_of job c))
      (λ _. cond_has (ByDelivery run c) (some_full job run.channels (to_of job c)) (λ _. same run _ _ 14)
      (λ _. completed_elsewhere run _ (to_of job c) (λ d. d ≡ c) (stored_elsewhere run _ (to_of job c) (λ d. d ≡ c)
      (record { channels = λ d ne out. get_or-set_other run.channels c d rest no_channel ne; live = λ u ne. refl }))))
      (λ _. record { channels = λ d ne out. get_or-set_other run.channels c d rest no_channel ne; live = λ u ne. refl })

  record_elsewhere : (run : Run) (c : ℕ) (cargo : Cargo) (rest : Channel) → ByDelivery run c (with_cargo job run c cargo rest)
  unfolding record_received taken_in
  record_elsewhere run c Barrier rest = barrier_elsewhere run c rest
  record_elsewhere run c (Recorded r) rest =
      cond_has (ByDelivery run c) (some_full job run.channels (to_of job c)) (λ _. same run _ _ 14)
      (λ _. cond_has (ByDelivery run c) (leb 1048576 (totals_at run.live (to_of job c)).count) (λ _. same run _ _ 17)
      (λ _. record {
        channels = λ d ne out.
            put_elsewhere (to_of job c) (Recorded r) (set run.channels c rest) d out ∙ get_or-set_other run.channels c d rest no_channel ne;
        live = λ u ne. get_or-set_other run.live (to_of job c) u _ no_totals ne;
      }))

  pub delivered_elsewhere : (run : Run) (c : ℕ) → ByDelivery run c (delivered job run c)
  unfolding delivered with_taken
  delivered_elsewhere run c =
      let got = without_head (channel_at run c) in
      cond_has (ByDelivery run c) (leb job.channels c) (λ _. same run _ _ 11)
      (λ _. cond_has (ByDelivery run c) (flag_at run.marked c) (λ _. same run _ _ 12)
      (λ _. cond_has (ByDelivery run c) (eqb got.answer 0)
      (λ _. record_elsewhere run c got.item.cargo got.channel) (λ _. same run _ _ got.answer)))

  -- ---- a source, which takes no head
  abbrev pub BySource : Run → ℕ → Stepped → Type 0
  BySource run t = Elsewhere run t (λ d. ⊥)

  pub read_elsewhere : (c v : List ℤ) (run : Run) (t : ℕ) → BySource run t (source_read job c v run t)
  unfolding source_read taken_in
  read_elsewhere c v run t =
      cond_has (BySource run t) (is_no_source job t) (λ _. same run _ _ 11)
      (λ _. cond_has (BySource run t) (leb (nat_abs (b_of job t)) (offset_of run t)) (λ _. same run _ _ 13)
      (λ _. cond_has (BySource run t) (some_full job run.channels t) (λ _. same run _ _ 14)
      (λ _. record {
        channels = λ d ne out. put_elsewhere t _ run.channels d out;
        live = λ u ne. get_or-set_other run.live t u _ no_totals ne;
      })))

  pub sent_elsewhere : (run : Run) (t : ℕ) → BySource run t (barrier_sent job run t)
  unfolding barrier_sent
  sent_elsewhere run t =
      cond_has (BySource run t) (is_no_source job t) (λ _. same run _ _ 11)
      (λ _. cond_has (BySource run t) (eqb (count_at run.waiting t) 0) (λ _. same run _ _ 13)
      (λ _. cond_has (BySource run t) (some_full job run.channels t) (λ _. same run _ _ 14)
      (λ _. completed_elsewhere run _ t (λ d. ⊥) (stored_elsewhere run _ t (λ d. ⊥)
      (record { channels = λ d ne out. refl; live = λ u ne. refl })))))
