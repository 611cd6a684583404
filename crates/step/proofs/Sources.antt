-- Sources and deliveries: what the tests of the step rules say.
use mathlib.Core.Path.{◌≡◌, refl, sym, subst}
use mathlib.Core.Bool.{Bool, true, false, not, true≢false}
use Prim.Native.Nat.{ℕ, ◌<◌}
use native.Mathlib.Omega.{arith}
use borrow.Author.Tests.{not-false, leb-false, lt-leb, eq-eqb, ne_eqb, eqb-false}
use lib.Dec.{ltb, leb, eqb}
use lib.IntN.{ℤ, pos, negsuc}
use lib.ListN.{get_or}
use lib.Signed.{le_z, non_neg}
use lib.Dec.{T}
use Rattle.channel.specs.declared.Cargo.{Cargo}
use Rattle.channel.specs.declared.Channel.{Channel}
use Rattle.channel.specs.declared.Taken.{Taken}
use Rattle.channel.specs.Channels.{barrier, without_head}
use Rattle.job.specs.declared.Job.{Job}
use Rattle.job.specs.Jobs.{is_source}
use Rattle.job.proofs.Bools.{neither}
use Rattle.run.specs.declared.Run.{Run}
use Rattle.run.specs.Fit.{channel_at, flag_at, cargo_fits, Fits}
use Rattle.step.specs.Algorithm.{answered}
use Rattle.step.specs.Step.{is_no_source, delivered, with_taken, with_cargo}

pub source_is : (job : Job) (t : ℕ) → is_no_source job t ≡ false → (t < job.tasks) × (is_source job t ≡ true)
unfolding is_no_source
source_is job t e =
    let x = neither (leb job.tasks t) (not (is_source job t)) e in
    (leb-false job.tasks t x.0, not-false (is_source job t) x.1)

pub not_negative : (x : ℤ) → le_z (pos 0) x ≡ true → T (non_neg x)
not_negative (pos n) e = tt
not_negative (negsuc n) e = absurd (true≢false (sym e))

-- ---- a delivery past the tests of 11 and 12
pub opened : (job : Job) (run : Run) (c : ℕ) (got : Taken) → c < job.channels → flag_at run.marked c ≡ false
    → got ≡ without_head (channel_at run c) → with_taken job run c got ≡ delivered job run c
unfolding delivered
opened job run c got h m e = simp (lt-leb _ _ h, m, sym e)

-- an item was taken
pub given : (job : Job) (run : Run) (c : ℕ) (got : Taken) (cargo : Cargo) → got.answer ≡ 0 → got.item.cargo ≡ cargo
    → with_cargo job run c cargo got.channel ≡ with_taken job run c got
unfolding with_taken
given job run c got cargo z e = simp (eq-eqb _ _ z, e)

-- nothing was taken: the number and the run as it came
pub not_given : (job : Job) (run : Run) (c : ℕ) (got : Taken) → (got.answer ≡ 0 → ⊥) → answered got.answer run ≡ with_taken job run c got
unfolding with_taken
not_given job run c got ne = simp (ne_eqb got.answer 0 ne)

-- what was taken is the head
pub head_of : (ch : Channel) → (without_head ch).answer ≡ 0 → (0 < ch.count) × ((without_head ch).item ≡ get_or ch.items 0 barrier)
unfolding without_head
head_of ch = go (ltb 8 ch.count) refl (eqb ch.count 0) refl
  where
    go : (s : Bool) → ltb 8 ch.count ≡ s → (t : Bool) → eqb ch.count 0 ≡ t → (without_head ch).answer ≡ 0
        → (0 < ch.count) × ((without_head ch).item ≡ get_or ch.items 0 barrier)
    go true p t q z = absurd (omega (arith, simp p at z))
    go false p true q z = absurd (omega (arith, simp (p, q) at z))
    go false p false q z = (omega (arith, eqb-false ch.count 0 q), simp (p, q))

-- a record that was taken fits as the run does
pub head_fits : (job : Job) (run : Run) (c : ℕ) (got : Taken) (cargo : Cargo) → c < 32 → Fits job run → got ≡ without_head (channel_at run c)
    → got.answer ≡ 0 → got.item.cargo ≡ cargo → cargo_fits cargo ≡ true
head_fits job run c got cargo l F e z k =
    let ch = channel_at run c in
    let h = head_of ch (rw e at z) in
    let k' : (get_or ch.items 0 barrier).cargo ≡ cargo = rw (e, h.1) at k in
    subst (λ x. cargo_fits x ≡ true) k' ((F.channels c l).cylinders 0 h.0)
