-- The tasks noted as having a full output are those that have one (`full_at`).
use mathlib.Core.Path.{◌≡◌, sym, ap, ◌∙◌, refl}
use mathlib.Core.Bool.{Bool, true, false, ◌&&◌, ◌||◌}
use mathlib.Core.List.{List}
use Prim.Native.Nat.{ℕ, zero, suc, ◌<◌}
use native.Mathlib.Omega.{arith}
use lib.Dec.{eqb, leb}
use lib.ListN.{get_or, set, length, replicate, length-set, length-replicate}
use lib.Seq.{get_or-set_same, get_or-set_other}
use borrow.Author.Tests.{eqb-true, eqb-false}
use Rattle.channel.specs.declared.Channel.{Channel}
use Rattle.job.specs.declared.Job.{Job}
use Rattle.job.specs.Tests.{some}
use Rattle.job.specs.Jobs.{from_of, is_output}
use Rattle.run.specs.Runs.{no_channel}
use Rattle.outputs.specs.Outputs.{is_full}
use Rattle.drain.specs.Ready.{noted_to}

or_false : (b : Bool) → b ≡ b || false
or_false true = refl
or_false false = refl

unset : (n i : ℕ) → get_or (replicate n false) i false ≡ false
unset zero i = refl
unset (suc n) zero = refl
unset (suc n) (suc i) = unset n i

module _ (job : Job) (chans : List Channel) where
  abbrev noted : ℕ → List Bool
  noted = noted_to (replicate 16 false) job.from chans

  length_noted : (k : ℕ) → length (noted k) ≡ 16
  unfolding noted_to
  length_noted zero = length-replicate 16 false
  length_noted (suc k) = length-set (noted k) (from_of job k) _ ∙ length_noted k

  -- the list after channel k was looked at
  abbrev after : ℕ → List Bool
  after k = set (noted k) (from_of job k) (get_or (noted k) (from_of job k) false || leb 8 (get_or chans k no_channel).count)

  abbrev full_of : ℕ → ℕ → Bool
  full_of u c = is_output job u c && is_full (get_or chans c no_channel)

  pub full_at : (k : ℕ) → ((c : ℕ) → c < k → from_of job c < 16)
      → (u : ℕ) → get_or (noted k) u false ≡ some (full_of u) k
  unfolding noted_to some
  full_at zero small u = unset 16 u
  full_at (suc k) small u = go (eqb (from_of job k) u) refl (full_at k (λ c l. small c (omega arith)) u)
    where
      go : (b : Bool) → eqb (from_of job k) u ≡ b → get_or (noted k) u false ≡ some (full_of u) k
          → get_or (after k) u false ≡ some (full_of u) k || b && is_full (get_or chans k no_channel)
      go true q ih =
          let e : from_of job k ≡ u = eqb-true (from_of job k) u q in
          ap (λ j. get_or (after k) j false) (sym e)
          ∙ get_or-set_same (noted k) (from_of job k) _ false (omega (arith, length_noted k, small k (omega arith)))
          ∙ ap (λ b. b || leb 8 (get_or chans k no_channel).count) (ap (λ j. get_or (noted k) j false) e ∙ ih)
      go false q ih =
          let ne : from_of job k ≡ u → ⊥ = eqb-false (from_of job k) u q in
          get_or-set_other (noted k) (from_of job k) u _ false (λ e. ne (sym e)) ∙ ih ∙ or_false (some (full_of u) k)
