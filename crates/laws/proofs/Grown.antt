-- Runs grown from a good one by a list of steps, done or refused, cuts among them, are good; a fresh run is. So their last complete
-- snapshot is direct evaluation's at its offsets (demand 3, first part).
use mathlib.Core.Path.{◌≡◌, refl, sym, ◌∙◌}
use mathlib.Core.List.{List, [], ◌∷◌}
use Prim.Native.Nat.{ℕ, ◌<◌}
use lib.ListN.{take}
use Rattle.laws.specs.Value.{val}
use Rattle.laws.specs.Run.{Run, Job, Plain, fresh_s}
use Rattle.laws.specs.Invariant.{direct_at, Direct, Fits, Good}
use Rattle.laws.specs.Step.{after, step_f, exec}
use Rattle.laws.proofs.Value.{sum_received}
use Rattle.laws.proofs.Flow.{worth-nil}
use Rattle.laws.proofs.Views.{last_direct}
use Rattle.laws.proofs.Moves.{step_fits, begin_fits, cut_fits, step_good, start_good, begin_good, cut_good}
use Rattle.laws.proofs.Step.{any_step}

module _ (J : Job) (some_task : 0 < J.g.n) where
  open J use {R, g, G, M, φ, part}
  open g use {n, depth}
  open M use {Car, unit as ε}

  -- nothing read: direct evaluation's totals are empty
  none_direct : Direct J (λ v. ε) (λ v. 0)
  none_direct u lu =
      sym (sum_received g M G depth φ (λ t. take 0 (part t)) u lu
      ∙ worth-nil M n (val g M depth φ u) (λ t. take 0 (part t)) (λ t l. refl))

  pub fresh_good : Good J (fresh_s J)
  fresh_good = start_good J (λ v. ε) (λ v. 0) none_direct

  -- every step, of any number, done or refused, keeps it
  pub any_good : (s : Run R Car) (k : ℕ) → Good J s → Good J (after s (step_f J s k))
  any_good s k K =
      any_step J (Good J) s k K.inv.order K (λ s' p. step_good J s s' K p) (begin_good J some_task s K) (cut_good J s K)

  -- of any run that fits by request h's rule: every step leaves one that fits
  pub any_fits : (s : Run R Car) (k : ℕ) → Fits J s → Fits J (after s (step_f J s k))
  any_fits s k F =
      any_step J (Fits J) s k F.order F (λ s' p. step_fits J s s' F p) (begin_fits J some_task s F) (cut_fits J s F)

  -- a list of steps
  pub exec_good : (ks : List ℕ) (s : Run R Car) → Good J s → Good J (exec J ks s)
  exec_good [] s K = K
  exec_good (k ∷ ks) s K = exec_good ks (after s (step_f J s k)) (any_good s k K)

  -- DEMAND 3, first part: after any steps from a good run the last complete snapshot is direct evaluation's at its offsets
  pub snapshot_direct : Plain J → (ks : List ℕ) (s₀ : Run R Car) → Good J s₀ → (u : ℕ) → u < n
      → (exec J ks s₀).last u ≡ direct_at J (exec J ks s₀).last_off u
  snapshot_direct P ks s₀ K u lu = last_direct J (exec J ks s₀) (exec_good ks s₀ K).inv P.no_back u lu
