-- REQUEST n, the snapshot: totals with logs. The logs are what is pending (`last_logged`); restored, and delivered with no read
-- until nothing is held, they give direct evaluation at the snapshot's offsets (`restored_direct`).
use mathlib.Core.Path.{◌≡◌, refl, ap, ◌∙◌}
use mathlib.Core.List.{List, []}
use Prim.Native.Nat.{ℕ, ◌<◌}
use lib.ListN.{take}
use Rattle.laws.specs.Received.{received}
use Rattle.laws.specs.Sums.{sum_l}
use Rattle.laws.specs.Value.{val, worth}
use Rattle.laws.specs.Items.{recs}
use Rattle.laws.specs.Run.{Run, Job, cut_s}
use Rattle.laws.specs.Invariant.{direct_at, Inv, Good}
use Rattle.laws.specs.Moves.{Quiet, rests, moves}
use Rattle.laws.proofs.Balance.{balance_direct}
use Rattle.laws.proofs.Views.{live_direct}
use Rattle.laws.proofs.Moves.{step_good, cut_good}

module _ (J : Job) where
  open J use {R, g, G, M, φ, part}
  open g use {n, m, to, depth}
  open M use {Car, op as ◌⊕◌}

  infixl 60 ◌⊕◌
  -- DEMAND 3 WITH LOGS: the stored totals and the values of the logged records are direct evaluation's at the stored offsets
  pub last_logged : (s : Run R Car) → Inv J s → (u : ℕ) → u < n
      → s.last u ⊕ worth M m (λ c. val g M depth φ u (to c)) s.last_log ≡ direct_at J s.last_off u
  last_logged s I u lu = balance_direct g G M φ u lu (s.last u) s.last_log _ (I.last_ok u lu)

  quiet_good : {s s' : Run R Car} → Good J s → Quiet J s s' → Good J s'
  quiet_good K rests = K
  quiet_good K (moves {s} {s₁} p e q) = quiet_good (step_good J s s₁ K p) q

  quiet_off : {s s' : Run R Car} → Quiet J s s' → (t : ℕ) → s'.off t ≡ s.off t
  quiet_off rests t = refl
  quiet_off (moves p e q) t = quiet_off q t ∙ e t

  -- restored, and delivered with no read until nothing is held
  pub restored_direct : (s s' : Run R Car) → Good J s → Quiet J (cut_s J s) s'
      → ((c : ℕ) → c < m → recs (s'.chan c) ≡ []) → (u : ℕ) → u < n → s'.live u ≡ direct_at J s.last_off u
  restored_direct s s' K q e u lu = live_direct J s' (quiet_good (cut_good J s K) q).inv e u lu
      ∙ ap (λ (E : ℕ → List R). sum_l M φ (received g depth E u)) (λ i t. take (quiet_off q t i) (part t))
