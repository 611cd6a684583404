-- What every grown run has. Each snapshot, under way or not yet begun, has a view of the run, and the law of conservation holds in
-- every view; the barriers are in order; something of the oldest snapshot is missing. `Good` is all of it, `Fits` request h's rule
-- of fit.
use Rattle.std.specs.Prelude.{◌≡◌, true, false, cond, List, [], ◌++◌, ◌⊎◌, ℕ, suc, ◌+◌, ◌-◌, ◌<◌, ◌≤◌, ltb, take}
use Rattle.laws.specs.Received.{received}
use Rattle.laws.specs.Sums.{sum_l}
use Rattle.laws.specs.Value.{Balance}
use Rattle.laws.specs.Items.{upto, bars}
use Rattle.laws.specs.Run.{Run, Job}

module _ (J : Job) where
  open J use {R, g, M, φ, src, part, back, cap}
  open g use {n, m, from, to, depth}
  open M use {Car}

  -- what direct evaluation gives for task u when each source has read so many of its records
  abbrev pub direct_at : (ℕ → ℕ) → ℕ → Car
  direct_at offs u = sum_l M φ (received g depth (λ t. take (offs t) (part t)) u)

  -- totals that are direct evaluation's at given offsets (requests k and m: a run may begin from them)
  abbrev pub Direct : (ℕ → Car) → (ℕ → ℕ) → Type 0
  Direct tot offs = (u : ℕ) → u < n → tot u ≡ direct_at offs u

  -- the law of conservation, where each source has read so many of its records
  abbrev pub Bal : ℕ → Car → (ℕ → List R) → (ℕ → ℕ) → Type 0
  Bal u tot pend offs = Balance g M φ u tot pend (λ t. take (offs t) (part t))

  -- THE VIEW of snapshot i: a task's stored totals, or its live ones where it has not stored,
  abbrev pub snap_tot : Run R Car → ℕ → ℕ → Car
  snap_tot s i u = cond (ltb i (s.stored u)) (s.half i u) (s.live u)

  -- of a channel what is logged and the records before the snapshot's barrier,
  abbrev pub snap_pend : Run R Car → ℕ → ℕ → List R
  snap_pend s i c = s.log i c ++ upto (suc i - s.gone c) (s.chan c)

  -- a source's stored offset, or its live one
  abbrev pub snap_off : Run R Car → ℕ → ℕ → ℕ
  snap_off s i t = cond (ltb i (s.stored t)) (s.half_off i t) (s.off t)

  -- THE ORDER of barriers, with no word of totals: what request h asks of a run that fits, but for the oldest not being stored by all
  pub record Order (s : Run R Car) : Type 0 where
    -- ONE EQUATION FOR ALL BARRIERS: those in c and those taken from c are the snapshots that c's from_task has stored
    pub bar_eq : (c : ℕ) → c < m → bars (s.chan c) + s.gone c ≡ s.stored (from c)
    -- a task has stored only what came over every input that is no back channel, and at most one more has come
    pub fwd : (c : ℕ) → c < m → back c ≡ false → s.stored (to c) ≤ s.gone c
    pub one_mark : (c : ℕ) → c < m → s.gone c ≤ suc (s.stored (to c))
    -- a source has stored, or has waiting, each snapshot under way
    pub wait_eq : (t : ℕ) → t < n → src t ≡ true → s.wait t + s.stored t ≡ s.going
    pub idle : (t : ℕ) → t < n → s.stored t ≤ s.going

  -- THE INVARIANT. `snap_ok` speaks of every i, also of snapshots not yet begun: at i = going it is the law of the live run
  pub record Inv (s : Run R Car) : Type 0 where
    pub order : Order s
    pub log_none : (i c : ℕ) → c < m → s.stored (to c) ≤ i → s.log i c ≡ []
    pub log_fwd : (i c : ℕ) → c < m → back c ≡ false → s.log i c ≡ []
    pub last_log_fwd : (c : ℕ) → c < m → back c ≡ false → s.last_log c ≡ []
    pub snap_ok : (i u : ℕ) → u < n → Bal u (snap_tot s i u) (snap_pend s i) (snap_off s i)
    pub last_ok : (u : ℕ) → u < n → Bal u (s.last u) s.last_log s.last_off

  -- task t awaits a barrier on an input that is no back channel
  abbrev pub AwaitsAt : Run R Car → ℕ → Type 0
  AwaitsAt s t = (c : ℕ) × (c < m) × (to c ≡ t) × (back c ≡ false) × (s.gone c ≤ s.stored t)

  -- every task but the sources does
  abbrev pub Awaits : Run R Car → Type 0
  Awaits s = (t : ℕ) → t < n → src t ≡ false → AwaitsAt s t

  -- snapshot k is not stored by all, or its barrier has not come back over every back channel
  abbrev pub Behind : ℕ → Run R Car → Type 0
  Behind k s = ((t : ℕ) × (t < n) × (s.stored t ≤ k)) ⊎ ((c : ℕ) × (c < m) × (back c ≡ true) × (s.gone c ≤ k))

  -- REQUEST h'S RULE OF FIT, for any run, grown or from elsewhere: the order of barriers, and no snapshot under way is stored by all
  pub record Fits (s : Run R Car) : Type 0 where
    pub order : Order s
    pub unfin : 0 < s.going → Behind 0 s
    pub few : s.going ≤ cap

  -- WHAT A GROWN RUN HAS: the invariant, an awaited input of every task, and something missing of the oldest snapshot
  pub record Good (s : Run R Car) : Type 0 where
    pub inv : Inv s
    pub awaits : Awaits s
    pub unfin : 0 < s.going → Behind 0 s
    pub few : s.going ≤ cap
