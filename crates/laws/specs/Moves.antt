-- The whole steps 0 to 63 that are done, as a relation between the run before and the run after: each with the conditions under
-- which it is not refused. What is left to do; chains of steps. (The step by its number, refusals included, is in Step.antt.)
use Rattle.std.specs.Prelude.{◌≡◌, Bool, true, false, cond, List, [], ◌∷◌, ◌++◌, ℕ, suc, ◌+◌, ◌<◌, ◌≤◌, ltb, length, take}
use Rattle.laws.specs.Below.{both, all_n}
use Rattle.laws.specs.Items.{Item, barrier, rec}
use Rattle.laws.specs.Run.{Run, Job, blocked, read_s, deliver_s, mark_s, store_s, finish_s}

module _ (J : Job) where
  open J use {R, g, M, src, part, back}
  open g use {n, m, from, to}
  open M use {Car}

  -- every task has stored the oldest snapshot, and its barrier has come back over every back channel
  abbrev pub whole : Run R Car → Bool
  whole s = both (all_n n (λ t. ltb 0 (s.stored t))) (all_n m (λ c. cond (back c) (ltb 0 (s.gone c)) true))

  -- after a store or a return: the oldest is complete where it is whole
  abbrev pub settle : Run R Car → Run R Car
  settle s = cond (whole s) (finish_s J s) s

  -- every output of t holds fewer than 8, restored records apart
  abbrev pub Room : Run R Car → ℕ → Type 0
  Room s t = (c : ℕ) → c < m → from c ≡ t → length (s.chan c) < 8 + s.front c

  -- r is the next record of source t
  abbrev pub Next : Run R Car → ℕ → R → Type 0
  Next s t r = take (suc (s.off t)) (part t) ≡ take (s.off t) (part t) ++ (r ∷ [])

  -- every input of d's to_task but the back channels has delivered the barrier that the task stores next, with the one taken from d now
  abbrev pub AllMarked : Run R Car → ℕ → Type 0
  AllMarked s d = (c : ℕ) → c < m → to c ≡ to d → back c ≡ false → s.stored (to d) < (mark_s J s d).gone c

  pub data Step (s : Run R Car) : Run R Car → Type 0 where
    read : (t : ℕ) (r : R) → t < n → src t ≡ true → s.off t < length (part t) → Next s t r → Room s t
        → Step s (read_s J s t r)
    deliver : (d : ℕ) (r : R) (rest : List (Item R)) → d < m → blocked J s d ≡ false → s.chan d ≡ rec r ∷ rest
        → Room s (to d) → Step s (deliver_s J s d r)
    -- a barrier, and an input is still awaited
    marks : (d : ℕ) (rest : List (Item R)) → d < m → back d ≡ false → blocked J s d ≡ false → s.chan d ≡ barrier ∷ rest
        → (c : ℕ) → c < m → to c ≡ to d → back c ≡ false → (mark_s J s d).gone c ≤ s.stored (to d)
        → Step s (mark_s J s d)
    -- a barrier, and it was the last awaited
    completes : (d : ℕ) (rest : List (Item R)) → d < m → back d ≡ false → blocked J s d ≡ false
        → s.chan d ≡ barrier ∷ rest → AllMarked s d → Room s (to d)
        → Step s (settle (store_s J (mark_s J s d) (to d)))
    -- a barrier comes back over a back channel
    returns : (d : ℕ) (rest : List (Item R)) → d < m → back d ≡ true → blocked J s d ≡ false → s.chan d ≡ barrier ∷ rest
        → Step s (settle (mark_s J s d))
    -- a source sends a waiting barrier
    sends_bar : (t : ℕ) → t < n → src t ≡ true → 0 < s.wait t → Room s t → Step s (settle (store_s J s t))

  -- something is left: a snapshot under way, an item in a channel, a record unread, a barrier waiting
  pub data Left (s : Run R Car) : Type 0 where
    left_snap : 0 < s.going → Left s
    left_item : (c : ℕ) → c < m → 0 < length (s.chan c) → Left s
    left_part : (t : ℕ) → t < n → src t ≡ true → s.off t < length (part t) → Left s
    left_wait : (t : ℕ) → t < n → src t ≡ true → 0 < s.wait t → Left s

  -- steps of which none reads
  pub data Quiet : Run R Car → Run R Car → Type 0 where
    rests : {s : Run R Car} → Quiet s s
    moves : {s s₁ s₂ : Run R Car} → Step s s₁ → ((t : ℕ) → s₁.off t ≡ s.off t) → Quiet s₁ s₂ → Quiet s s₂
