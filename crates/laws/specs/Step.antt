-- The step by its number, as document 01 has it: a function that computes, refusals included; a list of steps; what was done in it.
-- The order of the tests is the order of the refusals: 11, 12, 13, 14, (33), 17 for a delivery, 11, 13, 14 for a source. 33, the
-- log is full, belongs to request n; without back channels nothing is ever logged.
use Rattle.std.specs.Prelude.{◌≡◌, Bool, true, false, cond, List, [], ◌∷◌, ℕ, ◌+◌, ◌-◌, eqb, ltb, leb, length, drop}
use Rattle.laws.specs.Below.{all_n}
use Rattle.laws.specs.Items.{Item, barrier, rec}
use Rattle.laws.specs.Run.{Run, Job, blocked, logs, read_s, deliver_s, mark_s, store_s, begin_s, finish_s, cut_s}
use Rattle.laws.specs.Moves.{whole}

-- a step's outcome: done (answer 0), done and a snapshot became complete (20), refused with a number
pub data Out (A : Type 0) : Type 0 where
  done : A → Out A
  ended : A → Out A
  refused : ℕ → Out A

module _ {A : Type 0} where
  -- the run after a step: "each refusal returns its number and the run as it came"
  abbrev pub after : A → Out A → A
  after s (done s') = s'
  after s (ended s') = s'
  after s (refused a) = s

  -- a number that counts only where the step was done
  abbrev pub if_done : Out A → ℕ → ℕ
  if_done (done s') x = x
  if_done (ended s') x = x
  if_done (refused a) x = 0

  -- a step is possible when it would answer 0 or 20
  unfoldable pub Possible : Out A → Type 0
  Possible (done s') = Unit {0}
  Possible (ended s') = Unit {0}
  Possible (refused a) = ⊥

module _ (J : Job) where
  open J use {R, g, M, src, part, back, cap, full}
  open g use {n, m, from, to}
  open M use {Car}

  -- every output of t holds fewer than 8 items
  abbrev pub room_b : Run R Car → ℕ → Bool
  room_b s t = all_n m (λ c. cond (eqb (from c) t) (ltb (length (s.chan c)) (8 + s.front c)) true)

  -- every input of t but the back channels has delivered the barrier that t stores next
  abbrev pub marked_b : Run R Car → ℕ → Bool
  marked_b s t = all_n m (λ c. cond (eqb (to c) t) (cond (back c) true (ltb (s.stored t) (s.gone c))) true)

  -- a record from d is to be logged, and the log is full
  abbrev pub log_full : Run R Car → ℕ → Bool
  log_full s d = cond (logs J s d 0 d) (leb 64 (length (s.log 0 d))) false

  -- after a store or a return: a snapshot under way that is whole becomes the last complete one
  abbrev pub end_f : Run R Car → Out (Run R Car)
  end_f s = cond (ltb 0 s.going) (cond (whole J s) (ended (finish_s J s)) (done s)) (done s)

  -- the barrier at the head of d: d is a back channel, or not; then every input is marked, or not
  abbrev pub bar_f : Run R Car → ℕ → Bool → Bool → Out (Run R Car)
  bar_f s d true b = end_f (mark_s J s d)
  bar_f s d false false = done (mark_s J s d)
  bar_f s d false true = cond (room_b s (to d)) (end_f (store_s J (mark_s J s d) (to d))) (refused 14)

  -- the head of channel d, or nothing there
  abbrev pub head_f : Run R Car → ℕ → List (Item R) → Out (Run R Car)
  head_f s d [] = refused 13
  head_f s d (rec r ∷ rest) =
      cond (room_b s (to d)) (cond (log_full s d) (refused 33) (cond (full (s.live (to d))) (refused 17)
      (done (deliver_s J s d r)))) (refused 14)
  head_f s d (barrier ∷ rest) = bar_f s d (back d) (marked_b (mark_s J s d) (to d))

  -- 0 to 31: deliver the head of channel d
  abbrev pub deliver_f : Run R Car → ℕ → Out (Run R Car)
  deliver_f s d = cond (ltb d m) (cond (blocked J s d) (refused 12) (head_f s d (s.chan d))) (refused 11)

  -- the next record of source t, or its part is read out
  abbrev pub next_f : Run R Car → ℕ → List R → Out (Run R Car)
  next_f s t [] = refused 13
  next_f s t (r ∷ rest) = cond (room_b s t) (done (read_s J s t r)) (refused 14)

  -- 32 to 47: source t reads
  abbrev pub read_f : Run R Car → ℕ → Out (Run R Car)
  read_f s t = cond (ltb t n) (cond (src t) (next_f s t (drop (s.off t) (part t))) (refused 11)) (refused 11)

  -- 48 to 63: source t sends its waiting barrier
  abbrev pub send_f : Run R Car → ℕ → Out (Run R Car)
  send_f s t =
      cond (ltb t n) (cond (src t) (cond (ltb 0 (s.wait t)) (cond (room_b s t)
      (end_f (store_s J s t)) (refused 14)) (refused 13)) (refused 11)) (refused 11)

  -- 64: begin a snapshot; 65: cut; 66 and above: no such step
  abbrev pub late_f : Run R Car → ℕ → Out (Run R Car)
  late_f s k =
      cond (eqb k 64) (cond (ltb s.going cap) (done (begin_s J s)) (refused 15))
      (cond (eqb k 65) (done (cut_s J s)) (refused 11))

  -- THE STEP, by its number
  abbrev pub step_f : Run R Car → ℕ → Out (Run R Car)
  step_f s k =
      cond (ltb k 32) (deliver_f s k)
      (cond (ltb k 48) (read_f s (k - 32))
      (cond (ltb k 64) (send_f s (k - 48))
      (late_f s k)))

  -- A LIST OF STEPS: a refused step is passed over and the next is tried
  abbrev pub exec : List ℕ → Run R Car → Run R Car
  exec [] s = s
  exec (k ∷ ks) s = exec ks (after s (step_f s k))

  -- how many of them were done, and how many snapshots were begun
  abbrev pub done_in : List ℕ → Run R Car → ℕ
  done_in [] s = 0
  done_in (k ∷ ks) s = if_done (step_f s k) 1 + done_in ks (after s (step_f s k))

  abbrev pub begun : ℕ → Out (Run R Car) → ℕ
  begun k o = cond (eqb k 64) (if_done o 1) 0

  abbrev pub begun_in : List ℕ → Run R Car → ℕ
  begun_in [] s = 0
  begun_in (k ∷ ks) s = begun k (step_f s k) + begun_in ks (after s (step_f s k))

-- a list without a cut
abbrev pub NoCut : List ℕ → Type 0
NoCut [] = Unit {0}
NoCut (k ∷ ks) = (k ≡ 65 → ⊥) × NoCut ks
