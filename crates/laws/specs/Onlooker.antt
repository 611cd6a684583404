-- What an onlooker sees of a run from outside, by step numbers, answers, live offsets and what channels hold. One onlooker notes a
-- source's offset when it sends a barrier, in a queue for each source; at answer 20 he takes the first of every queue as the
-- complete snapshot's offsets, at a cut he forgets the queues. (A snapshot that stored other offsets, as those at its begin or
-- zeros, would disagree with his notes.) Another counts the records sent on and taken from each channel.
use Rattle.std.specs.Prelude.{◌≡◌, true, false, cond, List, [], ◌∷◌, ◌++◌, ℕ, ◌+◌, ◌-◌, ◌<◌, eqb, ltb, length, drop}
use Rattle.laws.specs.Received.{keep}
use Rattle.laws.specs.Below.{tab}
use Rattle.laws.specs.Items.{Item, barrier, rec, recs}
use Rattle.laws.specs.Run.{Run, Job}
use Rattle.laws.specs.Step.{Out, done, ended, refused, after, if_done, step_f}

-- of a queue of offsets: the first, and the others
abbrev pub first_of : List ℕ → ℕ
first_of [] = 0
first_of (x ∷ xs) = x

abbrev pub rest_of : List ℕ → List ℕ
rest_of [] = []
rest_of (x ∷ xs) = xs

-- what is noted for each source: the offsets at which it sent the barriers under way, and that of the last complete snapshot
pub record Notes : Type 0 where
  pub sent : ℕ → List ℕ
  pub complete : ℕ → ℕ

module _ (J : Job) where
  open J use {R, g, M, src, part}
  open g use {n, from, to, sends}
  open M use {Car}

  -- a step 48 + v that is done puts v's offset behind in its queue
  abbrev pub queued : Run R Car → ℕ → (ℕ → List ℕ) → ℕ → List ℕ
  queued s k h v = h v ++ keep (cond (ltb k 48) false (cond (ltb k 64) (eqb v (k - 48)) false)) (s.off v ∷ [])

  -- what is noted at one step k of the run s
  abbrev pub note : Run R Car → ℕ → Out (Run R Car) → Notes → Notes
  note s k (done s') h = record { sent = λ v. cond (eqb k 65) [] (queued s k h.sent v); complete = h.complete }
  note s k (ended s') h = record {
    sent = λ v. rest_of (queued s k h.sent v);
    complete = λ v. first_of (queued s k h.sent v);
  }
  note s k (refused a) h = h

  -- and at a list of steps
  abbrev pub notes : List ℕ → Run R Car → Notes → Notes
  notes [] s h = h
  notes (k ∷ ks) s h = notes ks (after s (step_f J s k)) (note s k (step_f J s k) h)

  -- WHAT IS STORED OF A SOURCE IS WHAT WAS NOTED
  pub record Agrees (s : Run R Car) (h : Notes) : Type 0 where
    pub half_noted : (t : ℕ) → t < n → src t ≡ true → tab (s.stored t) (λ i. s.half_off i t) ≡ h.sent t
    pub last_noted : (t : ℕ) → t < n → src t ≡ true → s.last_off t ≡ h.complete t

  -- how many records task t puts on channel c when it takes in the first of these
  abbrev pub onto : ℕ → ℕ → List R → ℕ
  onto t c [] = 0
  onto t c (r ∷ rs) = length (keep (eqb (from c) t) (sends c r))

  -- the record at the head of a channel, if it is one
  abbrev pub head_rec : List (Item R) → List R
  head_rec [] = []
  head_rec (barrier ∷ xs) = []
  head_rec (rec r ∷ xs) = r ∷ []

  -- at one step k that is done: how many records are put on c, and how many are taken from c
  abbrev pub put_now : Run R Car → ℕ → ℕ → ℕ
  put_now s k c =
      cond (ltb k 32) (onto (to k) c (head_rec (s.chan k)))
      (cond (ltb k 48) (onto (k - 32) c (drop (s.off (k - 32)) (part (k - 32)))) 0)

  abbrev pub taken_now : Run R Car → ℕ → ℕ → ℕ
  taken_now s k c = cond (ltb k 32) (cond (eqb k c) (length (head_rec (s.chan k))) 0) 0

  -- and over a list of steps
  abbrev pub sent_on : List ℕ → Run R Car → ℕ → ℕ
  sent_on [] s c = 0
  sent_on (k ∷ ks) s c = if_done (step_f J s k) (put_now s k c) + sent_on ks (after s (step_f J s k)) c

  abbrev pub taken_on : List ℕ → Run R Car → ℕ → ℕ
  taken_on [] s c = 0
  taken_on (k ∷ ks) s c = if_done (step_f J s k) (taken_now s k c) + taken_on ks (after s (step_f J s k)) c

  -- the records that c holds
  abbrev pub held : Run R Car → ℕ → ℕ
  held s c = length (recs (s.chan c))
