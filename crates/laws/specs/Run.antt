-- A run and the parts of its steps, over an abstract job: everything is a function of the task's or channel's number. One theory
-- serves the base (one snapshot under way, no back channel), four snapshots under way (request h), a run begun from totals (request
-- k) and feedback (request n). Of the snapshots under way the oldest has the number 0. A barrier carries no number: that of a
-- channel's next one is the number of those taken from it so far.
use Rattle.std.specs.Prelude.{◌≡◌, Bool, true, false, cond, List, [], ◌∷◌, ◌++◌, ℕ, suc, ◌+◌, ◌-◌, ◌<◌, eqb, ltb, length}
use Rattle.laws.specs.Received.{keep, Graph}
use Rattle.laws.specs.Below.{bit}
use Rattle.laws.specs.Sums.{CMon, pick}
use Rattle.laws.specs.Acyclic.{Reach, Ranked, Measured}
use Rattle.laws.specs.Items.{Item, barrier, as_items, tl}

pub record Run (R C : Type 0) : Type 0 where
  -- what each channel holds
  pub chan : ℕ → List (Item R)
  -- each task's live totals and, of a source, how many records it has read
  pub live : ℕ → C
  pub off : ℕ → ℕ
  -- how many barriers, of those under way, have been taken from each channel; how many wait at each source
  pub gone : ℕ → ℕ
  pub wait : ℕ → ℕ
  -- each task has stored the first so many of the snapshots under way
  pub stored : ℕ → ℕ
  -- of snapshot i under way, at each task: the half-taken totals and offset; of each channel: the records logged (request n)
  pub half : ℕ → ℕ → C
  pub half_off : ℕ → ℕ → ℕ
  pub log : ℕ → ℕ → List R
  -- so many records at the head of a channel are restored from a log and take none of its 8 places
  pub front : ℕ → ℕ
  -- how many snapshots are under way
  pub going : ℕ
  -- the last complete snapshot: totals, offsets, logs
  pub last : ℕ → C
  pub last_off : ℕ → ℕ
  pub last_log : ℕ → List R

pub record Job : Type 1 where
  -- the graph, and that no record travels in it for ever
  pub R : Type 0
  pub g : Graph R
  pub G : Measured g
  -- totals, what one record adds to them, and when a task's count is at its bound (answer 17)
  pub M : CMon
  pub φ : R → M.Car
  pub full : M.Car → Bool
  -- which tasks are sources, and what each has to read
  pub src : ℕ → Bool
  pub part : ℕ → List R
  -- how many snapshots may be under way: 1 in the base, 4 with request h
  pub cap : ℕ
  -- which channels are back channels (request n)
  pub back : ℕ → Bool
  -- a source alone has a part, a source has no input, another task has one that is no back channel (answer 7)
  pub no_part : (t : ℕ) → src t ≡ false → part t ≡ []
  pub no_in : (c : ℕ) → c < g.m → src (g.to c) ≡ false
  pub some_in : (t : ℕ) → t < g.n → src t ≡ false → (c : ℕ) × (c < g.m) × (g.to c ≡ t) × (back c ≡ false)
  -- a back channel's from_task is reached from its to_task over the others (answer 32)
  pub home : (c : ℕ) → c < g.m → back c ≡ true → Reach g back (g.to c) (g.from c)

-- a job without back channels
pub record Plain (J : Job) : Type 0 where
  pub no_back : (c : ℕ) → c < J.g.m → J.back c ≡ false
  pub ranked : Ranked J.g J.back

module _ (J : Job) where
  open J use {R, g, M, φ, src}
  open g use {from, to, sends}
  open M use {Car, op as ◌⊕◌, unit as ε}

  infixl 60 ◌⊕◌
  -- items X c put behind on every output c of t
  abbrev pub put : (ℕ → List (Item R)) → ℕ → (ℕ → List (Item R)) → ℕ → List (Item R)
  put ch t X c = ch c ++ keep (eqb (from c) t) (X c)

  -- the head of channel d taken
  abbrev pub pop : (ℕ → List (Item R)) → ℕ → ℕ → List (Item R)
  pop ch d c = cond (eqb d c) (tl (ch c)) (ch c)

  -- a channel is blocked where a barrier is taken that its to_task has not stored
  abbrev pub blocked : Run R Car → ℕ → Bool
  blocked s c = ltb (s.stored (to c)) (s.gone c)

  -- a record delivered from d is logged for each snapshot that the to_task has stored and whose barrier has not come over d
  abbrev pub logs : Run R Car → ℕ → ℕ → ℕ → Bool
  logs s d i c = cond (eqb d c) (cond (ltb i (s.gone c)) false (ltb i (s.stored (to c)))) false

  -- source t reads r
  abbrev pub read_s : Run R Car → ℕ → R → Run R Car
  read_s s t r = record {
    chan = put s.chan t (λ c. as_items (sends c r));
    live = λ v. s.live v ⊕ pick M (eqb v t) (φ r);
    off = λ v. s.off v + bit (eqb t v);
    gone = s.gone;
    wait = s.wait;
    stored = s.stored;
    half = s.half;
    half_off = s.half_off;
    log = s.log;
    front = s.front;
    going = s.going;
    last = s.last;
    last_off = s.last_off;
    last_log = s.last_log;
  }

  -- the record r at the head of d is delivered
  abbrev pub deliver_s : Run R Car → ℕ → R → Run R Car
  deliver_s s d r = record {
    chan = put (pop s.chan d) (to d) (λ c. as_items (sends c r));
    live = λ v. s.live v ⊕ pick M (eqb v (to d)) (φ r);
    off = s.off;
    gone = s.gone;
    wait = s.wait;
    stored = s.stored;
    half = s.half;
    half_off = s.half_off;
    log = λ i c. s.log i c ++ keep (logs s d i c) (r ∷ []);
    front = λ c. s.front c - bit (eqb d c);
    going = s.going;
    last = s.last;
    last_off = s.last_off;
    last_log = s.last_log;
  }

  -- the barrier at the head of d is taken
  abbrev pub mark_s : Run R Car → ℕ → Run R Car
  mark_s s d = record {
    chan = pop s.chan d;
    live = s.live;
    off = s.off;
    gone = λ c. s.gone c + bit (eqb d c);
    wait = s.wait;
    stored = s.stored;
    half = s.half;
    half_off = s.half_off;
    log = s.log;
    front = s.front;
    going = s.going;
    last = s.last;
    last_off = s.last_off;
    last_log = s.last_log;
  }

  -- t stores its next snapshot, and a barrier goes on every output. Its inputs are no longer blocked, since it has stored
  abbrev pub store_s : Run R Car → ℕ → Run R Car
  store_s s t = record {
    chan = put s.chan t (λ c. barrier ∷ []);
    live = s.live;
    off = s.off;
    gone = s.gone;
    wait = λ v. s.wait v - bit (eqb v t);
    stored = λ v. s.stored v + bit (eqb v t);
    half = λ i v. cond (eqb v t) (cond (eqb i (s.stored v)) (s.live v) (s.half i v)) (s.half i v);
    half_off = λ i v. cond (eqb v t) (cond (eqb i (s.stored v)) (s.off v) (s.half_off i v)) (s.half_off i v);
    log = s.log;
    front = s.front;
    going = s.going;
    last = s.last;
    last_off = s.last_off;
    last_log = s.last_log;
  }

  -- one more is under way
  abbrev pub begin_s : Run R Car → Run R Car
  begin_s s = record {
    chan = s.chan;
    live = s.live;
    off = s.off;
    gone = s.gone;
    wait = λ v. s.wait v + bit (src v);
    stored = s.stored;
    half = λ i v. cond (eqb i s.going) ε (s.half i v);
    half_off = λ i v. cond (eqb i s.going) 0 (s.half_off i v);
    log = s.log;
    front = s.front;
    going = suc s.going;
    last = s.last;
    last_off = s.last_off;
    last_log = s.last_log;
  }

  -- the oldest is complete, and the others move up
  abbrev pub finish_s : Run R Car → Run R Car
  finish_s s = record {
    chan = s.chan;
    live = s.live;
    off = s.off;
    gone = λ c. s.gone c - 1;
    wait = s.wait;
    stored = λ v. s.stored v - 1;
    half = λ i. s.half (suc i);
    half_off = λ i. s.half_off (suc i);
    log = λ i. s.log (suc i);
    front = s.front;
    going = s.going - 1;
    last = s.half 0;
    last_off = s.half_off 0;
    last_log = s.log 0;
  }

  -- a cut: the logs stand in the channels again
  abbrev pub cut_s : Run R Car → Run R Car
  cut_s s = record {
    chan = λ c. as_items (s.last_log c);
    live = s.last;
    off = s.last_off;
    gone = λ c. 0;
    wait = λ v. 0;
    stored = λ v. 0;
    half = λ i v. ε;
    half_off = λ i v. 0;
    log = λ i c. [];
    front = λ c. length (s.last_log c);
    going = 0;
    last = s.last;
    last_off = s.last_off;
    last_log = s.last_log;
  }

  -- a run begun from totals at given offsets (request k)
  abbrev pub start_s : (ℕ → Car) → (ℕ → ℕ) → Run R Car
  start_s tot offs = record {
    chan = λ c. [];
    live = tot;
    off = offs;
    gone = λ c. 0;
    wait = λ v. 0;
    stored = λ v. 0;
    half = λ i v. ε;
    half_off = λ i v. 0;
    log = λ i c. [];
    front = λ c. 0;
    going = 0;
    last = tot;
    last_off = offs;
    last_log = λ c. [];
  }

  -- a fresh run
  abbrev pub fresh_s : Run R Car
  fresh_s = start_s (λ v. ε) (λ v. 0)
