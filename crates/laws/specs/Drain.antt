-- The drain, as a function: the lowest-numbered possible step of 0 to 63, again and again, until nothing is left (answer 0), the
-- limit is spent (18), or no step is possible (19). Nothing left comes before 18, 18 before 19.
use Rattle.std.specs.Prelude.{◌≡◌, Bool, cond, ℕ, zero, suc, ◌+◌, ltb, length}
use Rattle.laws.specs.Below.{both, either, any_n}
use Rattle.laws.specs.Run.{Run, Job}
use Rattle.laws.specs.Invariant.{Good}
use Rattle.laws.specs.Moves.{Left}
use Rattle.laws.specs.Step.{Out, done, ended, refused, step_f}
use Rattle.laws.specs.StepsLeft.{left}

pub record Drained (A : Type 0) : Type 0 where
  pub answer : ℕ
  pub count : ℕ
  pub run : A

module _ {A : Type 0} where
  abbrev pub or_else : Out A → Out A → Out A
  or_else (done s) o = done s
  or_else (ended s) o = ended s
  or_else (refused a) o = o

  abbrev pub drained : ℕ → ℕ → A → Drained A
  drained a c s = record { answer = a; count = c; run = s }

  -- go on after a step that is done; where none is possible, 19
  abbrev pub go_on : (A → Drained A) → ℕ → A → Out A → Drained A
  go_on k c s (done s') = k s'
  go_on k c s (ended s') = k s'
  go_on k c s (refused a) = drained 19 c s

module _ (J : Job) where
  open J use {R, g, M, src, part}
  open g use {n, m}
  open M use {Car}

  -- something is left: a snapshot under way, a channel that holds something, a record unread, a barrier waiting
  abbrev pub some_left : Run R Car → Bool
  some_left s =
      either (ltb 0 s.going)
      (either (any_n m (λ c. ltb 0 (length (s.chan c))))
      (either (any_n n (λ t. both (src t) (ltb (s.off t) (length (part t)))))
      (any_n n (λ t. both (src t) (ltb 0 (s.wait t))))))

  -- the first possible of the steps k .. k+f-1
  abbrev pub first_f : Run R Car → ℕ → ℕ → Out (Run R Car)
  first_f s zero k = refused 19
  first_f s (suc f) k = let o = first_f s f (suc k) in or_else (step_f J s k) o

  -- THE DRAIN with the limit l, where c steps were done before
  abbrev pub drain_f : ℕ → ℕ → Run R Car → Drained (Run R Car)
  drain_f zero c s = cond (some_left s) (drained 18 c s) (drained 0 c s)
  drain_f (suc l) c s = cond (some_left s) (go_on (λ x. drain_f l (suc c) x) c s (first_f s 64 0)) (drained 0 c s)

  -- what is promised of a drain that comes to its end: c is the number of steps done before
  pub record AllDone (c : ℕ) (s : Run R Car) (d : Drained (Run R Car)) : Type 0 where
    pub zero_answer : d.answer ≡ 0
    pub steps_done : d.count ≡ c + left J s
    pub none_left : ¬ Left J d.run
    pub still_good : Good J d.run

  -- of any job, feedback included: a drain that answers 0 leaves nothing
  pub record Ends (d : Drained (Run R Car)) : Type 0 where
    pub nothing : ¬ Left J d.run
    pub good : Good J d.run
