-- A list of steps (document 01): "A list of steps is done in order; a refused step is counted and the next is tried. The answer is 0, with the
-- number done and the number refused."
use Rattle.std.specs.Prelude.{Bool, not, ◌||◌, List, ℕ, zero, suc, ◌+◌, eqb, ℤ, get_or}
use mir.Val.{bool_byte}
use Rattle.job.specs.declared.Job.{Job}
use Rattle.run.specs.declared.Run.{Run}
use Rattle.step.specs.declared.Stepped.{Stepped}
use Rattle.step.specs.Step.{stepped}
use Rattle.lists.specs.declared.Listed.{Listed}

-- a step is done when it answers 0 or 20
abbrev pub is_done : ℕ → Bool
is_done answer = eqb answer 0 || eqb answer 20

abbrev pub counted : Listed → Stepped → Listed
counted l s = record {
  run = s.run;
  answer = 0;
  done = l.done + bool_byte (is_done s.answer);
  refused = l.refused + bool_byte (not (is_done s.answer));
}

-- the first k of the numbers
unfoldable pub listed_to : Job → List ℤ → List ℤ → Run → List ℕ → ℕ → Listed
listed_to job c v run numbers zero = record { run = run; answer = 0; done = 0; refused = 0 }
listed_to job c v run numbers (suc k) =
    counted (listed_to job c v run numbers k) (stepped job c v (listed_to job c v run numbers k).run (get_or numbers k 0))
