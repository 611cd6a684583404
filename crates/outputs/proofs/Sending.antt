-- The parts told by numbers are the step rules' own (`marked_by`, `put_by_lem`), and what a task sends goes on one output after the other:
-- one turn of the loop at an output (`carried_here`, `put_here`, `place_here`) and at another channel (`not_here`, `place_not`).
use mathlib.Core.Path.{◌≡◌, refl, sym, ap, ◌∙◌}
use mathlib.Core.Bool.{Bool, true, false}
use mathlib.Core.List.{List, [], ◌∷◌}
use Prim.Native.Nat.{ℕ, zero, suc, ◌+◌}
use native.Mathlib.Numerals.{add-one}
use native.Mathlib.Omega.{arith}
use lib.ListN.{get_or, set}
use Rattle.channel.specs.declared.Cargo.{Cargo}
use Rattle.channel.specs.declared.Cargo.TheVariants.{Barrier, Record as Recorded}
use Rattle.channel.specs.declared.Channel.{Channel}
use Rattle.job.specs.declared.Job.{Job}
use Rattle.job.specs.Jobs.{kind_of, a_of, b_of, is_output, place_of}
use Rattle.run.specs.Runs.{no_channel}
use Rattle.outputs.specs.Outputs.{all_marked, each_place, carried, put_on}
use Rattle.outputs.specs.Parts.{all_marked_by, carried_by, put_by}
use Rattle.outputs.proofs.Places.{place_more}

pub marked_by : (job : Job) (marked : List Bool) (t : ℕ) → all_marked_by job.to marked job.channels t ≡ all_marked job marked t
unfolding all_marked_by all_marked
marked_by job marked t = refl

pub put_by_lem : (job : Job) (t place outputs : ℕ) (cargo : Cargo) (ch : Channel)
    → put_by (kind_of job t) (a_of job t) (b_of job t) place outputs cargo ch ≡ carried job t place outputs cargo ch
unfolding carried_by
put_by_lem job t place outputs Barrier ch = refl
put_by_lem job t place outputs (Recorded r) ch = refl

-- ---- one output after the other
pub set_self : {A : Type 0} (l : List A) (i : ℕ) (d : A) → set l i (get_or l i d) ≡ l
set_self [] i d = refl
set_self (x ∷ xs) zero d = refl
set_self (x ∷ xs) (suc i) d = ap (λ l. x ∷ l) (set_self xs i d)

-- what stands on the channels when those below j have been looked at
abbrev pub put_to : Job → ℕ → Cargo → List Channel → ℕ → List Channel
put_to job t cargo held j = each_place no_channel (put_on job t cargo) held j

module _ (job : Job) (t : ℕ) (cargo : Cargo) (held now : List Channel) (j : ℕ) (so_far : now ≡ put_to job t cargo held j) where
  pub carried_here : (next : Channel) → is_output job t j ≡ true
      → next ≡ carried job t (place_of job t j) (place_of job t job.channels) cargo (get_or now j no_channel)
      → set now j next ≡ put_to job t cargo held (j + 1)
  unfolding put_on
  carried_here next o n = place_more no_channel (put_on job t cargo) held j so_far (n ∙ simp o)

  pub put_here : (next : Channel) → is_output job t j ≡ true
      → next ≡ put_by (kind_of job t) (a_of job t) (b_of job t) (place_of job t j) (place_of job t job.channels) cargo (get_or now j no_channel)
      → set now j next ≡ put_to job t cargo held (j + 1)
  put_here next o n = carried_here next o (n ∙ put_by_lem job t _ _ cargo _)

  pub not_here : is_output job t j ≡ false → now ≡ put_to job t cargo held (j + 1)
  unfolding each_place put_on
  not_here o = so_far ∙ rw add-one (simp o (sym (set_self (put_to job t cargo held j) j no_channel)))

pub place_here : (job : Job) (t j p : ℕ) → is_output job t j ≡ true → p ≡ place_of job t j → p + 1 ≡ place_of job t (j + 1)
unfolding place_of
place_here job t j p o e = ap (λ (x : ℕ). x + 1) e ∙ sym (rw add-one (simp o))

pub place_not : (job : Job) (t j p : ℕ) → is_output job t j ≡ false → p ≡ place_of job t j → p ≡ place_of job t (j + 1)
unfolding place_of
place_not job t j p o e = e ∙ rw add-one (simp o (omega arith))
