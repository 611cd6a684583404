-- Why a call on a run is refused before anything is done, and "this paper's number" of each case (document 01): 1 to 9, "then: 16".
use Rattle.std.specs.Prelude.{◌≡◌, ℕ, cond, eqb, refl}
use Rattle.job.specs.Faults.{line_of, fault_of}
use Rattle.station.specs.declared.refusal.Refusal.{Refusal}
use Rattle.station.specs.declared.refusal.Refusal.TheVariants.{Faulty, DoesNotFit}

abbrev pub number_of : Refusal → ℕ
number_of (Faulty fault) = line_of fault
number_of DoesNotFit = 16

-- the refusal of a number
abbrev pub refusal_of : ℕ → Refusal
refusal_of n = cond (eqb n 16) DoesNotFit (Faulty (fault_of n))

-- each refusal has its own number, and the number names the refusal
pub numbers :
    (number_of (refusal_of 1) ≡ 1)
    × (number_of (refusal_of 9) ≡ 9)
    × (number_of (refusal_of 16) ≡ 16)
numbers = (refl, refl, refl)
