-- On every channel of a run without cuts: records sent are records delivered and records held (`sent_taken`).
use mathlib.Core.Path.{◌≡◌, refl, ap, ◌∙◌}
use mathlib.Core.Bool.{Bool, true, false, cond}
use mathlib.Core.List.{List, [], ◌∷◌}
use Prim.Native.Nat.{ℕ, ◌+◌, ◌-◌, ◌<◌}
use native.Mathlib.Omega.{arith}
use lib.Dec.{eqb}
use lib.ListN.{length, length-append}
use borrow.Author.Tests.{lt-ltb, le-ltb}
use Rattle.laws.specs.Received.{keep}
use Rattle.laws.specs.Items.{Item, barrier, recs}
use Rattle.laws.specs.Run.{Run, Job, pop, read_s, deliver_s, mark_s, store_s}
use Rattle.laws.specs.Step.{Out, after, if_done, step_f, exec, NoCut}
use Rattle.laws.specs.Onlooker.{put_now, taken_now, sent_on, taken_on, held}
use Rattle.laws.proofs.Below.{cond_same, same_place}
use Rattle.laws.proofs.Items.{recs_pop, recs_mark, recs_bar}
use Rattle.laws.proofs.Views.{put_recs}
use Rattle.laws.proofs.Did.{End, end_all, end_some, end_idle, Did, did_not, did_deliver, did_mark, did_complete, did_return}
use Rattle.laws.proofs.Did.{did_read, did_send, did_begin, did_cut, did}

module _ (J : Job) where
  open J use {R, g, M}
  open g use {m, from, to, sends}
  open M use {Car}

  -- what one step sends on c and takes from c, and what c holds before and after
  Even : Run R Car → ℕ → ℕ → Out (Run R Car) → Type 0
  Even s k c o = held J s c + if_done o (put_now J s k c) ≡ if_done o (taken_now J s k c) + held J (after s o) c

  -- a step that moves no record
  end_even : (s s₂ : Run R Car) (k c : ℕ) → put_now J s k c ≡ 0 → taken_now J s k c ≡ 0 → held J s₂ c ≡ held J s c
      → (o : Out (Run R Car)) → End J s₂ o → Even s k c o
  unfolding Even
  end_even s s₂ k c a b e o (end_all on q) = omega arith
  end_even s s₂ k c a b e o (end_some on q) = omega arith
  end_even s s₂ k c a b e o (end_idle on) = omega arith

  -- a barrier at the head of k: no record is put on c, none is taken from c, and c holds as many as before
  module _ (s : Run R Car) (k c : ℕ) (l : k < 32) (rest : List (Item R)) (hd : s.chan k ≡ barrier ∷ rest) where
    bar_put : put_now J s k c ≡ 0
    bar_put = rw (lt-ltb k 32 l, hd)

    bar_taken : taken_now J s k c ≡ 0
    bar_taken = rw (lt-ltb k 32 l, hd) (cond_same (eqb k c) 0)

    bar_held : recs (pop J s.chan k c) ≡ recs (s.chan c)
    bar_held = recs_mark rest (eqb k c) (s.chan c) (same_place s.chan k c hd)

  did_even : (s : Run R Car) (k c : ℕ) → c < m → (k ≡ 65 → ⊥) → (o : Out (Run R Car)) → Did J s k o → Even s k c o
  unfolding Even
  did_even s k c lc nc o (did_not a w) = omega arith
  did_even s k c lc nc o (did_deliver r rest l ld mk hd rm) =
      let a : put_now J s k c ≡ length (keep (eqb (from c) (to k)) (sends c r)) = rw (lt-ltb k 32 l, hd) in
      let b : taken_now J s k c ≡ cond (eqb k c) 1 0 = rw (lt-ltb k 32 l, hd) in
      let d : length (recs (s.chan c)) ≡ length (keep (eqb k c) (r ∷ [])) + length (recs (pop J s.chan k c)) =
      ap length (recs_pop r rest (eqb k c) (s.chan c) (same_place s.chan k c hd))
      ∙ length-append (keep (eqb k c) (r ∷ [])) (recs (pop J s.chan k c)) in
      let e : length (recs ((deliver_s J s k r).chan c))
      ≡ length (recs (pop J s.chan k c)) + length (keep (eqb (from c) (to k)) (sends c r)) =
      ap length (put_recs J (pop J s.chan k) (to k) r c lc)
      ∙ length-append (recs (pop J s.chan k c)) (keep (eqb (from c) (to k)) (sends c r)) in
      omega (arith, kept (eqb k c))
    where
      kept : (b : Bool) → length (keep b (r ∷ [])) ≡ cond b 1 0
      kept true = refl
      kept false = refl
  did_even s k c lc nc o (did_mark rest l ld bd mk hd c₁ l₁ t₁ b₁ m₁) =
      omega (arith, bar_put s k c l rest hd, bar_taken s k c l rest hd, ap length (bar_held s k c l rest hd))
  did_even s k c lc nc o (did_complete rest l ld bd mk hd all rm e) =
      end_even s (store_s J (mark_s J s k) (to k)) k c (bar_put s k c l rest hd) (bar_taken s k c l rest hd)
      (ap length (recs_bar (eqb (from c) (to k)) (pop J s.chan k c) ∙ bar_held s k c l rest hd)) o e
  did_even s k c lc nc o (did_return rest l ld bd mk hd e) =
      end_even s (mark_s J s k) k c (bar_put s k c l rest hd) (bar_taken s k c l rest hd)
      (ap length (bar_held s k c l rest hd)) o e
  did_even s k c lc nc o (did_read t r rest kt l lt sr hd rm) =
      let back : k - 32 ≡ t = omega arith in
      let a : put_now J s k c ≡ length (keep (eqb (from c) t) (sends c r)) =
      rw (le-ltb k 32 (omega arith), lt-ltb k 48 l, back, hd) in
      let b : taken_now J s k c ≡ 0 = rw (le-ltb k 32 (omega arith)) in
      let e : length (recs ((read_s J s t r).chan c))
      ≡ length (recs (s.chan c)) + length (keep (eqb (from c) t) (sends c r)) =
      ap length (put_recs J s.chan t r c lc)
      ∙ length-append (recs (s.chan c)) (keep (eqb (from c) t) (sends c r)) in
      omega arith
  did_even s k c lc nc o (did_send t kt l lt sr wt rm e) =
      end_even s (store_s J s t) k c (rw (le-ltb k 32 (omega arith), le-ltb k 48 (omega arith)))
      (rw (le-ltb k 32 (omega arith))) (ap length (recs_bar (eqb (from c) t) (s.chan c))) o e
  did_even s k c lc nc o (did_begin e q) =
      let a : put_now J s k c ≡ 0 = rw (le-ltb k 32 (omega arith), le-ltb k 48 (omega arith)) in
      let b : taken_now J s k c ≡ 0 = rw (le-ltb k 32 (omega arith)) in
      omega arith
  did_even s k c lc nc o (did_cut e) = absurd (nc e)

  -- RECORDS SENT ON A CHANNEL are those delivered from it and those in it
  pub sent_taken : (ks : List ℕ) (s : Run R Car) → NoCut ks → (c : ℕ) → c < m
      → held J s c + sent_on J ks s c ≡ taken_on J ks s c + held J (exec J ks s) c
  unfolding Even
  sent_taken [] s nc c lc = omega arith
  sent_taken (k ∷ ks) s nc c lc =
      omega (
        arith,
        did_even s k c lc nc.0 (step_f J s k) (did J s k),
        sent_taken ks (after s (step_f J s k)) nc.1 c lc,
      )
