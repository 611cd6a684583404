-- The worst count bounds direct evaluation's counts, and a record under way means that a count is below it: so 17 is never met by a
-- grown run, and the limit 67,108,864 is enough for every run of an accepted job, with cuts or without.
use mathlib.Core.Path.{◌≡◌, refl, sym, ap, ◌∙◌, subst, fun_ext}
use mathlib.Core.Bool.{Bool, true, false, cond}
use mathlib.Core.List.{List, ◌∷◌}
use Prim.Native.Nat.{ℕ, zero, suc, ◌+◌, ◌*◌, ◌<◌, ◌≤◌}
use native.Mathlib.Omega.{arith}
use lib.Dec.{eqb}
use lib.ListN.{length, take}
use Rattle.laws.specs.Received.{concat_n, keep, flat, Graph, received}
use Rattle.laws.specs.Sums.{pick, sum_n, sum_l, nat_mon, counted, Hom}
use Rattle.laws.specs.Acyclic.{Measured}
use Rattle.laws.specs.Value.{val, worth, flow, Balance}
use Rattle.laws.specs.Items.{Item, rec, recs}
use Rattle.laws.specs.Run.{Run, Job}
use Rattle.laws.specs.Invariant.{Inv, Good}
use Rattle.laws.specs.StepsLeft.{steps, work, waits_at, awaits_at, barriers, left}
use Rattle.laws.specs.Accepted.{worst}
use Rattle.laws.proofs.Sums.{sum_ext, sum_op, sum_swap, sum_at', sum_l-append, sum_l_ext, sum_l_kept, sum_le, pick_le}
use Rattle.laws.proofs.Sums.{sum_l-length, counted_flat, sum_const}
use Rattle.laws.proofs.Value.{sum_received, stable}
use Rattle.laws.proofs.Flow.{worth_split}
use Rattle.laws.proofs.Balance.{balance_hom, balance_below, balance_flow}
use Rattle.laws.proofs.Parts.{take_short}
use Rattle.laws.proofs.Views.{live_ok}
use Rattle.laws.proofs.StepsLeft.{worth_steps}

module _ {R : Type 0} where
  -- what a task receives, counted, is at most its worst count, where a task sends at most one on each output
  pub received_worst : (g : Graph R) (b : ℕ → ℕ) (E : ℕ → List R) → ((t : ℕ) → length (E t) ≤ b t)
      → ((c : ℕ) (r : R) → length (g.sends c r) ≤ 1) → (k u : ℕ) → counted (received g k E u) ≤ worst g b k u
  received_worst g b E he hs zero u = omega arith
  received_worst g b E he hs (suc k) u =
      let got : ℕ → List R = λ c. flat (g.sends c) (received g k E (g.from c)) in
      let each : (c : ℕ) → counted (got c) ≤ worst g b k (g.from c) = λ c. omega (
        arith,
        counted_flat (g.sends c) (λ r. omega (arith, sum_l-length (g.sends c r), hs c r)) (received g k E (g.from c)),
        received_worst g b E he hs k (g.from c),
      ) in
      omega (
        arith,
        sum_l-append nat_mon (λ r. 1) (E u) (concat_n g.m (λ c. keep (eqb u (g.to c)) (got c))),
        sum_l-length (E u),
        he u,
        sum_l_kept nat_mon (λ r. 1) g.m (λ c. eqb u (g.to c)) got,
        sum_le g.m _ _ (λ c l. pick_le (eqb u (g.to c)) (counted (got c)) (worst g b k (g.from c)) (each c)),
      )

-- what every task receives, counted: what is put in, and what goes over every channel
pub received_sent : {R : Type 0} (g : Graph R) → Measured g → (E : ℕ → List R)
    → sum_n nat_mon g.n (λ u. counted (received g g.depth E u))
    ≡ sum_n nat_mon g.n (λ t. counted (E t))
    + sum_n nat_mon g.m (λ c. counted (flat (g.sends c) (received g g.depth E (g.from c))))
received_sent {R} g G E =
    let one : R → ℕ = λ r. 1 in
    let n : ℕ = g.n in
    let k : ℕ = g.depth in
    let over : ℕ → List R = λ c. flat (g.sends c) (received g k E (g.from c)) in
    sum_ext nat_mon n _ _ (λ u l.
    sum_received g nat_mon G k one E u l
    ∙ sum_ext nat_mon n _ _
    (λ t lt. sum_l_ext nat_mon _ _ (E t) (λ r. sym (stable g nat_mon G k one u t r lt (omega arith))))
    ∙ sym (sum_received g nat_mon G (suc k) one E u l)
    ∙ sum_l-append nat_mon one (E u) (concat_n g.m (λ c. keep (eqb u (g.to c)) (over c)))
    ∙ ap (λ z. sum_l nat_mon one (E u) + z) (sum_l_kept nat_mon one g.m (λ c. eqb u (g.to c)) over))
    ∙ sum_op nat_mon n (λ u. sum_l nat_mon one (E u))
    (λ u. sum_n nat_mon g.m (λ c. pick nat_mon (eqb u (g.to c)) (sum_l nat_mon one (over c))))
    ∙ ap (λ z. sum_n nat_mon n (λ u. sum_l nat_mon one (E u)) + z)
    (sum_swap nat_mon n g.m (λ u c. pick nat_mon (eqb u (g.to c)) (sum_l nat_mon one (over c)))
    ∙ sum_ext nat_mon g.m _ _ (λ c lc. sum_at' nat_mon n (g.to c) (λ u. sum_l nat_mon one (over c)) (G.to_ok c lc)))

module _ (J : Job) where
  open J use {R, g, G, M, φ, src, part, cap}
  open g use {n, m, to, sends, depth}
  open M use {Car}

  -- the law of the counts
  count_balance : (count : Hom M nat_mon) → ((r : R) → count.map (φ r) ≡ 1) → (s : Run R Car) → Inv J s
      → (u : ℕ) (lu : u < n)
      → Balance g nat_mon (λ x. 1) u (count.map (s.live u)) (λ c. recs (s.chan c)) (λ t. take (s.off t) (part t))
  count_balance count one s I u lu =
      subst
      (λ (ψ : R → ℕ). Balance g nat_mon ψ u (count.map (s.live u)) (λ c. recs (s.chan c))
      (λ t. take (s.off t) (part t)))
      (fun_ext one)
      (balance_hom g G M nat_mon count φ u lu (s.live u) (λ c. recs (s.chan c)) (λ t. take (s.off t) (part t))
      (live_ok J s I u lu))

  -- no run, with cuts or without, has more record steps left than a fresh one
  pub work_bound : (count : Hom M nat_mon) → ((r : R) → count.map (φ r) ≡ 1) → (s : Run R Car) → Inv J s
      → work J s ≤ sum_n nat_mon n (λ u. counted (received g depth part u))
  unfolding work
  work_bound count one s I =
      let w = steps g in
      let reads : ℕ → List R = λ t. take (s.off t) (part t) in
      let pend : ℕ → List R = λ c. recs (s.chan c) in
      let a : flow nat_mon g w pend
      ≡ sum_n nat_mon n (λ u. worth nat_mon m (λ c. val g nat_mon depth (λ x. 1) u (to c)) pend) =
      worth_steps g m to pend in
      let b : worth nat_mon n w reads ≡ sum_n nat_mon n (λ u. worth nat_mon n (val g nat_mon depth (λ x. 1) u) reads) =
      worth_steps g n (λ v. v) reads in
      let c : worth nat_mon n w part ≡ sum_n nat_mon n (λ u. worth nat_mon n (val g nat_mon depth (λ x. 1) u) part) =
      worth_steps g n (λ v. v) part in
      let d : sum_n nat_mon n (λ u. worth nat_mon m (λ c. val g nat_mon depth (λ x. 1) u (to c)) pend)
      ≤ sum_n nat_mon n (λ u. worth nat_mon n (val g nat_mon depth (λ x. 1) u) reads) =
      sum_le n _ _
      (λ u lu. balance_flow g G u lu (count.map (s.live u)) pend reads (count_balance count one s I u lu)) in
      let f : sum_n nat_mon n (λ u. counted (received g depth part u))
      ≡ sum_n nat_mon n (λ u. worth nat_mon n (val g nat_mon depth (λ x. 1) u) part) =
      sum_ext nat_mon n _ _ (λ u lu. sum_received g nat_mon G depth (λ x. 1) part u lu) in
      omega (arith, worth_split nat_mon n w s.off part)

  barriers_bound : cap ≤ 4 → (s : Run R Car) → Good J s → barriers J s ≤ n * 4 + m * 4
  unfolding barriers
  barriers_bound h s K =
      let a : sum_n nat_mon n (waits_at J s) ≤ sum_n nat_mon n (λ t. 4) =
      sum_le n (waits_at J s) (λ t. 4) (λ t l. small t l (src t) refl) in
      let b : sum_n nat_mon m (awaits_at J s) ≤ sum_n nat_mon m (λ c. 4) =
      sum_le m (awaits_at J s) (λ c. 4) (λ c l. omega (arith, K.few)) in
      omega (arith, sum_const n 4, sum_const m 4)
    where
      small : (t : ℕ) → t < n → (b : Bool) → src t ≡ b → cond b (s.wait t) 0 ≤ 4
      small t l true e = omega (arith, K.few, K.inv.order.wait_eq t l e)
      small t l false e = omega arith

  -- THE LIMIT 67,108,864 is enough for every run of an accepted job
  pub limit_enough : (count : Hom M nat_mon) → ((r : R) → count.map (φ r) ≡ 1) → (b : ℕ → ℕ)
      → ((t : ℕ) → length (part t) ≤ b t) → ((c : ℕ) (r : R) → length (sends c r) ≤ 1) → n ≤ 16 → m ≤ 32 → cap ≤ 4
      → ((u : ℕ) → u < n → worst g b depth u ≤ 1_048_576) → (s : Run R Car) → Good J s → left J s ≤ 67_108_864
  unfolding left
  limit_enough count one b hb hs hn hm hc hw s K =
      let a : sum_n nat_mon n (λ u. counted (received g depth part u)) ≤ sum_n nat_mon n (λ u. 1_048_576) =
      sum_le n (λ u. counted (received g depth part u)) (λ u. 1_048_576)
      (λ u l. omega (arith, received_worst g b part hb hs depth u, hw u l)) in
      omega (arith, work_bound count one s K.inv, barriers_bound hc s K, sum_const n 1_048_576)

  -- a record at the head of d: its task's count is below the worst
  pub never_full : (count : Hom M nat_mon) → ((r : R) → count.map (φ r) ≡ 1) → (b : ℕ → ℕ)
      → ((t : ℕ) → length (part t) ≤ b t) → ((c : ℕ) (r : R) → length (sends c r) ≤ 1) → (s : Run R Car) → Inv J s
      → (d : ℕ) → d < m → (r : R) (rest : List (Item R)) → s.chan d ≡ rec r ∷ rest
      → count.map (s.live (to d)) < worst g b depth (to d)
  never_full count one b hb hs s I d ld r rest hd =
      let bal = count_balance count one s I (to d) (G.to_ok d ld) in
      omega (
        arith,
        balance_below g G (to d) (G.to_ok d ld) (count.map (s.live (to d))) (λ c. recs (s.chan c))
            (λ t. take (s.off t) (part t)) bal d ld refl r (recs rest) (ap recs hd),
        received_worst g b (λ t. take (s.off t) (part t))
            (λ t. omega (arith, hb t, take_short (s.off t) (part t))) hs depth (to d),
      )
