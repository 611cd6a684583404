-- Every step of 0 to 63 takes exactly one from the steps left (`step_left`), and where nothing is left that number is 0 (`left_none`). So a
-- drain ends, and its length is known beforehand (Drain, Account).
use mathlib.Core.Path.{◌≡◌, refl, sym, ap, ap₂, ◌∙◌, subst}
use mathlib.Core.Bool.{Bool, true, false, cond, true≢false, false≢true}
use mathlib.Core.List.{List, [], ◌∷◌}
use Prim.Native.Nat.{ℕ, suc, ◌+◌, ◌-◌, ◌<◌}
use native.Mathlib.Omega.{arith}
use lib.Dec.{eqb}
use lib.ListN.{length, drop, drop_of_length-le}
use lib.Seq.{drop-nil}
use borrow.Author.Tests.{eqb-true}
use Rattle.laws.specs.Received.{Graph}
use Rattle.laws.specs.Below.{bit}
use Rattle.laws.specs.Sums.{pick, sum_n, sum_l, nat_mon}
use Rattle.laws.specs.Acyclic.{Measured}
use Rattle.laws.specs.Value.{val, worth, flow}
use Rattle.laws.specs.Items.{Item, barrier, rec, recs}
use Rattle.laws.specs.Run.{Run, Job, pop, read_s, deliver_s, mark_s, store_s, finish_s}
use Rattle.laws.specs.Invariant.{Order, Good}
use Rattle.laws.specs.Moves.{whole, settle, Next, Step, read, deliver, marks, completes, returns, sends_bar, Left, left_snap}
use Rattle.laws.specs.Moves.{left_item, left_part}
use Rattle.laws.specs.StepsLeft.{steps, work, waits_at, awaits_at, barriers, left}
use Rattle.laws.proofs.Below.{eqb_sym, same_place}
use Rattle.laws.proofs.Sums.{sum_ext, sum_op, sum_unit, sum_swap, sum_pick, sum_at', sum_l-sum, sum_down}
use Rattle.laws.proofs.Value.{push_all}
use Rattle.laws.proofs.Flow.{worth_ext, worth-nil, worth_front, Pushes, flow_sent}
use Rattle.laws.proofs.Items.{recs_pop, recs_mark, recs_bar, recs_none}
use Rattle.laws.proofs.Parts.{drop_grow}
use Rattle.laws.proofs.Order.{mark_order}
use Rattle.laws.proofs.Views.{put_recs}
use Rattle.laws.proofs.Moves.{whole_gone, bar_more, complete_order, send_order}

module _ {R : Type 0} (g : Graph R) (G : Measured g) where
  open g use {n, m, from, to, sends, depth}

  pub steps_push : Pushes nat_mon g (steps g) (λ t r. 1)
  unfolding steps
  steps_push t r l =
      sum_ext nat_mon n _ _ (λ u lu. push_all g nat_mon G (λ x. 1) u t r l)
      ∙ sum_op nat_mon n (λ u. pick nat_mon (eqb u t) 1)
      (λ u. sum_n nat_mon m
      (λ c. pick nat_mon (eqb (from c) t) (sum_l nat_mon (val g nat_mon depth (λ x. 1) u (to c)) (sends c r))))
      ∙ ap₂ ◌+◌ (sum_at' nat_mon n t (λ u. 1) l)
      (sum_swap nat_mon n m
      (λ u c. pick nat_mon (eqb (from c) t) (sum_l nat_mon (val g nat_mon depth (λ x. 1) u (to c)) (sends c r)))
      ∙ sum_ext nat_mon m _ _
      (λ c lc. sum_pick nat_mon n (eqb (from c) t)
      (λ u. sum_l nat_mon (val g nat_mon depth (λ x. 1) u (to c)) (sends c r))
      ∙ ap (pick nat_mon (eqb (from c) t))
      (sym (sum_l-sum nat_mon n (λ u. val g nat_mon depth (λ x. 1) u (to c)) (sends c r)))))

-- the steps of records, task by task
pub worth_steps : {R : Type 0} (g : Graph R) (k : ℕ) (f : ℕ → ℕ) (E : ℕ → List R)
    → worth nat_mon k (λ c. steps g (f c)) E
    ≡ sum_n nat_mon g.n (λ u. worth nat_mon k (λ c. val g nat_mon g.depth (λ x. 1) u (f c)) E)
unfolding steps
worth_steps g k f E =
    sum_ext nat_mon k _ _ (λ c l. sum_l-sum nat_mon g.n (λ u. val g nat_mon g.depth (λ x. 1) u (f c)) (E c))
    ∙ sum_swap nat_mon k g.n (λ c u. sum_l nat_mon (val g nat_mon g.depth (λ x. 1) u (f c)) (E c))

-- ---- one source: the barriers left
wait_down : (b sv : Bool) (x : ℕ) → (b ≡ true → sv ≡ true) → (b ≡ true → 0 < x)
    → cond sv x 0 ≡ bit b + cond sv (x - bit b) 0
wait_down true true x p q = omega (arith, q refl)
wait_down true false x p q = absurd (false≢true (p refl))
wait_down false true x p q = omega arith
wait_down false false x p q = omega arith

wait_keeps : (b sv : Bool) (x : ℕ) → (b ≡ true → sv ≡ false) → cond sv (x - bit b) 0 ≡ cond sv x 0
wait_keeps true true x p = absurd (true≢false (p refl))
wait_keeps true false x p = refl
wait_keeps false true x p = omega arith
wait_keeps false false x p = refl

module _ (J : Job) where
  open J use {R, g, G, M, src, part, no_in, no_part}
  open g use {n, m, from, to}
  open M use {Car}

  read_work : (s : Run R Car) (t : ℕ) (r : R) → t < n → Next J s t r → work J s ≡ suc (work J (read_s J s t r))
  unfolding work
  read_work s t r lt nxt =
      let a : 1 + flow nat_mon g (steps g) (λ c. recs ((read_s J s t r).chan c))
      ≡ flow nat_mon g (steps g) (λ c. recs (s.chan c)) + steps g t r =
      flow_sent nat_mon g (steps g) (λ t r. 1) (steps_push g G) t r (λ c. recs (s.chan c)) _ lt
      (put_recs J s.chan t r) in
      let b : worth nat_mon n (steps g) (λ v. drop (s.off v) (part v))
      ≡ steps g t r + worth nat_mon n (steps g) (λ v. drop ((read_s J s t r).off v) (part v)) =
      worth_front nat_mon n t r (steps g) _ _ lt
      (λ v l. drop_grow (eqb t v) (s.off v) (part v) r
      (λ e. subst (λ v. Next J s v r) (eqb-true t v e) nxt)) in
      omega arith

  deliver_work : (s : Run R Car) (d : ℕ) (r : R) (rest : List (Item R)) → d < m → s.chan d ≡ rec r ∷ rest
      → work J s ≡ suc (work J (deliver_s J s d r))
  unfolding work
  deliver_work s d r rest ld hd =
      let a : 1 + flow nat_mon g (steps g) (λ c. recs ((deliver_s J s d r).chan c))
      ≡ flow nat_mon g (steps g) (λ c. recs (pop J s.chan d c)) + steps g (to d) r =
      flow_sent nat_mon g (steps g) (λ t r. 1) (steps_push g G) (to d) r (λ c. recs (pop J s.chan d c)) _
      (G.to_ok d ld) (put_recs J (pop J s.chan d) (to d) r) in
      let b : flow nat_mon g (steps g) (λ c. recs (s.chan c))
      ≡ steps g (to d) r + flow nat_mon g (steps g) (λ c. recs (pop J s.chan d c)) =
      worth_front nat_mon m d r (λ c. steps g (to c)) _ _ ld
      (λ c l. recs_pop r rest (eqb d c) (s.chan c) (same_place s.chan d c hd)) in
      omega arith

  mark_work : (s : Run R Car) (d : ℕ) (rest : List (Item R)) → s.chan d ≡ barrier ∷ rest
      → work J (mark_s J s d) ≡ work J s
  unfolding work
  mark_work s d rest hd = ap (λ z. z + worth nat_mon n (steps g) (λ t. drop (s.off t) (part t)))
      (worth_ext nat_mon m (λ c. steps g (to c)) _ _
      (λ c l. recs_mark rest (eqb d c) (s.chan c) (same_place s.chan d c hd)))

  store_work : (s : Run R Car) (t : ℕ) → work J (store_s J s t) ≡ work J s
  unfolding work
  store_work s t = ap (λ z. z + worth nat_mon n (steps g) (λ t. drop (s.off t) (part t)))
      (worth_ext nat_mon m (λ c. steps g (to c)) _ _ (λ c l. recs_bar (eqb (from c) t) (s.chan c)))

  mark_barriers : (s : Run R Car) (d : ℕ) → d < m → s.gone d < s.going
      → barriers J s ≡ suc (barriers J (mark_s J s d))
  unfolding barriers
  mark_barriers s d ld on =
      omega (arith, sum_down m d (awaits_at J s) (awaits_at J (mark_s J s d)) ld (λ c l. down c (eqb d c) refl))
    where
      down : (c : ℕ) (b : Bool) → eqb d c ≡ b → s.going - s.gone c ≡ bit b + (s.going - (s.gone c + bit b))
      down c true e = omega (arith, ap s.gone (eqb-true d c e))
      down c false e = omega arith

  -- a source sends its barrier; another task stores
  send_barriers : (s : Run R Car) (t : ℕ) → t < n → src t ≡ true → 0 < s.wait t
      → barriers J s ≡ suc (barriers J (store_s J s t))
  unfolding barriers
  send_barriers s t lt sr wt = omega (
    arith,
    sum_down n t (waits_at J s) (waits_at J (store_s J s t)) lt
        (λ v l. rw (eqb_sym t v)
        (wait_down (eqb v t) (src v) (s.wait v) (λ e. ap src (eqb-true v t e) ∙ sr)
        (λ e. subst (λ x. 0 < s.wait x) (sym (eqb-true v t e)) wt))),
  )

  store_barriers : (s : Run R Car) (t : ℕ) → src t ≡ false → barriers J (store_s J s t) ≡ barriers J s
  unfolding barriers
  store_barriers s t sr = ap (λ z. z + sum_n nat_mon m (awaits_at J s))
      (sum_ext nat_mon n _ _ (λ v l. wait_keeps (eqb v t) (src v) (s.wait v) (λ e. ap src (eqb-true v t e) ∙ sr)))

  settle_left : (s : Run R Car) → Order J s → (b : Bool) → whole J s ≡ b → left J (cond b (finish_s J s) s) ≡ left J s
  unfolding left work barriers
  settle_left s O true e = ap (λ z. work J s + (sum_n nat_mon n (waits_at J s) + z))
      (sum_ext nat_mon m _ _ (λ c l. let h : 0 < s.gone c = whole_gone J s O e c l in omega arith))
  settle_left s O false e = refl

  read_barriers : (s : Run R Car) (t : ℕ) (r : R) → barriers J (read_s J s t r) ≡ barriers J s
  unfolding barriers
  read_barriers s t r = refl

  deliver_barriers : (s : Run R Car) (d : ℕ) (r : R) → barriers J (deliver_s J s d r) ≡ barriers J s
  unfolding barriers
  deliver_barriers s d r = refl

  -- EVERY STEP TAKES ONE from the steps left
  pub step_left : (s s' : Run R Car) → Good J s → Step J s s' → left J s ≡ suc (left J s')
  unfolding left
  step_left s s' K (read t r lt sr lo nxt rm) = omega (arith, read_work s t r lt nxt, read_barriers s t r)
  step_left s s' K (deliver d r rest ld mk hd rm) =
      omega (arith, deliver_work s d r rest ld hd, deliver_barriers s d r)
  step_left s s' K (marks d rest ld bd mk hd c lc tc bc mc) =
      omega (arith, mark_work s d rest hd, mark_barriers s d ld (bar_more J s K.inv.order d rest ld hd))
  step_left s s' K (completes d rest ld bd mk hd all rm) =
      let s₁ = mark_s J s d in
      let s₂ = store_s J s₁ (to d) in
      let e : left J (settle J s₂) ≡ left J s₂ =
      settle_left s₂ (complete_order J s K.inv.order d rest ld bd mk hd all) (whole J s₂) refl in
      omega (
        arith,
        mark_work s d rest hd,
        mark_barriers s d ld (bar_more J s K.inv.order d rest ld hd),
        store_work s₁ (to d),
        store_barriers s₁ (to d) (no_in d ld),
      )
  step_left s s' K (returns d rest ld bd mk hd) =
      let s₁ = mark_s J s d in
      let e : left J (settle J s₁) ≡ left J s₁ =
      settle_left s₁ (mark_order J s K.inv.order d rest mk hd) (whole J s₁) refl in
      omega (arith, mark_work s d rest hd, mark_barriers s d ld (bar_more J s K.inv.order d rest ld hd))
  step_left s s' K (sends_bar t lt sr wt rm) =
      let s₂ = store_s J s t in
      let e : left J (settle J s₂) ≡ left J s₂ =
      settle_left s₂ (send_order J s K.inv.order t lt sr wt) (whole J s₂) refl in
      omega (arith, store_work s t, send_barriers s t lt sr wt)

  -- nothing is left to do where nothing is left
  pub left_none : (s : Run R Car) → Good J s → ¬ Left J s → left J s ≡ 0
  unfolding left work barriers
  left_none s K h =
      let a : flow nat_mon g (steps g) (λ c. recs (s.chan c)) ≡ 0 =
      worth-nil nat_mon m (λ c. steps g (to c)) (λ c. recs (s.chan c))
      (λ c l. recs_none (s.chan c) (λ z. h (left_item c l z))) in
      let b : worth nat_mon n (steps g) (λ t. drop (s.off t) (part t)) ≡ 0 =
      worth-nil nat_mon n (steps g) (λ t. drop (s.off t) (part t)) (λ t l. all_read t l (src t) refl) in
      let c : sum_n nat_mon n (waits_at J s) ≡ 0 =
      sum_ext nat_mon n (waits_at J s) (λ t. 0) (λ t l. no_wait t l (src t) refl) ∙ sum_unit nat_mon n in
      let d : sum_n nat_mon m (awaits_at J s) ≡ 0 =
      sum_ext nat_mon m (awaits_at J s) (λ c. 0) (λ c l. omega (arith, off)) ∙ sum_unit nat_mon m in
      omega arith
    where
      off : s.going ≡ 0
      off = let z : 0 < s.going → ⊥ = λ e. h (left_snap e) in omega arith

      all_read : (t : ℕ) → t < n → (b : Bool) → src t ≡ b → drop (s.off t) (part t) ≡ []
      all_read t l true e = let z : s.off t < length (part t) → ⊥ = λ k. h (left_part t l e k) in
          drop_of_length-le (part t) {i = s.off t} (omega arith)
      all_read t l false e = ap (drop (s.off t)) (no_part t e) ∙ drop-nil (s.off t)

      no_wait : (t : ℕ) → t < n → (b : Bool) → src t ≡ b → cond b (s.wait t) 0 ≡ 0
      no_wait t l true e = omega (arith, K.inv.order.wait_eq t l e, off)
      no_wait t l false e = refl
