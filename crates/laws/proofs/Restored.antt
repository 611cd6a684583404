-- REQUEST n: what stands in front of a channel after a cut is always the last part of the last complete snapshot's log. The reason:
-- a snapshot becomes complete only when its barrier has come over every back channel, and it came behind what was restored.
use mathlib.Core.Path.{◌≡◌, refl, sym, ap, ◌∙◌}
use mathlib.Core.Bool.{Bool, true, false, cond}
use mathlib.Core.List.{List, [], ◌∷◌, ◌++◌, append-nil, append_assoc}
use Prim.Native.Nat.{ℕ, zero, suc, ◌+◌, ◌-◌, ◌<◌}
use native.Mathlib.Omega.{arith}
use lib.Dec.{eqb}
use lib.ListN.{length}
use Rattle.laws.specs.Received.{keep}
use Rattle.laws.specs.Below.{bit}
use Rattle.laws.specs.Items.{Item, barrier, rec, as_items, tl}
use Rattle.laws.specs.Run.{Run, Job, mark_s, store_s, begin_s, finish_s, cut_s}
use Rattle.laws.specs.Invariant.{Order}
use Rattle.laws.specs.Moves.{whole, Step, read, deliver, marks, completes, returns, sends_bar}
use Rattle.laws.specs.Step.{after, step_f}
use Rattle.laws.specs.Restored.{InFront, Restored}
use Rattle.laws.proofs.Below.{same_place}
use Rattle.laws.proofs.Order.{mark_order}
use Rattle.laws.proofs.Moves.{whole_gone, complete_order, send_order}
use Rattle.laws.proofs.Step.{any_step}

module _ {R : Type 0} where
  front_put : (L : List R) (f : ℕ) (xs zs : List (Item R)) → InFront L f xs → InFront L f (xs ++ zs)
  front_put L f xs zs F = record {
    before = F.before;
    ys = F.ys;
    rest = F.rest ++ zs;
    of_log = F.of_log;
    many = F.many;
    heads = ap (λ l. l ++ zs) F.heads ∙ append_assoc (as_items F.ys) F.rest zs;
  }

  pop_one : (L : List R) (f : ℕ) (xs : List (Item R)) (before ys : List R) (rest : List (Item R))
      → L ≡ before ++ ys → length ys ≡ f → xs ≡ as_items ys ++ rest → InFront L (f - 1) (tl xs)
  pop_one L f xs before [] rest e n h = record {
    before = before;
    ys = [];
    rest = tl rest;
    of_log = e;
    many = omega (arith, n);
    heads = ap tl h;
  }
  pop_one L f xs before (y ∷ ys) rest e n h = record {
    before = before ++ (y ∷ []);
    ys = ys;
    rest = rest;
    of_log = e ∙ sym (append_assoc before (y ∷ []) ys);
    many = omega (arith, n);
    heads = ap tl h;
  }

  front_pop : (b : Bool) (L : List R) (f : ℕ) (xs : List (Item R)) → InFront L f xs
      → InFront L (f - bit b) (cond b (tl xs) xs)
  front_pop true L f xs F = pop_one L f xs F.before F.ys F.rest F.of_log F.many F.heads
  front_pop false L f xs F = record {
    before = F.before;
    ys = F.ys;
    rest = F.rest;
    of_log = F.of_log;
    many = omega (arith, F.many);
    heads = F.heads;
  }

  -- a barrier at the head: nothing is in front
  none_front : (L : List R) (f : ℕ) (xs tail : List (Item R)) → xs ≡ barrier ∷ tail → InFront L f xs → f ≡ 0
  none_front L f xs tail e F = go F.ys F.many F.heads
    where
      go : (ys : List R) → length ys ≡ f → xs ≡ as_items ys ++ F.rest → f ≡ 0
      go [] n h = sym n
      go (y ∷ ys) n h = let z : barrier ∷ tail ≡ rec y ∷ (as_items ys ++ F.rest) = sym e ∙ h in
          absurd (let q : ◌≡◌ {A = ℕ} 0 1 = cc in omega arith)

  front_mark : (b : Bool) (L : List R) (f : ℕ) (xs tail : List (Item R)) → (b ≡ true → xs ≡ barrier ∷ tail)
      → InFront L f xs → InFront L f (cond b (tl xs) xs)
  front_mark true L f xs tail p F = let z : f ≡ 0 = none_front L f xs tail (p refl) F in record {
    before = L;
    ys = [];
    rest = tl xs;
    of_log = sym (append-nil L);
    many = omega arith;
    heads = refl;
  }
  front_mark false L f xs tail p F = F

module _ (J : Job) where
  open J use {R, g, M}
  open g use {m, from, to, sends}
  open M use {Car}

  -- the oldest complete: nothing is in front any more
  settle_restored : (s : Run R Car) → Order J s → Restored J s → (b : Bool) → whole J s ≡ b
      → Restored J (cond b (finish_s J s) s)
  settle_restored s O Q true e = record {
    fronts = λ c l. record {
      before = s.log 0 c;
      ys = [];
      rest = s.chan c;
      of_log = sym (append-nil (s.log 0 c));
      many = let z : 0 < s.front c → s.gone c ≡ 0 = Q.young c l in clear c (s.front c) z (whole_gone J s O e c l);
      heads = refl;
    };
    young = λ c l h. omega (arith, Q.young c l h);
  }
    where
      clear : (c f : ℕ) → (0 < f → s.gone c ≡ 0) → 0 < s.gone c → 0 ≡ f
      clear c zero h p = refl
      clear c (suc f) h p = absurd (omega (arith, h (omega arith)))
  settle_restored s O Q false e = Q

  mark_restored : (s : Run R Car) (d : ℕ) (rest : List (Item R)) → s.chan d ≡ barrier ∷ rest → Restored J s
      → Restored J (mark_s J s d)
  mark_restored s d rest hd Q = record {
    fronts =
        λ c l. front_mark (eqb d c) (s.last_log c) (s.front c) (s.chan c) rest (same_place s.chan d c hd) (Q.fronts c l);
    young = λ c l h. new c l h (eqb d c) refl;
  }
    where
      new : (c : ℕ) → c < m → 0 < s.front c → (b : Bool) → eqb d c ≡ b → s.gone c + bit b ≡ 0
      new c l h true e =
          let z : s.front c ≡ 0 =
          none_front (s.last_log c) (s.front c) (s.chan c) rest (same_place s.chan d c hd e) (Q.fronts c l) in
          absurd (omega arith)
      new c l h false e = omega (arith, Q.young c l h)

  store_restored : (s : Run R Car) (t : ℕ) → Restored J s → Restored J (store_s J s t)
  store_restored s t Q = record {
    fronts = λ c l. front_put (s.last_log c) (s.front c) (s.chan c) (keep (eqb (from c) t) (barrier ∷ [])) (Q.fronts c l);
    young = Q.young;
  }

  pub step_restored : (s s' : Run R Car) → Order J s → Restored J s → Step J s s' → Restored J s'
  step_restored s s' O Q (read t r lt sr lo nxt rm) = record {
    fronts = λ c l. front_put (s.last_log c) (s.front c) (s.chan c) (keep (eqb (from c) t) (as_items (sends c r)))
        (Q.fronts c l);
    young = Q.young;
  }
  step_restored s s' O Q (deliver d r rest ld mk hd rm) = record {
    fronts = λ c l. front_put (s.last_log c) (s.front c - bit (eqb d c))
        (cond (eqb d c) (tl (s.chan c)) (s.chan c)) (keep (eqb (from c) (to d)) (as_items (sends c r)))
        (front_pop (eqb d c) (s.last_log c) (s.front c) (s.chan c) (Q.fronts c l));
    young = λ c l h. Q.young c l (omega (arith, h));
  }
  step_restored s s' O Q (marks d rest ld bd mk hd c lc tc bc mc) = mark_restored s d rest hd Q
  step_restored s s' O Q (completes d rest ld bd mk hd all rm) =
      settle_restored (store_s J (mark_s J s d) (to d)) (complete_order J s O d rest ld bd mk hd all)
      (store_restored (mark_s J s d) (to d) (mark_restored s d rest hd Q)) (whole J (store_s J (mark_s J s d) (to d))) refl
  step_restored s s' O Q (returns d rest ld bd mk hd) =
      settle_restored (mark_s J s d) (mark_order J s O d rest mk hd) (mark_restored s d rest hd Q) (whole J (mark_s J s d)) refl
  step_restored s s' O Q (sends_bar t lt sr wt rm) =
      settle_restored (store_s J s t) (send_order J s O t lt sr wt) (store_restored s t Q) (whole J (store_s J s t)) refl

  pub begin_restored : (s : Run R Car) → Restored J s → Restored J (begin_s J s)
  begin_restored s Q = record { fronts = Q.fronts; young = Q.young }

  pub cut_restored : (s : Run R Car) → Restored J (cut_s J s)
  cut_restored s = record {
    fronts = λ c l. record {
      before = [];
      ys = s.last_log c;
      rest = [];
      of_log = refl;
      many = refl;
      heads = sym (append-nil (as_items (s.last_log c)));
    };
    young = λ c l h. refl;
  }

  -- every step, of any number, done or refused
  pub any_restored : (s : Run R Car) (k : ℕ) → Order J s → Restored J s → Restored J (after s (step_f J s k))
  any_restored s k O Q =
      any_step J (Restored J) s k O Q (λ s' p. step_restored s s' O Q p) (λ h. begin_restored s Q) (cut_restored s)
