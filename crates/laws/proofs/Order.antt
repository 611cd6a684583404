-- Each part of a step keeps the order of barriers. There is no word of totals here: it holds of every run that fits by request h's
-- rule.
use mathlib.Core.Path.{◌≡◌, refl, sym, ap, ◌∙◌}
use mathlib.Core.Bool.{Bool, true, false}
use mathlib.Core.List.{List, [], ◌∷◌}
use Prim.Native.Nat.{ℕ, suc, ◌+◌, ◌-◌, ◌<◌, ◌≤◌}
use native.Mathlib.Omega.{arith}
use lib.Dec.{eqb}
use borrow.Author.Tests.{eqb-true, ltb-false}
use Rattle.laws.specs.Received.{keep}
use Rattle.laws.specs.Below.{bit}
use Rattle.laws.specs.Acyclic.{Reach, here, along}
use Rattle.laws.specs.Items.{Item, barrier, rec, bars, as_items}
use Rattle.laws.specs.Run.{Run, Job, put, pop, blocked, read_s, deliver_s, mark_s, store_s, begin_s, finish_s, cut_s, start_s}
use Rattle.laws.specs.Invariant.{Order}
use Rattle.laws.proofs.Below.{same_place}
use Rattle.laws.proofs.Items.{bars-append, bars_as_items, bars_keep, bars_pop, bars_mark}

module _ (J : Job) where
  open J use {R, g, G, M, src, back, home}
  open g use {n, m, from, to, sends}
  open M use {Car}

  pub start_order : (tot : ℕ → Car) (offs : ℕ → ℕ) → Order J (start_s J tot offs)
  start_order tot offs = record {
    bar_eq = λ c l. refl;
    fwd = λ c l e. omega arith;
    one_mark = λ c l. omega arith;
    wait_eq = λ t l e. refl;
    idle = λ t l. omega arith;
  }

  pub put_bars : (ch : ℕ → List (Item R)) (t : ℕ) (r : R) (c : ℕ)
      → bars (put J ch t (λ c. as_items (sends c r)) c) ≡ bars (ch c)
  put_bars ch t r c = omega (
    arith,
    bars-append (ch c) (keep (eqb (from c) t) (as_items (sends c r))),
    bars_keep (eqb (from c) t) (sends c r),
  )

  module _ (s : Run R Car) (O : Order J s) where
    -- a task has stored no more than those from which it is reached, so a barrier comes back to a task that has stored it, and no
    -- back channel is ever blocked
    pub reach_st : {a b : ℕ} → Reach g back a b → s.stored b ≤ s.stored a
    reach_st here = omega arith
    reach_st (along c l e w) = omega (arith, reach_st w, O.fwd c l e, O.bar_eq c l)

    pub back_open : (c : ℕ) → c < m → back c ≡ true → s.gone c ≤ s.stored (to c)
    back_open c l e = omega (arith, reach_st (home c l e), O.bar_eq c l)

    pub read_order : (t : ℕ) (r : R) → Order J (read_s J s t r)
    read_order t r = record {
      bar_eq = λ c l. omega (arith, put_bars s.chan t r c, O.bar_eq c l);
      fwd = O.fwd;
      one_mark = O.one_mark;
      wait_eq = O.wait_eq;
      idle = O.idle;
    }

    module _ (d : ℕ) (r : R) (rest : List (Item R)) (hd : s.chan d ≡ rec r ∷ rest) where
      pub pop_eq : (c : ℕ) → c < m → bars (pop J s.chan d c) + s.gone c ≡ s.stored (from c)
      pop_eq c l = omega (
        arith,
        bars_pop r rest (eqb d c) (s.chan c) (same_place s.chan d c hd),
        O.bar_eq c l,
      )

      pub deliver_order : Order J (deliver_s J s d r)
      deliver_order = record {
        bar_eq = λ c l. omega (arith, put_bars (pop J s.chan d) (to d) r c, pop_eq c l);
        fwd = O.fwd;
        one_mark = O.one_mark;
        wait_eq = O.wait_eq;
        idle = O.idle;
      }

    pub mark_order : (d : ℕ) (rest : List (Item R)) → blocked J s d ≡ false → s.chan d ≡ barrier ∷ rest
        → Order J (mark_s J s d)
    mark_order d rest mk hd = record {
      bar_eq =
          λ c l. bars_mark rest (eqb d c) (s.gone c) (s.chan c) (same_place s.chan d c hd)
          ∙ O.bar_eq c l;
      fwd = λ c l e. omega (arith, O.fwd c l e);
      one_mark = λ c l. at_most c l (eqb d c) refl;
      wait_eq = O.wait_eq;
      idle = O.idle;
    }
      where
        at_most : (c : ℕ) → c < m → (b : Bool) → eqb d c ≡ b → s.gone c + bit b ≤ suc (s.stored (to c))
        at_most c l true q = omega (
          arith,
          ltb-false (s.stored (to d)) (s.gone d) mk,
          ap s.gone (eqb-true d c q),
          ap (λ x. s.stored (to x)) (eqb-true d c q),
        )
        at_most c l false q = omega (arith, O.one_mark c l)

    pub store_order : (t : ℕ) → s.stored t < s.going → (src t ≡ true → 0 < s.wait t)
        → ((c : ℕ) → c < m → to c ≡ t → back c ≡ false → s.stored t < s.gone c) → Order J (store_s J s t)
    store_order t on wt all = record {
      bar_eq = λ c l. omega (
        arith,
        O.bar_eq c l,
        bars-append (s.chan c) (keep (eqb (from c) t) (barrier ∷ [])),
        one (eqb (from c) t),
      );
      fwd = λ c l e. fwd_at c l e (eqb (to c) t) refl;
      one_mark = λ c l. omega (arith, O.one_mark c l);
      wait_eq = λ v l e. wait_at_lem v l e (eqb v t) refl;
      idle = λ v l. idle_at v l (eqb v t) refl;
    }
      where
        one : (b : Bool) → bars {R = R} (keep b (barrier ∷ [])) ≡ bit b
        one true = refl
        one false = refl

        fwd_at : (c : ℕ) → c < m → back c ≡ false → (b : Bool) → eqb (to c) t ≡ b → s.stored (to c) + bit b ≤ s.gone c
        fwd_at c l e true q = omega (arith, all c l (eqb-true (to c) t q) e, ap s.stored (eqb-true (to c) t q))
        fwd_at c l e false q = omega (arith, O.fwd c l e)

        wait_at_lem : (v : ℕ) → v < n → src v ≡ true → (b : Bool) → eqb v t ≡ b
            → s.wait v - bit b + (s.stored v + bit b) ≡ s.going
        wait_at_lem v l e true q =
            omega (arith, O.wait_eq v l e, wt (ap src (sym (eqb-true v t q)) ∙ e), ap s.wait (eqb-true v t q))
        wait_at_lem v l e false q = omega (arith, O.wait_eq v l e)

        idle_at : (v : ℕ) → v < n → (b : Bool) → eqb v t ≡ b → s.stored v + bit b ≤ s.going
        idle_at v l true q = omega (arith, ap s.stored (eqb-true v t q))
        idle_at v l false q = omega (arith, O.idle v l)

    pub begin_order : Order J (begin_s J s)
    begin_order = record {
      bar_eq = O.bar_eq;
      fwd = O.fwd;
      one_mark = O.one_mark;
      wait_eq = λ t l q. omega (arith, ap bit q, O.wait_eq t l q);
      idle = λ t l. omega (arith, O.idle t l);
    }

    pub finish_order : ((t : ℕ) → t < n → 0 < s.stored t) → ((c : ℕ) → c < m → 0 < s.gone c) → Order J (finish_s J s)
    finish_order all ret = record {
      bar_eq = λ c l. omega (arith, O.bar_eq c l, ret c l);
      fwd = λ c l e. omega (arith, O.fwd c l e);
      one_mark = λ c l. omega (arith, O.one_mark c l, all (to c) (G.to_ok c l));
      wait_eq = λ t l q. omega (arith, O.wait_eq t l q, all t l);
      idle = λ t l. omega (arith, O.idle t l);
    }

    pub cut_order : Order J (cut_s J s)
    cut_order = record {
      bar_eq = λ c l. omega (arith, bars_as_items (s.last_log c));
      fwd = λ c l e. omega arith;
      one_mark = λ c l. omega arith;
      wait_eq = λ t l q. refl;
      idle = λ t l. omega arith;
    }
