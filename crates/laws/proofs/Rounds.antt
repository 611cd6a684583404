-- REQUEST n, the measure: round and rank together are below 8 n and grow with each send, so that `looped` is a graph like any
-- other.
use mathlib.Core.Path.{◌≡◌, refl, ap}
use mathlib.Core.Bool.{Bool, true, false, cond}
use mathlib.Core.List.{List, [], ◌∷◌}
use Prim.Native.Nat.{ℕ, zero, suc, ◌+◌, ◌<◌, ◌≤◌}
use native.Mathlib.Omega.{arith}
use lib.Dec.{ltb}
use borrow.Author.Tests.{ltb-true, ltb-false}
use Rattle.laws.specs.Received.{Graph}
use Rattle.laws.specs.Acyclic.{Ranked, Each, Measured}
use Rattle.laws.specs.Rounds.{Rounded, in_round, rounds, sends_round, looped}

each_round : {R : Type 0} (P : Rounded R → Type 0) (k : ℕ) (rs : List R) → ((r : R) → P (record {
  what = r;
  round = k;
})) → Each P (in_round k rs)
each_round P k [] h = tt
each_round P k (r ∷ rs) h = (h r, each_round P k rs h)

rounds_le : (n a b : ℕ) → a ≤ b → rounds n a ≤ rounds n b
rounds_le n a zero h = let z : a ≡ 0 = omega arith in rw z (omega arith)
rounds_le n zero (suc b) h = omega arith
rounds_le n (suc a) (suc b) h = omega (arith, rounds_le n a b (omega arith))

module _ {R : Type 0} (g : Graph R) (back : ℕ → Bool) where
  open g use {n, m, from, to}

  -- no round passes 7
  pub round_small : (c : ℕ) (x : Rounded R) → x.round ≤ 7 → Each (λ y. y.round ≤ 7) (sends_round g back c x)
  round_small c x h = go (back c) (ltb x.round 7) refl
    where
      go : (b l : Bool) → ltb x.round 7 ≡ l
          → Each (λ y. y.round ≤ 7)
          (cond b (cond l (in_round (suc x.round) (g.sends c x.what)) [])
          (in_round x.round (g.sends c x.what)))
      go true true e =
          each_round (λ y. y.round ≤ 7) (suc x.round) (g.sends c x.what) (λ r. ltb-true x.round 7 e)
      go true false e = tt
      go false l e = each_round (λ y. y.round ≤ 7) x.round (g.sends c x.what) (λ r. h)

  -- a round above 7 counts as 7
  abbrev capped : ℕ → ℕ
  capped k = cond (ltb k 7) k 7

  capped_le : (k : ℕ) → capped k ≤ 7
  capped_le k = go (ltb k 7) refl
    where
      go : (b : Bool) → ltb k 7 ≡ b → cond b k 7 ≤ 7
      go true e = let l : k < 7 = ltb-true k 7 e in omega arith
      go false e = omega arith

  capped_suc : (k : ℕ) → k < 7 → capped (suc k) ≡ suc k
  capped_suc k h = go (ltb (suc k) 7) refl
    where
      go : (b : Bool) → ltb (suc k) 7 ≡ b → cond b (suc k) 7 ≡ suc k
      go true e = refl
      go false e = let l : 7 ≤ suc k = ltb-false (suc k) 7 e in omega arith

  module _ (from_ok : (c : ℕ) → c < m → from c < n) (to_ok : (c : ℕ) → c < m → to c < n) (K : Ranked g back) where
    -- THE MEASURE: round and rank
    pub looped_measured : Measured (looped g back)
    looped_measured = record {
      from_ok = from_ok;
      to_ok = to_ok;
      size = λ t x. rounds n (capped x.round) + K.rank t;
      size_lt = λ t x l. omega (arith, rounds_le n (capped x.round) 7 (capped_le x.round), K.rank_lt t l);
      size_up = λ c x l. up c x l (back c) refl (ltb x.round 7) refl;
    }
      where
        up : (c : ℕ) (x : Rounded R) → c < m → (b : Bool) → back c ≡ b → (s : Bool) → ltb x.round 7 ≡ s
            → Each
            (λ y. rounds n (capped x.round) + K.rank (from c) < rounds n (capped y.round) + K.rank (to c))
            (cond b (cond s (in_round (suc x.round) (g.sends c x.what)) [])
            (in_round x.round (g.sends c x.what)))
        up c x l true e true q = each_round _ (suc x.round) (g.sends c x.what) (λ r.
            let k : x.round < 7 = ltb-true x.round 7 q in
            let a : rounds n (capped x.round) ≡ rounds n x.round = ap (λ b. rounds n (cond b x.round 7)) q in
            let b : rounds n (capped (suc x.round)) ≡ rounds n x.round + n =
            ap (rounds n) (capped_suc x.round k) in
            omega (arith, K.rank_lt (from c) (from_ok c l)))
        up c x l true e false q = tt
        up c x l false e s q = each_round _ x.round (g.sends c x.what) (λ r. omega (arith, K.rank_up c l e))
