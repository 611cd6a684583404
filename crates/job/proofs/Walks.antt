-- Answer 8: some task is left unstruck exactly when some walk along one or more channels returns to its start (`walks_exact`).
--   a struck task lies on no returning walk, since all its inputs come from struck tasks;
--   where no walk returns the tasks have a rank (`laws`), and as many sweeps as there are tasks strike them all.
use mathlib.Core.Path.{◌≡◌, refl, sym, ap, ◌∙◌, subst}
use mathlib.Core.Bool.{Bool, true, false, not, ◌||◌, false≢true}
use mathlib.Core.List.{List}
use mathlib.Core.Logic.{◌⊎◌, inl, inr, ◌↔◌}
use Prim.Native.Nat.{ℕ, zero, suc, ◌<◌}
use native.Mathlib.Omega.{arith}
use borrow.Author.Tests.{eq-eqb, eqb-true, eqb-false, not-false}
use lib.Dec.{eqb}
use lib.ListN.{length, get_or, set, replicate, length-set, length-replicate}
use lib.Seq.{get_or-set_same, get_or-set_other}
use Rattle.laws.specs.Acyclic.{Walk as LawWalk, edge, then, cyclic, Ranked}
use Rattle.laws.proofs.Acyclic.{cyclic_walk, ranked}
use Rattle.job.specs.declared.Job.{Job}
use Rattle.job.specs.Tests.{every}
use Rattle.job.specs.Jobs.{JobSized, from_of, to_of, is_input}
use Rattle.job.specs.Graph.{graph_of}
use Rattle.job.specs.Rules.{Walk, one, more, Returning, struck_before, strike, struck_tasks, fault8}
use Rattle.job.proofs.Tests.{every_all, all_every}
use Rattle.job.proofs.Sweeps.{sweeps_keep, settled}

-- ---- walks
joined : {job : Job} {a b c : ℕ} → Walk job a b → Walk job b c → Walk job a c
joined v (one c l) = more c l v
joined v (more c l w) = more c l (joined v w)

-- a returning walk comes in over some channel, and returns to that channel's from_task as well
pub record Enters (job : Job) (t : ℕ) : Type 0 where
  pub channel : ℕ
  pub is_channel : channel < job.channels
  pub leads : to_of job channel ≡ t
  pub returns : Walk job (from_of job channel) (from_of job channel)

entered : {job : Job} {s t : ℕ} → Walk job s t → s ≡ t → Enters job t
entered {job} (one c l) e = record { channel = c; is_channel = l; leads = refl; returns = subst (Walk job (from_of job c)) (sym e) (one c l) }
entered {job} {s} (more c l w) e = record { channel = c; is_channel = l; leads = refl; returns = joined (one c l) (subst (λ x. Walk job x (from_of job c)) e w) }

-- a walk ends at a task
walk_task : {job : Job} {s t : ℕ} → JobSized job → Walk job s t → t < job.tasks
walk_task Z (one c l) = Z.to_task c l
walk_task Z (more c l w) = Z.to_task c l

or_true : (a b : Bool) → a || b ≡ true → (a ≡ true) ⊎ (b ≡ true)
or_true true b e = inl refl
or_true false b e = inr e

none_at : (n i : ℕ) → get_or (replicate n false) i false ≡ false
none_at zero i = refl
none_at (suc n) zero = refl
none_at (suc n) (suc i) = none_at n i

module _ (job : Job) (Z : JobSized job) where
  -- ---- a struck task lies on no returning walk
  record Sound (struck : List Bool) : Type 0 where
    long : length struck ≡ 16
    free : (t : ℕ) → get_or struck t false ≡ true → Walk job t t → ⊥

  before_free : (struck : List Bool) (t : ℕ) → Sound struck → every (struck_before job struck t) job.channels ≡ true → Walk job t t → ⊥
  before_free struck t S all w =
      let x = entered w refl in
      let c = x.channel in
      let b : not (is_input job t c) || get_or struck (from_of job c) false ≡ true = every_all (struck_before job struck t) job.channels all c x.is_channel in
      let input : is_input job t c ≡ true = eq-eqb (to_of job c) t x.leads in
      S.free (from_of job c) (ap (λ i. not i || get_or struck (from_of job c) false) (sym input) ∙ b) x.returns

  strike_sound : (struck : List Bool) (t : ℕ) → t < job.tasks → Sound struck → Sound (set struck t (strike job struck t))
  unfolding strike
  strike_sound struck t lt S = record {
    long = length-set struck t (strike job struck t) ∙ S.long;
    free = λ u e w. at u (eqb u t) refl e w;
  }
    where
      now : get_or struck t false || every (struck_before job struck t) job.channels ≡ true → Walk job t t → ⊥
      now e w = go (or_true _ _ e)
        where
          go : (get_or struck t false ≡ true) ⊎ (every (struck_before job struck t) job.channels ≡ true) → ⊥
          go (inl x) = S.free t x w
          go (inr x) = before_free struck t S x w

      at : (u : ℕ) (b : Bool) → eqb u t ≡ b → get_or (set struck t (strike job struck t)) u false ≡ true → Walk job u u → ⊥
      at u true q e w =
          let same : u ≡ t = eqb-true u t q in
          now
          (sym (get_or-set_same struck t (strike job struck t) false (omega (arith, S.long, Z.few_tasks)))
          ∙ ap (λ i. get_or (set struck t (strike job struck t)) i false) (sym same) ∙ e)
          (subst (λ i. Walk job i i) same w)
      at u false q e w = S.free u (sym (get_or-set_other struck t u (strike job struck t) false (eqb-false u t q)) ∙ e) w

  start_sound : Sound (replicate 16 false)
  start_sound = record { long = length-replicate 16 false; free = λ t e w. absurd (false≢true (sym (none_at 16 t) ∙ e)) }

  struck_sound : Sound (struck_tasks job)
  unfolding struck_tasks
  struck_sound = sweeps_keep (strike job) job.tasks Sound strike_sound (replicate 16 false) start_sound job.tasks

  pub no_return : fault8 job ≡ false → Returning job → ⊥
  unfolding fault8
  no_return e r =
      let all : every (λ t. get_or (struck_tasks job) t false) job.tasks ≡ true = not-false _ e in
      struck_sound.free r.0 (every_all _ job.tasks all r.0 (walk_task Z r.1)) r.1

  -- ---- where no walk returns every task is struck
  by_laws : {a b : ℕ} → Walk job a b → LawWalk (graph_of job) (λ c. false) a b
  by_laws (one c l) = edge c l refl
  by_laws (more c l w) = then c l refl (by_laws w)

  of_laws : {a b : ℕ} → LawWalk (graph_of job) (λ c. false) a b → Walk job a b
  of_laws (edge c l e) = one c l
  of_laws (then c l e w) = more c l (of_laws w)

  module _ (G : Ranked (graph_of job) (λ c. false)) where
    strike_true : (struck : List Bool) (t : ℕ) → t < job.tasks
        → ((u : ℕ) → u < job.tasks → G.rank u < G.rank t → get_or struck u false ≡ true) → strike job struck t ≡ true
    unfolding strike
    strike_true struck t lt lower = or_right (get_or struck t false) _ (all_every _ job.channels (λ c l. from_struck c l (is_input job t c) refl))
      where
        or_right : (a b : Bool) → b ≡ true → a || b ≡ true
        or_right true b e = refl
        or_right false b e = e

        from_struck : (c : ℕ) → c < job.channels → (b : Bool) → is_input job t c ≡ b → not b || get_or struck (from_of job c) false ≡ true
        from_struck c l true e =
            let q : to_of job c ≡ t = eqb-true (to_of job c) t e in
            lower (from_of job c) (Z.from_task c l) (omega (arith, G.rank_up c l refl, ap G.rank q))
        from_struck c l false e = refl

    pub all_struck : fault8 job ≡ false
    unfolding fault8 struck_tasks
    all_struck = ap not (all_every _ job.tasks (λ t lt.
        settled (strike job) job.tasks false G.rank (λ t. true) strike_true (replicate 16 false)
        (omega (arith, Z.few_tasks, length-replicate 16 false)) job.tasks t lt (G.rank_lt t lt)))

  pub ranked_or_returning : (Ranked (graph_of job) (λ c. false)) ⊎ Returning job
  ranked_or_returning = go (cyclic (graph_of job) (λ c. false)) refl
    where
      go : (b : Bool) → cyclic (graph_of job) (λ c. false) ≡ b → (Ranked (graph_of job) (λ c. false)) ⊎ Returning job
      go true e = let w = cyclic_walk (graph_of job) (λ c. false) e in inr (w.0, of_laws w.2)
      go false e = inl (ranked (graph_of job) (λ c. false) Z.from_task Z.to_task e)

  -- ANSWER 8, both ways
  pub walks_exact : (fault8 job ≡ true) ↔ Returning job
  walks_exact = (there ranked_or_returning, λ r. back (fault8 job) refl r)
    where
      there : (Ranked (graph_of job) (λ c. false)) ⊎ Returning job → fault8 job ≡ true → Returning job
      there (inl G) e = absurd (false≢true (sym (all_struck G) ∙ e))
      there (inr r) e = r

      back : (b : Bool) → fault8 job ≡ b → Returning job → b ≡ true
      back true e r = refl
      back false e r = absurd (no_return e r)

  pub rank_of : fault8 job ≡ false → Ranked (graph_of job) (λ c. false)
  rank_of e = go ranked_or_returning
    where
      go : (Ranked (graph_of job) (λ c. false)) ⊎ Returning job → Ranked (graph_of job) (λ c. false)
      go (inl G) = G
      go (inr r) = absurd (no_return e r)
