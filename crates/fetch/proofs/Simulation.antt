-- From one host to another: where two hosts' states stay related and their steps give the same but for the state, demand 3 goes over from the one to the
-- other. By the laws of related machines. Assumes nothing.
use mathlib.Core.Path.{◌≡◌, refl, sym, ap, ◌∙◌}
use mathlib.Core.List.{List, ◌++◌}
use Prim.Native.Nat.{ℕ}
use Rattle.verdict.specs.declared.Opening.{Opening}
use Rattle.steps.proofs.Steps.{outs_related, counted_related, fair_related}
use Rattle.fetch.specs.Plain.{Report, Setting}
use Rattle.fetch.specs.Device.{Host, Given, Lent, lent, delivered, all_own, World, world_after, start, made, next, reported, Fair}
use Rattle.fetch.specs.Claim.{Run, reports, owns, enough_for, Fetched, Demand}

-- what two steps gave: the same, the states being related
pub record Alike {S S' : Type 0} (R : S → S' → Type 0) (r : Given S) (r' : Given S') : Type 0 where
  pub state : R r.state r'.state
  pub taken : r.taken ≡ r'.taken
  pub answer : r.answer ≡ r'.answer
  pub table : r.table ≡ r'.table
  pub reply : r.reply ≡ r'.reply
  pub out : r.out ≡ r'.out

module _ (h k : Host) (R : h.State → k.State → Type 0) (fresh : (u : Opening) → R (h.fresh u) (k.fresh u))
    (step : (s : h.State) (s' : k.State) (d set names t y o : List ℕ) → R s s'
    → Alike R (h.step s d set names t y o) (k.step s' d set names t y o)) (c : Setting) where
  -- worlds that differ in the state alone, and there as related
  pub record Both (w : World h.State) (v : World k.State) : Type 0 where
    pub state : R w.state v.state
    pub table : w.table ≡ v.table
    pub reply : w.reply ≡ v.reply
    pub out : w.out ≡ v.out
    pub queue : w.queue ≡ v.queue

  pub both_start : Both (start h c) (start k c)
  both_start = record { state = fresh c.opening; table = refl; reply = refl; out = refl; queue = refl }

  pub both_made : (w : World h.State) (v : World k.State) (l : Lent) → Both w v → Alike R (made h c w l) (made k c v l)
  both_made w v l b =
      rw (b.table, b.reply, b.out, b.queue)
      (step w.state v.state (delivered l.delivery v.queue) (lent l.set c.set) (lent l.names c.names)
      (lent l.table v.table) (lent l.reply v.reply) (lent l.out v.out) b.state)

  -- after steps that gave the same, the same being queued
  pub both_after : (w : World h.State) (v : World k.State) (l : Lent) → Both w v → {q q' : List ℕ} → q ≡ q'
      → Both (world_after w l (made h c w l) q) (world_after v l (made k c v l) q')
  both_after w v l b e =
      let a = both_made w v l b in
      record {
        state = a.state;
        table = rw (a.table, b.table) refl;
        reply = rw (a.reply, b.reply) refl;
        out = rw (a.out, b.out) refl;
        queue = e;
      }

  pub both_kept : (w : World h.State) (v : World k.State) (l : Lent) → Both w v → Both (next h c w l) (next k c v l)
  both_kept w v l b = let a = both_made w v l b in both_after w v l b (rw (a.taken, a.answer, a.out, b.queue) refl)

  pub both_told : (w : World h.State) (v : World k.State) (l : Lent) → Both w v → reported h c w l ≡ reported k c v l
  both_told w v l b = let a = both_made w v l b in rw (a.answer, a.out, b.queue) refl

  both_fair : (w : World h.State) (v : World k.State) (l : Lent) → Both w v → Fair k c v l → Fair h c w l
  both_fair w v l b f = let a = both_made w v l b in rw (a.answer, b.queue) f

  module _ (ls : List Lent) where
    pub same_reports : reports h c (start h c) ls ≡ reports k c (start k c) ls
    same_reports =
        outs_related (next h c) (next k c) Both both_kept (reported h c) (reported k c) both_told ls (start h c) (start k c) both_start

    same_owns : owns h c (start h c) ls ≡ owns k c (start k c) ls
    same_owns =
        counted_related (next h c) (next k c) Both both_kept (λ w l. all_own l) (λ w l. all_own l) (λ w v l b. refl) ls (start h c) (start k c)
        both_start

    same_fair : Run k c (start k c) ls → Run h c (start h c) ls
    same_fair f = fair_related (next h c) (next k c) Both both_kept (Fair h c) (Fair k c) both_fair ls (start h c) (start k c) both_start f

    pub fetched_carried : (n : ℕ) → Fetched h c n ls → Fetched k c n ls
    fetched_carried n g =
        record {
          begins = (g.begins.0, g.begins.1 ∙ ap (λ (r : List Report). r ++ g.begins.0) same_reports);
          whole = λ e. sym same_reports ∙ g.whole (rw same_owns e);
        }

-- demand 3 goes over
pub demand_carried : (h k : Host) (R : h.State → k.State → Type 0) (fresh : (u : Opening) → R (h.fresh u) (k.fresh u))
    (step : (s : h.State) (s' : k.State) (d set names t y o : List ℕ) → R s s'
    → Alike R (h.step s d set names t y o) (k.step s' d set names t y o))
    → Demand h → Demand k
demand_carried h k R fresh step d c x ls f =
    fetched_carried h k R fresh step c ls (enough_for c x) (d c x ls (same_fair h k R fresh step c ls f))
