-- What follows of any host of which the claim holds: two divisions come to the same; the claim in demand 3's words; and it goes over to a host whose steps
-- give the
-- same. By the laws of related machines. Assumes nothing.
use mathlib.Core.Path.{◌≡◌, refl, sym, ap, ◌∙◌}
use mathlib.Core.Logic.{inl, inr, ⊎_elim}
use mathlib.Core.Bool.{Bool, true, false, not, ◌&&◌, ◌||◌}
use mathlib.Core.List.{List, [], ◌∷◌, ◌++◌, map, append-nil}
use Prim.Native.Nat.{ℕ, ◌+◌, ◌<◌}
use native.Mathlib.Omega.{arith}
use borrow.Author.Tests.{eqb-false, ne_eqb}
use lib.Dec.{eqb}
use lib.ListN.{length, length-take}
use Rattle.base.proofs.Ranges.{by_test}
use Rattle.base.proofs.Tests.{holds}
use Rattle.verdict.specs.declared.Opening.{Opening}
use Rattle.session.specs.declared.Answer.{Answer}
use Rattle.session.specs.declared.Answer.TheVariants as A
use Rattle.session.specs.declared.Phase.{Phase}
use Rattle.session.specs.declared.Session.{Session}
use Rattle.waiting.specs.Wanted.{needs_bytes}
use Rattle.steps.specs.Steps.{one, final, Throughout}
use Rattle.steps.proofs.Steps.{outs_related, counted_related, fair_related, final_related}
use Rattle.fetch.specs.Plain.{Report, Setting}
use Rattle.fetch.specs.Device.{Host, Delivery, first, another, Lent, lent, delivered, all_own, aside, Delivered, reports_for, World, start, made, Fair}
use Rattle.fetch.proofs.Simulation.{Alike, Both, both_start, both_made, both_after}
use Rattle.division.proofs.Undivided.{or_some}
use Rattle.division.specs.Over.{Event, does, refuses, refusals_for, events_for, FromQueue, lacks, next_over, FairOver, RunOver, events_by, events, is_fed, owns_fed}
use Rattle.division.specs.Claim.{undivided, packet_ended, unwindowed, Division, AnyTwo, reports_over, owns_over, FairDivision}

-- ---- two divisions

pub any_two : (h : Host) (see : h.State → Session) → Division h see → AnyTwo h see
any_two h see d c ls ks f g m n =
    let a = d c ls f in
    let b = d c ks g in
    let x = a.ends m in
    let z = b.ends n in
    record {
      events = a.whole m ∙ sym (b.whole n);
      ends =
          record {
            session = x.session ∙ sym z.session;
            table = x.table ∙ sym z.table;
            reply = x.reply ∙ sym z.reply;
            out = x.out ∙ sym z.out;
            queue = x.queue ∙ sym z.queue;
          };
    }

-- ---- in demand 3's words

-- the reports among the events
abbrev reports_in : List Event → List Report
reports_in [] = []
reports_in (does r ∷ l) = r ∷ reports_in l
reports_in (refuses n ∷ l) = reports_in l

in_append : (l k : List Event) → reports_in (l ++ k) ≡ reports_in l ++ reports_in k
in_append [] k = refl
in_append (does r ∷ l) k = ap (λ (x : List Report). r ∷ x) (in_append l k)
in_append (refuses n ∷ l) k = in_append l k

in_does : (l : List Report) → reports_in (map does l) ≡ l
in_does [] = refl
in_does (r ∷ l) = ap (λ (x : List Report). r ∷ x) (in_does l)

in_refusals : (a : Answer) → reports_in (refusals_for a) ≡ []
in_refusals A.Go = refl
in_refusals (A.Send k) = refl
in_refusals (A.Image x k) = refl
in_refusals (A.Open i) = refl
in_refusals (A.Bytes k) = refl
in_refusals A.EmptyRead = refl
in_refusals (A.Close i) = refl
in_refusals (A.Finished how r) = refl
in_refusals (A.Refused why) = by_test (aside (A.Refused why)) (λ e. rw e refl) (λ e. rw e refl)

in_events : (a : Answer) (d set o : List ℕ) → reports_in (events_for a d set o) ≡ reports_for a d set o
in_events a d set o =
    in_append (map does (reports_for a d set o)) (refusals_for a) ∙ rw (in_does (reports_for a d set o), in_refusals a, append-nil) refl

module _ (h : Host) (c : Setting) where
  in_list : (ls : List Lent) (w : World h.State) → reports_in (events h c w ls) ≡ reports_over h c w ls
  in_list [] w = refl
  in_list (l ∷ ls) w =
      in_append (events_by h c w l) (events h c (next_over h c w l) ls)
      ∙ rw (
        in_events (made h c w l).answer (delivered l.delivery w.queue) (lent l.set c.set) (made h c w l).out,
        in_list ls (next_over h c w l),
      )
      refl

  -- a delivery that is fair there is one here, and it is not empty while bytes are left
  from_queue : (d : Delivery) (q : List ℕ) → Delivered d q → FromQueue d
  from_queue (first k) q v = tt
  from_queue (another d) q v = v

  some_delivered : (d : Delivery) (q : List ℕ) → Delivered d q → 0 < length q → 0 < length (delivered d q)
  some_delivered (first k) q v l = omega (arith, v l, length-take k q)
  some_delivered (another d) q v l = absurd v

  fair_over : (w : World h.State) (l : Lent) → Fair h c w l → FairOver h c w l
  fair_over w l f = ⊎_elim (λ o. inl (o.0, from_queue l.delivery w.queue o.1)) (λ a. inr a) f

  run_over : (ls : List Lent) (w : World h.State) → Throughout (next_over h c) (Fair h c) w ls → RunOver h c w ls
  run_over [] w f = tt
  run_over (l ∷ ls) w f = (fair_over w l f.0, run_over ls (next_over h c w l) f.1)

  module _ (see : h.State → Session) where
    -- such a step is no time-out
    fair_fed : (w : World h.State) (l : Lent) → Fair h c w l → is_fed h c see w l ≡ true
    fair_fed w l f =
        ⊎_elim (λ o. some_fed (see w.state).phase w.queue (delivered l.delivery w.queue) (some_delivered l.delivery w.queue o.1))
        (λ a. rw (holds (aside (made h c w l).answer) a) (or_some (not (lacks (see w.state).phase w.queue (delivered l.delivery w.queue))))) f
      where
        some_fed : (p : Phase) (q d : List ℕ) → (0 < length q → 0 < length d) → (not (lacks p q d) || aside (made h c w l).answer) ≡ true
        some_fed p q d some =
            by_test (needs_bytes p)
            (λ n.
            by_test (eqb (length q) 0) (λ e. rw (n, e) refl)
            (λ e.
            let z : length q ≡ 0 → ⊥ = eqb-false (length q) 0 e in
            let i : 0 < length d = some (omega arith) in
            rw (n, e, ne_eqb (length d) 0 (λ j. omega arith)) refl))
            (λ n. rw n refl)

    -- so every own step counts
    fair_count : (ls : List Lent) (w : World h.State) → Throughout (next_over h c) (Fair h c) w ls → owns_fed h c see w ls ≡ owns_over h c w ls
    fair_count [] w f = refl
    fair_count (l ∷ ls) w f =
        rw (fair_fed w l f.0, fair_count ls (next_over h c w l) f.1) (ap (λ (b : Bool). one b + owns_over h c (next_over h c w l) ls) (and_fed (all_own l)))
      where
        and_fed : (b : Bool) → (b && true) ≡ b
        and_fed true = refl
        and_fed false = refl

pub in_demand_words : (h : Host) (see : h.State → Session) → Division h see → FairDivision h see
in_demand_words h see d c ls f =
    let w : World h.State = start h c in
    let a = d c ls (run_over h c ls w f) in
    let n = fair_count h c see ls w f in
    let one_way : reports_in (events h c w ls) ≡ reports_over h c w ls = in_list h c ls w in
    let other_way : reports_in (events h c w (undivided c)) ≡ reports_over h c w (undivided c) = in_list h c (undivided c) w in
    record {
      begins = (
        reports_in a.begins.0,
        sym other_way ∙ ap reports_in a.begins.1 ∙ in_append (events h c w ls) a.begins.0
            ∙ ap (λ (r : List Report). r ++ reports_in a.begins.0) one_way,
      );
      whole = λ m. sym one_way ∙ ap reports_in (a.whole (rw n m)) ∙ other_way;
      ends = λ m. a.ends (rw n m);
    }

-- ---- from one host to another

module _ (h k : Host) (R : h.State → k.State → Type 0) (fresh : (u : Opening) → R (h.fresh u) (k.fresh u))
    (step : (s : h.State) (s' : k.State) (d set names t y o : List ℕ) → R s s'
    → Alike R (h.step s d set names t y o) (k.step s' d set names t y o)) (see : h.State → Session) (see' : k.State → Session)
    (seen : (s : h.State) (s' : k.State) → R s s' → see s ≡ see' s') where
  module _ (c : Setting) where
    abbrev pub Same : World h.State → World k.State → Type 0
    Same w v = Both h k R fresh step c w v

    same_kept : (w : World h.State) (v : World k.State) (l : Lent) → Same w v → Same (next_over h c w l) (next_over k c v l)
    same_kept w v l b = let a = both_made h k R fresh step c w v l b in both_after h k R fresh step c w v l b (rw (a.taken, b.queue) refl)

    same_fair : (w : World h.State) (v : World k.State) (l : Lent) → Same w v → FairOver k c v l → FairOver h c w l
    same_fair w v l b f = let a = both_made h k R fresh step c w v l b in rw a.answer f

    same_step : (w : World h.State) (v : World k.State) (l : Lent) → Same w v → events_by h c w l ≡ events_by k c v l
    same_step w v l b = let a = both_made h k R fresh step c w v l b in rw (a.answer, a.out, b.queue) refl

    same_counts : (w : World h.State) (v : World k.State) (l : Lent) → Same w v
        → (all_own l && is_fed h c see w l) ≡ (all_own l && is_fed k c see' v l)
    same_counts w v l b = let a = both_made h k R fresh step c w v l b in rw (a.answer, b.queue, seen w.state v.state b.state) refl

    same_packet : (ls : List Lent) (w : World h.State) (v : World k.State) → Same w v → packet_ended h c see w ls ≡ packet_ended k c see' v ls
    same_packet [] w v b = refl
    same_packet (l ∷ ls) w v b =
        let x = same_kept w v l b in
        rw (seen w.state v.state b.state, seen _ _ x.state, same_packet ls (next_over h c w l) (next_over k c v l) x) refl

    same_start : Same (start h c) (start k c)
    same_start = both_start h k R fresh step c

    module _ (ls : List Lent) where
      same_events : events h c (start h c) ls ≡ events k c (start k c) ls
      same_events = outs_related (next_over h c) (next_over k c) Same same_kept (events_by h c) (events_by k c) same_step ls (start h c) (start k c) same_start

      same_owns : owns_fed h c see (start h c) ls ≡ owns_fed k c see' (start k c) ls
      same_owns =
          counted_related (next_over h c) (next_over k c) Same same_kept (λ w l. all_own l && is_fed h c see w l) (λ v l. all_own l && is_fed k c see' v l)
          same_counts ls (start h c) (start k c) same_start

      pub same_final : Same (final (next_over h c) (start h c) ls) (final (next_over k c) (start k c) ls)
      same_final = final_related (next_over h c) (next_over k c) Same same_kept ls (start h c) (start k c) same_start

      same_run : RunOver k c (start k c) ls → RunOver h c (start h c) ls
      same_run f =
          fair_related (next_over h c) (next_over k c) Same same_kept (FairOver h c) (FairOver k c) same_fair ls (start h c) (start k c) same_start f

  pub division_carried : Division h see → Division k see'
  division_carried d c ls f =
      let a = d c ls (same_run c ls f) in
      let all = same_events c (undivided c) in
      let x = same_final c ls in
      let z = same_final c (undivided c) in
      let p : Bool = packet_ended h c see (start h c) (undivided c) in
      let b : p ≡ packet_ended k c see' (start k c) (undivided c) = same_packet c (undivided c) (start h c) (start k c) (same_start c) in
      record {
        begins = (a.begins.0, sym all ∙ a.begins.1 ∙ ap (λ (r : List Event). r ++ a.begins.0) (same_events c ls));
        whole = λ m. sym (same_events c ls) ∙ a.whole (rw (same_owns c ls) m) ∙ all;
        ends =
            λ m.
            let e = a.ends (rw (same_owns c ls) m) in
            record {
              session =
                  rw (sym b) (ap (unwindowed p) (sym (seen _ _ x.state)) ∙ e.session ∙ ap (unwindowed p) (seen _ _ z.state));
              table = sym x.table ∙ e.table ∙ z.table;
              reply = sym x.reply ∙ e.reply ∙ z.reply;
              out = sym x.out ∙ e.out ∙ z.out;
              queue = sym x.queue ∙ e.queue ∙ z.queue;
            };
      }
