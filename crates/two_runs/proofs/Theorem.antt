-- Two runs that are lent the same but for the image set are alike, where every step is: by the law of related machines, the worlds being the same. So with
-- two sets of one shape that agree on what is read, and so with a set and its tidy form (specs/Claim). Assumes nothing.
use mathlib.Core.Path.{◌≡◌, refl, sym, ap, ◌∙◌}
use mathlib.Core.Bool.{true}
use mathlib.Core.List.{List, [], ◌∷◌, ◌++◌}
use mathlib.Core.Option.{Option, none, some}
use Prim.Native.Nat.{ℕ}
use Rattle.bundle.specs.Bundle.{well_formed, count_of}
use Rattle.bundle.specs.Content.{Content, content_of}
use Rattle.image.specs.Image.{slot_for}
use Rattle.packet.specs.Packet.{decode_of}
use Rattle.session.specs.declared.Session.{Session}
use Rattle.session.specs.declared.Answer.{Answer}
use Rattle.session.specs.declared.Answer.TheVariants as A
use Rattle.steps.specs.Steps.{Throughout}
use Rattle.steps.proofs.Steps.{outs_while, final_while, always}
use Rattle.fetch.specs.Plain.{Setting}
use Rattle.fetch.specs.Device.{Host, definitions, Thing, own, other, Lent, lent, delivered, kept, left, queued, World, made, next}
use Rattle.tidied.specs.Claim.{TidyForm}
use Rattle.tidied.specs.Tidy.{tidy_bytes}
use Rattle.tidied.proofs.Theorem.{Given as Formed, given, form_formed, form_count, form_same}
use Rattle.two_runs.specs.Claim.{start_aside, Seen, seen_of, seen, with_set, RunsAlike, ServesAlike}
use Rattle.two_runs.specs.Alike.{shape_in, SameShape, ImageRead, read_in, covered_in, covered, covered_of, Agree}
use Rattle.two_runs.proofs.Step.{step_alike}

-- ---- the law of two runs, of any host

-- an image queues nothing, wherever it starts
queued_aside : (mem : ℕ → ℕ) (a : Answer) (o : List ℕ) → queued mem a o ≡ queued mem (start_aside a) o
queued_aside mem A.Go o = refl
queued_aside mem (A.Send k) o = refl
queued_aside mem (A.Image x k) o = refl
queued_aside mem (A.Open i) o = refl
queued_aside mem (A.Bytes k) o = refl
queued_aside mem A.EmptyRead o = refl
queued_aside mem (A.Close i) o = refl
queued_aside mem (A.Finished how r) o = refl
queued_aside mem (A.Refused why) o = refl

module _ (h : Host) (c : Setting) (b : List ℕ) (P : World h.State → Lent → Type 0)
    (alike : (w : World h.State) (l : Lent) → P w l → seen h c w l ≡ seen h (with_set c b) w l) where
  -- the world after a step, by what is seen of it
  abbrev after : World h.State → Lent → Seen h.State → World h.State
  after w l x =
      let r = x.given in
      record {
        state = r.state;
        table = kept l.table w.table r.table;
        reply = kept l.reply w.reply r.reply;
        out = kept l.out w.out r.out;
        queue = left l.delivery r.taken w.queue ++ queued c.mem r.answer r.out;
      }

  after_seen : (set : List ℕ) (w : World h.State) (l : Lent) → next h (with_set c set) w l ≡ after w l (seen h (with_set c set) w l)
  after_seen set w l =
      let r = made h (with_set c set) w l in
      ap
      (λ (q : List ℕ).
      record {
        state = r.state;
        table = kept l.table w.table r.table;
        reply = kept l.reply w.reply r.reply;
        out = kept l.out w.out r.out;
        queue = left l.delivery r.taken w.queue ++ q;
      })
      (queued_aside c.mem r.answer r.out)

  next_alike : (w v : World h.State) (l : Lent) → P w l → w ≡ v → next h c w l ≡ next h (with_set c b) v l
  next_alike w v l p e =
      after_seen c.set w l
      ∙ ap (after w l) (alike w l p)
      ∙ sym (after_seen b w l)
      ∙ ap (λ (u : World h.State). next h (with_set c b) u l) e

  seen_alike : (w v : World h.State) (l : Lent) → P w l → w ≡ v
      → ◌≡◌ {A = List (Seen h.State)} (seen h c w l ∷ []) (seen h (with_set c b) v l ∷ [])
  seen_alike w v l p e =
      ap (λ (x : Seen h.State). x ∷ []) (alike w l p ∙ ap (λ (u : World h.State). seen h (with_set c b) u l) e)

  pub two_runs : (w : World h.State) (ls : List Lent) → Throughout (next h c) P w ls → RunsAlike h c b w ls
  two_runs w ls p =
      record {
        steps =
            outs_while (next h c) (next h (with_set c b)) P ◌≡◌ next_alike (λ v l. seen h c v l ∷ []) (λ v l. seen h (with_set c b) v l ∷ []) seen_alike ls w w p
            refl;
        worlds = final_while (next h c) (next h (with_set c b)) P ◌≡◌ next_alike ls w w p refl;
      }

-- a step that is lent another set is the same in both runs; so what is left is one lent the run's own
module _ (h : Host) (c : Setting) (b : List ℕ) (w : World h.State) (l : Lent) where
  -- what is seen where a set is lent
  abbrev pub seen_with : List ℕ → Seen h.State
  seen_with set =
      let d = delivered l.delivery w.queue in
      seen_of d set
      (h.step w.state d set (lent l.names c.names) (lent l.table w.table) (lent l.reply w.reply) (lent l.out w.out))

  pub lent_alike : (l.set ≡ own → seen_with c.set ≡ seen_with b) → seen h c w l ≡ seen h (with_set c b) w l
  lent_alike e = by l.set refl
    where
      by : (x : Thing) → l.set ≡ x → seen_with (lent x c.set) ≡ seen_with (lent x b)
      by own q = e q
      by (other z) q = refl

-- ---- of the definitions' host: sets of one shape that agree on what is read

pub runs_alike : (c : Setting) (b : List ℕ) → well_formed true c.set ≡ true → well_formed true b ≡ true → SameShape c.set b
    → (w : World Session) (ls : List Lent) → Throughout (next definitions c) (Agree c b) w ls → RunsAlike definitions c b w ls
runs_alike c b wa wb same w ls p =
    two_runs definitions c b (Agree c b)
    (λ v l a.
    lent_alike definitions c b v l
    (λ q.
    step_alike c.set b wa wb same v.state (delivered l.delivery v.queue) (lent l.names c.names) (lent l.table v.table)
    (lent l.reply v.reply) (lent l.out v.out) (a q)))
    w ls p

-- ---- a set and its tidy form: the same contents

module _ (a b : List ℕ) (counts : count_of a ≡ count_of b) (contents : (i : ℕ) → content_of a i ≡ content_of b i) where
  same_shape : SameShape a b
  same_shape = record { counts = counts; slots = λ i. ap shape_in (contents i) }

  covered_same : (r : Option ImageRead) → covered a r ≡ covered b r
  covered_same none = refl
  covered_same (some r) =
      ap (λ (x : Content). covered_in x r.offset r.len) (contents (slot_for (count_of a) r.id))
      ∙ ap (λ (n : ℕ). covered_in (content_of b (slot_for n r.id)) r.offset r.len) counts

  covered_all : (p : List ℕ) → covered_of a p ≡ covered_of b p
  unfolding covered_of
  covered_all p = covered_same (read_in (decode_of p))

-- every step is seen alike
pub tidy_alike : (set form : List ℕ) → TidyForm set form → (s : Session) (d names t y o : List ℕ)
    → seen_of d set (definitions.step s d set names t y o) ≡ seen_of d form (definitions.step s d form names t y o)
tidy_alike set form f s d names t y o =
    let g : Formed set form = given set form f in
    let w = form_formed set g.good g.little in
    let n = sym (form_count set g.good g.little) in
    let x : (i : ℕ) → content_of set i ≡ content_of (tidy_bytes set) i = λ i. sym (form_same set g.good g.little i) in
    rw
    g.is
    (step_alike set (tidy_bytes set) g.good w (same_shape set (tidy_bytes set) n x) s d names t y o (λ p j. covered_all set (tidy_bytes set) n x p))

-- and so every run, of each host whose every step is
pub alike_served : (h : Host)
    → ((set form : List ℕ) → TidyForm set form → (s : h.State) (d names t y o : List ℕ)
    → seen_of d set (h.step s d set names t y o) ≡ seen_of d form (h.step s d form names t y o))
    → ServesAlike h
alike_served h step c form f w ls =
    two_runs h c form (λ v l. Unit)
    (λ v l a.
    lent_alike h c form v l
    (λ q.
    step c.set form f v.state (delivered l.delivery v.queue) (lent l.names c.names) (lent l.table v.table)
    (lent l.reply v.reply) (lent l.out v.out)))
    w ls (always (next h c) (λ v l. Unit) (λ v l. tt) ls w)

-- document 02, request 7
pub serves_alike : ServesAlike definitions
serves_alike = alike_served definitions tidy_alike
