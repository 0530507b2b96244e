-- What document 02, request 7, claims of sessions: "A device must get identical answers and image bytes from a set and its tidy form in any session, each
-- step given all else alike, where an image starts in its set aside." Two runs of any host, in the worlds of fetch/specs/Device: they begin in one world,
-- whatever its session is (opened, made up, ended), its buffers and its queue, and each step of the list is lent the same in both, but that where the one
-- is lent its own image set, the other is lent that set's tidy form. Steps may be refused, and be lent other things. The theorem, `ServesAlike
-- definitions`, is `serves_alike` of proofs/Theorem, and through the C interface `serves_alike_raw` of two_runs_raw/proofs/Raw.
use Rattle.std.specs.Prelude.{ℕ, ◌≡◌, List, [], ◌∷◌}
use Rattle.session.specs.declared.Answer.{Answer}
use Rattle.session.specs.declared.Answer.TheVariants as A
use Rattle.steps.specs.Steps.{final, outs}
use Rattle.fetch.specs.Plain.{Report, Setting}
use Rattle.fetch.specs.Device.{Host, Given, Lent, lent, delivered, reports_for, World, made, next}
use Rattle.tidied.specs.Claim.{TidyForm}

-- ---- what is seen of a step

-- an answer, "where an image starts in its set aside", and nothing else of it (`only_start` of proofs/Aside)
abbrev pub start_aside : Answer → Answer
start_aside A.Go = A.Go
start_aside (A.Send k) = A.Send k
start_aside (A.Image x k) = A.Image 0 k
start_aside (A.Open i) = A.Open i
start_aside (A.Bytes k) = A.Bytes k
start_aside A.EmptyRead = A.EmptyRead
start_aside (A.Close i) = A.Close i
start_aside (A.Finished how r) = A.Finished how r
start_aside (A.Refused why) = A.Refused why

-- all that a step gives, its answer so: state, bytes taken, and each lent buffer as it is afterwards
abbrev pub given_aside : {S : Type 0} → Given S → Given S
given_aside r =
    record {
      state = r.state;
      taken = r.taken;
      answer = start_aside r.answer;
      table = r.table;
      reply = r.reply;
      out = r.out;
    }

-- what it gives, and what it reports: the image's bytes, the bytes sent and those handed out are among it
pub record Seen (S : Type 0) : Type 0 where
  pub given : Given S
  pub reports : List Report

-- of a delivery and an image set
abbrev pub seen_of : {S : Type 0} → List ℕ → List ℕ → Given S → Seen S
seen_of d set r = record { given = given_aside r; reports = reports_for r.answer d set r.out }

-- ---- of a list of steps

module _ (h : Host) (c : Setting) where
  abbrev pub seen : World h.State → Lent → Seen h.State
  seen w l = seen_of (delivered l.delivery w.queue) (lent l.set c.set) (made h c w l)

  -- step by step
  abbrev pub seen_in : World h.State → List Lent → List (Seen h.State)
  seen_in w ls = outs (next h c) (λ v l. seen v l ∷ []) w ls

-- the run's own image set is another, and "all else alike"
abbrev pub with_set : Setting → List ℕ → Setting
with_set c set =
    record {
      opening = c.opening;
      set = set;
      names = c.names;
      table = c.table;
      reply = c.reply;
      out = c.out;
      bytes = c.bytes;
      mem = c.mem;
    }

-- two runs from the world w: each step is seen alike, and they come to one world
pub record RunsAlike (h : Host) (c : Setting) (set : List ℕ) (w : World h.State) (ls : List Lent) : Type 0 where
  pub steps : seen_in h c w ls ≡ seen_in h (with_set c set) w ls
  pub worlds : final (next h c) w ls ≡ final (next h (with_set c set)) w ls

-- the claim: of every set that has a tidy form, "in any session", of every list of steps
abbrev pub ServesAlike : Host → Type 0
ServesAlike h = (c : Setting) (form : List ℕ) → TidyForm c.set form → (w : World h.State) (ls : List Lent) → RunsAlike h c form w ls
