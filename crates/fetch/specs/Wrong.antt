-- Wrong hosts: what a hurried port would do, and idle programs, most of them over the definitions' step. Document 01, "Lengths, modes and stems": "A
-- hurried port would err by .. requesting again after a short delivery; .. merging two regions of one filename"; "Four questions": a host that "finishes
-- (3) before dumping, or requests everything in its first step and hands out filler", "invents its memory reads" or "only says go". Demand 3 is false of
-- each, on a board of either width (`FailsOn` below; fetch_shown/proofs/Refuted, by computed runs): the statement tells them from the host that is right.
use Rattle.std.specs.Prelude.{ℕ, zero, suc, ◌+◌, ◌-◌, ◌≡◌, Bool, true, false, ◌&&◌, List, ltb, length}
use Rattle.base.specs.Choice.{pick}
use Rattle.field.specs.Field.{field_size}
use Rattle.field.specs.declared.Width.{Width}
use Rattle.entry.specs.Entry.{entry_of, filename_of}
use Rattle.selection.specs.Selection.{same, selected_at}
use Rattle.build.specs.Build.{size_of, front}
use Rattle.build.specs.declared.Request.{Request}
use Rattle.build.specs.declared.Request.TheVariants as Q
use Rattle.session.specs.declared.Region.{Region}
use Rattle.session.specs.declared.Phase.{Phase}
use Rattle.session.specs.declared.Phase.TheVariants as P
use Rattle.session.specs.declared.Session.{Session}
use Rattle.session.specs.declared.Answer.{Answer}
use Rattle.session.specs.declared.Answer.TheVariants as A
use Rattle.session.specs.Outcome.{opened_with, in_phase, ended, untouched}
use Rattle.session.specs.RegionPhase.{recounted}
use Rattle.session.specs.Step.{step_of}
use Rattle.fetch.specs.Plain.{Debug, Setting}
use Rattle.fetch.specs.Device.{Given, Host, Lent, given_of, start}
use Rattle.fetch.specs.Claim.{Run, enough, Premises, Fetched}
use Rattle.refusal.specs.declared.Refusal.TheVariants as Refusal
use Rattle.verdict.specs.declared.Finish.{Finish}

-- demand 3 is false of a host on a board of this width: a run that meets the premises, a fair list of steps, and what is claimed of it does not hold
pub record FailsOn (h : Host) (v : Width) : Type 0 where
  pub c : Setting
  pub dbg : Debug
  pub width : dbg.width ≡ v
  pub premises : Premises c dbg
  pub ls : List Lent
  pub fair : Run h c (start h c) ls
  pub unlike : Fetched h c (enough c dbg) ls → ⊥

-- ---- a host that does as the definitions' does, and then something else: f is given names and table as they were lent, and what the right step gave

abbrev pub amiss : (List ℕ → List ℕ → Given Session → Given Session) → Host
amiss f =
    record {
      State = Session;
      fresh = opened_with;
      step = λ s d set names t y o. f names t (given_of (step_of s d set names t y o));
    }

-- the same outcome with another session, another number of bytes taken and another answer
abbrev pub giving : Session → ℕ → Answer → Given Session → Given Session
giving s n a r = record { state = s; taken = n; answer = a; table = r.table; reply = r.reply; out = r.out }

abbrev pub in_session : Session → Given Session → Given Session
in_session s r = giving s r.taken r.answer r

abbrev pub answering : Answer → Given Session → Given Session
answering a r = giving r.state r.taken a r

-- by the answer: what is given where it sends, opens a region, hands out bytes, finishes; else x
abbrev pub by_answer : {X : Type 0} → X → (ℕ → X) → (ℕ → X) → (ℕ → X) → (Finish → ℕ → X) → Answer → X
by_answer x sends opens hands ends A.Go = x
by_answer x sends opens hands ends (A.Send k) = sends k
by_answer x sends opens hands ends (A.Image a k) = x
by_answer x sends opens hands ends (A.Open i) = opens i
by_answer x sends opens hands ends (A.Bytes k) = hands k
by_answer x sends opens hands ends A.EmptyRead = x
by_answer x sends opens hands ends (A.Close i) = x
by_answer x sends opens hands ends (A.Finished how n) = ends how n
by_answer x sends opens hands ends (A.Refused why) = x

abbrev pub on_send : Given Session → Given Session → Given Session
on_send x r = by_answer r (λ k. x) (λ i. r) (λ k. r) (λ how n. r) r.answer

abbrev pub on_open : (ℕ → Given Session) → Given Session → Given Session
on_open f r = by_answer r (λ k. r) f (λ k. r) (λ how n. r) r.answer

abbrev pub on_bytes : Given Session → Given Session → Given Session
on_bytes x r = by_answer r (λ k. r) (λ i. r) (λ k. x) (λ how n. r) r.answer

abbrev pub on_finished : (Finish → ℕ → Given Session) → Given Session → Given Session
on_finished f r = by_answer r (λ k. r) (λ i. r) (λ k. r) f r.answer

-- by the phase: what is given of a region, and of the table's length; else x
abbrev pub region_or : {X : Type 0} → X → (ℕ → Region → X) → Phase → X
region_or x f (P.Packet h) = x
region_or x f (P.Response y) = x
region_or x f (P.Switched k) = x
region_or x f (P.Table y) = x
region_or x f (P.Between k i) = x
region_or x f (P.Region k y) = f k y
region_or x f (P.Ended k) = x

-- ---- the region changed once bytes were handed out

abbrev pub after_bytes : (Region → Region) → Host
after_bytes f =
    amiss
    (λ names t r.
    let p = r.state.phase in
    on_bytes (in_session (in_phase r.state (region_or p (λ k x. P.Region k (f x)) p)) r) r)

-- requests again after a short delivery: what is outstanding is forgotten
abbrev pub hasty : Host
hasty = after_bytes (λ x. recounted x x.done 0 x.due)

-- skips the last empty read: none is due where the region is done
abbrev pub thrifty : Host
thrifty = after_bytes (λ x. recounted x x.done x.outstanding (x.due && ltb x.done x.len))

-- ---- merges two regions of one filename: the later one is not opened, and its bytes come as if they were of the one before

-- one of the first k entries is selected and has the filename of entry i; f is the width of an entry's numbers
unfoldable pub named_before : ℕ → List ℕ → List ℕ → ℕ → ℕ → Bool
named_before f names t zero i = false
named_before f names t (suc k) i =
    pick (selected_at f names t k && same (filename_of f (entry_of f t k)) (filename_of f (entry_of f t i))) true (named_before f names t k i)

abbrev pub merging : Host
merging = amiss (λ names t r. on_open (λ i. pick (named_before (field_size r.state.width) names t i i) (answering A.Go r) r) r)

-- ---- finishes (3) before dumping: in the place of opening a region. `count` is what it tells of its memory reads: those that it made, the right number of a
-- whole dump, or anything, by names, table and session

abbrev pub early : (List ℕ → List ℕ → Session → ℕ) → Host
early count = amiss (λ names t r. on_open (λ i. giving (ended r.state) 0 (A.Finished Finish.Dumped (count names t r.state)) r) r)

-- ---- invents its memory reads: right in all, but that it tells `count n` at the end where it made n

abbrev pub inventing : (ℕ → ℕ) → Host
inventing count = amiss (λ names t r. on_finished (λ how n. answering (A.Finished how (count n)) r) r)

-- ---- requests everything at once, and hands out filler. What a host hands out is the beginning of a delivery, so filler is bytes that came for another place

-- a region by one memory read, however long it is
abbrev pub wholesale : Host
wholesale = amiss (λ names t r. on_send (region_or r (λ k x. asking r k x (x.len - x.done)) r.state.phase) r)
  where
    asking : Given Session → ℕ → Region → ℕ → Given Session
    asking r k x n =
        record {
          state = in_phase r.state (P.Region k (recounted x x.done n false));
          taken = r.taken;
          answer = r.answer;
          table = r.table;
          reply = r.reply;
          out = front (Q.MemRead r.state.width (x.base + x.done) n) r.out;
        }

-- takes nothing of what it hands out: its next bytes are those again, as many as the region has
abbrev pub padding : Host
padding = amiss (λ names t r. on_bytes (giving r.state 0 r.answer r) r)

-- sends q in its first step, a memory read of everything or any other packet, and hands out whatever is delivered from then on, the opening bytes first
abbrev pub greedy : Request → Host
greedy q =
    record {
      -- whether q is sent
      State = Bool;
      fresh = λ u. false;
      step = λ asked d set names t y o. pick asked (given (length d) (A.Bytes (length d)) t y o) (given 0 (A.Send (size_of q)) t y (front q o));
    }
  where
    given : ℕ → Answer → List ℕ → List ℕ → List ℕ → Given Bool
    given n a t y o = record { state = true; taken = n; answer = a; table = t; reply = y; out = o }

-- ---- only says go, whatever it is lent, and takes nothing: its report is empty, which is a beginning of any report, and never the whole

abbrev pub idle : Host
idle =
    record {
      State = Session;
      fresh = opened_with;
      step = λ s d set names t y o. answering A.Go (given_of (untouched s Refusal.Ended t y o));
    }
