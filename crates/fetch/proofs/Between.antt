-- Between regions: a step keeps the invariant. The search for the next selected entry, over the table buffer, finds the first of the plain host's
-- chosen ones, by induction on the entries left. Assumes nothing.
use mathlib.Core.Path.{◌≡◌, refl, sym, ap, ◌∙◌}
use mathlib.Core.Bool.{true, false, ◌||◌}
use mathlib.Core.List.{List, [], ◌∷◌, ◌++◌, append-nil}
use Prim.Native.Nat.{ℕ, zero, suc, ◌+◌, ◌-◌, ◌*◌, ◌/◌, ◌^◌, ◌≤◌, ◌<◌}
use native.Mathlib.Omega.{arith}
use native.Mathlib.Nat.{add-zero, sub-zero}
use lib.Dec.{ltb}
use lib.ListN.{length, take}
use borrow.Author.Tests.{ltb-true, ltb-false, le-ltb, le-leb}
use Rattle.base.proofs.Ranges.{by_test}
use Rattle.field.specs.Field.{field_size}
use Rattle.field.specs.declared.Width.{Width}
use Rattle.entry.specs.Entry.{entry_size, entry_of, base_of, length_of, filename_of, there}
use Rattle.entry.proofs.Laws.{entry_of_take}
use Rattle.filename.specs.Filename.{open_check}
use Rattle.filename.proofs.Laws.{sound_open, sound_after_open}
use Rattle.selection.specs.Selection.{selected, selected_at, next_of}
use Rattle.verdict.specs.declared.Opening.{Opening}
use Rattle.session.specs.declared.Phase.TheVariants as P
use Rattle.session.specs.declared.Answer.TheVariants as A
use Rattle.session.specs.Outcome.{Outcome, outcome, gives, in_phase, ended, region}
use Rattle.session.specs.BetweenPhase.{between_of}
use Rattle.session.specs.Limits.{reads_limit, phase_limit}
use Rattle.fetch.specs.Plain.{Report, opened, closed, finished, Debug, field_in, Ending, chunks, chunk_count, chosen, regions, Setting}
use Rattle.fetch.specs.Claim.{Dumpable, region_bytes, region_reads}
use Rattle.fetch.proofs.Basics.{entry_end}
use Rattle.fetch.proofs.Chunk.{most_reads, reads_more, reads_within, chunk_good, count_most}
use Rattle.fetch.proofs.Ghost.{Ghost}
use Rattle.fetch.proofs.Device.{no_bytes}
use Rattle.fetch.proofs.Invariant.{table_at, to_come, GoodBetween, due_between, bound_between, Kept, via, in_region, bound_in, cost}
use Rattle.refusal.specs.Refusal.{accepted}
use Rattle.verdict.specs.declared.Finish.TheVariants as Finish

-- ---- a table t and a buffer b that begins with it: the entries of t are those of b. f is the width of an entry's numbers

module _ (f : ℕ) (b t : List ℕ) (n : ℕ) (e : take n b ≡ t) (l : n ≤ length b) where
  -- an entry's end
  ends : (i : ℕ) → i < n / entry_size f → entry_size f * (i + 1) ≤ n
  ends i h = entry_end f n i h

  pub entry_same : (i : ℕ) → i < n / entry_size f → entry_of f b i ≡ entry_of f t i
  entry_same i h = sym (entry_of_take f b i n (ends i h)) ∙ ap (λ (x : List ℕ). entry_of f x i) e

  entry_there : (i : ℕ) → i < n / entry_size f → there f b i ≡ true
  entry_there i h = le-leb (entry_size f * (i + 1)) (length b) (omega (arith, ends i h))

  selected_same : (names : List ℕ) (i : ℕ) → i < n / entry_size f → selected_at f names b i ≡ selected f names (entry_of f t i)
  selected_same names i h = rw (entry_there i h, entry_same i h) refl

  -- the search stops at the first of the chosen ones
  pub record Hit (names : List ℕ) (k i : ℕ) : Type 0 where
    pub first : chosen f names t k i ≡ next_of f names b k i ∷ chosen f names t (i + k - suc (next_of f names b k i)) (suc (next_of f names b k i))
    pub later : i ≤ next_of f names b k i
    pub chose : selected f names (entry_of f t (next_of f names b k i)) ≡ true

  module _ (names : List ℕ) (k i : ℕ) (h : i < n / entry_size f) where
    next_yes : selected f names (entry_of f t i) ≡ true → next_of f names b (suc k) i ≡ i
    unfolding next_of
    next_yes s = rw (selected_same names i h, s) refl

    next_no : selected f names (entry_of f t i) ≡ false → next_of f names b (suc k) i ≡ next_of f names b k (suc i)
    unfolding next_of
    next_no s = rw (selected_same names i h, s) refl

    chosen_yes : selected f names (entry_of f t i) ≡ true → chosen f names t (suc k) i ≡ i ∷ chosen f names t k (suc i)
    unfolding chosen
    chosen_yes s = rw s refl

    chosen_no : selected f names (entry_of f t i) ≡ false → chosen f names t (suc k) i ≡ chosen f names t k (suc i)
    unfolding chosen
    chosen_no s = rw s refl

  next_end : (names : List ℕ) (i : ℕ) → next_of f names b 0 i ≡ i
  unfolding next_of
  next_end names i = refl

  chosen_end : (names : List ℕ) (i : ℕ) → chosen f names t 0 i ≡ []
  unfolding chosen
  chosen_end names i = refl

  pub hit : (names : List ℕ) (k i : ℕ) → i + k ≤ n / entry_size f → next_of f names b k i < i + k → Hit names k i
  hit names zero i m h = absurd (omega (arith, next_end names i))
  hit names (suc k) i m h =
      let j : i < n / entry_size f = omega arith in
      by_test (selected f names (entry_of f t i))
      (λ s.
      let r : i + suc k - suc i ≡ k = omega arith in
      record {
        first = rw (chosen_yes names k i j s, next_yes names k i j s, r) refl;
        later = omega (arith, next_yes names k i j s);
        chose = rw (next_yes names k i j s) s;
      })
      (λ s.
      let r : i + suc k ≡ suc i + k = omega arith in
      let q : next_of f names b k (suc i) < suc i + k = rw (next_no names k i j s, r) at h in
      let y : Hit names k (suc i) = hit names k (suc i) (omega arith) q in
      record {
        first = rw (chosen_no names k i j s, next_no names k i j s, r) y.first;
        later = omega (arith, next_no names k i j s, y.later);
        chose = rw (next_no names k i j s) y.chose;
      })

  -- where it finds none, none is chosen
  pub miss : (names : List ℕ) (k i : ℕ) → i + k ≤ n / entry_size f → i + k ≤ next_of f names b k i → chosen f names t k i ≡ []
  miss names zero i m h = chosen_end names i
  miss names (suc k) i m h =
      let j : i < n / entry_size f = omega arith in
      by_test (selected f names (entry_of f t i)) (λ s. absurd (omega (arith, next_yes names k i j s)))
      (λ s. chosen_no names k i j s ∙ miss names k (suc i) (omega arith) (omega (arith, next_no names k i j s)))

-- ---- the laws of the plain host's regions

module _ (v : Width) (u : Opening) where
  abbrev length_at : List ℕ → ℕ → ℕ
  length_at t i = length_of (field_size v) (entry_of (field_size v) t i)

  module _ (mem : ℕ → ℕ) where
    regions_cons : (t : List ℕ) (i : ℕ) (is : List ℕ) (r : ℕ)
        → regions v u mem t (i ∷ is) r
        ≡ opened i
        ∷ (chunks v u mem (length_at t i) (base_of (field_size v) (entry_of (field_size v) t i)) (length_at t i)
        ++ (closed i ∷ regions v u mem t is (r + chunk_count u (length_at t i))))
    unfolding regions
    regions_cons t i is r = refl

    regions_end : (t : List ℕ) (r : ℕ) → regions v u mem t [] r ≡ finished Finish.Dumped r ∷ []
    unfolding regions
    regions_end t r = refl

    open_law : (i b l : ℕ) (y : List Report) → in_region v u mem (region i b l 0 0 false) y ≡ chunks v u mem l b l ++ y
    unfolding in_region
    open_law i b l y = rw (no_bytes, sub-zero l, add-zero b) refl

  cost_cons : (t : List ℕ) (i : ℕ) (is : List ℕ)
      → cost v u t (i ∷ is) ≡ bound_in u (region i 0 (length_at t i) 0 0 false) + 2 + cost v u t is
  unfolding cost region_bytes region_reads
  cost_cons t i is = rw sub-zero (omega arith)

-- the premise on the selected regions, their numbers of f bytes; and of the memory debug's width
abbrev SafeOf : Setting → Debug → ℕ → Type 0
SafeOf c dbg f =
    (i : ℕ) → i < dbg.size / entry_size f → selected f c.names (entry_of f (table_at c dbg) i) ≡ true → Dumpable f (entry_of f (table_at c dbg) i)

abbrev pub Safe : Setting → Debug → Type 0
Safe c dbg = SafeOf c dbg (field_in dbg)

module _ (c : Setting) (dbg : Debug) (en : Ending) (k i : ℕ) (w : Ghost) (g : GoodBetween c dbg k i w) where
  -- the session's width, and the bytes of its numbers
  abbrev v : Width
  v = w.session.width

  abbrev f : ℕ
  f = field_size v

  pub limits : (reads_limit w.session || phase_limit f w.session.window (P.Between k i) w.table w.reply) ≡ false
  limits =
      rw (
        g.declared,
        le-ltb (2 ^ 63 + 1) w.session.reads (reads_within v w.session.reads dbg.size i g.reads g.entry (omega (arith, g.fits))),
        le-ltb (length w.table) dbg.size (omega (arith, g.fits)),
        le-ltb (dbg.size / entry_size f) i g.entry,
      )
      refl

  -- ---- a step: it takes nothing of its delivery

  module _ (d : List ℕ) (safe : Safe c dbg) where
    abbrev Keeps : Outcome → Type 0
    Keeps r = Kept c dbg en (due_between c dbg i w) (bound_between c dbg i w) w d r

    abbrev t : List ℕ
    t = table_at c dbg

    abbrev left : ℕ
    left = dbg.size / entry_size f - i

    abbrev found : ℕ
    found = next_of f c.names w.table left i

    abbrev e : List ℕ
    e = entry_of f t found

    room_for : dbg.size ≤ length w.table
    room_for = omega (arith, g.fits)

    entries : i + left ≡ dbg.size / entry_size f
    entries = omega (arith, g.entry)

    here : found < dbg.size / entry_size f → Hit f w.table t dbg.size g.table room_for c.names left i
    here h = hit f w.table t dbg.size g.table room_for c.names left i (omega (arith, entries)) (rw entries h)

    allowed : SafeOf c dbg f
    allowed = rw g.width safe

    -- a selected entry is opened
    enter : found < dbg.size / entry_size f
        → Keeps
        (outcome (gives (in_phase w.session (P.Region dbg.size (region found (base_of f e) (length_of f e) 0 0 false))) 0 (A.Open found))
        w.table w.reply w.out)
    enter h =
        let q : to_come c dbg v i ≡ found ∷ to_come c dbg v (suc found) = rw entries at (here h).first in
        let y : Dumpable f e = allowed found h (here h).chose in
        let u : Opening = w.session.opening in
        let m : chunk_count u (length_of f e) ≤ most_reads v = count_most u (chunk_good u) v (length_of f e) (omega (arith, y.top)) in
        record {
          good =
              record {
                out = g.out;
                declared = refl;
                fits = g.fits;
                table = g.table;
                queue = rw (append-nil, no_bytes) g.queue;
                width = g.width;
                entry = h;
                reads = rw (sub-zero (length_of f e)) (reads_more v w.session.reads (chunk_count u (length_of f e)) i found g.reads m (here h).later);
                named = rw (entry_same f w.table t dbg.size g.table room_for found h) (sound_after_open (filename_of f e) y.named);
                within = omega arith;
                top = y.top;
                cut = λ p. refl;
                idle = λ p. refl;
              };
          told = rw (q, open_law, sub-zero (length_of f e)) (regions_cons v w.session.opening c.mem t found _ _);
          fell = rw (q, cost_cons) (omega arith);
        }

    -- none is left
    finish : dbg.size / entry_size f ≤ found
        → Keeps (outcome (gives (ended w.session) 0 (A.Finished Finish.Dumped w.session.reads)) w.table w.reply w.out)
    finish h =
        let q : to_come c dbg v i ≡ [] =
        miss f w.table t dbg.size g.table room_for c.names left i (omega (arith, entries)) (rw entries h) in
        record { good = g.out; told = rw q (regions_end v w.session.opening c.mem t _); fell = omega arith }

    pub between : Keeps (outcome (between_of f w.session k i c.names w.table) w.table w.reply w.out)
    unfolding between_of
    between =
        by_test (ltb found (dbg.size / entry_size f))
        (λ m.
        let h : found < dbg.size / entry_size f = ltb-true _ _ m in
        let q : entry_of f w.table found ≡ e = entry_same f w.table t dbg.size g.table room_for found h in
        let y : open_check (filename_of f e) ≡ accepted = sound_open (filename_of f e) (allowed found h (here h).chose).named in
        via c dbg en (rw (g.declared, m, q, y) refl) (enter h))
        (λ m. via c dbg en (rw (g.declared, m) refl) (finish (ltb-false _ _ m)))
