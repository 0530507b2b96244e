-- Region: a step keeps the invariant. One law for each branch says what is due inside a region before and after it, by splitting the memory's bytes
-- or a chunk off the front. Assumes nothing.
use mathlib.Core.Path.{◌≡◌, refl, sym, ap, ◌∙◌}
use mathlib.Core.Bool.{true, false, not, ◌&&◌, ◌||◌}
use mathlib.Core.List.{List, [], ◌∷◌, ◌++◌, map, append_assoc, append-nil, map-append}
use Prim.Native.Nat.{ℕ, zero, suc, ◌+◌, ◌-◌, ◌*◌, ◌/◌, ◌%◌, ◌^◌, ◌≤◌, ◌<◌, min}
use native.Mathlib.Omega.{arith}
use native.Mathlib.Nat.{add-zero, add_assoc}
use lib.Dec.{eqb, ltb, leb}
use lib.ListN.{length, take}
use borrow.Author.Tests.{leb-true, leb-false, eqb-true, eqb-false, eq-eqb, ne_eqb, le-ltb, lt-leb}
use Rattle.base.proofs.Ranges.{by_test}
use Rattle.field.specs.Field.{field_size}
use Rattle.field.specs.declared.Width.{Width}
use Rattle.entry.specs.Entry.{entry_size}
use Rattle.build.specs.Build.{bytes_of, size_of, front}
use Rattle.build.specs.declared.Request.{Request}
use Rattle.build.specs.declared.Request.TheVariants as Q
use Rattle.verdict.specs.Opening.{chunk_of, on_usb}
use Rattle.verdict.specs.declared.Opening.{Opening}
use Rattle.session.specs.declared.Region.{Region}
use Rattle.session.specs.declared.Phase.TheVariants as P
use Rattle.session.specs.declared.Answer.TheVariants as A
use Rattle.session.specs.Outcome.{Outcome, outcome, gives, in_phase, reading, region}
use Rattle.session.specs.RegionPhase.{emptied, due_after, next_chunk, ask_of, hand_of, region_of}
use Rattle.session.specs.Limits.{reads_limit, phase_limit}
use Rattle.steps.specs.Steps.{one}
use Rattle.fetch.specs.Plain.{Report, byte, sent, empty_read, bytes_at, Debug, Ending, chunk, chunks, chunk_count, Setting}
use Rattle.fetch.proofs.Chunk.{Chunk, most_reads, reads_within, chunk_good, chunk_some, count_none, count_step, asked_cut, handed_cut}
use Rattle.fetch.proofs.Ghost.{Ghost}
use Rattle.base.proofs.Tests.{and_true, and_false}
use Rattle.fetch.proofs.Basics.{one_le}
use Rattle.build.proofs.Laws.{take_front}
use Rattle.fetch.proofs.Sent.{length_out}
use Rattle.fetch.proofs.Device.{length_bytes_at, take_bytes_at, drop_bytes_at, bytes_at_split, served_read, no_bytes, Came, no_longer, first_of}
use Rattle.fetch.proofs.Invariant.{
  table_at,
  to_come,
  GoodRegion,
  due_region,
  bound_region,
  Kept,
  via,
  unasked,
  seam,
  in_region,
  bound_in,
  cost,
}

-- ---- the plain host's chunks

module _ (v : Width) (u : Opening) (z : Chunk (chunk_of u)) (mem : ℕ → ℕ) where
  -- enough fuel is enough
  fuel : (f g at l : ℕ) → l ≤ f → l ≤ g → chunks v u mem f at l ≡ chunks v u mem g at l
  unfolding chunks
  fuel zero zero at l h k = refl
  fuel zero (suc g) at l h k = rw (eq-eqb l 0 (omega arith)) refl
  fuel (suc f) zero at l h k = rw (eq-eqb l 0 (omega arith)) refl
  fuel (suc f) (suc g) at l h k =
      by_test (eqb l 0) (λ e. rw e refl)
      (λ e.
      let c : ℕ = min (chunk_of u) l in
      let y : 0 < chunk_of u = chunk_some u z in
      let i : l ≡ 0 → ⊥ = eqb-false l 0 e in
      rw (e, fuel f g (at + c) (l - c) (omega arith) (omega arith)) refl)

  -- one chunk off the front
  chunks_step : (at l : ℕ) → 0 < l
      → chunks v u mem l at l
      ≡ chunk v u mem at (min (chunk_of u) l) ++ chunks v u mem (l - min (chunk_of u) l) (at + min (chunk_of u) l) (l - min (chunk_of u) l)
  unfolding chunks
  chunks_step at zero h = absurd (omega arith)
  chunks_step at (suc l) h =
      let c : ℕ = min (chunk_of u) (suc l) in
      let y : 0 < chunk_of u = chunk_some u z in
      rw (ne_eqb (suc l) 0 (omega arith), fuel l (suc l - c) (at + c) (suc l - c) (omega arith) (omega arith)) refl

no_chunks : (v : Width) (u : Opening) (mem : ℕ → ℕ) (at : ℕ) → chunks v u mem 0 at 0 ≡ []
unfolding chunks
no_chunks v u mem at = refl

-- ---- an empty read is due at a chunk's end alone, as the plain host has it there

due_end : (u : Opening) (k e : ℕ) → eqb k 0 ≡ true → due_after u k e ≡ seam u e
due_end u k e z = rw z (by_test (on_usb u) (λ m. rw m refl) (λ m. rw m refl))

due_mid : (u : Opening) (k e : ℕ) → eqb k 0 ≡ false → due_after u k e ≡ false
due_mid u k e z = rw z (by_test (on_usb u) (λ m. rw m refl) (λ m. rw m refl))

due_only : (u : Opening) (k e : ℕ) → due_after u k e ≡ true → k ≡ 0
due_only u k e h = eqb-true k 0 (and_true (on_usb u) (eqb k 0) (and_true (on_usb u && eqb k 0) (eqb (e % 512) 0) h).0).1

-- ---- what is due inside a region, one law for each branch

module _ (v : Width) (u : Opening) (mem : ℕ → ℕ) (i b l e : ℕ) (y : List Report) where
  due_law : (k : ℕ) → in_region v u mem (region i b l e k true) y ≡ empty_read ∷ in_region v u mem (region i b l e k false) y
  unfolding in_region
  due_law k = refl

  close_law : l ≤ e → in_region v u mem (region i b l e 0 false) y ≡ y
  unfolding in_region
  close_law h =
      let z : l - (e + 0) ≡ 0 = omega arith in
      rw (z, no_bytes, no_chunks) refl

  ask_law : Chunk (chunk_of u) → e < l → e % 512 ≡ 0
      → in_region v u mem (region i b l e 0 false) y
      ≡ sent (bytes_of (Q.MemRead v (b + e) (min (chunk_of u) (l - e)))) ∷ in_region v u mem (region i b l e (min (chunk_of u) (l - e)) false) y
  unfolding in_region
  ask_law z h m =
      let c : ℕ = min (chunk_of u) (l - e) in
      let p : 0 < chunk_of u = chunk_some u z in
      let o : l - (e + 0) ≡ l - e = omega arith in
      let r : l - (e + c) ≡ l - e - c = omega arith in
      let s : (e + c) % 512 ≡ c % 512 = omega arith in
      rw (
        o,
        no_bytes,
        add-zero e,
        chunks_step v u z mem (b + e) (l - e) (omega arith),
        r,
        s,
        ne_eqb c 0 (omega arith),
        ← add_assoc b e c,
        append_assoc,
        append_assoc,
      )
      refl

  hand_law : (k j : ℕ) → 0 < k → j ≤ k
      → in_region v u mem (region i b l e k false) y
      ≡ map byte (bytes_at mem (b + e) j) ++ in_region v u mem (region i b l (e + j) (k - j) (due_after u (k - j) (e + j))) y
  unfolding in_region
  hand_law k j h m =
      let s : e + j + (k - j) ≡ e + k = omega arith in
      rw (s, ne_eqb k 0 (omega arith), bytes_at_split mem (b + e) k j m, map-append, append_assoc, add_assoc b e j)
      (by_test (eqb (k - j) 0)
      (λ z.
      let q : k - j ≡ 0 = eqb-true (k - j) 0 z in
      let t : e + j ≡ e + k = omega arith in
      rw (due_end u (k - j) (e + j) z, q, no_bytes, t) refl)
      (λ z. rw (due_mid u (k - j) (e + j) z, z) refl))

hand_bound : (u : Opening) (i b l e k j : ℕ) → 0 < j → j ≤ k → e + k ≤ l
    → bound_in u (region i b l (e + j) (k - j) (due_after u (k - j) (e + j))) < bound_in u (region i b l e k false)
hand_bound u i b l e k j h m y =
    let s : e + j + (k - j) ≡ e + k = omega arith in
    let o : one (seam u (e + j)) ≤ 1 = one_le (seam u (e + j)) in
    rw (s, ne_eqb k 0 (omega arith))
    (by_test (eqb (k - j) 0) (λ z. rw (due_end u (k - j) (e + j) z, z) (omega arith)) (λ z. rw (due_mid u (k - j) (e + j) z, z) (omega arith)))

-- by itself: beside the region's subtractions omega would meet too many cases
below : {i j : ℕ} (c : ℕ) → i < j → i + 2 + c ≤ j + 2 + c - 1
below c h = omega arith

module _ (c : Setting) (dbg : Debug) (en : Ending) (k : ℕ) (x : Region) (w : Ghost) (g : GoodRegion c dbg k x w) where
  -- the session's width, and what it was opened with
  abbrev v : Width
  v = w.session.width

  abbrev u : Opening
  u = w.session.opening

  good : Chunk (chunk_of u)
  good = chunk_good u

  pub limits : (reads_limit w.session || phase_limit (field_size v) w.session.window (P.Region k x) w.table w.reply) ≡ false
  limits =
      let r : w.session.reads ≤ 1 + suc x.entry * most_reads v = omega (arith, g.reads) in
      rw (
        g.declared,
        le-ltb (2 ^ 63 + 1) w.session.reads (reads_within v w.session.reads dbg.size (suc x.entry) r g.entry (omega (arith, g.fits))),
        le-ltb (length w.table) dbg.size (omega (arith, g.fits)),
        lt-leb (dbg.size / entry_size (field_size v)) x.entry g.entry,
        le-ltb x.len (x.done + x.outstanding) g.within,
        le-ltb (256 ^ field_size v) (x.base + x.len) g.top,
      )
      (and_false (not (eqb (x.done + x.outstanding) 0)))

  -- ---- a step with a delivery

  module _ (d : List ℕ) (came : Came d w.queue) where
    abbrev Keeps : Outcome → Type 0
    Keeps r = Kept c dbg en (due_region c dbg x w) (bound_region c dbg x w) w d r

    -- an empty read is due
    due_read : x.due ≡ true → Keeps (outcome (gives (in_phase w.session (P.Region k (emptied x))) 0 A.EmptyRead) w.table w.reply w.out)
    due_read e =
        record {
          good =
              record {
                out = g.out;
                declared = g.declared;
                fits = g.fits;
                table = g.table;
                queue = rw append-nil g.queue;
                width = g.width;
                entry = g.entry;
                reads = g.reads;
                named = g.named;
                within = g.within;
                top = g.top;
                cut = g.cut;
                idle = λ q. g.idle e;
              };
          told = rw e (due_law v u c.mem x.entry x.base x.len x.done _ x.outstanding);
          fell = rw e (omega arith);
        }

    -- all is handed out
    close : x.due ≡ false → x.outstanding ≡ 0 → x.len ≤ x.done
        → Keeps (outcome (gives (in_phase w.session (P.Between k (suc x.entry))) 0 (A.Close x.entry)) w.table w.reply w.out)
    close e z h =
        let m : unasked x ≡ 0 = omega arith in
        let o : chunk_count u 0 ≡ 0 = count_none u good in
        record {
          good =
              record {
                out = g.out;
                declared = g.declared;
                fits = g.fits;
                table = g.table;
                queue = rw append-nil (g.queue ∙ rw z (no_bytes c.mem _));
                width = g.width;
                entry = omega (arith, g.entry);
                reads = omega (arith, g.reads);
              };
          told = rw (m, o, e, z, close_law v u c.mem x.entry x.base x.len x.done _ h, add-zero w.session.reads) refl;
          fell = omega arith;
        }

    -- the next chunk's size
    abbrev size : ℕ
    size = min (chunk_of u) (x.len - x.done)

    -- the memory read of it
    abbrev p : Request
    p = Q.MemRead v (x.base + x.done) size

    -- the next chunk is asked for
    ask : x.due ≡ false → x.outstanding ≡ 0 → x.done < x.len
        → Keeps
        (outcome
        (gives (reading w.session (suc w.session.reads) (P.Region k (region x.entry x.base x.len x.done size false))) 0
        (A.Send (size_of p)))
        w.table w.reply (front p w.out))
    ask e z h =
        let st : take (size_of p) (front p w.out) ≡ bytes_of p = take_front p w.out in
        let q : w.queue ≡ [] = g.queue ∙ rw z (no_bytes c.mem _) in
        let m : x.done % 512 ≡ 0 = omega (arith, g.cut (omega arith)) in
        let y : 0 < chunk_of u = chunk_some u good in
        let r : chunk_count u (unasked x) ≡ suc (chunk_count u (x.len - (x.done + size))) =
        let i : unasked x ≡ x.len - x.done = omega arith in
        let j : x.len - (x.done + size) ≡ x.len - x.done - size = omega arith in
        rw (i, j) (count_step u good (x.len - x.done) (omega arith)) in
        let f : w.session.reads + chunk_count u (unasked x) ≡ suc w.session.reads + chunk_count u (x.len - (x.done + size)) = omega arith in
        record {
          good =
              record {
                out = rw (length_out p w.out g.out) g.out;
                declared = g.declared;
                fits = g.fits;
                table = g.table;
                queue = rw (q, st) (served_read c.mem v (x.base + x.done) size (omega (arith, g.top)) (omega (arith, good.most)));
                width = g.width;
                entry = g.entry;
                reads = rw (sym f) g.reads;
                named = g.named;
                within = omega arith;
                top = g.top;
                cut = asked_cut u x g.cut z h;
                idle = λ i. cc;
              };
          told = rw (f, e, z, st) (ask_law v u c.mem x.entry x.base x.len x.done _ good h m);
          fell = rw (r, e, z, ne_eqb size 0 (omega arith)) (omega arith);
        }

    -- the bytes that a step hands out
    abbrev j : ℕ
    j = min x.outstanding (length d)

    -- bytes are handed out
    hand : x.due ≡ false → (x.outstanding ≡ 0 → ⊥) → 0 < length d → length d ≤ x.outstanding
        → Keeps
        (outcome
        (gives
        (in_phase w.session
        (P.Region k
        (region x.entry x.base x.len (x.done + j) (x.outstanding - j) (due_after u (x.outstanding - j) (x.done + j)))))
        j (A.Bytes j))
        w.table w.reply w.out)
    hand e z y m =
        let r : x.done + j + (x.outstanding - j) ≡ x.done + x.outstanding = omega arith in
        let b : take j d ≡ bytes_at c.mem (x.base + x.done) j =
        first_of d w.queue j came (omega arith) ∙ ap (take j) g.queue ∙ take_bytes_at c.mem _ x.outstanding j (omega arith) in
        record {
          good =
              record {
                out = g.out;
                declared = g.declared;
                fits = g.fits;
                table = g.table;
                queue = rw (append-nil, g.queue, drop_bytes_at c.mem (x.base + x.done) x.outstanding j (omega arith), add_assoc) refl;
                width = g.width;
                entry = g.entry;
                reads = rw r g.reads;
                named = g.named;
                within = rw r g.within;
                top = g.top;
                cut = handed_cut x j g.cut (omega arith);
                idle = due_only u (x.outstanding - j) (x.done + j);
              };
          told = rw (e, b, r) (hand_law v u c.mem x.entry x.base x.len x.done _ x.outstanding j (omega arith) (omega arith));
          fell =
              rw e
              (below (cost v u (table_at c dbg) (to_come c dbg v (suc x.entry)))
              (hand_bound u x.entry x.base x.len x.done x.outstanding j (omega arith) (omega arith) g.within));
        }

    next : x.due ≡ false → x.outstanding ≡ 0 → Keeps (next_chunk w.session k x w.table w.reply w.out)
    unfolding next_chunk
    next e z =
        by_test (leb x.len x.done) (λ m. via c dbg en (rw m refl) (close e z (leb-true _ _ m)))
        (λ m. via c dbg en (rw m refl) (ask e z (leb-false _ _ m)))

    asked : x.due ≡ false → x.outstanding ≡ 0 → Keeps (ask_of w.session k x w.table w.reply w.out)
    unfolding ask_of
    asked e z =
        let t : ltb (256 ^ field_size v) (x.base + x.len) ≡ false = le-ltb (256 ^ field_size v) (x.base + x.len) g.top in
        by_test (eqb x.done 0) (λ m. via c dbg en (rw (m, g.named, t) refl) (next e z)) (λ m. via c dbg en (rw m refl) (next e z))

    handed : x.due ≡ false → (x.outstanding ≡ 0 → ⊥) → Keeps (hand_of w.session k x d w.table w.reply w.out)
    unfolding hand_of
    handed e z =
        let q : length w.queue ≡ x.outstanding = ap length g.queue ∙ length_bytes_at c.mem _ x.outstanding in
        let y : 0 < length d = came.some (omega arith) in
        via c dbg en (rw (ne_eqb (length d) 0 (omega arith)) refl) (hand e z y (omega (arith, no_longer d w.queue came)))

    pub region_kept : Keeps (region_of w.session k x d w.table w.reply w.out)
    unfolding region_of
    region_kept =
        by_test x.due (λ e. via c dbg en (rw e refl) (due_read e))
        (λ e.
        by_test (eqb x.outstanding 0) (λ z. via c dbg en (rw (e, z) refl) (asked e (eqb-true x.outstanding 0 z)))
        (λ z. via c dbg en (rw (e, z) refl) (handed e (eqb-false x.outstanding 0 z))))
