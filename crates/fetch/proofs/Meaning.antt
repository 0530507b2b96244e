-- What the plain host's report says, by induction on its chunks, its regions and its opening bytes: the selected regions in table order, byte for byte as
-- the memory holds them, then the end with the number of memory reads sent: one for the table and one a chunk. Assumes nothing.
use mathlib.Core.Path.{◌≡◌, refl, sym, ap, ◌∙◌}
use mathlib.Core.Bool.{Bool, true, false, not}
use mathlib.Core.List.{List, [], ◌∷◌, ◌++◌, map, append_assoc, append-nil, map-append}
use Prim.Native.Nat.{ℕ, zero, suc, ◌+◌, ◌-◌, ◌≤◌, ◌<◌, min}
use native.Mathlib.Omega.{arith}
use native.Mathlib.Nat.{add-zero, add_assoc}
use lib.Dec.{eqb, ltb}
use lib.ListN.{length, take, drop}
use borrow.Author.Tests.{eqb-true, eqb-false}
use Rattle.base.proofs.Ranges.{by_test}
use Rattle.bundle.specs.Bundle.{well_formed}
use Rattle.field.specs.Field.{field_size}
use Rattle.field.specs.declared.Width.{Width}
use Rattle.entry.specs.Entry.{entry_of, base_of, length_of}
use Rattle.packet.specs.Packet.{length_field, bad_length}
use Rattle.build.specs.Build.{bytes_of}
use Rattle.build.specs.declared.Request.{Request}
use Rattle.build.specs.declared.Request.TheVariants as Q
use Rattle.verdict.specs.Opening.{chunk_of}
use Rattle.verdict.specs.Verdict.{verdict_of}
use Rattle.verdict.specs.declared.Opening.{Opening}
use Rattle.verdict.specs.declared.Verdict.{Verdict}
use Rattle.verdict.specs.declared.Verdict.TheVariants as W
use Rattle.fetch.specs.Plain.{
  Report,
  sent,
  image,
  opened,
  byte,
  empty_read,
  closed,
  finished,
  bytes_at,
  Debug,
  Debugged,
  hear,
  hosted,
  empty_if,
  empty_after,
  chunk,
  chunks,
  chunk_count,
  regions,
  table_in,
  selected_in,
  dump,
  reports_of,
  Setting,
  heard_of,
  plain,
}
use Rattle.fetch.specs.Claim.{region_reads}
use Rattle.fetch.specs.Meaning.{read_in, how_many, reads_in, shown, regions_in, Meant}
use Rattle.fetch.proofs.Sent.{asks, asks_read, many_append, reads_bytes, reads_empty_lem}
use Rattle.fetch.proofs.Device.{no_bytes, bytes_at_split}
use Rattle.fetch.proofs.Chunk.{Chunk, chunk_good, chunk_some, count_none, count_step}
use Rattle.fetch.proofs.Verdict.{sane}
use Rattle.fetch.proofs.Cutting.{never, no_response}
use Rattle.std.specs.Prelude.{Result, Ok, Err}
use Rattle.refusal.specs.declared.Refusal.{Refusal}
use Rattle.verdict.specs.declared.Finish.TheVariants as Finish

shown_append : (l m : List Report) → shown (l ++ m) ≡ shown l ++ shown m
unfolding shown
shown_append [] m = refl
shown_append (sent p ∷ l) m = shown_append l m
shown_append (image p ∷ l) m = shown_append l m
shown_append (opened i ∷ l) m = ap (λ (r : List Report). opened i ∷ r) (shown_append l m)
shown_append (byte b ∷ l) m = ap (λ (r : List Report). byte b ∷ r) (shown_append l m)
shown_append (empty_read ∷ l) m = shown_append l m
shown_append (closed i ∷ l) m = ap (λ (r : List Report). closed i ∷ r) (shown_append l m)
shown_append (finished how k ∷ l) m = ap (λ (r : List Report). finished how k ∷ r) (shown_append l m)

shown_bytes : (l : List ℕ) → shown (map byte l) ≡ map byte l
unfolding shown
shown_bytes [] = refl
shown_bytes (b ∷ l) = ap (λ (r : List Report). byte b ∷ r) (shown_bytes l)

shown_empty : (b : Bool) → shown (empty_if b) ≡ []
unfolding shown
shown_empty true = refl
shown_empty false = refl

-- ---- one chunk, and the chunks of a region: its bytes, and a memory read each

module _ (v : Width) (u : Opening) (z : Chunk (chunk_of u)) (mem : ℕ → ℕ) where
  chunk_shown : (at n : ℕ) → shown (chunk v u mem at n) ≡ map byte (bytes_at mem at n)
  unfolding shown
  chunk_shown at n =
      let t : Bool = empty_after u n in
      shown_append (map byte (bytes_at mem at n)) (empty_if t)
      ∙ rw (shown_bytes (bytes_at mem at n), shown_empty t) (append-nil (map byte (bytes_at mem at n)))

  chunk_reads : (at n : ℕ) → reads_in (chunk v u mem at n) ≡ 1
  unfolding how_many
  chunk_reads at n =
      let t : Bool = empty_after u n in
      rw (
        asks_read,
        many_append read_in (map byte (bytes_at mem at n)) (empty_if t),
        reads_bytes (bytes_at mem at n),
        reads_empty_lem t,
      )
      refl

  chunks_shown : (f at l : ℕ) → l ≤ f → shown (chunks v u mem f at l) ≡ map byte (bytes_at mem at l)
  unfolding shown chunks
  chunks_shown zero at l h = let i : l ≡ 0 = omega arith in rw (i, no_bytes mem at) refl
  chunks_shown (suc f) at l h =
      by_test (eqb l 0) (λ e. let i : l ≡ 0 = eqb-true _ _ e in rw (e, i, no_bytes mem at) refl)
      (λ e.
      let n : ℕ = min (chunk_of u) l in
      let y : 0 < chunk_of u = chunk_some u z in
      let i : l ≡ 0 → ⊥ = eqb-false _ _ e in
      rw (
        e,
        shown_append (chunk v u mem at n),
        chunk_shown at n,
        chunks_shown f (at + n) (l - n) (omega arith),
        bytes_at_split mem at l n (omega arith),
        map-append,
      )
      refl)

  chunks_reads : (f at l : ℕ) → l ≤ f → reads_in (chunks v u mem f at l) ≡ chunk_count u l
  unfolding how_many chunks
  chunks_reads zero at l h = let i : l ≡ 0 = omega arith in rw i (sym (count_none u z))
  chunks_reads (suc f) at l h =
      by_test (eqb l 0) (λ e. let i : l ≡ 0 = eqb-true _ _ e in rw (e, i) (sym (count_none u z)))
      (λ e.
      let n : ℕ = min (chunk_of u) l in
      let y : 0 < chunk_of u = chunk_some u z in
      let i : l ≡ 0 → ⊥ = eqb-false _ _ e in
      rw (e, many_append read_in (chunk v u mem at n), chunk_reads at n, chunks_reads f (at + n) (l - n) (omega arith))
      (omega (arith, count_step u z l (omega arith))))

-- ---- the regions

module _ (v : Width) (u : Opening) (z : Chunk (chunk_of u)) (mem : ℕ → ℕ) (t : List ℕ) where
  abbrev f : ℕ
  f = field_size v

  regions_shown : (is : List ℕ) (r : ℕ) → shown (regions v u mem t is r) ≡ regions_in f mem t is ++ (finished Finish.Dumped (r + region_reads f u t is) ∷ [])
  unfolding shown regions regions_in region_reads
  regions_shown [] r = rw add-zero refl
  regions_shown (i ∷ is) r =
      let e : List ℕ = entry_of f t i in
      let l : ℕ = length_of f e in
      rw (
        shown_append (chunks v u mem l (base_of f e) l),
        chunks_shown v u z mem l (base_of f e) l (omega arith),
        regions_shown is (r + chunk_count u l),
        append_assoc,
        add_assoc,
      )
      refl

  regions_reads : (is : List ℕ) (r : ℕ) → reads_in (regions v u mem t is r) ≡ region_reads f u t is
  unfolding how_many regions region_reads
  regions_reads [] r = refl
  regions_reads (i ∷ is) r =
      let e : List ℕ = entry_of f t i in
      let l : ℕ = length_of f e in
      rw (
        many_append read_in (chunks v u mem l (base_of f e) l),
        chunks_reads v u z mem l (base_of f e) l (omega arith),
        regions_reads is (r + chunk_count u l),
      )
      (omega arith)

-- ---- opening bytes that come to a memory debug have sent packets that are no memory reads, and image bytes, alone

module _ (u : Opening) (set : List ℕ) (tsize rsize : ℕ) where
  module _ (P : List Report → Type 0) (none : P []) (packet : (q : Request) (l : List Report) → asks q ≡ false → P l → P (sent (bytes_of q) ∷ l))
      (bytes : (p : List ℕ) (l : List Report) → P l → P (image p ∷ l)) where
    heard : (f : ℕ) (s : List ℕ) (dbg : Debug) (r : List ℕ) → (hear u set tsize rsize f s).ending ≡ Debugged dbg r
        → P (hear u set tsize rsize f s).said
    unfolding hear
    heard zero s dbg r h = never dbg r h
    heard (suc f) s dbg r h =
        by_test (ltb (length s) 8) (λ e. never dbg r (rw e at h))
        (λ e.
        by_test (bad_length (length_field s)) (λ m. never dbg r (rw (e, m) at h))
        (λ m.
        by_test (ltb (length s) (length_field s)) (λ i. never dbg r (rw (e, m, i) at h))
        (λ i. by (heard f (drop (length_field s) s) dbg r) e m i (verdict_of u set tsize rsize (take (length_field s) s)) refl)))
      where
        by : ((hear u set tsize rsize f (drop (length_field s) s)).ending ≡ Debugged dbg r
            → P (hear u set tsize rsize f (drop (length_field s) s)).said)
            → ltb (length s) 8 ≡ false → bad_length (length_field s) ≡ false → ltb (length s) (length_field s) ≡ false
            → (v : Result Verdict Refusal) → verdict_of u set tsize rsize (take (length_field s) s) ≡ v → P (hear u set tsize rsize (suc f) s).said
        by ih e m i (Ok (W.Reply q)) z =
            let y : asks q ≡ false = rw z at (sane u set tsize rsize (take (length_field s) s)) in
            rw (e, m, i, z) (packet q _ y (ih (rw (e, m, i, z) at h)))
        by ih e m i (Ok (W.Image x k)) z = rw (e, m, i, z) (bytes (take k (drop x set)) _ (ih (rw (e, m, i, z) at h)))
        by ih e m i (Ok W.Pass) z = rw (e, m, i, z) (ih (rw (e, m, i, z) at h))
        by ih e m i (Ok (W.Finish how)) z = never dbg r (rw (e, m, i, z) at h)
        by ih e m i (Ok (W.Respond c k)) z = no_response dbg r (rw (e, m, i, z) at h)
        by ih e m i (Ok (W.Debug v x k)) z = rw (e, m, i, z) none
        by ih e m i (Err why) z = never dbg r (rw (e, m, i, z) at h)

  module _ (f : ℕ) (s : List ℕ) (dbg : Debug) (r : List ℕ) (h : (hear u set tsize rsize f s).ending ≡ Debugged dbg r) where
    heard_shown : shown (hear u set tsize rsize f s).said ≡ []
    unfolding shown
    heard_shown = heard (λ l. shown l ≡ []) refl (λ q l y e. e) (λ p l e. e) f s dbg r h

    heard_reads : reads_in (hear u set tsize rsize f s).said ≡ 0
    unfolding how_many
    heard_reads = heard (λ l. reads_in l ≡ 0) refl (λ q l y z. rw (asks_read q, y, z) refl) (λ p l z. rw z refl) f s dbg r h

-- ---- the whole report

heard_meant : (c : Setting) (dbg : Debug) (tsize rsize f : ℕ) (s r : List ℕ)
    → (hear c.opening c.set tsize rsize f s).ending ≡ Debugged dbg r
    → Meant c dbg (reports_of c.opening c.mem c.names (hear c.opening c.set tsize rsize f s))
unfolding reports_of dump shown how_many
heard_meant c dbg tsize rsize f s r h =
    let u : Opening = c.opening in
    let z : Chunk (chunk_of u) = chunk_good u in
    let t : List ℕ = table_in c.mem dbg in
    let is : List ℕ = selected_in c.mem c.names dbg in
    let said : List Report = (hear u c.set tsize rsize f s).said in
    record {
      shows = rw (h, shown_append said, heard_shown u c.set tsize rsize f s dbg r h) (regions_shown dbg.width u z c.mem t is 1);
      reads =
          rw (
            h,
            many_append read_in said,
            heard_reads u c.set tsize rsize f s dbg r h,
            asks_read (Q.MemRead dbg.width dbg.address dbg.size),
            regions_reads dbg.width u z c.mem t is 1,
          )
          (omega arith);
    }

-- the plain host's report, where its opening bytes come to a memory debug
pub plain_meant : (c : Setting) (dbg : Debug) (r : List ℕ) → (heard_of c).ending ≡ Debugged dbg r → Meant c dbg (plain c)
unfolding plain hosted
plain_meant c dbg r h =
    by_test (not (well_formed true c.set)) (λ e. never dbg r (rw e at h))
    (λ e.
    by_test (not (well_formed false c.names)) (λ m. never dbg r (rw (e, m) at h))
    (λ m.
    by_test (ltb (length c.out) 48) (λ i. never dbg r (rw (e, m, i) at h))
    (λ i.
    rw (e, m, i)
    (heard_meant c dbg (length c.table) (length c.reply) (length c.bytes) c.bytes r (rw (e, m, i) at h)))))
