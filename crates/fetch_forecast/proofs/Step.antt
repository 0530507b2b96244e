-- One step, whatever it is lent: what was opened, handed out and read so far and what is left come to the same as before. By the branches of a step. The
-- invariant is of any device: the table buffer's bytes alone say what is left. Assumes nothing.
use mathlib.Core.Path.{◌≡◌, refl, sym, ap, subst, ◌∙◌}
use mathlib.Core.Logic.{⊎_elim, ◌⊎◌, inl, inr}
use mathlib.Core.Bool.{Bool, true, false, not, ◌||◌}
use mathlib.Core.List.{List, [], ◌∷◌, map}
use Prim.Native.Nat.{ℕ, suc, ◌+◌, ◌-◌, ◌^◌, ◌≤◌, ◌<◌, min}
use native.Mathlib.Omega.{arith}
use native.Mathlib.Nat.{add-zero, sub-zero}
use borrow.Author.Tests.{ltb-true, ltb-false, leb-true, leb-false, eqb-true}
use lib.Dec.{T, eqb, ltb, leb}
use lib.ListN.{length, take, length-map}
use lib.Seq.{length-take-le}
use Rattle.base.proofs.Tests.{split, differ, neither}
use Rattle.bundle.specs.Bundle.{well_formed}
use Rattle.field.specs.Field.{field_size}
use Rattle.entry.specs.Entry.{entry_of, length_of, filename_of, entries_in, entry_in, entries_from, entries_of}
use Rattle.entry.specs.declared.RamdumpTable64.{RamdumpTable64}
use Rattle.filename.specs.Filename.{open_check, after_open_check}
use Rattle.selection.specs.Selection.{next_of}
use Rattle.packet.specs.Packet.{length_field, bad_length}
use Rattle.build.specs.Build.{size_of, front}
use Rattle.build.specs.declared.Request.TheVariants as Q
use Rattle.verdict.specs.Opening.{chunk_of}
use Rattle.verdict.specs.Verdict.{finish_number, verdict_of}
use Rattle.verdict.specs.declared.Opening.{Opening}
use Rattle.verdict.specs.declared.Verdict.{Verdict}
use Rattle.verdict.specs.declared.Verdict.TheVariants as W
use Rattle.forecast_sums.specs.Forecast.{selected_of, regions_needed, bytes_needed, reads_needed}
use Rattle.session.specs.declared.Filling.{Filling}
use Rattle.session.specs.declared.Region.{Region}
use Rattle.session.specs.declared.Phase.{Phase}
use Rattle.session.specs.declared.Phase.TheVariants as P
use Rattle.session.specs.declared.Session.{Session}
use Rattle.session.specs.declared.Answer.{Answer}
use Rattle.session.specs.declared.Answer.TheVariants as A
use Rattle.session.specs.Outcome.{ended, Outcome, outcome, gives, is_ended}
use Rattle.session.specs.PacketPhase.{keep, acted, whole_of, sized_of, packet_of}
use Rattle.session.specs.FillingPhase.{response_of, switched_of, table_of}
use Rattle.session.specs.BetweenPhase.{open_of, between_of}
use Rattle.session.specs.RegionPhase.{past_end, name_in, asks_for, next_chunk, begun_of, ask_of, hand_of, region_of}
use Rattle.session.specs.Limits.{reads_limit, phase_limit, limit_of}
use Rattle.session.specs.Step.{on_phase, step_of}
use Rattle.fetch.specs.Plain.{chunk_count, chosen}
use Rattle.fetch.specs.Device.{reports_for}
use Rattle.fetch.specs.Claim.{region_bytes, region_reads}
use Rattle.fetch.specs.Meaning.{how_many}
use Rattle.fetch.proofs.Between.{Hit, hit, miss, entry_same}
use Rattle.fetch.proofs.Chunk.{chunk_good, count_none, count_step}
use Rattle.fetch.proofs.Counter.{CalmIn}
use Rattle.fetch.proofs.Ghost.{told_by}
use Rattle.fetch.proofs.Sent.{none_of_bytes}
use Rattle.fetch.proofs.Verdict.{Sane, sane}
use Rattle.fetch_forecast.specs.Claim.{is_opened, is_byte, DecodesIn, Decodes, is_refused}
use Rattle.fetch_forecast.proofs.Counting.{bytes_bytes, selected_chosen, summed_bytes, summed_reads}
use Rattle.std.specs.Prelude.{Result, Ok, Err}
use Rattle.refusal.specs.declared.Refusal.{Refusal}
use Rattle.verdict.specs.declared.Finish.TheVariants as Finish

-- ---- finished (3)

abbrev finishes_three : Answer → Bool
finishes_three A.Go = false
finishes_three (A.Send k) = false
finishes_three (A.Image x k) = false
finishes_three (A.Open i) = false
finishes_three (A.Bytes k) = false
finishes_three A.EmptyRead = false
finishes_three (A.Close i) = false
finishes_three (A.Finished how r) = eqb (finish_number how) 3
finishes_three (A.Refused why) = false

other : {X : Type 0} (a : Answer) → finishes_three a ≡ false → (q : ℕ) → a ≡ A.Finished Finish.Dumped q → X
other a e q h = differ (sym e ∙ ap finishes_three h)

-- ---- sums of what is done, of the open region, and of the regions behind it

none_left : (q a r w : ℕ) → a ≡ 0 → q + (a + r) ≡ w → q + (0 + r) ≡ w
none_left q a r w e h = omega arith

one_less : (q a a' r w : ℕ) → a ≡ suc a' → q + (a + r) ≡ w → suc q + (a' + r) ≡ w
one_less q a a' r w e h = omega arith

moved : (q a b r w : ℕ) → q + (0 + (a + r)) ≡ w → b ≡ a → q + (b + r) ≡ w
moved q a b r w h e = omega arith

-- ---- what is left to be dumped, of the names, with the opening u

module _ (u : Opening) (names : List ℕ) where
  -- the chosen ones of a table of k bytes in the buffer b, from entry i on; and all of them
  abbrev pub rest : ℕ → List ℕ → ℕ → ℕ → List ℕ
  rest f b k i = chosen f names (take k b) (entries_in f k - i) i

  abbrev pub all : ℕ → List ℕ → ℕ → List ℕ
  all f b k = chosen f names (take k b) (entries_in f k) 0

  -- n regions were opened, m bytes handed out, q memory reads sent; left are l bytes and r memory reads of the open region, and the regions of the entries is
  pub record Left (f : ℕ) (b : List ℕ) (k : ℕ) (is : List ℕ) (n m q l r : ℕ) : Type 0 where
    pub regions : n + length is ≡ length (all f b k)
    pub bytes : m + (l + region_bytes f (take k b) is) ≡ region_bytes f (take k b) (all f b k)
    pub reads : q + (r + region_reads f u (take k b) is) ≡ 1 + region_reads f u (take k b) (all f b k)

  abbrev pub LeftIn : ℕ → Phase → List ℕ → ℕ → ℕ → ℕ → Type 0
  LeftIn f (P.Packet h) b n m q = (n ≡ 0) × (m ≡ 0) × (q ≡ 0)
  LeftIn f (P.Response x) b n m q = Unit
  LeftIn f (P.Switched k) b n m q = Unit
  LeftIn f (P.Table x) b n m q = (n ≡ 0) × (m ≡ 0) × (q ≡ 1)
  LeftIn f (P.Between k i) b n m q = Left f b k (rest f b k i) n m q 0 0
  LeftIn f (P.Region k x) b n m q =
      Left f b k (rest f b k (suc x.entry)) n m q (x.len - x.done) (chunk_count u (x.len - (x.done + x.outstanding)))
  LeftIn f (P.Ended k) b n m q = Unit

  -- of a session and its table buffer
  pub record Kept (s : Session) (b : List ℕ) (n m : ℕ) : Type 0 where
    pub opening : s.opening ≡ u
    pub left : LeftIn (field_size s.width) s.phase b n m s.reads

  -- while packets are read, no memory read was sent
  pub calm : (f : ℕ) (p : Phase) (b : List ℕ) (n m q : ℕ) → LeftIn f p b n m q → CalmIn p q
  calm f (P.Packet h) b n m q l = l.2
  calm f (P.Response x) b n m q l = tt
  calm f (P.Switched k) b n m q l = tt
  calm f (P.Table x) b n m q l = tt
  calm f (P.Between k i) b n m q l = tt
  calm f (P.Region k x) b n m q l = tt
  calm f (P.Ended k) b n m q l = tt

  -- the forecast's numbers of a list
  pub record Done (es : List RamdumpTable64) (n m q : ℕ) : Type 0 where
    pub regions : n ≡ regions_needed names es
    pub bytes : m ≡ bytes_needed names es
    pub reads : q ≡ reads_needed (chunk_of u) names es

  -- nothing is left
  all_done : (f : ℕ) (b : List ℕ) (k : ℕ) (es : List RamdumpTable64) (n m q : ℕ) → k ≤ length b → Left f b k [] n m q 0 0
      → entries_of f (take k b) ≡ es → Done es n m q
  unfolding region_bytes region_reads
  all_done f b k es n m q h l e =
      let t : List ℕ = take k b in
      let g : selected_of names es ≡ map (entry_in f t) (all f b k) =
      ap (selected_of names) (sym e) ∙ ap (λ (j : ℕ). selected_of names (entries_from f t (entries_in f j) 0)) (length-take-le k b h)
      ∙ selected_chosen f names t (entries_in f k) 0 in
      record {
        regions = rw (g, length-map) (omega (arith, l.regions));
        bytes = rw (g, summed_bytes f t (all f b k)) (omega (arith, l.bytes));
        reads = rw (g, summed_reads f u t (all f b k)) (omega (arith, l.reads));
      }

  -- ---- a step from s, whose table buffer is b. It is lent the names names' and the table t; put is what becomes of b, by what the step left of t

  module _ (s : Session) (b : List ℕ) (n m : ℕ) (opens : s.opening ≡ u) (d set names' t y o : List ℕ) (put : List ℕ → List ℕ) (stays : put t ≡ b) where
    -- the bytes of the session's numbers
    abbrev pub f : ℕ
    f = field_size s.width

    abbrev pub LentBy : Outcome → Type 0
    LentBy r = T (is_refused r.stepped.answer) ⊎ ((names' ≡ names) × (t ≡ b))

    -- not refused: lent the run's own
    owned : {X : Type 0} → ⊥ ⊎ X → X
    owned h = ⊎_elim (λ e. absurd e) (λ e. e) h

    -- s being in the phase p: what is left is kept; the table stays, or the session ends; and finished (3), which ends it, tells the forecast's numbers of the
    -- table
    pub record Goes (p : Phase) (r : Outcome) : Type 0 where
      pub kept : Kept r.stepped.session (put r.table) (n + how_many is_opened (told_by r d set)) (m + how_many is_byte (told_by r d set))
      pub table : (es : List RamdumpTable64) → DecodesIn f p b es
          → Decodes r.stepped.session (put r.table) es ⊎ T (is_ended r.stepped.session.phase)
      pub last : (q : ℕ) → r.stepped.answer ≡ A.Finished Finish.Dumped q → is_ended r.stepped.session.phase ≡ true
      pub ends : (q : ℕ) → r.stepped.answer ≡ A.Finished Finish.Dumped q → (es : List RamdumpTable64) → DecodesIn f p b es → Done es n m q

    -- nothing is opened or handed out, and it is not finished (3)
    quiet : (p : Phase) (z : Session) (j : ℕ) (a : Answer) (t' y' o' : List ℕ) → how_many is_opened (reports_for a d set o') ≡ 0
        → how_many is_byte (reports_for a d set o') ≡ 0 → z.opening ≡ s.opening
        → LeftIn (field_size z.width) z.phase (put t') n m z.reads → finishes_three a ≡ false
        → ((es : List RamdumpTable64) → DecodesIn f p b es → Decodes z (put t') es ⊎ T (is_ended z.phase))
        → Goes p (outcome (gives z j a) t' y' o')
    quiet p z j a t' y' o' e g h l w x =
        record {
          kept = rw (e, g, add-zero n, add-zero m) (record { opening = h ∙ opens; left = l });
          table = x;
          last = λ q i. other a w q i;
          ends = λ q i es v. other a w q i;
        }

    -- the session stays as it is
    still : (p : Phase) → s.phase ≡ p → LeftIn f p b n m s.reads → (j : ℕ) (a : Answer) → how_many is_opened (reports_for a d set o) ≡ 0
        → how_many is_byte (reports_for a d set o) ≡ 0 → finishes_three a ≡ false → Goes p (outcome (gives s j a) t y o)
    still p e l j a g h w =
        quiet p s j a t y o g h refl (subst (λ (x : Phase). LeftIn f x (put t) n m s.reads) (sym e) (rw stays l)) w
        (λ es x. inl (subst (λ (z : Phase). DecodesIn f z (put t) es) (sym e) (rw stays x)))

    -- it is refused and ends
    over : (p : Phase) (j : ℕ) (why : Refusal) → Goes p (outcome (gives (ended s) j (A.Refused why)) t y o)
    unfolding how_many
    over p j why = quiet p (ended s) j (A.Refused why) t y o refl refl refl tt refl (λ es x. inr tt)

    -- ---- packet

    module _ (h : ℕ) (x : (n ≡ 0) × (m ≡ 0) × (s.reads ≡ 0)) where
      -- any session but one that has its table
      early : (z : Session) (j : ℕ) (a : Answer) (o' : List ℕ) → how_many is_opened (reports_for a d set o') ≡ 0 → how_many is_byte (reports_for a d set o') ≡ 0
          → z.opening ≡ s.opening → LeftIn (field_size z.width) z.phase (put t) n m z.reads → finishes_three a ≡ false
          → Goes (P.Packet h) (outcome (gives z j a) t y o')
      early z j a o' e g i l w = quiet (P.Packet h) z j a t y o' e g i l w (λ es v. absurd v)

      acted_goes : (j : ℕ) (w : List ℕ) (v : Result Verdict Refusal) → Sane set (length t) v → Goes (P.Packet h) (acted s j w t y o v)
      unfolding how_many
      acted_goes j w (Ok (W.Reply q)) e = early _ j (A.Send (size_of q)) (front q o) refl refl refl x refl
      acted_goes j w (Ok (W.Image a k)) e = early _ j (A.Image a k) o refl refl refl x refl
      acted_goes j w (Ok W.Pass) e = early _ j A.Go o refl refl refl x refl
      acted_goes j w (Ok (W.Finish how)) e = early _ j (A.Finished how s.reads) o refl refl refl tt e
      acted_goes j w (Ok (W.Respond c k)) e = early _ j (A.Send (size_of (Q.ExecuteData c))) (front (Q.ExecuteData c) o) refl refl refl tt refl
      acted_goes j w (Ok (W.Debug v a k)) e = early _ j (A.Send (size_of (Q.MemRead v a k))) (front (Q.MemRead v a k) o) refl refl refl (x.0, x.1, refl) refl
      acted_goes j w (Err why) e = early _ j (A.Refused why) o refl refl refl tt refl

      packet_goes : Goes (P.Packet h) (packet_of s h d set t y o)
      unfolding packet_of sized_of whole_of how_many
      packet_goes =
          let w : List ℕ = keep s.window h d in
          let j : ℕ = min (length_field w - h) (length d) in
          let v : List ℕ = keep s.window h (take j d) in
          split (Goes (P.Packet h)) (ltb (h + length d) 8) (λ e. early _ (length d) A.Go o refl refl refl x refl)
          (λ e.
          split (Goes (P.Packet h)) (bad_length (length_field w)) (λ i. early _ (8 - h) (A.Refused Refusal.PacketLength) o refl refl refl tt refl)
          (λ i.
          split (Goes (P.Packet h)) (ltb (h + j) (length_field w)) (λ a. early _ j A.Go o refl refl refl x refl)
          (λ a.
          acted_goes j v (verdict_of s.opening set (length t) (length y) (take (length_field v) v))
          (sane s.opening set (length t) (length y) (take (length_field v) v)))))

    -- ---- a response, which never comes to a table; the table

    response_goes : (x : Filling) → Goes (P.Response x) (response_of s x d t y o)
    unfolding response_of how_many
    response_goes x =
        split (Goes (P.Response x)) (ltb (x.filled + min (x.declared - x.filled) (length d)) x.declared)
        (λ e. quiet (P.Response x) _ _ A.Go t _ o refl refl refl tt refl (λ es v. absurd v))
        (λ e. quiet (P.Response x) _ _ (A.Send (size_of Q.SwitchMode)) t _ _ refl refl refl tt refl (λ es v. absurd v))

    switched_goes : (k : ℕ) → Goes (P.Switched k) (switched_of s k t y o)
    unfolding switched_of how_many
    switched_goes k = quiet (P.Switched k) _ 0 (A.Finished Finish.Reply s.reads) t y o refl refl refl tt refl (λ es v. absurd v)

    module _ (x : Filling) (z : (n ≡ 0) × (m ≡ 0) × (s.reads ≡ 1)) where
      -- with the whole table, all is left
      begins : (b' : List ℕ) (k : ℕ) → Left f b' k (rest f b' k 0) n m s.reads 0 0
      begins b' k =
          record {
            regions = rw sub-zero (omega (arith, z.0));
            bytes = rw sub-zero (omega (arith, z.1));
            reads = rw sub-zero (omega (arith, z.2));
          }

      table_goes : Goes (P.Table x) (table_of s x d t y o)
      unfolding table_of how_many
      table_goes =
          split (Goes (P.Table x)) (ltb (x.filled + min (x.declared - x.filled) (length d)) x.declared)
          (λ e. quiet (P.Table x) _ _ A.Go _ y o refl refl refl z refl (λ es v. absurd v))
          (λ e. quiet (P.Table x) _ _ A.Go _ y o refl refl refl (begins _ x.declared) refl (λ es v. absurd v))

    -- ---- between regions

    module _ (k from : ℕ) (l : Left f b k (rest f b k from) n m s.reads 0 0) (fits : k ≤ length t) (within : from ≤ entries_in f k) where
      abbrev found : ℕ
      found = next_of f names' t (entries_in f k - from) from

      -- lent the run's own names and table
      module _ (own : (names' ≡ names) × (t ≡ b)) where
        found_own : found ≡ next_of f names b (entries_in f k - from) from
        found_own =
            ap (λ (x : List ℕ). next_of f x t (entries_in f k - from) from) own.0 ∙ ap (λ (x : List ℕ). next_of f names x (entries_in f k - from) from) own.1

        fits_own : k ≤ length b
        fits_own = rw own.1 at fits

        -- the first that is left is opened
        opens_left : found < entries_in f k
            → Left f b k (rest f b k (suc found)) (n + 1) m s.reads (length_of f (entry_of f t found)) (chunk_count u (length_of f (entry_of f t found)))
        unfolding region_bytes region_reads
        opens_left h =
            let i : ℕ = next_of f names b (entries_in f k - from) from in
            let e : found ≡ i = found_own in
            let g : from + (entries_in f k - from) ≡ entries_in f k = omega arith in
            let x : Hit f b (take k b) k refl fits_own names (entries_in f k - from) from =
            hit f b (take k b) k refl fits_own names (entries_in f k - from) from (omega (arith, g)) (omega (arith, g, h, e)) in
            let r : rest f b k from ≡ i ∷ rest f b k (suc i) =
            x.first ∙ ap (λ (j : ℕ). i ∷ chosen f names (take k b) (j - suc i) (suc i)) g in
            let a : Left f b k (i ∷ rest f b k (suc i)) n m s.reads 0 0 = subst (λ (is : List ℕ). Left f b k is n m s.reads 0 0) r l in
            let q : length_of f (entry_of f b i) ≡ length_of f (entry_of f (take k b) i) =
            ap (length_of f) (entry_same f b (take k b) k refl fits_own i (omega (arith, h, e))) in
            let z : length_of f (entry_of f t found) ≡ length_of f (entry_of f (take k b) i) =
            ap (λ (x : List ℕ). length_of f (entry_of f x found)) own.1 ∙ ap (λ (j : ℕ). length_of f (entry_of f b j)) e ∙ q in
            subst
            (λ (j : ℕ). Left f b k (rest f b k (suc j)) (n + 1) m s.reads (length_of f (entry_of f t found)) (chunk_count u (length_of f (entry_of f t found))))
            (sym e)
            (record {
              regions = omega (arith, a.regions);
              bytes = moved m (length_of f (entry_of f (take k b) i)) _ (region_bytes f (take k b) (rest f b k (suc i))) _ a.bytes z;
              reads =
                  moved s.reads (chunk_count u (length_of f (entry_of f (take k b) i))) _ (region_reads f u (take k b) (rest f b k (suc i))) _ a.reads
                  (ap (chunk_count u) z);
            })

        -- or none is left
        none_opened : entries_in f k ≤ found → (es : List RamdumpTable64) → entries_of f (take k b) ≡ es → Done es n m s.reads
        none_opened h es e =
            let g : from + (entries_in f k - from) ≡ entries_in f k = omega arith in
            let r : rest f b k from ≡ [] =
            miss f b (take k b) k refl fits_own names (entries_in f k - from) from (omega (arith, g)) (omega (arith, g, h, found_own)) in
            all_done f b k es n m s.reads fits_own (subst (λ (is : List ℕ). Left f b k is n m s.reads 0 0) r l) e

      opening_goes : (c : Result Unit Refusal) → found < entries_in f k → LentBy (outcome (open_of f s k found (entry_of f t found) c) t y o)
          → Goes (P.Between k from) (outcome (open_of f s k found (entry_of f t found) c) t y o)
      unfolding how_many
      opening_goes (Ok tt) h w =
          let x = opens_left (owned w) h in
          record {
            kept =
                rw (add-zero m, stays)
                (record {
                  opening = opens;
                  left = rw sub-zero x;
                });
            table = λ es e. inl (rw stays e);
            last = λ q e. other (A.Open found) refl q e;
            ends = λ q e es v. other (A.Open found) refl q e;
          }
      opening_goes (Err why) h w = over (P.Between k from) 0 why

      between_goes : LentBy (outcome (between_of f s k from names' t) t y o) → Goes (P.Between k from) (outcome (between_of f s k from names' t) t y o)
      unfolding between_of how_many
      between_goes =
          split (λ r. LentBy (outcome r t y o) → Goes (P.Between k from) (outcome r t y o)) (ltb found (entries_in f k))
          (λ e. opening_goes (open_check (filename_of f (entry_of f t found))) (ltb-true _ _ e))
          (λ e w.
          record {
            kept = rw (add-zero n, add-zero m) (record { opening = opens; left = tt });
            table = λ es v. inr tt;
            last = λ q i. refl;
            ends =
                λ q i es v.
                let j : s.reads ≡ q = cc in
                subst (λ (a : ℕ). Done es n m a) j (none_opened (owned w) (ltb-false _ _ e) es v);
          })

    -- ---- a region

    module _ (k : ℕ) (x : Region) (at : s.phase ≡ P.Region k x)
        (l : Left f b k (rest f b k (suc x.entry)) n m s.reads (x.len - x.done) (chunk_count u (x.len - (x.done + x.outstanding))))
        (fits : x.done + x.outstanding ≤ x.len) where
      abbrev p : Phase
      p = P.Region k x

      here : (es : List RamdumpTable64) → entries_of f (take k b) ≡ es → entries_of f (take k (put t)) ≡ es
      here es e = rw stays e

      -- all is handed out
      closes_left : x.len ≤ x.done → Left f b k (rest f b k (suc x.entry)) n m s.reads 0 0
      closes_left h =
          let e : x.len - (x.done + x.outstanding) ≡ 0 = omega arith in
          let g : x.len - x.done ≡ 0 = omega arith in
          record {
            regions = l.regions;
            bytes = none_left m (x.len - x.done) _ _ g l.bytes;
            reads = none_left s.reads (chunk_count u (x.len - (x.done + x.outstanding))) _ _ (ap (chunk_count u) e ∙ count_none u (chunk_good u)) l.reads;
          }

      -- a chunk is asked for
      asks_left : x.outstanding ≡ 0 → x.done < x.len
          → Left f b k (rest f b k (suc x.entry)) n m (suc s.reads) (x.len - x.done) (chunk_count u (x.len - (x.done + asks_for u x)))
      asks_left e h =
          let a : ℕ = x.len - x.done in
          let i : x.len - (x.done + x.outstanding) ≡ a = omega arith in
          let g : a - asks_for u x ≡ x.len - (x.done + asks_for u x) = omega arith in
          record {
            regions = l.regions;
            bytes = l.bytes;
            reads =
                one_less s.reads _ (chunk_count u (x.len - (x.done + asks_for u x))) _ _
                (ap (chunk_count u) i ∙ count_step u (chunk_good u) a (omega arith) ∙ ap (λ (j : ℕ). suc (chunk_count u j)) g) l.reads;
          }

      -- j bytes of those outstanding are handed out
      hands_left : (j : ℕ) → j ≤ x.outstanding
          → Left f b k (rest f b k (suc x.entry)) n (m + j) s.reads (x.len - (x.done + j)) (chunk_count u (x.len - (x.done + j + (x.outstanding - j))))
      hands_left j h =
          let e : x.done + j + (x.outstanding - j) ≡ x.done + x.outstanding = omega arith in
          record { regions = l.regions; bytes = omega (arith, l.bytes); reads = rw e l.reads }

      next_goes : x.outstanding ≡ 0 → Goes p (next_chunk s k x t y o)
      unfolding next_chunk how_many
      next_goes e =
          split (Goes p) (leb x.len x.done)
          (λ i. quiet p _ 0 (A.Close x.entry) t y o refl refl refl (rw stays (closes_left (leb-true _ _ i))) refl (λ es v. inl (here es v)))
          (λ i. quiet p _ 0 (A.Send _) t y _ refl refl refl (rw (stays, opens) (asks_left e (leb-false _ _ i))) refl (λ es v. inl (here es v)))

      begun_goes : x.outstanding ≡ 0 → (c : Result Unit Refusal) → Goes p (begun_of s k x t y o c)
      begun_goes e (Ok tt) =
          split (Goes p) (ltb (256 ^ f) (x.base + x.len)) (λ i. over p 0 (past_end s.width)) (λ i. next_goes e)
      begun_goes e (Err why) = over p 0 why

      ask_goes : x.outstanding ≡ 0 → Goes p (ask_of s k x t y o)
      unfolding ask_of
      ask_goes e = split (Goes p) (eqb x.done 0) (λ i. begun_goes e (after_open_check (name_in s.width t x))) (λ i. next_goes e)

      hand_goes : Goes p (hand_of s k x d t y o)
      unfolding hand_of how_many
      hand_goes =
          let j : ℕ = min x.outstanding (length d) in
          let c : length (take j d) ≡ j = length-take-le j d (omega arith) in
          split (Goes p) (eqb (length d) 0) (λ e. still p at l 0 A.Go refl refl refl)
          (λ e.
          record {
            kept =
                rw (none_of_bytes is_opened (λ b. refl) (take j d), bytes_bytes (take j d), c, add-zero n, stays)
                (record { opening = opens; left = hands_left j (omega arith) });
            table = λ es v. inl (here es v);
            last = λ q i. other (A.Bytes j) refl q i;
            ends = λ q i es v. other (A.Bytes j) refl q i;
          })

      region_goes : Goes p (region_of s k x d t y o)
      unfolding region_of how_many
      region_goes =
          split (Goes p) x.due (λ e. quiet p _ 0 A.EmptyRead t y o refl refl refl (rw stays l) refl (λ es v. inl (here es v)))
          (λ e. split (Goes p) (eqb x.outstanding 0) (λ i. ask_goes (eqb-true _ _ i)) (λ i. hand_goes))

    -- ---- the step

    phase_goes : (p : Phase) → s.phase ≡ p → LeftIn f p b n m s.reads → phase_limit f s.window p t y ≡ false
        → LentBy (on_phase s p d set names' t y o) → Goes p (on_phase s p d set names' t y o)
    unfolding how_many
    phase_goes (P.Packet h) e l g w = packet_goes h l
    phase_goes (P.Response x) e l g w = response_goes x
    phase_goes (P.Switched k) e l g w = switched_goes k
    phase_goes (P.Table x) e l g w = table_goes x l
    phase_goes (P.Between k i) e l g w =
        let q = neither _ _ g in
        between_goes k i l (ltb-false _ _ q.0) (ltb-false _ _ q.1) w
    phase_goes (P.Region k x) e l g w =
        let i : Bool = ltb (length t) k || leb (entries_in f k) x.entry in
        let j : Bool = ltb x.len (x.done + x.outstanding) in
        region_goes k x e l (ltb-false _ _ (neither i j (neither (i || j) _ g).0).1)
    phase_goes (P.Ended k) e l g w = still (P.Ended k) e tt 0 (A.Refused Refusal.Ended) refl refl refl

    module _ (l : LeftIn f s.phase b n m s.reads) where
      untouched_goes : (why : Refusal) → Goes s.phase (outcome (gives s 0 (A.Refused why)) t y o)
      unfolding how_many
      untouched_goes why = still s.phase refl l 0 (A.Refused why) refl refl refl

      pub step_goes : LentBy (step_of s d set names' t y o) → Goes s.phase (step_of s d set names' t y o)
      unfolding step_of limit_of
      step_goes =
          let G : Outcome → Type 0 = λ r. LentBy r → Goes s.phase r in
          split G (not (well_formed true set)) (λ e w. untouched_goes Refusal.ImageSet)
          (λ e.
          split G (not (well_formed false names')) (λ i w. untouched_goes Refusal.NameList)
          (λ i.
          split G (ltb (length o) 48) (λ j w. untouched_goes Refusal.OutBuffer)
          (λ j.
          split G (is_ended s.phase) (λ g w. untouched_goes Refusal.Ended)
          (λ g.
          split G (reads_limit s || phase_limit f s.window s.phase t y) (λ h w. untouched_goes Refusal.Limit)
          (λ h. phase_goes s.phase refl l (neither (reads_limit s) (phase_limit f s.window s.phase t y) h).1)))))
