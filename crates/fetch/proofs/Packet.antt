-- Packet: a step keeps the invariant. The bytes held and the queue, put together, are the string s that is left of the opening; a step moves bytes
-- from one to the other, and cuts a packet off where the plain host does. Assumes nothing.
use mathlib.Core.Path.{◌≡◌, refl, sym, ap, ◌∙◌}
use mathlib.Core.Logic.{◌⊎◌, inl, inr}
use mathlib.Core.Bool.{true, false, ◌||◌}
use Rattle.base.specs.Choice.{pick}
use mathlib.Core.List.{List, [], ◌∷◌, ◌++◌, append_assoc, append-nil}
use Prim.Native.Nat.{ℕ, ◌+◌, ◌-◌, ◌^◌, ◌≤◌, ◌<◌, min}
use native.Mathlib.Omega.{arith}
use native.Mathlib.Nat.{sub-zero}
use lib.Dec.{eqb, ltb, leb}
use lib.ListN.{length, take, drop, length-append, length-drop, take-append-drop}
use lib.Seq.{take-length, take-take, take-append-le, take-append-add, drop-append-add, length-take-le}
use borrow.Author.Tests.{ltb-true, ltb-false, eqb-true, le-ltb, lt-ltb, lt-leb, leb-true, leb-false}
use Rattle.base.proofs.Ranges.{by_test}
use Rattle.field.proofs.Laws.{le_within}
use Rattle.field.specs.Field.{field_size}
use Rattle.field.specs.declared.Width.{Width}
use Rattle.packet.specs.Packet.{length_field, bad_length}
use Rattle.build.specs.Build.{bytes_of, size_of, front}
use Rattle.build.specs.declared.Request.{Request}
use Rattle.build.specs.declared.Request.TheVariants as Q
use Rattle.verdict.specs.Verdict.{room, verdict_of}
use Rattle.verdict.proofs.Laws.{verdict_window}
use Rattle.verdict.specs.declared.Opening.{Opening}
use Rattle.verdict.specs.declared.Verdict.{Verdict}
use Rattle.verdict.specs.declared.Verdict.TheVariants as W
use Rattle.session.specs.declared.Phase.TheVariants as P
use Rattle.session.specs.declared.Answer.{Answer}
use Rattle.session.specs.declared.Answer.TheVariants as A
use Rattle.session.specs.Outcome.{Outcome, outcome, gives, holding, of_width, reading, filling, ended}
use Rattle.session.specs.PacketPhase.{keep, whole_of, sized_of, packet_of}
use Rattle.session.proofs.Window.{keep_length, keep_same}
use Rattle.session.specs.Limits.{reads_limit, phase_limit}
use Rattle.fetch.specs.Plain.{
  Report,
  sent,
  image,
  finished,
  Debug,
  debug,
  field_in,
  Ending,
  Heard,
  Stopped,
  Responded,
  Debugged,
  stop,
  say,
  hear,
  dump,
  table_in,
  selected_in,
  regions,
  reports_of,
  Setting,
}
use Rattle.fetch.specs.Device.{queued, reports_for}
use Rattle.field.proofs.Laws.{le_same}
use Rattle.fetch.proofs.Ghost.{Ghost}
use Rattle.build.proofs.Laws.{take_front as take-sent}
use Rattle.fetch.proofs.Sent.{length_out, asks, asks_read}
use Rattle.fetch.proofs.Device.{unserved, served_read, Came, no_longer, first_of}
use Rattle.fetch.proofs.Cutting.{Sized, size_ok, Begins, Halts, starts}
use Rattle.fetch.proofs.Verdict.{sane}
use Rattle.fetch.proofs.Invariant.{cost, table_at, to_come, GoodPacket, due_packet, behind, bound_packet, Kept, via}
use Rattle.std.specs.Prelude.{Result, Ok, Err}
use Rattle.refusal.specs.declared.Refusal.{Refusal}
use Rattle.verdict.specs.declared.Finish.{Finish}

none : (l : List ℕ) → length l ≡ 0 → l ≡ []
none [] e = refl
none (x ∷ xs) e = absurd (omega arith)

-- ---- the plain host, one packet on

module _ (u : Opening) (mem : ℕ → ℕ) (names : List ℕ) where
  reports_say : (x : Report) (p : Heard) → reports_of u mem names (say x p) ≡ x ∷ reports_of u mem names p
  unfolding reports_of
  reports_say x p = refl

  pub reports_stop : reports_of u mem names (stop Stopped) ≡ []
  unfolding reports_of dump
  reports_stop = refl

  reports_debug : (dbg : Debug) (t : List ℕ)
      → reports_of u mem names (stop (Debugged dbg t))
      ≡ sent (bytes_of (Q.MemRead dbg.width dbg.address dbg.size))
      ∷ regions dbg.width u mem (table_in mem dbg) (selected_in mem names dbg) 1
  unfolding reports_of dump
  reports_debug dbg t = refl

-- how the opening ends fits the memory debug: it is no ExecuteResp, and where it is a memory debug it is this one, with no byte after it, and the table ends at
-- or below 2^64 or, of 32 bits, 2^32
pub record Fits (dbg : Debug) (en : Ending) : Type 0 where
  pub silent : Responded ≡ en → ⊥
  pub asked : (v : Width) (b m : ℕ) (r : List ℕ) → Debugged (debug v b m) r ≡ en
      → (v ≡ dbg.width) × (b ≡ dbg.address) × (m ≡ dbg.size) × (r ≡ [])
  pub top : dbg.address + dbg.size ≤ 256 ^ field_in dbg

module _ (c : Setting) (dbg : Debug) (en : Ending) (h : ℕ) (w : Ghost) (g : GoodPacket c dbg en h w) where
  abbrev u : Opening
  u = w.session.opening

  -- what is left of the opening bytes, and what the plain host makes of it
  abbrev s : List ℕ
  s = w.back ++ w.queue

  abbrev heard : Heard
  heard = hear u c.set (length w.table) (length w.reply) (length s) s

  abbrev size : ℕ
  size = length_field s

  -- the memory read that the memory debug is answered with
  abbrev read : Request
  read = Q.MemRead dbg.width dbg.address dbg.size

  s_length : length s ≡ h + length w.queue
  s_length = length-append w.back w.queue ∙ ap (λ (i : ℕ). i + length w.queue) g.count

  header_back : 8 ≤ h → length_field w.back ≡ size
  header_back l = le_same 4 4 8 w.back s (omega arith) (sym (take-append-le 8 w.back w.queue (omega (arith, g.count))))

  -- a header that is held is good
  sized_back : 8 ≤ h → Sized size
  sized_back l = size_ok size (rw (header_back l) at (g.sound l))

  held : 8 ≤ h → h < size
  held l = omega (arith, g.part l, header_back l)

  -- the bytes held are less than a packet
  short : Begins u c.set (length w.table) (length w.reply) s → h < size
  short first = by_test (ltb h 8) (λ m. omega (arith, ltb-true h 8 m, first.sized.low)) (λ m. held (ltb-false _ _ m))

  -- where nothing is queued, nothing is due
  pub idle_due : length w.queue ≡ 0 → due_packet c dbg w ≡ []
  idle_due e = go (starts u c.set (length w.table) (length w.reply) s)
    where
      go : Begins u c.set (length w.table) (length w.reply) s ⊎ Halts u c.set (length w.table) (length w.reply) s
          → due_packet c dbg w ≡ []
      go (inl b) = absurd (omega (arith, s_length, b.whole, short b))
      go (inr z) = rw z.heard (reports_stop u c.mem c.names)

  -- ---- the limits: from the eighth byte on, the header in the window is the packet's

  header_window : 8 ≤ h → length_field w.session.window ≡ size
  header_window l =
      let f : take 8 w.session.window ≡ take 8 w.back =
      sym (take-take 8 h w.session.window l) ∙ ap (take 8) g.same ∙ take-take 8 48 w.back (omega arith) in
      le_same 4 4 8 w.session.window w.back (omega arith) f ∙ header_back l

  pub limits : reads_limit w.session || phase_limit (field_size w.session.width) w.session.window (P.Packet h) w.table w.reply ≡ false
  limits =
      by_test (leb 8 h)
      (λ m.
      let l : 8 ≤ h = leb-true _ _ m in
      let i : ltb 4095 h ≡ false = le-ltb 4095 h (omega (arith, held l, (sized_back l).high)) in
      let b : bad_length size ≡ false = rw (header_back l) at (g.sound l) in
      rw (g.reads, i, m, header_window l, b, lt-leb size h (held l)) refl)
      (λ m. let i : ltb 4095 h ≡ false = le-ltb 4095 h (omega (arith, leb-false 8 h m)) in rw (g.reads, i, m) refl)

  -- ---- a step with a delivery

  module _ (d : List ℕ) (v : Came d w.queue) where
    abbrev Keeps : Outcome → Type 0
    Keeps r = Kept c dbg en (due_packet c dbg w) (bound_packet c dbg en w) w d r

    moved : (k : ℕ) → k ≤ length d → w.back ++ take k d ≡ take (h + k) s
    moved k l =
        ap (λ (x : List ℕ). w.back ++ x) (first_of d w.queue k v l) ∙ sym (take-append-add w.back w.queue k)
        ∙ ap (λ (i : ℕ). take (i + k) s) g.count

    together : (k : ℕ) → k ≤ length d → w.back ++ take k d ++ (drop k w.queue ++ []) ≡ s
    together k l = rw (append-nil, append_assoc, first_of d w.queue k v l, take-append-drop) refl

    window_length : (k : ℕ) → length (keep w.session.window h (take k d)) ≡ 48
    window_length k = keep_length w.session.window h (take k d) g.size

    window_same : (k : ℕ) → k ≤ length d → take (h + k) (keep w.session.window h (take k d)) ≡ take 48 (w.back ++ take k d)
    window_same k l =
        ap (λ (i : ℕ). take (h + i) (keep w.session.window h (take k d))) (sym (length-take-le k d l))
        ∙ rw (← g.count) (keep_same w.session.window w.back (take k d) g.size (rw g.count g.same))

    -- the header in the window is the string's
    header : (k : ℕ) → k ≤ length d → 8 ≤ h + k → length_field (keep w.session.window h (take k d)) ≡ size
    header k l y =
        let win : List ℕ = keep w.session.window h (take k d) in
        let f : take 8 win ≡ take 8 s =
        sym (take-take 8 (h + k) win y) ∙ ap (take 8) (window_same k l) ∙ take-take 8 48 (w.back ++ take k d) (omega arith)
        ∙ ap (take 8) (moved k l) ∙ take-take 8 (h + k) s y in
        le_same 4 4 8 win s (omega arith) f

    -- the bytes held afterwards, where a packet is not ended
    back_after : (k : ℕ) → k ≤ length d → pick (eqb (h + k) 0) [] (w.back ++ take k d) ≡ w.back ++ take k d
    back_after k l =
        by_test (eqb (h + k) 0)
        (λ e.
        let n : length (w.back ++ take k d) ≡ h + k = length-append w.back (take k d) ∙ rw (g.count, length-take-le k d l) refl in
        rw e (sym (none (w.back ++ take k d) (n ∙ eqb-true (h + k) 0 e))))
        (λ e. rw e refl)

    -- bytes that end no packet
    part : (k : ℕ) → k ≤ length d → (8 ≤ h + k → (h + k < size) × (bad_length size ≡ false))
        → length (drop k w.queue) + behind c dbg u en ≤ length w.queue + behind c dbg u en - 1
        → Keeps
        (outcome (gives (holding w.session (keep w.session.window h (take k d)) (P.Packet (h + k))) k A.Go) w.table w.reply w.out)
    part k l q f =
        let z = back_after k l in
        record {
          good =
              record {
                out = g.out;
                reads = g.reads;
                size = window_length k;
                count = rw (z, length-append, length-take-le k d l, g.count) refl;
                same = rw z (window_same k l);
                part = λ y. rw (z, moved k l, le_within 4 4 (h + k) s (omega arith)) (q y).0;
                sound = λ y. rw (z, moved k l, le_within 4 4 (h + k) s (omega arith)) (q y).1;
                ends = rw (z, together k l) g.ends;
              };
          told = rw (z, together k l) refl;
          fell = rw (append-nil (drop k w.queue)) f;
        }

    -- ---- a whole packet is there
    module _ (first : Begins u c.set (length w.table) (length w.reply) s) where
      -- the bytes that end the packet
      abbrev k : ℕ
      k = size - h

      -- the window with them, and what stands after the packet
      abbrev win : List ℕ
      win = keep w.session.window h (take k d)

      abbrev rest : List ℕ
      rest = drop size s

      abbrev verdict : Result Verdict Refusal
      verdict = verdict_of u c.set (length w.table) (length w.reply) (take size s)

      to_size : h + k ≡ size
      to_size = omega (arith, short first)

      queue_rest : drop k w.queue ≡ rest
      queue_rest = sym (drop-append-add w.back w.queue k) ∙ rw (g.count, to_size) refl

      -- the window says what the whole packet says
      same_verdict : k ≤ length d → verdict_of u c.set (length w.table) (length w.reply) (take (length_field win) win) ≡ verdict
      same_verdict l =
          let f : take (h + k) win ≡ take 48 (take (h + k) s) = window_same k l ∙ ap (take 48) (moved k l) in
          let e : take size win ≡ take 48 (take size s) = rw to_size at f in
          rw (header k l (omega (arith, to_size, first.sized.low)), e)
          (verdict_window u c.set (length w.table) (length w.reply) (take size s))

      -- what is left of the opening bytes, after the packet
      abbrev after_it : Heard
      after_it = hear u c.set (length w.table) (length w.reply) (length rest) rest

      module _ (l : k ≤ length d) where
        -- a packet after which another is to come: nothing is queued for it, and what it says is reported
        onward : (a : Answer) (o : List ℕ) → 48 ≤ length o → drop k w.queue ++ queued c.mem a o ≡ rest → heard.ending ≡ after_it.ending
            → due_packet c dbg w ≡ reports_for a d c.set o ++ reports_of u c.mem c.names after_it
            → Keeps (outcome (gives (holding w.session win (P.Packet 0)) k a) w.table w.reply o)
        onward a o r z e t =
            record {
              good =
                  record {
                    out = r;
                    reads = g.reads;
                    size = window_length k;
                    count = refl;
                    same = refl;
                    part = λ i. absurd (omega arith);
                    sound = λ i. absurd (omega arith);
                    ends = rw z (sym e ∙ g.ends);
                  };
              told = rw z t;
              fell = rw (z, ← queue_rest, length-drop) (omega (arith, no_longer d w.queue v, short first));
            }

        reply : (q : Request) → verdict ≡ Ok (W.Reply q)
            → Keeps (outcome (gives (holding w.session win (P.Packet 0)) k (A.Send (size_of q))) w.table w.reply (front q w.out))
        reply q e =
            let f : heard ≡ say (sent (bytes_of q)) after_it = first.cut ∙ rw e refl in
            let y : asks q ≡ false = rw e at (sane u c.set (length w.table) (length w.reply) (take size s)) in
            let st : take (size_of q) (front q w.out) ≡ bytes_of q = take-sent q w.out in
            onward (A.Send (size_of q)) (front q w.out) (rw (length_out q w.out g.out) g.out)
            (rw (st, unserved c.mem (bytes_of q) (asks_read q ∙ y), append-nil) queue_rest)
            (ap (λ (o : Heard). o.ending) f)
            (rw (f, st) (reports_say u c.mem c.names (sent (bytes_of q)) after_it))

        show : (x m : ℕ) → verdict ≡ Ok (W.Image x m)
            → Keeps (outcome (gives (holding w.session win (P.Packet 0)) k (A.Image x m)) w.table w.reply w.out)
        show x m e =
            let f : heard ≡ say (image (take m (drop x c.set))) after_it = first.cut ∙ rw e refl in
            onward (A.Image x m) w.out g.out (rw append-nil queue_rest) (ap (λ (o : Heard). o.ending) f)
            (rw f (reports_say u c.mem c.names (image (take m (drop x c.set))) after_it))

        pass : verdict ≡ Ok W.Pass → Keeps (outcome (gives (holding w.session win (P.Packet 0)) k A.Go) w.table w.reply w.out)
        pass e =
            let f : heard ≡ after_it = first.cut ∙ rw e refl in
            onward A.Go w.out g.out (rw append-nil queue_rest) (ap (λ (o : Heard). o.ending) f) (rw f refl)

        -- it ends the session
        finish : (how : Finish) → verdict ≡ Ok (W.Finish how)
            → Keeps (outcome (gives (ended w.session) k (A.Finished how w.session.reads)) w.table w.reply w.out)
        finish how e =
            let f : heard ≡ say (finished how 0) (stop Stopped) = first.cut ∙ rw e refl in
            record {
              good = g.out;
              told = rw (f, g.reads, reports_say, reports_stop) refl;
              fell = omega arith;
            }

        refuse : (why : Refusal) → verdict ≡ Err why
            → Keeps (outcome (gives (ended w.session) k (A.Refused why)) w.table w.reply w.out)
        refuse why e =
            let f : heard ≡ stop Stopped = first.cut ∙ rw e refl in
            record { good = g.out; told = rw f (reports_stop u c.mem c.names); fell = omega arith }

        module _ (fit : Fits dbg en) where
          -- it is the memory debug that the plain host comes to
          debugged : (x : Width) (b m : ℕ) → verdict ≡ Ok (W.Debug x b m) → Debugged (debug x b m) rest ≡ en
          debugged x b m e =
              let f : heard ≡ stop (Debugged (debug x b m) rest) = first.cut ∙ rw e refl in
              ap (λ (o : Heard). o.ending) (sym f) ∙ g.ends

          ask : verdict ≡ Ok (W.Debug dbg.width dbg.address dbg.size)
              → Keeps
              (outcome
              (gives (reading (of_width (holding w.session win w.session.phase) dbg.width) 1 (P.Table (filling dbg.size 0))) k
              (A.Send (size_of read)))
              w.table w.reply (front read w.out))
          ask e =
              let f : heard ≡ stop (Debugged dbg rest) = first.cut ∙ rw e refl in
              let q = debugged dbg.width dbg.address dbg.size e in
              let b : behind c dbg u en ≡ dbg.size + 2 + cost dbg.width u (table_at c dbg) (to_come c dbg dbg.width 0) = rw (← q) refl in
              let y : dbg.size ≤ room (length w.table) = rw e at (sane u c.set (length w.table) (length w.reply) (take size s)) in
              let st : take (size_of read) (front read w.out) ≡ bytes_of read = take-sent read w.out in
              record {
                good =
                    record {
                      out = rw (length_out read w.out g.out) g.out;
                      declared = refl;
                      fits = y;
                      filled = omega arith;
                      table = refl;
                      queue =
                          rw (queue_rest, (fit.asked dbg.width dbg.address dbg.size rest q).3, st)
                          (served_read c.mem dbg.width dbg.address dbg.size fit.top (omega arith));
                      width = refl;
                      reads = refl;
                    };
                told = rw (f, st, sub-zero) (reports_debug u c.mem c.names dbg rest);
                fell = omega (arith, no_longer d w.queue v, short first, b);
              }

          whole : Keeps (whole_of w.session k win c.set w.table w.reply w.out)
          unfolding whole_of
          whole = go verdict refl
            where
              go : (x : Result Verdict Refusal) → verdict ≡ x → Keeps (whole_of w.session k win c.set w.table w.reply w.out)
              go (Ok (W.Reply q)) e = via c dbg en (rw (same_verdict l, e) refl) (reply q e)
              go (Ok (W.Image x m)) e = via c dbg en (rw (same_verdict l, e) refl) (show x m e)
              go (Ok W.Pass) e = via c dbg en (rw (same_verdict l, e) refl) (pass e)
              go (Ok (W.Finish how)) e = via c dbg en (rw (same_verdict l, e) refl) (finish how e)
              go (Ok (W.Respond x m)) e =
                  let f : heard ≡ say (sent (bytes_of (Q.ExecuteData x))) (stop Responded) = first.cut ∙ rw e refl in
                  absurd (fit.silent (ap (λ (o : Heard). o.ending) (sym f) ∙ g.ends))
              go (Ok (W.Debug x b m)) e =
                  let p = fit.asked x b m rest (debugged x b m e) in
                  let f : verdict ≡ Ok (W.Debug dbg.width dbg.address dbg.size) = e ∙ rw (p.0, p.1, p.2) refl in
                  via c dbg en (rw (same_verdict l, f) refl) (ask f)
              go (Err why) e = via c dbg en (rw (same_verdict l, e) refl) (refuse why e)

      some_came : 0 < length d
      some_came = v.some (omega (arith, s_length, first.whole, short first))

      -- bytes that came leave the queue
      fewer : (j : ℕ) → 0 < j → j ≤ length d → length (drop j w.queue) + behind c dbg u en ≤ length w.queue + behind c dbg u en - 1
      fewer j p l = rw length-drop (omega (arith, no_longer d w.queue v))

      module _ (fit : Fits dbg en) where
        body : Keeps (sized_of w.session h d size c.set w.table w.reply w.out)
        unfolding sized_of
        body =
            let b : bad_length size ≡ false = first.good in
            by_test (ltb (h + min k (length d)) size)
            (λ m.
            via c dbg en (rw (b, m) refl)
            (part (min k (length d)) (omega arith) (λ y. (ltb-true _ _ m, b)) (fewer (min k (length d)) (omega (arith, short first, some_came)) (omega arith))))
            (λ m.
            let t : size ≤ h + min k (length d) = ltb-false _ _ m in
            let l : k ≤ length d = omega (arith, short first) in
            let f : min k (length d) ≡ k = omega arith in
            via c dbg en (rw (b, m, f) refl) (whole l fit))

        of_whole : Keeps (packet_of w.session h d c.set w.table w.reply w.out)
        unfolding packet_of
        of_whole =
            by_test (ltb (h + length d) 8)
            (λ m.
            let l : h + length d < 8 = ltb-true _ _ m in
            via c dbg en (rw (m, take-length d) refl)
            (part (length d) (omega arith) (λ y. absurd (omega arith)) (fewer (length d) some_came (omega arith))))
            (λ m.
            let y : 8 ≤ h + length d = ltb-false _ _ m in
            let z : length_field (keep w.session.window h d) ≡ size = rw take-length at (header (length d) (omega arith) y) in
            via c dbg en (rw (m, z) refl) body)

    -- ---- no whole packet is there: the plain host stops
    module _ (z : Halts u c.set (length w.table) (length w.reply) s) where
      stopped : Stopped ≡ en
      stopped = ap (λ (o : Heard). o.ending) (sym z.heard) ∙ g.ends

      nothing_behind : behind c dbg u en ≡ 0
      nothing_behind = rw (← stopped) refl

      -- bytes that came leave the queue, or it is empty
      fewest : (j : ℕ) → (0 < length w.queue → 0 < j) → j ≤ length d
          → length (drop j w.queue) + behind c dbg u en ≤ length w.queue + behind c dbg u en - 1
      fewest j p l =
          by_test (ltb 0 (length w.queue))
          (λ m. rw (nothing_behind, length-drop) (omega (arith, p (ltb-true 0 (length w.queue) m), no_longer d w.queue v)))
          (λ m. rw (nothing_behind, length-drop) (omega (arith, ltb-false 0 (length w.queue) m)))

      here : h + length d ≤ length s
      here = omega (arith, s_length, no_longer d w.queue v)

      bad : Keeps (outcome (gives (ended w.session) (8 - h) (A.Refused Refusal.PacketLength)) w.table w.reply w.out)
      bad = record { good = g.out; told = rw z.heard (reports_stop u c.mem c.names); fell = omega arith }

      cut_short : 8 ≤ h + length d → Keeps (sized_of w.session h d size c.set w.table w.reply w.out)
      unfolding sized_of
      cut_short y =
          by_test (bad_length size) (λ b. via c dbg en (rw b refl) bad)
          (λ b.
          let l : length s < size = z.why (λ i. b) (omega (arith, here)) in
          let n : ℕ = min (size - h) (length d) in
          let m : ltb (h + n) size ≡ true = lt-ltb (h + n) size (omega (arith, here)) in
          via c dbg en (rw (b, m) refl)
          (part n (omega arith) (λ i. (ltb-true _ _ m, b)) (fewest n (λ i. omega (arith, v.some i, here)) (omega arith))))

      of_none : Keeps (packet_of w.session h d c.set w.table w.reply w.out)
      unfolding packet_of
      of_none =
          by_test (ltb (h + length d) 8)
          (λ m.
          let l : h + length d < 8 = ltb-true _ _ m in
          via c dbg en (rw (m, take-length d) refl) (part (length d) (omega arith) (λ y. absurd (omega arith)) (fewest (length d) v.some (omega arith))))
          (λ m.
          let y : 8 ≤ h + length d = ltb-false _ _ m in
          let f : length_field (keep w.session.window h d) ≡ size = rw take-length at (header (length d) (omega arith) y) in
          via c dbg en (rw (m, f) refl) (cut_short y))

    -- ---- any step
    pub packet : Fits dbg en → Keeps (packet_of w.session h d c.set w.table w.reply w.out)
    packet fit = go (starts u c.set (length w.table) (length w.reply) s)
      where
        go : Begins u c.set (length w.table) (length w.reply) s ⊎ Halts u c.set (length w.table) (length w.reply) s
            → Keeps (packet_of w.session h d c.set w.table w.reply w.out)
        go (inl b) = of_whole b fit
        go (inr z) = of_none z
