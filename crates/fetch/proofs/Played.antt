-- What can be computed: lists of steps of any host, own steps with deliveries of one size and lists whose fairness is a test, by induction on the list; and the
-- premises as a test. Assumes nothing.
use mathlib.Core.Path.{◌≡◌, refl}
use mathlib.Core.Logic.{inl, inr}
use mathlib.Core.Bool.{Bool, true, false}
use mathlib.Core.List.{List, [], ◌∷◌}
use Prim.Native.Nat.{ℕ, zero, suc, ◌+◌, ◌/◌, ◌^◌, ◌≤◌}
use native.Mathlib.Omega.{arith}
use lib.Dec.{leb, leb→le, T}
use Rattle.base.specs.Choice.{pick}
use Rattle.base.proofs.Ranges.{both_left, both_right, every, in_range}
use Rattle.base.proofs.Tests.{holds}
use Rattle.entry.specs.Entry.{entry_size, entry_of, base_of, length_of, filename_of}
use Rattle.filename.specs.Filename.{sound}
use Rattle.selection.specs.Selection.{selected}
use Rattle.fetch.specs.Plain.{Debug, field_in, Debugged, table_in, Setting, heard_of}
use Rattle.fetch.specs.Device.{Host, own, Delivery, first, another, Lent, all_own, aside, Delivered, World, made, next, Fair}
use Rattle.fetch.specs.Claim.{Run, owns, Dumpable, Premises}

-- all the run's own, with a delivery
abbrev pub lending : Delivery → Lent
lending d = record { delivery = d; set = own; names = own; table = own; reply = own; out = own }

-- k own steps, each with the first m bytes of the queue
unfoldable pub drive : ℕ → ℕ → List Lent
drive m zero = []
drive m (suc k) = lending (first m) ∷ drive m k

module _ (h : Host) (c : Setting) where
  pub drive_fair : (m k : ℕ) (w : World h.State) → 1 ≤ m → Run h c w (drive m k)
  unfolding drive
  drive_fair m zero w e = tt
  drive_fair m (suc k) w e = (inl (tt, λ l. e), drive_fair m k (next h c w (lending (first m))) e)

  pub drive_owns : (m k : ℕ) (w : World h.State) → owns h c w (drive m k) ≡ k
  unfolding drive
  drive_owns m zero w = refl
  drive_owns m (suc k) w = rw (drive_owns m k (next h c w (lending (first m)))) (omega arith)

  -- ---- fairness as a test

  abbrev some : Delivery → Bool
  some (first k) = leb 1 k
  some (another d) = false

  abbrev fairly : World h.State → Lent → Bool
  fairly w l = pick (pick (all_own l) (some l.delivery) false) true (aside (made h c w l).answer)

  unfoldable pub all_fair : List Lent → World h.State → Bool
  all_fair [] w = true
  all_fair (l ∷ ls) w = pick (fairly w l) (all_fair ls (next h c w l)) false

  some_delivered : (d : Delivery) (q : List ℕ) → T (some d) → Delivered d q
  some_delivered (first k) q e = λ l. leb→le 1 k e
  some_delivered (another d) q e = e

  fair_step : (w : World h.State) (l : Lent) → T (fairly w l) → Fair h c w l
  fair_step w l e = go (pick (all_own l) (some l.delivery) false) refl e
    where
      go : (b : Bool) → pick (all_own l) (some l.delivery) false ≡ b → T (pick b true (aside (made h c w l).answer)) → Fair h c w l
      go true y e =
          let t : T (pick (all_own l) (some l.delivery) false) = rw y tt in
          inl (both_left (all_own l) (some l.delivery) t, some_delivered l.delivery w.queue (both_right (all_own l) (some l.delivery) t))
      go false y e = inr e

  pub played_fair : (ls : List Lent) (w : World h.State) → T (all_fair ls w) → Run h c w ls
  unfolding all_fair
  played_fair [] w e = tt
  played_fair (l ∷ ls) w e =
      let v : World h.State = next h c w l in
      (fair_step w l (both_left (fairly w l) (all_fair ls v) e), played_fair ls v (both_right (fairly w l) (all_fair ls v) e))

-- ---- the premises as a test

-- an entry's region can be dumped, or the entry is not selected; f is the width of its numbers
module _ (f : ℕ) (names : List ℕ) where
  abbrev dumps : List ℕ → Bool
  dumps e = pick (leb (base_of f e + length_of f e) (256 ^ f)) (sound (filename_of f e)) false

  abbrev pub fits : List ℕ → Bool
  fits e = pick (selected f names e) (dumps e) true

  fits_dumpable : (e : List ℕ) → T (fits e) → selected f names e ≡ true → Dumpable f e
  fits_dumpable e h s =
      let t : T (dumps e) = rw s at h in
      record {
        top = leb→le _ _ (both_left (leb (base_of f e + length_of f e) (256 ^ f)) (sound (filename_of f e)) t);
        named = holds (sound (filename_of f e)) (both_right (leb (base_of f e + length_of f e) (256 ^ f)) (sound (filename_of f e)) t);
      }

module _ (c : Setting) (dbg : Debug) where
  abbrev fits_at : ℕ → Bool
  fits_at i = fits (field_in dbg) c.names (entry_of (field_in dbg) (table_in c.mem dbg) i)

  pub tested : (heard_of c).ending ≡ Debugged dbg [] → dbg.address + dbg.size ≤ 256 ^ field_in dbg
      → T (every fits_at 0 (dbg.size / entry_size (field_in dbg)))
      → Premises c dbg
  tested o t e =
      record {
        opens = o;
        top = t;
        regions =
            λ i h s.
            fits_dumpable (field_in dbg) c.names (entry_of (field_in dbg) (table_in c.mem dbg) i)
            (in_range fits_at 0 (dbg.size / entry_size (field_in dbg)) i e (omega arith) (omega arith)) s;
      }
