-- Table: a step keeps the invariant, by the test whether the table is whole. Assumes nothing.
use mathlib.Core.Path.{◌≡◌, refl, sym, ap, ◌∙◌}
use mathlib.Core.Bool.{false, ◌||◌}
use mathlib.Core.List.{List, [], ◌++◌, append-nil}
use Prim.Native.Nat.{ℕ, ◌+◌, ◌-◌, ◌≤◌, ◌<◌, min}
use native.Mathlib.Omega.{arith}
use lib.Dec.{ltb}
use lib.ListN.{length, take, drop, length-drop, drop_of_length-le}
use lib.Seq.{paste, length-paste, take-paste, take-add, take_all, drop-drop}
use borrow.Author.Tests.{ltb-true, ltb-false, le-ltb}
use Rattle.base.proofs.Ranges.{by_test}
use Rattle.field.specs.Field.{field_size}
use Rattle.verdict.specs.Verdict.{room}
use Rattle.session.specs.declared.Filling.{Filling}
use Rattle.session.specs.declared.Phase.TheVariants as P
use Rattle.session.specs.declared.Answer.TheVariants as A
use Rattle.session.specs.Outcome.{Outcome, outcome, gives, in_phase, filling}
use Rattle.session.specs.FillingPhase.{table_of}
use Rattle.session.specs.Limits.{reads_limit, phase_limit}
use Rattle.fetch.specs.Plain.{Debug, Ending, Setting}
use Rattle.fetch.proofs.Ghost.{Ghost}
use Rattle.fetch.proofs.Device.{length_bytes_at, Came, first_of}
use Rattle.fetch.proofs.Invariant.{table_at, GoodTable, due_table, bound_table, Kept, via}

module _ (c : Setting) (dbg : Debug) (en : Ending) (x : Filling) (w : Ghost) (g : GoodTable c dbg x w) where
  abbrev t : List ℕ
  t = table_at c dbg

  abbrev f : ℕ
  f = x.filled

  queue_length : length w.queue ≡ dbg.size - f
  queue_length = ap length g.queue ∙ length-drop f t ∙ ap (λ (i : ℕ). i - f) (length_bytes_at c.mem dbg.address dbg.size)

  pub limits : (reads_limit w.session || phase_limit (field_size w.session.width) w.session.window (P.Table x) w.table w.reply) ≡ false
  limits =
      rw (
        g.reads,
        g.declared,
        le-ltb (length w.table) dbg.size (omega (arith, g.fits)),
        le-ltb dbg.size f g.filled,
      )
      refl

  -- ---- a step with a delivery

  module _ (d : List ℕ) (v : Came d w.queue) where
    abbrev Keeps : Outcome → Type 0
    Keeps r = Kept c dbg en (due_table c dbg w) (bound_table c dbg x w) w d r

    -- the bytes that a step takes
    abbrev k : ℕ
    k = min (dbg.size - f) (length d)

    -- the table buffer holds k bytes more of the table
    filled_more : take (f + k) (paste w.table f d k) ≡ take (f + k) t
    filled_more =
        let b : take k d ≡ take k (drop f t) = first_of d w.queue k v (omega arith) ∙ ap (take k) g.queue in
        rw (take-paste w.table f d k (omega arith) (omega arith), g.table, b, take-add f k t) refl

    fits_still : dbg.size ≤ room (length (paste w.table f d k))
    fits_still = rw (length-paste w.table f d k (omega arith) (omega arith)) g.fits

    queue_left : drop k w.queue ++ [] ≡ drop (f + k) t
    queue_left = rw (append-nil, g.queue, drop-drop) refl

    more : f + k < dbg.size
        → Keeps (outcome (gives (in_phase w.session (P.Table (filling dbg.size (f + k)))) k A.Go) (paste w.table f d k) w.reply w.out)
    more h =
        let y : 0 < length d = v.some (omega (arith, queue_length)) in
        record {
          good =
              record {
                out = g.out;
                declared = refl;
                fits = fits_still;
                filled = omega arith;
                table = filled_more;
                queue = queue_left;
                width = g.width;
                reads = g.reads;
              };
          told = refl;
          fell = omega arith;
        }

    all : dbg.size ≤ f + k → Keeps (outcome (gives (in_phase w.session (P.Between dbg.size 0)) k A.Go) (paste w.table f d k) w.reply w.out)
    all h =
        let e : f + k ≡ dbg.size = omega arith in
        let l : length t ≤ dbg.size = omega (arith, length_bytes_at c.mem dbg.address dbg.size) in
        record {
          good =
              record {
                out = g.out;
                declared = refl;
                fits = fits_still;
                table = ap (λ (i : ℕ). take i (paste w.table f d k)) (sym e) ∙ filled_more ∙ rw e (take_all dbg.size t l);
                queue = queue_left ∙ rw e (drop_of_length-le t l);
                width = g.width;
                entry = omega arith;
                reads = omega (arith, g.reads);
              };
          told = rw g.reads refl;
          fell = omega arith;
        }

    pub table : Keeps (table_of w.session x d w.table w.reply w.out)
    unfolding table_of
    table =
        by_test (ltb (f + k) dbg.size) (λ m. via c dbg en (rw (g.declared, m) refl) (more (ltb-true _ _ m)))
        (λ m. via c dbg en (rw (g.declared, m) refl) (all (ltb-false _ _ m)))
