-- 18. Document 01, Refusals, "Step, session and buffers untouched": "18 the reply buffer during a response (its finishing step too), or the table buffer
-- during table, regions and between them, shorter than the declared length, or a session count above its limit". Each phase has its own counts; the
-- memory reads are judged in all. Document 02, request 2: "For such a session the limit of base plus length under 18 is 2^32." f is the width of an entry's
-- numbers: 8 or 4, by the session's width.
use Rattle.std.specs.Prelude.{ℕ, ◌+◌, ◌^◌, Bool, false, not, ◌&&◌, ◌||◌, List, ltb, leb, eqb, length}
use Rattle.field.specs.Field.{field_size}
use Rattle.entry.specs.Entry.{entries_in}
use Rattle.packet.specs.Packet.{length_field, bad_length}
use Rattle.session.specs.declared.Filling.{Filling}
use Rattle.session.specs.declared.Region.{Region}
use Rattle.session.specs.declared.Phase.{Phase}
use Rattle.session.specs.declared.Phase.TheVariants as P
use Rattle.session.specs.declared.Session.{Session}

-- "held packet bytes 4,095 and, from the eighth on, one less than the length in their header, which is 8..4096"
abbrev pub held_limit : List ℕ → ℕ → Bool
held_limit w h = ltb 4095 h || (leb 8 h && (bad_length (length_field w) || leb (length_field w) h))

-- "bytes filled, the declared length"
abbrev pub filling_limit : Filling → List ℕ → Bool
filling_limit x b = ltb (length b) x.declared || ltb x.declared x.filled

-- "done plus outstanding, the region's length; base plus length, 2^64 once anything is done or outstanding; entry number, the table's entries, inside
-- a region one fewer"
-- (in this order: the buffer, the entry, done plus outstanding, the end; 256 ^ f is 2^64 or 2^32)
abbrev pub region_limit : ℕ → ℕ → Region → List ℕ → Bool
region_limit f k x t =
    ltb (length t) k || leb (entries_in f k) x.entry || ltb x.len (x.done + x.outstanding)
    || (not (eqb (x.done + x.outstanding) 0) && ltb (256 ^ f) (x.base + x.len))

-- "memory reads 2^63 + 1", before a step: one for the table, and 1,024 regions (65,536 / 64) of 2^53 chunks each, which is 2^64 bytes divided by 2,048; 1,024 times 2^53
-- is 2^63. 01's bound leaves room for chunks of half of 4,096: with these no run passes 2^62 + 1. (Of 32 bits: 1,260 regions of 2^21 chunks)
abbrev pub reads_limit : Session → Bool
reads_limit s = ltb (2 ^ 63 + 1) s.reads

-- by phase, each with the buffer that it fills or reads: the reply during a response and in its finishing step (Switched), the table in table, between and region
abbrev pub phase_limit : ℕ → List ℕ → Phase → List ℕ → List ℕ → Bool
phase_limit f w (P.Packet h) t y = held_limit w h
phase_limit f w (P.Response x) t y = filling_limit x y
phase_limit f w (P.Switched k) t y = ltb (length y) k
phase_limit f w (P.Table x) t y = filling_limit x t
phase_limit f w (P.Between k i) t y = ltb (length t) k || ltb (entries_in f k) i
phase_limit f w (P.Region k x) t y = region_limit f k x t
phase_limit f w (P.Ended k) t y = false

unfoldable pub limit_of : Session → List ℕ → List ℕ → Bool
limit_of s t y = reads_limit s || phase_limit (field_size s.width) s.window s.phase t y
