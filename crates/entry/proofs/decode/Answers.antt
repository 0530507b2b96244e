-- `entry::decode` meets its contract: each field at its place in the table is the field of the entry's bytes, by `number_within` and `part_of_part`.
-- Assumes nothing.
use mathlib.Core.Path.{◌≡◌, refl, sym, ◌∙◌}
use mathlib.Core.List.{List}
use Prim.Native.Nat.{ℕ, ◌+◌, ◌*◌}
use native.Mathlib.Omega.{arith}
use native.Mathlib.Nat.{add-zero, add_assoc}
use lib.ListN.{take, drop}
use Rattle.base.proofs.Lists.{part_of_part}
use Rattle.field.specs.Field.{field_size}
use Rattle.entry.specs.Entry.{entry_size, preference_of, base_of, length_of, description_of, filename_of}
use Rattle.entry.proofs.Laws.{number_within}
use Rattle.entry.proofs.decode.Goals as goal

pub returns : goal.returns
returns c =
    let a = c.args in
    let f : ℕ = field_size a.width in
    let t : List ℕ = a.table.now in
    let e : List ℕ = take (entry_size f) (drop a.at t) in
    let s = c.field_size-f in
    let n1 = c.number_at-save_pref in
    let n2 = c.number_at-base in
    let n3 = c.number_at-len in
    let p : n1.result ≡ preference_of f e = n1.ensures ∙ sym (number_within f 0 (entry_size f) a.at t (omega arith) ∙ rw add-zero refl) in
    let b : n2.result ≡ base_of f e = n2.ensures ∙ rw s.ensures (sym (number_within f f (entry_size f) a.at t (omega arith))) in
    let l : n3.result ≡ length_of f e = n3.ensures ∙ rw s.ensures (sym (number_within f (2 * f) (entry_size f) a.at t (omega arith))) in
    let d : c.text_at-description.result ≡ description_of f e =
    c.text_at-description.ensures ∙ rw s.ensures (sym (part_of_part (3 * f) 20 (entry_size f) a.at t (omega arith))) in
    let g : c.text_at-filename.result ≡ filename_of f e =
    c.text_at-filename.ensures ∙ rw (s.ensures, add_assoc) (sym (part_of_part (3 * f + 20) 20 (entry_size f) a.at t (omega arith))) in
    rw (p, b, l, d, g) refl
